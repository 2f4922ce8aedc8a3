use Rattle.std.proofs.Common.{◌≡◌, ℕ, ◌<◌, Bool, true, false, Option, Some, None, List, sym, ap, ◌∙◌, subst, refl, arith, eqb, eqb-true}
use Rattle.std.specs.Option.{is_some, MatchOption, option_map}
use Rattle.std.specs.Vec.{vec_len, vec_capacity}
use Rattle.std.proofs.lemmas.Bool.{eqb-false}
use Rattle.std.proofs.lemmas.Option.{slice_get-get_or}
use Rattle.slab.specs.Slab.{Slab, get, Updates}
use Rattle.hx_book.specs.declared.order.Live.{Live}
use Rattle.hx_book.specs.Lists.{drop_first}
use Rattle.hx_book.specs.Book.{has_key, is_under, KeysDiffer, IsIndex, order_of}
use Rattle.hx_book.proofs.Keys.{has_key-other, has_key-dropped, differ-dropped}
use Rattle.hx_book.proofs.list_book.ListBookBook.remove.Goals as goal

used_after : (old new : Slab Bool) (xs : List Live) (key : ℕ) → KeysDiffer xs → ((k : ℕ) → has_key k xs ≡ is_some (get old k)) → Updates old new key None
    → (k : ℕ) → has_key k (drop_first (is_under key) xs) ≡ is_some (get new k)
used_after old new xs key d u w k = at (eqb k key) refl
  where
    at : (b : Bool) → eqb k key ≡ b → has_key k (drop_first (is_under key) xs) ≡ is_some (get new k)
    at true e = let h : k ≡ key = eqb-true k key e in
        ap (λ n. has_key n (drop_first (is_under key) xs)) h ∙ has_key-dropped key xs d ∙ sym (ap (λ n. is_some (get new n)) h ∙ ap is_some w.changed)
    at false e = has_key-other key k xs e ∙ u k ∙ ap is_some (sym (w.others k (eqb-false k key e)))

pub invariant_of-self : goal.invariant_of-self
invariant_of-self c =
    let xs = c.self.inside.entries.items in
    let M : Option ℕ → Type 0 = λ o. MatchOption o (has_key c.args.key.0 xs ≡ false) (IsIndex c.args.key.0 xs) in
    let m : M c.index_of.result = subst (λ l. MatchOption c.index_of.result (has_key c.args.key.0 l ≡ false) (IsIndex c.args.key.0 l)) c.deref.ensures.value c.index_of.ensures in
    let p : IsIndex c.args.key.0 xs c.unwrap-index.result = subst M c.unwrap-index.ensures m in
    let e : c.remove-live.new.self.items ≡ drop_first (is_under c.args.key.0) xs = c.remove-live.ensures.items ∙ p.without in
    record {
      differ = subst KeysDiffer (sym e) (differ-dropped c.args.key.0 xs c.self.invariant.differ);
      used = λ k. ap (has_key k) e ∙ used_after c.self.inside.keys c.remove.new.self xs c.args.key.0 c.self.invariant.differ c.self.invariant.used c.remove.ensures.updates k;
      room = λ h. ((let l : vec_len c.remove-live.new.self < vec_capacity c.remove-live.new.self = (let a = c.self.invariant.room h in omega arith) in l), c.remove.ensures.room);
    }

pub returns-clause-was : goal.returns-clause-was
returns-clause-was c =
    let xs = c.self.inside.entries.items in
    let M : Option ℕ → Type 0 = λ o. MatchOption o (has_key c.args.key.0 xs ≡ false) (IsIndex c.args.key.0 xs) in
    let m : M c.index_of.result = subst (λ l. MatchOption c.index_of.result (has_key c.args.key.0 l ≡ false) (IsIndex c.args.key.0 l)) c.deref.ensures.value c.index_of.ensures in
    let p : IsIndex c.args.key.0 xs c.unwrap-index.result = subst M c.unwrap-index.ensures m in
    let live = c.remove-live.result in
    ap (λ v. order_of c.args.key.0 v.orders) (sym c.self.view_is)
    ∙ ap (option_map (λ x. x.order)) (sym p.found ∙ slice_get-get_or xs c.unwrap-index.result live p.in_range ∙ ap Some (sym c.remove-live.ensures.value))
