use Rattle.std.proofs.Common.{◌≡◌, ℕ, ◌++◌, ◌∷◌, [], ◌||◌, Bool, true, false, Some, eqb, List, sym, ap, ◌∙◌, subst, refl, eqb-true}
use Rattle.std.specs.Option.{is_some}
use Rattle.std.proofs.lemmas.Bool.{true≢false, or_right, eqb-false}
use Rattle.slab.specs.Slab.{Slab, get, Updates}
use Rattle.hx_book.specs.declared.order.Live.{Live}
use Rattle.hx_book.specs.Book.{has_key, is_under, KeysDiffer}
use Rattle.hx_book.proofs.Keys.{has_key-push, differ-push}
use Rattle.hx_book.proofs.list_book.ListBookBook.add.Goals as goal

used_after : (old new : Slab Bool) (xs : List Live) (x : Live) → ((key : ℕ) → has_key key xs ≡ is_some (get old key))
    → Updates old new x.key.0 (Some true) → (key : ℕ) → has_key key (xs ++ x ∷ []) ≡ is_some (get new key)
used_after old new xs x u w key = at (eqb x.key.0 key) refl
  where
    at : (b : Bool) → eqb x.key.0 key ≡ b → has_key key (xs ++ x ∷ []) ≡ is_some (get new key)
    at true e = has_key-push key xs x ∙ or_right (has_key key xs) (is_under key x) e ∙ sym (ap (λ k. is_some (get new k)) (sym (eqb-true x.key.0 key e)) ∙ ap is_some w.changed)
    at false e = has_key-push key xs x ∙ ap (λ b. has_key key xs || b) e ∙ drop_false (has_key key xs) ∙ u key ∙ ap is_some (sym (w.others key (λ h. eqb-false x.key.0 key e (sym h))))
      where
        drop_false : (b : Bool) → (b || false) ≡ b
        drop_false true = refl
        drop_false false = refl

pub invariant_of-self : goal.invariant_of-self
invariant_of-self c =
    let xs = c.self.inside.entries.items in
    let x : Live = record { key = record { 0 = c.insert_reserved.result }; order = c.args.order } in
    let fresh : has_key x.key.0 xs ≡ false = c.self.invariant.used x.key.0 ∙ ap is_some c.insert_reserved.ensures.was_vacant in
    record {
      differ = subst KeysDiffer (sym c.push_reserved.ensures.items) (differ-push xs x c.self.invariant.differ fresh);
      used = λ key. ap (has_key key) c.push_reserved.ensures.items ∙ used_after c.self.inside.keys c.insert_reserved.new.self xs x c.self.invariant.used c.insert_reserved.ensures.updates key;
      room = λ h. absurd (true≢false (sym h));
    }
