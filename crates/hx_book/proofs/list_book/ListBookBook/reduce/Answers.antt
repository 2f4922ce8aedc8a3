use Rattle.std.proofs.Common.{◌≡◌, sym, ap, ◌∙◌, subst, set}
use Rattle.hx_book.specs.declared.order.Live.{Live}
use Rattle.hx_book.specs.Book.{has_key, KeysDiffer, reduced, with_less, IsIndex}
use Rattle.hx_book.proofs.Keys.{has_key-reduced, differ-reduced}
use Rattle.hx_book.proofs.list_book.ListBookBook.reduce.Goals as goal

pub invariant_of-self : goal.invariant_of-self
invariant_of-self c =
    let xs = c.self.inside.entries.items in
    let live = c.index_mut-live.result.now in
    let by = c.args.by in
    let p : IsIndex c.args.key.0 xs c.in-Some.index = subst (λ l. IsIndex c.args.key.0 l c.in-Some.index) c.deref.ensures.value c.in-Some.ensures in
    let e : set xs c.in-Some.index (record live { order = with_less by live.order }) ≡ reduced c.args.key.0 by xs =
    ap (λ (l : Live). set xs c.in-Some.index (record l { order = with_less by l.order })) c.index_mut-live.ensures.value ∙ p.reduced live by in
    record {
      differ = subst KeysDiffer (sym e) (differ-reduced c.args.key.0 by xs c.self.invariant.differ);
      used = λ key. ap (has_key key) e ∙ has_key-reduced c.args.key.0 key by xs ∙ c.self.invariant.used key;
      room = c.self.invariant.room;
    }
