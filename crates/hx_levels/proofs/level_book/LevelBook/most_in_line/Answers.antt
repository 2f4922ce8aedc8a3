use Rattle.std.proofs.Common.{rules, ◌≡◌, ℕ, ◌<◌, max, true, length, Some, sym, ◌∙◌, subst}
use Rattle.std.specs.Option.{IfSome}
use Rattle.std.specs.Ordering.{ord_max, nat_cmp}
use Rattle.hx_book.specs.declared.order.Live.{Live}
use Rattle.hx_book.specs.Lists.{head_of, after_first}
use Rattle.hx_book.specs.Book.{is_under, has_key}
use Rattle.hx_levels.specs.LevelBook.{keys_of, line}
use Rattle.hx_levels.proofs.LevelNext.{some_found}
use Rattle.hx_levels.proofs.Lines.{from_next, IsBounded, head_has, after_has, bounded_first, bounded_next, fewer_left}
use Rattle.hx_levels.proofs.level_book.LevelBook.most_in_line.Goals as goal

-- the greater of two numbers, as the code takes it
greater : (a b m : ℕ) → m ≡ ord_max nat_cmp a b → m ≡ max a b
greater a b m e = e ∙ search rules

pub line-init : goal.line-init
line-init c =
    let queued = line c.args.at c.args.shown c.args.self.now.orders in
    record {
      keys = c.first_in_line-next.ensures.keys;
      next = subst (λ o. IfSome o (λ key. has_key key queued ≡ true)) (sym c.first_in_line-next.ensures.first) (head_has queued);
      bounded = subst (λ o. IsBounded 0 o queued) (sym c.first_in_line-next.ensures.first) (bounded_first queued);
    }

pub line-smaller : goal.line-smaller
line-smaller c =
    let queued = line c.args.at c.args.shown c.args.self.now.orders in
    let key = c.in-Some.key in
    let here : c.line.next ≡ Some key = sym c.get.ensures ∙ c.in-Some.is in
    let has : has_key key queued ≡ true = subst (λ o. IfSome o (λ k. has_key k queued ≡ true)) here c.line.invariant.next in
    let f = some_found key queued has in
    subst (λ o. length (from_next o queued) < length (from_next c.line.next queued)) (sym c.step_in_line-shares.ensures.next)
    (subst (λ o. length (from_next (head_of (keys_of (after_first (is_under key) queued))) queued) < length (from_next o queued)) (sym here)
    (fewer_left key f.0 queued c.line.invariant.keys f.1))

pub line-preserved : goal.line-preserved
line-preserved c =
    let queued = line c.args.at c.args.shown c.args.self.now.orders in
    let key = c.in-Some.key in
    let here : c.line.next ≡ Some key = sym c.get.ensures ∙ c.in-Some.is in
    let has : has_key key queued ≡ true = subst (λ o. IfSome o (λ k. has_key k queued ≡ true)) here c.line.invariant.next in
    let f = some_found key queued has in
    let shares = c.step_in_line-shares.result.0 in
    let same : shares ≡ f.0.order.shares = subst (λ o. IfSome o (λ (live : Live). shares ≡ live.order.shares)) f.1 c.step_in_line-shares.ensures.shares in
    record {
      keys = c.line.invariant.keys;
      next = subst (λ o. IfSome o (λ k. has_key k queued ≡ true)) (sym c.step_in_line-shares.ensures.next) (after_has (is_under key) queued);
      bounded = subst (λ m. IsBounded m c.step_in_line-shares.result.1 queued) (sym (greater c.line.most shares c.max-most.result c.max-most.ensures))
          (subst (λ o. IsBounded (max c.line.most shares) o queued) (sym c.step_in_line-shares.ensures.next)
          (bounded_next c.line.most shares key f.0 queued c.line.invariant.keys f.1 same (subst (λ o. IsBounded c.line.most o queued) here c.line.invariant.bounded)));
    }
