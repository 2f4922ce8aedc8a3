use Rattle.std.proofs.Common.{◌≡◌, ◌<◌, ◌++◌, ℕ, List, [], length, sym, ap, subst, ◌∙◌, arith}
use Rattle.std.proofs.KnownBytes.{Consumes-nil}
use Rattle.std.proofs.lemmas.Bool.{eqb-true, eqb-false}
use Rattle.hx_show.specs.Lines.{shown_line}
use Rattle.hx_show.specs.Showing.{IsCut}
use Rattle.hx_show.proofs.Texts.{on_err, shows_read, shows_unwritten, shows_front, shows_all, shows_last, so_far_line}
use Rattle.hx_show.proofs.showing.show.Goals as goal

pub returns-in_err-read_line-clause-err : goal.returns-in_err-read_line-clause-err
returns-in_err-read_line-clause-err g c =
    let part = c.in_err-read_line.ensures.err in
    on_err _ _ (shows_read c.args.choice _ _ _ _ _ part.0 c.loop.invariant part.1)

pub returns-in_err-show_line-clause-err : goal.returns-in_err-show_line-clause-err
returns-in_err-show_line-clause-err g c = on_err _ _ (shows_unwritten c.args.choice _ _ _ _ _ _ c.loop.invariant c.in_ok-read_line.ensures.ok)

pub returns-clause-err : goal.returns-clause-err
returns-clause-err g c = shows_read c.args.choice _ _ _ _ _ [] c.loop.invariant (Consumes-nil _)

pub returns-then-is_empty-clause-ok : goal.returns-then-is_empty-clause-ok
returns-then-is_empty-clause-ok g c =
    let empty : c.read_line.new.line.len ≡ 0 = eqb-true c.read_line.new.line.len 0 (sym c.is_empty.ensures ∙ c.if-is_empty.true) in
    let none : length c.read_line.new.line.items ≡ 0 = omega (arith, empty, c.read_line.new.line.ok) in
    shows_all c.args.choice _ _ _ _ _ c.read_line.new.line.items c.loop.invariant c.in_ok-read_line.ensures.ok none

pub returns-in_err-write_whole-clause-err : goal.returns-in_err-write_whole-clause-err
returns-in_err-write_whole-clause-err g c =
    let line = c.read_line.new.line.items in
    let front = c.without_feed-fed.result.0.now in
    let words = c.deref-in-loop.result.now in
    let cut = subst (λ (l : List ℕ). IsCut l front c.without_feed-fed.result.1) c.deref.ensures.value c.without_feed-fed.ensures in
    let is : words ≡ shown_line c.args.choice front = c.deref-in-loop.ensures.value ∙ c.in_ok-show_line.ensures ∙ ap (λ (x : List ℕ). x ++ shown_line c.args.choice front) c.clear.ensures.items in
    let filled : c.read_line.new.line.len ≡ 0 → ⊥ = eqb-false c.read_line.new.line.len 0 (sym c.is_empty.ensures ∙ c.if-is_empty.false) in
    let some : 0 < length line = omega (arith, filled, c.read_line.new.line.ok) in
    let rest = c.in_err-write_whole.ensures.err in
    on_err _ _ (shows_front c.args.choice _ _ _ _ _ _ line front c.without_feed-fed.result.1 words rest.0 c.loop.invariant c.in_ok-read_line.ensures.ok cut some is rest.1)

pub returns-then-not-fed-clause-ok : goal.returns-then-not-fed-clause-ok
returns-then-not-fed-clause-ok g c =
    let line = c.read_line.new.line.items in
    let front = c.without_feed-fed.result.0.now in
    let words = c.deref-in-loop.result.now in
    let cut = subst (λ (l : List ℕ). IsCut l front c.without_feed-fed.result.1) c.deref.ensures.value c.without_feed-fed.ensures in
    let is : words ≡ shown_line c.args.choice front = c.deref-in-loop.ensures.value ∙ c.in_ok-show_line.ensures ∙ ap (λ (x : List ℕ). x ++ shown_line c.args.choice front) c.clear.ensures.items in
    let filled : c.read_line.new.line.len ≡ 0 → ⊥ = eqb-false c.read_line.new.line.len 0 (sym c.is_empty.ensures ∙ c.if-is_empty.false) in
    let some : 0 < length line = omega (arith, filled, c.read_line.new.line.ok) in
    let last = subst (IsCut line front) c.if-not-fed.true cut in
    shows_last c.args.choice _ _ _ _ _ _ line front words c.loop.invariant c.in_ok-read_line.ensures.ok last some is c.in_ok-write_whole.ensures.ok

pub loop-preserved : goal.loop-preserved
loop-preserved g c =
    let line = c.read_line.new.line.items in
    let front = c.without_feed-fed.result.0.now in
    let words = c.deref-in-loop.result.now in
    let cut = subst (λ (l : List ℕ). IsCut l front c.without_feed-fed.result.1) c.deref.ensures.value c.without_feed-fed.ensures in
    let is : words ≡ shown_line c.args.choice front = c.deref-in-loop.ensures.value ∙ c.in_ok-show_line.ensures ∙ ap (λ (x : List ℕ). x ++ shown_line c.args.choice front) c.clear.ensures.items in
    let whole = subst (IsCut line front) c.if-not-fed.false cut in
    so_far_line c.args.choice _ _ _ _ _ _ line front words c.loop.invariant c.in_ok-read_line.ensures.ok whole is c.in_ok-write_whole.ensures.ok
