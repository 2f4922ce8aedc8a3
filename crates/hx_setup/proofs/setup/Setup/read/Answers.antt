use Rattle.std.proofs.Common.{ℕ, List, ◌++◌, sym, ap, ◌∙◌, subst, arith}
use Rattle.std.proofs.lemmas.List.{append-nil}
use Rattle.hx_setup.specs.SetupText.{HasText, setup_text, text_of}
use Rattle.hx_setup.proofs.WholeSetups.{has_text}
use Rattle.hx_setup.proofs.SetupLines.{lines_of, read_text}
use Rattle.hx_setup.proofs.BadLines.{bad_first, bad_second, bad_third, bad_after, none_there, some_there, no_text, some_text}
use Rattle.hx_setup.proofs.setup.Setup.read.Goals as goal
use Rattle.hx_setup.proofs.setup.Setup.read.Goals.{then-is_empty-2-via-then-is_empty-2, then-is_empty-2-via-else-is_empty-2+then-not-is_empty}

pub returns-in_default-clause-err : goal.returns-in_default-clause-err
returns-in_default-clause-err c = bad_first c.args.text.now c.in_default.ensures.none

pub returns-in_default-next_start-clause-err : goal.returns-in_default-next_start-clause-err
returns-in_default-next_start-clause-err c = bad_second c.args.text.now c.in-Some.first.1.now c.in-Some.first.0 c.in-Some.ensures.some c.in_default-next_start.ensures.none

pub returns-then-is_empty-clause-err : goal.returns-then-is_empty-clause-err
returns-then-is_empty-clause-err c =
    bad_third c.args.text.now c.in-Some.first.1.now c.in-Some-next_start.rest.now c.in_ok-stocks.rest.now c.in-Some.first.0 c.in-Some-next_start.start_open c.in_ok-stocks.stocks.items
    c.in-Some.ensures.some c.in-Some-next_start.ensures.some c.in_ok-stocks.ensures (omega (arith, none_there _ c.if-is_empty.ensures, c.in_ok-stocks.stocks.ok.0))

pub returns-then-is_empty-2-clause-err : goal.returns-then-is_empty-2-clause-err
returns-then-is_empty-2-clause-err c =
    bad_after c.args.text.now c.in-Some.first.1.now c.in-Some-next_start.rest.now c.in_ok-stocks.rest.now c.in_ok-members.rest.now c.in-Some.first.0 c.in-Some-next_start.start_open c.in_ok-stocks.stocks.items c.in_ok-members.members.items _
    c.in-Some.ensures.some c.in-Some-next_start.ensures.some c.in_ok-stocks.ensures c.in_ok-members.ensures
    (omega (arith, some_there _ c.if-is_empty.ensures, c.in_ok-stocks.stocks.ok.0))
    (λ empty some.
    elim c.then-is_empty-2.branch [
      | then-is_empty-2-via-then-is_empty-2 w ↦ omega (arith, some, none_there _ w.if-is_empty-2.ensures, c.in_ok-members.members.ok.0)
      | then-is_empty-2-via-else-is_empty-2+then-not-is_empty w ↦ some_text c.in_ok-members.rest.now w.if-not-is_empty.ensures empty
    ])
    (omega (arith, c.len.ensures, c.len-then-is_empty-2.ensures, c.in_ok-stocks.stocks.ok.0, c.in_ok-members.members.ok.0))

pub of-requires : goal.of-requires
of-requires c =
    (has_text c.in-Some.first.0 c.in-Some-next_start.start_open c.in_ok-stocks.stocks.items c.in_ok-members.members.items c.in-Some.ensures.some.has c.in_ok-stocks.ensures.are c.in_ok-members.ensures.are
    (omega (arith, some_there _ c.if-is_empty.ensures, c.in_ok-stocks.stocks.ok.0)) (omega (arith, some_there _ c.if-is_empty-2.ensures, c.in_ok-members.members.ok.0))).is_setup

pub returns-clause-ok : goal.returns-clause-ok
returns-clause-ok c =
    let stocks = c.in_ok-stocks.stocks.items in
    let members = c.in_ok-members.members.items in
    let lines = lines_of c.in-Some.first.0 c.in-Some-next_start.start_open stocks members in
    let has = has_text c.in-Some.first.0 c.in-Some-next_start.start_open stocks members c.in-Some.ensures.some.has c.in_ok-stocks.ensures.are c.in_ok-members.ensures.are
    (omega (arith, some_there _ c.if-is_empty.ensures, c.in_ok-stocks.stocks.ok.0)) (omega (arith, some_there _ c.if-is_empty-2.ensures, c.in_ok-members.members.ok.0)) in
    let text = read_text c.args.text.now c.in-Some.first.1.now c.in-Some-next_start.rest.now c.in_ok-stocks.rest.now c.in_ok-members.rest.now c.in-Some.first.0 c.in-Some-next_start.start_open stocks members
    c.in-Some.ensures.some c.in-Some-next_start.ensures.some c.in_ok-stocks.ensures.of_text c.in_ok-members.ensures.of_text in (
      subst HasText (sym c.in_ok-of.ensures) has,
      text ∙ ap (λ (l : List ℕ). text_of lines ++ l) (no_text c.in_ok-members.rest.now c.if-not-is_empty.ensures) ∙ append-nil (text_of lines) ∙ ap setup_text (sym c.in_ok-of.ensures),
    )
