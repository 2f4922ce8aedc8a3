use Rattle.std.proofs.Common.{◌≡◌, ◌∷◌, [], ◌++◌, ℕ, List, Option, None, Some, ap, ◌∙◌}
use Rattle.std.specs.Prelude.{IfSome}
use mathlib.Core.List.{IsPrefix}
use Rattle.hx_journal.specs.Lines.{lines_of}
use Rattle.hx_journal.specs.Heads.{IsWord, head_of, HasNoHead}
use Rattle.hx_journal.proofs.Heading.{if_none, none_so}
use Rattle.hx_journal.proofs.Fronts.{head_first, first_alone, none_alone}
use Rattle.hx_journal.proofs.surveying.first_head.Goals as goal

-- what is read of the first line is in front
in_front : {H : Type 0} (r : Option H) (session day setup : H → List ℕ) (text first rest : List ℕ) → text ≡ first ++ 10 ∷ rest
    → IfSome r (λ h. first ≡ head_of (session h) (day h) (setup h))
    → IfSome r (λ h. IsWord (session h) × IsWord (day h) × IsWord (setup h))
    → IfSome r (λ h. IsPrefix (head_of (session h) (day h) (setup h) ∷ []) (lines_of text))
in_front None session day setup text first rest cut is words = tt
in_front (Some h) session day setup text first rest cut is words =
    head_first text (session h) (day h) (setup h) rest words.0 words.1 words.2 (cut ∙ ap (λ (l : List ℕ). l ++ 10 ∷ rest) is)

pub returns-clause-some : goal.returns-clause-some
returns-clause-some c =
    in_front c.read_head.result (λ h. h.session.now) (λ h. h.day.now) (λ h. h.setup.now) c.args.front.now c.in_ok-first.first.now c.in_ok-first._rest.now c.in_ok-first.ensures.some.0 c.read_head.ensures.some c.read_head.ensures.words

pub returns-in_err-first-clause-none : goal.returns-in_err-first-clause-none
returns-in_err-first-clause-none c =
    if_none c.from_residual.result (HasNoHead (lines_of c.args.front.now)) (λ session day setup first second third begins.
    none_alone c.args.front.now (head_of session day setup) c.requires c.in_err-first.ensures.none begins)

pub returns-clause-none : goal.returns-clause-none
returns-clause-none c =
    let cut = c.in_ok-first.ensures.some in
    none_so c.read_head.result _ (HasNoHead (lines_of c.args.front.now)) c.read_head.ensures.none (λ never session day setup first second third begins.
    never session day setup first second third (first_alone c.args.front.now c.in_ok-first.first.now c.in_ok-first._rest.now (head_of session day setup) c.requires cut.1 cut.0 begins))
