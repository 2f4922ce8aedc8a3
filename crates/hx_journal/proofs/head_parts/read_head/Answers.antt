use Rattle.std.proofs.Common.{sym, subst}
use Rattle.hx_journal.specs.Heads.{IsWord}
use Rattle.hx_journal.proofs.Heading.{same_parts}
use Rattle.hx_journal.proofs.head_parts.read_head.Goals as goal

pub returns-then-not-are_words-clause-none : goal.returns-then-not-are_words-clause-none
returns-then-not-are_words-clause-none c = λ session day setup first second third is.
    let same = same_parts c.args.line.now c.in_ok-session.session.now c.in_ok-session.day.now c.in_ok-session.setup.now session day setup c.in_ok-session.ensures.some first second is in
    let yes = c.are_words.ensures.1 (subst IsWord (sym same.first) first, subst IsWord (sym same.second) second, subst IsWord (sym same.third) third) in
    cc (yes, c.if-not-are_words.true)
