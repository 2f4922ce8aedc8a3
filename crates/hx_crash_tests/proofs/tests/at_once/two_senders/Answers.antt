use Rattle.std.proofs.Common.{ap, ◌∙◌}
use Rattle.hx_blog.specs.Ends.{ReaderState}
use Rattle.hx_desk.specs.declared.entry.Entry.{Entry}
use Rattle.hx_crash_tests.proofs.tests.at_once.two_senders.Goals as goal

pub invariant_of-first : goal.invariant_of-first
invariant_of-first g c = record { belongs = ap (λ (r : ReaderState Entry). r.log) c.split.ensures.reader ∙ c.requires.reader }
