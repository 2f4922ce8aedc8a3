use Rattle.std.proofs.Common.{refl, arith}
use Rattle.std.proofs.lemmas.Bool.Decides.{nat_tests}
use Rattle.hx_soup.proofs.Growth.{none_retained, steps_read, steps_added}
use Rattle.hx_soup.proofs.step.advance.Goals as goal

pub returns-in-Some : goal.returns-in-Some
returns-in-Some c =
    steps_read _ _ _ _ (none_retained _ (grind (arith, nat_tests, c.if-is_empty.true, c.is_empty.ensures))) (omega (arith, c.in-Some.ensures.1)) c.in-Some.ensures.3 c.read_packet.ensures

pub returns : goal.returns
returns c = steps_added _ _ _ _ _ c.requires.some refl c.add.ensures
