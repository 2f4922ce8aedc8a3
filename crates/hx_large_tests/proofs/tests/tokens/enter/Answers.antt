use Rattle.std.proofs.Common.{ap, ◌∙◌}
use Rattle.std.proofs.lemmas.Bool.{or_right}
use Rattle.hx_members.specs.Chains.{is_used, is_use, entered_used}
use Rattle.hx_members.proofs.ChainLaws.{is_used-pushed, is_same-itself}
use Rattle.hx_large_tests.proofs.tests.tokens.enter.Goals as goal

pub settle-requires : goal.settle-requires
settle-requires c =
    let m = c.args.member in
    let t = c.args.token.now in
    let old = c.reserve.new.self.tokens in
    record {
      used =
          ap (λ l. is_used l m t) c.consume.ensures.tokens ∙ is_used-pushed old (entered_used m t) m t
          ∙ or_right (is_used old m t) (is_use m t (entered_used m t)) (is_same-itself m t);
    }
