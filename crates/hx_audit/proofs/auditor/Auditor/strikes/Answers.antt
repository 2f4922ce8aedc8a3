use Rattle.std.proofs.Common.{◌∙◌}
use Rattle.hx_audit.proofs.Strangers.{none_borne}
use Rattle.hx_audit.proofs.auditor.Auditor.strikes.Goals as goal

pub returns-clause-stranger : goal.returns-clause-stranger
returns-clause-stranger c h events taken = c.is_borne.ensures ∙ none_borne c.args.self.now events taken h c.args.bearing.now
