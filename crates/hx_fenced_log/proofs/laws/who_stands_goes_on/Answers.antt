use Rattle.hx_fenced_log.proofs.Taking.{next_counts, takeover_counts, takeover_adds_nothing}
use Rattle.hx_fenced_log.proofs.laws.who_stands_goes_on.Goals as goal

pub returns : goal.returns
returns c = record {
  next = next_counts;
  takeover = takeover_counts;
  nothing = takeover_adds_nothing;
}
