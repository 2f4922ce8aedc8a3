-- The definitions that a day unfolds.
use Rattle.std.proofs.Common.{ℕ, List}
use Rattle.hx_units.specs.Fields.{spelled}
use Rattle.hx_members.specs.Setups.{standard}
use Rattle.hx_match.specs.Matching.{matched_entries, matched}
use Rattle.hx_rules.specs.declared.event.Event.{Event}
use Rattle.hx_market.specs.Outputs.{EventOutput}
use Rattle.hx_market.specs.Markets.{opening}
use Rattle.hx_market.specs.QuietChains.{is_quiet, quiet_of_one, strike, strike_one}
use Rattle.hx_market.specs.Steps.{step, market_after, outputs_from, run, output}

unfoldable pub all_of : List Event → List EventOutput
unfolding spelled matched_entries matched opening step market_after outputs_from run output
all_of events = output standard events

unfoldable pub struck_of : ℕ → List Event → List Event
unfolding spelled matched_entries matched opening step market_after run is_quiet quiet_of_one strike strike_one
struck_of member events = strike_one standard member events
