-- What is written is the text of the market's output.
use Rattle.std.proofs.Common.{◌≡◌, List, [], ◌∷◌, ◌++◌, map, replicate, refl, ap, ℕ}
use Rattle.hx_members.specs.Setups.{Setup}
use Rattle.hx_market.specs.Steps.{output, outputs_from, run, market_after}
use Rattle.hx_tape_lines.specs.Text.{Entry}
use Rattle.hx_replay.specs.Output.{outputs_lines}
use Rattle.hx_tape_lines.specs.Events.{event_of}
use Rattle.hx_replay.specs.Run.{Progress, start, output_of, output_all, after, after_all}

output_from : (p : Progress) (es : List Entry) → output_all p es ≡ outputs_lines p.feed p.counts (outputs_from p.setup p.market (map event_of es))
unfolding output_of after outputs_from
output_from p [] = refl
output_from p (e ∷ es) = ap (λ (x : List ℕ). output_of p e ++ x) (output_from (after p e) es)

pub output_is_of_events : (setup : Setup) (es : List Entry) → output_all (start setup) es ≡ outputs_lines 0 (replicate 4096 0) (output setup (map event_of es))
unfolding output start
output_is_of_events setup es = output_from (start setup) es

market_from : (p : Progress) (es : List Entry) → (after_all p es).market ≡ market_after p.setup p.market (map event_of es)
unfolding after market_after
market_from p [] = refl
market_from p (e ∷ es) = market_from (after p e) es

pub market_is_run : (setup : Setup) (es : List Entry) → (after_all (start setup) es).market ≡ run setup (map event_of es)
unfolding run start
market_is_run setup es = market_from (start setup) es
