use Rattle.std.specs.Prelude.{suc, false, length, replicate}
use Rattle.hx_members.specs.Stock.{Stock}
use Rattle.std.proofs.Common.{◌≡◌, ℕ, Bool, List, [], ap, ◌∙◌}
use Rattle.hx_book.specs.declared.order.Live.{Live}
use Rattle.hx_book.specs.Book.{lives}
use Rattle.hx_members.specs.Chains.{Used, Chain}
use Rattle.hx_refs.specs.Numbers.{Numbers, opening_numbers}
use Rattle.hx_members.specs.Setups.{Setup}
use Rattle.hx_rules.specs.declared.matches.Match.{Match}
use Rattle.hx_rules.specs.Markets.{Market, opening, opening_hours, none_halted, no_counts}
use Rattle.hx_market_core.proofs.state.State.opening.Goals as goal

-- the parts of the opening market
opens : (setup : Setup) (orders : List Live) (ts : List Used) (cs : List Chain) (n : Numbers) (phase : ℕ) (hs : List Bool) (es : List Match) (counts : List ℕ) → orders ≡ [] → ts ≡ [] → cs ≡ [] → n ≡ opening_numbers → phase ≡ opening_hours setup → hs ≡ none_halted setup → es ≡ [] → counts ≡ no_counts
    → (let m : Market = record { live = lives orders; tokens = ts; chains = cs; numbers = n; phase = phase; halted = hs; executions = es; recorded = counts } in m) ≡ opening setup
unfolding opening
opens setup orders ts cs n phase hs es counts o t k e h d x r =
    ap (λ (z : List Live). (let m : Market = record { live = lives z; tokens = ts; chains = cs; numbers = n; phase = phase; halted = hs; executions = es; recorded = counts } in m)) o
    ∙ ap (λ (z : List Used). (let m : Market = record { live = []; tokens = z; chains = cs; numbers = n; phase = phase; halted = hs; executions = es; recorded = counts } in m)) t
    ∙ ap (λ (z : List Chain). (let m : Market = record { live = []; tokens = []; chains = z; numbers = n; phase = phase; halted = hs; executions = es; recorded = counts } in m)) k
    ∙ ap (λ (z : Numbers). (let m : Market = record { live = []; tokens = []; chains = []; numbers = z; phase = phase; halted = hs; executions = es; recorded = counts } in m)) e
    ∙ ap (λ z. (let m : Market = record { live = []; tokens = []; chains = []; numbers = opening_numbers; phase = z; halted = hs; executions = es; recorded = counts } in m)) h
    ∙ ap (λ (z : List Bool). (let m : Market = record { live = []; tokens = []; chains = []; numbers = opening_numbers; phase = opening_hours setup; halted = z; executions = es; recorded = counts } in m)) d
    ∙ ap (λ (z : List Match). (let m : Market = record { live = []; tokens = []; chains = []; numbers = opening_numbers; phase = opening_hours setup; halted = none_halted setup; executions = z; recorded = counts } in m)) x
    ∙ ap (λ (z : List ℕ). (let m : Market = record { live = []; tokens = []; chains = []; numbers = opening_numbers; phase = opening_hours setup; halted = none_halted setup; executions = []; recorded = z } in m)) r

pub returns : goal.returns
returns g c =
    opens c.args.setup.now (g.B.Book.orders c.args.book) c.seeded.result.tokens c.seeded.result.chains c.in_ok-new.field-0 c.opening_hours.result c.in_ok-new-3.field-0.halted c.in_ok-new-3.field-0.executions c.in_ok-new-2.field-0
    c.requires c.seeded.ensures.tokens c.seeded.ensures.chains c.in_ok-new.ensures c.opening_hours.ensures (c.in_ok-new-3.ensures.halted ∙ ap (λ (xs : List Stock). replicate (suc (length xs)) false) c.stocks.ensures.stocks) c.in_ok-new-3.ensures.executions c.in_ok-new-2.ensures
