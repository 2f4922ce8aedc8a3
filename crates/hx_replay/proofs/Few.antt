-- The counts of a replay fit.
use Rattle.std.proofs.Common.{◌≡◌, ℕ, zero, suc, ◌+◌, ◌≤◌, List, [], ◌∷◌, length, replicate, refl, ◌∙◌, arith, slice_index}
use Rattle.hx_members.specs.Setups.{Setup, IsSetup}
use Rattle.hx_refs.specs.Numbers.{raised}
use Rattle.hx_refs.proofs.Numbers.{length-raised}
use Rattle.hx_market.specs.Markets.{Market, opening}
use Rattle.hx_market.specs.Outputs.{Reply}
use Rattle.hx_market.specs.Steps.{step}
use Rattle.hx_tape_lines.specs.Text.{Entry}
use Rattle.hx_replay.specs.Output.{counts_after}
use Rattle.hx_tape_lines.specs.Events.{event_of}
use Rattle.hx_replay.specs.Run.{Progress, IsFew, start, after}
use Rattle.hx_replay.proofs.EventOutput.{output_few}
use Rattle.hx_units.proofs.Lists.{slice_index-zeros}

pub raised-most : (xs : List ℕ) (i k : ℕ) → slice_index (raised xs i) k ≤ slice_index xs k + 1
raised-most [] i k = omega arith
raised-most (x ∷ xs) zero zero = omega arith
raised-most (x ∷ xs) zero (suc k) = omega arith
raised-most (x ∷ xs) (suc i) zero = omega arith
raised-most (x ∷ xs) (suc i) (suc k) = raised-most xs i k

pub counts-length : (counts : List ℕ) (rs : List Reply) → length (counts_after counts rs) ≡ length counts
counts-length counts [] = refl
counts-length counts (r ∷ rs) = counts-length (raised counts r.0) rs ∙ length-raised counts r.0

counts-most : (counts : List ℕ) (rs : List Reply) (k : ℕ) → slice_index (counts_after counts rs) k ≤ slice_index counts k + length rs
counts-most counts [] k = omega arith
counts-most counts (r ∷ rs) k =
    let more : slice_index (counts_after (raised counts r.0) rs) k ≤ slice_index (raised counts r.0) k + length rs = counts-most (raised counts r.0) rs k in
    let one = raised-most counts r.0 k in omega arith

pub few-after : (p : Progress) (e : Entry) → IsFew p → IsFew (after p e)
unfolding after
few-after p e h =
    let output = output_few p.setup p.market (event_of e) h.stocks h.members in
    record {
      stocks = h.stocks;
      members = h.members;
      feed = omega (arith, h.feed, output.feed);
      replies = omega (arith, h.replies, output.replies);
      numbered = counts-length p.counts (step p.setup p.market (event_of e)).output.replies ∙ h.numbered;
      each = λ member. omega (arith, h.each member, counts-most p.counts (step p.setup p.market (event_of e)).output.replies member);
    }

pub few-start : (setup : Setup) → IsSetup setup → IsFew (start setup)
unfolding opening start
few-start setup h = record { stocks = h.most_stocks; members = h.most_members; feed = omega arith; replies = omega arith; numbered = refl; each = λ member. omega (arith, slice_index-zeros 4096 member) }

pub started : (setup s : Setup) (m : Market) (counts : List ℕ) → s ≡ setup → m ≡ opening setup → counts ≡ replicate 4096 0
    → (let p : Progress = record { setup = s; market = m; events = 0; feed = 0; replies = 0; counts = counts } in p) ≡ start setup
unfolding start
started setup s m counts a b c = rw (a, b, c) refl
