use Rattle.std.proofs.Common.{◌≡◌, ◌+◌, ◌*◌, ◌++◌, drop}
use Rattle.hx_match.specs.Executing.{done_by, left_by, AreGood}
use Rattle.hx_rules.specs.Executions.{matches_of}
use Rattle.hx_market_core.specs.Arrivals.{output_of_executions}
use Rattle.hx_day.specs.Bounds.{CanNoteAll, chains_by}
use Rattle.hx_market_core.specs.OrderKeys.{AreKeyed}
use Rattle.hx_market_core.specs.Room.{TakesRoom}
use Rattle.hx_market_core.proofs.commit.execute.execute.Given as goal

-- what is done so far with its output, and what the rest does with its output, is what all the fills do, with all of
-- their output
abbrev pub invariant-loop-fill : goal.invariant-loop-fill
invariant-loop-fill g l =
    let was = l.fn.state in
    let s = l.state-inside in
    let x = l.arriving.order in
    let rest = drop l.fill-index l.fills in
    let now = done_by rest (g.B.Book.orders s.book) in
    let all = done_by l.fills was.orders in
    let tell = output_of_executions l.arriving in
    record {
      good : AreGood rest (g.B.Book.orders s.book);
      left : left_by rest (g.B.Book.orders s.book) ≡ left_by l.fills was.orders;
      reserved : g.B.Book.reserved s.book ≡ was.reserved;
      keyed : AreKeyed s.tokens.tokens s.tokens.keys (left_by rest (g.B.Book.orders s.book));
      notes : CanNoteAll was.market.tokens x.chain now s.tokens.chains;
      tokens : s.tokens.tokens ≡ was.market.tokens;
      chains : chains_by was.market.tokens x.chain now s.tokens.chains ≡ chains_by was.market.tokens x.chain all was.market.chains;
      executions : s.trading.executions ++ matches_of x.member x.token now ≡ was.market.executions ++ matches_of x.member x.token all;
      halted : s.trading.halted ≡ was.market.halted;
      room : s.trading.room + l.fill-index ≡ was.room;
      refs : s.refs ≡ record was.market.numbers { matches = was.market.numbers.matches + l.fill-index };
      phase : s.phase ≡ was.market.phase;
      recorded : s.recorded ≡ was.market.recorded;
      feed : l.out.feed.items ++ (tell s.refs.matches now).feed ≡ l.fn.out.feed.items ++ (tell was.market.numbers.matches all).feed;
      replies : l.out.replies.items ++ (tell s.refs.matches now).replies ≡ l.fn.out.replies.items ++ (tell was.market.numbers.matches all).replies;
      taken : TakesRoom l.fill-index (2 * l.fill-index) l.fn.out l.out;
    }
