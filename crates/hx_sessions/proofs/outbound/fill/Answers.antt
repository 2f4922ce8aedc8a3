use Rattle.std.proofs.Common.{◌≡◌, ◌<◌, ◌-◌, ◌++◌, length, take, drop, false, subst, inl, inr, refl, arith}
use Rattle.hx_units.specs.Fields.{texts}
use lib.ListN.{length-map}
use Rattle.hx_sessions.specs.Frames.{Sends}
use Rattle.hx_sessions.proofs.Going.{rows_from, sent_row, sent_row_some, sends_open, next_of}
use Rattle.hx_sessions.proofs.outbound.fill.Goals as goal

pub loop-i-init : goal.loop-i-init
loop-i-init g c = record {
  live = c.requires.live;
  next = omega arith;
  left = omega arith;
  sent = λ first replies later start s. s;
}

pub returns-then-left-eq0-clause-err : goal.returns-then-left-eq0-clause-err
returns-then-left-eq0-clause-err g c = λ past first replies later start s.
    let inv = c.loop-i.invariant in
    (drop c.loop-i.i (texts c.args.rows.now) ++ later, inl (inv.sent first replies later start s, inv.live))

pub returns-in-Err-clause-err : goal.returns-in-Err-clause-err
returns-in-Err-clause-err g c = λ past first replies later start s.
    let inv = c.loop-i.invariant in
    let xs = c.args.rows.now in
    let rows = texts xs in
    let i = c.loop-i.i in
    let d = c.loop-i.delivery in
    let new = c.send.new.delivery in
    let e = c.in-Err.ensures.err in
    let given : texts (take (length xs - i) (drop i xs)) ≡ drop i rows = rows_from xs i in
    let room : i < length rows = omega (arith, c.loop-i-test.true, length-map xs (λ r. r.items)) in
    let sends : Sends d new (drop i rows) false e.0 = subst (λ l. Sends d new l false e.0) given e.1 in
    let some = sent_row_some first replies rows later i d new e.0 _ _ _ (inv.sent first replies later start s) inv.live room sends e.2 in
    let still = sends_open d new (drop i rows) e.0 sends in
    (drop 1 (drop i rows ++ later), inr (refl, λ o. absurd (cc (still, o)), some))

pub loop-i-preserved : goal.loop-i-preserved
loop-i-preserved g c =
    let inv = c.loop-i.invariant in
    let xs = c.args.rows.now in
    let rows = texts xs in
    let i = c.loop-i.i in
    let d = c.loop-i.delivery in
    let new = c.send.new.delivery in
    let e = c.in-Ok.ensures.ok in
    let given : texts (take (length xs - i) (drop i xs)) ≡ drop i rows = rows_from xs i in
    let room : i < length rows = omega (arith, c.loop-i-test.true, length-map xs (λ r. r.items)) in
    let sends : Sends d new (drop i rows) false e.0 = subst (λ l. Sends d new l false e.0) given e.1 in record {
      live = sends_open d new (drop i rows) e.0 sends;
      next = omega (arith, inv.next, next_of d new rows i e.0 room sends);
      left = omega (arith, inv.left);
      sent = λ first replies later start s. sent_row first replies rows later i d new e.0 _ _ _ (inv.sent first replies later start s) inv.live room sends e.2;
    }
