use Rattle.std.proofs.Common.{◌≡◌, ◌∙◌, ◌<◌, ℕ, List, [], ◌∷◌, ◌++◌, length, take, get_or, ap, sym, subst, arith, length-append}
use Rattle.std.proofs.lemmas.List.{length-map, length-take-le}
use Rattle.hx_desk.specs.Entries.{entry_of}
use Rattle.hx_engine.specs.Passes.{sent_by}
use Rattle.hx_engine.specs.Exchanges.{DoneAt, AreAdmittedUpTo}
use Rattle.hx_engine.specs.declared.entered.Entered.{Entered}
use Rattle.hx_rules.specs.declared.event.Event.{Event}
use Rattle.hx_desk.specs.declared.entry.Entry.{Entry}
use Rattle.hx_engine.proofs.Refusing.{text_at, one_last, one_history, in_order, all_one_more, refused_at}
use Rattle.hx_engine.proofs.locked.Held.enter_all.Goals as goal
use Rattle.hx_tape_lines.specs.Text.{record_of}

pub get-requires : goal.get-requires
get-requires g c = omega (arith, ap (λ (l : List (List ℕ)). length l) c.requires.written, length-map c.args.events.now record_of)

pub enter-requires-clause-written : goal.enter-requires-clause-written
enter-requires-clause-written g c =
    c.get.ensures
    ∙ ap (λ (l : List (List ℕ)). get_or l c.loop-i.i []) c.requires.written
    ∙ text_at record_of c.args.events.now c.loop-i.i c.index-events-i.result (omega arith) c.index-events-i.is

pub returns-in-Err-clause-outright : goal.returns-in-Err-clause-outright
returns-in-Err-clause-outright g c =
    let inv = c.loop-i.invariant in
    subst (λ (e : Entered). AreAdmittedUpTo g.V.Venue.setup c.args.events.now e.count e.refused) (sym c.but_for.ensures)
    (refused_at g.V.Venue.setup c.args.events.now c.loop-i.i c.index-events-i.result c.in-Err.error (omega arith) c.index-events-i.is inv.in_order c.in-Err.ensures.outright)

pub loop-i-preserved : goal.loop-i-preserved
loop-i-preserved g c =
    let inv = c.loop-i.invariant in
    let events : List Event = c.args.events.now in
    let i = c.loop-i.i in
    let event : Event = c.index-events-i.result in
    let l : i < length events = omega arith in
    let e = c.in-Ok.ensures in
    let before : List Entry = c.args.self.now.desk.history in
    let now : List Entry = c.loop-i.self.desk.history in
    let seen : c.prefetch.new.self.desk.history ≡ now = ap (λ d. d.history) c.prefetch.ensures in
    let history = e.history ∙ ap (λ (h : List Entry). h ++ entry_of c.args.pass event ∷ []) seen in
    let done = subst (λ (h : List Entry). DoneAt g.V.Venue.setup h event c.in-Ok.done) seen e.done in
    record {
      history = one_history c.args.pass before now c.enter.new.self.desk.history events i event l c.index-events-i.is inv.history history;
      place = λ _. omega (arith, done.place, ap (λ (h : List Entry). length h) inv.history, length-append before (sent_by c.args.pass (take i events)), length-map (take i events) (entry_of c.args.pass), length-take-le i events (omega (arith, l)));
      last = one_last g.V.Venue.setup c.args.pass before now events i event c.in-Ok.done l c.index-events-i.is inv.history done;
      counted = omega (arith, e.counted, inv.counted);
      parts = e.parts ∙ inv.parts;
      in_order = all_one_more g.V.Venue.setup events i event l c.index-events-i.is inv.in_order (in_order g.V.Venue.setup event c.in-Ok.done e.outright);
    }
