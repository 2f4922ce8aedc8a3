use Rattle.hx_engine.specs.declared.answers.SubmitError.TheVariants.{Stopped}
use Rattle.std.proofs.Common.{◌⊎◌, inl, ◌≡◌, ◌∙◌, ℕ, ◌≤◌, ◌<◌, ◌+◌, ◌-◌, ◌++◌, List, refl, length, take, drop, ap, sym, subst, arith, length-append}
use Rattle.std.proofs.lemmas.List.{take_all, length-take-le, take-append-le, take-append-drop}
use Rattle.std.specs.Prelude.{None, Result, IfOk, IfErr}
use Rattle.hx_engine.specs.declared.answers.Submitted.{Submitted}
use Rattle.hx_engine.specs.declared.answers.SubmitError.{SubmitError}
use Rattle.hx_engine.proofs.exchange.Exchange.submit_all.Goals.{in-Some-refused, in-None-refused}
use Rattle.hx_blog.specs.Feed.{Entries}
use Rattle.hx_rules.specs.declared.event.Event.{Event}
use Rattle.hx_desk.specs.declared.entry.Entry.{Entry}
use Rattle.hx_desk.specs.Known.{history_of}
use Rattle.hx_engine.specs.Passes.{Sent, PassState, placed, sent_in, AreSomeOf}
use Rattle.hx_engine.specs.Exchanges.{Enters, SendsAll, SendsFirst, SendsTurn, AreAdmittedUpTo}
use Rattle.hx_engine.proofs.PassLaws.{sends_all, more_sent, length_placed, none_left, sends_first}
use Rattle.hx_engine.proofs.Refusing.{none_published, at_most}
use Rattle.hx_engine.proofs.exchange.Exchange.submit_all.Goals as goal

pub invariant_of-pass-then-not-await_published : goal.invariant_of-pass-then-not-await_published
invariant_of-pass-then-not-await_published g c =
    let inside = c.pass.inside in
    let i = c.pass.invariant in
    let count = c.enter-count.result.count in
    let position = c.enter-count.result.last.place in
    let first : List Event = take count c.args.events.items in
    let old : List Sent = inside.sent.items in
    let more : List Sent = placed (position - length first) first in
    let outright : AreAdmittedUpTo g.V.Venue.setup c.args.events.items c.enter-count.result.count c.enter-count.result.refused =
    subst (λ (es : List Event). AreAdmittedUpTo g.V.Venue.setup es c.enter-count.result.count c.enter-count.result.refused) c.deref-2.ensures.value c.enter-count.ensures.outright in
    let enough = length-take-le count c.args.events.items (at_most g.V.Venue.setup c.args.events.items count c.enter-count.result.refused outright) in
    let items : c.move_first.new.sent.items ≡ old ++ more =
    c.move_first.ensures.sent ∙ ap (λ (l : List Sent). l ++ placed (position - count) first) c.reserve-room.ensures.items ∙ ap (λ (n : ℕ). old ++ placed (position - n) first) (sym enough) in
    let within : inside.published_end ≤ length old = i.7 in
    let long : length c.move_first.new.sent.items ≡ length old + count =
    omega (arith, ap (λ (l : List Sent). length l) items, length-append old more, length_placed (position - length first) first, length-take-le count c.args.events.items (at_most g.V.Venue.setup c.args.events.items count c.enter-count.result.refused outright)) in (
      c.enter-count.ensures.parts ∙ i.0,
      omega (arith, c.enter-count.ensures.counted, i.1, long),
      c.await_published.ensures.logs.0,
      c.await_published.ensures.logs.1,
      i.4,
      i.5,
      subst (λ (k : Entries Entry). AreSomeOf (take inside.published_end c.move_first.new.sent.items) (sent_in inside.number (history_of k)))
          (sym (c.if-not-await_published.ensures.published_end ∙ ap (λ t. t.known) c.enter-count.ensures.knows))
          (subst (λ (l : List Sent). AreSomeOf l (sent_in inside.number (history_of inside.knows.known))) (sym (ap (take inside.published_end) items ∙ take-append-le inside.published_end old more within)) i.6),
      omega (arith, long, within),
    )

pub returns-then-not-await_published-clause-outright : goal.returns-then-not-await_published-clause-outright
returns-then-not-await_published-clause-outright g c =
    let outright : AreAdmittedUpTo g.V.Venue.setup c.args.events.items c.enter-count.result.count c.enter-count.result.refused =
    subst (λ (es : List Event). AreAdmittedUpTo g.V.Venue.setup es c.enter-count.result.count c.enter-count.result.refused) c.deref-2.ensures.value c.enter-count.ensures.outright in
    none_published g.V.Venue.setup c.args.events.items c.enter-count.result.count c.enter-count.result.refused (omega arith) outright

pub invariant_of-pass-2 : goal.invariant_of-pass-2
invariant_of-pass-2 g c =
    let inside = c.pass.inside in
    let i = c.pass.invariant in
    let count = c.enter-count.result.count in
    let last = c.enter-count.result.last in
    let first : List Event = take count c.args.events.items in
    let old : List Sent = inside.sent.items in
    let more : List Sent = placed (last.place - length first) first in
    let outright : AreAdmittedUpTo g.V.Venue.setup c.args.events.items c.enter-count.result.count c.enter-count.result.refused =
    subst (λ (es : List Event). AreAdmittedUpTo g.V.Venue.setup es c.enter-count.result.count c.enter-count.result.refused) c.deref-2.ensures.value c.enter-count.ensures.outright in
    let enough = length-take-le count c.args.events.items (at_most g.V.Venue.setup c.args.events.items count c.enter-count.result.refused outright) in
    let items : c.move_first.new.sent.items ≡ old ++ more =
    c.move_first.ensures.sent ∙ ap (λ (l : List Sent). l ++ placed (last.place - count) first) c.reserve-room.ensures.items ∙ ap (λ (n : ℕ). old ++ placed (last.place - n) first) (sym enough) in
    let full : length old ≤ inside.published_end = omega arith in
    let all : take inside.published_end old ≡ old = take_all inside.published_end old full in
    let end : c.len-pass-inside.result ≡ length c.move_first.new.sent.items = omega arith in
    let now : List Sent = take c.len-pass-inside.result c.move_first.new.sent.items in
    let same : now ≡ c.move_first.new.sent.items = take_all c.len-pass-inside.result c.move_first.new.sent.items (omega (arith, end)) in
    let sent : now ≡ take inside.published_end old ++ more = same ∙ items ∙ ap (λ (l : List Sent). l ++ more) (sym all) in
    let some : 0 < count = omega arith in
    let entered : Enters g.V.Venue.setup inside.number first inside.knows.known c.enter-count.new.entered.known last =
    subst (λ (es : List Event). Enters g.V.Venue.setup inside.number (take count es) inside.knows.known c.enter-count.new.entered.known last) c.deref-2.ensures.value (c.enter-count.ensures.entered some) in
    let long : length c.move_first.new.sent.items ≡ length old + count =
    omega (arith, ap (λ (l : List Sent). length l) items, length-append old more, length_placed (last.place - length first) first, length-take-le count c.args.events.items (at_most g.V.Venue.setup c.args.events.items count c.enter-count.result.refused outright)) in (
      c.enter-count.ensures.parts ∙ i.0,
      omega (arith, c.enter-count.ensures.counted, i.1, long),
      c.await_published.ensures.logs.0,
      c.await_published.ensures.logs.1,
      i.4,
      i.5,
      more_sent g.V.Venue.setup inside.number (take inside.published_end old) now first last inside.knows.known c.enter-count.new.knows.known c.await_published.new.knows.known c.enter-count.new.entered.known entered
          c.if-not-await_published.ensures.published_end i.6 sent,
      omega (arith, end),
    )

pub returns-clause-err : goal.returns-clause-err
returns-clause-err g c =
    let inside = c.pass.inside in
    let i = c.pass.invariant in
    let count = c.enter-count.result.count in
    let last = c.enter-count.result.last in
    let first : List Event = take count c.args.events.items in
    let old : List Sent = inside.sent.items in
    let more : List Sent = placed (last.place - length first) first in
    let outright : AreAdmittedUpTo g.V.Venue.setup c.args.events.items c.enter-count.result.count c.enter-count.result.refused =
    subst (λ (es : List Event). AreAdmittedUpTo g.V.Venue.setup es c.enter-count.result.count c.enter-count.result.refused) c.deref-2.ensures.value c.enter-count.ensures.outright in
    let enough = length-take-le count c.args.events.items (at_most g.V.Venue.setup c.args.events.items count c.enter-count.result.refused outright) in
    let items : c.move_first.new.sent.items ≡ old ++ more =
    c.move_first.ensures.sent ∙ ap (λ (l : List Sent). l ++ placed (last.place - count) first) c.reserve-room.ensures.items ∙ ap (λ (n : ℕ). old ++ placed (last.place - n) first) (sym enough) in
    let full : length old ≤ inside.published_end = omega arith in
    let all : take inside.published_end old ≡ old = take_all inside.published_end old full in
    let end : c.len-pass-inside.result ≡ length c.move_first.new.sent.items = omega arith in
    let now : List Sent = take c.len-pass-inside.result c.move_first.new.sent.items in
    let same : now ≡ c.move_first.new.sent.items = take_all c.len-pass-inside.result c.move_first.new.sent.items (omega (arith, end)) in
    let sent : now ≡ take inside.published_end old ++ more = same ∙ items ∙ ap (λ (l : List Sent). l ++ more) (sym all) in
    let some : 0 < count = omega arith in
    let entered : Enters g.V.Venue.setup inside.number first inside.knows.known c.enter-count.new.entered.known last =
    subst (λ (es : List Event). Enters g.V.Venue.setup inside.number (take count es) inside.knows.known c.enter-count.new.entered.known last) c.deref-2.ensures.value (c.enter-count.ensures.entered some) in
    let was : PassState = record { number = inside.number; sent = take inside.published_end old; waiting = drop inside.published_end old; known = inside.knows.known } in
    let new : PassState = record { number = inside.number; sent = now; waiting = drop c.len-pass-inside.result c.move_first.new.sent.items; known = c.await_published.new.knows.known } in
    let sends : SendsAll g.V.Venue.setup c.args.pass.now new first last =
    subst (λ (p : PassState). SendsAll g.V.Venue.setup p new first last) c.pass.view_is
    (sends_all g.V.Venue.setup was new first last c.enter-count.new.knows.known c.enter-count.new.entered.known entered c.if-not-await_published.ensures.published_end i.6 refl sent
    (none_left inside.published_end old full) (none_left c.len-pass-inside.result c.move_first.new.sent.items (omega (arith, end)))) in
    let given : SendsFirst g.V.Venue.setup c.args.pass.now new c.args.events.items count = sends_first g.V.Venue.setup c.args.pass.now new c.args.events.items count last some sends in
    elim c.match-refused-2.branch [
      | in-Some-refused w ↦ subst (λ (r : Result Submitted (SubmitError × ℕ)). IfErr r (λ e. SendsFirst g.V.Venue.setup c.args.pass.now new c.args.events.items e.1)) (sym w.result-is) given
      | in-None-refused w ↦ subst (λ (r : Result Submitted (SubmitError × ℕ)). IfErr r (λ e. SendsFirst g.V.Venue.setup c.args.pass.now new c.args.events.items e.1)) (sym w.result-is) tt
    ]

pub returns-clause-ok : goal.returns-clause-ok
returns-clause-ok g c =
    let inside = c.pass.inside in
    let i = c.pass.invariant in
    let count = c.enter-count.result.count in
    let last = c.enter-count.result.last in
    let first : List Event = take count c.args.events.items in
    let old : List Sent = inside.sent.items in
    let more : List Sent = placed (last.place - length first) first in
    let outright : AreAdmittedUpTo g.V.Venue.setup c.args.events.items c.enter-count.result.count c.enter-count.result.refused =
    subst (λ (es : List Event). AreAdmittedUpTo g.V.Venue.setup es c.enter-count.result.count c.enter-count.result.refused) c.deref-2.ensures.value c.enter-count.ensures.outright in
    let enough = length-take-le count c.args.events.items (at_most g.V.Venue.setup c.args.events.items count c.enter-count.result.refused outright) in
    let items : c.move_first.new.sent.items ≡ old ++ more =
    c.move_first.ensures.sent ∙ ap (λ (l : List Sent). l ++ placed (last.place - count) first) c.reserve-room.ensures.items ∙ ap (λ (n : ℕ). old ++ placed (last.place - n) first) (sym enough) in
    let full : length old ≤ inside.published_end = omega arith in
    let all : take inside.published_end old ≡ old = take_all inside.published_end old full in
    let end : c.len-pass-inside.result ≡ length c.move_first.new.sent.items = omega arith in
    let now : List Sent = take c.len-pass-inside.result c.move_first.new.sent.items in
    let same : now ≡ c.move_first.new.sent.items = take_all c.len-pass-inside.result c.move_first.new.sent.items (omega (arith, end)) in
    let sent : now ≡ take inside.published_end old ++ more = same ∙ items ∙ ap (λ (l : List Sent). l ++ more) (sym all) in
    let some : 0 < count = omega arith in
    let entered : Enters g.V.Venue.setup inside.number first inside.knows.known c.enter-count.new.entered.known last =
    subst (λ (es : List Event). Enters g.V.Venue.setup inside.number (take count es) inside.knows.known c.enter-count.new.entered.known last) c.deref-2.ensures.value (c.enter-count.ensures.entered some) in
    let was : PassState = record { number = inside.number; sent = take inside.published_end old; waiting = drop inside.published_end old; known = inside.knows.known } in
    let new : PassState = record { number = inside.number; sent = now; waiting = drop c.len-pass-inside.result c.move_first.new.sent.items; known = c.await_published.new.knows.known } in
    let sends : SendsAll g.V.Venue.setup c.args.pass.now new first last =
    subst (λ (p : PassState). SendsAll g.V.Venue.setup p new first last) c.pass.view_is
    (sends_all g.V.Venue.setup was new first last c.enter-count.new.knows.known c.enter-count.new.entered.known entered c.if-not-await_published.ensures.published_end i.6 refl sent
    (none_left inside.published_end old full) (none_left c.len-pass-inside.result c.move_first.new.sent.items (omega (arith, end)))) in
    elim c.match-refused-2.branch [
      | in-Some-refused w ↦ subst (λ (r : Result Submitted (SubmitError × ℕ)). IfOk r (λ s. SendsTurn g.V.Venue.setup c.args.pass.now new c.args.events.items s.rest.items s.done)) (sym w.result-is) tt
      | in-None-refused w ↦
          let up_to : AreAdmittedUpTo g.V.Venue.setup c.args.events.items count None = subst (AreAdmittedUpTo g.V.Venue.setup c.args.events.items count) w.in-None-refused.is outright in
          subst (λ (r : Result Submitted (SubmitError × ℕ)). IfOk r (λ s. SendsTurn g.V.Venue.setup c.args.pass.now new c.args.events.items s.rest.items s.done)) (sym w.result-is)
          (record {
            sent = first;
            splits = sym (take-append-drop count c.args.events.items) ∙ ap (λ (l : List Event). first ++ l) (sym c.move_first.ensures.rest);
            some = omega (arith, enough, some);
            sends = sends;
            in_order = up_to.2;
          })
    ]

pub returns-clause-waits : goal.returns-clause-waits
returns-clause-waits g c =
    let inside = c.pass.inside in
    let old : List Sent = inside.sent.items in
    let now : List Sent = c.move_first.new.sent.items in
    let published_end = c.len-pass-inside.result in
    let full : length old ≤ inside.published_end = omega arith in
    let end : published_end ≡ length now = omega arith in
    let waits : drop published_end now ≡ c.args.pass.now.waiting =
    none_left published_end now (omega (arith, end)) ∙ sym (none_left inside.published_end old full) ∙ ap (λ (p : PassState). p.waiting) c.pass.view_is in
    elim c.match-refused-2.branch [
      | in-Some-refused w ↦ subst (λ (r : Result Submitted (SubmitError × ℕ)). IfErr r (λ e. (drop published_end now ≡ c.args.pass.now.waiting) ⊎ (e ≡ (Stopped, 0)))) (sym w.result-is) (inl waits)
      | in-None-refused w ↦ subst (λ (r : Result Submitted (SubmitError × ℕ)). IfErr r (λ e. (drop published_end now ≡ c.args.pass.now.waiting) ⊎ (e ≡ (Stopped, 0)))) (sym w.result-is) tt
    ]
