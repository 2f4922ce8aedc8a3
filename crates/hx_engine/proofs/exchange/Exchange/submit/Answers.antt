use Rattle.std.proofs.Common.{◌≡◌, ◌∙◌, ◌<◌, ◌++◌, [], ◌∷◌, List, length, sym, subst, ap, arith}
use Rattle.hx_rules.specs.declared.event.Event.{Event}
use Rattle.hx_engine.specs.Exchanges.{SendsAll}
use Rattle.hx_engine.proofs.PassLaws.{sends_one}
use Rattle.hx_engine.proofs.exchange.Exchange.submit.Goals as goal

-- one event at least, of one
one_of_one : (event : Event) (first rest : List Event) → event ∷ [] ≡ first ++ rest → 0 < length first → first ≡ event ∷ []
one_of_one event [] rest is some = absurd (omega (arith, some))
one_of_one event (x ∷ []) rest is some = cc
one_of_one event (x ∷ (y ∷ ys)) rest is some = absurd (cc)

pub returns-in-Ok-done-clause-ok : goal.returns-in-Ok-done-clause-ok
returns-in-Ok-done-clause-ok g c =
    let t = c.in-Ok-done.ensures.ok in
    let one = c.in-Ok-one.ensures ∙ ap (λ (e : Event). e ∷ []) c.in-Ok.ensures.equal in
    sends_one g.V.Venue.setup c.args.pass.now c.submit_all-done.new.pass c.args.event.now c.in-Ok-done.submitted.done
    (subst (λ (es : List Event). SendsAll g.V.Venue.setup c.args.pass.now c.submit_all-done.new.pass es c.in-Ok-done.submitted.done) (one_of_one c.args.event.now t.sent c.in-Ok-done.submitted.rest.items (sym one ∙ t.splits) t.some) t.sends)
