use Rattle.std.proofs.Common.{rules, ◌≡◌, ◌≤◌, ◌∙◌, ℕ, List, length, take, drop, map, ap, subst, arith}
use Rattle.hx_rules.specs.declared.event.Event.{Event}
use Rattle.hx_tape_lines.specs.Text.{record_of}
use Rattle.hx_day_log.proofs.Mirrored.{brought_up}
use Rattle.hx_day_log.proofs.mirrored_day.MirroredDayReplica.apply.Goals as goal

-- what the mirror had before is compared, and what it lacks is appended
pub invariant_of-self-2 : goal.invariant_of-self-2
invariant_of-self-2 g c = λ is.
    let applied = g.D.Applies.applied c.self.inside.day in
    let n = c.in_ok-same.same in
    let rest_is : c.rest_of-rest.result.now ≡ drop (length applied) c.self.inside.has.items =
    c.rest_of-rest.ensures ∙ ap (λ (count : ℕ). drop count c.deref.result.now) c.count.ensures ∙ ap (λ (l : List Event). drop (length applied) l) c.deref.ensures.value in
    brought_up g.M.Journal.appended g.M.Journal.durable g.M.Journal.is_open c.keep_records.new.mirror c.self.inside.has.items applied (g.D.Applies.applied c.apply_all.new.day) c.args.events.now (g.M.Journal.appended c.self.inside.mirror) n
    ((c.self.invariant (search rules)).appended_is) c.in_ok-apply_all.ensures.applied
    (subst (λ (l : List Event). n ≤ length l) rest_is c.in_ok-same.ensures.of_one)
    c.in_ok-same.ensures.of_other
    (λ less. omega (arith, less, ap (λ (l : List Event). length l) rest_is))
    (subst (λ (l : List Event). map record_of (take n l) ≡ map record_of (take n c.args.events.now)) rest_is c.in_ok-same.ensures.same)
    c.in_ok-keep_records.ensures
