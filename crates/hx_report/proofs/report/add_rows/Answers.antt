use Rattle.std.proofs.Common.{◌≡◌, ◌+◌, ◌<◌, List, ap, sym, ◌∙◌, subst, [], ◌∷◌, length, length-append, get_or, arith, rules}
use Rattle.std.specs.Prelude.{Result, IfOk}
use Rattle.std.specs.List.{slice_index_or}
use Rattle.hx_units.specs.declared.memory.NoMemory.{NoMemory}
use Rattle.hx_members.specs.Member.{Member}
use Rattle.hx_tape_lines.specs.Text.{Entry}
use Rattle.hx_report.specs.declared.rows.Row.{Row}
use Rattle.hx_report.specs.Days.{IsDay}
use Rattle.hx_report.specs.Reports.{IsRow}
use Rattle.hx_report.proofs.Adding.{row_more}
use Rattle.hx_report.proofs.report.add_rows.Goals as goal
use Rattle.hx_report.proofs.report.add_rows.Goals.{In_ok-push}

-- what the call gives whose row is added
output : (g : _) (c : In_ok-push g)
    → IfOk c.made-item.result (λ row. (es : List Entry) (d : Member) → IsDay c.args.day.now es → IsRow c.args.day.now.setup es (slice_index_or c.args.members.now (c.len-from.result + c.loop-made.made-index) d) row)
output g c =
    let below : c.loop-made.made-index < c.min-count.result = omega (arith, c.loop-made-test.true, c.deref-made-items.ensures.len, c.in_ok-map_indices.ensures.len) in
    let given = (c.in_ok-map_indices.ensures.each c.loop-made.made-index c.made-item.result below).1 in
    let item : get_or c.in_ok-map_indices.field-0.items c.loop-made.made-index c.made-item.result ≡ c.made-item.result =
    sym (c.made-item.is ∙ ap (λ l. get_or l c.loop-made.made-index c.made-item.result) c.deref-made-items.ensures.value) in
    subst
    (λ (r : Result Row NoMemory). IfOk r (λ row. (es : List Entry) (d : Member) → IsDay c.args.day.now es → IsRow c.args.day.now.setup es (slice_index_or c.args.members.now (c.len-from.result + c.loop-made.made-index) d) row))
    item (search (rules, given))

pub loop-made-preserved : goal.loop-made-preserved
loop-made-preserved g c =
    let l = c.loop-made in
    let own : (es : List Entry) (d : Member) → IsDay c.args.day.now es → IsRow c.args.day.now.setup es (slice_index_or c.args.members.now (c.len-from.result + l.made-index) d) c.in_ok-made.field-0 =
    subst
    (λ (r : Result Row NoMemory). IfOk r (λ row. (es : List Entry) (d : Member) → IsDay c.args.day.now es → IsRow c.args.day.now.setup es (slice_index_or c.args.members.now (c.len-from.result + l.made-index) d) row))
    c.in_ok-made.was (output g c) in
    let below : l.made-index < c.min-count.result = omega (arith, c.loop-made-test.true, c.deref-made-items.ensures.len, c.in_ok-map_indices.ensures.len) in
    let size = l.invariant.size in
    record {
      size = omega (arith, size, ap length c.in_ok-push.ensures.items, length-append l.rows.items (c.in_ok-made.field-0 ∷ []));
      rows = λ es day before.
          row_more c.args.day.now.setup es c.args.members.now l.rows.items c.push.new.self.items c.in_ok-made.field-0 (c.len-from.result + l.made-index)
          (omega (arith, size, c.len-from.ensures)) (omega (arith, below, c.min-count.ensures)) (λ (d : Member). own es d day) c.in_ok-push.ensures.items
          (l.invariant.rows es day before);
    }
