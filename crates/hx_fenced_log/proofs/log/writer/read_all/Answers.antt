use Rattle.std.proofs.Common.{◌≡◌, ◌++◌, ◌<◌, ◌∙◌, ap, ℕ, List, length, arith}
use Rattle.hx_journal.specs.Lines.{text_of}
use Rattle.hx_fenced_log.specs.Records.{Record}
use Rattle.hx_fenced_log.proofs.Standing.{next_number, reads_on, lines_on, adds, adds_none, is_passed_over}
use Rattle.hx_fenced_log.proofs.log.writer.read_all.Goals as goal
use Rattle.hx_fenced_log.proofs.log.writer.read_all.Goals.{in-Counts+in_ok-extend_from_slice, in_default}

pub read-requires : goal.read-requires
read-requires c =
    let lt : c.loop-found.found-index < length c.args.records.now = omega arith in
    ap (λ (r : Record). r.head.number) c.found-item.is
    ∙ next_number c.args.reading.now c.loop-found.reading c.args.records.now c.loop-found.found-index c.found-item.result c.requires lt c.loop-found.invariant.reading

pub loop-found-preserved : goal.loop-found-preserved
loop-found-preserved c =
    let at = c.args.reading.now in
    let rs = c.args.records.now in
    let i = c.loop-found.found-index in
    let now = c.loop-found.reading in
    let r = c.found-item.result in
    let lt : i < length rs = omega arith in
    record {
      reading = reads_on at rs i now r lt c.found-item.is c.loop-found.invariant.reading c.read.new.self c.read.ensures.after;
      lines = lines_on at rs i now r lt c.found-item.is c.loop-found.invariant.reading c.loop-found.invariant.lines c.head-of_log.ensures.of_log.lines;
      text = elim c.match-read.branch [
        | in-Counts+in_ok-extend_from_slice w ↦
            let new_is : w.extend_from_slice.new.self.items ≡ c.loop-found.text.items ++ text_of r.lines =
            w.in_ok-extend_from_slice.ensures.items ∙ ap (λ (l : List ℕ). c.loop-found.text.items ++ l) w.text.ensures in
            adds at rs i now r lt c.found-item.is c.loop-found.invariant.reading c.loop-found.text.items c.match-read.text.items w.in-Counts.ensures.reason c.loop-found.invariant.text
            (ap (λ v. v.items) w.text-is ∙ new_is)
        | in_default w ↦
            adds_none at rs i now r lt c.found-item.is c.loop-found.invariant.reading c.loop-found.text.items c.match-read.text.items
            (is_passed_over now r.head c.read.result c.read.ensures.reason w.in_default.not-Counts) c.loop-found.invariant.text (ap (λ v. v.items) w.text-is)
      ];
    }
