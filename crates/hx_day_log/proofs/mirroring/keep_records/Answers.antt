use Rattle.std.proofs.Common.{◌∙◌, sym, ◌++◌, map}
use Rattle.hx_tape_lines.specs.Text.{record_of}
use Rattle.hx_day_log.proofs.Mirrored.{group_durable}
use Rattle.hx_day_log.proofs.mirroring.keep_records.Goals as goal

pub loop-rest-preserved : goal.loop-rest-preserved
loop-rest-preserved g c = record {
  all =
      group_durable c.loop-rest.rest.now c.split_at.result.0.now c.split_at.result.1.now (g.M.Journal.appended c.loop-rest.mirror) (g.M.Journal.appended c.append_records.new.mirror) (g.M.Journal.appended c.sync.new.self)
      (g.M.Journal.appended c.args.mirror.now ++ map record_of c.args.events.now) c.min.result c.split_at.ensures.front c.split_at.ensures.back c.loop-rest.invariant.all c.in_ok-append_records.ensures c.in_ok-sync.ensures.appended;
  durable = c.in_ok-sync.ensures.durable ∙ sym c.in_ok-sync.ensures.appended;
  opened = c.in_ok-sync.ensures.still;
}
