use Rattle.std.proofs.Common.{◌≡◌, ◌+◌, take, map}
use Rattle.json.specs.Value.{value_view}
use Rattle.hx_etcd.specs.Answers.{AreRecords}
use Rattle.hx_etcd.proofs.range.read_pairs.Given as goal

abbrev pub invariant-loop-pair : goal.invariant-loop-pair
invariant-loop-pair l =
    (l.number ≡ l.from + l.pair-index)
    × AreRecords l.from (take l.pair-index (map value_view l.pairs)) l.records.items
