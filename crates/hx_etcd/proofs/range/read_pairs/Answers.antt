use Rattle.std.proofs.Common.{◌+◌, List, map, take, rules, arith, sym, subst}
use Rattle.json.specs.Value.{value_view}
use Rattle.hx_fenced_log.specs.Records.{Record}
use Rattle.hx_etcd.specs.declared.reported.AnswerError.TheVariants.{NoMemory}
use Rattle.hx_etcd.specs.Answers.{AreRecords, IsListFault}
use Rattle.hx_etcd.proofs.Holding.{one_in, bad_in}
use Rattle.hx_etcd.proofs.range.read_pairs.Goals as goal

pub returns-in_err-record-clause-err : goal.returns-in_err-record-clause-err
returns-in_err-record-clause-err c =
    let before = c.loop-pair.invariant in
    let bad : IsListFault c.args.from (map value_view c.args.pairs.now) c.in_err-record.field-0.0 =
    bad_in c.args.from c.loop-pair.number c.loop-pair.pair-index c.args.pairs.now c.pair-item.result c.loop-pair.records.items c.in_err-record.field-0.0 c.loop-pair-test.true c.pair-item.is before.0 before.1 c.in_err-record.ensures.err in
    search (rules, bad)

pub returns-in_err-push-clause-err : goal.returns-in_err-push-clause-err
returns-in_err-push-clause-err c =
    let before = c.loop-pair.invariant in
    let bad : IsListFault c.args.from (map value_view c.args.pairs.now) NoMemory =
    bad_in c.args.from c.loop-pair.number c.loop-pair.pair-index c.args.pairs.now c.pair-item.result c.loop-pair.records.items NoMemory c.loop-pair-test.true c.pair-item.is before.0 before.1 tt in
    search (rules, bad)

pub loop-pair-preserved : goal.loop-pair-preserved
loop-pair-preserved c =
    let before = c.loop-pair.invariant in (
      omega (arith, before.0),
      subst (λ (l : List Record). AreRecords c.args.from (take (c.loop-pair.pair-index + 1) (map value_view c.args.pairs.now)) l) (sym c.in_ok-push.ensures.items)
          (one_in c.args.from c.loop-pair.number c.loop-pair.pair-index c.args.pairs.now c.pair-item.result c.loop-pair.records.items c.in_ok-record.record c.loop-pair-test.true c.pair-item.is before.0 before.1 c.in_ok-record.ensures.ok),
    )
