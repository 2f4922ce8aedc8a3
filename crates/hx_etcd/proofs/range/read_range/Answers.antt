use Rattle.std.proofs.Common.{◌≡◌, List, map, rules, sym, subst, inr}
use Rattle.json.specs.Value.{value_view}
use Rattle.hx_fenced_log.specs.Records.{Record}
use Rattle.hx_etcd.specs.Answers.{HoldsRecords, HasBadPair, IsHoldingFault}
use Rattle.hx_etcd.proofs.Holding.{no_pairs, with_pairs, with_bad_pair}
use Rattle.hx_etcd.proofs.range.read_range.Goals as goal

pub returns-in-None-clause-ok : goal.returns-in-None-clause-ok
returns-in-None-clause-ok c =
    subst (λ (l : List Record). HoldsRecords c.args.from (value_view c.args.document.now) l) (sym c.new.ensures.items)
    (no_pairs c.args.from (value_view c.args.document.now) (value_view c.in-Some._header.now) c.in-Some.ensures c.in-None.ensures)

pub returns-in_err-records-clause-err : goal.returns-in_err-records-clause-err
returns-in_err-records-clause-err c =
    let bad : HasBadPair c.args.from (value_view c.args.document.now) c.in_err-records.field-0.0 =
    with_bad_pair c.args.from (value_view c.args.document.now) (value_view c.in-Some._header.now) (value_view c.in-Some-get.member.now) (map value_view c.in-Some-items_of.pairs.now) c.in_err-records.field-0.0 c.in-Some.ensures c.in-Some-get.ensures c.in-Some-items_of.ensures c.in_err-records.ensures.err in
    let fault : IsHoldingFault c.args.from (value_view c.args.document.now) c.in_err-records.field-0.0 = inr (inr bad) in
    search (rules, fault)

pub returns-clause-ok : goal.returns-clause-ok
returns-clause-ok c =
    with_pairs c.args.from (value_view c.args.document.now) (value_view c.in-Some._header.now) (value_view c.in-Some-get.member.now) (map value_view c.in-Some-items_of.pairs.now) c.in_ok-records.records.items c.in-Some.ensures c.in-Some-get.ensures c.in-Some-items_of.ensures c.in_ok-records.ensures.ok
