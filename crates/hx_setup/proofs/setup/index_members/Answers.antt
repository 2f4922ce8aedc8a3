use Rattle.std.proofs.Common.{◌≡◌, ◌+◌, ◌==◌, suc, Some, ap, sym, ◌∙◌, take, arith}
use Rattle.std.proofs.lemmas.Option.{slice_get-get_or}
use Rattle.hx_setup.specs.declared.stock.Member.{Member}
use Rattle.hx_setup.specs.Setups.{indices_of}
use Rattle.hx_setup.proofs.SetupLaws.{insert_entry-indices_by, apart-numbers}
use Rattle.indexmap.specs.IndexMap.{insert_entry}
use Rattle.hx_setup.proofs.setup.index_members.Goals as goal

pub loop-member-preserved : goal.loop-member-preserved
loop-member-preserved c =
    let members = c.args.members.now in
    let i = c.loop-member.member-index in
    let here = slice_get-get_or members i _ (omega (arith, c.loop-member-test.true)) ∙ ap Some (sym c.member-item.is) in
    let next : suc i ≡ i + 1 = omega arith in (
      c.in_ok-insert.ensures.entries
          ∙ ap (λ l. insert_entry (λ a b. a == b) l c.member-item.result.number c.loop-member.index) c.loop-member.invariant.0
          ∙ insert_entry-indices_by (λ a b. a == b) (λ (m : Member). m.number) 0 members i c.loop-member.index c.member-item.result (apart-numbers members c.requires.numbers) here (omega (arith, c.loop-member.invariant.1))
          ∙ ap (λ n. indices_of (take n members)) next,
      omega (arith, c.loop-member.invariant.1),
    )
