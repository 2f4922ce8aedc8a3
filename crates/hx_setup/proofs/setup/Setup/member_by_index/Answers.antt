use Rattle.std.proofs.Common.{◌==◌, None, slice_get, ap, ◌∙◌}
use Rattle.std.specs.Map.{lookup}
use Rattle.std.specs.Option.{option_map, option_map_or}
use Rattle.hx_setup.specs.declared.stock.Member.{Member}
use Rattle.hx_setup.specs.Setups.{member_of}
use Rattle.hx_setup.proofs.SetupLaws.{find-indices_by, read-item}
use Rattle.hx_setup.proofs.setup.Setup.member_by_index.Goals as goal

pub returns-in_err-index : goal.returns-in_err-index
returns-in_err-index c =
    let members = c.self.inside.members.items in
    ap (option_map (λ m. m.now)) c.from_residual.ensures
    ∙ ap (λ o. option_map_or (λ p. slice_get members p) o None) (c.in_err-index.ensures.value ∙ ap (lookup (λ k. c.args.number == k)) c.self.invariant.2)
    ∙ find-indices_by (λ a b. a == b) (λ (m : Member). m.number) (λ k. c.args.number == k) members ∙ ap (λ v. member_of v c.args.number) c.self.view_is

pub returns : goal.returns
returns c =
    let members = c.self.inside.members.items in
    read-item c.get-2.result c.deref.result.now c.in_ok-index.field-0.now c.get-2.ensures.lookup.0 c.get-2.ensures.lookup.1 ∙ ap (λ l. slice_get l c.in_ok-index.field-0.now) c.deref.ensures.value
    ∙ ap (λ o. option_map_or (λ p. slice_get members p) o None) (c.in_ok-index.ensures.value ∙ ap (lookup (λ k. c.args.number == k)) c.self.invariant.2)
    ∙ find-indices_by (λ a b. a == b) (λ (m : Member). m.number) (λ k. c.args.number == k) members ∙ ap (λ v. member_of v c.args.number) c.self.view_is
