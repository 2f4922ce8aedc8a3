use Rattle.std.proofs.Common.{◌≡◌, ◌-◌, Some, slice_get, ap, sym, ◌∙◌}
use Rattle.std.specs.Option.{option_map}
use Rattle.std.proofs.lemmas.Bool.Decides.{Decides-eqb}
use Rattle.hx_setup.specs.Setups.{member_of}
use Rattle.hx_setup.proofs.SetupLaws.{apart-numbers, member-at, read-item}
use Rattle.hx_setup.proofs.setup.Setup.member.Goals as goal

pub returns-in-Some : goal.returns-in-Some
returns-in-Some c =
    let members = c.self.inside.members.items in
    let index = c.get.result - 1 in
    let member = c.in-Some.member.now in
    let there : slice_get members index ≡ Some member =
    ap (λ l. slice_get l index) (sym c.deref.ensures.value) ∙ sym (read-item c.get-2.result c.deref.result.now index c.get-2.ensures.lookup.0 c.get-2.ensures.lookup.1)
    ∙ ap (option_map (λ m. m.now)) c.in-Some.is
    in
    let same : c.args.number ≡ member.number = sym ((Decides-eqb member.number c.args.number).0 (sym c.if-eq.ensures)) in
    sym (member-at members index member c.args.number (apart-numbers members c.self.invariant.0.numbers) there same) ∙ ap (λ v. member_of v c.args.number) c.self.view_is
