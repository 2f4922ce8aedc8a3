use Rattle.std.proofs.Common.{ap, sym, ◌∙◌}
use Rattle.std.specs.Option.{option_map_or}
use Rattle.hx_tokens.specs.declared.name.Name.{Name}
use Rattle.hx_tokens.proofs.TokenLaws.{entered_at-row}
use Rattle.hx_tokens.proofs.rows.Rows.entered.Goals as goal

pub returns-in-Some : goal.returns-in-Some
returns-in-Some c =
    ap (λ o. option_map_or (λ (n : Name). n.token) o c.args.token) (sym c.in-Some.is ∙ c.name_at.ensures)
    ∙ entered_at-row c.args.self.now.rows c.args.index c.args.token c.requires

pub returns-in-None : goal.returns-in-None
returns-in-None c =
    ap (λ o. option_map_or (λ (n : Name). n.token) o c.args.token) (sym c.in-None.is ∙ c.name_at.ensures)
    ∙ entered_at-row c.args.self.now.rows c.args.index c.args.token c.requires
