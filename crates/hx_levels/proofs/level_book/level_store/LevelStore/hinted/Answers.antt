use Rattle.std.proofs.Common.{◌≡◌, Some, sym, ap, ◌∙◌, subst}
use Rattle.std.specs.Option.{option_map, option_copied}
use Rattle.hx_levels.specs.declared.level_book.level_store.Tier.{Tier}
use Rattle.hx_levels.specs.Levels.{slot_of}
use Rattle.hx_levels.proofs.LevelKeys.{one_level_key}
use Rattle.hx_levels.proofs.level_book.level_store.LevelStore.hinted.Goals as goal

pub returns-in-Some-get : goal.returns-in-Some-get
returns-in-Some-get c =
    let slot = c.in-Some.slot.now in
    subst (λ v. slot_of v c.args.at ≡ Some slot) c.self.view_is
    (c.self.invariant.stands c.args.at slot
    (ap (option_map (λ (t : Tier). t.at)) (sym c.get-2.ensures ∙ ap option_copied c.in-Some-get.is)
    ∙ ap Some (sym (one_level_key c.in-Some-get.tier.now.at c.args.at (sym c.eq.ensures ∙ c.if-eq.true)))))
