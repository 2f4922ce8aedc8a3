use Rattle.std.proofs.Common.{◌≡◌, ◌++◌, drop}
use Rattle.std.specs.Prelude.{codes}
use Rattle.std.specs.List.{flat_map}
use Rattle.hx_show.specs.Parts.{part_words}
use Rattle.hx_show.proofs.part.put_message.Given as goal

abbrev pub invariant-loop-part : goal.invariant-loop-part
invariant-loop-part l = l.out.items ++ flat_map (λ p. codes ", " ++ part_words p) (drop l.part-index l.others) ≡ l.initial.out.items ++ flat_map (λ p. codes ", " ++ part_words p) l.others
