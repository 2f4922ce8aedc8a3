-- Entries that say something are entries.
use Rattle.std.proofs.Common.{List, [], ◌∷◌}
use Rattle.std.specs.List.{AllByRecursion}
use Rattle.hx_tape_lines.specs.Text.{Entry, IsEntry}
use Rattle.hx_tape_lines.specs.Events.{IsKnown}

pub known_entries : (es : List Entry) → AllByRecursion IsKnown es → AllByRecursion IsEntry es
known_entries [] h = tt
known_entries (e ∷ es) h = (h.0.entry, known_entries es h.1)
