use Rattle.std.proofs.Common.{[], ◌∷◌}
use Rattle.hx_desk.specs.Entries.{entry_of}
use Rattle.hx_engine.specs.Journals.{unspoken}
use Rattle.hx_engine.proofs.locked.Held.admit.Given as goal

-- the entry that is written down
abbrev pub ghosts-write_down : goal.ghosts-write_down
ghosts-write_down g a = record { entries = unspoken (entry_of a.pass a.event.now ∷ []); left = [] }
