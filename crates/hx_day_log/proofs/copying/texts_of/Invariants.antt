use Rattle.std.proofs.Common.{◌≡◌, ◌++◌, drop}
use Rattle.hx_fenced_log.specs.Copies.{texts_of}
use Rattle.hx_day_log.proofs.copying.texts_of.Given as goal

-- the texts so far, and those of the rest, are all
abbrev pub invariant-loop-found : goal.invariant-loop-found
invariant-loop-found l = l.text.items ++ texts_of (drop l.found-index l.records) ≡ texts_of l.records
