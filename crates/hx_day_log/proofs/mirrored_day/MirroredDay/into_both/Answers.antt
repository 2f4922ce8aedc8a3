use Rattle.std.proofs.Common.{rules, subst, arith}
use Rattle.hx_tape_lines.specs.Text.{record_of}
use Rattle.hx_desk.specs.Entries.{restored}
use Rattle.hx_engine.specs.Journals.{lines}
use Rattle.hx_fenced_log.specs.Mirrors.{Mirrors}
use Rattle.hx_day_log.proofs.Mirrored.{mirrors_all}
use Rattle.hx_day_log.proofs.mirrored_day.MirroredDay.into_both.Goals as goal

-- it has no more than was applied, so it has exactly that
pub returns-clause-mirror : goal.returns-clause-mirror
returns-clause-mirror g c =
    subst (λ d. Mirrors g.M.Journal.appended g.M.Journal.durable g.M.Journal.is_open c.self.inside.mirror (lines record_of (restored (g.D.Applies.applied d)))) c.self.view_is
    (mirrors_all g.M.Journal.appended g.M.Journal.durable g.M.Journal.is_open c.self.inside.mirror c.self.inside.has.items (g.D.Applies.applied c.self.inside.day) (omega arith) (c.self.invariant (search rules)))
