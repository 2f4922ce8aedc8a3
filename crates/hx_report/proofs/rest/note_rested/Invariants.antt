use Rattle.std.proofs.Common.{◌≡◌, ◌++◌, take}
use Rattle.hx_report.specs.Noted.{rests_among}
use Rattle.hx_report.proofs.rest.note_rested.Given as goal

abbrev pub invariant-loop-member : goal.invariant-loop-member
invariant-loop-member l = l.rested.items ≡ l.fn.rested.items ++ rests_among l.replies (take l.member-index l.replies)
