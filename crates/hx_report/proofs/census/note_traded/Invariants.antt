use Rattle.std.proofs.Common.{◌≡◌, ◌++◌, take}
use Rattle.hx_report.specs.Noted.{traders_in}
use Rattle.hx_report.proofs.census.note_traded.Given as goal

abbrev pub invariant-loop-member : goal.invariant-loop-member
invariant-loop-member l = l.traded.items ≡ l.fn.traded.items ++ traders_in (take l.member-index l.replies)
