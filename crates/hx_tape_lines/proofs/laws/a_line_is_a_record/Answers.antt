use Rattle.hx_tape_lines.proofs.Back.{line_is_record}
use Rattle.hx_tape_lines.proofs.laws.a_line_is_a_record.Goals as goal

pub returns : goal.returns
returns c = line_is_record
