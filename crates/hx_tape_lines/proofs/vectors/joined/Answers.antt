use Rattle.hx_tape_lines.proofs.Values.{all_joined}
use Rattle.hx_tape_lines.proofs.vectors.joined.Goals as goal

pub returns : goal.returns
returns c = all_joined c.args.front c.args.back c.fits-front.0 c.fits-back.0
