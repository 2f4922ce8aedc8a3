use Rattle.std.proofs.Common.{arith}
use Rattle.hx_blog.proofs.SeatsPass.{splits_off}
use Rattle.hx_blog.proofs.seats.split_off.Goals as goal

pub split_seat-requires : goal.split_seat-requires
split_seat-requires g c = let r = c.requires in (r.log, omega (arith, r.sized), splits_off _ _ _ r.live)
