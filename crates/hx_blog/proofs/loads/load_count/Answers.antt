use Rattle.std.proofs.Common.{ap, arith}
use Rattle.hx_blog.proofs.ReaderPass.{loads_count}
use Rattle.hx_blog.proofs.loads.load_count.Goals as goal

pub load-requires : goal.load-requires
load-requires g c = let r = c.requires in (r.log, omega (arith, r.sized), loads_count _ _ _ _ (ap (λ m. m.0.gone) r.reading) (ap (λ m. m.0.writes) r.reading))
