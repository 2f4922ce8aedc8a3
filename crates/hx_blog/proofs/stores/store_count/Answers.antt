use Rattle.std.proofs.Common.{ap, arith}
use Rattle.hx_blog.proofs.WriterPass.{stores_count}
use Rattle.hx_blog.proofs.stores.store_count.Goals as goal

pub store-requires : goal.store-requires
store-requires g c =
    let r = c.requires in
    let me = r.writing in
    (r.log, omega (arith, r.sized), stores_count _ _ _ _ _ _ _ (ap (λ m. m.0.gone) me) (ap (λ m. m.0.writes) me) (ap (λ m. m.0.received) me) (ap (λ m. m.0.read) me) r.entries r.count)
