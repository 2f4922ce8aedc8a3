use Rattle.std.proofs.Common.{ap, ◌∙◌, arith}
use Rattle.hx_blog.proofs.SeatsPass.{joins, learns}
use Rattle.hx_blog.proofs.seats.tell_reader.Goals as goal

pub join_seat-requires : goal.join_seat-requires
join_seat-requires g c =
    let r = c.requires in
    let other = r.reading.1 in
    (r.log.0, r.log.1, ap (λ m. m.1) other, omega (arith, r.sized), joins _ _ _ _ _ (ap (λ m. m.0.gone) r.reading.0) (ap (λ m. m.0.gone) other) (ap (λ m. m.0.writes) other))

pub load-requires : goal.load-requires
load-requires g c =
    let r = c.requires in
    let s = c.join_seat.ensures in
    (s.0 ∙ r.log.0, omega (arith, r.sized), learns _ _ _ _ (ap (λ m. m.0.gone) s.2 ∙ ap (λ m. m.0.gone) r.reading.0) (ap (λ m. m.0.writes) s.2 ∙ ap (λ m. m.0.writes) r.reading.0))
