use Rattle.hx_reader_laws.proofs.Venues.{packets_carry, stays_publisher}
use Rattle.hx_reader_laws.proofs.laws.packets_carry.Goals as goal

pub returns : goal.returns
returns g c = record { packets = packets_carry _; stays = stays_publisher _ }
