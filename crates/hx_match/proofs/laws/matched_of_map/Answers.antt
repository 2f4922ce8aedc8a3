use Rattle.std.proofs.Common.{refl}
use Rattle.hx_match.specs.Matching.{order_in, cut_live}
use Rattle.hx_match.proofs.Entries.{matched_of_map}
use Rattle.hx_match.proofs.laws.matched_of_map.Goals as goal

pub returns : goal.returns
returns c = matched_of_map order_in cut_live (λ x n. refl)
