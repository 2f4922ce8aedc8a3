use Rattle.std.proofs.Common.{◌≡◌, ℕ, ◌+◌, ◌-◌, ◌<◌, ◌≤◌, length, slice_get, vec_len, vec_capacity}
use Rattle.hx_levels.proofs.level_book.linked_orders.clear_links.Given as goal

abbrev pub invariant-loop-links : goal.invariant-loop-links
invariant-loop-links l = record {
  longer : length l.fn.links.items ≤ length l.links.items;
  retained : (k : ℕ) → k < length l.fn.links.items → slice_get l.links.items k ≡ slice_get l.fn.links.items k;
  capacity : vec_capacity l.links ≡ vec_capacity l.fn.links;
}

abbrev pub decreases-loop-links : goal.decreases-loop-links
decreases-loop-links l = l.key + 1 - vec_len l.links
