-- What a writer has taken so far.
use Rattle.std.proofs.Common.{◌≡◌, ℕ, List, ◌++◌, take, drop, Option, sym, ap, ◌∙◌, append_assoc, take-append-drop}
use Rattle.std.specs.Io.KnownBytes.{Appends, Keeps}
use Rattle.std.proofs.KnownBytes.{Appends-trans, Appends-kept}
use Rattle.hx_units.specs.Writing.{Writes}

pub writes_more : (a b c : Option (List ℕ)) (bytes rest : List ℕ) (n : ℕ) → Writes a b bytes rest → Appends b c (take n rest) → Writes a c bytes (drop n rest)
writes_more a b c bytes rest n h more = record {
  front = h.front ++ take n rest;
  bytes_are = h.bytes_are ∙ ap (λ (x : List ℕ). h.front ++ x) (sym (take-append-drop n rest)) ∙ sym (append_assoc h.front (take n rest) (drop n rest));
  wrote = Appends-trans a b c h.front (take n rest) h.wrote more;
}

pub writes_retained : (a b c : Option (List ℕ)) (bytes rest : List ℕ) → Writes a b bytes rest → Keeps b c → Writes a c bytes rest
writes_retained a b c bytes rest h retained = record { front = h.front; bytes_are = h.bytes_are; wrote = Appends-kept a b c h.front h.wrote retained }
