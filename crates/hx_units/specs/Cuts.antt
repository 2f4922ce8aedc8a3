-- Texts that are cut at a byte.
use Rattle.std.specs.Prelude.{◌≢◌, ℕ, List, All}

-- no byte of the text is this one
abbrev pub Lacks : (byte : ℕ) → (text : List ℕ) → Type 0
Lacks byte text = All (λ b. b ≢ byte) text
