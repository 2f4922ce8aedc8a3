-- By what a text is known again, and what a comparison says of two.
use Rattle.std.specs.Prelude.{◌≡◌, ◌≢◌, ◌-◌, ◌^◌, ℕ, min, true, false, List, length}
use Rattle.sha2.specs.Sha256.{sha256}
use Rattle.hx_report.specs.declared.texts.TextSum.{TextSum}
use Rattle.hx_report.specs.declared.texts.Comparison.{Comparison}
use Rattle.hx_report.specs.Looks.{Pick, seen_lines, seen_text}

-- a number as 64 bits count it, which stop at the greatest
abbrev pub counted : ℕ → ℕ
counted n = min n (2 ^ 64 - 1)

-- how many lines of a text are chosen, and the SHA-256 of their text (FIPS 180-4)
pub record IsSumOf (pick : Pick) (text : List ℕ) (sum : TextSum) : Type 0 where
  pub lines : sum.lines ≡ counted (length (seen_lines pick text))
  pub digest : sum.digest ≡ sha256 (seen_text pick text)

-- whether the chosen lines of both texts are one text, which says `same` and nothing else does, and
-- by what both are known again
pub record Compares (pick : Pick) (whole left : List ℕ) (c : Comparison) : Type 0 where
  pub same : c.same ≡ true → seen_text pick left ≡ seen_text pick whole
  pub differs : c.same ≡ false → seen_text pick left ≢ seen_text pick whole
  pub day : IsSumOf pick whole c.day
  pub struck : IsSumOf pick left c.struck
