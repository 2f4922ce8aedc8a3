-- A text that is counted and hashed line by line.
use Rattle.std.proofs.Common.{◌≡◌, ℕ, ◌+◌, ◌-◌, suc, List, [], ◌++◌, length, sym, ap, ◌∙◌, append_assoc, arith}
use Rattle.std.specs.Prelude.{◌^◌, min}
use Rattle.std.specs.List.{concat}
use Rattle.sha2.specs.declared.Sha256.{Sha256}
use Rattle.sha2.specs.Hashers.{Holds256}
use Rattle.hx_report.specs.Looks.{Pick, seen_lines, seen_text}
use Rattle.hx_report.specs.declared.texts.TextSum.{TextSum}
use Rattle.hx_report.specs.Sums.{counted, IsSumOf}
use Rattle.hx_report.specs.Comparing.{NextLine}
use Rattle.hx_report.proofs.Lines.{next_text}

-- what is counted and hashed of the chosen lines of a text, up to a rest
pub record SumSoFar (pick : Pick) (text rest : List ℕ) (lines : ℕ) (hasher : Sha256) : Type 0 where
  pub front : List ℕ
  pub held : Holds256 hasher front
  pub text_is : seen_text pick text ≡ front ++ seen_text pick rest
  pub before : ℕ
  pub count : lines ≡ counted before
  pub lines_are : length (seen_lines pick text) ≡ before + length (seen_lines pick rest)

one_more : (n : ℕ) → min (counted n + 1) (2 ^ 64 - 1) ≡ counted (n + 1)
one_more n = omega arith

pub sum_of_more : (pick : Pick) (text rest line others : List ℕ) (lines more : ℕ) (hasher next : Sha256) → SumSoFar pick text rest lines hasher → NextLine pick rest line others
    → ((m : List ℕ) → Holds256 hasher m → Holds256 next (m ++ line)) → more ≡ min (lines + 1) (2 ^ 64 - 1) → SumSoFar pick text others more next
sum_of_more pick text rest line others lines more hasher next s n holds adds = record {
  front = s.front ++ line;
  held = holds s.front s.held;
  text_is = s.text_is ∙ ap (λ (l : List ℕ). s.front ++ l) (next_text pick rest line others n) ∙ sym (append_assoc s.front line (seen_text pick others));
  before = s.before + 1;
  count = adds ∙ ap (λ k. min (k + 1) (2 ^ 64 - 1)) s.count ∙ one_more s.before;
  lines_are =
      let size : length (seen_lines pick rest) ≡ suc (length (seen_lines pick others)) = ap length n.lines in
      let whole = s.lines_are in
      omega (arith, size, whole);
}

-- a sum is that of each text of the same lines
pub sum_of_same : (pick : Pick) (a b : List ℕ) (sum : TextSum) → seen_lines pick b ≡ seen_lines pick a → IsSumOf pick b sum → IsSumOf pick a sum
sum_of_same pick a b sum same h = record {
  lines = h.lines ∙ ap (λ (l : List (List ℕ)). counted (length l)) same;
  digest = h.digest ∙ ap (λ (l : List (List ℕ)). Rattle.sha2.specs.Sha256.sha256 (concat l)) same;
}
