-- How many digits a number has.
use Rattle.std.proofs.Common.{◌≡◌, ℕ, ◌+◌, ◌/◌, ◌<◌, ◌≤◌, ◌^◌, length, arith}
use Rattle.std.specs.Fmt.{decimal}
use Rattle.itoa.proofs.Decimal.{length_one, length_two, length_pair, length_four}

pub one : (n : ℕ) → n < 10 → length (decimal n) ≡ 1
one n h = length_one n h

pub two : (n : ℕ) → 10 ≤ n → n < 100 → length (decimal n) ≡ 2
two n low high = length_two n low high

pub three : (n : ℕ) → 100 ≤ n → n < 1000 → length (decimal n) ≡ 3
three n low high = omega (arith, length_pair n low (omega arith), length_one (n / 100) (omega arith))

pub four : (n : ℕ) → 1000 ≤ n → n < 10000 → length (decimal n) ≡ 4
four n low high = omega (arith, length_pair n (omega arith) (omega arith), length_two (n / 100) (omega arith) (omega arith))

-- four more than the number without its last four
pub more : (n : ℕ) → 10000 ≤ n → n < 2 ^ 64 → length (decimal n) ≡ length (decimal (n / 10000)) + 4
more n low lt = length_four n low lt
