use Rattle.std.proofs.Common.{◌≡◌, ℕ, List, ◌-◌, ◌++◌, ◌∙◌, length, drop, replicate, sym, ap, rules, arith}
use Rattle.std.proofs.lemmas.List.{take-append-drop, take-replicate, append-nil}
use Rattle.std.proofs.lemmas.Fmt.{length-decimal-le}
use Rattle.std.specs.Fmt.{decimal}
use Rattle.hx_soup.proofs.answer.padded.Goals as goal

pub write_digits-requires : goal.write_digits-requires
write_digits-requires c = search (rules, length-decimal-le 20)

pub returns : goal.returns
returns c =
    let n = c.args.number in
    let start : c.write_digits.result ≡ 20 - length (decimal n) = omega (arith, c.write_digits.ensures.start) in
    sym (take-append-drop c.write_digits.result c.write_digits.new.buf)
    ∙ ap (λ (x : List ℕ). x ++ drop c.write_digits.result c.write_digits.new.buf) (c.write_digits.ensures.before ∙ take-replicate c.write_digits.result 20 32 (omega (arith, c.write_digits.ensures.start)) ∙ ap (λ (i : ℕ). replicate i 32) start)
    ∙ ap (λ (x : List ℕ). replicate (20 - length (decimal n)) 32 ++ x) (c.write_digits.ensures.written ∙ append-nil (decimal n))
