use Rattle.std.proofs.Common.{◌∙◌, ℕ, ◌≤◌, List, ◌++◌, inr, take, drop, sym, ap, arith, append_assoc}
use mathlib.Core.List.{IsPrefix}
use Rattle.hx_desk.proofs.Standing.{take_between}
use Rattle.hx_engine_testing.proofs.memory.MemoryJournal.sync.Goals as goal

-- what begins with more begins with less
shorter : (n m : ℕ) (xs records : List (List ℕ)) → n ≤ m → IsPrefix (take m xs) records → IsPrefix (take n xs) records
shorter n m xs records l p = (
  drop n (take m xs) ++ p.0,
  sym (append_assoc (take n xs) (drop n (take m xs)) p.0) ∙ (ap (λ v. v ++ p.0) (take_between xs n m l) ∙ p.1),
)

pub returns-clause-any_moment : goal.returns-clause-any_moment
returns-clause-any_moment c = λ _. record {
  later = omega arith;
  each = λ t records l s. inr (record { begins = shorter _ _ _ records (omega (arith, c.args.self.now.within, c.len-self.ensures)) s.begins; begun = s.begun });
}
