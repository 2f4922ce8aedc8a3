use Rattle.std.proofs.Common.{◌≡◌, take}
use Rattle.std.specs.Str.Parse.{digits_value, AllDigits}
use Rattle.hx_tape_lines.proofs.decimal.split_from.Given as goal

abbrev pub invariant-loop-at : goal.invariant-loop-at
invariant-loop-at l = record {
  value : l.number ≡ digits_value 10 (take l.at l.text);
  digits : AllDigits 10 (take l.at l.text);
}
