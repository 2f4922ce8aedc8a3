-- The first line of a tape that fails a check.
use Rattle.std.specs.Prelude.{◌≡◌, ℕ, ◌+◌, List, ◌++◌, length, Option}
use Rattle.std.specs.Io.KnownBytes.{Consumes, IsAtEnd}
use Rattle.hx_members.specs.Setups.{Setup}
use Rattle.hx_tape_lines.specs.declared.fault.Kind.{Kind}
use Rattle.hx_tape_lines.specs.Text.{Entry, tape}
use Rattle.hx_replay.specs.Run.{start, after_all, AreEvents, BeginsBadly}

-- the first line of a text that fails a check; the end of the text is the end of the tape if End holds
pub record FirstFault (End : Type 0) (setup : Setup) (n : ℕ) (k : Kind) (text : List ℕ)
    : Type 0 where
  pub events : List Entry
  pub are_events : AreEvents (start setup) events
  pub rest : List ℕ
  pub text_is : text ≡ tape events ++ rest
  pub number : n ≡ length events + 1
  pub why : BeginsBadly End (after_all (start setup) events) k rest

-- in what was read this line is the first that fails a check
pub record StopsBefore (setup : Setup) (n : ℕ) (k : Kind) (r s : Option (List ℕ)) : Type 0 where
  pub text : List ℕ
  pub read : Consumes r s text
  pub fault : FirstFault (IsAtEnd s) setup n k text

-- what was read is a beginning of what there was, which may be all of it
abbrev pub ReadsSome : Option (List ℕ) → Option (List ℕ) → Type 0
ReadsSome r s = (text : List ℕ) × Consumes r s text
