-- The tape of a day that was served, and its replay.
use Rattle.std.specs.Prelude.{◌≡◌, ℕ, ◌+◌, ◌<◌, List, [], ◌∷◌, ◌++◌, Option, Some, codes}
use Rattle.std.specs.Io.KnownBytes.{Appends}
use Rattle.std.specs.Fmt.{decimal}
use Rattle.hex.specs.Hex.{encode_lower}
use Rattle.hx_units.specs.Limits.{member_numbers}
use Rattle.hx_units.specs.Letters.{space, line_feed}
use Rattle.hx_blog.specs.Feed.{feed}
use Rattle.hx_members.specs.Setups.{Setup}
use Rattle.hx_tape_lines.specs.Text.{Entry as Line, record_of, tape}
use Rattle.hx_laws.specs.Recorded.{AreRecorded}
use Rattle.hx_desk.specs.declared.entry.Entry.{Entry}
use Rattle.hx_desk.specs.Entries.{events_of, ledger}
use Rattle.hx_desk.specs.Known.{known_replies}
use Rattle.hx_engine.specs.Journals.{lines}
use Rattle.hx_tape_lines.specs.declared.fault.Kind.{Kind}
use Rattle.hx_replay.specs.declared.fault.TapeError.TheVariants as fault
use Rattle.hx_replay.specs.declared.run.Counts.{Counts}
use Rattle.hx_replay.specs.Whole.{ReplaysAll, StopsAt}
use Rattle.hx_replay.specs.Run.{start, output_all, AreEvents}
use Rattle.hx_replay.specs.Seen.{texts_of, output_lines}
use Rattle.hx_replay.specs.Grep.{lines_with, of_member, lines_of_feed}
use Rattle.hx_recovery.specs.Recovery.{AreReadBack}

-- the tape of records: a line of each
abbrev pub tape_of : (texts : List (List ℕ)) → List ℕ
tape_of [] = []
tape_of (text ∷ texts) = text ++ line_feed ∷ tape_of texts

-- `replay` takes the text, all of it, and this is what it writes for it
pub record IsReplayOf (setup : Setup) (text output : List ℕ) : Type 0 where
  pub entries : List Line
  pub taken : AreEvents (start setup) entries
  pub text_is : tape entries ≡ text
  pub output_is : output ≡ output_all (start setup) entries

-- the contract of `replay` says so, if it answers Ok, of a reader that has this text
abbrev pub ReplayIsSuch : Type 0
ReplayIsSuch =
    (setup : Setup) (counts : Counts) (text : List ℕ) (left old new : Option (List ℕ))
    → ReplaysAll setup counts (Some text) left old new
    → (output : List ℕ) × IsReplayOf setup text output × Appends old new output

-- messages of the feed as lines of output, after n others
abbrev pub feed_text : (n : ℕ) → (messages : List (List ℕ)) → List ℕ
feed_text n [] = []
feed_text n (message ∷ messages) =
    (codes "F " ++ (decimal (n + 1) ++ (space ∷ (encode_lower message ++ line_feed ∷ []))))
    ++ feed_text (n + 1) messages

-- replies to a member as lines of output, after n others
abbrev pub reply_text : (member n : ℕ) → (replies : List (List ℕ)) → List ℕ
reply_text member n [] = []
reply_text member n (reply ∷ replies) =
    (codes "M " ++ (decimal member
    ++ (space ∷ (decimal (n + 1) ++ (space ∷ (encode_lower reply ++ line_feed ∷ []))))))
    ++ reply_text member (n + 1) replies

-- An output text has the output of a history, and nothing else: its lines of the feed, those that begin with F, are the
-- messages of the feed, and its lines to each member, those that begin with M and the member's number, are the replies
-- to that member, each of them numbered from 1 on.
pub record TellsTheSame (setup : Setup) (history : List Entry) (output : List ℕ) : Type 0 where
  pub all : output ≡ texts_of (output_lines setup (events_of history))
  pub feed_lines : lines_of_feed output ≡ feed_text 0 (feed (ledger setup history))
  pub member_lines :
      (member : ℕ)
      → member < member_numbers
      → lines_with (of_member member) output
      ≡ reply_text member 0 (known_replies setup member (ledger setup history))

-- The tape of the records of a history that the market accepts is replayed, and whatever a replay of it writes is the
-- output of the history.
pub record IsReplayedAsServed (setup : Setup) (history : List Entry) : Type 0 where
  pub written : List ℕ
  pub is_taken : IsReplayOf setup (tape_of (lines record_of history)) written
  pub tells :
      (output : List ℕ) → IsReplayOf setup (tape_of (lines record_of history)) output
      → TellsTheSame setup history output

abbrev pub ServedDayReplays : Type 0
ServedDayReplays =
    (setup : Setup) (history : List Entry)
    → AreReadBack (events_of history)
    → AreRecorded setup (events_of history)
    → IsReplayedAsServed setup history

-- No replay of it stops at a line: only memory, the reader and the writer may fail.
abbrev pub NoLineStops : Type 0
NoLineStops =
    (setup : Setup) (history : List Entry) (number : ℕ) (kind : Kind)
    (left old new : Option (List ℕ))
    → AreReadBack (events_of history)
    → AreRecorded setup (events_of history)
    → StopsAt setup (fault.Line number kind) (Some (tape_of (lines record_of history))) left old new
    → ⊥
