-- The rule of the log, which holds between any two steps of any threads.
use Rattle.std.specs.Prelude.{◌≡◌, ℕ, ◌+◌, ◌*◌, ◌≤◌, List, ◌∷◌, ◌++◌, All, length, true, false}
use mathlib.Core.Option.{some}
use mathlib.Core.List.{IsPrefix}
use lib.ListN.{get_elem?}
use Rattle.hx_blog.specs.Packed.{IsMessage, words_of}
use Rattle.hx_blog.specs.Feed.{Entries, feed}
use Rattle.hx_blog.specs.Views.{LogState}
use Rattle.hx_blog.specs.declared.view.View.{View}

module _ {E : Type 0} where
  -- What a seat knows is a beginning of what is published, and so is the list that was just joined into it; it has read
  -- at most the messages that it knows; and no seat but the writer's is a writer's.
  pub record KnowsABeginning (room writer : ℕ) (published : Entries E) (seat : ℕ) (v : View E)
      : Type 0 where
    pub room_is : v.room ≡ room
    pub known : IsPrefix v.known published
    pub received : IsPrefix v.received published
    pub read : v.read ≤ length (feed v.known)
    pub only_writer : v.writes ≡ true → seat ≡ writer

  -- The seat `writer` is the writer's and has the view w. Word 0 is the number of messages that it published. After it
  -- stand the six words of each of these messages, then those of each message that it staged, then the words of the
  -- message that it has begun, and then words not yet used. Each seat that was not joined into another knows a
  -- beginning of what is published.
  pub record IsWrittenBy (room : ℕ) (s : LogState E) (writer : ℕ) (w : View E) : Type 0 where
    pub view : get_elem? s.views writer ≡ some w
    pub live : w.gone ≡ false
    pub writes : w.writes ≡ true
    pub unused : List ℕ
    pub words : s.words ≡ length (feed w.known)
        ∷ (words_of (feed w.known ++ w.staged) ++ (w.begun ++ unused))
    pub word_count : length s.words ≡ 6 * room + 1
    pub messages : All IsMessage (feed w.known ++ w.staged)
    pub seats : (seat : ℕ) (v : View E) → get_elem? s.views seat ≡ some v → v.gone ≡ false
        → KnowsABeginning room writer w.known seat v

  -- The rule of the log with room for `room` messages: some seat is the writer's, and the words and all seats agree
  -- with it.
  abbrev pub RuleOfTheLog : ℕ → LogState E → Type 0
  RuleOfTheLog room s = (writer : ℕ) × (w : View E) × IsWrittenBy room s writer w
