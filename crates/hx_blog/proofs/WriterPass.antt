-- The writer's pass: its steps keep the rule of the log. It stores a word above the count, or the count.
use Rattle.std.proofs.Common.{◌≡◌, ℕ, zero, suc, ◌+◌, ◌*◌, ◌<◌, List, [], ◌∷◌, ◌++◌, length, set, true, false, refl, ap, sym, ◌∙◌, subst, arith, append_assoc, append-nil, length-append, length-set}
use Rattle.std.specs.List.{All}
use Rattle.std.proofs.lemmas.List.Elements.{All-append}
use mathlib.Core.Option.{none}
use mathlib.Core.List.{IsPrefix}
use Rattle.atomic_table.specs.Table.{step, keeps, Allows}
use Rattle.hx_blog.specs.declared.view.View.{View}
use Rattle.hx_blog.specs.Packed.{IsMessage, packed, words_of}
use Rattle.hx_blog.specs.Feed.{Entries, feed}
use Rattle.hx_blog.specs.Views.{SeatState}
use Rattle.hx_blog.specs.Rule.{KnowsABeginning, RuleOfTheLog}
use Rattle.hx_blog.specs.Steps.{StoresWord, StoresLastWord, StoresCount}
use Rattle.hx_blog.proofs.Feeds.{feed-append, words-append, length-words}
use Rattle.hx_blog.proofs.Moves.{more_words, the_writer, writer_moves, words_used}
use Rattle.hx_units.proofs.Prefixes.{prefix_self}

all_one : {A : Type 0} (P : A → Type 0) (y : A) → P y → All P (y ∷ [])
all_one P y p zero d l = p
all_one P y p (suc k) d l = absurd (omega arith)

-- the words of staged messages, of which the last has just been stored whole
one_message_more : (ms staged : List (List ℕ)) (begun left : List ℕ) (message : List ℕ) → begun ≡ packed message
    → words_of (ms ++ staged) ++ (begun ++ left) ≡ words_of (ms ++ (staged ++ message ∷ [])) ++ ([] ++ left)
one_message_more ms staged begun left message whole =
    let one : words_of (message ∷ []) ≡ packed message = append-nil (packed message) in
    let all : ms ++ (staged ++ message ∷ []) ≡ (ms ++ staged) ++ message ∷ [] = sym (append_assoc ms staged (message ∷ [])) in
    ap (λ l. words_of (ms ++ staged) ++ (l ++ left)) (whole ∙ sym one)
    ∙ (sym (append_assoc (words_of (ms ++ staged)) (words_of (message ∷ [])) left) ∙ ap (λ l. l ++ left) (sym (words-append (ms ++ staged) (message ∷ [])) ∙ ap words_of (sym all)))

module _ {E : Type 0} (room : ℕ) where
  pub stores_word : (slots id : ℕ) (me : SeatState E) (i n : ℕ) → me.0.gone ≡ false → me.0.writes ≡ true
      → i ≡ suc (6 * (length (feed me.0.known) + length me.0.staged) + length me.0.begun) → i < 6 * room + 1
      → Allows (RuleOfTheLog room) slots id me i (λ _. n) (λ _. StoresWord (step slots i n 0 none) me n)
  stores_word slots id me i n live writes after below s rule homes at fits =
      let v = me.0 in
      let k = the_writer room s id v rule at live writes in
      let w : View E = record v { begun = v.begun ++ n ∷ [] } in
      let ws : List ℕ = words_of (feed v.known ++ v.staged) in
      let long : length ws ≡ 6 * (length (feed v.known) + length v.staged) = length-words (feed v.known ++ v.staged) ∙ ap (λ l. 6 * l) (length-append (feed v.known) v.staged) in
      let more = more_words (length (feed v.known)) ws v.begun k.unused i n (after ∙ ap (λ l. suc (l + length v.begun)) (sym long)) (omega (arith, long, words_used room s id v k)) in
      let f = k.seats id v at live in (
        w,
        keeps,
        tt,
        writer_moves room s id v w more.0 (set s.words i n) k (prefix_self v.known) live writes (ap (λ l. set l i n) k.words ∙ more.1) (length-set s.words i n) k.messages
            record { room_is = f.room_is; known = f.known; received = f.received; read = f.read; only_writer = λ _. refl },
        refl,
      )

  pub stores_last_word : (slots id : ℕ) (me : SeatState E) (message : List ℕ) (i n : ℕ) → me.0.gone ≡ false → me.0.writes ≡ true
      → i ≡ suc (6 * (length (feed me.0.known) + length me.0.staged) + length me.0.begun) → i < 6 * room + 1
      → IsMessage message → me.0.begun ++ n ∷ [] ≡ packed message
      → Allows (RuleOfTheLog room) slots id me i (λ _. n) (λ _. StoresLastWord message (step slots i n 0 none) me n)
  stores_last_word slots id me message i n live writes after below is whole s rule homes at fits =
      let v = me.0 in
      let k = the_writer room s id v rule at live writes in
      let w : View E = record v { staged = v.staged ++ message ∷ []; begun = [] } in
      let ws : List ℕ = words_of (feed v.known ++ v.staged) in
      let long : length ws ≡ 6 * (length (feed v.known) + length v.staged) = length-words (feed v.known ++ v.staged) ∙ ap (λ l. 6 * l) (length-append (feed v.known) v.staged) in
      let more = more_words (length (feed v.known)) ws v.begun k.unused i n (after ∙ ap (λ l. suc (l + length v.begun)) (sym long)) (omega (arith, long, words_used room s id v k)) in
      let words = one_message_more (feed v.known) v.staged (v.begun ++ n ∷ []) more.0 message whole in
      let messages : All IsMessage (feed v.known ++ (v.staged ++ message ∷ [])) =
      subst (All IsMessage) (append_assoc (feed v.known) v.staged (message ∷ [])) (All-append IsMessage (feed v.known ++ v.staged) (message ∷ []) k.messages (all_one IsMessage message is)) in
      let f = k.seats id v at live in (
        w,
        keeps,
        tt,
        writer_moves room s id v w more.0 (set s.words i n) k (prefix_self v.known) live writes (ap (λ l. set l i n) k.words ∙ (more.1 ∙ ap (λ l. length (feed v.known) ∷ l) words)) (length-set s.words i n) messages
            record { room_is = f.room_is; known = f.known; received = f.received; read = f.read; only_writer = λ _. refl },
        refl,
      )

  pub stores_count : (slots id : ℕ) (me : SeatState E) (entries : Entries E) (left : List (List ℕ)) (n : ℕ) → me.0.gone ≡ false → me.0.writes ≡ true → me.0.received ≡ [] → me.0.read ≡ 0
      → feed entries ++ left ≡ me.0.staged → n ≡ length (feed me.0.known) + length (feed entries)
      → Allows (RuleOfTheLog room) slots id me 0 (λ _. n) (λ _. StoresCount entries left (step slots 0 n 0 none) me n)
  stores_count slots id me entries left n live writes received read same count s rule homes at fits =
      let v = me.0 in
      let k = the_writer room s id v rule at live writes in
      let w : View E = record v { known = v.known ++ entries; staged = left } in
      let grown : feed w.known ≡ feed v.known ++ feed entries = feed-append v.known entries in
      let all : feed w.known ++ left ≡ feed v.known ++ v.staged = ap (λ ms. ms ++ left) grown ∙ (append_assoc (feed v.known) (feed entries) left ∙ ap (λ ms. feed v.known ++ ms) same) in
      let number : n ≡ length (feed w.known) = count ∙ sym (ap length grown ∙ length-append (feed v.known) (feed entries)) in
      let words : set s.words 0 n ≡ length (feed w.known) ∷ (words_of (feed w.known ++ left) ++ (v.begun ++ k.unused)) =
      ap (λ ws. set ws 0 n) k.words ∙ (λ i. number i ∷ (words_of (sym all i) ++ (v.begun ++ k.unused))) in
      let mine : KnowsABeginning room id w.known id w = record {
        room_is = (k.seats id v at live).room_is;
        known = prefix_self w.known;
        received = subst (λ t. IsPrefix t w.known) (sym received) (w.known, refl);
        read = omega (arith, read);
        only_writer = λ _. refl;
      } in (
        w,
        keeps,
        tt,
        writer_moves room s id v w k.unused (set s.words 0 n) k (entries, refl) live writes words (length-set s.words 0 n) (subst (All IsMessage) (sym all) k.messages) mine,
        refl,
      )
