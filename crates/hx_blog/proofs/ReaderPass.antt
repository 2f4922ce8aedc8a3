-- The readers' pass: their steps keep the rule of the log, and what is loaded is what is known. They load the count, or a word below the count that they have seen.
use Rattle.std.proofs.Common.{◌≡◌, ℕ, zero, suc, ◌+◌, ◌-◌, ◌*◌, ◌<◌, List, ◌++◌, length, get_or, set, false, refl, ap, sym, ◌∙◌, subst, arith, append_assoc, length-append}
use Rattle.std.specs.List.{All}
use mathlib.Core.Option.{some, none}
use mathlib.Core.List.{IsPrefix}
use lib.ListN.{get_elem?, get_or-append}
use Rattle.atomic_table.specs.Table.{step, keeps, Allows}
use Rattle.hx_blog.specs.declared.view.View.{View}
use Rattle.hx_blog.specs.Packed.{IsMessage, words_of}
use Rattle.hx_blog.specs.Feed.{feed}
use Rattle.hx_blog.specs.Views.{LogState, SeatState}
use Rattle.hx_blog.specs.Rule.{KnowsABeginning, RuleOfTheLog}
use Rattle.hx_blog.specs.Steps.{IsWordOfFeed, LoadsCount, LoadsWord, LoadsLastWord}
use Rattle.hx_blog.proofs.Feeds.{feed-prefix, words-front, length-words}
use Rattle.hx_blog.proofs.Moves.{reader_moves, load_leaves, words_used}
use Rattle.hx_units.proofs.Prefixes.{prefix_self, prefix_length}

all_front : {A : Type 0} (P : A → Type 0) (xs ys zs : List A) → xs ++ ys ≡ zs → All P zs → All P xs
all_front P xs ys zs e h k d l =
    subst P (ap (λ ws. get_or ws k d) (sym e) ∙ get_or-append xs ys d k l) (h k d (let n = length-append xs ys in let m = ap length e in omega arith))

module _ {E : Type 0} (room : ℕ) where
  pub loads_count : (slots id : ℕ) (me : SeatState E) → me.0.gone ≡ false → me.0.writes ≡ false
      → Allows (RuleOfTheLog room) slots id me 0 (λ n. n) (LoadsCount (step slots 0 0 0 none) me)
  loads_count slots id me live reads s rule homes at fits =
      let v = me.0 in
      let f = rule.2.seats id v at live in
      let all = rule.1.known in
      let w : View E = record v { known = all; loads = v.loads + 1 } in
      let count : get_or s.words 0 0 ≡ length (feed all) = ap (λ ws. get_or ws 0 0) rule.2.words in
      let longer = prefix_length (feed v.known) (feed all) (feed-prefix v.known all f.known) in
      let r = f.read in
      let mine : KnowsABeginning room rule.0 all id w = record { room_is = f.room_is; known = prefix_self all; received = f.received; read = omega arith; only_writer = f.only_writer } in
      let used = words_used room s rule.0 rule.1 rule.2 in
      (w, keeps, tt, load_leaves room s 0 (set s.views id w) (reader_moves room s id v w rule at reads (λ _. mine)), (refl, f.known, count, omega (arith, count, used, f.room_is)))

  -- the word that stands below the count, and the messages there
  word_below : (s : LogState E) (slots id : ℕ) (me : SeatState E) (k : RuleOfTheLog room s) (i : ℕ) → get_elem? s.views id ≡ some me.0 → me.0.gone ≡ false → 0 < i → i - 1 < 6 * length (feed me.0.known)
      → IsWordOfFeed (step slots i 0 0 none) me (get_or s.words i 0)
  word_below s slots id me k zero at live above h = absurd (omega arith)
  word_below s slots id me k (suc j) at live above h =
      let known = feed me.0.known in
      let all = feed k.1.known ++ k.1.staged in
      let q = feed-prefix me.0.known k.1.known (k.2.seats id me.0 at live).known in
      let front : IsPrefix known all = (q.0 ++ k.1.staged, sym (append_assoc known q.0 k.1.staged) ∙ ap (λ l. l ++ k.1.staged) q.1) in
      let j_is : suc j - 1 ≡ j = omega arith in (
        ap (λ ws. get_or ws (suc j) 0) k.2.words
            ∙ (get_or-append (words_of all) (k.1.begun ++ k.2.unused) 0 j (omega (arith, length-words all, prefix_length known all front)) ∙ (words-front known all j front (omega arith) ∙ ap (λ x. get_or (words_of known) x 0) (sym j_is))),
        all_front IsMessage known front.0 all front.1 k.2.messages,
      )

  pub loads_word : (slots id : ℕ) (me : SeatState E) (i : ℕ) → me.0.gone ≡ false → me.0.writes ≡ false → 0 < i → i - 1 < 6 * length (feed me.0.known)
      → Allows (RuleOfTheLog room) slots id me i (λ n. n) (LoadsWord (step slots i 0 0 none) me)
  loads_word slots id me i live reads above h s rule homes at fits =
      let v = me.0 in
      (v, keeps, tt, load_leaves room s i (set s.views id v) (reader_moves room s id v v rule at reads (λ _. rule.2.seats id v at live)), (refl, word_below s slots id me rule i at live above h))

  pub loads_last_word : (slots id : ℕ) (me : SeatState E) (i : ℕ) → me.0.gone ≡ false → me.0.writes ≡ false → 0 < i → i - 1 < 6 * length (feed me.0.known) → me.0.read < length (feed me.0.known)
      → Allows (RuleOfTheLog room) slots id me i (λ n. n) (LoadsLastWord (step slots i 0 0 none) me)
  loads_last_word slots id me i live reads above h more s rule homes at fits =
      let v = me.0 in
      let f = rule.2.seats id v at live in
      let w : View E = record v { read = v.read + 1 } in
      let mine : KnowsABeginning room rule.0 rule.1.known id w = record { room_is = f.room_is; known = f.known; received = f.received; read = omega arith; only_writer = f.only_writer } in
      (w, keeps, tt, load_leaves room s i (set s.views id w) (reader_moves room s id v w rule at reads (λ _. mine)), (refl, word_below s slots id me rule i at live above h))
