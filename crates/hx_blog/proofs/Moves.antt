-- If one seat's view changes, the rule of the log stays.
use Rattle.std.proofs.Common.{◌≡◌, ◌≢◌, ℕ, zero, suc, ◌+◌, ◌*◌, ◌<◌, List, [], ◌∷◌, ◌++◌, length, get_or, set, true, false, true≢false, ap, sym, ◌∙◌, subst, ⊎_elim, arith, append_assoc, length-append}
use Rattle.std.specs.List.{All}
use Rattle.std.proofs.lemmas.List.{set-get_or}
use Rattle.std.proofs.Math.Seq.{set-append_seam}
use mathlib.Core.Option.{some, some-injective, some-ne-none}
use mathlib.Core.List.{IsPrefix}
use lib.ListN.{get_elem?}
use Rattle.atomic_table.proofs.Lists.{at_set, set_here, set_else}
use Rattle.hx_blog.specs.declared.view.View.{View}
use Rattle.hx_blog.specs.Packed.{IsMessage, words_of}
use Rattle.hx_blog.specs.Feed.{Entries, feed}
use Rattle.hx_blog.specs.Views.{LogState}
use Rattle.hx_blog.specs.Rule.{KnowsABeginning, IsWrittenBy, RuleOfTheLog}
use Rattle.hx_blog.proofs.Feeds.{length-words}
use Rattle.hx_units.proofs.Prefixes.{prefix_self, prefix_trans}

-- an index that has an element is within the list
pub within : {A : Type 0} (l : List A) (i : ℕ) (a : A) → get_elem? l i ≡ some a → i < length l
within [] i a e = absurd (some-ne-none a (sym e))
within (x ∷ xs) zero a e = omega arith
within (x ∷ xs) (suc i) a e = let h = within xs i a e in omega arith

-- a word is stored after those that were begun
pub more_words : (count : ℕ) (ws begun unused : List ℕ) (i n : ℕ) → i ≡ suc (length ws + length begun) → i < suc (length ws + (length begun + length unused))
    → (left : List ℕ) × (set (count ∷ (ws ++ (begun ++ unused))) i n ≡ count ∷ (ws ++ ((begun ++ n ∷ []) ++ left)))
more_words count ws begun [] i n e h = absurd (omega arith)
more_words count ws begun (r ∷ rest) i n e h =
    let here : set ((ws ++ begun) ++ r ∷ rest) (length (ws ++ begun)) n ≡ (ws ++ begun) ++ n ∷ rest = set-append_seam (ws ++ begun) r rest n in
    let at : i ≡ suc (length (ws ++ begun)) = e ∙ ap suc (sym (length-append ws begun)) in (
      rest,
      (λ k. set (count ∷ sym (append_assoc ws begun (r ∷ rest)) k) (at k) n) ∙ ap (λ l. count ∷ l) (here ∙ (append_assoc ws begun (n ∷ rest) ∙ ap (λ l. ws ++ l) (sym (append_assoc begun (n ∷ []) rest)))),
    )

module _ {E : Type 0} (room : ℕ) where
  -- a seat that knows a beginning of a list knows a beginning of a longer one
  pub knows_more : (writer : ℕ) (all now : Entries E) (seat : ℕ) (v : View E) → IsPrefix all now → KnowsABeginning room writer all seat v → KnowsABeginning room writer now seat v
  knows_more writer all now seat v p f =
      record { room_is = f.room_is; known = prefix_trans v.known all now f.known p; received = prefix_trans v.received all now f.received p; read = f.read; only_writer = f.only_writer }

  -- the other seats stay when one seat's view changes
  pub seats_set : (writer : ℕ) (all now : Entries E) (views : List (View E)) (id : ℕ) (w : View E) → IsPrefix all now
      → ((seat : ℕ) (v : View E) → get_elem? views seat ≡ some v → v.gone ≡ false → KnowsABeginning room writer all seat v)
      → (w.gone ≡ false → KnowsABeginning room writer now id w)
      → (seat : ℕ) (u : View E) → get_elem? (set views id w) seat ≡ some u → u.gone ≡ false → KnowsABeginning room writer now seat u
  seats_set writer all now views id w p others mine seat u e live =
      ⊎_elim
      (λ (t : (seat ≡ id) × (w ≡ u)). subst (λ (x : ℕ × View E). x.1.gone ≡ false → KnowsABeginning room writer now x.0 x.1) (λ i. (sym t.0 i, t.1 i)) mine live)
      (λ (t : (seat ≢ id) × (get_elem? views seat ≡ some u)). knows_more writer all now seat u p (others seat u t.1 live))
      (at_set views id seat w u e)

  -- the seat with a writer's view is the writer's
  pub the_writer : (s : LogState E) (id : ℕ) (v : View E) → RuleOfTheLog room s → get_elem? s.views id ≡ some v → v.gone ≡ false → v.writes ≡ true → IsWrittenBy room s id v
  the_writer s id v k at live writes =
      let here : id ≡ k.0 = (k.2.seats id v at live).only_writer writes in
      let same : k.1 ≡ v = some-injective k.1 v (sym k.2.view ∙ (ap (λ i. get_elem? s.views i) (sym here) ∙ at)) in
      subst (λ (x : ℕ × View E). IsWrittenBy room s x.0 x.1) (λ i. (sym here i, same i)) k.2

  -- the writer has a new view
  pub writer_moves : (s : LogState E) (id : ℕ) (v w : View E) (unused : List ℕ) (words : List ℕ) → IsWrittenBy room s id v → IsPrefix v.known w.known → w.gone ≡ false → w.writes ≡ true
      → words ≡ length (feed w.known) ∷ (words_of (feed w.known ++ w.staged) ++ (w.begun ++ unused)) → length words ≡ length s.words → All IsMessage (feed w.known ++ w.staged)
      → KnowsABeginning room id w.known id w
      → RuleOfTheLog room record { words = words; homes = s.homes; views = set s.views id w }
  writer_moves s id v w unused words k more live writes are long messages mine = (
    id,
    w,
    record {
      view = set_here s.views id w (within s.views id v k.view);
      live = live;
      writes = writes;
      unused = unused;
      words = are;
      word_count = long ∙ k.word_count;
      messages = messages;
      seats = seats_set id v.known w.known s.views id w more k.seats (λ _. mine);
    },
  )

  -- a seat that is not the writer's has a new view
  pub reader_moves : (s : LogState E) (id : ℕ) (v w : View E) (k : RuleOfTheLog room s) → get_elem? s.views id ≡ some v → v.writes ≡ false → (w.gone ≡ false → KnowsABeginning room k.0 k.1.known id w)
      → RuleOfTheLog room record { words = s.words; homes = s.homes; views = set s.views id w }
  reader_moves s id v w k at reads knows =
      let apart : k.0 ≢ id = λ e. true≢false (sym k.2.writes ∙ ap (λ (u : View E). u.writes) (some-injective k.1 v (sym k.2.view ∙ (ap (λ i. get_elem? s.views i) e ∙ at))) ∙ reads) in (
        k.0,
        k.1,
        record {
          view = set_else s.views id k.0 w apart ∙ k.2.view;
          live = k.2.live;
          writes = k.2.writes;
          unused = k.2.unused;
          words = k.2.words;
          word_count = k.2.word_count;
          messages = k.2.messages;
          seats = seats_set k.0 k.1.known k.1.known s.views id w (prefix_self k.1.known) k.2.seats knows;
        },
      )

  -- a load leaves the words
  pub load_leaves : (s : LogState E) (i : ℕ) (views : List (View E)) → RuleOfTheLog room record { words = s.words; homes = s.homes; views = views }
      → RuleOfTheLog room record { words = set s.words i (get_or s.words i 0); homes = s.homes; views = views }
  load_leaves s i views k = subst (λ ws. RuleOfTheLog room record { words = ws; homes = s.homes; views = views }) (sym (set-get_or s.words i 0)) k

  -- the words for which there is room
  pub words_used : (s : LogState E) (id : ℕ) (v : View E) (k : IsWrittenBy room s id v) → 6 * (length (feed v.known) + length v.staged) + (length v.begun + length k.unused) ≡ 6 * room
  words_used s id v k =
      omega (arith, sym k.word_count, ap length k.words, length-append (words_of (feed v.known ++ v.staged)) (v.begun ++ k.unused), length-words (feed v.known ++ v.staged), length-append (feed v.known) v.staged, length-append v.begun k.unused)
