-- The seats' pass: a seat is made, split off or joined into another, and the rule of the log stays.
use Rattle.std.proofs.Common.{◌≡◌, ◌≢◌, ℕ, zero, zero-le, suc, ◌+◌, ◌*◌, [], ◌∷◌, ◌++◌, length, set, replicate, Bool, true, false, true≢false, refl, ap, sym, ◌∙◌, subst, ⊎_elim, arith}
use mathlib.Core.Option.{some, none, some-injective, some-ne-none}
use mathlib.Core.List.{IsPrefix}
use native.Mathlib.Decide.{dec_le}
use lib.ListN.{get_elem?, length-replicate}
use Rattle.atomic_table.specs.Table.{step, keeps, Allows, Splits, Joins, opening}
use Rattle.atomic_table.proofs.Lists.{at_set, at_snoc, at_longer, set_again}
use Rattle.hx_blog.specs.declared.view.View.{View}
use Rattle.hx_blog.specs.Feed.{Entries, feed}
use Rattle.hx_blog.specs.Views.{LogState, SeatState, writing, spent}
use Rattle.hx_blog.specs.Rule.{KnowsABeginning, RuleOfTheLog}
use Rattle.hx_blog.specs.Steps.{newcomer, with_received, Learns, Confirms}
use Rattle.hx_blog.proofs.Prefixes.{longest}
use Rattle.hx_blog.proofs.Feeds.{feed-prefix}
use Rattle.hx_blog.proofs.Moves.{the_writer, writer_moves, reader_moves, load_leaves}
use Rattle.hx_units.proofs.Prefixes.{prefix_self, prefix_length}

not_writing : false ≡ true → ⊥
not_writing e = true≢false (sym e)

module _ {E : Type 0} (room : ℕ) where
  -- a new log
  pub begins : RuleOfTheLog room (opening (replicate (6 * room + 1) 0) [] (writing {E = E} room [] [] []))
  begins = let w : View E = writing room [] [] [] in (
    0,
    w,
    record {
      view = refl;
      live = refl;
      writes = refl;
      unused = replicate (6 * room) 0;
      words = ap (λ k. replicate k 0) (let e : 6 * room + 1 ≡ suc (6 * room) = omega arith in e);
      word_count = length-replicate (6 * room + 1) 0;
      messages = λ k d l. absurd (omega arith);
      seats = one;
    },
  )
    where
      one : (seat : ℕ) (v : View E) → get_elem? (writing {E = E} room [] [] [] ∷ []) seat ≡ some v → v.gone ≡ false → KnowsABeginning room 0 [] seat v
      one zero v e l = subst (λ (u : View E). KnowsABeginning room 0 [] 0 u) (some-injective _ v e) record { room_is = refl; known = ([], refl); received = ([], refl); read = zero-le; only_writer = λ _. refl }
      one (suc seat) v e l = absurd (some-ne-none v (sym e))

  pub splits_off : (id : ℕ) (v : View E) → v.gone ≡ false → Splits (RuleOfTheLog room) id v v (newcomer v)
  splits_off id v live s rule at =
      let new = newcomer v in
      let f = rule.2.seats id v at live in
      let same = set_again s.views id v at in
      let whole : set s.views id v ++ new ∷ [] ≡ s.views ++ new ∷ [] = ap (λ vs. vs ++ new ∷ []) same in
      let mine : (seat : ℕ) → KnowsABeginning room rule.0 rule.1.known seat new = λ seat. record {
        room_is = f.room_is;
        known = f.known;
        received = (rule.1.known, refl);
        read = zero-le;
        only_writer = λ e. absurd (not_writing e);
      } in
      subst (λ vs. RuleOfTheLog room record { words = s.words; homes = s.homes; views = vs }) (sym whole) (
        rule.0,
        rule.1,
        record {
          view = at_longer s.views (new ∷ []) rule.0 rule.1 rule.2.view;
          live = rule.2.live;
          writes = rule.2.writes;
          unused = rule.2.unused;
          words = rule.2.words;
          word_count = rule.2.word_count;
          messages = rule.2.messages;
          seats = λ seat u e l.
              ⊎_elim
              (λ (was : get_elem? s.views seat ≡ some u). rule.2.seats seat u was l)
              (λ (is : new ≡ u). subst (KnowsABeginning room rule.0 rule.1.known seat) is (mine seat))
              (at_snoc s.views new u seat e);
        },
      )

  writer_receives : (s : LogState E) (id : ℕ) (v : View E) (all : Entries E) (rule : RuleOfTheLog room s) → get_elem? s.views id ≡ some v → v.gone ≡ false → v.writes ≡ true → IsPrefix all rule.1.known
      → RuleOfTheLog room record { words = s.words; homes = s.homes; views = set s.views id (record v { received = all }) }
  writer_receives s id v all rule at live writes p =
      let k = the_writer room s id v rule at live writes in
      let f = k.seats id v at live in
      let here : id ≡ rule.0 = (rule.2.seats id v at live).only_writer writes in
      let same : rule.1.known ≡ v.known = ap (λ (u : View E). u.known) (some-injective rule.1 v (sym rule.2.view ∙ (ap (λ i. get_elem? s.views i) (sym here) ∙ at))) in
      writer_moves room s id v (record v { received = all }) k.unused s.words k (prefix_self v.known) live writes k.words refl k.messages
      record { room_is = f.room_is; known = f.known; received = subst (IsPrefix all) same p; read = f.read; only_writer = f.only_writer }

  -- any seat may take in a beginning of what is published
  receives : (s : LogState E) (id : ℕ) (v : View E) (all : Entries E) (b : Bool) → v.writes ≡ b → (rule : RuleOfTheLog room s) → get_elem? s.views id ≡ some v → v.gone ≡ false → IsPrefix all rule.1.known
      → RuleOfTheLog room record { words = s.words; homes = s.homes; views = set s.views id (record v { received = all }) }
  receives s id v all true writes rule at live p = writer_receives s id v all rule at live writes p
  receives s id v all false reads rule at live p =
      let f = rule.2.seats id v at live in
      reader_moves room s id v (record v { received = all }) rule at reads (λ _. record { room_is = f.room_is; known = f.known; received = p; read = f.read; only_writer = f.only_writer })

  pub joins : (id : ℕ) (v : View E) (other : ℕ) (w : View E) → v.gone ≡ false → w.gone ≡ false → w.writes ≡ false → Joins (RuleOfTheLog room) id v other w (with_received v w) spent
  joins id v other w live other_live reads s rule at apart there =
      let received : IsPrefix w.known rule.1.known =
      ⊎_elim (λ (t : (other ≡ id) × (with_received v w ≡ w)). absurd (apart t.0)) (λ (t : (other ≢ id) × (get_elem? s.views other ≡ some w)). (rule.2.seats other w t.1 other_live).known)
      (at_set s.views id other (with_received v w) w there) in
      let both = receives s id v w.known v.writes refl rule at live received in
      reader_moves room record { words = s.words; homes = s.homes; views = set s.views id (with_received v w) } other w spent both there reads (λ gone. absurd (true≢false gone))

  pub learns : (slots id : ℕ) (me : SeatState E) → me.0.gone ≡ false → me.0.writes ≡ false → Allows (RuleOfTheLog room) slots id me 0 (λ n. n) (Learns (step slots 0 0 0 none) me)
  learns slots id me live reads s rule homes at fits =
      let v = me.0 in
      let f = rule.2.seats id v at live in
      let l = longest v.known v.received rule.1.known f.known f.received (dec_le (length v.received) (length v.known)) in
      let w : View E = record v { known = l.0; received = [] } in
      let longer = prefix_length (feed v.known) (feed l.0) (feed-prefix v.known l.0 l.2) in
      let r = f.read in
      let mine : KnowsABeginning room rule.0 rule.1.known id w = record { room_is = f.room_is; known = l.1; received = (rule.1.known, refl); read = omega arith; only_writer = f.only_writer } in
      (w, keeps, tt, load_leaves room s 0 (set s.views id w) (reader_moves room s id v w rule at reads (λ _. mine)), (refl, l.2, l.3, l.4))

  pub confirms : (slots id : ℕ) (me : SeatState E) → me.0.gone ≡ false → me.0.writes ≡ true → Allows (RuleOfTheLog room) slots id me 0 (λ n. n) (Confirms (step slots 0 0 0 none) me)
  confirms slots id me live writes s rule homes at fits =
      let v = me.0 in
      let k = the_writer room s id v rule at live writes in
      (record v { received = [] }, keeps, tt, load_leaves room s 0 (set s.views id (record v { received = [] })) (receives s id v [] v.writes refl rule at live (rule.1.known, refl)), (refl, (k.seats id v at live).received))
