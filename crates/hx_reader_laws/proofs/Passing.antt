-- That a screen that receives what a venue sends passes no message over.
use Rattle.std.proofs.Common.{◌≡◌, ℕ, List, [], ◌∷◌, ◌++◌, true, false, Option, Some, None, Ok, Err, refl, sym, ap, subst, ◌∙◌, append-nil}
use Rattle.std.specs.Prelude.{is_some}
use Rattle.std.specs.Option.{option_to_list}
use Rattle.std.specs.List.{AllByRecursion}
use Rattle.std.proofs.lemmas.Option.{same_Some}
use Rattle.hx_itch.specs.declared.message.Feed.{Feed}
use Rattle.hx_itch.specs.Message.{feed_message_of}
use Rattle.hx_match.proofs.First.{all_append}
use Rattle.hx_members.specs.Setups.{Setup}
use Rattle.hx_rules.specs.declared.event.Event.{Event}
use Rattle.hx_laws.specs.FeedBook.{ShownOrder, book_after, book_from}
use Rattle.hx_laws.proofs.FeedBook.ShownExecutions.{book_from-append}
use Rattle.hx_reader.specs.declared.fault.ApplyError.{ApplyError}
use Rattle.hx_reader.specs.declared.fault.ApplyError.TheVariants as errors
use Rattle.hx_reader.specs.declared.fault.ScreenError.TheVariants as faults
use Rattle.hx_reader.specs.declared.screen.Screen.{Screen}
use Rattle.hx_reader.specs.Faults.{fault_of, AreFaultless}
use Rattle.hx_reader.specs.Readings.{opening, ready}
use Rattle.hx_reader.specs.Runs.{Step, Comes, IsAsked, after, given, after_all, TellsOf}
use Rattle.hx_reader.specs.Screens.{readable, Drops}
use Rattle.hx_reader.proofs.Runs.{after_all_push, given_push}
use Rattle.hx_reader_laws.specs.Screens.{read, spelled_feed, CarriesFeed}
use Rattle.hx_reader_laws.specs.Calls.{Call, Receives, Steps, Does, Called, AreCalls, moves, moved_by, PassesNone}
use Rattle.hx_reader_laws.proofs.Screens.{is_the_book}
use Rattle.hx_reader_laws.proofs.FaultlessEvents.{has_no_fault}

-- ---- one step more

-- bytes more are read, or are no message
read_more : (xs : List (List ℕ)) (bytes : List ℕ) (seen : List Feed) (m : Feed) → read xs ≡ Some seen → feed_message_of bytes ≡ Some m → read (xs ++ bytes ∷ []) ≡ Some (seen ++ m ∷ [])
read_more [] bytes seen m h e = (let none : [] ≡ seen = same_Some [] seen h in rw e (ap (λ l. Some (l ++ m ∷ [])) none))
read_more (x ∷ xs) bytes seen m h e = choose (feed_message_of x) refl (read xs) refl (λ l q. read_more xs bytes l m q e)
  where
    choose : (o : Option Feed) → feed_message_of x ≡ o → (l : Option (List Feed)) → read xs ≡ l → ((k : List Feed) → read xs ≡ Some k → read (xs ++ bytes ∷ []) ≡ Some (k ++ m ∷ []))
        → read (x ∷ (xs ++ bytes ∷ [])) ≡ Some (seen ++ m ∷ [])
    choose None p l q ih = absurd (let z : read (x ∷ xs) ≡ None = rw p refl in cc)
    choose (Some k) p None q ih = absurd (let z : read (x ∷ xs) ≡ None = rw (p, q) refl in cc)
    choose (Some k) p (Some l) q ih =
        let z : read (x ∷ xs) ≡ Some (k ∷ l) = rw (p, q) refl in
        let same : k ∷ l ≡ seen = same_Some (k ∷ l) seen (sym z ∙ h) in
        let more : read (xs ++ bytes ∷ []) ≡ Some (l ++ m ∷ []) = ih l q in
        rw (p, more) (ap (λ s. Some (s ++ m ∷ [])) same)

read_none : (xs : List (List ℕ)) (bytes : List ℕ) → feed_message_of bytes ≡ None → read (xs ++ bytes ∷ []) ≡ None
read_none [] bytes e = rw e refl
read_none (x ∷ xs) bytes e = choose (feed_message_of x) refl (read_none xs bytes e)
  where
    choose : (o : Option Feed) → feed_message_of x ≡ o → read (xs ++ bytes ∷ []) ≡ None → read (x ∷ (xs ++ bytes ∷ [])) ≡ None
    choose None p ih = rw p refl
    choose (Some k) p ih = rw (p, ih) refl

faultless_at : (b : List ShownOrder) (xs : List Feed) (m : Feed) (ys : List Feed) → AreFaultless b ((xs ++ m ∷ []) ++ ys) → fault_of (book_from b xs) m ≡ None
faultless_at b [] m ys h = h.0
faultless_at b (x ∷ xs) m ys h = faultless_at (book_after b x) xs m ys h.1

-- the bytes of a message that is readable have come
came : (m : Feed) (o : Option (List ℕ)) → readable o ≡ Some m → (bytes : List ℕ) × (o ≡ Some bytes) × (feed_message_of bytes ≡ Some m)
came m None e = absurd (cc e)
came m (Some bytes) e = (bytes, refl, e)

module _ (setup : Setup) (events : List Event) (session : List ℕ) (indices : ℕ) where
  abbrev pub Tells : List Step → Type 0
  Tells steps = AllByRecursion (TellsOf (spelled_feed setup events) session) steps

  -- what is known of a screen after these steps of its reader, which gave these messages
  pub record At (done : List Step) (seen : List Feed) (s : Screen) : Type 0 where
    pub tells : Tells done
    pub reader : s.reader ≡ after_all (opening session indices) done
    pub reads : read (given (opening session indices) done) ≡ Some seen
    pub book : s.book ≡ book_from [] seen

  module _ (fits : (steps : List Step) → Tells steps → CarriesFeed setup events session steps) (done : List Step) (seen : List Feed) (s : Screen) (at : At done seen s) where
    asked : Tells (done ++ IsAsked ∷ [])
    asked = all_append (TellsOf (spelled_feed setup events) session) done (IsAsked ∷ []) at.tells (tt, tt)

    -- what the reader has given once the next message is asked for
    out : (bytes : List ℕ) → ready s.reader ≡ Some bytes → given (opening session indices) (done ++ IsAsked ∷ []) ≡ given (opening session indices) done ++ bytes ∷ []
    out bytes e =
        given_push (opening session indices) done IsAsked
        ∙ ap (λ o. given (opening session indices) done ++ option_to_list o) (ap ready (sym at.reader) ∙ e)

    reads_more : (m : Feed) → readable (ready s.reader) ≡ Some m → read (given (opening session indices) (done ++ IsAsked ∷ [])) ≡ Some (seen ++ m ∷ [])
    reads_more m e = (let b = came m (ready s.reader) e in ap read (out b.0 b.1) ∙ read_more (given (opening session indices) done) b.0 seen m at.reads b.2)

    readable_bytes : (o : Option (List ℕ)) → ready s.reader ≡ o → is_some o ≡ true → readable o ≡ None → ⊥
    readable_bytes None e some none = (let z : false ≡ true = some in cc)
    readable_bytes (Some bytes) e some none =
        let b = is_the_book setup events session indices (done ++ IsAsked ∷ []) (fits (done ++ IsAsked ∷ []) asked) in
        let z : read (given (opening session indices) (done ++ IsAsked ∷ [])) ≡ None = ap read (out bytes e) ∙ read_none (given (opening session indices) done) bytes none in
        let w : None ≡ Some b.0 = sym z ∙ b.2 in cc

    no_fault : (error : ApplyError) (t : Screen) → Drops s t error → ⊥
    no_fault error t d =
        let b = is_the_book setup events session indices (done ++ IsAsked ∷ []) (fits (done ++ IsAsked ∷ []) asked) in
        let same : seen ++ d.message ∷ [] ≡ b.0 = same_Some (seen ++ d.message ∷ []) b.0 (sym (reads_more d.message d.next) ∙ b.2) in
        let all : AreFaultless [] ((seen ++ d.message ∷ []) ++ b.1) = subst (AreFaultless []) (sym b.3 ∙ ap (λ l. l ++ b.1) (sym same)) (has_no_fault setup events) in
        let none : fault_of s.book d.message ≡ None = ap (λ k. fault_of k d.message) at.book ∙ faultless_at [] seen d.message b.1 all in
        let w : None ≡ Some error = sym none ∙ d.cause in cc

  pub none_passed : ((steps : List Step) → Tells steps → CarriesFeed setup events session steps) → (calls : List Called) (done : List Step) (seen : List Feed) (s : Screen) → At done seen s → AreCalls s calls → Tells (moved_by calls)
      → AllByRecursion (λ c. PassesNone c.0) calls
  none_passed fits [] done seen s at h tells = tt
  none_passed fits (c ∷ calls) done seen s at h tells = one c.0 h.0 tells (λ d k a m. none_passed fits calls d k c.1 a h.1 m)
    where
      t : Screen
      t = c.1

      one : (k : Call) → Does s t k → Tells (moves k ++ moved_by calls) → ((d : List Step) (l : List Feed) → At d l t → Tells (moved_by calls) → AllByRecursion (λ c. PassesNone c.0) calls)
          → PassesNone k × AllByRecursion (λ c. PassesNone c.0) calls
      one (Receives datagram) d more ih = (
        tt,
        ih (done ++ Comes datagram ∷ []) seen
            (record {
              tells = all_append (TellsOf (spelled_feed setup events) session) done (Comes datagram ∷ []) at.tells (more.0, tt);
              reader = d.0 ∙ ap (λ r. after r (Comes datagram)) at.reader ∙ sym (after_all_push (opening session indices) done (Comes datagram));
              reads = ap read (given_push (opening session indices) done (Comes datagram) ∙ append-nil (given (opening session indices) done)) ∙ at.reads;
              book = d.1 ∙ at.book;
            })
            more.1,
      )
      one (Steps (Ok None)) d more ih = (tt, ih done seen (subst (At done seen) (sym d.same) at) more.1)
      one (Steps (Ok (Some m))) d more ih = (
        tt,
        ih (done ++ IsAsked ∷ []) (seen ++ m ∷ [])
            (record {
              tells = asked fits done seen s at;
              reader = d.reader ∙ ap (λ r. after r IsAsked) at.reader ∙ sym (after_all_push (opening session indices) done IsAsked);
              reads = reads_more fits done seen s at m d.next;
              book = d.book ∙ ap (λ k. book_after k m) at.book ∙ sym (book_from-append [] seen (m ∷ []));
            })
            more.1,
      )
      one (Steps (Err faults.Unreadable)) d more ih = absurd (readable_bytes fits done seen s at (ready s.reader) refl d.come d.unreadable)
      one (Steps (Err (faults.Apply errors.NoMemory))) d more ih = (tt, ih done seen (subst (At done seen) (sym d.same) at) more)
      one (Steps (Err (faults.Apply errors.Unknown))) d more ih = absurd (no_fault fits done seen s at errors.Unknown t d)
      one (Steps (Err (faults.Apply errors.Known))) d more ih = absurd (no_fault fits done seen s at errors.Known t d)
      one (Steps (Err (faults.Apply errors.TooMany))) d more ih = absurd (no_fault fits done seen s at errors.TooMany t d)

  pub opened : (s : Screen) → s.reader ≡ opening session indices → s.book ≡ [] → At [] [] s
  opened s r b = record { tells = tt; reader = r; reads = refl; book = b }
