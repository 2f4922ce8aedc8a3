-- What whole runs of a screen leave and hand out.
use Rattle.std.proofs.Common.{◌≡◌, ℕ, List, [], ◌∷◌, ◌++◌, Option, Some, None, Ok, Err, refl, sym, ap, subst, ◌∙◌}
use Rattle.std.specs.Option.{option_to_list}
use Rattle.std.specs.List.{AllByRecursion}
use Rattle.std.proofs.lemmas.Option.{same_Some}
use Rattle.hx_itch.specs.declared.message.Feed.{Feed}
use Rattle.hx_itch.specs.Message.{feed_message_of}
use Rattle.hx_rules.specs.Steps.{feed}
use Rattle.hx_laws.specs.FeedBook.{shown_book, book_from, IsUncrossed}
use Rattle.hx_laws.proofs.Fits.Runs.{feed_fits}
use Rattle.hx_reader.specs.declared.fault.ApplyError.TheVariants as errors
use Rattle.hx_reader.specs.declared.fault.ScreenError.TheVariants as faults
use Rattle.hx_reader.specs.declared.screen.Screen.{Screen}
use Rattle.hx_reader.specs.Readings.{Reading, opening, ready, handed, received, is_whole}
use Rattle.hx_reader.specs.Runs.{given, after_all, TellsOf}
use Rattle.hx_reader.specs.Screens.{readable}
use Rattle.hx_reader_laws.specs.Screens.{read, spelled_feed, CarriesFeed}
use Rattle.hx_reader_laws.specs.Calls.{Call, Receives, Steps, Does, Called, screen_after, output_by, moves, moved_by, PassesNone, Ran, RunsSo, ComesFrom, ShowsTheBook}
use Rattle.hx_reader_laws.proofs.Screens.{is_the_book, is_all_of_it}
use Rattle.hx_reader_laws.proofs.Venues.{packets_carry}
use Rattle.hx_reader_laws.proofs.Passing.{none_passed, opened}

module _ (s t : Screen) (calls : List Called) (r : Ran t calls) where
  -- the screen is as it was
  stays : t ≡ s → (screen_after t calls).reader ≡ after_all s.reader (moved_by calls)
  stays e = r.reader ∙ ap (λ (x : Screen). after_all x.reader (moved_by calls)) e

  same_book : t.book ≡ s.book → (screen_after t calls).book ≡ book_from s.book (output_by calls)
  same_book e = r.book ∙ ap (λ b. book_from b (output_by calls)) e

  reading : (x : Reading) → t.reader ≡ x → AllByRecursion (λ c. PassesNone c.0) calls → read (given x (moved_by calls)) ≡ Some (output_by calls)
  reading x e none = ap (λ y. read (given y (moved_by calls))) (sym e) ∙ r.reads none

  goes : t.reader ≡ handed s.reader (ready s.reader) → (screen_after t calls).reader ≡ after_all (handed s.reader (ready s.reader)) (moved_by calls)
  goes e = r.reader ∙ ap (λ x. after_all x (moved_by calls)) e

  -- the message that has come is read
  came : (m : Feed) (o : Option (List ℕ)) → readable o ≡ Some m → read (given (handed s.reader o) (moved_by calls)) ≡ Some (output_by calls)
      → read (option_to_list o ++ given (handed s.reader o) (moved_by calls)) ≡ Some (m ∷ output_by calls)
  came m None e rest = absurd (cc e)
  came m (Some bytes) e rest = (let f : feed_message_of bytes ≡ Some m = e in rw (f, rest) refl)

  one_more : (c : Call) → Does s t c → Ran s ((c, t) ∷ calls)
  one_more (Receives datagram) h = record {
    reader = r.reader ∙ ap (λ x. after_all x (moved_by calls)) h.0;
    book = same_book h.1;
    reads = λ none. reading (received s.reader datagram) h.0 none.1;
  }
  one_more (Steps (Ok None)) h =
      let idle : handed s.reader (ready s.reader) ≡ s.reader = ap (handed s.reader) h.none in
      record {
        reader = stays h.same ∙ ap (λ x. after_all x (moved_by calls)) (sym idle);
        book = same_book (ap (λ (x : Screen). x.book) h.same);
        reads = λ none. ap (λ o. read (option_to_list o ++ given (handed s.reader o) (moved_by calls))) h.none ∙ reading s.reader (ap (λ (x : Screen). x.reader) h.same) none.1;
      }
  one_more (Steps (Ok (Some m))) h = record {
    reader = goes h.reader;
    book = r.book ∙ ap (λ b. book_from b (output_by calls)) h.book;
    reads = λ none. came m (ready s.reader) h.next (reading (handed s.reader (ready s.reader)) h.reader none.1);
  }
  one_more (Steps (Err faults.Unreadable)) h = record { reader = goes h.reader; book = same_book h.book; reads = λ none. absurd none.0 }
  one_more (Steps (Err (faults.Apply errors.NoMemory))) h = record {
    reader = stays h.same;
    book = same_book (ap (λ (x : Screen). x.book) h.same);
    reads = λ none. reading s.reader (ap (λ (x : Screen). x.reader) h.same) none.1;
  }
  one_more (Steps (Err (faults.Apply errors.Unknown))) h = record { reader = goes h.reader; book = same_book h.book; reads = λ none. absurd none.0 }
  one_more (Steps (Err (faults.Apply errors.Known))) h = record { reader = goes h.reader; book = same_book h.book; reads = λ none. absurd none.0 }
  one_more (Steps (Err (faults.Apply errors.TooMany))) h = record { reader = goes h.reader; book = same_book h.book; reads = λ none. absurd none.0 }

pub runs_so : RunsSo
runs_so screen [] h = record { reader = refl; book = refl; reads = λ none. refl }
runs_so screen (c ∷ calls) h = one_more screen c.1 calls (runs_so c.1 calls h.1) c.0 h.0

-- ---- the book of the venue

-- the reader's steps are of the feed
carried : (M : Type 0) (messages_of : M → List (List ℕ)) (feed : List (List ℕ)) (session : List ℕ) (calls : List Called)
    → AllByRecursion (λ c. ComesFrom M messages_of feed session c.0) calls → AllByRecursion (TellsOf feed session) (moved_by calls)
carried M messages_of feed session [] all = tt
carried M messages_of feed session (c ∷ calls) all = one c.0 all.0 (carried M messages_of feed session calls all.1)
  where
    one : (k : Call) → ComesFrom M messages_of feed session k → AllByRecursion (TellsOf feed session) (moved_by calls) → AllByRecursion (TellsOf feed session) (moves k ++ moved_by calls)
    one (Receives datagram) h ih = ((λ p e s. packets_carry M messages_of feed session datagram (h p e s) p e s), ih)
    one (Steps (Ok message)) h ih = (tt, ih)
    one (Steps (Err faults.Unreadable)) h ih = (tt, ih)
    one (Steps (Err (faults.Apply errors.NoMemory))) h ih = ih
    one (Steps (Err (faults.Apply errors.Unknown))) h ih = (tt, ih)
    one (Steps (Err (faults.Apply errors.Known))) h ih = (tt, ih)
    one (Steps (Err (faults.Apply errors.TooMany))) h ih = (tt, ih)

pub shows_the_book : (M : Type 0) → ShowsTheBook M
unfolding shown_book
shows_the_book M messages_of setup events session indices screen calls f =
    let steps = moved_by calls in
    let last = screen_after screen calls in
    let carries : CarriesFeed setup events session steps = (feed_fits setup events f.fits_setup f.fits_events f.recorded, carried M messages_of (spelled_feed setup events) session calls f.from_venue) in
    let ran = runs_so screen calls f.are_calls in
    let none = none_passed setup events session indices (λ done tells. (carries.0, tells)) calls [] [] screen (opened setup events session indices screen f.is_new.reader f.is_new.book) f.are_calls carries.1 in
    let b = is_the_book setup events session indices steps carries in
    let out : read (given (opening session indices) steps) ≡ Some (output_by calls) = ap (λ x. read (given x steps)) (sym f.is_new.reader) ∙ ran.reads none in
    let seen : output_by calls ≡ b.0 = same_Some (output_by calls) b.0 (sym out ∙ b.2) in
    let book : last.book ≡ shown_book (output_by calls) = ran.book ∙ ap (λ k. book_from k (output_by calls)) f.is_new.book in
    record {
      passes_none = none;
      later = b.1;
      beginning = ap (λ l. l ++ b.1) seen ∙ b.3;
      book = book;
      at_event = λ n e. (let at = b.4 n (sym seen ∙ e) in (
        book ∙ ap shown_book seen ∙ at.0,
        subst IsUncrossed (ap shown_book (sym seen) ∙ sym book) at.1,
      ));
      whole = λ is. (let all = is_all_of_it setup events session indices steps carries (ap is_whole (ap (λ x. after_all x steps) (sym f.is_new.reader) ∙ sym ran.reader) ∙ is) in
          let every : output_by calls ≡ feed setup events = same_Some (output_by calls) (feed setup events) (sym out ∙ all.0) in
          (every, book ∙ ap shown_book every ∙ all.1));
    }
