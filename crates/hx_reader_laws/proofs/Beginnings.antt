-- Beginnings of a history and of its feed.
use Rattle.std.proofs.Common.{ℕ, ◌≡◌, zero, suc, List, [], ◌∷◌, ◌++◌, take, refl, sym, ap, ◌∙◌, append_assoc}
use Rattle.hx_itch.specs.declared.message.Feed.{Feed}
use Rattle.hx_members.specs.Setups.{Setup}
use Rattle.hx_rules.specs.declared.event.Event.{Event}
use Rattle.hx_rules.specs.Markets.{Market, opening}
use Rattle.hx_rules.specs.Outputs.{EventOutput}
use Rattle.hx_rules.specs.Steps.{run, output, outputs_from, feed, feed_of, step}
use Rattle.hx_laws.specs.FeedBook.{shown_book, book_from, shown_orders}
use Rattle.hx_laws.proofs.FeedBook.ShownRuns.{feed_is_book}
use Rattle.hx_laws.proofs.FeedBook.ShownExecutions.{book_from-append}
use Rattle.hx_reader_laws.specs.Screens.{AtAnEvent, WithinAnEvent, feed_at}

feed_of-append : (ts us : List EventOutput) → feed_of (ts ++ us) ≡ feed_of ts ++ feed_of us
feed_of-append [] us = refl
feed_of-append (t ∷ ts) us = ap (λ l. t.feed ++ l) (feed_of-append ts us) ∙ sym (append_assoc t.feed (feed_of ts) (feed_of us))

output_from-append : (setup : Setup) (market : Market) (es fs : List Event) → (us : List EventOutput) × (outputs_from setup market (es ++ fs) ≡ outputs_from setup market es ++ us)
unfolding outputs_from
output_from-append setup market [] fs = (outputs_from setup market fs, refl)
output_from-append setup market (e ∷ es) fs =
    let later = output_from-append setup (step setup market e).market es fs in
    (later.0, ap (λ l. (step setup market e).output ∷ l) later.1)

output_from-take : (setup : Setup) (market : Market) (n : ℕ) (es : List Event) → outputs_from setup market (take n es) ≡ take n (outputs_from setup market es)
unfolding outputs_from
output_from-take setup market zero es = refl
output_from-take setup market (suc n) [] = refl
output_from-take setup market (suc n) (e ∷ es) = ap (λ l. (step setup market e).output ∷ l) (output_from-take setup (step setup market e).market n es)

-- two ways to cut a list, one of them no later
pub data Cut (xs ys us vs : List Feed) : Type 0 where
  Within : (more : List Feed) → xs ++ more ≡ us → Cut xs ys us vs
  Past : (later : List Feed) → xs ≡ us ++ later → later ++ ys ≡ vs → Cut xs ys us vs

cut : (xs ys us vs : List Feed) → xs ++ ys ≡ us ++ vs → Cut xs ys us vs
cut [] ys us vs e = Within us refl
cut (x ∷ xs) ys [] vs e = Past (x ∷ xs) refl e
cut (x ∷ xs) ys (u ∷ us) vs e =
    elim (cut xs ys us vs (let t : x ∷ (xs ++ ys) ≡ u ∷ (us ++ vs) = e in cc)) [
      | Within more m ↦ Within more (ap (λ l. x ∷ l) m ∙ ap (λ z. z ∷ us) (let t : x ∷ (xs ++ ys) ≡ u ∷ (us ++ vs) = e in cc))
      | Past later a b ↦ Past later (ap (λ l. x ∷ l) a ∙ ap (λ z. z ∷ (us ++ later)) (let t : x ∷ (xs ++ ys) ≡ u ∷ (us ++ vs) = e in cc)) b
    ]

pub split : (ts : List EventOutput) (seen later : List Feed) → seen ++ later ≡ feed_of ts
    → (n : ℕ) × (part more : List Feed) × (seen ≡ feed_of (take n ts) ++ part) × (part ++ more ≡ feed_at n ts)
split [] [] later e = (0, [], [], refl, refl)
split [] (x ∷ seen) later e = absurd (let t : x ∷ (seen ++ later) ≡ [] = e in cc)
split (t ∷ ts) seen later e =
    elim (cut seen later t.feed (feed_of ts) e) [
      | Within more m ↦ (0, seen, more, refl, m)
      | Past rest a b ↦ (let s = split ts rest later b in (suc s.0, s.1, s.2, a ∙ ap (λ l. t.feed ++ l) s.3 ∙ sym (append_assoc t.feed (feed_of (take s.0 ts)) s.1), s.4))
    ]

pub at_an_event : AtAnEvent
unfolding feed output
at_an_event setup beginning rest =
    let more = output_from-append setup (opening setup) beginning rest in
    ((feed_of more.0, sym (feed_of-append (outputs_from setup (opening setup) beginning) more.0) ∙ ap feed_of (sym more.1)), feed_is_book setup beginning)

feed_take : (setup : Setup) (n : ℕ) (events : List Event) → feed setup (take n events) ≡ feed_of (take n (output setup events))
unfolding feed output
feed_take setup n events = ap feed_of (output_from-take setup (opening setup) n events)

book_is : (setup : Setup) (events : List Event) (part : List Feed) → shown_book (feed setup events ++ part) ≡ book_from (shown_orders setup (run setup events).live) part
unfolding shown_book
book_is setup events part = book_from-append [] (feed setup events) part ∙ ap (λ b. book_from b part) (feed_is_book setup events)

feed_is : (setup : Setup) (events : List Event) → feed setup events ≡ feed_of (output setup events)
unfolding feed
feed_is setup events = refl

pub within_an_event : WithinAnEvent
within_an_event setup events seen later e =
    let s = split (output setup events) seen later (e ∙ feed_is setup events) in
    let is = s.3 ∙ ap (λ l. l ++ s.1) (sym (feed_take setup s.0 events)) in
    (s.0, s.1, s.2, is, s.4, ap shown_book is ∙ book_is setup (take s.0 events) s.1)
