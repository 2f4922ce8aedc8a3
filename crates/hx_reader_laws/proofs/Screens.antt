-- What a reader of datagrams shows.
use Rattle.std.proofs.Common.{ℕ, ◌≡◌, List, [], ◌∷◌, ◌++◌, map, take, Some, refl, sym, ap, subst, ◌∙◌}
use Rattle.std.specs.List.{AllByRecursion}
use Rattle.hx_itch.specs.declared.message.Feed.{Feed}
use Rattle.hx_itch.specs.Message.{feed_bytes, IsFeed}
use Rattle.hx_itch.proofs.MessageLaws.{feed_again}
use Rattle.hx_members.specs.Setups.{Setup}
use Rattle.hx_rules.specs.declared.event.Event.{Event}
use Rattle.hx_rules.specs.Steps.{run, feed}
use Rattle.hx_laws.specs.FeedBook.{shown_book, shown_orders, IsUncrossed}
use Rattle.hx_laws.proofs.FeedBook.ShownRuns.{feed_is_book, feed_is_uncrossed}
use Rattle.hx_reader.specs.Readings.{opening}
use Rattle.hx_reader.specs.Runs.{given}
use Rattle.hx_reader.proofs.Orders.{in_order, whole}
use Rattle.hx_reader_laws.specs.Screens.{read, spelled_feed, IsBookAfter, IsTheBook, IsAllOfIt}

-- a beginning of spelled messages is spelled of a beginning
cut : (messages : List Feed) (out rest : List (List ℕ)) → out ++ rest ≡ map feed_bytes messages
    → (seen later : List Feed) × (out ≡ map feed_bytes seen) × (seen ++ later ≡ messages)
cut messages [] rest e = ([], messages, refl, refl)
cut [] (x ∷ out) rest e = absurd (let f : x ∷ (out ++ rest) ≡ [] = e in cc)
cut (m ∷ messages) (x ∷ out) rest e =
    let f : x ∷ (out ++ rest) ≡ feed_bytes m ∷ map feed_bytes messages = e in
    let a : x ≡ feed_bytes m = cc in
    let b : out ++ rest ≡ map feed_bytes messages = cc in
    let c = cut messages out rest b in
    (m ∷ c.0, c.1, ap (λ y. y ∷ out) a ∙ ap (λ l. feed_bytes m ∷ l) c.2, ap (λ l. m ∷ l) c.3)

-- what was spelled is read
reads : (messages : List Feed) → AllByRecursion IsFeed messages → read (map feed_bytes messages) ≡ Some messages
reads [] all = refl
reads (m ∷ messages) all = rw (feed_again m all.0, reads messages all.1) refl

front : (xs ys : List Feed) → AllByRecursion IsFeed (xs ++ ys) → AllByRecursion IsFeed xs
front [] ys all = tt
front (x ∷ xs) ys all = (all.0, front xs ys all.1)

at_end : (setup : Setup) (events : List Event) (n : ℕ) (seen : List Feed) → seen ≡ feed setup (take n events) → IsBookAfter setup events n seen
at_end setup events n seen e =
    let book : shown_book seen ≡ shown_orders setup (run setup (take n events)).live = ap shown_book e ∙ feed_is_book setup (take n events) in
    (book, subst IsUncrossed (sym (ap shown_book e)) (feed_is_uncrossed setup (take n events)))

pub is_the_book : IsTheBook
is_the_book setup events session indices steps carries =
    let begins = in_order (spelled_feed setup events) session indices steps carries.1 in
    let c = cut (feed setup events) (given (opening session indices) steps) begins.0 begins.1 in
    (c.0, c.1, ap read c.2 ∙ reads c.0 (front c.0 c.1 (subst (AllByRecursion IsFeed) (sym c.3) carries.0)), c.3, λ n e. at_end setup events n c.0 e)

pub is_all_of_it : IsAllOfIt
is_all_of_it setup events session indices steps carries is =
    (ap read (whole (spelled_feed setup events) session indices steps carries.1 is) ∙ reads (feed setup events) carries.0, feed_is_book setup events)
