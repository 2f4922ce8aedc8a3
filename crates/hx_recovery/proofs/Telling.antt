-- The output of histories whose events begin alike.
use Rattle.std.proofs.Common.{◌≡◌, ℕ, List, [], ◌∷◌, ◌++◌, refl, sym, ap, ◌∙◌, append_assoc}
use Rattle.std.proofs.lemmas.List.{map-append}
use mathlib.Core.List.{IsPrefix}
use Rattle.hx_blog.specs.Feed as blog
use Rattle.hx_itch.specs.declared.message.Feed.{Feed}
use Rattle.hx_itch.specs.Message.{feed_bytes}
use Rattle.hx_ouch.specs.Outbound.{outbound_bytes}
use Rattle.hx_members.specs.Setups.{Setup}
use Rattle.hx_rules.specs.declared.event.Event.{Event}
use Rattle.hx_market.specs.Markets.{Market, opening}
use Rattle.hx_market.specs.Steps.{step, market_after, outputs_from, output, feed_of, feed, replies_of, replies}
use Rattle.hx_desk.specs.declared.entry.Entry.{Entry}
use Rattle.hx_desk.specs.Entries.{events_of, feed_spelled, ledger}
use Rattle.hx_desk.specs.Known.{IsWhole, history_of, known_replies}
use Rattle.hx_desk.specs.Rows.{replies_spelled}
use Rattle.hx_desk.proofs.Growth.{replies_append}
use Rattle.hx_desk.proofs.Standing.{published_is}
use Rattle.hx_desk.proofs.NoSecrets.{feed_without_trace, replies_without_trace}
use Rattle.hx_engine.proofs.Positions.{history_of_ledger}
use Rattle.hx_recovery.specs.Recovery.{IsPublishedAgain, HasNoTrace}

feed_append : (setup : Setup) (a : Market) (xs ys : List Event)
    → feed_of (outputs_from setup a (xs ++ ys)) ≡ feed_of (outputs_from setup a xs) ++ feed_of (outputs_from setup (market_after setup a xs) ys)
unfolding outputs_from market_after
feed_append setup a [] ys = refl
feed_append setup a (x ∷ xs) ys =
    let o = step setup a x in
    ap (λ (l : List Feed). o.output.feed ++ l) (feed_append setup o.market xs ys)
    ∙ sym (append_assoc o.output.feed (feed_of (outputs_from setup o.market xs)) (feed_of (outputs_from setup (market_after setup o.market xs) ys)))

feed_begins : (setup : Setup) (xs zs : List Event) → IsPrefix xs zs → IsPrefix (feed_spelled (feed setup xs)) (feed_spelled (feed setup zs))
unfolding feed output
feed_begins setup xs zs p =
    let more = feed_of (outputs_from setup (market_after setup (opening setup) xs) p.0) in (
      feed_spelled more,
      sym (map-append feed_bytes (feed_of (outputs_from setup (opening setup) xs)) more)
          ∙ ap feed_spelled (sym (feed_append setup (opening setup) xs p.0) ∙ ap (λ (es : List Event). feed_of (outputs_from setup (opening setup) es)) p.1),
    )

replies_begin : (setup : Setup) (member : ℕ) (xs zs : List Event) → IsPrefix xs zs
    → IsPrefix (replies_spelled (replies setup member xs)) (replies_spelled (replies setup member zs))
unfolding replies output
replies_begin setup member xs zs p =
    let more = replies_of member (outputs_from setup (market_after setup (opening setup) xs) p.0) in (
      replies_spelled more,
      sym (map-append outbound_bytes (replies_of member (outputs_from setup (opening setup) xs)) more)
          ∙ ap replies_spelled (sym (replies_append setup (opening setup) member xs p.0) ∙ ap (λ (es : List Event). replies_of member (outputs_from setup (opening setup) es)) p.1),
    )

-- a beginning of what is the same as another list
same_ends : {A : Type 0} (a b c d : List A) → a ≡ b → c ≡ d → IsPrefix b d → IsPrefix a c
same_ends a b c d p q h = (h.0, ap (λ (l : List _). l ++ h.0) p ∙ h.1 ∙ sym q)

pub replies_of_ledger : (setup : Setup) (member : ℕ) (history : List Entry) → known_replies setup member (ledger setup history) ≡ replies_spelled (replies setup member (events_of history))
replies_of_ledger setup member history = ap (λ (h : List Entry). replies_spelled (replies setup member (events_of h))) (history_of_ledger setup history)

-- if the events begin alike, what was known is published again
pub output_again : (setup : Setup) (known : blog.Entries Entry) (history : List Entry) → IsWhole setup known → IsPrefix (events_of (history_of known)) (events_of history) → IsPublishedAgain setup known history
output_again setup known history whole p =
    let xs = events_of (history_of known) in
    let zs = events_of history in
    record {
      same_events = p;
      same_feed = same_ends (blog.feed known) (feed_spelled (feed setup xs)) (blog.feed (ledger setup history)) (feed_spelled (feed setup zs))
          (ap blog.feed whole ∙ published_is setup (history_of known)) (published_is setup history) (feed_begins setup xs zs p);
      same_replies = λ member. same_ends (known_replies setup member known) (replies_spelled (replies setup member xs)) (known_replies setup member (ledger setup history)) (replies_spelled (replies setup member zs))
          refl (replies_of_ledger setup member history) (replies_begin setup member xs zs p);
    }

-- a ledger is whole
pub ledger_whole : (setup : Setup) (history : List Entry) → IsWhole setup (ledger setup history)
ledger_whole setup history = ap (ledger setup) (sym (history_of_ledger setup history))

pub no_trace : (setup : Setup) (history : List Entry) → HasNoTrace setup history
no_trace setup history = record {
  in_feed = feed_without_trace setup (events_of history) (blog.feed (ledger setup history)) (published_is setup history);
  in_replies = λ member part. replies_without_trace setup (events_of history) member part (part (known_replies setup member (ledger setup history))) (ap part (replies_of_ledger setup member history));
}
