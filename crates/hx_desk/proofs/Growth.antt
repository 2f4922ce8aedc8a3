-- Longer histories.
use Rattle.std.proofs.Common.{◌≡◌, ℕ, List, [], ◌∷◌, ◌++◌, refl, ap, sym, ◌∙◌, append_assoc}
use Rattle.std.proofs.lemmas.List.{map-append}
use Rattle.hx_blog.specs.Feed.{Entries}
use Rattle.hx_ouch.specs.declared.outbound.Outbound.{Outbound}
use Rattle.hx_ouch.specs.Outbound.{outbound_bytes}
use Rattle.hx_members.specs.Setups.{Setup}
use Rattle.hx_rules.specs.declared.event.Event.{Event}
use Rattle.hx_market.specs.Markets.{Market, opening}
use Rattle.hx_market.specs.Steps.{step, market_after, outputs_from, output, replies_among, replies_of, replies}
use Rattle.hx_desk.specs.declared.entry.Entry.{Entry}
use Rattle.hx_desk.specs.Rows.{replies_spelled}
use Rattle.hx_desk.specs.Entries.{events_of}
use Rattle.hx_desk.specs.Known.{history_of, RepliesGrow}

pub replies_append : (setup : Setup) (a : Market) (p : ℕ) (xs ys : List Event)
    → replies_of p (outputs_from setup a (xs ++ ys)) ≡ replies_of p (outputs_from setup a xs) ++ replies_of p (outputs_from setup (market_after setup a xs) ys)
unfolding outputs_from market_after
replies_append setup a p [] ys = refl
replies_append setup a p (x ∷ xs) ys =
    let first = replies_among p (step setup a x).output.replies in
    let b = (step setup a x).market in
    ap (λ (l : List Outbound). first ++ l) (replies_append setup b p xs ys)
    ∙ sym (append_assoc first (replies_of p (outputs_from setup b xs)) (replies_of p (outputs_from setup (market_after setup b xs) ys)))

pub replies_grow : RepliesGrow
unfolding replies output
replies_grow setup p shorter longer begins =
    let xs = events_of (history_of shorter) in
    let ys = events_of (history_of begins.0) in
    let more = replies_of p (outputs_from setup (market_after setup (opening setup) xs) ys) in
    let all : events_of (history_of longer) ≡ xs ++ ys =
    ap (λ (k : Entries Entry). events_of (history_of k)) (sym begins.1)
    ∙ ap events_of (map-append (λ (e : Entry × List (List ℕ)). e.0) shorter begins.0)
    ∙ map-append (λ (e : Entry). e.event) (history_of shorter) (history_of begins.0) in (
      replies_spelled more,
      sym (map-append outbound_bytes (replies_of p (outputs_from setup (opening setup) xs)) more)
          ∙ ap replies_spelled (sym (replies_append setup (opening setup) p xs ys) ∙ ap (λ (es : List Event). replies_of p (outputs_from setup (opening setup) es)) (sym all)),
    )
