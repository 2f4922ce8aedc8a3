-- Quiet chains leave no trace in the feed and in the replies of others.
use Rattle.std.proofs.Common.{◌≡◌, ℕ, ◌&&◌, Bool, true, false, eqb, eqb-true, List, refl, ap, ◌∙◌}
use Rattle.std.specs.Prelude.{◌==◌}
use Rattle.std.specs.List.{list_any}
use Rattle.hx_units.specs.Names.{is_token}
use Rattle.hx_blog.specs.Feed as blog
use Rattle.hx_ouch.specs.declared.outbound.Outbound.{Outbound}
use Rattle.hx_members.specs.Setups.{Setup}
use Rattle.hx_rules.specs.declared.event.Event.{Event}
use Rattle.hx_market.specs.Orders.{Token}
use Rattle.hx_market.specs.Steps.{run, feed, replies}
use Rattle.hx_market.specs.QuietChains.{Choice, is_quiet, quiet_of_one, strike, strike_one}
use Rattle.hx_market.specs.Laws.{AreQuietChains, listed}
use Rattle.hx_laws.proofs.Quiet.StruckChoices.{listed_is_choice, quiet_is_choice}
use Rattle.hx_laws.proofs.Quiet.StruckOfAll.{feed_alone, replies_alone, all_members, all_but_one}
use Rattle.hx_desk.specs.Rows.{Part, replies_spelled, row_of}
use Rattle.hx_desk.specs.Entries.{feed_spelled, events_of}
use Rattle.hx_desk.specs.Secrecy.{IsFeedWithoutTrace, AreRepliesWithoutTrace}
use Rattle.hx_desk.specs.Desks.{DeskState, IsStanding, TellsNoSecret, published_of, all_of_them}
use Rattle.hx_desk.proofs.Standing.{published_is}

pub feed_without_trace : (setup : Setup) (events : List Event) (messages : List (List ℕ)) → messages ≡ feed_spelled (feed setup events) → IsFeedWithoutTrace setup events messages
unfolding strike_one
feed_without_trace setup events messages is = record {
  exact = is;
  any_choice = any;
  any_part = λ m tokens q. any (listed m tokens) (listed_is_choice setup events m tokens q);
  one_member = λ m. any (quiet_of_one m (run setup events)) (quiet_is_choice setup events m);
  all_members = is ∙ ap feed_spelled (all_members setup events);
}
  where
    any : (chosen : Choice) → AreQuietChains chosen (run setup events) → messages ≡ feed_spelled (feed setup (strike chosen events))
    any chosen q = is ∙ ap feed_spelled (feed_alone setup events chosen q)

-- what selects messages of one member selects none of another
spared : (p m : ℕ) (b : Bool) → (p ≡ m → ⊥) → (p == m && b) ≡ false
spared p m b ne = at (eqb p m) refl
  where
    at : (k : Bool) → eqb p m ≡ k → (k && b) ≡ false
    at true e = absurd (ne (eqb-true p m e))
    at false e = refl

spared_quiet : (setup : Setup) (events : List Event) (p m : ℕ) → (p ≡ m → ⊥) → (t : Token) → quiet_of_one m (run setup events) p t ≡ false
unfolding quiet_of_one
spared_quiet setup events p m ne t = spared p m (is_quiet (run setup events) p t) ne

pub replies_without_trace : (setup : Setup) (events : List Event) (p : ℕ) (part : Part) (rows : List (List ℕ)) → rows ≡ part (replies_spelled (replies setup p events)) → AreRepliesWithoutTrace setup events p part rows
unfolding strike_one
replies_without_trace setup events p part rows is = record {
  exact = is;
  any_choice = any;
  any_part = λ m tokens ne q. any (listed m tokens) (listed_is_choice setup events m tokens q) (λ t. spared p m (list_any (is_token t) tokens) ne);
  one_member = λ m ne. any (quiet_of_one m (run setup events)) (quiet_is_choice setup events m) (spared_quiet setup events p m ne);
  all_but_one = is ∙ ap (λ (r : List Outbound). part (replies_spelled r)) (all_but_one setup p events);
}
  where
    any : (chosen : Choice) → AreQuietChains chosen (run setup events) → ((t : Token) → chosen p t ≡ false) → rows ≡ part (replies_spelled (replies setup p (strike chosen events)))
    any chosen q none = is ∙ ap (λ (r : List Outbound). part (replies_spelled r)) (replies_alone setup events chosen p q none)

pub tells_no_secret : (d : DeskState) → IsStanding d → TellsNoSecret d
tells_no_secret d s = record {
  feed_published = feed_without_trace d.setup (events_of (published_of d)) (blog.feed d.published) (ap blog.feed s.published ∙ published_is d.setup (published_of d));
  rows = λ p l. replies_without_trace d.setup (events_of (published_of d)) p all_of_them (row_of d.rows p) (s.rows p l);
}
