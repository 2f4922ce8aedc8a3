-- The messages that a relay retains grow with the steps of its reader, and are a beginning of the feed.
use Rattle.std.proofs.Common.{◌≡◌, ◌∙◌, ℕ, ◌<◌, suc, List, [], ◌∷◌, ◌++◌, Option, None, Some, refl, ap, ap₂, sym, subst, arith}
use Rattle.std.specs.Option.{option_to_list}
use Rattle.std.proofs.lemmas.List.{append_assoc, append-nil}
use Rattle.std.specs.List.{AllByRecursion}
use Rattle.hx_reader.specs.Readings.{Reading, opening, first_retained, ready, vacated, handed, is_whole}
use Rattle.hx_reader.specs.Runs.{Step, Comes, IsAsked, after, gives, TellsOf, IsBeginning}
use Rattle.hx_reader.proofs.Orders as orders
use Rattle.hx_reader.proofs.Runs.{after_all_push, given_push}
use Rattle.hx_feed_clients.specs.declared.relaying.relay.Relay.{Relay}
use Rattle.hx_feed_clients.specs.Relays.{HasRead, HasTaken, KeepsAll, KeepsTheFeed, asks}

-- one step more
pub one_step : (session : List ℕ) (indices : ℕ) (steps : List Step) (s : Step) (old new : Relay) → HasRead session indices steps old → new.reader ≡ after old.reader s → new.server.messages ≡ old.server.messages ++ gives old.reader s → new.server.session ≡ old.server.session → HasRead session indices (steps ++ s ∷ []) new
one_step session indices steps s old new read reader messages same = record {
  reader = reader ∙ (ap (λ (r : Reading). after r s) read.reader ∙ sym (after_all_push (opening session indices) steps s));
  messages = messages
      ∙ (ap₂ (λ (l : List (List ℕ)) (r : Reading). l ++ gives r s) read.messages read.reader
      ∙ sym (given_push (opening session indices) steps s));
  of_session = same ∙ read.of_session;
}

-- the datagram has come
pub comes : (session : List ℕ) (indices : ℕ) (steps : List Step) (bytes : List ℕ) (old new : Relay) → HasRead session indices steps old → new.reader ≡ after old.reader (Comes bytes) → new.server ≡ old.server → HasTaken session indices steps bytes new
comes session indices steps bytes old new read reader same = record {
  asked = 0;
  read = one_step session indices steps (Comes bytes) old new read reader (ap (λ z. z.messages) same ∙ sym (append-nil old.server.messages)) (ap (λ z. z.session) same);
}

-- how many messages of a window have come, and were not handed out
abbrev pub retained_count : List (Option (List ℕ)) → ℕ
retained_count [] = 0
retained_count (None ∷ window) = retained_count window
retained_count (Some m ∷ window) = suc (retained_count window)

vacant_after : (window : List (Option (List ℕ))) → retained_count (window ++ None ∷ []) ≡ retained_count window
vacant_after [] = refl
vacant_after (None ∷ window) = vacant_after window
vacant_after (Some m ∷ window) = ap suc (vacant_after window)

-- one fewer if one is handed out
pub one_fewer : (r : Reading) (m : List ℕ) → ready r ≡ Some m → retained_count (handed r (ready r)).window < retained_count r.window
one_fewer r m is = subst (λ (o : Option (List ℕ)). retained_count (handed r o).window < retained_count r.window) (sym is) (fewer r.window is)
  where
    fewer : (window : List (Option (List ℕ))) → first_retained r.next window ≡ Some m → retained_count (vacated window) < retained_count window
    fewer [] none = absurd (let z : None ≡ Some m = none in cc)
    fewer (None ∷ window) none = absurd (let z : None ≡ Some m = none in cc)
    fewer (Some k ∷ window) there = omega (arith, vacant_after window)

-- the reader is asked once more
pub asked_more : (session : List ℕ) (indices : ℕ) (steps : List Step) (bytes message : List ℕ) (old new : Relay) → HasTaken session indices steps bytes old → ready old.reader ≡ Some message → new.reader ≡ handed old.reader (ready old.reader) → new.server.messages ≡ old.server.messages ++ message ∷ [] → new.server.session ≡ old.server.session → HasTaken session indices steps bytes new
asked_more session indices steps bytes message old new taken is reader messages same = record {
  asked = suc taken.asked;
  read = subst (λ (l : List Step). HasRead session indices l new) (append_assoc steps (Comes bytes ∷ asks taken.asked) (IsAsked ∷ []))
      (one_step session indices (steps ++ Comes bytes ∷ asks taken.asked) IsAsked old new taken.read reader
      (messages ∙ ap (λ (o : Option (List ℕ)). old.server.messages ++ option_to_list o) (sym is)) same);
}

pub keeps_the_feed : KeepsTheFeed
keeps_the_feed feed session indices steps relay tell read = record {
  beginning = subst (λ (l : List (List ℕ)). IsBeginning l feed) (sym read.messages) (orders.in_order feed session indices steps tell);
  whole = λ is. read.messages ∙ orders.whole feed session indices steps tell (ap is_whole (sym read.reader) ∙ is);
}
