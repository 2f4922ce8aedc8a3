-- What becomes of appends and reads.
use Rattle.std.proofs.Common.{◌≡◌, ℕ, suc, ◌+◌, List, [], ◌∷◌, length, sym, ap, subst, arith, inr}
use Rattle.std.specs.Prelude.{Result, Ok, Err, OnOk, IfErr}
use Rattle.json.specs.Json.{Json}
use Rattle.hx_fenced_log.specs.Records.{Record}
use Rattle.hx_fenced_log.specs.Logs.{AreNumbered}
use Rattle.hx_fenced_log.specs.declared.log.error.LogError.{LogError}
use Rattle.hx_fenced_log.specs.declared.log.error.LogError.TheVariants.{Taken, Gap, Unknown, Unreachable, NoRecord, Trimmed, BadCopy, NoMemory}
use Rattle.hx_etcd.specs.declared.reported.Answer.{Answer}
use Rattle.hx_etcd.specs.Answers.{AreRecords}
use Rattle.hx_etcd_log.specs.declared.reading.Found.{Found}
use Rattle.hx_etcd_log.specs.declared.reading.Found.TheVariants.{Page, Gone, Bad}
use Rattle.hx_etcd_log.specs.declared.log.EtcdLog.{EtcdLog}
use Rattle.hx_etcd_log.specs.Telling.{Telling}
use Rattle.hx_etcd_log.specs.Asks.{Ask, OneSince, Tells}
use Rattle.hx_etcd_log.specs.EtcdLogs.{committed_of, asks_of}
use Rattle.hx_etcd_log.specs.Appends.{appending, HasKeyText, IsFindFault, IsAppendFault}
use Rattle.hx_etcd_log.specs.Reads.{IsFoundIn}
use Rattle.hx_etcd_log.proofs.Since.{tells_also, reported_is_taken}

-- ---- results

pub both_ok : {T E A B C : Type 0} (result : Result T E) → (A → B → C) → OnOk result A → OnOk result B → OnOk result C
both_ok (Ok x) f a b = f a b
both_ok (Err e) f a b = tt

pub each_err : {T E : Type 0} {P Q : E → Type 0} (result : Result T E) → ((e : E) → P e → Q e) → IfErr result P → IfErr result Q
each_err (Ok x) f h = tt
each_err (Err e) f h = f e h

-- ---- records that an answer holds

abbrev pub records_in : Found → List Record
records_in (Page page) = page.items
records_in Gone = []
records_in (Bad number) = []

are_numbered : (from : ℕ) (pairs : List Json) (rs : List Record) → AreRecords from pairs rs → AreNumbered from rs
are_numbered from [] [] h = tt
are_numbered from [] (r ∷ rs) h = absurd h
are_numbered from (p ∷ ps) [] h = absurd h
are_numbered from (p ∷ ps) (r ∷ rs) h =
    let next : suc from ≡ from + 1 = omega arith in
    (h.0.numbered, subst (λ (n : ℕ). AreNumbered n rs) next (are_numbered (suc from) ps rs h.1))

numbered_in : (from : ℕ) (answer : Answer) (found : Found) → IsFoundIn from answer found → AreNumbered from (records_in found)
numbered_in from answer (Page page) h = are_numbered from _ page.items h.2.records
numbered_in from answer Gone h = tt
numbered_in from answer (Bad number) h = tt

pub numbered_found : (from : ℕ) (found : Found) (request : List ℕ) (b c : List Ask) → OneSince (Tells request (λ answer. IsFoundIn from answer found)) b c → AreNumbered from (records_in found)
numbered_found from found request b c h = numbered_in from h.holds.answer found h.holds.says

-- ---- what is found if an append is taken

pub find_fault : {N : Type 0} (old new : EtcdLog N) (r : Record) (text : List ℕ) (e : LogError) → r.head.number ≡ length (committed_of old) + 1
    → OneSince (Tells (appending r) (HasKeyText r.head.number text)) (asks_of old) (asks_of new) → IsFindFault old.reported new.reported r text e → IsAppendFault old new r e
find_fault old new r text Taken next reported h =
    inr (record {
      other = h.0;
      differs = h.1;
      next = next;
      committed = ap (λ (t : Telling). t.records) h.3;
      stored = ap (λ (t : Telling). t.stored) h.3;
      reported = subst (λ (x : List ℕ). OneSince (Tells (appending r) (HasKeyText r.head.number x)) (asks_of old) (asks_of new)) h.2 reported;
    })
find_fault old new r text Gap next reported h = absurd h
find_fault old new r text Unknown next reported h = (next, record { known = h; asks = reported_is_taken _ _ _ reported })
find_fault old new r text Unreachable next reported h = absurd h
find_fault old new r text (NoRecord number) next reported h =
    let there : OneSince (Tells (appending r) (HasKeyText number text)) (asks_of old) (asks_of new) =
    subst (λ (n : ℕ). OneSince (Tells (appending r) (HasKeyText n text)) (asks_of old) (asks_of new)) (sym h.0) reported in
    (h.0, (next, record { known = h.1; asks = tells_also _ _ _ (λ answer has. record { text = text; has = has; none = h.2 }) there }))
find_fault old new r text (Trimmed number) next reported h = absurd h
find_fault old new r text (BadCopy number) next reported h = absurd h
find_fault old new r text NoMemory next reported h = absurd h
