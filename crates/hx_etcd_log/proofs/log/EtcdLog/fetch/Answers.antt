use Rattle.std.proofs.Common.{◌≡◌, ℕ, ◌+◌, ◌++◌, List, length, ap, sym, ◌∙◌, subst}
use Rattle.hx_fenced_log.specs.Records.{Record}
use Rattle.hx_fenced_log.specs.Logs.{AreNumbered}
use Rattle.hx_etcd.specs.Answers.{IsRange}
use Rattle.hx_etcd_log.specs.declared.reading.Found.{Found}
use Rattle.hx_etcd_log.specs.Telling.{Telling}
use Rattle.hx_etcd_log.specs.Asks.{OneSince, Tells}
use Rattle.hx_etcd_log.specs.EtcdLogs.{asks_of}
use Rattle.hx_etcd_log.specs.Reads.{asking_from, SaysItIsGone, IsFoundIn, Contradicts}
use Rattle.hx_etcd_log.proofs.Outcomes.{records_in, numbered_found}
use Rattle.hx_etcd_log.proofs.log.EtcdLog.fetch.Goals as goal

pub add_page-requires : goal.add_page-requires
add_page-requires g c =
    let from : c.len-from.result + 1 ≡ length c.ask_for_records.new.self.reported.records + 1 =
    ap (λ (n : ℕ). n + 1) (c.len-from.ensures.len ∙ ap (λ (t : Telling). length t.records) (sym c.in_ok-page.ensures.known)) in
    subst (λ (n : ℕ). AreNumbered n c.in-Page.page.items) from
    (subst (λ (l : List Record). AreNumbered (c.len-from.result + 1) l) (ap records_in c.in-Page.is)
    (numbered_found _ _ _ _ _ c.in_ok-page.ensures.ok))

pub returns-in-Page-clause-ok : goal.returns-in-Page-clause-ok
returns-in-Page-clause-ok g c =
    let asked = c.len-from.result + 1 in
    let from : asked ≡ length c.args.self.now.reported.records + 1 = ap (λ (n : ℕ). n + 1) c.len-from.ensures.len in
    record {
      page = c.in-Page.page.items;
      committed = ap (λ (t : Telling). t.records) c.add_page.ensures ∙ ap (λ (t : Telling). t.records ++ c.in-Page.page.items) c.in_ok-page.ensures.known;
      stored = ap (λ (t : Telling). t.stored) c.add_page.ensures;
      reported = subst (λ (n : ℕ). OneSince (Tells (asking_from n) (λ answer. IsRange n answer c.in-Page.page.items)) (asks_of c.args.self.now) (asks_of c.ask_for_records.new.self)) from
          (subst (λ (f : Found). OneSince (Tells (asking_from asked) (λ answer. IsFoundIn asked answer f)) (asks_of c.args.self.now) (asks_of c.ask_for_records.new.self)) c.in-Page.is c.in_ok-page.ensures.ok);
    }

pub returns-in-Bad-clause-err : goal.returns-in-Bad-clause-err
returns-in-Bad-clause-err g c =
    let asked = c.len-from.result + 1 in
    let from : asked ≡ length c.args.self.now.reported.records + 1 = ap (λ (n : ℕ). n + 1) c.len-from.ensures.len in
    record {
      known = c.in_ok-page.ensures.known;
      asks = subst (λ (n : ℕ). OneSince (Tells (asking_from n) (Contradicts n c.in-Bad.number)) (asks_of c.args.self.now) (asks_of c.ask_for_records.new.self)) from
          (subst (λ (f : Found). OneSince (Tells (asking_from asked) (λ answer. IsFoundIn asked answer f)) (asks_of c.args.self.now) (asks_of c.ask_for_records.new.self)) c.in-Bad.is c.in_ok-page.ensures.ok);
    }

pub returns-in-Gone-clause-err : goal.returns-in-Gone-clause-err
returns-in-Gone-clause-err g c =
    let asked = c.len-from.result + 1 in
    let from : asked ≡ length c.args.self.now.reported.records + 1 = ap (λ (n : ℕ). n + 1) c.len-from.ensures.len in (
      from,
      record {
        known = c.in_ok-page.ensures.known;
        asks = subst (λ (n : ℕ). OneSince (Tells (asking_from n) (SaysItIsGone n)) (asks_of c.args.self.now) (asks_of c.ask_for_records.new.self)) from
            (subst (λ (f : Found). OneSince (Tells (asking_from asked) (λ answer. IsFoundIn asked answer f)) (asks_of c.args.self.now) (asks_of c.ask_for_records.new.self)) c.in-Gone.is c.in_ok-page.ensures.ok);
      },
    )
