use Rattle.std.proofs.Common.{◌≡◌, ◌+◌, List, [], ◌∷◌, ◌++◌, length, ap, sym, ◌∙◌, subst, arith, inl, inr, ℕ}
use Rattle.hx_fenced_log.specs.declared.terms.head.Head.{Head}
use Rattle.hx_fenced_log.specs.Texts.{spelled}
use Rattle.hx_fenced_log.specs.declared.log.error.LogError.{LogError}
use Rattle.hx_etcd.specs.declared.append.Appended.{Appended}
use Rattle.hx_etcd.specs.declared.reported.Answer.{Answer}
use Rattle.hx_etcd.specs.Answers.{IsAppended}
use Rattle.hx_etcd_log.specs.Telling.{Telling}
use Rattle.hx_etcd_log.specs.Asks.{OneSince, Tells}
use Rattle.hx_etcd_log.specs.EtcdLogs.{asks_of}
use Rattle.hx_etcd_log.specs.Appends.{appending, IsMade, SaysNoneBefore, HasKeyText, IsFindFault}
use Rattle.hx_etcd_log.proofs.Since.{tells_also}
use Rattle.hx_etcd_log.proofs.Outcomes.{both_ok, each_err, find_fault}
use Rattle.hx_etcd_log.proofs.log.EtcdLogLog.append.Goals as goal

pub returns-in-Stands-clause-appended : goal.returns-in-Stands-clause-appended
returns-in-Stands-clause-appended g c =
    let r = c.args.next.now in
    let made : OneSince (Tells (appending r) (IsMade r)) (asks_of c.args.self.now) (asks_of c.ask_to_append.new.self) =
    subst (λ (s : Appended). OneSince (Tells (appending r) (λ answer. IsAppended r.head.number answer s)) (asks_of c.args.self.now) (asks_of c.ask_to_append.new.self))
    c.in-Stands.is c.in_ok-ask_to_append.ensures.ok in
    record {
      next = omega (arith, ap (λ (h : Head). h.number) c.head-number.ensures.head, c.if-number-due.false, c.if-number-due-2.false, c.len-due.ensures.len);
      committed = ap (λ (t : Telling). t.records) c.add.ensures ∙ ap (λ (t : Telling). t.records ++ r ∷ []) c.in_ok-ask_to_append.ensures.known;
      reported = tells_also _ _ _ (λ (answer : Answer) (h : IsMade r answer). inl h) made;
    }

pub returns-in-Taken-clause-appended : goal.returns-in-Taken-clause-appended
returns-in-Taken-clause-appended g c =
    let r = c.args.next.now in
    let old = c.ask_to_append.new.self.reported in
    let has : OneSince (Tells (appending r) (HasKeyText r.head.number c.in-Taken.text.items)) (asks_of c.args.self.now) (asks_of c.ask_to_append.new.self) =
    subst (λ (s : Appended). OneSince (Tells (appending r) (λ answer. IsAppended r.head.number answer s)) (asks_of c.args.self.now) (asks_of c.ask_to_append.new.self))
    c.in-Taken.is c.in_ok-ask_to_append.ensures.ok in
    both_ok {A = c.deref.result.now ≡ spelled r} {B = c.find.new.self ≡ record { records = old.records ++ r ∷ []; stored = 0 }} c.find.result
    (λ same reported. record {
      next = omega (arith, ap (λ (h : Head). h.number) c.head-number.ensures.head, c.if-number-due.false, c.if-number-due-2.false, c.len-due.ensures.len);
      committed = ap (λ (t : Telling). t.records) reported ∙ ap (λ (t : Telling). t.records ++ r ∷ []) c.in_ok-ask_to_append.ensures.known;
      reported = tells_also _ _ _ (λ (answer : Answer) (h : HasKeyText r.head.number (spelled r) answer). inr h)
          (subst (λ (x : List ℕ). OneSince (Tells (appending r) (HasKeyText r.head.number x)) (asks_of c.args.self.now) (asks_of c.ask_to_append.new.self)) (sym c.deref.ensures.value ∙ same) has);
    })
    c.find.ensures.same c.find.ensures.reported

pub returns-in-Taken-clause-fault : goal.returns-in-Taken-clause-fault
returns-in-Taken-clause-fault g c =
    let r = c.args.next.now in
    let text = c.deref.result.now in
    let there : OneSince (Tells (appending r) (HasKeyText r.head.number c.in-Taken.text.items)) (asks_of c.args.self.now) (asks_of c.ask_to_append.new.self) =
    subst (λ (s : Appended). OneSince (Tells (appending r) (λ answer. IsAppended r.head.number answer s)) (asks_of c.args.self.now) (asks_of c.ask_to_append.new.self))
    c.in-Taken.is c.in_ok-ask_to_append.ensures.ok in
    let has : OneSince (Tells (appending r) (HasKeyText r.head.number text)) (asks_of c.args.self.now) (asks_of c.ask_to_append.new.self) =
    subst (λ (x : List ℕ). OneSince (Tells (appending r) (HasKeyText r.head.number x)) (asks_of c.args.self.now) (asks_of c.ask_to_append.new.self)) (sym c.deref.ensures.value) there in
    let next : r.head.number ≡ length c.args.self.now.reported.records + 1 =
    omega (arith, ap (λ (h : Head). h.number) c.head-number.ensures.head, c.if-number-due.false, c.if-number-due-2.false, c.len-due.ensures.len) in
    each_err {P = IsFindFault c.ask_to_append.new.self.reported c.find.new.self r text} c.find.result
    (λ (e : LogError) (h : IsFindFault c.ask_to_append.new.self.reported c.find.new.self r text e).
    find_fault c.args.self.now _ r text e next has (subst (λ (t : Telling). IsFindFault t c.find.new.self r text e) c.in_ok-ask_to_append.ensures.known h))
    c.find.ensures.fault

pub returns-in-NoneBefore-clause-fault : goal.returns-in-NoneBefore-clause-fault
returns-in-NoneBefore-clause-fault g c =
    let r = c.args.next.now in
    let none : OneSince (Tells (appending r) (SaysNoneBefore r)) (asks_of c.args.self.now) (asks_of c.ask_to_append.new.self) =
    subst (λ (s : Appended). OneSince (Tells (appending r) (λ answer. IsAppended r.head.number answer s)) (asks_of c.args.self.now) (asks_of c.ask_to_append.new.self))
    c.in-NoneBefore.is c.in_ok-ask_to_append.ensures.ok in
    let number : c.head-number.result.number ≡ r.head.number = ap (λ (h : Head). h.number) c.head-number.ensures.head in (
      number,
      (
        omega (arith, number, c.if-number-due.false, c.if-number-due-2.false, c.len-due.ensures.len),
        record { known = c.in_ok-ask_to_append.ensures.known; asks = none },
      ),
    )
