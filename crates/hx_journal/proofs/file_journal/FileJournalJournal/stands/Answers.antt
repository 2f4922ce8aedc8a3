use Rattle.std.proofs.Common.{◌≡◌, List, ℕ, sym, ◌∙◌, ap, subst}
use Rattle.hx_journal.specs.Records.{records_of, recovered, sealed}
use Rattle.hx_journal.specs.Crashes.{IsBetween}
use Rattle.hx_journal.specs.Files.{stored, appended}
use Rattle.hx_journal.proofs.Appending.{stands_between}
use Rattle.hx_journal.proofs.file_journal.FileJournalJournal.stands.Goals as goal

pub returns : goal.returns
returns g c = λ is records left.
    let s = c.self.invariant (ap (λ j. j.is_open) c.self.view_is ∙ is) in
    let whole : sealed (stored g.D.Device.seen c.args.self.now) ≡ stored g.D.Device.seen c.args.self.now =
    subst (λ j. sealed (stored g.D.Device.seen j) ≡ stored g.D.Device.seen j) c.self.view_is s.whole in
    let here = c.stands.ensures.durable (ap (λ j. j.is_open) c.self.view_is ∙ is) left.0 (g.met.D.Device.only_now c.self.inside.lines.device left.0
    (subst (λ j. g.D.Device.left_since j.device (g.D.Device.moment j.device) left.0) (sym c.self.view_is) left.1)) in
    let file = here ∙ ap (λ j. g.D.Device.seen j.device) c.self.view_is in
    subst (λ (r : List (List ℕ)). IsBetween (records_of (stored g.D.Device.seen c.args.self.now)) r (records_of (appended g.D.Device.seen c.args.self.now)))
    (sym (left.2 ∙ ap recovered file))
    (stands_between (g.D.Device.seen c.args.self.now.device) c.args.self.now.waiting whole)
