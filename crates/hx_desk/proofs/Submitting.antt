-- An entry that is admitted, sealed and released at once.
use Rattle.std.proofs.Common.{◌≡◌, ℕ, ◌+◌, ◌<◌, List, [], ◌∷◌, ◌++◌, length, take, ap, sym, ◌∙◌, subst}
use Rattle.hx_blog.specs.Feed as blog
use Rattle.hx_market.specs.Steps.{run, replies}
use Rattle.hx_desk.specs.declared.entry.Entry.{Entry}
use Rattle.hx_desk.specs.declared.entry.Done.{Done}
use Rattle.hx_desk.specs.Rows.{row_of, row_count, replies_spelled}
use Rattle.hx_desk.specs.Entries.{events_of, ledger}
use Rattle.hx_desk.specs.Desks.{DeskState, IsStanding, Grows, Releases, Submits}
use Rattle.hx_desk.proofs.Standing.{take_whole}

-- a desk that stands, and all of whose history is published
all_published : (d : DeskState) → d.published_end ≡ length d.history → take d.published_end d.history ≡ d.history
all_published d all = take_whole d.history d.published_end all

pub submitted : (old admitted sealed new : DeskState) (entry : Entry) (done : Done)
    → IsStanding old → old.published_end ≡ length old.history → Grows old admitted entry done
    → sealed ≡ record admitted { sealed = length admitted.history } → Releases sealed new → IsStanding new
    → Submits old new entry done
submitted old admitted sealed new entry done before settled g s r standing =
    let setup : new.setup ≡ old.setup = r.setup ∙ ap (λ (d : DeskState). d.setup) s ∙ g.setup in
    let same : new.history ≡ admitted.history = r.history ∙ ap (λ (d : DeskState). d.history) s in
    let published_end : new.published_end ≡ length new.history =
    r.published_end ∙ ap (λ (d : DeskState). d.sealed) s ∙ ap (λ (h : List Entry). length h) (sym same) in
    let whole : take new.published_end new.history ≡ new.history = all_published new published_end in
    record {
      log = r.log ∙ ap (λ (d : DeskState). d.log) s ∙ g.log;
      setup = setup;
      history = same ∙ g.history;
      published_end = published_end;
      sealed = r.sealed ∙ ap (λ (d : DeskState). d.sealed) s ∙ ap (λ (h : List Entry). length h) (sym same);
      market = standing.market ∙ ap (λ x. run x (events_of new.history)) setup;
      published = standing.published ∙ (λ i. ledger (setup i) (whole i));
      rows = λ member within. standing.rows member within ∙ (λ i. replies_spelled (replies (setup i) member (events_of (whole i))));
      place = g.place ∙ ap (λ (h : List Entry). length h) (sym same);
      first = g.first ∙ ap (λ (p : blog.Entries Entry). length (blog.feed p) + 1) (sym (before.published ∙ ap (ledger old.setup) (all_published old settled)));
      count = g.count;
      accepted = g.accepted;
      room = g.room;
      reserved = r.reserved ∙ ap (λ (d : DeskState). d.reserved) s ∙ g.reserved;
    }
