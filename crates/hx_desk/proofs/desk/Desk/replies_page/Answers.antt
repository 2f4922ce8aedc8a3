use Rattle.std.proofs.Common.{◌≡◌, ◌∙◌, ◌<◌, ◌^◌, List, ℕ, length, take, ap, subst, sym}
use Rattle.std.proofs.lemmas.Result.{IfOk-weaker, IfErr-weaker}
use Rattle.hx_units.specs.Fields.{texts}
use Rattle.hx_desk.specs.Rows.{Part, row_of, published_row, from_number, page}
use Rattle.hx_desk.specs.Desks.{DeskState, IsStanding, AreRepliesAt, desk_of}
use Rattle.hx_desk.specs.Entries.{events_of}
use Rattle.hx_desk.proofs.Standing.{desk_stands, shows}
use Rattle.hx_desk.proofs.NoSecrets.{replies_without_trace}
use Rattle.hx_desk.proofs.desk.Desk.replies_page.Goals as goal

pub returns-clause-replies : goal.returns-clause-replies
returns-clause-replies c =
    let i = c.self.inside in
    let part : Part = page c.args.from c.args.most in
    let d : DeskState = desk_of i.writer i.market i.history.items i.rows i.published_end i.sealed i.reserved in
    let stands : IsStanding d = desk_stands i.writer i.market i.history.items i.rows i.published_end i.sealed i.reserved i.writing.items i.waiting.items c.self.invariant in
    let row = shows i.rows c.args.member c.page.ensures.range c.self.invariant.sized_counts c.self.invariant.sized_rows in
    IfOk-weaker c.page.result _ _
    (λ replies h.
    subst (λ (e : DeskState). AreRepliesAt e c.args.member part (texts replies.items)) c.self.view_is
    (replies_without_trace d.setup (events_of (take d.published_end d.history)) c.args.member part (texts replies.items) (h ∙ ap part (row ∙ stands.rows c.args.member c.page.ensures.range))))
    c.page.ensures.replies

pub returns-clause-memory : goal.returns-clause-memory
returns-clause-memory c =
    let i = c.self.inside in
    let row : published_row i.rows c.args.member ≡ row_of c.args.self.now.rows c.args.member =
    shows i.rows c.args.member c.page.ensures.range c.self.invariant.sized_counts c.self.invariant.sized_rows ∙ ap (λ (e : DeskState). row_of e.rows c.args.member) c.self.view_is in
    IfErr-weaker c.page.result _ _ (λ _ h. subst (λ (r : List (List ℕ)). 0 < length (page c.args.from c.args.most r)) row h) c.page.ensures.memory

pub returns-clause-few : goal.returns-clause-few
returns-clause-few c =
    let i = c.self.inside in
    let row : published_row i.rows c.args.member ≡ row_of c.args.self.now.rows c.args.member =
    shows i.rows c.args.member c.page.ensures.range c.self.invariant.sized_counts c.self.invariant.sized_rows ∙ ap (λ (e : DeskState). row_of e.rows c.args.member) c.self.view_is in
    subst (λ (r : List (List ℕ)). length r < 2 ^ 63) row c.page.ensures.few
