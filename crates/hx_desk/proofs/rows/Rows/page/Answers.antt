use Rattle.std.proofs.Common.{◌-◌, ◌<◌, length, subst, ◌∙◌, refl, List, ℕ}
use Rattle.std.proofs.lemmas.Result.{IfOk-weaker, IfErr-weaker}
use Rattle.hx_desk.specs.Rows.{published_row}
use Rattle.hx_desk.proofs.RowLaws.{page_end}
use Rattle.hx_desk.proofs.rows.Rows.page.Goals as goal

pub returns-clause-replies : goal.returns-clause-replies
returns-clause-replies c =
    IfOk-weaker c.copy_of.result _ _
    (λ replies h. h ∙ page_end (published_row c.args.self.now c.args.member) c.end-end.result.now _ (c.args.from - 1) c.args.most c.min-count.result c.end-end.ensures.replies c.min-count.ensures refl)
    c.copy_of.ensures.ok

pub returns-clause-memory : goal.returns-clause-memory
returns-clause-memory c =
    IfErr-weaker c.copy_of.result _ _
    (λ _ h. subst (λ (rows : List (List ℕ)). 0 < length rows) (page_end (published_row c.args.self.now c.args.member) c.end-end.result.now _ (c.args.from - 1) c.args.most c.min-count.result c.end-end.ensures.replies c.min-count.ensures refl) h)
    c.copy_of.ensures.memory
