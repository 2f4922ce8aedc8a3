-- The members whose replies are in the batch that is written, and those whose replies wait.
use Rattle.std.proofs.Common.{◌≡◌, ℕ, ◌+◌, List, take, sym, ap, ◌∙◌, arith}
use Rattle.hx_blog.specs.Feed.{Entries}
use Rattle.hx_members.specs.Setups.{Setup}
use Rattle.hx_market.specs.Markets.{Market}
use Rattle.hx_desk.specs.declared.entry.Entry.{Entry}
use Rattle.hx_desk.specs.declared.mark.Mark.{Mark}
use Rattle.hx_desk.specs.Rows.{RowList, times}
use Rattle.hx_desk.specs.InStep.{AreInStep, AreAnswered}

pub writing_answered : (setup : Setup) (market : Market) (published : Entries Entry) (staged : List (List ℕ)) (h : List Entry) (rows : RowList) (counts : List ℕ) (published_end sealed : Mark) (writing waiting : List ℕ)
    → AreInStep setup market published staged h rows counts published_end sealed writing waiting → AreAnswered setup (take published_end.entries h) (take sealed.entries h) writing
writing_answered setup market published staged h rows counts published_end sealed writing waiting s = λ m less.
    ap (λ n. n + times m writing) (sym (s.published_replies m less)) ∙ s.writing_replies m less

pub waiting_answered : (setup : Setup) (market : Market) (published : Entries Entry) (staged : List (List ℕ)) (h : List Entry) (rows : RowList) (counts : List ℕ) (published_end sealed : Mark) (writing waiting : List ℕ)
    → AreInStep setup market published staged h rows counts published_end sealed writing waiting → AreAnswered setup (take sealed.entries h) h waiting
waiting_answered setup market published staged h rows counts published_end sealed writing waiting s = λ m less.
    omega (arith, s.writing_replies m less, s.all_replies m less)
