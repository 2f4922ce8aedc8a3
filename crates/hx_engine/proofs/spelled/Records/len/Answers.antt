use Rattle.std.proofs.Common.{◌≡◌, ◌∙◌, length, ap, sym, List, ℕ, arith}
use Rattle.hx_engine.proofs.Pieces.{many}
use Rattle.hx_engine.proofs.spelled.Records.len.Goals as goal

pub returns : goal.returns
returns c =
    let n : c.len.result ≡ length c.self.inside.ends.items = omega arith in
    n ∙ sym (many 0 c.self.inside.text.items c.self.inside.ends.items) ∙ ap (λ (l : List (List ℕ)). length l) c.self.view_is
