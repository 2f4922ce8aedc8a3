use Rattle.std.proofs.Common.{◌≡◌, List, ◌++◌, length, ap, ◌∙◌, sym}
use Rattle.hx_etcd.proofs.Joins.{joined}
use Rattle.hx_etcd.proofs.requests.request.Goals as goal

pub returns : goal.returns
returns c =
    let digits = c.as_bytes.ensures.value ∙ c.format.ensures.text in
    c.in_ok-extend_from_slice-6.ensures.items
    ∙ joined c.in_ok-text.text.items _ _ _ _ _ _ _ _ _ _ _ c.in_ok-extend_from_slice.ensures.items c.in_ok-extend_from_slice-2.ensures.items c.in_ok-extend_from_slice-3.ensures.items
    (c.in_ok-extend_from_slice-4.ensures.items ∙ ap (λ x. c.extend_from_slice-3.new.self.items ++ x) digits) c.in_ok-extend_from_slice-5.ensures.items c.in_ok-text.ensures.items
