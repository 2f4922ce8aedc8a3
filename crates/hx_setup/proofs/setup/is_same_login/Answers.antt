use Rattle.std.proofs.Common.{sym, ◌∙◌, map}
use Rattle.std.specs.Char.{to_ascii_lowercase}
use Rattle.std.specs.Prelude.{bytes_eq}
use Rattle.std.proofs.lemmas.List.{length-map}
use Rattle.std.proofs.lemmas.Slice.Eq.{bytes_eq-Decides}
use Rattle.hx_units.proofs.Booleans.{same_bools}
use Rattle.hx_setup.proofs.SetupLaws.{is_login-same}
use Rattle.hx_setup.proofs.setup.is_same_login.Goals as goal

pub returns : goal.returns
returns c =
    let a = c.args.given.now in
    let b = c.args.retained.now in
    let f = to_ascii_lowercase in
    same_bools c.eq_ignore_ascii_case.result (bytes_eq (map f a) (map f b))
    (λ h. (bytes_eq-Decides (map f a) (map f b)).1 (c.eq_ignore_ascii_case.ensures.test.0 h))
    (λ h. c.eq_ignore_ascii_case.ensures.test.1 ((bytes_eq-Decides (map f a) (map f b)).0 h))
    ∙ sym (is_login-same f a b (length-map a f ∙ c.requires ∙ sym (length-map b f)))
