-- A login is read from its payload exactly if the payload is its fields.
use Rattle.std.proofs.Common.{◌≡◌, ℕ, List, ◌++◌, length, refl, sym, ap, ◌∙◌, subst, arith}
use Rattle.hx_units.specs.Fields.{text_at}
use Rattle.hx_units.proofs.FieldLaws.{cells, by_cells, length-text_at}
use Rattle.hx_soup.specs.declared.login.LoginRequest.{LoginRequest}
use Rattle.hx_soup.specs.Logins.{SpellsNumber, IsLogin}

-- the fields of a login at their offsets
abbrev pub fields : List ℕ → ℕ → LoginRequest
fields payload n = record { user = text_at 0 6 payload; password = text_at 6 10 payload; session = text_at 16 10 payload; sequence = n }

pub fields-found : (payload : List ℕ) (n : ℕ) → length payload ≡ 46 → SpellsNumber (text_at 26 20 payload) n → IsLogin payload (fields payload n)
fields-found payload n len spells = record {
  text = text_at 26 20 payload;
  whole = by_cells (λ b. b ≡ text_at 0 6 b ++ text_at 6 10 b ++ text_at 16 10 b ++ text_at 26 20 b) 46 payload len refl;
  user = length-text_at 0 6 payload (omega arith);
  password = length-text_at 6 10 payload (omega arith);
  session = length-text_at 16 10 payload (omega arith);
  text_len = length-text_at 26 20 payload (omega arith);
  sequence = spells;
}

-- the payload whose parts these are
record Parts (payload user password session text : List ℕ) : Type 0 where
  pub len : length payload ≡ 46
  pub user_is : text_at 0 6 payload ≡ user
  pub password_is : text_at 6 10 payload ≡ password
  pub session_is : text_at 16 10 payload ≡ session
  pub text_is : text_at 26 20 payload ≡ text

parts : (u p s t : List ℕ) → length u ≡ 6 → length p ≡ 10 → length s ≡ 10 → length t ≡ 20 → Parts (u ++ p ++ s ++ t) u p s t
parts u p s t a b c d =
    let P : List ℕ → List ℕ → List ℕ → List ℕ → Type 0 = λ u p s t. Parts (u ++ p ++ s ++ t) u p s t in
    by_cells (λ u. P u p s t) 6 u a (by_cells (λ p. P (cells 6 u) p s t) 10 p b (by_cells (λ s. P (cells 6 u) (cells 10 p) s t) 10 s c
    (by_cells (λ t. P (cells 6 u) (cells 10 p) (cells 10 s) t) 20 t d (record { len = refl; user_is = refl; password_is = refl; session_is = refl; text_is = refl }))))

parts_of : (payload : List ℕ) (login : LoginRequest) (is : IsLogin payload login) → Parts payload login.user login.password login.session is.text
parts_of payload login is =
    let P : List ℕ → Type 0 = λ bytes. Parts bytes login.user login.password login.session is.text in
    subst P (sym is.whole) (parts login.user login.password login.session is.text is.user is.password is.session is.text_len)

pub login_number : (payload : List ℕ) (login : LoginRequest) → IsLogin payload login → SpellsNumber (text_at 26 20 payload) login.sequence
login_number payload login is = let P : List ℕ → Type 0 = λ text. SpellsNumber text login.sequence in subst P (sym (parts_of payload login is).text_is) is.sequence

pub fields-only : (payload : List ℕ) (login : LoginRequest) (n : ℕ) → IsLogin payload login → n ≡ login.sequence → fields payload n ≡ login
fields-only payload login n is same =
    let p = parts_of payload login is in
    let made : List ℕ → List ℕ → List ℕ → ℕ → LoginRequest = λ u p s n. record { user = u; password = p; session = s; sequence = n } in
    ap (λ (u : List ℕ). made u (text_at 6 10 payload) (text_at 16 10 payload) n) p.user_is
    ∙ ap (λ (w : List ℕ). made login.user w (text_at 16 10 payload) n) p.password_is
    ∙ ap (λ (s : List ℕ). made login.user login.password s n) p.session_is
    ∙ ap (λ (m : ℕ). made login.user login.password login.session m) same
