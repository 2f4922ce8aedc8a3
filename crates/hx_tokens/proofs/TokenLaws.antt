-- What the rows stand for, and how it changes with them.
use Rattle.std.proofs.Common.{◌≡◌, ℕ, ◌+◌, ◌∷◌, [], List, Bool, true, false, cond, ◌||◌, zero, suc, length, Option, Some, None, slice_get, refl, ap, sym, ◌∙◌, subst, inl, inr, arith}
use Rattle.std.specs.Option.{option_map, option_map_or, IfSome}
use Rattle.std.proofs.lemmas.Bool.{true≢false, cases_Bool}
use Rattle.std.proofs.lemmas.Option.{same_Some}
use Rattle.hx_units.specs.Names.{is_token}
use Rattle.hx_units.specs.declared.names.Token.{Token}
use Rattle.hx_tokens.specs.declared.name.ChainFacts.{ChainFacts}
use Rattle.hx_tokens.specs.declared.name.TokenState.{TokenState}
use Rattle.hx_tokens.specs.Chains.{Used, Chain, is_use, is_used, entered_of, entered_at, index_of, is_chain, executed_by, entered_used, replacing_used, IsEnteredAt, IsChainAt}
use Rattle.hx_tokens.specs.declared.name.Name.{Name}
use Rattle.hx_tokens.specs.Rows.{Row, is_name, name_of, row_index, IsUnused, row_state, output_of, used_of, tokens_of, indices_of, live_keys_of, key_of, row_facts, is_entered, chain_of, chains_of, AreDistinct, IsSound}
use Rattle.hx_tokens.specs.Tokens.{facts_of, key_at, state_of, name_at}
use Rattle.hx_tokens.proofs.ChainLaws.{is_same-flip, is_same-parts, is_same-itself, is_token-itself, slice_get-index_of, is_used-at}

-- the index of a name among the rows is that of the used token
pub row_index-index_of : (m : ℕ) (t : Token) (rows : List Row) → row_index (name_of m t) rows ≡ cond (is_used (tokens_of rows) m t) (Some (index_of (tokens_of rows) m t)) None
row_index-index_of m t [] = refl
row_index-index_of m t (e ∷ es) =
    ap (λ b. cond b (Some 0) (option_map suc (row_index (name_of m t) es))) (is_same-flip m t e.0.member e.0.token)
    ∙ ap (λ o. cond (is_use m t (used_of e)) (Some 0) (option_map suc o)) (row_index-index_of m t es)
    ∙ at (is_use m t (used_of e)) (is_used (tokens_of es) m t) (index_of (tokens_of es) m t)
  where
    at : (b u : Bool) (p : ℕ) → cond b (Some 0) (option_map suc (cond u (Some p) None)) ≡ cond (b || u) (Some (cond b 0 (p + 1))) None
    at true u p = refl
    at false true p = ap Some (let one : suc p ≡ p + 1 = omega arith in one)
    at false false p = refl

pub unused : (m : ℕ) (t : Token) (rows : List Row) → is_used (tokens_of rows) m t ≡ false → IsUnused (name_of m t) rows
unused m t rows h = row_index-index_of m t rows ∙ ap (λ b. cond b (Some (index_of (tokens_of rows) m t)) None) h

-- the row at an index

pub row-at : (rows : List Row) (i : ℕ) (x : Used) → slice_get (tokens_of rows) i ≡ Some x → (r : Row) × ((slice_get rows i ≡ Some r) × (used_of r ≡ x))
row-at [] i x h = absurd cc
row-at (e ∷ es) zero x h = (e, (refl, same_Some (used_of e) x h))
row-at (e ∷ es) (suc i) x h = row-at es i x h

pub slice_get-indices_of : (rows : List Row) (i : ℕ) (r : Row) → slice_get rows i ≡ Some r → slice_get (indices_of rows) i ≡ Some r.1.chain
slice_get-indices_of [] i r h = absurd cc
slice_get-indices_of (e ∷ es) zero r h = ap (λ (x : Row). Some x.1.chain) (same_Some e r h)
slice_get-indices_of (e ∷ es) (suc i) r h = slice_get-indices_of es i r h

pub slice_get-live_keys_of : (rows : List Row) (i : ℕ) (r : Row) → slice_get rows i ≡ Some r → slice_get (live_keys_of rows) i ≡ Some (key_of r.1)
slice_get-live_keys_of [] i r h = absurd cc
slice_get-live_keys_of (e ∷ es) zero r h = ap (λ (x : Row). Some (key_of x.1)) (same_Some e r h)
slice_get-live_keys_of (e ∷ es) (suc i) r h = slice_get-live_keys_of es i r h

-- the name of the used token at an index is that of its row
pub name_at-row : (rows : List Row) (i : ℕ) → option_map (λ (row : Row). row.0) (slice_get rows i) ≡ name_at (tokens_of rows) i
name_at-row [] i = refl
name_at-row (e ∷ es) zero = refl
name_at-row (e ∷ es) (suc i) = name_at-row es i

pub length-tokens_of : (rows : List Row) → length (tokens_of rows) ≡ length rows
length-tokens_of [] = refl
length-tokens_of (e ∷ es) = ap suc (length-tokens_of es)

pub index_of-distinct : (tokens : List Used) (i : ℕ) (u : Used) → AreDistinct tokens → slice_get tokens i ≡ Some u → index_of tokens u.member u.token ≡ i
index_of-distinct [] i u d h = absurd cc
index_of-distinct (v ∷ vs) zero u d h =
    let same = same_Some v u h in
    ap (λ b. cond b 0 (index_of vs u.member u.token + 1)) (subst (λ (w : Used). is_use w.member w.token v ≡ true) same (is_same-itself v.member v.token))
index_of-distinct (v ∷ vs) (suc i) u d h = at (is_use u.member u.token v) refl (index_of-distinct vs i u d.1 h)
  where
    at : (b : Bool) → is_use u.member u.token v ≡ b → index_of vs u.member u.token ≡ i → cond b 0 (index_of vs u.member u.token + 1) ≡ suc i
    at true e ih =
        let p = is_same-parts v.member v.token u.member u.token e in
        absurd (true≢false (sym (is_used-at vs i u h) ∙ (λ j. is_used vs (sym p.0 j) (sym p.1 j)) ∙ d.0))
    at false e ih = omega arith

-- a used token is at its index
pub name_at-index : (tokens : List Used) (i : ℕ) → AreDistinct tokens → IfSome (name_at tokens i) (λ (name : Name). index_of tokens name.member name.token ≡ i)
name_at-index tokens i d = at (slice_get tokens i) refl
  where
    at : (o : Option Used) → slice_get tokens i ≡ o → IfSome (option_map (λ u. name_of u.member u.token) o) (λ (name : Name). index_of tokens name.member name.token ≡ i)
    at None h = tt
    at (Some u) h = index_of-distinct tokens i u d h

pub slice_get-tokens_of : (rows : List Row) (i : ℕ) (r : Row) → slice_get rows i ≡ Some r → slice_get (tokens_of rows) i ≡ Some (used_of r)
slice_get-tokens_of [] i r h = absurd cc
slice_get-tokens_of (e ∷ es) zero r h = ap (λ (x : Row). Some (used_of x)) (same_Some e r h)
slice_get-tokens_of (e ∷ es) (suc i) r h = slice_get-tokens_of es i r h

-- the row that has the name is at its index
pub row_index-at : (n : Name) (rows : List Row) (i : ℕ) (r : Row) → AreDistinct (tokens_of rows) → slice_get rows i ≡ Some r → is_name n r.0 ≡ true → row_index n rows ≡ Some i
row_index-at n rows i r d h e =
    let u : Used = used_of r in
    let at : slice_get (tokens_of rows) i ≡ Some u = slice_get-tokens_of rows i r h in
    let p = is_same-parts n.member n.token r.0.member r.0.token e in
    ap (λ m. row_index (name_of m n.token) rows) p.0 ∙ ap (λ (t : Token). row_index (name_of u.member t) rows) p.1
    ∙ row_index-index_of u.member u.token rows
    ∙ ap (λ b. cond b (Some (index_of (tokens_of rows) u.member u.token)) None) (is_used-at (tokens_of rows) i u at)
    ∙ ap Some (index_of-distinct (tokens_of rows) i u d at)

-- the state of a token

pub executed_facts : (chains : List Chain) (m : ℕ) (e : Token) → (facts_of chains m e).executed ≡ executed_by chains m e
executed_facts [] m e = refl
executed_facts (c ∷ cs) m e = at (is_chain m e c) (executed_facts cs m e)
  where
    at : (b : Bool) → (facts_of cs m e).executed ≡ executed_by cs m e
        → (let f : ChainFacts = cond b (record { executed = c.executed; displayed = c.displayed; traded = c.traded }) (facts_of cs m e) in f.executed) ≡ cond b c.executed (executed_by cs m e)
    at true ih = refl
    at false ih = ih

-- the row of a used token that is its own entered token is a chain's
pub entered-row : (r : Row) (m : ℕ) (e : Token) → used_of r ≡ entered_used m e → is_entered r ≡ true
entered-row r m e h = (λ j. is_token ((h j).token) ((h j).entered)) ∙ is_token-itself e

next-row : (x : Row) (xs : List Row) (n : ℕ) → slice_get (x ∷ xs) (n + 1) ≡ slice_get xs n
next-row x xs n = ap (λ k. slice_get (x ∷ xs) k) (let one : n + 1 ≡ suc n = omega arith in one)

pub facts_of-chains_of : (rows : List Row) (m : ℕ) (e : Token) (f : Row) → slice_get rows (index_of (tokens_of rows) m e) ≡ Some f → used_of f ≡ entered_used m e → facts_of (chains_of rows) m e ≡ row_facts f.1
facts_of-chains_of [] m e f h own = absurd cc
facts_of-chains_of (x ∷ xs) m e f h own = at (is_use m e (used_of x)) refl h (λ k. facts_of-chains_of xs m e f k own)
  where
    other : (b : Bool) → is_use m e (used_of x) ≡ false → facts_of (cond b (chain_of x ∷ chains_of xs) (chains_of xs)) m e ≡ facts_of (chains_of xs) m e
    other true n = ap (λ b. cond b (row_facts x.1) (facts_of (chains_of xs) m e)) n
    other false n = refl

    at : (b : Bool) → is_use m e (used_of x) ≡ b → slice_get (x ∷ xs) (cond b 0 (index_of (tokens_of xs) m e + 1)) ≡ Some f
        → (slice_get xs (index_of (tokens_of xs) m e) ≡ Some f → facts_of (chains_of xs) m e ≡ row_facts f.1) → facts_of (chains_of (x ∷ xs)) m e ≡ row_facts f.1
    at true p h ih =
        let same : x ≡ f = same_Some x f h in
        ap (λ b. facts_of (cond b (chain_of x ∷ chains_of xs) (chains_of xs)) m e) (entered-row x m e (ap used_of same ∙ own))
        ∙ ap (λ b. cond b (row_facts x.1) (facts_of (chains_of xs) m e)) p ∙ ap (λ (r : Row). row_facts r.1) same
    at false p h ih = other (is_entered x) p ∙ ih (sym (next-row x xs (index_of (tokens_of xs) m e)) ∙ h)

-- the row of a chain, at the index of its entered token
pub record ChainRow (rows : List Row) (m : ℕ) (e : Token) (index : ℕ) : Type 0 where
  pub row : Row
  pub stands : slice_get rows index ≡ Some row
  pub own : used_of row ≡ entered_used m e
  pub index-is : index_of (tokens_of rows) m e ≡ index
  pub facts : facts_of (chains_of rows) m e ≡ row_facts row.1

pub chain-row : (rows : List Row) (m : ℕ) (e : Token) (index : ℕ) → AreDistinct (tokens_of rows) → IsEnteredAt (tokens_of rows) m e index → ChainRow rows m e index
chain-row rows m e index d h =
    let r = row-at rows index (entered_used m e) h in
    let at : index_of (tokens_of rows) m e ≡ index = index_of-distinct (tokens_of rows) index (entered_used m e) d h in
    record {
      row = r.0;
      stands = r.1.0;
      own = r.1.1;
      index-is = at;
      facts = facts_of-chains_of rows m e r.0 (ap (λ n. slice_get rows n) at ∙ r.1.0) r.1.1;
    }

pub executed-chain : (rows : List Row) (m : ℕ) (e : Token) (index : ℕ) → (c : ChainRow rows m e index) → c.row.1.executed ≡ executed_by (chains_of rows) m e
executed-chain rows m e index c = sym (ap (λ (f : ChainFacts). f.executed) c.facts) ∙ executed_facts (chains_of rows) m e

-- the state of a used token, and the row of its chain
pub record EventOutput (rows : List Row) (m : ℕ) (t : Token) : Type 0 where
  pub chain : ℕ
  pub entered : IsEnteredAt (tokens_of rows) m (entered_of (tokens_of rows) m t) chain
  pub state : row_state (name_of m t) rows ≡ state_of (tokens_of rows) (chains_of rows) (live_keys_of rows) m t
  pub output : IfSome (row_state (name_of m t) rows) (λ s. s.chain ≡ chain)

pub output-used : (rows : List Row) (m : ℕ) (t : Token) → IsSound rows → is_used (tokens_of rows) m t ≡ true → EventOutput rows m t
output-used rows m t s u =
    let tokens = tokens_of rows in
    let e = entered_of tokens m t in
    let p = index_of tokens m t in
    let standing : slice_get tokens p ≡ Some (replacing_used m t e) = slice_get-index_of tokens m t u in
    let r = row-at rows p (replacing_used m t e) standing in
    let c = r.0.1.chain in
    let entered : IsEnteredAt tokens m e c = s.chained p (replacing_used m t e) c standing (slice_get-indices_of rows p r.0 r.1.0) in
    let f = chain-row rows m e c s.distinct entered in
    let here : row_state (name_of m t) rows ≡ Some (record { chain = c; facts = row_facts f.row.1; key = key_of r.0.1 }) =
    ap (λ o. option_map_or (λ index. option_map_or (output_of rows) (slice_get rows index) None) o None) (row_index-index_of m t rows ∙ ap (λ b. cond b (Some p) None) u)
    ∙ ap (λ o. option_map_or (output_of rows) o None) r.1.0
    ∙ ap (λ o. option_map (λ (g : Row). let k : TokenState = record { chain = c; facts = row_facts g.1; key = key_of r.0.1 } in k) o) f.stands
    in
    record {
      chain = c;
      entered = entered;
      state =
          here
          ∙ (λ j. Some (record { chain = sym f.index-is j; facts = sym f.facts j; key = ap (λ o. option_map_or (λ k. k) o None) (sym (slice_get-live_keys_of rows p r.0 r.1.0)) j }))
          ∙ sym (ap (λ b. cond b (Some (record { chain = index_of tokens m e; facts = facts_of (chains_of rows) m e; key = key_at (live_keys_of rows) p })) None) u);
      output = subst (λ o. IfSome o (λ s. s.chain ≡ c)) (sym here) refl;
    }

output-unused : (rows : List Row) (m : ℕ) (t : Token) → is_used (tokens_of rows) m t ≡ false → row_state (name_of m t) rows ≡ None
output-unused rows m t u = ap (λ o. option_map_or (λ index. option_map_or (output_of rows) (slice_get rows index) None) o None) (unused m t rows u)

pub row_state-state_of : (rows : List Row) (m : ℕ) (t : Token) → IsSound rows → row_state (name_of m t) rows ≡ state_of (tokens_of rows) (chains_of rows) (live_keys_of rows) m t
row_state-state_of rows m t s =
    elim (cases_Bool (is_used (tokens_of rows) m t)) [
      | inl u ↦ (output-used rows m t s u).state
      | inr n ↦ output-unused rows m t n ∙ sym (ap (λ b. cond b (Some (record { chain = index_of (tokens_of rows) m (entered_of (tokens_of rows) m t); facts = facts_of (chains_of rows) m (entered_of (tokens_of rows) m t); key = key_at (live_keys_of rows) (index_of (tokens_of rows) m t) })) None) n)
    ]

pub output-chain : (rows : List Row) (m : ℕ) (t : Token) → IsSound rows → IfSome (row_state (name_of m t) rows) (λ s. IsEnteredAt (tokens_of rows) m (entered_of (tokens_of rows) m t) s.chain)
output-chain rows m t s =
    elim (cases_Bool (is_used (tokens_of rows) m t)) [
      | inl u ↦ let d = output-used rows m t s u in at (row_state (name_of m t) rows) d.chain d.output d.entered
      | inr n ↦ subst (λ o. IfSome o (λ s. IsEnteredAt (tokens_of rows) m (entered_of (tokens_of rows) m t) s.chain)) (sym (output-unused rows m t n)) tt
    ]
  where
    at : (o : Option TokenState) (c : ℕ) → IfSome o (λ s. s.chain ≡ c) → IsEnteredAt (tokens_of rows) m (entered_of (tokens_of rows) m t) c
        → IfSome o (λ s. IsEnteredAt (tokens_of rows) m (entered_of (tokens_of rows) m t) s.chain)
    at None c h i = tt
    at (Some s) c h i = subst (λ n. IsEnteredAt (tokens_of rows) m (entered_of (tokens_of rows) m t) n) (sym h) i

-- where a chain begins, the row's own name has the entered token
pub entered_at-row : (rows : List Row) (i : ℕ) (t : Token) → IsChainAt (tokens_of rows) i → option_map_or (λ (n : Name). n.token) (option_map (λ (r : Row). r.0) (slice_get rows i)) t ≡ entered_at (tokens_of rows) i t
entered_at-row rows i t there =
    ap (λ o. option_map_or (λ (n : Name). n.token) o t) (name_at-row rows i ∙ ap (λ o. option_map (λ (u : Used). name_of u.member u.token) o) there.1.1)
    ∙ sym (ap (λ o. option_map_or (λ (u : Used). u.entered) o t) there.1.1)

-- the index of a used name among the rows
pub row_index-used : (m : ℕ) (t : Token) (rows : List Row) → is_used (tokens_of rows) m t ≡ true → row_index (name_of m t) rows ≡ Some (index_of (tokens_of rows) m t)
row_index-used m t rows u = row_index-index_of m t rows ∙ ap (λ b. cond b (Some (index_of (tokens_of rows) m t)) None) u
