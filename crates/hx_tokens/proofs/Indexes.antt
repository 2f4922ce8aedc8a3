-- How a name's row is found.
use Rattle.std.proofs.Common.{◌≡◌, ℕ, ◌+◌, ◌<◌, ◌++◌, ◌∷◌, [], List, Bool, true, false, cond, not, zero, suc, length, nat_lt, position, lt-ltb, le-ltb, arith, Option, Some, None, Result, Ok, Err, slice_get, refl, ap, sym, ◌∙◌}
use Rattle.std.specs.Option.{option_map, option_map_or}
use Rattle.std.specs.Prelude.{IsOk, OnOk}
use Rattle.std.specs.List.{position_or_len}
use Rattle.std.specs.Map.{keys_of, values_of}
use Rattle.std.proofs.lemmas.Bool.{true≢false}
use Rattle.std.proofs.lemmas.Option.{same_Some}
use Rattle.indexmap.specs.IndexMap.{set_value_at, insert_entry}
use Rattle.hx_tokens.specs.declared.name.Name.{Name}
use Rattle.hx_tokens.specs.declared.rows.UsedToken.{UsedToken}
use Rattle.hx_tokens.specs.Chains.{is_used}
use Rattle.hx_tokens.specs.Rows.{Row, is_name, row_index, is_at, updated, AreDistinct, tokens_of}
use Rattle.hx_tokens.proofs.TokenLaws.{row_index-at, unused}
use Rattle.hx_tokens.proofs.UpdateLaws.{updated-next}

-- the index of a row that has the name is the name's
pub row_index-is_at : (name : Name) (rows : List Row) (index : ℕ) → AreDistinct (tokens_of rows) → is_at rows name index ≡ true → row_index name rows ≡ Some index
row_index-is_at name rows index d has = of (slice_get rows index) refl has
  where
    of : (o : Option Row) → slice_get rows index ≡ o → option_map_or (λ (row : Row). is_name name row.0) o false ≡ true → row_index name rows ≡ Some index
    of None g h = absurd (true≢false (sym h))
    of (Some row) g h = row_index-at name rows index row d g h

-- a search of the keys that ended at an index, or at their end
abbrev Ends : List Name → ℕ → Option ℕ → Type 0
Ends keys n None = n ≡ length keys
Ends keys n (Some i) = (n ≡ i) × (i < length keys)

search_ends : (name : Name) (rows : List Row) → Ends (keys_of rows) (position_or_len (is_name name) (keys_of rows)) (row_index name rows)
search_ends name [] = refl
search_ends name (r ∷ rs) = step (is_name name r.0) (row_index name rs) (position_or_len (is_name name) (keys_of rs)) (search_ends name rs)
  where
    step : (b : Bool) (o : Option ℕ) (n : ℕ) → Ends (keys_of rs) n o → Ends (r.0 ∷ keys_of rs) (cond (not b) (1 + n) 0) (cond b (Some 0) (option_map suc o))
    step true o n h = (refl, omega arith)
    step false None n h = omega (arith, h)
    step false (Some i) n h = (omega (arith, h.0), omega (arith, h.1))

-- the index of a name is its position among the keys
pub row_index-position : (name : Name) (rows : List Row) → position (is_name name) (keys_of rows) ≡ row_index name rows
row_index-position name rows = of (row_index name rows) (position_or_len (is_name name) (keys_of rows)) (keys_of rows) (search_ends name rows)
  where
    of : (o : Option ℕ) (n : ℕ) (keys : List Name) → Ends keys n o → cond (nat_lt n (length keys)) (Some n) None ≡ o
    of None n keys h = ap (λ b. cond b (Some n) None) (le-ltb _ _ (omega (arith, h)))
    of (Some i) n keys h = ap (λ b. cond b (Some n) None) (lt-ltb _ _ (omega (arith, h.0, h.1))) ∙ ap Some h.0

-- a name that no row has goes last
inserted-last : (name : Name) (u : UsedToken) (rows : List Row) → row_index name rows ≡ None → insert_entry is_name rows name u ≡ rows ++ (name, u) ∷ []
inserted-last name u [] h = refl
inserted-last name u (r ∷ rs) h = at (is_name name r.0) (row_index name rs) h (inserted-last name u rs)
  where
    at : (b : Bool) (o : Option ℕ) → cond b (Some 0) (option_map suc o) ≡ None → (o ≡ None → insert_entry is_name rs name u ≡ rs ++ (name, u) ∷ [])
        → cond b ((r.0, u) ∷ rs) (r ∷ insert_entry is_name rs name u) ≡ r ∷ (rs ++ (name, u) ∷ [])
    at true o h ih = absurd cc
    at false None h ih = ap (λ l. r ∷ l) (ih refl)
    at false (Some n) h ih = absurd cc

pub inserted : (name : Name) (u : UsedToken) (rows : List Row) → is_used (tokens_of rows) name.member name.token ≡ false → insert_entry is_name rows name u ≡ rows ++ (name, u) ∷ []
inserted name u rows h = inserted-last name u rows (unused name.member name.token rows h)

-- a value written at an index
pub written : (g : UsedToken → UsedToken) (i : ℕ) (rows : List Row) (u : UsedToken) → slice_get (values_of rows) i ≡ Some u → set_value_at rows i (g u) ≡ updated g i rows
written g i [] u h = refl
written g zero (r ∷ rs) u h = ap (λ (w : UsedToken). (r.0, g w) ∷ rs) (same_Some u r.1 (sym h))
written g (suc i) (r ∷ rs) u h = ap (λ l. r ∷ l) (written g i rs u h) ∙ sym (updated-next g r rs i)

-- what holds if there is no error
pub on_ok : {T E : Type 0} (r : Result T E) (P : Type 0) → IsOk r → OnOk r P → P
on_ok (Ok x) P f h = h
on_ok (Err e) P f h = absurd (true≢false (sym f))
