-- The records of pairs.
use Rattle.std.proofs.Common.{◌≡◌, ◌≢◌, ℕ, zero, suc, ◌+◌, ◌<◌, List, [], ◌∷◌, ◌++◌, length, take, map, get_or, refl, sym, ap, ◌∙◌, subst, arith, add-zero, add-one}
use Rattle.std.specs.Prelude.{Option, Some, None, codes}
use Rattle.std.proofs.lemmas.List.{length-map}
use Rattle.json.specs.Json.{Json, null, Items, no_items, item}
use Rattle.json.specs.Find.{get, as_array}
use Rattle.json.specs.Value.{value_view, items_of}
use Rattle.json.specs.declared.value.Value.{Value as Tree}
use Rattle.hx_fenced_log.specs.Records.{Record}
use Rattle.hx_etcd.specs.declared.reported.Field.TheVariants.{Key}
use Rattle.hx_etcd.specs.declared.reported.AnswerError.{AnswerError}
use Rattle.hx_etcd.specs.Answers.{IsPairFault, IsRecordAt, AreRecords, IsListFault, list_of, pairs_in, HoldsRecords, HasBadPair}

-- ---- one pair

-- ---- pair by pair

-- the value of an item of an array
pub item_at : {A : Type 0} (vs : List (Tree A)) (i : ℕ) (v : Tree A) → i < length vs → v ≡ get_or vs i v → value_view v ≡ get_or (map value_view vs) i null
item_at [] i v lt e = absurd (omega arith)
item_at (x ∷ vs) zero v lt e = ap value_view e
item_at (x ∷ vs) (suc i) v lt e = item_at vs i v (omega arith) e

-- the next record is read
next_read : (from i : ℕ) (js : List Json) (rs : List Record) (r : Record) → i < length js → AreRecords from (take i js) rs → IsRecordAt (from + i) (get_or js i null) r → AreRecords from (take (suc i) js) (rs ++ r ∷ [])
next_read from i [] rs r lt are is = absurd (omega arith)
next_read from zero (j ∷ js) [] r lt are is = (subst (λ (n : ℕ). IsRecordAt n j r) (add-zero from) is, tt)
next_read from zero (j ∷ js) (x ∷ rs) r lt are is = absurd are
next_read from (suc i) (j ∷ js) [] r lt are is = absurd are
next_read from (suc i) (j ∷ js) (x ∷ rs) r lt are is =
    let shift : from + suc i ≡ suc from + i = omega arith in
    (are.0, next_read (suc from) i js rs r (omega arith) are.1 (subst (λ (n : ℕ). IsRecordAt n (get_or js i null) r) shift is))

pub one_more : (from number i : ℕ) (js : List Json) (j : Json) (rs : List Record) (r : Record) → i < length js → number ≡ from + i → j ≡ get_or js i null → AreRecords from (take i js) rs → IsRecordAt number j r → AreRecords from (take (i + 1) js) (rs ++ r ∷ [])
one_more from number i js j rs r lt count here are is =
    let moved : IsRecordAt (from + i) j r = subst (λ (n : ℕ). IsRecordAt n j r) count is in
    let there : IsRecordAt (from + i) (get_or js i null) r = subst (λ (k : Json). IsRecordAt (from + i) k r) here moved in
    subst (λ (n : ℕ). AreRecords from (take n js) (rs ++ r ∷ [])) (sym (add-one i)) (next_read from i js rs r lt are there)

-- the next pair is bad
pub bad_at : (from number i : ℕ) (js : List Json) (j : Json) (rs : List Record) (e : AnswerError) → i < length js → number ≡ from + i → j ≡ get_or js i null → AreRecords from (take i js) rs → IsPairFault number j e → IsListFault from js e
bad_at from number i js j rs e lt count here are bad = record {
  index = i;
  within = lt;
  before = (rs, are);
  fault = subst (λ (k : Json). IsPairFault (from + i) k e) here (subst (λ (n : ℕ). IsPairFault n j e) count bad);
}

-- the same, of the values
pub one_in : {A : Type 0} (from number i : ℕ) (vs : List (Tree A)) (v : Tree A) (rs : List Record) (r : Record) → i < length vs → v ≡ get_or vs i v → number ≡ from + i → AreRecords from (take i (map value_view vs)) rs → IsRecordAt number (value_view v) r → AreRecords from (take (i + 1) (map value_view vs)) (rs ++ r ∷ [])
one_in from number i vs v rs r lt is count are at =
    one_more from number i (map value_view vs) (value_view v) rs r (omega (arith, lt, length-map vs value_view)) count (item_at vs i v lt is) are at

pub bad_in : {A : Type 0} (from number i : ℕ) (vs : List (Tree A)) (v : Tree A) (rs : List Record) (e : AnswerError) → i < length vs → v ≡ get_or vs i v → number ≡ from + i → AreRecords from (take i (map value_view vs)) rs → IsPairFault number (value_view v) e → IsListFault from (map value_view vs) e
bad_in from number i vs v rs e lt is count are bad =
    bad_at from number i (map value_view vs) (value_view v) rs e (omega (arith, lt, length-map vs value_view)) count (item_at vs i v lt is) are bad

-- ---- the whole answer

pub list_of-items : (js : List Json) → list_of (items_of js) ≡ js
list_of-items [] = refl
list_of-items (j ∷ js) = ap (λ (l : List Json). j ∷ l) (list_of-items js)

pub no_pairs : (from : ℕ) (j header : Json) → Some header ≡ get (codes "header") j → None ≡ get (codes "kvs") j → HoldsRecords from j []
no_pairs from j header h e = record {
  header = λ (none : get (codes "header") j ≡ None). let bad : Some header ≡ None = h ∙ none in cc bad;
  pairs = no_items;
  are = ap pairs_in (sym e);
  records = tt;
}

pub with_pairs : (from : ℕ) (j header member : Json) (js : List Json) (rs : List Record) → Some header ≡ get (codes "header") j → Some member ≡ get (codes "kvs") j → as_array member ≡ Some (items_of js) → AreRecords from js rs → HoldsRecords from j rs
with_pairs from j header member js rs h e is are = record {
  header = λ (none : get (codes "header") j ≡ None). let bad : Some header ≡ None = h ∙ none in cc bad;
  pairs = items_of js;
  are = ap pairs_in (sym e) ∙ is;
  records = subst (λ (l : List Json). AreRecords from l rs) (sym (list_of-items js)) are;
}

pub with_bad_pair : (from : ℕ) (j header member : Json) (js : List Json) (e : AnswerError) → Some header ≡ get (codes "header") j → Some member ≡ get (codes "kvs") j → as_array member ≡ Some (items_of js) → IsListFault from js e → HasBadPair from j e
with_bad_pair from j header member js e h m is bad = record {
  header = λ (none : get (codes "header") j ≡ None). let bad : Some header ≡ None = h ∙ none in cc bad;
  pairs = items_of js;
  are = ap pairs_in (sym m) ∙ is;
  fault = subst (λ (l : List Json). IsListFault from l e) (sym (list_of-items js)) bad;
}
