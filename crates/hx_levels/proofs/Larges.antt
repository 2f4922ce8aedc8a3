-- A search by size passes no level that has an order of at least `least` shares.
use Rattle.std.proofs.Common.{◌≡◌, ℕ, ◌+◌, ◌*◌, ◌/◌, ◌%◌, ◌^◌, ◌<◌, ◌≤◌, Bool, true, false, ◌&&◌, cond, eqb, leb, List, Option, Some, None, refl, ap, ◌∙◌, arith, eq-eqb, eqb-true, ne_eqb}
use Rattle.std.specs.List.{find}
use Rattle.std.specs.Option.{IfSome}
use Rattle.std.proofs.lemmas.Bool.{and_parts, cond-false, false_from_ne_true, leb-true}
use Rattle.std.proofs.lemmas.Bool.Decides.{nat_tests}
use Rattle.hx_levels.specs.declared.level_book.levels.Level.{Level}
use Rattle.hx_levels.specs.LevelKeys.{LevelKey, level_key_number, level_key_of_number}
use Rattle.hx_levels.specs.Levels.{LevelStore, level_at}
use Rattle.hx_levels.specs.Sizes.{size_of, size_in, AreSizes}
use Rattle.hx_ranked.specs.declared.entry.Entry.{Entry}
use Rattle.hx_ranked.specs.Ranked.{IsRising, has_rank, is_within, first_within_of}
use Rattle.hx_ranked.proofs.Found.{found-first, found-none}

-- a level key is that of its number
level_key_back : (at : LevelKey) → at.distance < 4294967296 → level_key_of_number (level_key_number at) ≡ at
level_key_back at l =
    ap (λ n. record { locate = n; buy = eqb (level_key_number at / 2 ^ 32 % 2) 1; distance = level_key_number at % 2 ^ 32 }) (stock at.buy)
    ∙ ap (λ b. record { locate = at.locate; buy = b; distance = level_key_number at % 2 ^ 32 }) (side at.buy)
    ∙ ap (λ n. record { locate = at.locate; buy = at.buy; distance = n }) (apart at.buy)
  where
    stock : (b : Bool) → ((at.locate * 2 + cond b 1 0) * 2 ^ 32 + at.distance) / 2 ^ 33 ≡ at.locate
    stock true = omega arith
    stock false = omega arith

    side : (b : Bool) → eqb (((at.locate * 2 + cond b 1 0) * 2 ^ 32 + at.distance) / 2 ^ 32 % 2) 1 ≡ b
    side true = eq-eqb (((at.locate * 2 + 1) * 2 ^ 32 + at.distance) / 2 ^ 32 % 2) 1 (omega arith)
    side false = ne_eqb (((at.locate * 2 + 0) * 2 ^ 32 + at.distance) / 2 ^ 32 % 2) 1 (λ e. omega arith)

    apart : (b : Bool) → ((at.locate * 2 + cond b 1 0) * 2 ^ 32 + at.distance) % 2 ^ 32 ≡ at.distance
    apart true = omega arith
    apart false = omega arith

module _ (levels : LevelStore) (entries : List Entry) (sizes : AreSizes levels entries) (from : LevelKey) (limit least : ℕ) (small : limit < 4294967295) (some : 0 < least) where
  abbrev first : ℕ
  first = level_key_number from

  abbrev last : ℕ
  last = level_key_number (record from { distance = limit })

  abbrev rank_at : ℕ → ℕ
  rank_at d = level_key_number (record from { distance = d })

  -- a level that is not within the limits of the search
  too_small : (d : ℕ) → from.distance ≤ d → d ≤ limit → ((l : Level) → find (has_rank (rank_at d)) entries ≡ Some (size_of (rank_at d) l) → is_within first last 4294967295 least (size_of (rank_at d) l) ≡ false)
      → IfSome (level_at levels (record from { distance = d })) (λ l. l.most < least)
  too_small d a b out = by (level_at levels (record from { distance = d })) refl
    where
      level_key : level_key_of_number (rank_at d) ≡ record from { distance = d }
      level_key = level_key_back (record from { distance = d }) (omega arith)

      low : first ≤ rank_at d
      low = omega arith

      high : rank_at d ≤ last
      high = omega arith

      few : (p q r m k : ℕ) → p ≤ r → r ≤ q → (leb p r && (leb r q && (leb 1 4294967295 && leb k m))) ≡ false → m < k
      few p q r m k x y h = grind (arith, nat_tests)

      by : (o : Option Level) → level_at levels (record from { distance = d }) ≡ o → IfSome o (λ l. l.most < least)
      by None e = tt
      by (Some l) e = on (eqb l.most 0) refl
        where
          on : (b : Bool) → eqb l.most 0 ≡ b → l.most < least
          on true z = let g = eqb-true l.most 0 z in omega (arith, g)
          on false z =
              few first last (rank_at d) l.most least low high
              (out l (sizes (rank_at d) ∙ ap (size_in (rank_at d)) (ap (level_at levels) level_key ∙ e) ∙ cond-false (eqb l.most 0) None (Some (size_of (rank_at d) l)) z))

  -- if none is found
  pub all_small : first_within_of first last 4294967295 least entries ≡ None
      → (d : ℕ) → from.distance ≤ d → d ≤ limit → IfSome (level_at levels (record from { distance = d })) (λ l. l.most < least)
  all_small none d a b = too_small d a b (λ l f. found-none first last 4294967295 least entries none (rank_at d) (size_of (rank_at d) l) f)

  -- if one is found
  module _ (e : Entry) (rising : IsRising entries) (found : first_within_of first last 4294967295 least entries ≡ Some e) where
    within : (first ≤ e.rank) × (e.rank ≤ last)
    within =
        let f = found-first first last 4294967295 least e entries rising found in
        let p = and_parts (leb first e.rank) (leb e.rank last && (leb e.least 4294967295 && leb least e.shares)) f.1 in
        let q = and_parts (leb e.rank last) (leb e.least 4294967295 && leb least e.shares) p.1 in
        (leb-true first e.rank p.0, leb-true e.rank last q.0)

    pub begins : from.distance ≤ e.rank % 4294967296
    begins = let w = within in omega (arith, w.0, w.1)

    pub small_before : (d : ℕ) → from.distance ≤ d → d < e.rank % 4294967296 → d ≤ limit → IfSome (level_at levels (record from { distance = d })) (λ l. l.most < least)
    small_before d a b c =
        too_small d a c (λ l f.
        false_from_ne_true (is_within first last 4294967295 least (size_of (rank_at d) l)) (λ t.
        let w = within in
        let above : e.rank ≤ rank_at d = (found-first first last 4294967295 least e entries rising found).2 (rank_at d) (size_of (rank_at d) l) f t in
        absurd (omega (arith, w.0, w.1, above, b))))
