use Rattle.std.proofs.Common.{◌≡◌, ◌+◌, ◌≤◌, ◌%◌, ℕ, Bool, List, Option, None, sym, ap, ◌∙◌, subst, arith}
use Rattle.std.specs.Option.{IfSome, IfNone}
use Rattle.hx_levels.specs.LevelKeys.{LevelKey, level_key_number}
use Rattle.hx_levels.specs.Levels.{first_at, IsFirstFrom}
use Rattle.hx_levels.proofs.Larges.{all_small, begins, small_before}
use Rattle.hx_ranked.specs.declared.entry.Entry.{Entry}
use Rattle.hx_ranked.specs.Ranked.{first_within_of}
use Rattle.hx_levels.proofs.level_book.sides.Sides.first_by_size.Goals as goal

-- the search goes from the number of one level key to that of another
search_is : (entries : List Entry) (least first last : ℕ) (from to : LevelKey) (at : LevelKey) (o : Option Entry) → first ≡ level_key_number from → last ≡ level_key_number at → at ≡ to → o ≡ first_within_of first last 4294967295 least entries
    → first_within_of (level_key_number from) (level_key_number to) 4294967295 least entries ≡ o
search_is entries least first last from to at o f l a e =
    ap (λ n. first_within_of n (level_key_number to) 4294967295 least entries) (sym f)
    ∙ ap (λ n. first_within_of first n 4294967295 least entries) (sym (l ∙ ap level_key_number a)) ∙ sym e

-- no level is large enough
pub returns-in_default : goal.returns-in_default
returns-in_default c =
    let was = c.args.self.now in
    let none = search_is was.sizes.entries c.args.least c.size_rank.result c.size_rank-last.result c.args.from (record c.args.from { distance = c.args.limit }) c.at.result c.first_within.result
    c.size_rank.ensures.number c.size_rank-last.ensures.number c.at.ensures c.first_within.ensures.exact ∙ c.in_default.is in
    record {
      begin = c.args.from.distance + c.args.limit + 1;
      above = omega arith;
      small = λ d a b l. all_small was.levels was.sizes.entries was.sized c.args.from c.args.limit c.args.least c.requires.limit c.requires.some none d a l;
      found = tt;
      none = λ d s a l. absurd (omega arith);
    }

-- the search begins at the first level that is
pub returns : goal.returns
returns c =
    let was = c.args.self.now in
    let entry = c.in-Some.entry in
    let found = search_is was.sizes.entries c.args.least c.size_rank.result c.size_rank-last.result c.args.from (record c.args.from { distance = c.args.limit }) c.at.result c.first_within.result
    c.size_rank.ensures.number c.size_rank-last.ensures.number c.at.ensures c.first_within.ensures.exact ∙ c.in-Some.is in
    let level_key : c.at-2.result ≡ record c.args.from { distance = entry.rank % 4294967296 } = c.at-2.ensures ∙ ap (λ n. record c.args.from { distance = n }) c.distance_in.ensures in
    record {
      begin = entry.rank % 4294967296;
      above = begins was.levels was.sizes.entries was.sized c.args.from c.args.limit c.args.least c.requires.limit c.requires.some entry c.first_within.ensures.rising found;
      small = λ d a b l. small_before was.levels was.sizes.entries was.sized c.args.from c.args.limit c.args.least c.requires.limit c.requires.some entry c.first_within.ensures.rising found d a b l;
      found = subst (λ (r : LevelKey). IfSome c.first_from.result (IsFirstFrom was.levels r.locate r.buy r.distance c.args.limit)) level_key c.first_from.ensures.found;
      none = subst (λ (r : LevelKey). IfNone c.first_from.result ((d : ℕ) (s : Bool) → r.distance ≤ d → d ≤ c.args.limit → first_at was.levels r.locate r.buy d s ≡ None)) level_key c.first_from.ensures.none;
    }
