use Rattle.std.proofs.Common.{◌≡◌, ℕ, ◌+◌, false, Option, Some, None, ap, ◌∙◌, subst, drop, take, length, ◌-◌, List, arith}
use Rattle.std.proofs.lemmas.Grind.{common_steps}
use Rattle.std.specs.Option.{MatchOption, option_map}
use Rattle.std.specs.List.{find}
use Rattle.hx_book.specs.declared.order.Live.{Live}
use Rattle.hx_book.specs.Lists.{after_first}
use Rattle.hx_book.specs.Rank.{first_of}
use Rattle.hx_book.specs.Book.{has_key, IsIndex, is_ahead, is_candidate, is_equal, is_under}
use Rattle.hx_book.proofs.Next.{next-some, Ranked, standing_at, found_equal, found_below, placed_some}
use Rattle.hx_book.proofs.list_book.next_in.Goals as goal

rest_is : (n : ℕ) (xs : List Live) → take (length xs - n) (drop n xs) ≡ drop n xs
rest_is n xs = grind (arith, common_steps)

pub unwrap-index-requires : goal.unwrap-index-requires
unwrap-index-requires c =
    let r = next-some c.args.terms.now c.args.key.0 c.args.entries.now c.requires.differ c.requires.ranked in
    placed_some c.index_of.result c.args.key.0 c.args.entries.now c.index_of.ensures r.has

pub returns-in-Some : goal.returns-in-Some
returns-in-Some c =
    let terms = c.args.terms.now in
    let xs = c.args.entries.now in
    let live = c.index-entries-index.result in
    let r : Ranked terms c.args.key.0 xs = next-some terms c.args.key.0 xs c.requires.differ c.requires.ranked in
    let M : Option ℕ → Type 0 = λ o. MatchOption o (has_key c.args.key.0 xs ≡ false) (IsIndex c.args.key.0 xs) in
    let p : IsIndex c.args.key.0 xs c.unwrap-index.result = subst M c.unwrap-index.ensures c.index_of.ensures in
    let same : live ≡ r.live = standing_at terms c.args.key.0 c.unwrap-index.result xs live r p c.index-entries-index.is in
    let e : Some c.in-Some.next ≡ option_map (λ x. x.key) (find (is_equal terms r.live.order) (after_first (is_under c.args.key.0) xs)) =
    c.in-Some.ensures ∙ ap (λ l. option_map (λ x. x.key) (find (is_equal terms live.order) l)) (rest_is (c.unwrap-index.result + 1) xs) ∙ ap (λ l. option_map (λ x. x.key) (find (is_equal terms live.order) l)) p.later
    ∙ ap (λ (l : Live). option_map (λ x. x.key) (find (is_equal terms l.order) (after_first (is_under c.args.key.0) xs))) same in
    found_equal (find (is_equal terms r.live.order) (after_first (is_under c.args.key.0) xs)) (first_of (is_ahead terms.side) (is_candidate terms (Some r.live)) xs) c.in-Some.next e ∙ r.next

pub returns-in-None : goal.returns-in-None
returns-in-None c =
    let terms = c.args.terms.now in
    let xs = c.args.entries.now in
    let live = c.index-entries-index.result in
    let r : Ranked terms c.args.key.0 xs = next-some terms c.args.key.0 xs c.requires.differ c.requires.ranked in
    let M : Option ℕ → Type 0 = λ o. MatchOption o (has_key c.args.key.0 xs ≡ false) (IsIndex c.args.key.0 xs) in
    let p : IsIndex c.args.key.0 xs c.unwrap-index.result = subst M c.unwrap-index.ensures c.index_of.ensures in
    let same : live ≡ r.live = standing_at terms c.args.key.0 c.unwrap-index.result xs live r p c.index-entries-index.is in
    let e : None ≡ option_map (λ x. x.key) (find (is_equal terms r.live.order) (after_first (is_under c.args.key.0) xs)) =
    c.in-None.ensures ∙ ap (λ l. option_map (λ x. x.key) (find (is_equal terms live.order) l)) (rest_is (c.unwrap-index.result + 1) xs) ∙ ap (λ l. option_map (λ x. x.key) (find (is_equal terms live.order) l)) p.later
    ∙ ap (λ (l : Live). option_map (λ x. x.key) (find (is_equal terms l.order) (after_first (is_under c.args.key.0) xs))) same in
    c.first_below.ensures
    ∙ ap (λ (l : Live). option_map (λ x. x.key) (first_of (is_ahead terms.side) (is_candidate terms (Some l)) xs)) same
    ∙ found_below (find (is_equal terms r.live.order) (after_first (is_under c.args.key.0) xs)) (first_of (is_ahead terms.side) (is_candidate terms (Some r.live)) xs) e ∙ r.next
