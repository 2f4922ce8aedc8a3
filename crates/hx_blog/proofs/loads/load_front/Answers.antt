use Rattle.std.proofs.Common.{◌≡◌, ℕ, ◌+◌, ◌-◌, ◌*◌, ◌<◌, List, [], length, get_or, set, ap, sym, ◌∙◌, arith, length-set}
use Rattle.std.proofs.lemmas.List.{get_or-set_same, get_or-set_other}
use native.Mathlib.Decide.{ℕ_discrete}
use Rattle.hx_blog.specs.Packed.{packed, words_of}
use Rattle.hx_blog.specs.Feed.{feed}
use Rattle.hx_blog.proofs.Feeds.{word_of}
use Rattle.hx_blog.proofs.ReaderPass.{loads_word}
use Rattle.hx_blog.proofs.loads.load_front.Goals as goal

pub load-requires : goal.load-requires
load-requires g c =
    let i = c.loop-k.invariant in
    let r = c.requires in
    let me = i.1 ∙ r.reading in (
      i.0 ∙ r.log,
      omega (arith, r.sized, r.room.0),
      loads_word _ _ _ _ _ (ap (λ m. m.0.gone) me) (ap (λ m. m.0.writes) me) (omega arith) (omega (arith, r.known, ap (λ m. length (feed m.0.known)) i.1)),
    )

-- one word more
one_more : (ws ms : List ℕ) (k n : ℕ) → k < length ws → n ≡ get_or ms k 0 → ((j : ℕ) → j < k → get_or ws j 0 ≡ get_or ms j 0) → (j : ℕ) → j < k + 1 → get_or (set ws k n) j 0 ≡ get_or ms j 0
one_more ws ms k n l e all j h = by (ℕ_discrete j k)
  where
    by : Dec (j ≡ k) → get_or (set ws k n) j 0 ≡ get_or ms j 0
    by (yes same) = ap (λ z. get_or (set ws k n) z 0) same ∙ (get_or-set_same ws k n 0 l ∙ (e ∙ ap (λ z. get_or ms z 0) (sym same)))
    by (no other) = get_or-set_other ws k j n 0 other ∙ all j (omega (arith, other))

pub loop-k-preserved : goal.loop-k-preserved
loop-k-preserved g c =
    let i = c.loop-k.invariant in
    let s = c.load.ensures in
    let known = feed c.args.seat.now.me.0.known in
    let word_index : 6 * c.args.index + 1 + c.loop-k.k - 1 ≡ 6 * c.args.index + c.loop-k.k = omega arith in
    let word : c.load.result ≡ get_or (packed (get_or known c.args.index [])) c.loop-k.k 0 =
    s.2.1.0 ∙ ((λ q. get_or (words_of (feed (i.1 q).0.known)) (word_index q) 0) ∙ word_of known c.args.index c.loop-k.k c.requires.known (omega (arith, c.loop-k-test.true))) in (
      s.0 ∙ i.0,
      s.2.0 ∙ i.1,
      one_more c.loop-k.words (packed (get_or known c.args.index [])) c.loop-k.k c.load.result (omega (arith, i.3, c.loop-k-test.true)) word i.2,
      length-set c.loop-k.words c.loop-k.k c.load.result ∙ i.3,
    )
