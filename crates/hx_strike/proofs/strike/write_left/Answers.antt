use Rattle.std.proofs.Common.{◌≡◌, ℕ, ◌≤◌, List, [], ◌∷◌, ◌++◌, length, take, false, true, refl, sym, ap, subst, ◌∙◌, arith, append_assoc}
use Rattle.std.specs.Io.KnownBytes.{Appends}
use Rattle.std.proofs.KnownBytes.{Appends-trans}
use Rattle.std.proofs.lemmas.List.{append-nil, length-append, take_all, drop_all}
use Rattle.std.proofs.lemmas.Result.{err_from_is_err_and}
use Rattle.hx_audit.specs.Auditing.{choice_of}
use Rattle.hx_tape_lines.specs.Text.{Entry, tape}
use Rattle.hx_replay.specs.Struck.{without_chosen}
use Rattle.hx_strike.proofs.Leaving.{no_bearing, line_at, cut_off, is_there, as_many, with_feed, stays, goes, wrote_more, front_more}
use Rattle.hx_strike.proofs.strike.write_left.Goals as goal
use Rattle.hx_strike.proofs.strike.write_left.Goals.{then-strikes, else-strikes+in_ok-write_whole}

pub unreachable-requires : goal.unreachable-requires
unreachable-requires g c =
    let t = c.requires.tape in
    is_there t.entries c.args.bearings.now c.loop-bearing.bearing-index t.are_known t.bearings_are c.loop-bearing-test.true (subst (Rattle.hx_units.specs.Cuts.Lacks 10) (c.loop-bearing.invariant.rest t) c.in_default.ensures.none)

pub overflow_sub-count : goal.overflow_sub-count
overflow_sub-count g c =
    let left = c.loop-bearing.invariant.count c.requires.tape in
    omega (arith, left, c.loop-bearing-test.true)

pub returns-in_err-write_whole-clause-err : goal.returns-in_err-write_whole-clause-err
returns-in_err-write_whole-clause-err g c =
    let p = err_from_is_err_and c.from_residual.result c.from_residual.ensures.1 in
    let l = c.loop-bearing in
    let choice = choice_of c.args.auditor.now.whose c.args.auditor.now.market in
    let some = c.in-Some.ensures.some in
    let part = c.in_err-write_whole.ensures.err in
    rw (p.1)
    (λ t.
    let at = line_at t.entries c.args.bearings.now l.bearing-index _ t.are_known t.bearings_are c.loop-bearing-test.true in
    let cut = cut_off t.entries l.bearing-index _ l.rest.now c.in-Some.line.now c.in-Some.others.now at (l.invariant.rest t) some.0 some.1 in
    let feed = with_feed l.rest.now c.in-Some.line.now c.in-Some.others.now _ some.0 refl ∙ ap (λ (x : List ℕ). x ++ 10 ∷ []) cut.line_is in (
      _,
      front_more choice t.entries l.bearing-index _ at part.1.front part.0 (sym c.strikes.ensures.chosen ∙ c.if-strikes.false) (sym feed ∙ part.1.bytes_are),
      Appends-trans _ _ _ _ _ (l.invariant.wrote t) part.1.wrote,
    ))

pub loop-bearing-preserved : goal.loop-bearing-preserved
loop-bearing-preserved g c =
    let l = c.loop-bearing in
    let bs = c.args.bearings.now in
    let i = l.bearing-index in
    let choice = choice_of c.args.auditor.now.whose c.args.auditor.now.market in
    let some = c.in-Some.ensures.some in
    elim c.if-strikes.branch [
      | then-strikes w ↦
          record {
            rest = λ t.
                let at = line_at t.entries bs i no_bearing t.are_known t.bearings_are c.loop-bearing-test.true in
                rw w.rest-is (cut_off t.entries i _ l.rest.now c.in-Some.line.now c.in-Some.others.now at (l.invariant.rest t) some.0 some.1).others_are;
            count = λ t.
                let at = line_at t.entries bs i _ t.are_known t.bearings_are c.loop-bearing-test.true in
                let same = ap length (goes choice t.entries i _ at (sym c.strikes.ensures.chosen ∙ w.if-strikes.true)) in
                let left = l.invariant.count t in
                rw w.count-is (omega (arith, left, same, c.loop-bearing-test.true));
            wrote = λ t.
                let at = line_at t.entries bs i _ t.are_known t.bearings_are c.loop-bearing-test.true in
                rw (w.writer-is, goes choice t.entries i _ at (sym c.strikes.ensures.chosen ∙ w.if-strikes.true)) (l.invariant.wrote t);
            stranger = λ h.
                let none : false ≡ true = sym (c.strikes.ensures.stranger h c.requires.taken.0 c.requires.taken.1) ∙ w.if-strikes.true in
                absurd (let z : false ≡ true = none in cc);
          }
      | else-strikes+in_ok-write_whole w ↦
          record {
            rest = λ t.
                let at = line_at t.entries bs i no_bearing t.are_known t.bearings_are c.loop-bearing-test.true in
                rw w.rest-is (cut_off t.entries i _ l.rest.now c.in-Some.line.now c.in-Some.others.now at (l.invariant.rest t) some.0 some.1).others_are;
            count = λ t.
                let at = line_at t.entries bs i _ t.are_known t.bearings_are c.loop-bearing-test.true in
                let more = ap length (stays choice t.entries i _ at (sym c.strikes.ensures.chosen ∙ w.if-strikes.false)) ∙ length-append (without_chosen choice (take i t.entries)) (at.entry ∷ []) in
                let left = l.invariant.count t in
                rw w.count-is (omega (arith, left, more));
            wrote = λ t.
                let at = line_at t.entries bs i _ t.are_known t.bearings_are c.loop-bearing-test.true in
                let cut = cut_off t.entries i _ l.rest.now c.in-Some.line.now c.in-Some.others.now at (l.invariant.rest t) some.0 some.1 in
                let feed = with_feed l.rest.now c.in-Some.line.now c.in-Some.others.now _ some.0 refl ∙ ap (λ (x : List ℕ). x ++ 10 ∷ []) cut.line_is in
                let line_written = subst (Appends (g.W.Write.contents l.writer) (g.W.Write.contents w.write_whole.new.writer)) feed w.in_ok-write_whole.ensures.ok in
                rw (w.writer-is, stays choice t.entries i _ at (sym c.strikes.ensures.chosen ∙ w.if-strikes.false))
                (wrote_more _ _ _ (without_chosen choice (take i t.entries)) at.entry (l.invariant.wrote t) line_written);
            stranger = λ h.
                let before = l.invariant.stranger h in
                let feed = with_feed l.rest.now c.in-Some.line.now c.in-Some.others.now _ some.0 refl in
                let line_written = subst (Appends (g.W.Write.contents l.writer) (g.W.Write.contents w.write_whole.new.writer)) feed w.in_ok-write_whole.ensures.ok in (
                  before.0 ++ (c.in-Some.line.now ++ 10 ∷ []),
                  rw w.rest-is
                      (append_assoc before.0 (c.in-Some.line.now ++ 10 ∷ []) c.in-Some.others.now
                      ∙ ap (λ (x : List ℕ). before.0 ++ x) (append_assoc c.in-Some.line.now (10 ∷ []) c.in-Some.others.now ∙ sym some.0) ∙ before.1),
                  rw w.writer-is (Appends-trans _ _ _ before.0 (c.in-Some.line.now ++ 10 ∷ []) before.2 line_written),
                );
          }
    ]

all_taken : (t : ℕ) (i : ℕ) (es : List Entry) → length es ≡ t → t ≤ i → take i es ≡ es
all_taken t i es size after = take_all i es (omega (arith, size, after))

pub returns-clause-count : goal.returns-clause-count
returns-clause-count g c t =
    let l = c.loop-bearing in
    let choice = choice_of c.args.auditor.now.whose c.args.auditor.now.market in
    let whole = ap (λ (es : List Entry). length (without_chosen choice es)) (all_taken (length c.args.bearings.now) l.bearing-index t.entries (as_many t.entries c.args.bearings.now t.bearings_are) c.loop-bearing-test.false) in
    let left = l.invariant.count t in
    omega (arith, left, whole, c.loop-bearing-test.false, l.auto.bearing-index-end)

pub returns-clause-ok : goal.returns-clause-ok
returns-clause-ok g c t =
    let l = c.loop-bearing in
    let choice = choice_of c.args.auditor.now.whose c.args.auditor.now.market in
    subst (λ (es : List Entry). Appends (g.W.Write.contents c.args.writer.now) (g.W.Write.contents l.writer) (tape (without_chosen choice es)))
    (all_taken (length c.args.bearings.now) l.bearing-index t.entries (as_many t.entries c.args.bearings.now t.bearings_are) c.loop-bearing-test.false)
    (l.invariant.wrote t)

pub returns-clause-stranger : goal.returns-clause-stranger
returns-clause-stranger g c h =
    let l = c.loop-bearing in
    let t = c.requires.tape in
    let before = l.invariant.stranger h in
    let many = as_many t.entries c.args.bearings.now t.bearings_are in
    let none : l.rest.now ≡ [] = l.invariant.rest t ∙ ap tape (drop_all l.bearing-index t.entries (omega (arith, many, c.loop-bearing-test.false))) in
    subst (Appends (g.W.Write.contents c.args.writer.now) (g.W.Write.contents l.writer))
    (sym (append-nil before.0) ∙ ap (λ (x : List ℕ). before.0 ++ x) (sym none) ∙ before.1) before.2
