use Rattle.std.proofs.Common.{◌≡◌, [], sym, subst, ◌∙◌, arith}
use Rattle.std.specs.Io.KnownBytes.{Consumes, IsAtEnd}
use Rattle.std.proofs.KnownBytes.{Consumes-kept, Consumes-trans}
use Rattle.std.proofs.lemmas.List.{append-nil}
use Rattle.std.proofs.lemmas.Result.{err_from_is_err_and, IfOk-weaker, IfErr-weaker}
use Rattle.hx_strike.specs.Taking.{Takes, StopsReading}
use Rattle.hx_replay.proofs.PieceByPiece.{at_end_after}
use Rattle.hx_strike.proofs.Taken.{nothing_left, ends_in_line, stops_in_piece}
use Rattle.hx_strike.proofs.reading.read_tape.Goals as goal
use Rattle.hx_strike.proofs.reading.read_tape.Goals.{in-Ok+in_ok-take_piece-in-Ok, in-Err+else-ne}

pub returns-in-Ok-eq0-clause-taken : goal.returns-in-Ok-eq0-clause-taken
returns-in-Ok-eq0-clause-taken g c =
    let l = c.loop in
    IfOk-weaker c.whole.result _ (λ t. Takes t.auditor t.bearings.items t.text.items [])
    (λ y p. rw p.0 (nothing_left l.tape.auditor l.tape.bearings.items l.tape.text.items l.tape.taken l.invariant.taken p.1)) c.whole.ensures.ok

pub returns-in-Ok-eq0-clause-read : goal.returns-in-Ok-eq0-clause-read
returns-in-Ok-eq0-clause-read g c =
    let l = c.loop in
    let s = g.R.Read.remaining l.reader in
    let s' = g.R.Read.remaining c.read.new.self in
    let end = at_end_after s s' c.in-Ok-eq0.field-0 c.read.new.buf c.in-Ok-eq0.field-0-test (omega arith) c.in-Ok-eq0.ensures.bytes in
    IfOk-weaker c.whole.result _ (λ t. Consumes (g.R.Read.remaining c.args.reader.now) s' t.text.items)
    (λ y p. rw p.0 (subst (Consumes (g.R.Read.remaining c.args.reader.now) s') (append-nil l.tape.text.items) (Consumes-trans _ _ _ _ _ l.invariant.read end.0))) c.whole.ensures.ok

pub returns-in-Ok-eq0-clause-err : goal.returns-in-Ok-eq0-clause-err
returns-in-Ok-eq0-clause-err g c =
    let l = c.loop in
    let r = g.R.Read.remaining c.args.reader.now in
    let s = g.R.Read.remaining l.reader in
    let s' = g.R.Read.remaining c.read.new.self in
    let end = at_end_after s s' c.in-Ok-eq0.field-0 c.read.new.buf c.in-Ok-eq0.field-0-test (omega arith) c.in-Ok-eq0.ensures.bytes in
    IfErr-weaker c.whole.result _ (λ e. StopsReading c.args.setup.now e r s')
    (λ y p. rw p.0 (ends_in_line c.args.setup.now l.tape.auditor l.tape.bearings.items l.tape.text.items l.tape.taken r s s' l.invariant.setup l.invariant.taken l.invariant.lacks p.1 l.invariant.read end.0 end.1)) c.whole.ensures.fault

pub returns-in_err-take_piece-in-Ok-clause-err : goal.returns-in_err-take_piece-in-Ok-clause-err
returns-in_err-take_piece-in-Ok-clause-err g c =
    let l = c.loop in
    let p = err_from_is_err_and c.from_residual-in_err-take_piece-in-Ok.result c.from_residual-in_err-take_piece-in-Ok.ensures.1 in
    rw (p.1, p.2)
    (stops_in_piece c.args.setup.now l.tape.auditor.setup l.tape.text.items _ _ (g.R.Read.remaining c.args.reader.now) (g.R.Read.remaining l.reader) (g.R.Read.remaining c.read.new.self) l.invariant.setup l.invariant.read c.in-Ok.ensures.bytes.0 c.in_err-take_piece-in-Ok.ensures.err)

pub returns-then-ne-clause-err : goal.returns-then-ne-clause-err
returns-then-ne-clause-err g c = (c.loop.tape.text.items, Consumes-kept _ _ _ c.loop.tape.text.items c.loop.invariant.read c.in-Err.ensures.bytes)

pub loop-preserved : goal.loop-preserved
loop-preserved g c =
    let l = c.loop in
    elim c.match-read.branch [
      | in-Ok+in_ok-take_piece-in-Ok w ↦
          let t = w.in_ok-take_piece-in-Ok.ensures in
          rw w.tape-is
          (record {
            setup = t.setup ∙ l.invariant.setup;
            whose = t.whose ∙ l.invariant.whose;
            read = subst (Consumes (g.R.Read.remaining c.args.reader.now) (g.R.Read.remaining c.read.new.self)) (sym t.text) (Consumes-trans _ _ _ _ _ l.invariant.read w.in-Ok.ensures.bytes.0);
            taken = t.taken;
            lacks = t.lacks;
            within = t.within;
          })
      | in-Err+else-ne w ↦
          rw w.tape-is
          (record {
            setup = l.invariant.setup;
            whose = l.invariant.whose;
            read = Consumes-kept _ _ _ _ l.invariant.read w.in-Err.ensures.bytes;
            taken = l.invariant.taken;
            lacks = l.invariant.lacks;
            within = l.invariant.within;
          })
    ]

pub returns-in-Ok-eq0-clause-setup : goal.returns-in-Ok-eq0-clause-setup
returns-in-Ok-eq0-clause-setup g c =
    IfOk-weaker c.whole.result _ (λ t. t.auditor.setup ≡ c.args.setup.now) (λ y p. rw p.0 c.loop.invariant.setup) c.whole.ensures.ok

pub returns-in-Ok-eq0-clause-whose : goal.returns-in-Ok-eq0-clause-whose
returns-in-Ok-eq0-clause-whose g c =
    IfOk-weaker c.whole.result _ (λ t. t.auditor.whose ≡ c.args.whose) (λ y p. rw p.0 c.loop.invariant.whose) c.whole.ensures.ok

pub returns-in-Ok-eq0-clause-at_end : goal.returns-in-Ok-eq0-clause-at_end
returns-in-Ok-eq0-clause-at_end g c =
    let l = c.loop in
    let s = g.R.Read.remaining l.reader in
    let s' = g.R.Read.remaining c.read.new.self in
    let end = at_end_after s s' c.in-Ok-eq0.field-0 c.read.new.buf c.in-Ok-eq0.field-0-test (omega arith) c.in-Ok-eq0.ensures.bytes in
    IfOk-weaker c.whole.result _ (λ t. IsAtEnd s') (λ y p. end.1) c.whole.ensures.ok
