use Rattle.std.proofs.Common.{◌≡◌, ◌++◌, ◌+◌, length, subst, ap, ◌∙◌, arith}
use Rattle.std.proofs.lemmas.Result.{err_from_is_err_and}
use Rattle.hx_members.specs.Setups.{Setup}
use Rattle.hx_tape_lines.specs.declared.fault.Kind.TheVariants as kinds
use Rattle.hx_replay.specs.FirstFaults.{FirstFault}
use Rattle.hx_strike.proofs.Taken.{taken_on, piece_taken, piece_lacks, rest_within, too_long}
use Rattle.hx_strike.proofs.reading.take_piece.Goals as goal

pub returns-in_err-rest-clause-err : goal.returns-in_err-rest-clause-err
returns-in_err-rest-clause-err c =
    let p = err_from_is_err_and c.from_residual-in_err-rest.result c.from_residual-in_err-rest.ensures.1 in
    let old = c.args.tape.now in
    let t = taken_on old.auditor old.bearings.items old.text.items c.args.piece.now c.as_slice-text.result.now old.taken c.requires.taken c.requires.within (c.as_slice-text.ensures.value ∙ c.in_ok-extend_from_slice.ensures.items) in
    rw (p.1, p.2) (c.in_err-rest.ensures.err (old.text.items ++ c.args.piece.now) t)

pub returns-then-rest-gt-LONGEST_LINE-clause-err : goal.returns-then-rest-gt-LONGEST_LINE-clause-err
returns-then-rest-gt-LONGEST_LINE-clause-err c =
    let old = c.args.tape.now in
    let all = old.text.items ++ c.args.piece.now in
    let t = taken_on old.auditor old.bearings.items old.text.items c.args.piece.now c.as_slice-text.result.now old.taken c.requires.taken c.requires.within (c.as_slice-text.ensures.value ∙ c.in_ok-extend_from_slice.ensures.items) in
    let more = c.in_ok-rest.ensures.ok all t in
    let long = too_long c.take_lines.new.auditor c.take_lines.new.bearings.items all c.in_ok-rest.rest.now more c.in_ok-rest.ensures.lacks (omega (arith, c.if-rest-gt-LONGEST_LINE.true)) in
    rw (c.bad_line.ensures, c.deref.ensures.value)
    (subst (λ (s : Setup). FirstFault ⊥ s (length c.take_lines.new.bearings.items + 1) kinds.Bad all) c.in_ok-rest.ensures.setup long)

pub overflow_sub-tape : goal.overflow_sub-tape
overflow_sub-tape c =
    let old = c.args.tape.now in
    let all = old.text.items ++ c.args.piece.now in
    let t = taken_on old.auditor old.bearings.items old.text.items c.args.piece.now c.as_slice-text.result.now old.taken c.requires.taken c.requires.within (c.as_slice-text.ensures.value ∙ c.in_ok-extend_from_slice.ensures.items) in
    rest_within c.take_lines.new.auditor c.take_lines.new.bearings.items all c.as_slice-text.result.now c.in_ok-rest.rest.now (c.in_ok-rest.ensures.ok all t) (c.as_slice-text.ensures.value ∙ c.in_ok-extend_from_slice.ensures.items)

pub returns-clause-taken : goal.returns-clause-taken
returns-clause-taken c =
    let old = c.args.tape.now in
    let all = old.text.items ++ c.args.piece.now in
    let t = taken_on old.auditor old.bearings.items old.text.items c.args.piece.now c.as_slice-text.result.now old.taken c.requires.taken c.requires.within (c.as_slice-text.ensures.value ∙ c.in_ok-extend_from_slice.ensures.items) in
    let within = rest_within c.take_lines.new.auditor c.take_lines.new.bearings.items all c.as_slice-text.result.now c.in_ok-rest.rest.now (c.in_ok-rest.ensures.ok all t) (c.as_slice-text.ensures.value ∙ c.in_ok-extend_from_slice.ensures.items) in
    let size : length c.as_slice-text.result.now ≡ length c.extend_from_slice.new.self.items = ap length c.as_slice-text.ensures.value in
    piece_taken c.take_lines.new.auditor c.take_lines.new.bearings.items all c.extend_from_slice.new.self.items c.in_ok-rest.rest.now _ (c.in_ok-rest.ensures.ok all t) c.in_ok-extend_from_slice.ensures.items (omega (arith, within, size))

pub returns-clause-lacks : goal.returns-clause-lacks
returns-clause-lacks c =
    let old = c.args.tape.now in
    let all = old.text.items ++ c.args.piece.now in
    let t = taken_on old.auditor old.bearings.items old.text.items c.args.piece.now c.as_slice-text.result.now old.taken c.requires.taken c.requires.within (c.as_slice-text.ensures.value ∙ c.in_ok-extend_from_slice.ensures.items) in
    let within = rest_within c.take_lines.new.auditor c.take_lines.new.bearings.items all c.as_slice-text.result.now c.in_ok-rest.rest.now (c.in_ok-rest.ensures.ok all t) (c.as_slice-text.ensures.value ∙ c.in_ok-extend_from_slice.ensures.items) in
    let size : length c.as_slice-text.result.now ≡ length c.extend_from_slice.new.self.items = ap length c.as_slice-text.ensures.value in
    piece_lacks c.take_lines.new.auditor c.take_lines.new.bearings.items all c.extend_from_slice.new.self.items c.in_ok-rest.rest.now _ (c.in_ok-rest.ensures.ok all t) c.in_ok-extend_from_slice.ensures.items (omega (arith, within, size)) c.in_ok-rest.ensures.lacks
