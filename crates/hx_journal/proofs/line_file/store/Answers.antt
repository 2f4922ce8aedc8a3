use Rattle.std.proofs.Common.{◌++◌, ◌+◌, length, sym, ◌∙◌, ap, subst}
use Rattle.hx_journal.specs.Lines.{lines_of}
use Rattle.hx_journal.specs.Files.{HasFromTo, IsAtRest}
use Rattle.hx_journal.proofs.Moments.{started, goes_on}
use Rattle.hx_journal.proofs.Groups.{before_write, write_crash}
use Rattle.hx_journal.proofs.Torn.{written}
use Rattle.hx_journal.proofs.line_file.store.Goals as goal

pub returns-in_err-write_at-clause-any_moment : goal.returns-in_err-write_at-clause-any_moment
returns-in_err-write_at-clause-any_moment g c =
    let q = c.requires in
    let file = g.D.Device.seen c.args.device.now in
    let P = HasFromTo (lines_of file) (lines_of file ++ lines_of c.args.text.now) in
    let here = before_write file c.args.text.now _ q.durable in
    let torn = write_crash file c.args.text.now c.args.end _ _ q.at_rest q.lines q.durable c.write_at.ensures.crash in
    let at_start = started g.D.Device.moment g.D.Device.left_since c.args.device.now P (λ f left. here f (g.met.D.Device.only_now c.args.device.now f left)) in
    goes_on g.D.Device.moment g.D.Device.left_since c.args.device.now c.args.device.now c.write_at.new.self P _ at_start c.write_at.ensures.time torn

pub returns-in_err-sync-clause-any_moment : goal.returns-in_err-sync-clause-any_moment
returns-in_err-sync-clause-any_moment g c =
    let q = c.requires in
    let file = g.D.Device.seen c.args.device.now in
    let P = HasFromTo (lines_of file) (lines_of file ++ lines_of c.args.text.now) in
    let here = before_write file c.args.text.now _ q.durable in
    let torn = write_crash file c.args.text.now c.args.end _ _ q.at_rest q.lines q.durable c.write_at.ensures.crash in
    let at_start = started g.D.Device.moment g.D.Device.left_since c.args.device.now P (λ f left. here f (g.met.D.Device.only_now c.args.device.now f left)) in
    let after = goes_on g.D.Device.moment g.D.Device.left_since c.args.device.now c.args.device.now c.write_at.new.self P _ at_start c.write_at.ensures.time torn in
    goes_on g.D.Device.moment g.D.Device.left_since c.args.device.now c.write_at.new.self c.sync.new.self P _ after c.sync.ensures.time (λ f now. torn f (c.sync.ensures.crash f now))

pub returns-clause-any_moment : goal.returns-clause-any_moment
returns-clause-any_moment g c =
    let q = c.requires in
    let file = g.D.Device.seen c.args.device.now in
    let P = HasFromTo (lines_of file) (lines_of file ++ lines_of c.args.text.now) in
    let here = before_write file c.args.text.now _ q.durable in
    let torn = write_crash file c.args.text.now c.args.end _ _ q.at_rest q.lines q.durable c.write_at.ensures.crash in
    let at_start = started g.D.Device.moment g.D.Device.left_since c.args.device.now P (λ f left. here f (g.met.D.Device.only_now c.args.device.now f left)) in
    let after = goes_on g.D.Device.moment g.D.Device.left_since c.args.device.now c.args.device.now c.write_at.new.self P _ at_start c.write_at.ensures.time torn in
    goes_on g.D.Device.moment g.D.Device.left_since c.args.device.now c.write_at.new.self c.sync.new.self P _ after c.sync.ensures.time (λ f now. torn f (c.sync.ensures.crash f now))

pub returns-clause-at_rest : goal.returns-clause-at_rest
returns-clause-at_rest g c =
    let q = c.requires in
    let w = written (g.D.Device.seen c.args.device.now) c.args.text.now _ c.args.end q.at_rest q.lines (c.in_ok-write_at.ensures.written q.well) in
    subst (λ f. IsAtRest f (c.args.end + length c.args.text.now)) (sym c.in_ok-sync.ensures.same) w.0

pub returns-clause-stored : goal.returns-clause-stored
returns-clause-stored g c =
    let q = c.requires in
    let w = written (g.D.Device.seen c.args.device.now) c.args.text.now _ c.args.end q.at_rest q.lines (c.in_ok-write_at.ensures.written q.well) in
    ap lines_of c.in_ok-sync.ensures.same ∙ w.1
