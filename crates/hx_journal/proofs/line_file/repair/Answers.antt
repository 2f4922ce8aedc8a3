use Rattle.std.proofs.Common.{take, sym, ◌∙◌, ap, subst}
use Rattle.hx_journal.specs.Lines.{lines_of}
use Rattle.hx_journal.specs.Files.{HasFromTo, IsAtRest}
use Rattle.hx_journal.proofs.Moments.{started, goes_on}
use Rattle.hx_journal.proofs.Groups.{before_cut, cut_crash}
use Rattle.hx_journal.proofs.Torn.{cut_done}
use Rattle.hx_journal.proofs.line_file.repair.Goals as goal

pub returns-in_err-cut-clause-any_moment : goal.returns-in_err-cut-clause-any_moment
returns-in_err-cut-clause-any_moment g c =
    let q = c.requires in
    let bytes = g.D.Device.seen c.args.file.now in
    let P = HasFromTo (lines_of (take c.args.end bytes)) (lines_of bytes) in
    let torn = cut_crash bytes c.args.end _ _ q.inside q.front q.durable c.cut.ensures.crash in
    let before = before_cut bytes c.args.end _ q.inside q.front q.durable in
    let at_start = started g.D.Device.moment g.D.Device.left_since c.args.file.now P (λ f left. before f (g.met.D.Device.only_now c.args.file.now f left)) in
    goes_on g.D.Device.moment g.D.Device.left_since c.args.file.now c.args.file.now c.cut.new.self P _ at_start c.cut.ensures.time torn

pub returns-in_err-sync-clause-any_moment : goal.returns-in_err-sync-clause-any_moment
returns-in_err-sync-clause-any_moment g c =
    let q = c.requires in
    let bytes = g.D.Device.seen c.args.file.now in
    let P = HasFromTo (lines_of (take c.args.end bytes)) (lines_of bytes) in
    let torn = cut_crash bytes c.args.end _ _ q.inside q.front q.durable c.cut.ensures.crash in
    let before = before_cut bytes c.args.end _ q.inside q.front q.durable in
    let at_start = started g.D.Device.moment g.D.Device.left_since c.args.file.now P (λ f left. before f (g.met.D.Device.only_now c.args.file.now f left)) in
    let after = goes_on g.D.Device.moment g.D.Device.left_since c.args.file.now c.args.file.now c.cut.new.self P _ at_start c.cut.ensures.time torn in
    goes_on g.D.Device.moment g.D.Device.left_since c.args.file.now c.cut.new.self c.sync.new.self P _ after c.sync.ensures.time (λ f now. torn f (c.sync.ensures.crash f now))

pub returns-clause-any_moment : goal.returns-clause-any_moment
returns-clause-any_moment g c =
    let q = c.requires in
    let bytes = g.D.Device.seen c.args.file.now in
    let P = HasFromTo (lines_of (take c.args.end bytes)) (lines_of bytes) in
    let torn = cut_crash bytes c.args.end _ _ q.inside q.front q.durable c.cut.ensures.crash in
    let before = before_cut bytes c.args.end _ q.inside q.front q.durable in
    let at_start = started g.D.Device.moment g.D.Device.left_since c.args.file.now P (λ f left. before f (g.met.D.Device.only_now c.args.file.now f left)) in
    let after = goes_on g.D.Device.moment g.D.Device.left_since c.args.file.now c.args.file.now c.cut.new.self P _ at_start c.cut.ensures.time torn in
    goes_on g.D.Device.moment g.D.Device.left_since c.args.file.now c.cut.new.self c.sync.new.self P _ after c.sync.ensures.time (λ f now. torn f (c.sync.ensures.crash f now))

pub returns-clause-at_rest : goal.returns-clause-at_rest
returns-clause-at_rest g c =
    let q = c.requires in
    let is = c.in_ok-sync.ensures.same ∙ c.in_ok-cut.ensures.cut q.well in
    subst (λ f. IsAtRest f c.args.end) (sym is) (cut_done (g.D.Device.seen c.args.file.now) c.args.end q.inside q.front)

pub returns-clause-stored : goal.returns-clause-stored
returns-clause-stored g c = ap lines_of (c.in_ok-sync.ensures.same ∙ c.in_ok-cut.ensures.cut c.requires.well)

pub returns-clause-seen : goal.returns-clause-seen
returns-clause-seen g c = c.in_ok-sync.ensures.same ∙ c.in_ok-cut.ensures.cut c.requires.well
