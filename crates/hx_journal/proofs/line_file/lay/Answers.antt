use Rattle.std.proofs.Common.{sym, ◌∙◌, ap, subst}
use Rattle.hx_journal.specs.Lines.{lines_of}
use Rattle.hx_journal.specs.Files.{HasThose, IsAtRest}
use Rattle.hx_journal.proofs.Moments.{started, goes_on}
use Rattle.hx_journal.proofs.Groups.{zeros_crash}
use Rattle.hx_journal.proofs.Torn.{zeros_written}
use Rattle.hx_journal.proofs.line_file.lay.Goals as goal

pub returns-in_err-write_at-clause-any_moment : goal.returns-in_err-write_at-clause-any_moment
returns-in_err-write_at-clause-any_moment g c =
    let q = c.requires in
    let bytes = g.D.Device.seen c.args.disk.now in
    let torn = zeros_crash bytes c.args.zeros.now c.args.end _ _ q.at_rest q.zeros q.durable c.write_at.ensures.crash in
    let at_start = started g.D.Device.moment g.D.Device.left_since c.args.disk.now (HasThose bytes) (λ f left. ap lines_of (q.durable f (g.met.D.Device.only_now c.args.disk.now f left))) in
    goes_on g.D.Device.moment g.D.Device.left_since c.args.disk.now c.args.disk.now c.write_at.new.self (HasThose bytes) _ at_start c.write_at.ensures.time torn

pub returns-clause-any_moment : goal.returns-clause-any_moment
returns-clause-any_moment g c =
    let q = c.requires in
    let bytes = g.D.Device.seen c.args.disk.now in
    let torn = zeros_crash bytes c.args.zeros.now c.args.end _ _ q.at_rest q.zeros q.durable c.write_at.ensures.crash in
    let at_start = started g.D.Device.moment g.D.Device.left_since c.args.disk.now (HasThose bytes) (λ f left. ap lines_of (q.durable f (g.met.D.Device.only_now c.args.disk.now f left))) in
    let after = goes_on g.D.Device.moment g.D.Device.left_since c.args.disk.now c.args.disk.now c.write_at.new.self (HasThose bytes) _ at_start c.write_at.ensures.time torn in
    goes_on g.D.Device.moment g.D.Device.left_since c.args.disk.now c.write_at.new.self c.sync.new.self (HasThose bytes) _ after c.sync.ensures.time (λ f now. torn f (c.sync.ensures.crash f now))

pub returns-in_err-sync-clause-any_moment : goal.returns-in_err-sync-clause-any_moment
returns-in_err-sync-clause-any_moment g c =
    let q = c.requires in
    let bytes = g.D.Device.seen c.args.disk.now in
    let torn = zeros_crash bytes c.args.zeros.now c.args.end _ _ q.at_rest q.zeros q.durable c.write_at.ensures.crash in
    let at_start = started g.D.Device.moment g.D.Device.left_since c.args.disk.now (HasThose bytes) (λ f left. ap lines_of (q.durable f (g.met.D.Device.only_now c.args.disk.now f left))) in
    let after = goes_on g.D.Device.moment g.D.Device.left_since c.args.disk.now c.args.disk.now c.write_at.new.self (HasThose bytes) _ at_start c.write_at.ensures.time torn in
    goes_on g.D.Device.moment g.D.Device.left_since c.args.disk.now c.write_at.new.self c.sync.new.self (HasThose bytes) _ after c.sync.ensures.time (λ f now. torn f (c.sync.ensures.crash f now))

pub returns-clause-at_rest : goal.returns-clause-at_rest
returns-clause-at_rest g c =
    let q = c.requires in
    let w = zeros_written (g.D.Device.seen c.args.disk.now) c.args.zeros.now _ c.args.end q.at_rest q.zeros (c.in_ok-write_at.ensures.written q.well) in
    subst (λ f. IsAtRest f c.args.end) (sym c.in_ok-sync.ensures.same) w.0

pub returns-clause-stored : goal.returns-clause-stored
returns-clause-stored g c =
    let q = c.requires in
    let w = zeros_written (g.D.Device.seen c.args.disk.now) c.args.zeros.now _ c.args.end q.at_rest q.zeros (c.in_ok-write_at.ensures.written q.well) in
    ap lines_of c.in_ok-sync.ensures.same ∙ w.1
