use Rattle.hx_journal.specs.Records.{ReadsAlike}
use Rattle.hx_journal.proofs.Moments.{weaker, and_then}
use Rattle.hx_journal.proofs.Recovery.{nothing_read, head_read}
use Rattle.hx_journal.proofs.opening.begin.Goals as goal

pub returns-in-Err-clause-any_moment_err : goal.returns-in-Err-clause-any_moment_err
returns-in-Err-clause-any_moment_err g c =
    let bytes = g.D.Device.seen c.args.device in
    weaker g.D.Device.moment g.D.Device.left_since c.args.device c.in-Err.device _ (ReadsAlike bytes) c.in-Err.ensures.any_moment_err
    (λ f between. nothing_read bytes f c.requires.empty between)

pub returns-in-Err-write_head-clause-any_moment_err : goal.returns-in-Err-write_head-clause-any_moment_err
returns-in-Err-write_head-clause-any_moment_err g c =
    let bytes = g.D.Device.seen c.args.device in
    let cut = weaker g.D.Device.moment g.D.Device.left_since c.args.device c.in-Ok.lines.device _ (ReadsAlike bytes) c.in-Ok.ensures.any_moment (λ f between. nothing_read bytes f c.requires.empty between) in
    rw c.into_device.ensures
    (and_then g.D.Device.moment g.D.Device.left_since c.args.device c.in-Ok.lines.device c.write_head.new.lines.device (ReadsAlike bytes) _ cut c.write_head.ensures.any_moment
    (λ f between. head_read bytes c.args.head.now f c.requires.empty c.line.ensures.mark between))

pub returns-clause-any_moment : goal.returns-clause-any_moment
returns-clause-any_moment g c =
    let bytes = g.D.Device.seen c.args.device in
    let cut = weaker g.D.Device.moment g.D.Device.left_since c.args.device c.in-Ok.lines.device _ (ReadsAlike bytes) c.in-Ok.ensures.any_moment (λ f between. nothing_read bytes f c.requires.empty between) in
    and_then g.D.Device.moment g.D.Device.left_since c.args.device c.in-Ok.lines.device c.write_head.new.lines.device (ReadsAlike bytes) _ cut c.write_head.ensures.any_moment
    (λ f between. head_read bytes c.args.head.now f c.requires.empty c.line.ensures.mark between)
