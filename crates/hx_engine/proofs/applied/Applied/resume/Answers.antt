use Rattle.std.proofs.Common.{◌≡◌, [], ap, ◌∙◌}
use Rattle.hx_blog.specs.Ends.{WriterState}
use Rattle.hx_desk.specs.declared.entry.Entry.{Entry}
use Rattle.hx_desk.specs.Entries.{events_of}
use Rattle.hx_engine.proofs.Applying.{resumed_from_its_own, events_restored}
use Rattle.hx_engine.proofs.applied.Applied.resume.Goals as goal

pub invariant_of-result : goal.invariant_of-result
invariant_of-result c =
    let log = c.args.feed.0 in
    let nothing : c.receipt-knows.result ≡ record { log = log; known = [] } = c.receipt-knows.ensures.receipt ∙ ap (λ (w : WriterState Entry). record { log = w.log; known = w.published }) c.requires.feed.1 in
    record { resumed = resumed_from_its_own log c.args.setup c.args.events.now c.in_ok-desk.desk c.in_ok-desk.ensures; nothing = nothing }

pub returns : goal.returns
returns c =
    let resumed = c.in_ok-desk.ensures in
    let events = ap events_of resumed.history ∙ events_restored c.args.events.now in
    (λ i. record { log = c.args.feed.0; setup = resumed.setup i; events = events i })
