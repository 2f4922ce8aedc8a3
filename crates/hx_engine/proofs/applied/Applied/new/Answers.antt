use Rattle.std.proofs.Common.{◌≡◌, [], ap, ◌∙◌}
use Rattle.hx_blog.specs.Ends.{WriterState}
use Rattle.hx_desk.specs.declared.entry.Entry.{Entry}
use Rattle.hx_desk.specs.Desks.{start_of}
use Rattle.hx_engine.proofs.Applying.{resumed_from_none}
use Rattle.hx_engine.proofs.applied.Applied.new.Goals as goal

pub invariant_of-result : goal.invariant_of-result
invariant_of-result c =
    let log = c.args.feed.0 in
    let desk = c.in_ok-desk.desk in
    let writer : c.receipt-knows.new.self ≡ record { log = log; published = []; staged = [] } = c.receipt-knows.ensures.same ∙ c.requires.feed.1 in
    let start : desk ≡ start_of log c.args.setup = c.in_ok-desk.ensures ∙ ap (λ (w : WriterState Entry). start_of w.log c.args.setup) writer in
    let nothing : c.receipt-knows.result ≡ record { log = log; known = [] } = c.receipt-knows.ensures.receipt ∙ ap (λ (w : WriterState Entry). record { log = w.log; known = w.published }) c.requires.feed.1 in
    record { resumed = resumed_from_none log c.args.setup desk start c.stands.ensures.standing; nothing = nothing }
