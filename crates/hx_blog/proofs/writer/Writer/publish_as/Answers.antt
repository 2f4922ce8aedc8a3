use Rattle.std.proofs.Common.{◌≡◌, ◌++◌, length, ap, sym, ◌∙◌, append-nil}
use Rattle.hx_blog.specs.Feed.{feed}
use Rattle.hx_blog.proofs.writer.Writer.publish_as.Goals as goal

pub publish_first-requires : goal.publish_first-requires
publish_first-requires g c =
    let entries : feed g.N.NamesEntries.entries ≡ c.args.self.now.staged = ap feed c.requires.entries ∙ append-nil _ in
    record {
      log = c.requires.log;
      count = c.self.invariant.above ∙ ap length (ap (λ w. w.staged) c.self.view_is ∙ sym entries);
      named = ap (λ l. feed g.N.NamesEntries.entries ++ l) c.requires.left ∙ (append-nil _ ∙ entries);
    }
