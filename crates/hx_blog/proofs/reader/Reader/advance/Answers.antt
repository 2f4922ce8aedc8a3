use Rattle.std.proofs.Common.{◌+◌, [], ◌∷◌, ◌++◌, take, ap, ◌∙◌}
use Rattle.hx_blog.specs.Ends.{got}
use Rattle.hx_blog.specs.Feed.{feed}
use Rattle.hx_blog.proofs.Feeds.{one_more}
use Rattle.hx_blog.proofs.reader.Reader.advance.Goals as goal

pub returns-clause-got : goal.returns-clause-got
returns-clause-got g c =
    let e = c.load_next_message-message.ensures in
    let read = c.self.inside.read in
    let message = c.load_next_message-message.result.items in
    ap (λ m. take (read + 1) (feed m.0.known)) e.read ∙ (one_more read _ message e.message ∙ ap (λ r. got r ++ message ∷ []) c.self.view_is)
