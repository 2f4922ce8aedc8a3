use Rattle.std.proofs.Common.{◌∷◌, []}
use Rattle.hx_blog.proofs.writer.Writer.publish.Given as goal

-- the entry that is published: the event with what was staged
abbrev pub ghosts-publish_as : goal.ghosts-publish_as
ghosts-publish_as g a = record { entries = (a.event.now, a.self.now.staged) ∷ []; left = [] }
