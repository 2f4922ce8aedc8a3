use Rattle.hx_blog.proofs.writer.Writer.stage.Given as goal

-- the message that is staged
abbrev pub ghosts-stage_as : goal.ghosts-stage_as
ghosts-stage_as g a = record { message = a.message.now.items }
