use Rattle.std.proofs.Common.{◌∙◌, sym}
use Rattle.hx_day_log.proofs.following.write_on.Goals as goal

-- a reader that has read no more records has read all that stood there
pub returns-clause-none : goal.returns-clause-none
returns-clause-none g c = λ is.
    c.in-Ok.ensures.some (sym c.count_read.ensures ∙ sym (c.of.ensures.none is) ∙ c.count_read-before.ensures)

-- if there is news, more is read
pub returns-clause-some : goal.returns-clause-some
returns-clause-some g c = λ is. λ same.
    c.of.ensures.some is (c.count_read-before.ensures ∙ same ∙ sym c.count_read.ensures)
