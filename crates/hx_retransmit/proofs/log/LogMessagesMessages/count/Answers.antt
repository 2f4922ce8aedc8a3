use Rattle.std.proofs.Common.{◌≡◌, ◌++◌, take, drop, ap, sym, ◌∙◌, arith, append_assoc}
use Rattle.std.proofs.lemmas.List.{take_all, take-append-drop}
use Rattle.hx_blog.specs.Feed.{feed}
use Rattle.hx_blog.proofs.Feeds.{feed-prefix}
use Rattle.hx_retransmit.proofs.log.LogMessagesMessages.count.Goals as goal

-- what was seen is a beginning of all that is known now
pub returns-clause-grows : goal.returns-clause-grows
returns-clause-grows g c =
    let before = c.self.inside.reader in
    let after = c.look.new.self in
    let more = feed-prefix before.known after.known c.look.ensures.known in
    let all : take after.seen (feed after.known) ≡ feed after.known =
    take_all after.seen (feed after.known) (omega (arith, c.look.ensures.count.0, c.look.ensures.count.1)) in
    rw (sym c.self.view_is) (
      drop before.seen (feed before.known) ++ more.0,
      sym
          (sym (append_assoc (take before.seen (feed before.known)) (drop before.seen (feed before.known)) more.0)
          ∙ (ap (λ l. l ++ more.0) (take-append-drop before.seen (feed before.known)) ∙ (more.1 ∙ sym all))),
    )
