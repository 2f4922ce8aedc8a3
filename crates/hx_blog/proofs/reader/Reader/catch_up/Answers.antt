use Rattle.std.proofs.Common.{◌≡◌, ◌+◌, length, ap, sym, ◌∙◌, subst}
use mathlib.Core.List.{IsPrefix}
use Rattle.hx_blog.specs.Feed.{Entries, feed}
use Rattle.hx_blog.proofs.reader.Reader.catch_up.Given as given
use Rattle.hx_blog.proofs.reader.Reader.catch_up.Goals as goal
use Rattle.hx_units.proofs.Prefixes.{prefix_trans, prefix_both}

-- what the reader knows begins with what was published before it looked, and the writer confirms that it is no more
caught_up : (g : given.Over) (c : goal.After-confirm g) → c.look.new.self.known ≡ c.args.writer.now.published
caught_up g c =
    let published = c.args.writer.now.published in
    let looked = c.look.new.self.known in
    let received = subst (λ (xs : Entries g.row.E.Denot). IsPrefix xs c.learn.new.self.known) (ap (λ r. r.known) c.receipt-news.ensures.receipt) c.learn.ensures.received in
    let confirmed : IsPrefix looked published = subst (λ (xs : Entries g.row.E.Denot × Entries g.row.E.Denot). IsPrefix xs.0 xs.1)
    (λ i. ((c.receipt-known.ensures.receipt i).known, (c.receipt-news.ensures.same i).published)) c.confirm.ensures.beginning in
    prefix_both looked published confirmed (prefix_trans published c.learn.new.self.known looked received c.look.ensures.known)

pub returns-clause-count : goal.returns-clause-count
returns-clause-count g c = ap (λ r. r.seen) c.receipt-known.ensures.same ∙ (c.look.ensures.count.1 ∙ (c.look.ensures.count.0 ∙ ap (λ entries. length (feed entries)) (caught_up g c)))

pub returns-clause-reader : goal.returns-clause-reader
returns-clause-reader g c =
    let same = c.receipt-known.ensures.same in
    let learnt = c.learn.ensures.same in
    let log = c.look.ensures.same.0 ∙ ap (λ r. r.log) learnt in
    let read = c.look.ensures.same.1 ∙ ap (λ r. r.read) learnt in
    let loads = c.look.ensures.loaded ∙ ap (λ r. r.loads + 1) learnt in
    same ∙ (λ i. record { log = log i; known = caught_up g c i; seen = (sym same i).seen; read = read i; loads = loads i })
