use Rattle.std.proofs.Common.{◌≡◌, sym, subst, ◌∙◌, arith}
use Rattle.hx_ranked.specs.Ranked.{IsRising, without}
use Rattle.hx_ranked.proofs.Lists.{smallest_least-le}
use Rattle.hx_ranked.proofs.Summaries.{parted, without-none}
use Rattle.hx_ranked.proofs.block.Block.remove.Goals as goal

-- no entry has the rank
pub invariant_of-self : goal.invariant_of-self
invariant_of-self c =
    let xs = c.self.inside.entries.items in
    let same : c.remove.new.entries.items ≡ xs = c.remove.ensures.items ∙ without-none c.args.rank xs (sym c.remove.ensures.found ∙ c.in_err-entry.was) in
    record {
      first_is = rw same c.self.invariant.first_is;
      least_is = rw same c.self.invariant.least_is;
      most_is = rw same c.self.invariant.most_is;
      capacity = rw c.remove.ensures.capacity c.self.invariant.capacity;
    }

-- the smallest of all is that of the removed entry and of the others
pub smallest_after-self-inside-requires-clause-changed :
    goal.smallest_after-self-inside-requires-clause-changed
smallest_after-self-inside-requires-clause-changed c =
    let xs = c.self.inside.entries.items in
    let p = parted c.args.rank c.in_ok-entry.entry xs (subst IsRising (sym c.self.view_is) c.requires) (sym c.in_ok-entry.ensures.found) in
    let is : c.deref-2.result.now ≡ without c.args.rank xs = c.deref-2.ensures.value ∙ c.remove.ensures.items in
    rw is (omega (arith, p.least, c.self.invariant.least_is, smallest_least-le xs))

pub smallest_after-self-inside-requires-clause-same :
    goal.smallest_after-self-inside-requires-clause-same
smallest_after-self-inside-requires-clause-same c same =
    let xs = c.self.inside.entries.items in
    let p = parted c.args.rank c.in_ok-entry.entry xs (subst IsRising (sym c.self.view_is) c.requires) (sym c.in_ok-entry.ensures.found) in
    let is : c.deref-2.result.now ≡ without c.args.rank xs = c.deref-2.ensures.value ∙ c.remove.ensures.items in
    rw is (omega (arith, p.least, same, c.self.invariant.least_is, smallest_least-le (without c.args.rank xs)))

-- so are the most shares
pub most_after-self-inside-requires-clause-changed :
    goal.most_after-self-inside-requires-clause-changed
most_after-self-inside-requires-clause-changed c =
    let xs = c.self.inside.entries.items in
    let p = parted c.args.rank c.in_ok-entry.entry xs (subst IsRising (sym c.self.view_is) c.requires) (sym c.in_ok-entry.ensures.found) in
    let is : c.deref-3.result.now ≡ without c.args.rank xs = c.deref-3.ensures.value ∙ c.remove.ensures.items in
    rw is (omega (arith, p.most, c.self.invariant.most_is))

pub most_after-self-inside-requires-clause-same : goal.most_after-self-inside-requires-clause-same
most_after-self-inside-requires-clause-same c same =
    let xs = c.self.inside.entries.items in
    let p = parted c.args.rank c.in_ok-entry.entry xs (subst IsRising (sym c.self.view_is) c.requires) (sym c.in_ok-entry.ensures.found) in
    let is : c.deref-3.result.now ≡ without c.args.rank xs = c.deref-3.ensures.value ∙ c.remove.ensures.items in
    rw is (omega (arith, p.most, same, c.self.invariant.most_is))
