use Rattle.std.specs.List.{find}
use Rattle.std.proofs.Common.{None, Some, ◌≡◌, sym, subst, ap, ◌∙◌, arith}
use Rattle.hx_ranked.specs.Ranked.{has_rank, IsRising, renewed}
use Rattle.hx_ranked.proofs.Summaries.{parted, renewed-none, written-renewed}
use Rattle.hx_ranked.proofs.block.Block.renew.Goals as goal

-- no entry has the rank
pub invariant_of-self : goal.invariant_of-self
invariant_of-self c =
    let xs = c.self.inside.entries.items in
    let none = subst (λ t. find (has_rank c.args.rank) t ≡ None) c.deref_mut.ensures.value (sym c.renew.ensures.found ∙ c.in_default.is) in
    let same = written-renewed c.self.inside.entries c.args.rank c.args.least c.args.shares c.renew.new.entries (c.renew.ensures.items ∙ ap (renewed c.args.rank c.args.least c.args.shares) c.deref_mut.ensures.value) ∙ renewed-none c.args.rank c.args.least c.args.shares xs none in
    record {
      first_is = rw same c.self.invariant.first_is;
      least_is = rw same c.self.invariant.least_is;
      most_is = rw same c.self.invariant.most_is;
      capacity = c.self.invariant.capacity;
    }

-- the smallest of all is that of the renewed entry and of the others
pub smallest_after-self-inside-requires-clause-changed :
    goal.smallest_after-self-inside-requires-clause-changed
smallest_after-self-inside-requires-clause-changed c =
    let xs = c.self.inside.entries.items in
    let p = parted c.args.rank c.in-Some.old xs (subst IsRising (sym c.self.view_is) c.requires) (subst (λ t. find (has_rank c.args.rank) t ≡ Some c.in-Some.old) c.deref_mut.ensures.value (sym c.renew.ensures.found ∙ c.in-Some.is)) in
    let is : c.deref.result.now ≡ renewed c.args.rank c.args.least c.args.shares xs = c.deref.ensures.value ∙ written-renewed c.self.inside.entries c.args.rank c.args.least c.args.shares c.renew.new.entries (c.renew.ensures.items ∙ ap (renewed c.args.rank c.args.least c.args.shares) c.deref_mut.ensures.value) in
    rw is (omega (arith, p.least, p.least_new c.args.least c.args.shares, c.self.invariant.least_is))

pub smallest_after-self-inside-requires-clause-same :
    goal.smallest_after-self-inside-requires-clause-same
smallest_after-self-inside-requires-clause-same c same =
    let xs = c.self.inside.entries.items in
    let p = parted c.args.rank c.in-Some.old xs (subst IsRising (sym c.self.view_is) c.requires) (subst (λ t. find (has_rank c.args.rank) t ≡ Some c.in-Some.old) c.deref_mut.ensures.value (sym c.renew.ensures.found ∙ c.in-Some.is)) in
    let is : c.deref.result.now ≡ renewed c.args.rank c.args.least c.args.shares xs = c.deref.ensures.value ∙ written-renewed c.self.inside.entries c.args.rank c.args.least c.args.shares c.renew.new.entries (c.renew.ensures.items ∙ ap (renewed c.args.rank c.args.least c.args.shares) c.deref_mut.ensures.value) in
    rw is (omega (arith, p.least, p.least_new c.args.least c.args.shares, same, c.self.invariant.least_is))

-- so are the most shares
pub most_after-self-inside-requires-clause-changed :
    goal.most_after-self-inside-requires-clause-changed
most_after-self-inside-requires-clause-changed c =
    let xs = c.self.inside.entries.items in
    let p = parted c.args.rank c.in-Some.old xs (subst IsRising (sym c.self.view_is) c.requires) (subst (λ t. find (has_rank c.args.rank) t ≡ Some c.in-Some.old) c.deref_mut.ensures.value (sym c.renew.ensures.found ∙ c.in-Some.is)) in
    let is : c.deref-2.result.now ≡ renewed c.args.rank c.args.least c.args.shares xs = c.deref-2.ensures.value ∙ written-renewed c.self.inside.entries c.args.rank c.args.least c.args.shares c.renew.new.entries (c.renew.ensures.items ∙ ap (renewed c.args.rank c.args.least c.args.shares) c.deref_mut.ensures.value) in
    rw is (omega (arith, p.most, p.most_new c.args.least c.args.shares, c.self.invariant.most_is))

pub most_after-self-inside-requires-clause-same : goal.most_after-self-inside-requires-clause-same
most_after-self-inside-requires-clause-same c same =
    let xs = c.self.inside.entries.items in
    let p = parted c.args.rank c.in-Some.old xs (subst IsRising (sym c.self.view_is) c.requires) (subst (λ t. find (has_rank c.args.rank) t ≡ Some c.in-Some.old) c.deref_mut.ensures.value (sym c.renew.ensures.found ∙ c.in-Some.is)) in
    let is : c.deref-2.result.now ≡ renewed c.args.rank c.args.least c.args.shares xs = c.deref-2.ensures.value ∙ written-renewed c.self.inside.entries c.args.rank c.args.least c.args.shares c.renew.new.entries (c.renew.ensures.items ∙ ap (renewed c.args.rank c.args.least c.args.shares) c.deref_mut.ensures.value) in
    rw is (omega (arith, p.most, p.most_new c.args.least c.args.shares, same, c.self.invariant.most_is))
