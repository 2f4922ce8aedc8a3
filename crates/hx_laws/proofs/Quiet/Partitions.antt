-- What holds of one partition holds of a list of them.
use Rattle.std.proofs.Common.{[], ◌∷◌, refl, ap, ap₂}
use Rattle.hx_laws.proofs.Quiet.StruckRuns.{quiet_chains}
use Rattle.hx_laws.proofs.Quiet.StruckChoices as of_one
use Rattle.hx_laws.proofs.Quiet.StruckOfAll as of_all
use Rattle.hx_laws.specs.QuietChains.{seen}
use Rattle.hx_laws.specs.Partitions.{QuietInAny, OneMemberInAll, OneMemberInOne, AllMembersInAll, seen_by_all_but}

pub quiet_in_any : QuietInAny
quiet_in_any look [] all = refl
quiet_in_any look (c ∷ cs) all =
    ap₂ (λ x xs. x ∷ xs)
    (quiet_chains c.partition.setup c.partition.history c.tokens look all.0.chains all.0.unknown)
    (quiet_in_any look cs all.1)

pub one_member_in_all : OneMemberInAll
one_member_in_all m [] = refl
one_member_in_all m (p ∷ ps) =
    ap₂ (λ x xs. x ∷ xs) (of_one.one_member p.setup m p.history) (one_member_in_all m ps)

pub one_member_in_one : OneMemberInOne
one_member_in_one m [] p later =
    ap (λ x. x ∷ seen_by_all_but m later) (of_one.one_member p.setup m p.history)
one_member_in_one m (q ∷ before) p later = ap (λ xs. seen m q.setup q.history ∷ xs) (one_member_in_one m before p later)

pub all_members_in_all : AllMembersInAll
all_members_in_all [] = refl
all_members_in_all (p ∷ ps) =
    ap₂ (λ x xs. x ∷ xs) (of_all.all_members p.setup p.history) (all_members_in_all ps)
