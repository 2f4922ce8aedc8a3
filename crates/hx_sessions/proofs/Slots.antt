-- Sessions that were served each in its slot are all served.
use Rattle.std.proofs.Common.{◌≡◌, ◌<◌, ℕ, suc, List, [], ◌∷◌, length, map, Option, Some, None, Result, sym, subst, arith, slice_index_or, filter_map, option_map}
use Rattle.std.specs.List.{cons_option}
use Rattle.hx_members.specs.Setups.{Setup}
use Rattle.hx_sessions.specs.declared.ending.Ended.{Ended}
use Rattle.hx_sessions.specs.declared.ending.Fault.{Fault}
use Rattle.hx_sessions.specs.declared.copies.DropCopy.{DropCopy}
use Rattle.hx_sessions.specs.Served.{Side, Serves, ServesWaiting, ServesAll}

-- one more in front
cons_served : {E : Type 0} (out : E → Side × Result Ended Fault) (setup own : Setup) (copies : List DropCopy) (p : Side) (ps : List Side) (s : Side × Result Ended Fault) (o : Option E) (rest : List E) → option_map out o ≡ Some s → Serves setup own copies p s.0 s.1 → ServesAll setup own copies ps (map out rest)
    → ServesAll setup own copies (p ∷ ps) (map out (cons_option o rest))
cons_served out setup own copies p ps s None rest is q all = absurd (cc is)
cons_served out setup own copies p ps s (Some e) rest is q all =
    let same : s ≡ out e = sym (cc is) in
    (subst (λ (x : Side × Result Ended Fault). Serves setup own copies p x.0 x.1) same q, all)

-- by the slot at each index
served_each : {P S E : Type 0} (side : P → Side) (out : E → Side × Result Ended Fault) (make : P → S) (waiting : S → Option P) (served : S → Option E) (setup own : Setup) (copies : List DropCopy) (parts : List P) (news : List S) → ((p : P) → waiting (make p) ≡ Some p) → length news ≡ length parts
    → ((i : ℕ) (d : S) → i < length (map make parts) → ServesWaiting setup own copies (option_map side (waiting (slice_index_or (map make parts) i d))) (option_map out (served (slice_index_or news i d))))
    → ServesAll setup own copies (map side parts) (map out (filter_map served news))
served_each side out make waiting served setup own copies [] [] made len each = tt
served_each side out make waiting served setup own copies [] (n ∷ ns) made len each = absurd (omega (arith, len))
served_each side out make waiting served setup own copies (p ∷ ps) [] made len each = absurd (omega (arith, len))
served_each {P = P} side out make waiting served setup own copies (p ∷ ps) (n ∷ ns) made len each =
    let at : ServesWaiting setup own copies (Some (side p)) (option_map out (served n)) = subst (λ (o : Option P). ServesWaiting setup own copies (option_map side o) (option_map out (served n))) (made p) (each 0 n (omega arith)) in
    let f = at.serves in
    cons_served out setup own copies (side p) (map side ps) f.0 (served n) (filter_map served ns) f.1 f.2
    (served_each side out make waiting served setup own copies ps ns made (omega (arith, len)) (λ i d h. each (suc i) d (omega (arith, h))))

-- the same of slots that were filled before, and of what was taken out of them
pub served_all : {P S E : Type 0} (side : P → Side) (out : E → Side × Result Ended Fault) (make : P → S) (waiting : S → Option P) (served : S → Option E) (setup own : Setup) (copies : List DropCopy) (parts : List P) (olds news : List S) (ends : List E) → ((p : P) → waiting (make p) ≡ Some p)
    → olds ≡ map make parts → length news ≡ length parts → ends ≡ filter_map served news
    → ((i : ℕ) (d : S) → i < length olds → ServesWaiting setup own copies (option_map side (waiting (slice_index_or olds i d))) (option_map out (served (slice_index_or news i d))))
    → ServesAll setup own copies (map side parts) (map out ends)
served_all {S = S} {E = E} side out make waiting served setup own copies parts olds news ends made filled len taken each =
    subst (λ (l : List E). ServesAll setup own copies (map side parts) (map out l)) (sym taken)
    (served_each side out make waiting served setup own copies parts news made len
    (subst (λ (l : List S). (i : ℕ) (d : S) → i < length l → ServesWaiting setup own copies (option_map side (waiting (slice_index_or l i d))) (option_map out (served (slice_index_or news i d)))) filled each))

-- what a call that was made with what stands in a slot, and left what stands there then, says of the slot
pub served_there : {S P E : Type 0} (side : P → Side) (out : E → Side × Result Ended Fault) (waiting : S → Option P) (served : S → Option E) (setup own : Setup) (copies : List DropCopy) {given left old new : S} → given ≡ old → left ≡ new
    → ServesWaiting setup own copies (option_map side (waiting given)) (option_map out (served left))
    → ServesWaiting setup own copies (option_map side (waiting old)) (option_map out (served new))
served_there {S = S} side out waiting served setup own copies {given} {left} {old} {new} same is s =
    subst (λ (y : S). ServesWaiting setup own copies (option_map side (waiting old)) (option_map out (served y))) is
    (subst (λ (x : S). ServesWaiting setup own copies (option_map side (waiting x)) (option_map out (served left))) same s)
