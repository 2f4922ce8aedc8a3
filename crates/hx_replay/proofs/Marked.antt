-- Marks, and the lines that they make, one event after the other.
use Rattle.std.proofs.Common.{◌≡◌, ◌<◌, ℕ, zero, suc, ◌+◌, length, drop, List, [], ◌∷◌, ◌++◌, refl, sym, ap, ◌∙◌, append_assoc, slice_index, arith}
use Rattle.hx_itch.specs.declared.message.Feed.{Feed}
use Rattle.hx_refs.specs.Numbers.{raised}
use Rattle.hx_market.specs.Outputs.{Reply}
use Rattle.hx_replay.specs.declared.unwritten.Mark.{Mark}
use Rattle.hx_replay.specs.declared.unwritten.Marked.TheVariants as mark
use Rattle.hx_replay.specs.Marks.{lines_of, AreMarked, feed_marks, reply_marks, HaveRoomForTimes}
use Rattle.hx_replay.specs.Output.{feed_line, reply_line, feed_lines, reply_lines}
use Rattle.hx_replay.specs.Seen.{Numbered, text_of, texts_of}
use Rattle.hx_replay.specs.Seen.Numbered.{OfFeed, OfMember}

-- the first of those that are left
pub first_left : {X : Type 0} (xs : List X) (i : ℕ) → i < length xs → (x : X) × (drop i xs ≡ x ∷ drop (suc i) xs)
first_left [] i h = absurd (omega arith)
first_left (y ∷ ys) zero h = (y, refl)
first_left (y ∷ ys) (suc i) h = first_left ys i (omega arith)

pub texts_appended : (xs ys : List Numbered) → texts_of (xs ++ ys) ≡ texts_of xs ++ texts_of ys
texts_appended [] ys = refl
texts_appended (x ∷ xs) ys = ap (λ (t : List ℕ). text_of x ++ t) (texts_appended xs ys) ∙ sym (append_assoc (text_of x) (texts_of xs) (texts_of ys))

-- the lines of more marks come after those of marks that are all used up
pub lines_after : (marks more : List Mark) (feed fs : List Feed) (replies rs : List Reply) → AreMarked marks feed replies
    → lines_of (marks ++ more) (feed ++ fs) (replies ++ rs) ≡ lines_of marks feed replies ++ lines_of more fs rs
lines_after [] more [] fs [] rs h = refl
lines_after [] more [] fs (r ∷ replies) rs h = absurd h
lines_after [] more (m ∷ feed) fs replies rs h = absurd h
lines_after (mark.OfFeed n ∷ marks) more [] fs replies rs h = absurd h
lines_after (mark.OfFeed n ∷ marks) more (m ∷ feed) fs replies rs h = ap (λ (l : List Numbered). OfFeed n m ∷ l) (lines_after marks more feed fs replies rs h)
lines_after (mark.OfMember n ∷ marks) more feed fs [] rs h = absurd h
lines_after (mark.OfMember n ∷ marks) more feed fs (r ∷ replies) rs h = ap (λ (l : List Numbered). OfMember r.0 n r.1 ∷ l) (lines_after marks more feed fs replies rs h)

pub marked_after : (marks more : List Mark) (feed fs : List Feed) (replies rs : List Reply) → AreMarked marks feed replies → AreMarked more fs rs
    → AreMarked (marks ++ more) (feed ++ fs) (replies ++ rs)
marked_after [] more [] fs [] rs h k = k
marked_after [] more [] fs (r ∷ replies) rs h k = absurd h
marked_after [] more (m ∷ feed) fs replies rs h k = absurd h
marked_after (mark.OfFeed n ∷ marks) more [] fs replies rs h k = absurd h
marked_after (mark.OfFeed n ∷ marks) more (m ∷ feed) fs replies rs h k = marked_after marks more feed fs replies rs h k
marked_after (mark.OfMember n ∷ marks) more feed fs [] rs h k = absurd h
marked_after (mark.OfMember n ∷ marks) more feed fs (r ∷ replies) rs h k = marked_after marks more feed fs replies rs h k

replies_marked : (counts : List ℕ) (rs : List Reply) → AreMarked (reply_marks counts rs) [] rs
replies_marked counts [] = tt
replies_marked counts (r ∷ rs) = replies_marked (raised counts r.0) rs

-- the marks of an event mark its output
pub output_marked : (n : ℕ) (counts : List ℕ) (fs : List Feed) (rs : List Reply) → AreMarked (feed_marks n fs ++ reply_marks counts rs) fs rs
output_marked n counts [] rs = replies_marked counts rs
output_marked n counts (m ∷ fs) rs = output_marked (n + 1) counts fs rs

reply_texts : (counts : List ℕ) (rs : List Reply) → texts_of (lines_of (reply_marks counts rs) [] rs) ≡ reply_lines counts rs
reply_texts counts [] = refl
reply_texts counts (r ∷ rs) = ap (λ (t : List ℕ). reply_line r.0 (slice_index counts r.0 + 1) r.1 ++ t) (reply_texts (raised counts r.0) rs)

-- and make its lines
pub output_texts : (n : ℕ) (counts : List ℕ) (fs : List Feed) (rs : List Reply) → texts_of (lines_of (feed_marks n fs ++ reply_marks counts rs) fs rs) ≡ feed_lines n fs ++ reply_lines counts rs
output_texts n counts [] rs = reply_texts counts rs
output_texts n counts (m ∷ fs) rs =
    ap (λ (t : List ℕ). feed_line (n + 1) m ++ t) (output_texts (n + 1) counts fs rs)
    ∙ sym (append_assoc (feed_line (n + 1) m) (feed_lines (n + 1) fs) (reply_lines counts rs))

pub times_after : (feed fs : List Feed) → HaveRoomForTimes feed → HaveRoomForTimes fs → HaveRoomForTimes (feed ++ fs)
times_after [] fs h k = k
times_after (m ∷ feed) fs h k = (h.0, times_after feed fs h.1 k)

-- the text of more marks, after that of marks that are all used up
pub all_after : (marks more : List Mark) (feed fs : List Feed) (replies rs : List Reply) → AreMarked marks feed replies
    → texts_of (lines_of (marks ++ more) (feed ++ fs) (replies ++ rs)) ≡ texts_of (lines_of marks feed replies) ++ texts_of (lines_of more fs rs)
all_after marks more feed fs replies rs h = ap texts_of (lines_after marks more feed fs replies rs h) ∙ texts_appended (lines_of marks feed replies) (lines_of more fs rs)

-- the output of an event, after the earlier output
pub texts_after : (marks : List Mark) (feed : List Feed) (replies : List Reply) (n : ℕ) (counts : List ℕ) (fs : List Feed) (rs : List Reply) → AreMarked marks feed replies
    → texts_of (lines_of (marks ++ (feed_marks n fs ++ reply_marks counts rs)) (feed ++ fs) (replies ++ rs))
    ≡ texts_of (lines_of marks feed replies) ++ (feed_lines n fs ++ reply_lines counts rs)
texts_after marks feed replies n counts fs rs h =
    all_after marks (feed_marks n fs ++ reply_marks counts rs) feed fs replies rs h
    ∙ ap (λ (t : List ℕ). texts_of (lines_of marks feed replies) ++ t) (output_texts n counts fs rs)
