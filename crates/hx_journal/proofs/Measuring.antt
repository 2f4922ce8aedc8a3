-- How far the whole blocks of a text go.
use Rattle.std.proofs.Common.{◌≡◌, ◌≢◌, ◌==◌, inl, inr, ◌≤◌, ◌<◌, ◌+◌, ◌-◌, ◌++◌, List, ℕ, true, false, [], ◌∷◌, length, take, drop, get_or, refl, sym, ap, subst, ◌∙◌, arith, append_assoc, length-append, length-take}
use Rattle.std.proofs.lemmas.List.{append-nil, take_more, drop_more, take-take, take_at, drop_all, get_or-take, get_or-append_right}
use Rattle.std.proofs.lemmas.Bool.{cases_eq}
use Rattle.std.proofs.lemmas.Bool.Decides.{nat_tests}
use Rattle.hx_journal.specs.Lines.{lines_of, text_of, before_zero, lines_from}
use Rattle.hx_journal.specs.Records.{is_mark, sealed}
use Rattle.hx_journal.proofs.Lines.{zero_ends, goes_on, ends_line, in_line, text_of-append, few_lines_of}
use Rattle.hx_journal.proofs.Sealing.{sealed_mark, sealed_record, sealed_prefix}

-- Of the first n bytes: the lines that ended, the begun part of the next, and the whole blocks among them.
pub record Measured (bytes : List ℕ) (n start lines : ℕ) (whole : ℕ × ℕ) : Type 0 where
  pub ended : List (List ℕ)
  pub begun : List ℕ
  pub front : take n bytes ≡ text_of ended ++ begun
  pub rest : lines_of bytes ≡ ended ++ lines_from begun (before_zero (drop n bytes))
  pub begins : start ≡ length (text_of ended)
  pub number : lines ≡ length ended
  pub size : whole.0 ≡ length (text_of (sealed ended))
  pub count : whole.1 ≡ length (sealed ended)

pub nothing_yet : (bytes : List ℕ) → Measured bytes 0 0 0 (0, 0)
nothing_yet bytes = record { ended = []; begun = []; front = refl; rest = refl; begins = refl; number = refl; size = refl; count = refl }

-- a text with a line that ends
one_line : (ended : List (List ℕ)) (begun : List ℕ) → (text_of ended ++ begun) ++ 10 ∷ [] ≡ text_of (ended ++ begun ∷ []) ++ []
one_line ended begun =
    append_assoc (text_of ended) begun (10 ∷ [])
    ∙ sym (text_of-append ended (begun ∷ []))
    ∙ sym (append-nil (text_of (ended ++ begun ∷ [])))

-- a line is a mark by its first byte, or by its line feed
first_byte : (begun : List ℕ) → is_mark begun ≡ (get_or (begun ++ 10 ∷ []) 0 0 == 35)
first_byte [] = refl
first_byte (b ∷ begun) = refl

test_true : (b : ℕ) → b ≡ 35 → (b == 35) ≡ true
test_true b is = grind (arith, nat_tests)

test_false : (b : ℕ) → b ≢ 35 → (b == 35) ≡ false
test_false b is = grind (arith, nat_tests)

-- the text of whole blocks is a beginning of the text
sealed_text : (ended : List (List ℕ)) → length (text_of (sealed ended)) ≤ length (text_of ended)
sealed_text ended =
    let p = sealed_prefix ended in
    omega (arith, ap length (sym (text_of-append (sealed ended) p.0) ∙ ap text_of p.1), length-append (text_of (sealed ended)) (text_of p.0))

module _ (bytes : List ℕ) (n start lines : ℕ) (whole : ℕ × ℕ) (m : Measured bytes n start lines whole) where
  pub stops_at_zero : n < length bytes → get_or bytes n 0 ≡ 0 → lines_of bytes ≡ m.ended
  stops_at_zero within zero =
      m.rest
      ∙ ap (λ (l : List ℕ). m.ended ++ lines_from m.begun (before_zero l)) (drop_more bytes n 0 within)
      ∙ ap (λ (l : List ℕ). m.ended ++ lines_from m.begun l) (zero_ends (get_or bytes n 0) (drop (n + 1) bytes) zero)
      ∙ append-nil m.ended

  pub stops_at_end : length bytes ≤ n → lines_of bytes ≡ m.ended
  stops_at_end past =
      m.rest ∙ ap (λ (l : List ℕ). m.ended ++ lines_from m.begun (before_zero l)) (drop_all n bytes past) ∙ append-nil m.ended

  pub short : start ≤ length (take n bytes)
  short = omega (arith, m.begins, ap length m.front, length-append (text_of m.ended) m.begun)

  pub within_bytes : whole.0 ≤ length bytes
  within_bytes = omega (arith, short, m.begins, m.size, sealed_text m.ended, length-take n bytes)

  pub few_so_far : lines ≤ n
  few_so_far = omega (arith, m.number, m.begins, few_lines_of m.ended, short, length-take n bytes)

  pub start_here : start ≤ n
  start_here = omega (arith, short, length-take n bytes)

  -- the text of the whole blocks, and how many lines they have
  pub whole_front : lines_of bytes ≡ m.ended → take whole.0 bytes ≡ text_of (sealed (lines_of bytes))
  whole_front is =
      let p = sealed_prefix m.ended in
      let parts : take n bytes ≡ text_of (sealed m.ended) ++ (text_of p.0 ++ m.begun) =
      m.front ∙ ap (λ (l : List ℕ). l ++ m.begun) (ap text_of (sym p.1) ∙ text_of-append (sealed m.ended) p.0)
      ∙ append_assoc (text_of (sealed m.ended)) (text_of p.0) m.begun in
      sym (take-take whole.0 n bytes (omega (arith, short, m.begins, m.size, sealed_text m.ended, length-take n bytes)))
      ∙ ap (λ (l : List ℕ). take whole.0 l) parts
      ∙ take_at (text_of (sealed m.ended)) (text_of p.0 ++ m.begun) whole.0 (sym m.size)
      ∙ ap (λ (l : List (List ℕ)). text_of (sealed l)) (sym is)

  pub whole_count : lines_of bytes ≡ m.ended → whole.1 ≡ length (sealed (lines_of bytes))
  whole_count is = m.count ∙ ap (λ (l : List (List ℕ)). length (sealed l)) (sym is)

  pub line_goes_on : n < length bytes → get_or bytes n 0 ≢ 0 → get_or bytes n 0 ≢ 10 → Measured bytes (n + 1) start lines whole
  line_goes_on within some other =
      record {
        ended = m.ended;
        begun = m.begun ++ get_or bytes n 0 ∷ [];
        front = take_more bytes n 0 within ∙ ap (λ (l : List ℕ). l ++ get_or bytes n 0 ∷ []) m.front ∙ append_assoc (text_of m.ended) m.begun (get_or bytes n 0 ∷ []);
        rest =
            m.rest
            ∙ ap (λ (l : List ℕ). m.ended ++ lines_from m.begun (before_zero l)) (drop_more bytes n 0 within)
            ∙ ap (λ (l : List ℕ). m.ended ++ lines_from m.begun l) (goes_on (get_or bytes n 0) (drop (n + 1) bytes) some)
            ∙ ap (λ (l : List (List ℕ)). m.ended ++ l) (in_line (get_or bytes n 0) m.begun (before_zero (drop (n + 1) bytes)) other);
        begins = m.begins;
        number = m.number;
        size = m.size;
        count = m.count;
      }

  module _ (within : n < length bytes) (feed : get_or bytes n 0 ≡ 10) where
    front_then : take (n + 1) bytes ≡ text_of (m.ended ++ m.begun ∷ []) ++ []
    front_then = take_more bytes n 0 within ∙ (λ i. m.front i ++ feed i ∷ []) ∙ one_line m.ended m.begun

    line_text : take (n + 1) bytes ≡ text_of m.ended ++ (m.begun ++ 10 ∷ [])
    line_text = take_more bytes n 0 within ∙ (λ i. m.front i ++ feed i ∷ []) ∙ append_assoc (text_of m.ended) m.begun (10 ∷ [])

    size_then : n + 1 ≡ length (text_of (m.ended ++ m.begun ∷ []))
    size_then = omega (arith, ap length front_then, length-take (n + 1) bytes, ap length (append-nil (text_of (m.ended ++ m.begun ∷ []))))

    rest_then : lines_of bytes ≡ (m.ended ++ m.begun ∷ []) ++ lines_from [] (before_zero (drop (n + 1) bytes))
    rest_then =
        m.rest
        ∙ ap (λ (l : List ℕ). m.ended ++ lines_from m.begun (before_zero l)) (drop_more bytes n 0 within)
        ∙ ap (λ (l : List ℕ). m.ended ++ lines_from m.begun l) (goes_on (get_or bytes n 0) (drop (n + 1) bytes) (λ z. absurd (omega (arith, feed, z))))
        ∙ ap (λ (l : List (List ℕ)). m.ended ++ l) (ends_line (get_or bytes n 0) m.begun (before_zero (drop (n + 1) bytes)) feed)
        ∙ sym (append_assoc m.ended (m.begun ∷ []) (lines_from [] (before_zero (drop (n + 1) bytes))))

    start_byte : get_or bytes start 0 ≡ get_or (m.begun ++ 10 ∷ []) 0 0
    start_byte =
        let nothing : start - start ≡ 0 = omega arith in
        sym (get_or-take (n + 1) bytes start 0 (omega (arith, start_here)))
        ∙ ap (λ (l : List ℕ). get_or l start 0) line_text
        ∙ get_or-append_right (text_of m.ended) (m.begun ++ 10 ∷ []) start start 0 (sym m.begins) (omega arith)
        ∙ ap (λ k. get_or (m.begun ++ 10 ∷ []) k 0) nothing

    mark_is : is_mark m.begun ≡ (get_or bytes start 0 == 35)
    mark_is = first_byte m.begun ∙ ap (λ b. b == 35) (sym start_byte)

    pub mark_ends : get_or bytes start 0 ≡ 35 → Measured bytes (n + 1) (n + 1) (lines + 1) (n + 1, lines + 1)
    mark_ends is =
        let stays = sealed_mark m.ended m.begun (mark_is ∙ test_true (get_or bytes start 0) is) in
        record {
          ended = m.ended ++ m.begun ∷ [];
          begun = [];
          front = front_then;
          rest = rest_then;
          begins = size_then;
          number = omega (arith, m.number, length-append m.ended (m.begun ∷ []));
          size = size_then ∙ ap (λ (l : List (List ℕ)). length (text_of l)) (sym stays);
          count = omega (arith, m.number, length-append m.ended (m.begun ∷ []), ap length stays);
        }

    pub record_ends : get_or bytes start 0 ≢ 35 → Measured bytes (n + 1) (n + 1) (lines + 1) whole
    record_ends is =
        let stays = sealed_record m.ended m.begun (mark_is ∙ test_false (get_or bytes start 0) is) in
        record {
          ended = m.ended ++ m.begun ∷ [];
          begun = [];
          front = front_then;
          rest = rest_then;
          begins = size_then;
          number = omega (arith, m.number, length-append m.ended (m.begun ∷ []));
          size = m.size ∙ ap (λ (l : List (List ℕ)). length (text_of l)) (sym stays);
          count = m.count ∙ ap length (sym stays);
        }

    -- either way
    pub line_ends : (then : ℕ × ℕ) → (get_or bytes start 0 ≡ 35 → then ≡ (n + 1, lines + 1)) → (get_or bytes start 0 ≢ 35 → then ≡ whole) → Measured bytes (n + 1) (n + 1) (lines + 1) then
    line_ends then mark other = elim (cases_eq (get_or bytes start 0) 35) [
      | inl is ↦ subst (λ w. Measured bytes (n + 1) (n + 1) (lines + 1) w) (sym (mark is)) (mark_ends is)
      | inr not ↦ subst (λ w. Measured bytes (n + 1) (n + 1) (lines + 1) w) (sym (other not)) (record_ends not)
    ]
