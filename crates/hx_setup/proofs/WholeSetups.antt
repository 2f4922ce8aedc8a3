-- Lists of stocks and of members make a setup, and those of a setup's front may be a setup's.
use Rattle.std.proofs.Common.{◌≡◌, ℕ, ◌<◌, zero, suc, Bool, true, nat_lt, List, [], ◌∷◌, ◌++◌, length, refl, sym, ap, ◌∙◌, subst, arith, length-append, ltb-true}
use Rattle.std.specs.Prelude.{codes}
use Rattle.std.specs.List.{AllByRecursion, list_all}
use Rattle.hex.specs.Hex.{IsBytes}
use Rattle.hx_setup.specs.declared.stock.Stock.{Stock}
use Rattle.hx_setup.specs.declared.stock.Member.{Member}
use Rattle.hx_setup.specs.Setups.{Setup, is_stock, is_member, names_differ, numbers_rise, users_differ, stock_named, member_with}
use Rattle.hx_setup.specs.SetupText.{HasStockLine, HasMemberLine, HasText}
use Rattle.hx_setup.specs.Reading.{IsSession, AreStocks, AreMembers}
use Rattle.std.proofs.lemmas.Bool.{and_from, and_parts}
use Rattle.hx_setup.proofs.Growing.{each_front, pairwise_front, other_name, other_user, lower_number, names_are, users_are, numbers_are}

-- ---- what is read is a setup

all_stocks : (stocks : List Stock) → AllByRecursion HasStockLine stocks → list_all is_stock stocks ≡ true
all_stocks [] h = refl
all_stocks (s ∷ stocks) h = and_from (is_stock s) (list_all is_stock stocks) h.0.name (all_stocks stocks h.1)

all_members : (members : List Member) → AllByRecursion HasMemberLine members → list_all is_member members ≡ true
all_members [] h = refl
all_members (m ∷ members) h = and_from (is_member m) (list_all is_member members) h.0.names (all_members members h.1)

pub has_text : (session : List ℕ) (start_open : Bool) (stocks : List Stock) (members : List Member) → IsSession session → AreStocks stocks → AreMembers members → 0 < length stocks → 0 < length members
    → HasText (record { session = session; start_open = start_open; stocks = stocks; members = members })
has_text session start_open stocks members is s m p q = record {
  is_setup = record {
    session = is;
    some_stock = p;
    most_stocks = s.few;
    stocks = all_stocks stocks s.each;
    names = s.names;
    some_member = q;
    most_members = m.few;
    members = all_members members m.each;
    numbers = m.numbers;
    users = m.users;
  };
  stocks = s.each;
  members = m.each;
}

pub stocks_front : (stocks more : List Stock) (setup : Setup) → HasText setup → setup.stocks ≡ stocks ++ more → AreStocks stocks
stocks_front stocks more setup has e = record {
  each = each_front HasStockLine stocks more (subst (AllByRecursion HasStockLine) e has.stocks);
  names = names_are stocks ∙ pairwise_front other_name stocks more (sym (names_are (stocks ++ more)) ∙ ap names_differ (sym e) ∙ has.is_setup.names);
  few = omega (arith, length-append stocks more, ap length e, has.is_setup.most_stocks);
}

pub members_front : (members more : List Member) (setup : Setup) → HasText setup → setup.members ≡ members ++ more → AreMembers members
members_front members more setup has e = record {
  each = each_front HasMemberLine members more (subst (AllByRecursion HasMemberLine) e has.members);
  numbers = numbers_are members ∙ pairwise_front lower_number members more (sym (numbers_are (members ++ more)) ∙ ap numbers_rise (sym e) ∙ has.is_setup.numbers);
  users = users_are members ∙ pairwise_front other_user members more (sym (users_are (members ++ more)) ∙ ap users_differ (sym e) ∙ has.is_setup.users);
  few = omega (arith, length-append members more, ap length e, has.is_setup.most_members);
}

-- ---- a stock and a member to go on with

bytes_test : (xs : List ℕ) → list_all (λ b. nat_lt b 256) xs ≡ true → IsBytes xs
bytes_test [] h i = omega arith
bytes_test (x ∷ xs) h zero = ltb-true x 256 (and_parts (nat_lt x 256) (list_all (λ b. nat_lt b 256) xs) h).0
bytes_test (x ∷ xs) h (suc i) = bytes_test xs (and_parts (nat_lt x 256) (list_all (λ b. nat_lt b 256) xs) h).1 i

pub a_stock : Stock
a_stock = stock_named (codes "ABCD    ")

pub a_member : Member
a_member = member_with 1 (codes "FMA1") (codes "ALPHA ") (codes "PWALPHA   ") 1000

pub one_stock : AreStocks (a_stock ∷ [])
unfolding a_stock
one_stock = record {
  each = (record { symbol_size = refl; tail_size = refl; tail_bytes = bytes_test a_stock.tail refl; name = refl }, tt);
  names = refl;
  few = omega arith;
}

pub one_member : AreMembers (a_member ∷ [])
unfolding a_member
one_member = record {
  each = (record { number = (omega arith, omega arith); firm_size = refl; user_size = refl; password_size = refl; names = refl; limit = omega arith }, tt);
  numbers = refl;
  users = refl;
  few = omega arith;
}

pub a_session : List ℕ
a_session = codes "HX00000001"

pub is_session : IsSession a_session
unfolding a_session
is_session = refl

pub no_members : AreMembers []
no_members = record { each = tt; numbers = refl; users = refl; few = omega arith }
