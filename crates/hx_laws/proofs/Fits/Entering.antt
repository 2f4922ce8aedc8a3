-- What a readable message asks for, if it is accepted, fits its fields.
use Rattle.std.proofs.Common.{◌≡◌, ℕ, zero, suc, ◌+◌, ◌-◌, ◌<◌, ◌≤◌, ◌^◌, Bool, false, ltb, ltb-false, refl, arith, ◌||◌, List, [], ◌∷◌, length, Some, None, Option, slice_get}
use Rattle.std.specs.Prelude.{unwrap_or}
use Rattle.std.specs.List.{AllByRecursion}
use Rattle.std.specs.Option.{option_map_or, IfSome}
use Rattle.std.proofs.lemmas.Bool.{cond_both, or_parts}
use Rattle.hx_units.specs.Names.{is_symbol, is_firm}
use Rattle.hx_units.specs.declared.names.Symbol.{Symbol}
use Rattle.hx_units.specs.declared.names.Firm.{Firm}
use Rattle.hx_units.proofs.FieldLaws.{is_message-true, length-text_at}
use Rattle.hx_book.proofs.Lists.{find-all}
use Rattle.hx_members.specs.Setups.{Setup, locate_from, locate_of, symbol_of, no_symbol, no_firm, firm_of, member_of}
use Rattle.hx_members.specs.Stock.{Stock}
use Rattle.hx_members.specs.Member.{Member}
use Rattle.hx_ouch.specs.declared.inbound.Enter.{Enter}
use Rattle.hx_ouch.specs.declared.inbound.Replace.{Replace}
use Rattle.hx_ouch.specs.declared.inbound.Inbound.{Inbound}
use Rattle.hx_ouch.specs.declared.inbound.Inbound.TheVariants as inbound
use Rattle.hx_ouch.specs.Inbound.{inbound_of, is_enter, is_replace, is_cancel, enter_of, replace_of, cancel_of}
use Rattle.hx_rules.specs.Enter.{reasons, rejection, is_bad_shares, is_bad_price, is_between_cents, resolved_firm}
use Rattle.hx_rules.specs.Replace.{replace_fails}
use Rattle.hx_rules.proofs.Reasons.{none_applies}
use Rattle.hx_laws.specs.FeedFits.{FitsStock, FitsMember, FitsSetup}

-- ---- a setup

located : (n b : ℕ) (stocks : List Stock) (symbol : Symbol) → 0 < b → n + length stocks ≤ b → IfSome (locate_from n stocks symbol) (λ k. k < b)
located n b [] symbol some le = tt
located n b (s ∷ stocks) symbol some le =
    cond_both (is_symbol symbol s.symbol) (Some n) (locate_from (n + 1) stocks symbol) (λ o. IfSome o (λ k. k < b))
    (λ _. omega arith) (λ _. located (n + 1) b stocks symbol some (omega arith))

pub locate_fits : (setup : Setup) (symbol : Symbol) → FitsSetup setup → IfSome (locate_of setup symbol) (λ k. k < 2 ^ 16)
locate_fits setup symbol fits = let few = fits.few in located 1 (2 ^ 16) setup.stocks symbol (omega arith) (omega arith)

pub or_zero : (o : Option ℕ) → IfSome o (λ k. k < 2 ^ 16) → unwrap_or o 0 < 2 ^ 16
or_zero None h = omega arith
or_zero (Some k) h = h

stock_fits : (position : ℕ) (stocks : List Stock) → AllByRecursion FitsStock stocks → IfSome (slice_get stocks position) FitsStock
stock_fits position [] all = tt
stock_fits zero (s ∷ stocks) all = all.0
stock_fits (suc position) (s ∷ stocks) all = stock_fits position stocks all.1

pub symbol_fits : (setup : Setup) (locate : ℕ) → FitsSetup setup → length (symbol_of setup locate).0 ≡ 8
symbol_fits setup zero fits = refl
symbol_fits setup (suc position) fits = choose (slice_get setup.stocks position) (stock_fits position setup.stocks fits.stocks)
  where
    choose : (o : Option Stock) → IfSome o FitsStock → length (option_map_or (λ stock. stock.symbol) o no_symbol).0 ≡ 8
    choose None h = refl
    choose (Some s) h = h.symbol

pub firm_fits : (setup : Setup) (member : ℕ) (firm : Firm) → FitsSetup setup → length firm.0 ≡ 4 → length (resolved_firm setup member firm).0 ≡ 4
firm_fits setup member firm fits four =
    cond_both (is_firm firm no_firm) (firm_of setup member) firm (λ (f : Firm). length f.0 ≡ 4)
    (λ _. choose (member_of setup member) (find-all FitsMember _ setup.members fits.members)) (λ _. four)
  where
    choose : (o : Option Member) → IfSome o FitsMember → length (option_map_or (λ m. m.firm) o no_firm).0 ≡ 4
    choose None h = refl
    choose (Some m) h = h.firm

-- ---- a message

-- the names of an Enter have their lengths
abbrev pub IsNamed : Option Inbound → Type 0
IsNamed None = Unit {0}
IsNamed (Some (inbound.Enter e)) = (length e.stock.0 ≡ 8) × (length e.firm.0 ≡ 4)
IsNamed (Some (inbound.Replace r)) = Unit {0}
IsNamed (Some (inbound.Cancel c)) = Unit {0}

pub is_named : (bytes : List ℕ) → IsNamed (inbound_of bytes)
is_named bytes =
    cond_both (is_enter bytes) (Some (inbound.Enter (enter_of bytes))) _ IsNamed
    (λ e. let len : length bytes ≡ 49 = (is_message-true 49 79 bytes e).0 in (length-text_at 20 8 bytes (omega arith), length-text_at 36 4 bytes (omega arith)))
    (λ _. cond_both (is_replace bytes) (Some (inbound.Replace (replace_of bytes))) _ IsNamed (λ _. tt)
    (λ _. cond_both (is_cancel bytes) (Some (inbound.Cancel (cancel_of bytes))) None IsNamed (λ _. tt) (λ _. tt)))

-- ---- shares and prices

good_shares : (n : ℕ) → is_bad_shares n ≡ false → n ≤ 999999
good_shares n h = ltb-false 999999 n (or_parts _ (ltb 999999 n) h).1

good_price : (n : ℕ) → is_bad_price n ≡ false → n < 2 ^ 32
good_price n h =
    let le : n ≤ 1999999900 = ltb-false 1999999900 n (or_parts (ltb 1999999900 n) (is_between_cents n) (or_parts _ (ltb 1999999900 n || is_between_cents n) h).1).0 in
    omega arith

pub accepted_fits : (setup : Setup) (phase : ℕ) (halted : List Bool) (e : Enter) → rejection setup phase halted e ≡ None → (e.shares ≤ 999999) × (e.price < 2 ^ 32)
accepted_fits setup phase halted e h =
    let none = none_applies (reasons setup phase halted e) h in
    (good_shares e.shares none.1.1.1.1.1.0, good_price e.price none.1.1.1.1.1.1.0)

pub replaced_fits : (phase n : ℕ) (r : Replace) → replace_fails phase n r ≡ false → (r.shares - n ≤ 999999) × (r.price < 2 ^ 32)
replaced_fits phase n r h =
    let first = or_parts (is_bad_shares r.shares) _ h in
    let second = or_parts (is_bad_price r.price) _ first.1 in
    let most = good_shares r.shares first.0 in
    (omega arith, good_price r.price second.0)
