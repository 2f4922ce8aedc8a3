use Rattle.std.proofs.Common.{◌≡◌, not, ◌&&◌, ◌++◌, ◌∷◌, [], List, is_some, unwrap_or, ap, sym, ◌∙◌, subst}
use Rattle.std.specs.Map.{lookup}
use Rattle.hx_units.specs.Names.{is_token}
use Rattle.hx_members.specs.Chains.{is_used}
use Rattle.hx_market.specs.Markets.{Market}
use Rattle.hx_audit.specs.Listing.{Use, use_of}
use Rattle.hx_audit.specs.Finding.{named}
use Rattle.hx_audit.proofs.Uses.{Lists, step_lists, stays_listed, gets_listed, has_used, entered_listed}
use Rattle.hx_audit.proofs.chaining.take_and_list.Goals as goal

pub returns-in_default-clause-listed : goal.returns-in_default-clause-listed
returns-in_default-clause-listed c =
    let m = c.args.member in
    let a = c.args.market.now.market in
    let goes : Lists a c.take_event.new.market.market m (named m c.args.event.now) =
    subst (λ (b : Market). Lists a b m (named m c.args.event.now)) (sym c.in_ok-take_event.ensures.market) (step_lists c.args.market.now.setup a c.args.event.now m) in
    c.requires.listed ∙ sym (subst (Lists a c.take_event.new.market.market m) (sym c.in_default.ensures) goes)

pub returns-then-not-is_new_use-clause-listed : goal.returns-then-not-is_new_use-clause-listed
returns-then-not-is_new_use-clause-listed c =
    let m = c.args.member in
    let a = c.args.market.now.market in
    let b = c.take_event.new.market.market in
    let n = c.in-Some.naming in
    let goes : Lists a b m (named m c.args.event.now) =
    subst (λ (x : Market). Lists a x m (named m c.args.event.now)) (sym c.in_ok-take_event.ensures.market) (step_lists c.args.market.now.setup a c.args.event.now m) in
    let is_new : c.is_new_use.result ≡ (is_used b.tokens m n.token && not (is_used a.tokens m n.token)) =
    c.is_new_use.ensures
    ∙ ap (λ (us : List Use). is_used b.tokens m n.token && not (is_some (lookup (is_token n.token) us))) c.requires.listed
    ∙ ap (λ x. is_used b.tokens m n.token && not x) (has_used a.tokens m n.token) in
    c.requires.listed ∙ sym (stays_listed a b m n (subst (Lists a b m) (sym c.in-Some.ensures) goes) (sym is_new ∙ c.if-not-is_new_use.true))

pub returns-clause-listed : goal.returns-clause-listed
returns-clause-listed c =
    let m = c.args.member in
    let a = c.args.market.now.market in
    let b = c.take_event.new.market.market in
    let n = c.in-Some.naming in
    let x = n.existing in
    let goes : Lists a b m (named m c.args.event.now) =
    subst (λ (y : Market). Lists a y m (named m c.args.event.now)) (sym c.in_ok-take_event.ensures.market) (step_lists c.args.market.now.setup a c.args.event.now m) in
    let is_new : c.is_new_use.result ≡ (is_used b.tokens m n.token && not (is_used a.tokens m n.token)) =
    c.is_new_use.ensures
    ∙ ap (λ (us : List Use). is_used b.tokens m n.token && not (is_some (lookup (is_token n.token) us))) c.requires.listed
    ∙ ap (λ y. is_used b.tokens m n.token && not y) (has_used a.tokens m n.token) in
    let entered = c.entered-entered.ensures ∙ ap (λ (us : List Use). unwrap_or (lookup (is_token x) us) x) c.requires.listed ∙ entered_listed a.tokens m x in
    c.in_ok-add.ensures.uses
    ∙ (λ j. c.requires.listed j ++ use_of n.token (entered j) ∷ [])
    ∙ sym (gets_listed a b m n (subst (Lists a b m) (sym c.in-Some.ensures) goes) (sym is_new ∙ c.if-not-is_new_use.false)).1
