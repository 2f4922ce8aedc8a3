use Rattle.std.proofs.Common.{◌≡◌, List, Some, Bool, true, false, ◌&&◌, ◌==◌, if◌then◌else◌, nat_le, sym, ap, ◌∙◌, subst, refl}
use Rattle.hx_units.specs.declared.side.Side.{Side}
use Rattle.hx_units.specs.Side.{is_buy}
use Rattle.hx_units.specs.declared.side.Side.TheVariants.{Buy, Sell, Short, ShortExempt}
use Rattle.hx_book.specs.declared.order.Live.{Live}
use Rattle.hx_book.specs.Book.{order_of, without, is_other_side}
use Rattle.hx_match.specs.declared.fills.Fill.{Fill}
use Rattle.hx_match.specs.declared.fills.Incoming.{Incoming}
use Rattle.hx_match.specs.Matching.{matched_live}
use Rattle.hx_match.specs.Executing.{fills_of}
use Rattle.hx_match.specs.Rules.{AreFills}
use Rattle.hx_match.proofs.Unmet.{unmet}
use Rattle.hx_market_core.specs.Effects.{incoming_of_replacement}
use Rattle.hx_market_core.proofs.prepare.reserving.plan_replacement.Goals as goal

-- an order of the same side is not met
own_side : (side : Side) → is_other_side side side ≡ false
own_side Buy = refl
own_side Sell = refl
own_side Short = refl
own_side ShortExempt = refl

no_cross : (a b c : Bool) → b ≡ false → ((a && b) && c) ≡ false
no_cross true b c h = ap (λ x. x && c) h
no_cross false b c h = refl

pub returns-clause-executions : goal.returns-clause-executions
returns-clause-executions g c =
    let a = c.args.effect.now in
    let inc : Incoming = incoming_of_replacement a in
    let orders = g.B.Book.orders c.plan_order.new.book in
    let fills = c.plan_order.new.fills.items in
    let left = c.in_ok-left.left in
    let is : c.incoming_by.result ≡ inc = c.incoming_by.ensures in
    let found : order_of a.old.key.0 orders ≡ Some a.old.order = ap (λ (xs : List Live). order_of a.old.key.0 xs) c.in_ok-left.ensures.orders ∙ c.requires.old in
    let all = unmet inc a.old.key.0 a.old.order orders c.in_ok-left.ensures.keys found (no_cross (a.old.order.locate == a.old.order.locate) (is_other_side a.old.order.side a.old.order.side) (if is_buy a.old.order.side then nat_le a.old.order.price inc.price else nat_le inc.price a.old.order.price) (own_side a.old.order.side)) in
    let fills_are : fills ≡ fills_of inc orders = c.in_ok-left.ensures.fills ∙ ap (λ (i : Incoming). fills_of i orders) is in
    let left_is : left ≡ (matched_live inc orders).left = c.in_ok-left.ensures.left ∙ ap (λ (i : Incoming). (matched_live i orders).left) is in
    subst (λ (fs : List Fill). AreFills inc (without a.old.key.0 orders) fs left) (sym fills_are)
    (subst (λ n. AreFills inc (without a.old.key.0 orders) (fills_of inc orders) n) (sym left_is) all)
