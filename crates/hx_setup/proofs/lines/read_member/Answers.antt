use Rattle.std.proofs.Common.{length, ◌∙◌, sym, ap}
use Rattle.std.specs.List.{list_all}
use Rattle.hx_setup.specs.Setups.{is_capital_or_digit}
use Rattle.hx_setup.proofs.Spelling.{member_parts, member_whole, fields_of, fields_same, member_spelled}
use Rattle.hx_setup.proofs.lines.read_member.Goals as goal

pub returns-in_err-fields-clause-none : goal.returns-in_err-fields-clause-none
returns-in_err-fields-clause-none c = rw c.from_residual.ensures (λ m has e. c.in_err-fields.ensures.none _ _ _ _ _ (fields_of c.args.line.now m has e))

pub returns-in_err-member_number-clause-none : goal.returns-in_err-member_number-clause-none
returns-in_err-member_number-clause-none c = rw c.from_residual-in_err-member_number.ensures (λ m has e.
    let same = fields_same c.args.line.now _ _ _ _ _ _ _ _ _ _ c.in_ok-fields.ensures.some (fields_of c.args.line.now m has e) in
    c.in_err-member_number.ensures.none m.number has.number same.number)

pub returns-in_err-firm-clause-none : goal.returns-in_err-firm-clause-none
returns-in_err-firm-clause-none c = rw c.from_residual-in_err-firm.ensures (λ m has e.
    let same = fields_same c.args.line.now _ _ _ _ _ _ _ _ _ _ c.in_ok-fields.ensures.some (fields_of c.args.line.now m has e) in
    c.in_err-firm.ensures.none (ap length same.firm ∙ has.firm_size) (ap (list_all is_capital_or_digit) same.firm ∙ (member_parts m has).firm))

pub returns-in_err-login_name-clause-none : goal.returns-in_err-login_name-clause-none
returns-in_err-login_name-clause-none c = rw c.from_residual-in_err-login_name.ensures (λ m has e.
    let same = fields_same c.args.line.now _ _ _ _ _ _ _ _ _ _ c.in_ok-fields.ensures.some (fields_of c.args.line.now m has e) in
    c.in_err-login_name.ensures.none m.user has.user_size (member_parts m has).user same.user)

pub returns-in_err-login_name-2-clause-none : goal.returns-in_err-login_name-2-clause-none
returns-in_err-login_name-2-clause-none c = rw c.from_residual-in_err-login_name-2.ensures (λ m has e.
    let same = fields_same c.args.line.now _ _ _ _ _ _ _ _ _ _ c.in_ok-fields.ensures.some (fields_of c.args.line.now m has e) in
    c.in_err-login_name-2.ensures.none m.password has.password_size (member_parts m has).password same.password)

pub returns-in_err-limit-clause-none : goal.returns-in_err-limit-clause-none
returns-in_err-limit-clause-none c = rw c.from_residual-in_err-limit.ensures (λ m has e.
    let same = fields_same c.args.line.now _ _ _ _ _ _ _ _ _ _ c.in_ok-fields.ensures.some (fields_of c.args.line.now m has e) in
    c.in_err-limit.ensures.none m.limit (member_parts m has).limit has.limit same.limit)

pub returns-clause-some : goal.returns-clause-some
returns-clause-some c = (
  record {
    number = c.in_ok-member_number.ensures.some.0;
    firm_size = c.in_ok-firm.ensures.some.0;
    user_size = c.in_ok-login_name.ensures.some.0;
    password_size = c.in_ok-login_name-2.ensures.some.0;
    names = member_whole (record {
      number = c.in_ok-member_number.field-0;
      firm = record { 0 = c.in_ok-firm.field-0 };
      user = c.in_ok-login_name.field-0;
      password = c.in_ok-login_name-2.field-0;
      limit = c.in_ok-limit.field-0;
    }) (record {
      firm = c.in_ok-firm.ensures.some.1;
      user = c.in_ok-login_name.ensures.some.1;
      password = c.in_ok-login_name-2.ensures.some.1;
      limit = c.in_ok-limit.ensures.some.0;
    });
    limit = c.in_ok-limit.ensures.some.1;
  },
  member_spelled c.args.line.now _ _ _ _ _ _ _ _ _ _ c.in_ok-fields.ensures.some c.in_ok-member_number.ensures.some.1 (sym c.in_ok-firm.ensures.some.2)
      c.in_ok-login_name.ensures.some.2 c.in_ok-login_name-2.ensures.some.2 c.in_ok-limit.ensures.some.2,
)
