use Rattle.std.proofs.Common.{Some, ap}
use Rattle.std.proofs.lemmas.Option.{same_Some}
use Rattle.hx_soup.proofs.Fields.{fields-found, fields-only, login_number}
use Rattle.hx_soup.proofs.login.decode_login.Goals as goal

pub returns-in_err-sequence-clause-only : goal.returns-in_err-sequence-clause-only
returns-in_err-sequence-clause-only c = λ login is. absurd (let none = c.in_err-sequence.was in let some = c.read_number.ensures.only login.sequence (login_number c.args.payload.now login is) in cc)

pub returns-clause-found : goal.returns-clause-found
returns-clause-found c = rw (c.array_at.ensures, c.array_at-2.ensures, c.array_at-3.ensures) (fields-found c.args.payload.now c.in_ok-sequence.sequence c.if-payload-ne46.false c.in_ok-sequence.ensures.found)

pub returns-clause-only : goal.returns-clause-only
returns-clause-only c = λ login is. rw (c.array_at.ensures, c.array_at-2.ensures, c.array_at-3.ensures) (ap Some
    (fields-only c.args.payload.now login c.in_ok-sequence.sequence is (same_Some _ _ (c.in_ok-sequence.ensures.only login.sequence (login_number c.args.payload.now login is)))))
