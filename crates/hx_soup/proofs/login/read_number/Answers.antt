use Rattle.hx_soup.proofs.Numbers.{number_found, number_only}
use Rattle.hx_soup.proofs.login.read_number.Goals as goal

pub returns-clause-found : goal.returns-clause-found
returns-clause-found c = number_found c.args.text.now c.read_digits.result (rw c.trimmed.ensures at c.read_digits.ensures)

pub returns-clause-only : goal.returns-clause-only
returns-clause-only c = λ n. number_only c.args.text.now c.read_digits.result n (rw c.trimmed.ensures at c.read_digits.ensures)
