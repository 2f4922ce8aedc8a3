use Rattle.std.proofs.Common.{rules, ◌≡◌, Some, ◌∙◌}
use Rattle.hx_reader.specs.Readings.{ready}
use Rattle.hx_reader.specs.Screens.{readable}
use Rattle.hx_reader.proofs.Steps.{delivered}
use Rattle.hx_reader.proofs.screen.Screen.step.Goals as goal

pub returns-in-Err : goal.returns-in-Err
returns-in-Err c =
    let next : readable (ready c.args.self.now.reader) ≡ Some c.in-Some-decode.message = search rules in
    delivered c.args.self.now _ c.in-Some-decode.message c.in-Err.error
    (record {
      next = next;
      cause = c.in-Err.ensures.cause;
      memory = c.in-Err.ensures.memory;
      retained = c.pass.ensures.retained;
      gone = c.pass.ensures.gone;
      book = c.pass.ensures.book ∙ c.in-Err.ensures.err;
    })
