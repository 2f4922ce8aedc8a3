-- What is left of a closure that is sent to another thread.
use Rattle.std.proofs.Common.{Bool}
use denote.Exit.{if_kept, unseen}
use denote.Param.Send.{Quiet, Quiet-if}

-- what is moved leaves nothing in its thread
pub nothing_left : {D : Type 0} (retained : Bool) → Quiet (if_kept {D = D} retained unseen unseen)
nothing_left retained = Quiet-if retained unseen unseen (λ x w. tt) (λ x w. tt)
