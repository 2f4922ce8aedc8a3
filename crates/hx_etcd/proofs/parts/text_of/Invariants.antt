use Rattle.std.proofs.Common.{◌≡◌, [], take, map}
use Rattle.hx_etcd.specs.Parts.{token_of}
use Rattle.hx_etcd.proofs.parts.text_of.Given as goal

abbrev pub invariant-loop-part : goal.invariant-loop-part
invariant-loop-part l =
    (l.writer.before ≡ []) × (l.writer.tokens ≡ map token_of (take l.part-index l.parts))
