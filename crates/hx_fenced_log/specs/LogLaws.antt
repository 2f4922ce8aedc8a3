-- The laws of the readers and writers of one log.
use Rattle.std.specs.Prelude.{ℕ, List}
use mathlib.Core.List.{IsPrefix}
use Rattle.hx_fenced_log.specs.declared.terms.reading.Reading.{Reading}
use Rattle.hx_fenced_log.specs.TermLaws.{OneBeginsOther}
use Rattle.hx_fenced_log.specs.Records.{Record}
use Rattle.hx_fenced_log.specs.Terms.{start, taken}
use Rattle.hx_fenced_log.specs.Calls.{HasReported}
use Rattle.hx_fenced_log.specs.Writers.{IsAt}

-- For whatever two processes reported of one log, one is a beginning of the other.
abbrev pub NoneIsReportedOtherwise : Type 0
NoneIsReportedOtherwise =
    (committed : List Record) (one other : List ℕ)
    → HasReported committed one
    → HasReported committed other
    → OneBeginsOther one other

-- Two have read the first records of one log. Of the lines that are taken of what the one and the
-- other has read, one list is a beginning of the other.
abbrev pub OneTakesFirst : Type 0
OneTakesFirst =
    (committed known1 known2 : List Record)
    → IsPrefix known1 committed
    → IsPrefix known2 committed
    → OneBeginsOther (taken start known1) (taken start known2)

-- what is read of a log is read of it however it grows
abbrev pub WhatIsReadStands : Type 0
WhatIsReadStands =
    (earlier later known : List Record) (at : Reading)
    → IsPrefix earlier later
    → IsAt earlier known at
    → IsAt later known at
