-- One metric in Prometheus' text-based exposition format, version 0.0.4 ("Text format details").
use Rattle.std.specs.Prelude.{ℕ, ◌+◌, ◌/◌, ◌%◌, Bool, true, false, List, [], ◌∷◌, ◌++◌, drop, Option, Some, None, codes}
use Rattle.std.specs.Fmt.{decimal}
use Rattle.hx_metrics.specs.declared.rows.Kind.{Kind}
use Rattle.hx_metrics.specs.declared.rows.Kind.TheVariants.{Counter, Gauge}

abbrev pub word : Kind → List ℕ
word Counter = codes "counter"
word Gauge = codes "gauge"

-- what a metric is: a line for people, and one for its kind
unfoldable pub title : (name : List ℕ) → Kind → (help : List ℕ) → List ℕ
title name kind help =
    codes "# HELP " ++ name ++ codes " " ++ help ++ codes "\n"
    ++ codes "# TYPE " ++ name ++ codes " " ++ word kind ++ codes "\n"

-- a metric with one sample; nothing if its value is not known
unfoldable pub row : (name : List ℕ) → Kind → (help : List ℕ) → Option (List ℕ) → List ℕ
row name kind help None = []
row name kind help (Some value) = title name kind help ++ name ++ codes " " ++ value ++ codes "\n"

-- one of several samples, with the label `code`
unfoldable pub sample : (name : List ℕ) → (code : ℕ) → (value : List ℕ) → List ℕ
sample name code value =
    name ++ codes "{code=\"" ++ code ∷ codes "\"} " ++ value ++ codes "\n"

abbrev pub nanos_of_a_second : ℕ
nanos_of_a_second = 1000000000

-- nanoseconds as seconds, with nine decimals
abbrev pub seconds : (nanos : ℕ) → List ℕ
seconds nanos =
    decimal (nanos / nanos_of_a_second) ++ codes "."
    ++ drop 1 (decimal (nanos_of_a_second + nanos % nanos_of_a_second))

-- whether something holds
abbrev pub flag : Bool → List ℕ
flag true = codes "1"
flag false = codes "0"
