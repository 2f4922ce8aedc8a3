-- What a day is opened with besides its acceptors.
use Rattle.std.specs.Prelude.{ℕ, ◌≡◌, ◌-◌, ◌^◌, None}
use Rattle.hx_serve.specs.declared.day_services.DayServices.{DayServices}

-- unlimited, for waiting events or for seconds after a day's end: the greatest number of 64 bits
abbrev pub endless : ℕ
endless = 2 ^ 64 - 1

-- only standard input directs the day, no time passes without it, sessions have unlimited time after its end, and no
-- metrics are shown
abbrev pub AreNone : DayServices → Type 0
AreNone day_services =
    (day_services.duties.socket ≡ None) × (day_services.duties.schedule ≡ None)
    × (day_services.duties.tick ≡ 0) × (day_services.duties.grace ≡ endless)
    × (day_services.metrics ≡ None)
