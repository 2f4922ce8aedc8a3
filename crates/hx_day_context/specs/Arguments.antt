-- The numbers of a server's command line.
use Rattle.std.specs.Prelude.{ℕ, ◌≤◌, ◌≢◌}

abbrev pub most_sessions : ℕ
most_sessions = 63

-- the most sessions that are logged in at a time in an open day
abbrev pub most_indices : ℕ
most_indices = 1000

-- the most messages that the log of the feed has room for
abbrev pub most_messages : ℕ
most_messages = 1000000

-- the most reads of a session, turns of its output, and reads of the operator's input
abbrev pub most_turns : ℕ
most_turns = 1000000000

-- the most requests of one source that are answered a second
abbrev pub most_answers : ℕ
most_answers = 1000000

-- the whole of the time, in percent
abbrev pub whole_share : ℕ
whole_share = 100

-- from 1 to this
abbrev pub IsWithin : (most number : ℕ) → Type 0
IsWithin most number = (1 ≤ number) × (number ≤ most)

-- three ports, and the limits, with at most `most` sessions: the feed does not go to the port of requests
abbrev pub AreWithin : (most port feed requests sessions capacity turns : ℕ) → Type 0
AreWithin most port feed requests sessions capacity turns =
    (1 ≤ port) × (1 ≤ feed) × (1 ≤ requests) × (feed ≢ requests)
    × IsWithin most sessions × IsWithin most_messages capacity × IsWithin most_turns turns

-- the same, of a day that is not open
abbrev pub AreInRange : (port feed requests sessions capacity turns : ℕ) → Type 0
AreInRange port feed requests sessions capacity turns =
    AreWithin most_sessions port feed requests sessions capacity turns
