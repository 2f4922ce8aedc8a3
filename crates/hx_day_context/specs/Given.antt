-- What a server was given.
use Rattle.std.specs.Prelude.{ℕ, ◌≡◌, [], ◌∷◌, map}
use Rattle.std.specs.Net.Socket.{socket_port}
use Rattle.hx_listener.specs.declared.addresses.Addresses.{Addresses}
use Rattle.hx_day_context.specs.declared.args.ServeArgs.{ServeArgs}

-- how many requests of a source are answered a second unless it is said
abbrev pub usual_answers : ℕ
usual_answers = 1000

-- for how much of the time, in percent, the market may pass over orders for one session unless it is said
abbrev pub usual_share : ℕ
usual_share = 10

-- the arguments are these numbers
abbrev pub AreThese :
    (port feed requests sessions capacity turns answers share : ℕ) → ServeArgs → Type 0
AreThese port feed requests sessions capacity turns answers share args =
    (args.port ≡ port) × (args.feed ≡ feed) × (args.requests ≡ requests)
    × (args.sessions ≡ sessions) × (args.capacity ≡ capacity) × (args.turns ≡ turns)
    × (args.answers ≡ answers) × (args.share ≡ share)

-- members connect at the first port, the feed goes to the second, and requests come in on the third
abbrev pub AreAtPorts : (port feed requests : ℕ) → Addresses → Type 0
AreAtPorts port feed requests a =
    (socket_port a.listen ≡ port) × (map socket_port a.feeds.items ≡ feed ∷ [])
    × (socket_port a.requests ≡ requests)
