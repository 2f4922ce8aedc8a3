-- Drop copies: logins that get the replies to another member, and may send nothing.
use Rattle.std.specs.Prelude.{ℕ, ◌==◌, if◌then◌else◌, List, [], ◌∷◌, Option, Some, None, Bool, true, false}
use Rattle.hx_sessions.specs.declared.copies.DropCopy.{DropCopy}

-- the member whose replies a login is a copy of, if it is one: the first that is listed counts
abbrev pub copied_by : List DropCopy → (login : ℕ) → Option ℕ
copied_by [] login = None
copied_by (c ∷ cs) login = if c.login == login then Some c.member else copied_by cs login

-- the member, or else the other one
abbrev pub member_or : Option ℕ → (other : ℕ) → ℕ
member_or None other = other
member_or (Some member) other = member

-- the member whose replies a login gets: the one that it is a copy of, or else its own
abbrev pub read_by : List DropCopy → (login : ℕ) → ℕ
read_by copies login = member_or (copied_by copies login) login

-- no copy
abbrev pub is_own : Option ℕ → Bool
is_own None = true
is_own (Some member) = false

-- whether a login may send messages: a copy may not
abbrev pub may_send : List DropCopy → (login : ℕ) → Bool
may_send copies login = is_own (copied_by copies login)
