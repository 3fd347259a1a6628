-- The room that the writers ask for, in bytes. No promise cites it.
use Rattle.std.specs.Prelude.{ℕ, ◌+◌, ◌*◌}

-- for a refusal's line: a word of seven letters, two spaces, two numbers of at most twenty digits and a newline
abbrev pub refusal_room : ℕ
refusal_room = 50

-- for a route of n roads: five lines of at most nine letters, a space, twenty digits and a newline; n lines of at most five
-- digits and a newline; and twenty bytes, since a number is put only where twenty digits fit
abbrev pub route_room : ℕ → ℕ
route_room n = 5 * 31 + 6 * n + 20

-- for the charges of n junctions: n lines of at most a minus sign, ten digits and a newline; and twenty bytes likewise
abbrev pub charges_room : ℕ → ℕ
charges_room n = 12 * n + 20
