-- A text that is given up where it has more bytes than a label may have.
use Rattle.std.specs.Prelude.{ℕ, ◌-◌, suc, List, ◌++◌, length, nat_le, Option, Some, None, if◌then◌else◌}

-- the text so far and how many bytes more it may have; or nothing, where it had too many
abbrev pub Written : Type 0
Written = Option (List ℕ × ℕ)

-- with more at the end
unfoldable pub after : Written → List ℕ → Written
after None more = None
after (Some w) more = if nat_le (length more) w.1 then Some (w.0 ++ more, w.1 - length more) else None

-- a measure of the room: one more than the bytes that may still come, and none where the text had
-- too many
abbrev pub room : Written → ℕ
room None = 0
room (Some w) = suc w.1
