-- The offsets of forms in reading order.
use Rattle.std.specs.Prelude.{ℕ, ◌+◌, ◌<◌, ◌≤◌, List, length}
use Rattle.tl_sexpr.specs.Spelling.{Spells}
use Rattle.tl_sexpr.specs.Tree.{FormTree, FormTrees, symbol, integer, list, no_form, more_forms}

-- the offsets rise from each form to the next in reading order, from at least the first number on,
-- and the last is below the second
abbrev mutual
  pub RisesFrom : ℕ → FormTree → ℕ → Type 0
  RisesFrom least (symbol text at) next = (least ≤ at) × (at < next)
  RisesFrom least (integer z at) next = (least ≤ at) × (at < next)
  RisesFrom least (list fs at) next = (least ≤ at) × RiseFrom (at + 1) fs next

  pub RiseFrom : ℕ → FormTrees → ℕ → Type 0
  RiseFrom least no_form next = least ≤ next
  RiseFrom least (more_forms f fs) next = (middle : ℕ) × RisesFrom least f middle × RiseFrom middle fs next

-- the forms are as they are read from a file of at most 4194304 bytes: their offsets rise, and are
-- below that number
abbrev pub AreAsRead : FormTrees → Type 0
AreAsRead fs = RiseFrom 0 fs 4194304

-- the forms that bytes spell have offsets that rise, and are below each number that is at least
-- that of the bytes
abbrev pub OffsetsRise : Type 0
OffsetsRise = (bytes : List ℕ) (fs : FormTrees) (size : ℕ) → length bytes ≤ size → Spells bytes fs → RiseFrom 0 fs size
