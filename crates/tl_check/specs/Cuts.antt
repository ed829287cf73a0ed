-- Two lists of labels, cut at each other's ends of runs.
use Rattle.std.specs.Prelude.{◌≡◌, ◌≤◌, List, [], ◌∷◌, ◌++◌, Bool, replicate}
use Rattle.tl_check.specs.Rests.{first_count, first_truth}
use Rattle.tl_check.specs.declared.rest.Rest.{Rest}
use Rattle.tl_check.specs.declared.run.Cut.{Cut}

-- the labels of the first list
abbrev pub lefts : List Cut → List Bool
lefts [] = []
lefts (c ∷ cs) = replicate c.count c.left ++ lefts cs

-- the labels of the second list
abbrev pub rights : List Cut → List Bool
rights [] = []
rights (c ∷ cs) = replicate c.count c.right ++ rights cs

-- the cut has the label of the first run that is left of the first list, and ends with it at the
-- latest
abbrev pub CutsLeft : Rest → Cut → Type 0
CutsLeft rest cut = (cut.left ≡ first_truth rest) × (cut.count ≤ first_count rest)

-- the same of the second list
abbrev pub CutsRight : Rest → Cut → Type 0
CutsRight rest cut = (cut.right ≡ first_truth rest) × (cut.count ≤ first_count rest)
