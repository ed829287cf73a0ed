-- What is left of some runs.
use Rattle.std.specs.Prelude.{ℕ, List, [], ◌++◌, Bool, false, Option, Some, None, replicate}
use Rattle.tl_check.specs.Runs.{spread}
use Rattle.tl_check.specs.declared.rest.Rest.{Rest}
use Rattle.tl_check.specs.declared.run.Run.{Run}

-- the labels of a run, if there is one, and then those of others
abbrev pub labels_from : Option Run → List Run → List Bool
labels_from None rs = []
labels_from (Some r) rs = replicate r.count r.truth ++ spread rs

-- the labels that are left
abbrev pub rest_labels : Rest → List Bool
rest_labels rest = labels_from rest.first rest.later.now

-- how many positions a run has, if there is one
abbrev pub count_of : Option Run → ℕ
count_of None = 0
count_of (Some r) = r.count

-- how many positions are left of the first run
abbrev pub first_count : Rest → ℕ
first_count rest = count_of rest.first

-- the label of a run, if there is one
abbrev pub truth_of : Option Run → Bool
truth_of None = false
truth_of (Some r) = r.truth

-- the label of the first run that is left
abbrev pub first_truth : Rest → Bool
first_truth rest = truth_of rest.first
