-- Labels that count at some positions alone.
use Rattle.std.specs.Prelude.{◌≡◌, ◌+◌, ◌-◌, ℕ, List, [], ◌∷◌, ◌++◌, length, replicate, Bool, cond, not}
use Rattle.tl_check.specs.Cuts.{lefts, rights}
use Rattle.tl_check.specs.Passes.{joined_labels}
use Rattle.tl_check.specs.Runs.{spread}
use Rattle.tl_check.specs.declared.run.Cut.{Cut}
use Rattle.tl_check.specs.declared.run.Run.{Run}
use Rattle.tl_syntax.specs.declared.junction.Junction.{Junction}
use Rattle.tl_syntax.specs.Junctions.{deciding_truth}

-- the labels from a position on, among so many, with one label elsewhere
abbrev pub placed_labels : List Bool → ℕ → ℕ → Bool → List Bool
placed_labels bs at count elsewhere = (replicate at elsewhere ++ bs) ++ replicate (count - (at + length bs)) elsewhere

-- the second labels where the first ones are true, and one label elsewhere
abbrev pub chosen_labels : Bool → List Bool → List Bool → List Bool
chosen_labels elsewhere [] cs = []
chosen_labels elsewhere (b ∷ bs) [] = []
chosen_labels elsewhere (b ∷ bs) (c ∷ cs) = cond b c elsewhere ∷ chosen_labels elsewhere bs cs

-- so it is of the two labels of cuts
abbrev pub chosen_cuts : Bool → List Cut → List Bool
chosen_cuts elsewhere cs = chosen_labels elsewhere (lefts cs) (rights cs)

-- the labels from a position on, where the first ones are true, and one label elsewhere
abbrev pub picked_labels : List Bool → List Bool → ℕ → Bool → List Bool
picked_labels there bs at elsewhere = chosen_labels elsewhere there (placed_labels bs at (length there) elsewhere)

-- so it is of the labels of runs
abbrev pub picked_runs : List Run → List Run → ℕ → Bool → List Bool
picked_runs there rs at elsewhere = picked_labels (spread there) (spread rs) at elsewhere

-- the labels are joined with those of the other list, which are for the positions from one on, and
-- decide nothing elsewhere
abbrev pub JoinsAt : Junction → List Bool → ℕ → List Bool → List Bool → Type 0
JoinsAt j other at old new = new ≡ joined_labels j old (placed_labels other at (length old) (not (deciding_truth j)))
