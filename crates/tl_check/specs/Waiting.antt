-- Labels that wait for what comes after them.
use Rattle.std.specs.Prelude.{◌≡◌, ℕ, List, ◌++◌, Bool, true, false, replicate}
use Rattle.tl_check.specs.Passes.{within_labels, until_labels}
use Rattle.tl_check.specs.Runs.{spread}
use Rattle.tl_check.specs.declared.run.Run.{Run}
use Rattle.tl_check.specs.declared.run.Cut.{Cut}

-- the labels of now or within n steps, where so many false ones wait before these
abbrev pub within_after : ℕ → ℕ → List Bool → List Bool
within_after n waiting bs = within_labels n (replicate waiting false ++ bs)

-- the labels of until, where at so many positions before these the first label alone is true
abbrev pub until_after : ℕ → List Bool → List Bool → List Bool
until_after waiting bs cs = until_labels (replicate waiting true ++ bs) (replicate waiting false ++ cs)

-- whatever labels come after the run, the labels of now or within n steps are those made so far and
-- those of what waits
abbrev pub WaitsWithin : ℕ → ℕ → Run → List Run → List Run → ℕ → Type 0
WaitsWithin n before r old new after =
    (bs : List Bool) → spread new ++ within_after n after bs ≡ spread old ++ within_after n before (replicate r.count r.truth ++ bs)

-- whatever labels come after the cut, the labels of until are those made so far and those of what
-- waits
abbrev pub WaitsUntil : ℕ → Cut → List Run → List Run → ℕ → Type 0
WaitsUntil before c old new after =
    (bs cs : List Bool) → spread new ++ until_after after bs cs ≡ spread old ++
    until_after before (replicate c.count c.left ++ bs) (replicate c.count c.right ++ cs)
