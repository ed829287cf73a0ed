-- Labels as runs of equal ones.
use Rattle.std.specs.Global.{Vec}
use Rattle.std.specs.Prelude.{◌≡◌, List, [], ◌∷◌, ◌++◌, Bool, replicate}
use Rattle.tl_check.specs.declared.run.Run.{Run}

-- the labels of the runs, one after the other
abbrev pub spread : List Run → List Bool
spread [] = []
spread (r ∷ rs) = replicate r.count r.truth ++ spread rs

-- these are the labels of the runs
abbrev pub HaveLabels : List Bool → Vec Run → Type 0
HaveLabels bs runs = spread runs.items ≡ bs

-- the labels come after those that the runs had
abbrev pub AddLabels : List Bool → Vec Run → Vec Run → Type 0
AddLabels bs old new = spread new.items ≡ spread old.items ++ bs
