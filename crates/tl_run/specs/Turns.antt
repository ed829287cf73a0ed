-- Files that are read in turn, each after those before it have passed.
use Rattle.std.specs.Prelude.{◌≡◌, ◌⊎◌, ℕ, ◌+◌, ◌≤◌, Bool, List, [], ◌∷◌, map, take, Option, Some, None}
use Rattle.tl_outside.specs.Calls.{Call, EndsByFault, begun_names, with_calls}
use Rattle.tl_outside.specs.Told.{Files, IsContent, Lacks}
use Rattle.tl_run.specs.declared.words.Role.{Role}
use Rattle.tl_run.specs.declared.stop.Broken.{Broken}
use Rattle.tl_run.specs.Commands.{Command, sample, files_of}
use Rattle.tl_run.specs.Inputs.{Input, nothing, StandsFor, IsBroken}
use Rattle.tl_run.specs.SampleTexts.{SampleStandsFor, BreaksSample}

-- all files pass, and together with what was read before they stand for this
abbrev pub StandTogether : Option Files → List (Role × List ℕ) → Input → Input → Type 0
StandTogether files [] before input = before ≡ input
StandTogether files (f ∷ fs) before input =
    (bytes : List ℕ) × (after : Input) × IsContent files f.1 bytes × StandsFor f.0 before bytes after × StandTogether files fs after input

-- some file is reached, and P holds of its number, its role, its name and what was read before it
abbrev pub Reaches : (ℕ → Role → List ℕ → Input → Type 0) → Option Files → List (Role × List ℕ) → ℕ → Input → Type 0
Reaches P files [] k before = ⊥
Reaches P files (f ∷ fs) k before =
    P k f.0 f.1 before ⊎ ((bytes : List ℕ) × (after : Input) × IsContent files f.1 bytes × StandsFor f.0 before bytes after ×
    Reaches P files fs (k + 1) after)

-- the files of a command all pass, and stand for this together; those of a sample are its two texts
abbrev pub HoldInput : Option Files → Command → Input → Type 0
HoldInput files (sample balls) input = SampleStandsFor balls input
HoldInput files c input = StandTogether files (files_of c) nothing input

-- some file of a command is reached, the first one with the number 1, and P holds of it
abbrev pub ReachesFile : (ℕ → Role → List ℕ → Input → Type 0) → Option Files → Command → Type 0
ReachesFile P files c = Reaches P files (files_of c) 1 nothing

-- the store tells its files, and lacks the one whose turn it is
abbrev pub LacksFile : Option Files → Command → Type 0
LacksFile files c = ReachesFile (λ k r name before. Lacks files name) files c

-- the file of this number, or the text of a sample, has its turn and breaks this rule
abbrev pub IsRefused : Option Files → Command → ℕ → Broken → Type 0
IsRefused files (sample balls) number b = BreaksSample balls number b
IsRefused files c number b =
    ReachesFile (λ k r name before. (k ≡ number) × ((bytes : List ℕ) × IsContent files name bytes × IsBroken r before bytes b)) files c

-- what a store tells of its calls, before a run and after it
pub record CallsTold : Type 0 where
  pub before : Option (List Call)
  pub after : Option (List Call)

abbrev pub calls_told : Option (List Call) → Option (List Call) → CallsTold
calls_told before after = record { before = before; after = after }

-- no file was begun, or at most as many as the number of a file that has its turn
abbrev pub BegunInTurn : Option Files → Command → ℕ → Type 0
BegunInTurn files c count = (count ≡ 0) ⊎ ReachesFile (λ k r name before. count ≤ k) files c

-- the names of the first so many files of a command
abbrev pub first_names : Command → ℕ → List (List ℕ)
first_names c count = map (λ (f : Role × List ℕ). f.1) (take count (files_of c))

-- where calls are told, those that came began the first so many files of the command, in their
-- order and no other; whether one failed, which is then the last
pub record BeginsFirst (c : Command) (told : CallsTold) (count : ℕ) (failed : Bool) : Type 0 where
  pub calls : List Call
  pub came : told.after ≡ with_calls told.before calls
  pub begun : begun_names calls ≡ first_names c count
  pub ends : EndsByFault calls failed

-- the files of a command are begun in their turn, by their names; whether a call failed, which is
-- then the last
abbrev pub BeginsInTurn : Option Files → Command → CallsTold → Bool → Type 0
BeginsInTurn files c told failed = (count : ℕ) × BegunInTurn files c count × BeginsFirst c told count failed
