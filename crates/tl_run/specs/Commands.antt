-- The commands, their files, and the words that write them.
use Rattle.std.specs.Prelude.{◌≡◌, ℕ, ◌≤◌, List, [], ◌∷◌, Option, Some, None, option_and_then, if◌then◌else◌, codes, ⊤}
use Rattle.std.specs.Option.{option_map}
use Rattle.std.specs.Str.{bytes_eq}
use Rattle.tl_run.specs.declared.search.Search.{Search}
use Rattle.tl_run.specs.declared.words.Role.{Role}
use Rattle.tl_run.specs.declared.words.Role.TheVariants as role
use Rattle.tl_run.specs.declared.search.Mode.TheVariants.{Breadth}
use Rattle.tl_run.specs.Searches.{breadth_in, number_between, search_in, IsWithinLimits}

-- a command, with the names of its files: with a search in a mode, with the number of a sample's
-- balls, or with the most search nodes that a search for a cheapest plan keeps; the plan of
-- `check-loop` has a repeated part
pub data Command : Type 0 where
  check : List ℕ → List ℕ → List ℕ → Command
  search : Search → List ℕ → List ℕ → Command
  trace : Search → List ℕ → List ℕ → Command
  explain : List ℕ → List ℕ → List ℕ → Command
  prove_none : Search → List ℕ → List ℕ → Command
  check_none : List ℕ → List ℕ → List ℕ → Command
  sample : ℕ → Command
  cheapest : ℕ → List ℕ → List ℕ → List ℕ → Command
  check_loop : List ℕ → List ℕ → List ℕ → Command

-- a domain file and a problem file, with the names by which they are begun; and a file of this role
-- after them
abbrev pub two_files : List ℕ → List ℕ → List (Role × List ℕ)
two_files domain problem = (role.Domain, domain) ∷ ((role.Problem, problem) ∷ [])

abbrev pub three_files : List ℕ → List ℕ → Role → List ℕ → List (Role × List ℕ)
three_files domain problem r third = (role.Domain, domain) ∷ ((role.Problem, problem) ∷ ((r, third) ∷ []))

-- the files of a command, in the order in which they are read, each with what it is read as; a
-- sample has none
abbrev pub files_of : Command → List (Role × List ℕ)
files_of (check domain problem plan) = three_files domain problem role.Plan plan
files_of (search s domain problem) = two_files domain problem
files_of (trace s domain problem) = two_files domain problem
files_of (explain domain problem plan) = three_files domain problem role.Plan plan
files_of (prove_none s domain problem) = two_files domain problem
files_of (check_none domain problem proof) = three_files domain problem role.Proof proof
files_of (sample balls) = []
files_of (cheapest nodes domain problem costs) = three_files domain problem role.Costs costs
files_of (check_loop domain problem plan) = three_files domain problem role.Loop plan

-- the command on a sample that a word names
abbrev pub sample_command : List ℕ → List ℕ → Option Command
sample_command word balls = if bytes_eq word (codes "sample") then option_map sample (number_between 1 100 balls) else None

-- the command on a plan, or on a proof, that a word names
abbrev pub plan_command : List ℕ → List ℕ → List ℕ → List ℕ → Option Command
plan_command word domain problem plan =
    if bytes_eq word (codes "check") then Some (check domain problem plan)
    else (if bytes_eq word (codes "explain") then Some (explain domain problem plan)
    else (if bytes_eq word (codes "check-none") then Some (check_none domain problem plan)
    else (if bytes_eq word (codes "check-loop") then Some (check_loop domain problem plan) else None)))

-- the command with a search that a word names
abbrev pub search_command : List ℕ → List ℕ → List ℕ → Search → Option Command
search_command word domain problem s =
    if bytes_eq word (codes "plan") then Some (search s domain problem)
    else (if bytes_eq word (codes "trace") then Some (trace s domain problem) else None)

-- the command with a search breadth-first that a word names
abbrev pub none_command : List ℕ → List ℕ → List ℕ → Search → Option Command
none_command word domain problem s = if bytes_eq word (codes "prove-none") then Some (prove_none s domain problem) else None

-- the command on a costs file
abbrev pub cheapest_command : List ℕ → List ℕ → List ℕ → List ℕ → Option Command
cheapest_command nodes domain problem costs = option_map (λ (b : ℕ). cheapest b domain problem costs) (number_between 1 100000 nodes)

-- the command of five words: on a costs file, or with a search breadth-first
abbrev pub five_words_command : List ℕ → List ℕ → List ℕ → List ℕ → List ℕ → Option Command
five_words_command word first second third fourth =
    if bytes_eq word (codes "cheapest") then cheapest_command first second third fourth
    else option_and_then (none_command word third fourth) (breadth_in first second)

-- the command that the words after the program's name write
abbrev pub command_in : List (List ℕ) → Option Command
command_in (word ∷ (balls ∷ [])) = sample_command word balls
command_in (word ∷ (domain ∷ (problem ∷ (plan ∷ [])))) = plan_command word domain problem plan
command_in (word ∷ (first ∷ (second ∷ (third ∷ (fourth ∷ []))))) = five_words_command word first second third fourth
command_in (word ∷ (mode ∷ (within ∷ (nodes ∷ (domain ∷ (problem ∷ [])))))) =
    option_and_then (search_command word domain problem) (search_in mode within nodes)
command_in words = None

-- P holds of the command that these words write, if they write one
abbrev pub ForCommand : List (List ℕ) → (Command → Type 0) → Type 0
ForCommand words P = (c : Command) → command_in words ≡ Some c → P c

-- the numbers of a command are within their limits
abbrev pub KeepsLimits : Command → Type 0
KeepsLimits (check domain problem plan) = ⊤
KeepsLimits (search s domain problem) = IsWithinLimits s
KeepsLimits (trace s domain problem) = IsWithinLimits s
KeepsLimits (explain domain problem plan) = ⊤
KeepsLimits (prove_none s domain problem) = (s.mode ≡ Breadth) × IsWithinLimits s
KeepsLimits (check_none domain problem proof) = ⊤
KeepsLimits (sample balls) = (1 ≤ balls) × (balls ≤ 100)
KeepsLimits (cheapest nodes domain problem costs) = (1 ≤ nodes) × (nodes ≤ 100000)
KeepsLimits (check_loop domain problem plan) = ⊤
