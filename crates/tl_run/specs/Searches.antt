-- Searches that are written as words.
use Rattle.std.specs.Prelude.{ℕ, ◌≤◌, List, [], ◌∷◌, Option, Some, None, if◌then◌else◌, nat_le, ◌&&◌, codes}
use Rattle.std.specs.Str.{bytes_eq, all_ascii_digits}
use Rattle.std.specs.Str.Parse.{digits_value}
use Rattle.tl_run.specs.declared.search.Mode.{Mode}
use Rattle.tl_run.specs.declared.search.Mode.TheVariants.{Breadth, Depth}
use Rattle.tl_run.specs.declared.search.Search.{Search}

-- the number that a word writes in decimal digits, which zeros may precede, where it is from the
-- first to the second one
abbrev pub number_between : ℕ → ℕ → List ℕ → Option ℕ
number_between least most [] = None
number_between least most (c ∷ cs) =
    if all_ascii_digits (c ∷ cs) && (nat_le least (digits_value 10 (c ∷ cs)) && nat_le (digits_value 10 (c ∷ cs)) most) then Some
    (digits_value 10 (c ∷ cs)) else None

-- the mode that a word names
abbrev pub mode_in : List ℕ → Option Mode
mode_in word = if bytes_eq word (codes "breadth") then Some Breadth else (if bytes_eq word (codes "depth") then Some Depth else None)

-- a search in this mode, for plans of at most so many actions, that keeps at most so many search
-- nodes
abbrev pub search_with : Option Mode → Option ℕ → Option ℕ → Option Search
search_with (Some mode) (Some within) (Some nodes) = Some (record { mode = mode; within = within; nodes = nodes })
search_with mode within nodes = None

-- the search that three words write: its mode, the most actions of a plan, and the most search
-- nodes
abbrev pub search_in : List ℕ → List ℕ → List ℕ → Option Search
search_in mode within nodes = search_with (mode_in mode) (number_between 0 100000 within) (number_between 1 100000 nodes)

-- the search breadth-first that two words write: the most actions of a plan, and the most search
-- nodes
abbrev pub breadth_in : List ℕ → List ℕ → Option Search
breadth_in within nodes = search_with (Some Breadth) (number_between 0 100000 within) (number_between 1 100000 nodes)

-- the numbers of a search are within their limits
pub record IsWithinLimits (s : Search) : Type 0 where
  pub within : s.within ≤ 100000
  pub some : 1 ≤ s.nodes
  pub nodes : s.nodes ≤ 100000
