-- Labels of positions, from those of a part.
use Rattle.std.specs.Prelude.{ℕ, zero, suc, List, [], ◌∷◌, Bool, true, false, ◌&&◌, ◌||◌}
use Rattle.tl_syntax.specs.declared.junction.Junction.{Junction}
use Rattle.tl_syntax.specs.declared.junction.Junction.TheVariants.{All, Any}

-- the first label, or the other one where there is none
abbrev pub first_or : Bool → List Bool → Bool
first_or d [] = d
first_or d (b ∷ bs) = b

-- the last label, or the other one where there is none
abbrev pub last_or : Bool → List Bool → Bool
last_or d [] = d
last_or d (b ∷ bs) = last_or b bs

-- each position has the label of the next one, and the last its own
abbrev pub next_labels : List Bool → List Bool
next_labels [] = []
next_labels (b ∷ bs) = first_or b bs ∷ next_labels bs

-- the label is true there and at all later positions
abbrev pub always_labels : List Bool → List Bool
always_labels [] = []
always_labels (b ∷ bs) = (b && first_or true (always_labels bs)) ∷ always_labels bs

-- the label is true there or at a later position
abbrev pub eventually_labels : List Bool → List Bool
eventually_labels [] = []
eventually_labels (b ∷ bs) = (b || first_or false (eventually_labels bs)) ∷ eventually_labels bs

-- the second label is true there or at a later position, and the first until then
abbrev pub until_labels : List Bool → List Bool → List Bool
until_labels [] cs = []
until_labels (b ∷ bs) [] = []
until_labels (b ∷ bs) (c ∷ cs) = (c || (b && first_or false (until_labels bs cs))) ∷ until_labels bs cs

-- one of the first n + 1 labels is true
abbrev pub one_within : ℕ → List Bool → Bool
one_within n [] = false
one_within zero (b ∷ bs) = b
one_within (suc n) (b ∷ bs) = b || one_within n bs

-- the label is true there or at most n positions later
abbrev pub within_labels : ℕ → List Bool → List Bool
within_labels n [] = []
within_labels n (b ∷ bs) = one_within n (b ∷ bs) ∷ within_labels n bs

-- the truth of the two together
abbrev pub joins : Junction → Bool → Bool → Bool
joins All a b = a && b
joins Any a b = a || b

-- the labels together, position by position
abbrev pub joined_labels : Junction → List Bool → List Bool → List Bool
joined_labels j [] cs = []
joined_labels j (b ∷ bs) [] = []
joined_labels j (b ∷ bs) (c ∷ cs) = joins j b c ∷ joined_labels j bs cs
