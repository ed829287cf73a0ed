-- A list cut into rows of one length, and edits of the list.
use Rattle.std.specs.Prelude.{◌≡◌, ◌+◌, ℕ, zero, suc, List, [], ◌∷◌, ◌++◌, length, take, drop}
use Rattle.tl_syntax.specs.Lists.{Each}

-- the items cut into n rows of one length
abbrev pub even_rows : {X : Type 0} → ℕ → ℕ → List X → List (List X)
even_rows w zero xs = []
even_rows w (suc n) xs = take w xs ∷ even_rows w n (drop w xs)

-- each row has so many items
abbrev pub HaveWidth : {X : Type 0} → ℕ → List (List X) → Type 0
HaveWidth w rows = Each (λ r. length r ≡ w) rows

-- the rows of both lists have one length
abbrev pub HaveOneWidth : {X : Type 0} → List (List X) → List (List X) → Type 0
HaveOneWidth rows others = (w : ℕ) × HaveWidth w rows × HaveWidth w others

-- the items with others before those from a place on
abbrev pub items_with : {X : Type 0} → List X → ℕ → List X → List X
items_with xs at ys = take at xs ++ (ys ++ drop at xs)

-- the items without as many as are given from a place on
abbrev pub items_without : {X : Type 0} → List X → ℕ → ℕ → List X
items_without xs at n = take at xs ++ drop (at + n) xs
