-- Parts of a text in parentheses, with one space between them.
use Rattle.std.specs.Prelude.{ℕ, List, [], ◌∷◌, ◌++◌, flat_map, codes}

-- each part after a space
unfoldable pub after_spaces : List (List ℕ) → List ℕ
after_spaces parts = flat_map (λ part. codes " " ++ part) parts

-- the parts in parentheses, with one space between them
unfoldable pub in_parentheses : List (List ℕ) → List ℕ
in_parentheses [] = codes "()"
in_parentheses (part ∷ parts) = codes "(" ++ (part ++ (after_spaces parts ++ codes ")"))
