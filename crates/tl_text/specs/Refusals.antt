-- The text of the answer for a file that is refused.
use Rattle.std.specs.Prelude.{ℕ, List, ◌++◌, codes}
use Rattle.std.specs.Fmt.{decimal}

-- the line of a refusal: the file's place among the words, the number of the rule, and the offset
abbrev pub refused_text : ℕ → ℕ → ℕ → List ℕ
refused_text file broken at =
    codes "; refused file " ++ (decimal file ++ (codes " rule " ++ (decimal broken ++ (codes " at " ++ (decimal at ++ codes "\n")))))
