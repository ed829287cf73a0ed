-- What the names and the values in the problem of lawful files are.
use Rattle.std.specs.Prelude.{ℕ, List, map, Bool, true, false, not, slice_get}
use Rattle.std.specs.Option.{option_map_or}
use Rattle.tl_sexpr.specs.Symbols.{IsSymbolText, HaveSymbolTexts}
use Rattle.tl_sexpr.specs.Tree.{FormTrees}
use Rattle.tl_syntax.specs.declared.problem.Problem.{Problem}
use Rattle.tl_syntax.specs.declared.value.Value.{Value}
use Rattle.tl_syntax.specs.declared.value.Value.TheVariants.{Int, Sym}
use Rattle.tl_syntax.specs.Lists.{Each}
use Rattle.tl_syntax.specs.Settled.{Differ}
use Rattle.tl_syntax.specs.ValueTests.{ProblemPasses}
use Rattle.tl_rules.specs.Parts.{is_variable}
use Rattle.tl_domain.specs.Files.{AreFilesOf}

-- an integer, or the number of a name that is no variable
abbrev pub is_constant : List (List ℕ) → Value → Bool
is_constant names (Int z) = true
is_constant names (Sym n) = option_map_or (λ text. not (is_variable text)) (slice_get names n) false

-- each name is the text of a symbol, no value that is written down is a variable, and operators
-- have different names
pub record HasWritableNames (p : Problem) : Type 0 where
  pub names : Each IsSymbolText p.names
  pub values : ProblemPasses (is_constant p.names) p
  pub operators : Differ (map (λ o. o.name) p.domain.operators)

-- so it is with a problem that the forms of two files stand for, where their symbols have texts of
-- symbols
abbrev pub LawfulNamesAreWritable : Type 0
LawfulNamesAreWritable =
    (first second : FormTrees) (p : Problem)
    → HaveSymbolTexts first → HaveSymbolTexts second → AreFilesOf first second p → HasWritableNames p
