-- The texts of symbols.
use Rattle.std.specs.Prelude.{◌≡◌, ℕ, ◌<◌, List, length, false, IsTrue, slice_index}
use Rattle.tl_sexpr.specs.Bytes.{is_token_byte}
use Rattle.tl_sexpr.specs.Spelling.{Spells, spells_integer}
use Rattle.tl_sexpr.specs.Tree.{FormTree, FormTrees, symbol, integer, list, no_form, more_forms}

-- the text of a symbol: one or more bytes of tokens, and no integer
pub record IsSymbolText (text : List ℕ) : Type 0 where
  pub some : 0 < length text
  pub each : (k : ℕ) → k < length text → IsTrue (is_token_byte (slice_index text k))
  pub no_integer : spells_integer text ≡ false

-- each symbol of a form, and of forms, has such a text
abbrev mutual
  pub HasSymbolTexts : FormTree → Type 0
  HasSymbolTexts (symbol text at) = IsSymbolText text
  HasSymbolTexts (integer z at) = Unit {0}
  HasSymbolTexts (list fs at) = HaveSymbolTexts fs

  pub HaveSymbolTexts : FormTrees → Type 0
  HaveSymbolTexts no_form = Unit {0}
  HaveSymbolTexts (more_forms f fs) = HasSymbolTexts f × HaveSymbolTexts fs

-- so has each symbol of the forms that bytes spell
abbrev pub SymbolsAreTokens : Type 0
SymbolsAreTokens = (bytes : List ℕ) (fs : FormTrees) → Spells bytes fs → HaveSymbolTexts fs
