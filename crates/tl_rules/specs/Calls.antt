-- Lists that begin with a symbol.
use Rattle.std.specs.Prelude.{◌≡◌, ℕ, List, false, Option, None, MatchOption}
use Rattle.std.specs.Option.{option_map}
use Rattle.tl_sexpr.specs.Tree.{FormTree, FormTrees, symbol, integer, list, more_forms}
use Rattle.tl_rules.specs.declared.calls.Call.{Call}
use Rattle.tl_rules.specs.Parts.{call_of, is_call}
use Rattle.tl_rules.specs.Reads.{trees_in}

-- the text of the symbol, the elements after it, and the offset of the list
pub record CallTree : Type 0 where
  pub word : List ℕ
  pub rest : FormTrees
  pub at : ℕ

-- the list of these elements at an offset, where it begins with a symbol
abbrev pub call_with : FormTrees → ℕ → Option CallTree
call_with fs at = option_map (λ c. record { word = c.0; rest = c.1; at = at }) (call_of fs)

-- a form as a list that begins with a symbol, where it is one
abbrev pub call_in : FormTree → Option CallTree
call_in (list fs at) = call_with fs at
call_in (symbol text at) = None
call_in (integer z at) = None

-- a call as a reader has it
abbrev pub call_tree : Call → CallTree
call_tree c = record { word = c.word.now; rest = trees_in c.rest.now; at = c.at }

-- the list of this symbol and these elements after it
abbrev pub list_of : Call → FormTree
list_of c = list (more_forms (symbol c.word.now c.word_at) (trees_in c.rest.now)) c.at

-- the form as a list that begins with a symbol, where it is one
abbrev pub FindsCall : FormTree → Option Call → Type 0
FindsCall f found = MatchOption found (is_call f ≡ false) (λ c. f ≡ list_of c)
