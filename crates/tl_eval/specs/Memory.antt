-- What the entries of a memory say.
use Rattle.std.specs.Prelude.{◌==◌, ◌<◌, ◌≤◌, ℕ, Bool, List, [], ◌∷◌, length, take, cond}
use Rattle.tl_eval.specs.declared.memory.Asked.{Asked}
use Rattle.tl_eval.specs.declared.memory.Entry.{Entry}
use Rattle.tl_eval.specs.Remembered.{Remembered, remembered}
use Rattle.tl_syntax.specs.Lists.{Each}

-- the truth of what is asked
abbrev pub answered : Asked → Bool → Remembered
answered a b = remembered a.number a.level a.values.now b

-- what an entry says, in whatever generation
abbrev pub said : Entry → Remembered
said e = remembered e.number e.level (take e.count e.values) e.truth

-- what the entries of generation g say
unfoldable pub said_in : ℕ → List Entry → List Remembered
said_in g [] = []
said_in g (e ∷ es) = cond (e.generation == g) (said e ∷ said_in g es) (said_in g es)

-- there are at least 8 entries, or none at all, and none of a generation after g
pub record AreUpTo (g : ℕ) (es : List Entry) : Type 0 where
  pub several : 0 < length es → 8 ≤ length es
  pub before : Each (λ e. e.generation ≤ g) es
