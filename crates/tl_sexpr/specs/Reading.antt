-- How far a file has been read: the position, and the lists that are open there.
use Rattle.std.specs.Prelude.{◌≡◌, ℕ, ◌+◌, ◌<◌, ◌≤◌, List, [], ◌∷◌, ◌++◌, length, true, false, slice_index, FitsSigned}
use Rattle.std.specs.Int.{w64}
use Rattle.tl_sexpr.specs.declared.fault.TextFault.{TextFault}
use Rattle.tl_sexpr.specs.declared.fault.TextFault.TheVariants.{Unclosed}
use Rattle.tl_sexpr.specs.declared.form.Form.TheVariants as form
use Rattle.tl_sexpr.specs.declared.reader.OpenList.{OpenList}
use Rattle.tl_sexpr.specs.declared.reader.Reader.{Reader}
use Rattle.tl_sexpr.specs.Bytes.{StandsAt, IsTokenAt}
use Rattle.tl_sexpr.specs.Spelling.{AreItems, spells_integer, integer_value}
use Rattle.tl_sexpr.specs.Tree.{FormTree, FormTrees, symbol, integer, list, trees_of, items_of}

-- no token and no comment goes on from before this position to the byte here, if there is one
pub record IsStart (bytes : List ℕ) (at : ℕ) : Type 0 where
  pub within : at ≤ length bytes
  pub comments_end : at < length bytes → (j : ℕ) → j < at → slice_index bytes j ≡ 59 → (m : ℕ) × (j < m) × (m < at) ×
      (slice_index bytes m ≡ 10)
  pub no_token_cut : (k : ℕ) → k + 1 ≡ at → IsTokenAt bytes k → ¬ IsTokenAt bytes at

-- the bytes of the range are these open lists, from the outermost, each with its forms before the
-- next one, and the last forms stand in the innermost of them; so many lists are around the range
unfoldable pub Nested : List ℕ → ℕ → ℕ → List OpenList → FormTrees → ℕ → Type 0
Nested bytes around from [] forms to = AreItems bytes around from to forms
Nested bytes around from (o ∷ os) forms to =
    AreItems bytes around from o.at (trees_of o.forms) × (around < 100) × StandsAt bytes o.at 40 ×
    Nested bytes (around + 1) (o.at + 1) os forms to

-- the bytes before this position were read
pub record IsRead (bytes : List ℕ) (reader : Reader) (at : ℕ) : Type 0 where
  pub start : IsStart bytes at
  pub few : length reader.open.items ≤ 100
  pub nested : Nested bytes 0 0 reader.open.items (trees_of reader.forms) at

-- this is the form of a token with this text at this offset
abbrev pub IsTokenForm : List ℕ → ℕ → FormTree → Type 0
IsTokenForm text from (symbol s at) = (at ≡ from) × (s ≡ text) × (spells_integer text ≡ false)
IsTokenForm text from (integer z at) = (at ≡ from) × (spells_integer text ≡ true) × (z ≡ integer_value text) × FitsSigned w64 z
IsTokenForm text from (list _ _) = ⊥

-- a list was opened
pub record Opens (old new : Reader) (at : ℕ) : Type 0 where
  pub stack : new.open.items ≡ old.open.items ++ record { at = at; forms = old.forms } ∷ []
  pub forms : items_of new.forms ≡ []

-- the innermost list was closed, and its form added to the forms before it
pub record Closes (old new : Reader) : Type 0 where
  pub closed : OpenList
  pub stack : old.open.items ≡ new.open.items ++ closed ∷ []
  pub forms : items_of new.forms ≡ items_of closed.forms ++ form.List old.forms closed.at ∷ []

-- lists are open, and the fault is at the outermost of them
pub record IsOpenSince (reader : Reader) (fault : TextFault) : Type 0 where
  pub outermost : OpenList
  pub rest : List OpenList
  pub stack : reader.open.items ≡ outermost ∷ rest
  pub told : fault ≡ Unclosed outermost.at
