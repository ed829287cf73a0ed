-- What becomes of the bytes that a text is put after.
use Rattle.std.specs.Prelude.{◌≡◌, ℕ, List, ◌++◌, Result, Ok, Err}

-- the second bytes begin with the first
pub record ContinuesTo (old new : List ℕ) : Type 0 where
  pub more : List ℕ
  pub is : new ≡ old ++ more

-- the bytes grew by the text; or memory ran out, and the old bytes are still their beginning
abbrev pub Puts : {E : Type 0} → Result (Unit {0}) E → List ℕ → List ℕ → List ℕ → Type 0
Puts (Ok _) old new text = new ≡ old ++ text
Puts (Err _) old new text = ContinuesTo old new
