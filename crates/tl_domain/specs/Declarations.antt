-- What the items before an item declare.
use Rattle.std.specs.Prelude.{ℕ, List, [], Bool, false}
use Rattle.tl_formulas.specs.declared.signature.NameSignature.{NameSignature}

-- the predicates, functions and definitions; the names of the operators; the levels of all
-- `defined` items together;
-- and whether there is a control item
pub record Declarations : Type 0 where
  pub signature : NameSignature
  pub operators : List (List ℕ)
  pub levels : ℕ
  pub controlled : Bool

-- nothing is declared
abbrev pub nothing_declared : Declarations
nothing_declared = record {
  signature = record { predicates = []; functions = []; definitions = [] };
  operators = [];
  levels = 0;
  controlled = false;
}
