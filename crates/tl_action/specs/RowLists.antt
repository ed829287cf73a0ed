-- Lists of rows of values.
use Rattle.std.specs.Prelude.{◌↔◌, List, []}
use Rattle.tl_action.specs.Join.{IsFound}
use Rattle.tl_syntax.specs.declared.value.Value.{Value}
use Rattle.tl_syntax.specs.Assignment.{Assignment}
use Rattle.tl_syntax.specs.Lists.{Among, Rises}
use Rattle.tl_terms.specs.Problem.{PlainOperator, PlainProblem}
use Rattle.tl_terms.specs.World.{World}
use Rattle.tl_rows.specs.Plain.{row_cmp}

-- the same rows, in lexicographic value order, each once
pub record IsRows (rows ordered : List (List Value)) : Type 0 where
  pub same : (t : List Value) → Among t ordered ↔ Among t rows
  pub order : Rises row_cmp ordered

-- the rows with which an operator can be applied, in order, each once
pub record AreRowsOf (p : PlainProblem) (w : World) (o : PlainOperator) (e : Assignment) (rows : List (List Value)) : Type 0 where
  pub all : (t : List Value) → Among t rows ↔ IsFound p w o [] o.bounds e t
  pub order : Rises row_cmp rows
