-- Clauses, as a reader takes them apart.
use Rattle.std.specs.Prelude.{◌≡◌, true}
use Rattle.tl_sexpr.specs.Tree.{FormTrees}
use Rattle.tl_domain.specs.declared.clauses.Clauses.{Clauses}
use Rattle.tl_domain.specs.Operators.{are_clauses, bounds_clause, pre_clause, effects_clause}
use Rattle.tl_domain.specs.Readers.{clause_tree}

-- the forms are these clauses in their order, each at most once
pub record AreClauses (fs : FormTrees) (c : Clauses) : Type 0 where
  pub are : are_clauses fs ≡ true
  pub bounds : bounds_clause fs ≡ clause_tree c.bounds
  pub pre : pre_clause fs ≡ clause_tree c.pre
  pub effects : effects_clause fs ≡ clause_tree c.effects
