-- Formulas that changes of facts make true or false.
use Rattle.std.specs.Prelude.{◌≡◌, ◌==◌, ℕ, List, [], ◌∷◌, map, Bool, true, false, not, ◌&&◌}
use Rattle.std.specs.List.{list_any}
use Rattle.tl_nodes.specs.NodeTrees.{tree_at}
use Rattle.tl_nodes.specs.Numbers.{trees}
use Rattle.tl_progress.specs.declared.fact_changes.FactChanges.{FactChanges}
use Rattle.tl_progress.specs.declared.part_places.Conjunction.{Conjunction}
use Rattle.tl_syntax.specs.declared.fact.Fact.{Fact}
use Rattle.tl_syntax.specs.declared.term.Term.{Term}
use Rattle.tl_syntax.specs.declared.value.Value.{Value}
use Rattle.tl_syntax.specs.Assignment.{no_values}
use Rattle.tl_syntax.specs.DerivedTests.{fact_eq, value_eq}
use Rattle.tl_syntax.specs.Keys.{fact_key}
use Rattle.tl_syntax.specs.Lists.{Among}
use Rattle.tl_syntax.specs.TreeOfTerm.{tree_of_term}
use Rattle.tl_syntax.specs.Trees.{FormulaTree, TermTree, variable, value, place, arith}
use Rattle.tl_terms.specs.Definitions.{situation_of}
use Rattle.tl_terms.specs.Problem.{PlainProblem}
use Rattle.tl_terms.specs.Progression.{constant, progressed}
use Rattle.tl_terms.specs.Step.{with_all, without_all}
use Rattle.tl_terms.specs.World.{World}

-- the facts of the one world, without the deleted and with the added ones, are those of the other
abbrev pub AreChanged : World → World → List Fact → List Fact → Type 0
AreChanged w v dels adds = v.facts ≡ with_all (without_all w.facts (map fact_key dels)) (map fact_key adds)

-- in each world after the changes the formula leaves the constant of this truth
abbrev pub LeavesTruth : Bool → FormulaTree → List Fact → List Fact → Type 0
LeavesTruth b f dels adds = (p : PlainProblem) (w v : World) → AreChanged w v dels adds → progressed (situation_of p v) no_values f ≡
    constant b

-- in each world after these changes
abbrev pub LeavesAfter : Bool → FormulaTree → FactChanges → Type 0
LeavesAfter b f changes = LeavesTruth b f changes.dels.now changes.adds.now

-- one of the conjunction's parts leaves FALSE
abbrev pub OneLeavesFalse : Conjunction → FactChanges → Type 0
OneLeavesFalse conjunction changes = (q : ℕ) × Among q conjunction.parts.now ×
    LeavesAfter false (tree_at (trees conjunction.nodes.now) q) changes

-- the term is the value itself
abbrev pub is_value_term : TermTree → Value → Bool
is_value_term (variable s) v = false
is_value_term (value u) v = value_eq u v
is_value_term (place f ts) v = false
is_value_term (arith op s t at) v = false

-- the terms are the values themselves
abbrev pub are_value_terms : List Term → List Value → Bool
are_value_terms [] [] = true
are_value_terms [] (v ∷ vs) = false
are_value_terms (t ∷ ts) [] = false
are_value_terms (t ∷ ts) (v ∷ vs) = is_value_term (tree_of_term t) v && are_value_terms ts vs

-- the fact is that of the predicate with these terms
abbrev pub is_fact_of : ℕ → List Term → Fact → Bool
is_fact_of p ts f = (f.pred == p) && are_value_terms ts f.args

-- a fact of the list is
abbrev pub is_added : ℕ → List Term → List Fact → Bool
is_added p ts adds = list_any (is_fact_of p ts) adds

-- a deleted fact is, and is not added again
abbrev pub is_deleted : ℕ → List Term → List Fact → List Fact → Bool
is_deleted p ts dels adds = list_any (λ f. is_fact_of p ts f && not (list_any (λ g. fact_eq g f) adds)) dels
