-- A problem as the files give it, as the record of which all definitions of meaning speak.
use Rattle.std.specs.Prelude.{List, [], map}
use Rattle.std.specs.FinSet as set
use Rattle.std.specs.FinMap as dict
use Rattle.tl_syntax.specs.declared.definition.Definition.{Definition}
use Rattle.tl_syntax.specs.declared.fact.Fact.{Fact}
use Rattle.tl_syntax.specs.declared.operator.Operator.{Operator}
use Rattle.tl_syntax.specs.declared.place_value.PlaceValue.{PlaceValue}
use Rattle.tl_syntax.specs.declared.problem.Problem.{Problem}
use Rattle.tl_syntax.specs.Keys.{fact_key, place_entry}
use Rattle.tl_syntax.specs.TreeOfEffect.{tree_of_effects}
use Rattle.tl_syntax.specs.TreeOfFormula.{tree_of_formula}
use Rattle.tl_terms.specs.Problem.{PlainDefinition, PlainOperator, PlainProblem}
use Rattle.tl_terms.specs.World.{World}

-- the world in which just these facts are true and just these places have a value
unfoldable pub world_of : List Fact → List PlaceValue → World
world_of facts places = record { facts = set.from_list (map fact_key facts); places = dict.from_entries (map place_entry places) }

-- a definition with the plain tree of its body
abbrev pub plain_definition : Definition → PlainDefinition
plain_definition d = record { params = d.params; body = tree_of_formula d.body; levels = d.levels }

-- an operator with the plain trees of its precondition and effects
abbrev pub plain_operator : Operator → PlainOperator
plain_operator o = record { params = o.params; bounds = o.bounds; pre = tree_of_formula o.pre; effects = tree_of_effects o.effects }

-- the problem that a `Problem` is
unfoldable pub plain_problem : Problem → PlainProblem
plain_problem p = record {
  first = world_of p.init_facts p.init_values;
  goal = world_of p.goal_facts p.goal_values;
  avoid = world_of p.goal_nots [];
  definitions = map plain_definition p.domain.definitions;
  operators = map plain_operator p.domain.operators;
  control = tree_of_formula p.domain.control;
}
