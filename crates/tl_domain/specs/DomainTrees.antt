-- Domains as plain data.
use Rattle.std.specs.Prelude.{ℕ, List, map}
use Rattle.tl_syntax.specs.declared.variable.Var.{Var}
use Rattle.tl_syntax.specs.declared.bound.Bound.{Bound}
use Rattle.tl_syntax.specs.declared.declared.Declared.{Declared}
use Rattle.tl_syntax.specs.declared.definition.Definition.{Definition}
use Rattle.tl_syntax.specs.declared.operator.Operator.{Operator}
use Rattle.tl_syntax.specs.declared.domain.Domain.{Domain}
use Rattle.tl_syntax.specs.Trees.{FormulaTree}
use Rattle.tl_syntax.specs.Effects.{EffectTrees}
use Rattle.tl_syntax.specs.TreeOfFormula.{tree_of_formula}
use Rattle.tl_syntax.specs.TreeOfEffect.{tree_of_effects}

-- a definition whose body is a plain tree
pub record DefinitionTree : Type 0 where
  pub name : ℕ
  pub params : List Var
  pub body : FormulaTree
  pub levels : ℕ

-- an operator whose precondition and effects are plain trees
pub record OperatorTree : Type 0 where
  pub name : ℕ
  pub params : List Var
  pub bounds : List Bound
  pub pre : FormulaTree
  pub effects : EffectTrees

-- a domain whose formulas and effects are plain trees
pub record DomainTree : Type 0 where
  pub name : ℕ
  pub predicates : List Declared
  pub functions : List Declared
  pub definitions : List DefinitionTree
  pub operators : List OperatorTree
  pub control : FormulaTree

abbrev pub definition_tree : Definition → DefinitionTree
definition_tree d = record { name = d.name; params = d.params; body = tree_of_formula d.body; levels = d.levels }

abbrev pub operator_tree : Operator → OperatorTree
operator_tree o = record {
  name = o.name;
  params = o.params;
  bounds = o.bounds;
  pre = tree_of_formula o.pre;
  effects =
      tree_of_effects o.effects;
}

abbrev pub domain_tree : Domain → DomainTree
domain_tree d = record {
  name = d.name;
  predicates = d.predicates;
  functions = d.functions;
  definitions = map definition_tree d.definitions;
  operators = map operator_tree d.operators;
  control = tree_of_formula d.control;
}
