-- Files stand for at most one problem, as far as meaning, names and the words of the domain go.
use Rattle.std.proofs.Common.{◌≡◌, List, [], map, length, sym, ap, ◌∙◌}
use Rattle.tl_syntax.specs.declared.definition.Definition.{Definition}
use Rattle.tl_syntax.specs.declared.fact.Fact.{Fact}
use Rattle.tl_syntax.specs.declared.place_value.PlaceValue.{PlaceValue}
use Rattle.tl_syntax.specs.declared.problem.Problem.{Problem}
use Rattle.tl_domain.specs.DomainTrees.{DefinitionTree, DomainTree, OperatorTree, definition_tree, domain_tree, operator_tree}
use Rattle.tl_domain.specs.LawsFiles.{SameParts}
use Rattle.tl_terms.specs.Problem.{PlainDefinition, PlainOperator, PlainProblem}
use Rattle.tl_terms.specs.ProblemMeaning.{plain_problem, world_of}
use Rattle.tl_run.proofs.SameLabels.{SameWords}
use Rattle.tl_run.proofs.SeenTwice.{map_seen}
use Rattle.tl_run.proofs.SameOperators.{Head, head_of}

-- a problem by its facts, its places and the tree of its domain
abbrev definition_in : DefinitionTree → PlainDefinition
definition_in d = record { params = d.params; body = d.body; levels = d.levels }

abbrev operator_in : OperatorTree → PlainOperator
operator_in o = record { params = o.params; bounds = o.bounds; pre = o.pre; effects = o.effects }

abbrev seen_as : List Fact → List PlaceValue → List Fact → List PlaceValue → List Fact → DomainTree → PlainProblem
seen_as fs vs gs ws ns t = record {
  first = world_of fs vs;
  goal = world_of gs ws;
  avoid = world_of ns [];
  definitions = map definition_in t.definitions;
  operators = map operator_in t.operators;
  control = t.control;
}

problem_seen : (p : Problem) → plain_problem p ≡ seen_as p.init_facts p.init_values p.goal_facts p.goal_values p.goal_nots
    (domain_tree p.domain)
unfolding plain_problem
problem_seen p =
    let definitions = sym (map_seen definition_in definition_tree p.domain.definitions) in
    let operators = sym (map_seen operator_in operator_tree p.domain.operators) in
    let tree = domain_tree p.domain in
    λ i. record {
      first = world_of p.init_facts p.init_values;
      goal = world_of p.goal_facts p.goal_values;
      avoid = world_of p.goal_nots [];
      definitions = definitions i;
      operators = operators i;
      control = tree.control;
    }

abbrev head_in : OperatorTree → Head
head_in o = (o.name, length o.params)

heads_seen : (p : Problem) → map head_of p.domain.operators ≡ map head_in (domain_tree p.domain).operators
heads_seen p = sym (map_seen head_in operator_tree p.domain.operators)

-- the two problems mean the same, and plan files are read and formulas are written alike for them
pub record SameProblem (p q : Problem) : Type 0 where
  pub meaning : plain_problem p ≡ plain_problem q
  pub names : p.names ≡ q.names
  pub heads : map head_of p.domain.operators ≡ map head_of q.domain.operators
  pub words : SameWords p.domain q.domain

definitions_seen : (p : Problem) → map (λ (d : Definition). d.name) p.domain.definitions ≡
    map (λ (d : DefinitionTree). d.name) (domain_tree p.domain).definitions
definitions_seen p = sym (map_seen (λ (d : DefinitionTree). d.name) definition_tree p.domain.definitions)

same_words : (p q : Problem) → SameParts p q → SameWords p.domain q.domain
same_words p q s = record {
  predicates = ap (λ (t : DomainTree). t.predicates) s.domain;
  functions = ap (λ (t : DomainTree). t.functions) s.domain;
  definitions = definitions_seen p ∙ ap (λ (t : DomainTree). map (λ (d : DefinitionTree). d.name) t.definitions) s.domain ∙
      sym (definitions_seen q);
  operators = heads_seen p ∙ ap (λ (t : DomainTree). map head_in t.operators) s.domain ∙ sym (heads_seen q);
}

-- problems of the same parts are the same
pub same_problem : (p q : Problem) → SameParts p q → SameProblem p q
same_problem p q s = record {
  meaning = problem_seen p ∙ (λ i. seen_as (s.said i).init.facts (s.said i).init.values (s.said i).goal.facts (s.said i).goal.values
      (s.said i).goal.nots (s.domain i)) ∙ sym (problem_seen q);
  names = s.names;
  heads = heads_seen p ∙ ap (λ (t : DomainTree). map head_in t.operators) s.domain ∙ sym (heads_seen q);
  words = same_words p q s;
}
