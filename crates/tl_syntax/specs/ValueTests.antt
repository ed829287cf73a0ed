-- Tests that all values pass which a problem writes down.
use Rattle.std.specs.Prelude.{List, Bool, IsTrue}
use Rattle.tl_syntax.specs.declared.fact.Fact.{Fact}
use Rattle.tl_syntax.specs.declared.place_value.PlaceValue.{PlaceValue}
use Rattle.tl_syntax.specs.declared.problem.Problem.{Problem}
use Rattle.tl_syntax.specs.declared.value.Value.{Value}
use Rattle.tl_syntax.specs.Effects.{EffectTree, EffectTrees, add, del, assign, when, each, no_effect, more_effects}
use Rattle.tl_syntax.specs.Lists.{Each}
use Rattle.tl_syntax.specs.TreeOfEffect.{tree_of_effects}
use Rattle.tl_syntax.specs.Trees.{TermTree, TermTrees, variable, value, place, arith, no_term, more_terms}

-- each of the values passes
abbrev pub ValuesPass : (Value → Bool) → List Value → Type 0
ValuesPass test vs = Each (λ v. IsTrue (test v)) vs

-- each value of a term, and of terms, passes
unfoldable mutual
  pub TermPasses : (Value → Bool) → TermTree → Type 0
  TermPasses test (variable s) = Unit {0}
  TermPasses test (value v) = IsTrue (test v)
  TermPasses test (place f ts) = TermsPass test ts
  TermPasses test (arith op s t at) = TermPasses test s × TermPasses test t

  pub TermsPass : (Value → Bool) → TermTrees → Type 0
  TermsPass test no_term = Unit {0}
  TermsPass test (more_terms t ts) = TermPasses test t × TermsPass test ts

-- each value of what an effect, and of what effects, add or set passes
unfoldable mutual
  pub EffectPasses : (Value → Bool) → EffectTree → Type 0
  EffectPasses test (add p ts) = TermsPass test ts
  EffectPasses test (del p ts) = Unit {0}
  EffectPasses test (assign f ts t) = TermsPass test ts × TermPasses test t
  EffectPasses test (when f es) = EffectsPass test es
  EffectPasses test (each ss b es) = EffectsPass test es

  pub EffectsPass : (Value → Bool) → EffectTrees → Type 0
  EffectsPass test no_effect = Unit {0}
  EffectsPass test (more_effects e es) = EffectPasses test e × EffectsPass test es

-- each value of a fact, and of a place with its value, passes
abbrev pub FactPasses : (Value → Bool) → Fact → Type 0
FactPasses test f = ValuesPass test f.args

abbrev pub PlacePasses : (Value → Bool) → PlaceValue → Type 0
PlacePasses test x = ValuesPass test x.args × IsTrue (test x.value)

-- each value of what is true at first, of what is wanted, and of what operators add or set passes
pub record ProblemPasses (test : Value → Bool) (p : Problem) : Type 0 where
  pub init_facts : Each (FactPasses test) p.init_facts
  pub init_values : Each (PlacePasses test) p.init_values
  pub goal_facts : Each (FactPasses test) p.goal_facts
  pub goal_values : Each (PlacePasses test) p.goal_values
  pub goal_nots : Each (FactPasses test) p.goal_nots
  pub effects : Each (λ o. EffectsPass test (tree_of_effects o.effects)) p.domain.operators
