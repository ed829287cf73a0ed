-- Effects that cannot fail: they add and delete facts of variables and values alone.
use Rattle.std.specs.Prelude.{Bool, true, false, ◌&&◌}
use Rattle.tl_syntax.specs.Effects.{EffectTree, EffectTrees, add, del, assign, when, each, no_effect, more_effects}
use Rattle.tl_syntax.specs.Trees.{TermTree, TermTrees, variable, value, place, arith, no_term, more_terms}

-- the term is a variable or a value, so that nothing is looked up for it
abbrev pub is_bare : TermTree → Bool
is_bare (variable s) = true
is_bare (value v) = true
is_bare (place f ts) = false
is_bare (arith op s t at) = false

-- each term is
abbrev pub are_bare : TermTrees → Bool
are_bare no_term = true
are_bare (more_terms t ts) = is_bare t && are_bare ts

-- the effect has no undefined part where its variables have values, sets no place, and looks at no
-- operation; and so for each of a list
unfoldable mutual
  pub is_sure : EffectTree → Bool
  is_sure (add p ts) = are_bare ts
  is_sure (del p ts) = are_bare ts
  is_sure (assign f ts t) = false
  is_sure (when f es) = false
  is_sure (each ss b es) = are_sure es

  pub are_sure : EffectTrees → Bool
  are_sure no_effect = true
  are_sure (more_effects e es) = is_sure e && are_sure es
