-- The goal test, part by part.
use Rattle.std.proofs.Common.{◌≡◌, Bool, true, false, ◌&&◌, not, sym, ◌∙◌}
use Rattle.std.specs.List.{list_all}
use Rattle.std.specs.FinSet as set
use Rattle.std.specs.FinMap as dict
use Rattle.tl_terms.specs.Acceptance.{is_value, meets_goal}
use Rattle.tl_terms.specs.World.{World, has_fact, value_at}

module _ (w goal avoid : World) where
  abbrev facts_held : Bool
  facts_held = list_all (has_fact w) (set.items goal.facts)

  abbrev values_held : Bool
  values_held = list_all (λ k. is_value (value_at w k.0) k.1) (dict.entries goal.places)

  abbrev none_held : Bool
  none_held = list_all (λ k. not (has_fact w k)) (set.items avoid.facts)

  -- all three are looked at
  pub by-all : (f v n : Bool) → f ≡ facts_held → f ≡ true → v ≡ values_held → v ≡ true → n ≡ none_held → n ≡ meets_goal w goal avoid
  unfolding meets_goal
  by-all f v n fe ft ve vt ne = ne ∙ sym ((λ i. (sym fe ∙ ft) i && ((sym ve ∙ vt) i && none_held)))

  -- a place lacks its value
  pub by-values : (f v : Bool) → f ≡ facts_held → f ≡ true → v ≡ values_held → v ≡ false → v ≡ meets_goal w goal avoid
  unfolding meets_goal
  by-values f v fe ft ve vf = vf ∙ sym (λ i. (sym fe ∙ ft) i && ((sym ve ∙ vf) i && none_held))

  -- a fact is not there
  pub by-facts : (f : Bool) → f ≡ facts_held → f ≡ false → f ≡ meets_goal w goal avoid
  unfolding meets_goal
  by-facts f fe ff = ff ∙ sym (λ i. (sym fe ∙ ff) i && (values_held && none_held))
