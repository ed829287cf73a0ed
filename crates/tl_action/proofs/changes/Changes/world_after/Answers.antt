use Rattle.std.proofs.Common.{◌≡◌, List, map, Result, Ok, Err, IfOk, ap, ◌∙◌}
use Rattle.tl_action.specs.declared.changes.Changes.{Changes}
use Rattle.tl_action.specs.ChangedWorlds.{world_after}
use Rattle.tl_syntax.specs.declared.fact.Fact.{Fact}
use Rattle.tl_syntax.specs.declared.place_value.PlaceValue.{PlaceValue}
use Rattle.tl_syntax.specs.Keys.{fact_key, place_entry}
use Rattle.tl_terms.specs.Step.{with_all, without_all, overwritten}
use Rattle.tl_terms.specs.World.{World}
use Rattle.tl_action.proofs.changes.Changes.world_after.Goals as goal

is-after : (w : World) (c : Changes) (dels adds : List Fact) (sets : List PlaceValue) {E : Type 0} (r : Result World E) → dels ≡ c.dels →
    adds ≡ c.adds → sets ≡ c.sets
    → IfOk r (λ v. v.facts ≡ with_all (without_all w.facts (map fact_key dels)) (map fact_key adds)) →
    IfOk r (λ v. v.places ≡ overwritten w.places (map place_entry sets)) → IfOk r (λ v. v ≡ world_after w c)
unfolding world_after
is-after w c dels adds sets (Ok v) d a s f g =
    let facts = f ∙ (λ i. with_all (without_all w.facts (map fact_key (d i))) (map fact_key (a i))) in
    let places = g ∙ ap (λ xs. overwritten w.places (map place_entry xs)) s in
    λ i. record { facts = facts i; places = places i }
is-after w c dels adds sets (Err x) d a s f g = tt

pub returns : goal.returns
returns c = is-after c.args.w.now c.args.self.now c.as_slice.result.now c.as_slice-2.result.now c.as_slice-3.result.now c.changed.result
    c.as_slice.ensures c.as_slice-2.ensures c.as_slice-3.ensures c.changed.ensures.facts c.changed.ensures.places
