-- The goal test in the words of membership.
use Rattle.std.proofs.Common.{◌≡◌, ◌↔◌, true, not, true≢false, Option, Some, None, sym, ap}
use Rattle.std.specs.FinSet as set
use Rattle.std.specs.FinMap as dict
use Rattle.tl_terms.specs.Acceptance.{is_value, meets_goal}
use Rattle.tl_terms.specs.LawsGoal.{MeetsGoal}
use Rattle.tl_syntax.specs.Keys.{Key}
use Rattle.tl_terms.specs.World.{World, has_fact, value_at}
use Rattle.tl_terms.proofs.KeyLaws.{value-is, value-itself, fact-among, place-among}
use Rattle.tl_syntax.proofs.ListLaws.{iff-trans, iff-sym, and-iff, not-iff, all-iff, Each-Among}
use Rattle.tl_syntax.specs.declared.value.Value.{Value}

is_value-iff : (o : Option Value) (v : Value) → (o ≡ Some v) ↔ (is_value o v ≡ true)
is_value-iff None v = (λ e. let z : ⊥ = cc in absurd z, λ e. absurd (true≢false (sym e)))
is_value-iff (Some u) v = (λ e. value-itself u v (let q : u ≡ v = cc in q), λ e. ap (λ (x : Value). Some x) (value-is u v e))

pub goal-by-membership : (w goal avoid : World) → (meets_goal w goal avoid ≡ true) ↔ MeetsGoal w goal avoid
unfolding meets_goal
goal-by-membership w goal avoid =
    let facts = iff-trans (iff-sym (Each-Among (λ k. has_fact w k ≡ true) (set.items goal.facts)))
    (all-iff (λ k. has_fact w k ≡ true) (has_fact w) (λ k. (λ h. h, λ h. h)) (set.items goal.facts)) in
    let places = iff-trans (iff-sym (Each-Among (λ (x : Key × Value). value_at w x.0 ≡ Some x.1) (dict.entries goal.places)))
    (all-iff (λ (x : Key × Value). value_at w x.0 ≡ Some x.1) (λ (x : Key × Value). is_value (value_at w x.0) x.1)
    (λ x. is_value-iff (value_at w x.0) x.1) (dict.entries goal.places)) in
    let avoided = iff-trans (iff-sym (Each-Among (λ k. has_fact w k ≡ true → ⊥) (set.items avoid.facts)))
    (all-iff (λ k. has_fact w k ≡ true → ⊥) (λ k. not (has_fact w k)) (λ k. not-iff (λ h. h, λ h. h)) (set.items avoid.facts)) in
    let all = and-iff facts (and-iff places avoided) in (
      λ h. let k = all.1 h in record {
        facts = λ x m. k.0 x ((fact-among goal x).1 m);
        places = λ x v m. k.1.0 (x, v) ((place-among goal x v).1 m);
        avoided = λ x m. k.1.1 x ((fact-among avoid x).1 m);
      },
      λ h. all.0 (
        λ x m. h.facts x ((fact-among goal x).0 m),
        (
          λ x m. h.places x.0 x.1 ((place-among goal x.0 x.1).0 m),
          λ x m. h.avoided x ((fact-among avoid x).0 m),
        ),
      ),
    )
