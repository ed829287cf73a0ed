-- Look-ups in a table of places.
use Rattle.std.proofs.Common.{◌≡◌, List, [], ◌∷◌, ◌++◌, Bool, true, false, cond, map, refl, ap, sym, ◌∙◌, true≢false}
use Rattle.std.specs.Prelude.{Option, Some, None, is_some, not}
use Rattle.std.specs.Map.{lookup}
use Rattle.tl_syntax.specs.declared.place_value.PlaceValue.{PlaceValue}
use Rattle.tl_syntax.specs.declared.value.Value.{Value}
use Rattle.tl_problem.specs.contracts.place_map.PlacePartialEq.TheImpl as place_test
use Rattle.tl_problem.specs.declared.place_map.Place.{Place}
use Rattle.tl_problem.specs.Literals.{same_place, value_among, with_value}
use Rattle.tl_problem.specs.PlaceEntries.{place_value_of}
use Rattle.indexmap.specs.IndexMap.{insert_entry}

-- the derived test of two places
abbrev pub place_eq : Place → Place → Bool
place_eq = (place_test.ghosts).eq

pub lookup-value_among : (place : Place) (es : List (Place × Value)) → lookup (place_eq place) es ≡
    value_among (map place_value_of es) (place.fun, place.args)
lookup-value_among place [] = refl
lookup-value_among place (e ∷ es) = ap (λ rest. cond (same_place (place.fun, place.args) (e.0.fun, e.0.args)) (Some e.1) rest)
    (lookup-value_among place es)

-- a place that is new goes last
pub insert-new : (place : Place) (v : Value) (es : List (Place × Value)) → lookup (place_eq place) es ≡ None →
    insert_entry place_eq es place v ≡ es ++ (place, v) ∷ []
insert-new place v [] new = refl
insert-new place v (e ∷ es) new = (elim (place_eq place e.0) as (λ b. cond b (Some e.1) (lookup (place_eq place) es) ≡ None →
    cond b ((e.0, v) ∷ es) (e ∷ insert_entry place_eq es place v) ≡ e ∷ (es ++ (place, v) ∷ [])) [
      | true ↦ λ h. cc
      | false ↦ λ h. ap (λ rest. e ∷ rest) (insert-new place v es h)
    ]) new

pub mapped-more : (es : List (Place × Value)) (place : Place) (v : Value) → map place_value_of (es ++ (place, v) ∷ []) ≡
    map place_value_of es ++ place_value_of (place, v) ∷ []
mapped-more [] place v = refl
mapped-more (e ∷ es) place v = ap (λ rest. place_value_of e ∷ rest) (mapped-more es place v)

-- a table with a place that had no value
pub place-inserted : (place : Place) (v : Value) (es new : List (Place × Value)) (values : List PlaceValue) → map place_value_of es ≡
    values → new ≡ insert_entry place_eq es place v → value_among values (place.fun, place.args) ≡ None → map place_value_of new ≡
    with_value values (place_value_of (place, v))
place-inserted place v es new values seen is none =
    let absent = lookup-value_among place es ∙ ap (λ xs. value_among xs (place.fun, place.args)) seen ∙ none in
    ap (map place_value_of) (is ∙ insert-new place v es absent) ∙ mapped-more es place v ∙
    ap (λ xs. xs ++ place_value_of (place, v) ∷ []) seen
    ∙ sym (ap (λ (found : Option Value). cond (is_some found) values (values ++ place_value_of (place, v) ∷ [])) none)

-- what is not some is none
pub none-from : (found : Option Value) (test : Bool) → test ≡ true → is_some found ≡ not test → found ≡ None
none-from None test a b = refl
none-from (Some v) test a b = absurd (true≢false (b ∙ ap not a))
