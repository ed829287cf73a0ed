-- The path that the last steps of ways give, gathered from its end.
use Rattle.std.proofs.Common.{◌≡◌, ◌<◌, ℕ, ◌+◌, List, [], ◌∷◌, ◌++◌, length, slice_get, Option, Some, None, refl, sym, ap, ◌∙◌, subst}
use Rattle.std.proofs.Common.{arith, append_assoc, reverse}
use Rattle.std.specs.Prelude.{unwrap_or}
use Rattle.std.specs.Option.{option_map}
use Rattle.std.proofs.lemmas.List.{reverse-append}
use Rattle.std.proofs.lemmas.Option.{slice_get_within}
use Rattle.tl_syntax.specs.declared.action.Action.{Action}
use Rattle.tl_cost.specs.Ways.{AreLinked, Follows, at_root, onward}
use Rattle.tl_cost.specs.declared.ways.Way.{Way}
use Rattle.tl_cost.specs.declared.ways.LastStep.{LastStep}

-- how long the way to a pair is
abbrev pub length_at : List Way → ℕ → ℕ
length_at ways k = unwrap_or (option_map (λ (w : Way). w.length) (slice_get ways k)) 0

length-is : (ways : List Way) (k : ℕ) (w : Way) → slice_get ways k ≡ Some w → length_at ways k ≡ w.length
length-is ways k w e = ap (λ (o : Option Way). unwrap_or (option_map (λ (u : Way). u.length) o) 0) e

module _ (ways : List Way) (linked : AreLinked ways) (here : ℕ) (w : Way) (last : LastStep) (e : slice_get ways here ≡ Some w)
    (is : w.last ≡ Some last) where
  before : (v : Way) × (slice_get ways last.from ≡ Some v) × (w.length ≡ v.length + 1)
  before = linked here w last e is

  -- the pair before it has a way too
  pub back-inside : last.from < length ways
  back-inside = slice_get_within ways last.from before.0 before.1

  -- which is shorter
  pub back-shorter : length_at ways last.from < length_at ways here
  back-shorter = let p = length-is ways here w e in let q = length-is ways last.from before.0 before.1 in omega (arith, p, q, before.2)

  -- one more action is gathered
  pub back-follows : (at : ℕ) (back more : List Action) → more ≡ back ++ last.action ∷ [] →
      ((front : List Action) → Follows ways here front → Follows ways at (front ++ reverse back)) → (front : List Action) →
      Follows ways last.from front → Follows ways at (front ++ reverse more)
  back-follows at back more grown h front f =
      let whole : Follows ways here (front ++ last.action ∷ []) = onward here w last front (front ++ last.action ∷ []) e is f refl in
      let turned : reverse more ≡ last.action ∷ reverse back = ap reverse grown ∙ reverse-append back (last.action ∷ []) in
      subst (Follows ways at) (append_assoc front (last.action ∷ []) (reverse back) ∙ ap (λ us. front ++ us) (sym turned))
      (h (front ++ last.action ∷ []) whole)

-- at the root nothing is left
pub back-at-root : (ways : List Way) (here at : ℕ) (w : Way) (back : List Action) → slice_get ways here ≡ Some w → w.last ≡ None →
    ((front : List Action) → Follows ways here front → Follows ways at (front ++ reverse back)) → Follows ways at (reverse back)
back-at-root ways here at w back e none h = h [] (at_root here w e none)

-- the gathered actions are put in their order
pub turn-one : (path rest old : List Action) (a : Action) → old ≡ rest ++ a ∷ [] → (path ++ a ∷ []) ++ reverse rest ≡ path ++ reverse old
turn-one path rest old a e = append_assoc path (a ∷ []) (reverse rest) ∙
    ap (λ us. path ++ us) (sym (ap reverse e ∙ reverse-append rest (a ∷ [])))
