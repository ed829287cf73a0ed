-- The number of a world that changes make, where the world is made.
use Rattle.std.proofs.Common.{◌≡◌, ◌⊎◌, ℕ, ◌<◌, ◌≤◌, List, length, get_or, slice_get, Some, None, sym, ap, ◌∙◌, subst, arith, inl, inr}
use Rattle.std.proofs.lemmas.Option.{slice_get_cases}
use Rattle.std.specs.Prelude.{Result, Ok, Err, IfOk}
use Rattle.tl_syntax.specs.declared.fact.Fact.{Fact}
use Rattle.tl_syntax.specs.declared.memory.NoMemory.{NoMemory}
use Rattle.tl_syntax.specs.declared.place_value.PlaceValue.{PlaceValue}
use Rattle.tl_terms.specs.World.{World}
use Rattle.tl_world.specs.Edits.{changed_facts, changed_places}
use Rattle.tl_known.specs.NumberedLists.{IsAdded, IsOnce, Stay}
use Rattle.tl_known.specs.Unchanged.{changed_world, IsNumberAfter}
use Rattle.tl_known.proofs.Unchanged.{number-after}

module _ (ws : List World) (from : ℕ) (dels adds : List Fact) (sets : List PlaceValue) where
  -- the world after the changes has one number at most
  pub one-after : (r n : ℕ) → from < length ws → IsOnce ws → IsNumberAfter ws from dels adds sets r →
      IsNumberAfter ws from dels adds sets n → r ≡ n
  one-after r n below once p q = by (slice_get_cases ws from).1
    where
      by : ((x : World) × (from < length ws) × (slice_get ws from ≡ Some x) × (get_or ws from x ≡ x)) ⊎
          ((length ws ≤ from) × (slice_get ws from ≡ None)) → r ≡ n
      by (inl w) = once r n (changed_world w.0 dels adds sets) (p w.0 w.2) (q w.0 w.2)
      by (inr past) = let over = past.0 in absurd (omega (arith, over, below))

  module _ (vs : List World) (before next : World) (at : slice_get ws from ≡ Some before)
      (facts : next.facts ≡ changed_facts before.facts dels adds) (places : next.places ≡ changed_places before.places sets) where
    next-is : next ≡ changed_world before dels adds sets
    next-is = λ i. record { facts = facts i; places = places i }

    pub number-made : (r : Result ℕ NoMemory) → Stay ws vs → IfOk r (λ n. slice_get vs n ≡ Some next) →
        IfOk r (IsNumberAfter vs from dels adds sets)
    number-made (Err e) stay h = h
    number-made (Ok n) stay h = number-after vs from n before next dels adds sets (stay from before at) h facts places

    pub known-made : (r : Result ℕ NoMemory) → ((n : ℕ) → slice_get ws n ≡ Some next → r ≡ Ok n) →
        IfOk r (λ m. (n : ℕ) → IsNumberAfter ws from dels adds sets n → m ≡ n)
    known-made (Err e) h = tt
    known-made (Ok m) h = λ n p. let both : Ok m ≡ Ok n = h n (p before at ∙ ap (λ v. Some v) (sym next-is)) in cc

    pub kept-made : IsAdded ws next vs → (w : World) → slice_get ws from ≡ Some w → IsAdded ws (changed_world w dels adds sets) vs
    kept-made h w e =
        let same : before ≡ w = let both : Some before ≡ Some w = sym at ∙ e in cc in
        subst (λ x. IsAdded ws x vs) (next-is ∙ ap (λ v. changed_world v dels adds sets) same) h
