-- Readers of matches go through tuples that were gathered.
use Rattle.std.proofs.Common.{◌≡◌, ◌+◌, ℕ, List, length, drop, Bool, true, false, Option, Some, None, refl, sym, ◌∙◌, subst}
use Rattle.std.specs.Option.{IfSome}
use Rattle.std.specs.Prelude.{slice_get}
use Rattle.tl_syntax.specs.declared.value.Value.{Value}
use Rattle.tl_terms.specs.World.{World}
use Rattle.tl_match.specs.declared.pattern.Match.{Match}
use Rattle.tl_match.specs.declared.pattern.Pattern.{Pattern}
use Rattle.tl_world.specs.Gathered.{HasRest}
use Rattle.tl_world.specs.MatchReading.{pattern_if, IsNextBy, GoesThrough, CanReadOn}
use Rattle.tl_match.specs.Next.{IsNext, IsChain}
use Rattle.tl_match.specs.Patterns.{IsLawful, makes_true, tuple_of, tuple_in_place}
use Rattle.tl_world.proofs.Gathering.{chain-at, chain-on}

-- what a reader that has tuples keeps
pub record HasTuples (w : World) (has : Bool) (p : Pattern) (begun : Bool) (m : Match) (place : ℕ) (rows : Option (List (List Value)))
    (ts : List (List Value)) : Type 0 where
  pub counts : has ≡ true
  pub lawful : IsLawful p
  pub none : rows ≡ None
  pub chain : IsChain p.free (makes_true w p) (tuple_in_place begun m) (drop place ts)

pub with-tuples : (w : World) (has : Bool) (p : Pattern) (begun : Bool) (m : Match) (place : ℕ) (rows own : Option (List (List Value)))
    (ts : List (List Value)) → own ≡ Some ts
    → CanReadOn w (pattern_if has p) begun m place rows → IfSome own (HasRest w (pattern_if has p) begun m place rows) →
    HasTuples w has p begun m place rows ts
with-tuples w true p begun m place rows own ts e k rest =
    let r : HasRest w (Some p) begun m place rows ts = subst (λ o. IfSome o (HasRest w (Some p) begun m place rows)) e rest in
    record { counts = refl; lawful = k.0; none = r.0; chain = r.1 }
with-tuples w false p begun m place rows own ts e k rest = absurd (subst (λ o. IfSome o (HasRest w None begun m place rows)) e rest)

next-size : (k : ℕ) (test : List Value → Bool) (after next : Option (List Value)) → IsNext k test after next →
    IfSome next (λ t. length t ≡ k)
next-size k test after None h = tt
next-size k test after (Some t) h = h.0.0

module _ (w : World) (has : Bool) (p : Pattern) (begun : Bool) (m : Match) (place : ℕ) (rows : Option (List (List Value)))
    (ts : List (List Value)) (h : HasTuples w has p begun m place rows ts) where
  at : IsNext p.free (makes_true w p) (tuple_in_place begun m) (slice_get ts place)
  at = chain-at p.free (makes_true w p) (tuple_in_place begun m) ts place h.chain

  -- the tuple at its place has a value for each variable
  pub size-there : IfSome (slice_get ts place) (λ t. length t ≡ p.free)
  size-there = next-size p.free (makes_true w p) (tuple_in_place begun m) (slice_get ts place) at

  -- it is the next one
  pub next-there : (found : Bool) (after : Match) → tuple_in_place found after ≡ slice_get ts place →
      IsNextBy w (pattern_if has p) (tuple_in_place begun m) (tuple_in_place found after)
  next-there found after e =
      subst (λ b. IsNextBy w (pattern_if b p) (tuple_in_place begun m) (tuple_in_place found after)) (sym h.counts)
      (subst (IsNext p.free (makes_true w p) (tuple_in_place begun m)) (sym e) at)

  -- and the reader goes on behind it
  pub goes-behind : (after : Match) (next : ℕ) → tuple_in_place true after ≡ slice_get ts place → after.len ≡ p.free → next ≡ place + 1
      → CanReadOn w (pattern_if has p) true after next rows × HasRest w (pattern_if has p) true after next rows ts
  goes-behind after next e size step =
      subst (λ b. CanReadOn w (pattern_if b p) true after next rows × HasRest w (pattern_if b p) true after next rows ts) (sym h.counts)
      (subst (λ n. CanReadOn w (Some p) true after n rows × HasRest w (Some p) true after n rows ts) (sym step) (
        (h.lawful, λ _. size, subst (λ o. IfSome o (GoesThrough w p true after (place + 1))) (sym h.none) tt),
        (h.none, chain-on p.free (makes_true w p) (tuple_in_place begun m) ts place (tuple_of after) (sym e) h.chain),
      ))

-- a reader that goes through rows has no tuples
pub no-tuples : (w : World) (pattern : Option Pattern) (begun : Bool) (m : Match) (place : ℕ) (rows own : Option (List (List Value)))
    (r : List (List Value)) → rows ≡ Some r → IfSome own (HasRest w pattern begun m place rows) → own ≡ None
no-tuples w pattern begun m place rows None r e rest = refl
no-tuples w None begun m place rows (Some ts) r e rest = absurd rest
no-tuples w (Some p) begun m place rows (Some ts) r e rest = let d : Some r ≡ None = sym e ∙ rest.0 in absurd (let b : ⊥ = cc in b)
