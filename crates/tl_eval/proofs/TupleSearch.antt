-- The next tuple of a bound is the next match of its pattern.
use Rattle.std.proofs.Common.{◌≡◌, ℕ, List, length, Bool, true≢false, Option, Some, None, sym, ap, ◌∙◌, subst}
use Rattle.std.specs.Option.{IfSome}
use Rattle.tl_eval.specs.PatternOf.{world_read, StandsForBound, IsPatternOf}
use Rattle.tl_syntax.specs.declared.bound.Bound.{Bound}
use Rattle.tl_syntax.specs.declared.value.Value.{Value}
use Rattle.tl_syntax.specs.declared.variable.Var.{Var}
use Rattle.tl_syntax.specs.Assignment.{Assignment, bind}
use Rattle.tl_terms.specs.Bounds.{bound_true}
use Rattle.tl_terms.specs.Situation.{Situation}
use Rattle.tl_terms.specs.World.{World}
use Rattle.tl_match.specs.declared.pattern.Match.{Match}
use Rattle.tl_match.specs.declared.pattern.Pattern.{Pattern}
use Rattle.tl_match.specs.Next.{IsLater, IsNext}
use Rattle.tl_match.specs.Patterns.{makes_true, IsLawful}

-- two tests that agree on tuples of k values have the same next ones
module _ (k : ℕ) (f g : List Value → Bool) (same : (t : List Value) → length t ≡ k → f t ≡ g t) where
  later-there : (after : Option (List Value)) (t : List Value) → IsLater k f after t → IsLater k g after t
  later-there after t h = (h.0, sym (same t h.0) ∙ h.1, h.2)

  later-back : (after : Option (List Value)) (t : List Value) → IsLater k g after t → IsLater k f after t
  later-back after t h = (h.0, same t h.0 ∙ h.1, h.2)

  next-alike : (after next : Option (List Value)) → IsNext k f after next → IsNext k g after next
  next-alike after None h = λ t l. h t (later-back after t l)
  next-alike after (Some m) h = (later-there after m h.0, λ t l. h.1 t (later-back after t l))

pattern-is : (ss : List Var) (e : Assignment) (b : Bound) (r : Option Pattern) (p : Pattern) → r ≡ Some p → IsPatternOf ss e b r →
    StandsForBound ss e b p
pattern-is ss e b r p q h = subst (IsPatternOf ss e b) q h

pub pattern-lawful : (ss : List Var) (e : Assignment) (b : Bound) (r : Option Pattern) (p : Pattern) → r ≡ Some p → IsPatternOf ss e b r →
    IsLawful p
pattern-lawful ss e b r p q h = (pattern-is ss e b r p q h).lawful

-- what is asked of the match before
pub asked-after : (ss : List Var) (e : Assignment) (b : Bound) (r : Option Pattern) (p : Pattern) (after : Option Match) → r ≡ Some p →
    IsPatternOf ss e b r → IfSome after (λ m. m.len ≡ length ss) → IfSome after (λ m. m.len ≡ p.free)
asked-after ss e b r p after q h k = subst (λ n. IfSome after (λ m. m.len ≡ n)) (sym (pattern-is ss e b r p q h).free) k

pub found-len : (ss : List Var) (e : Assignment) (b : Bound) (r : Option Pattern) (p : Pattern) (next : Option Match) → r ≡ Some p →
    IsPatternOf ss e b r → IfSome next (λ m. m.len ≡ p.free) → IfSome next (λ m. m.len ≡ length ss)
found-len ss e b r p next q h k = subst (λ n. IfSome next (λ m. m.len ≡ n)) (pattern-is ss e b r p q h).free k

-- the next match of the pattern, in the world that the bound speaks of, is the next tuple of the bound
pub found-next : (ss : List Var) (e : Assignment) (b : Bound) (r : Option Pattern) (p : Pattern) (s : Situation) (w : World)
    (after next : Option (List Value)) → r ≡ Some p → IsPatternOf ss e b r → w ≡ world_read s b
    → IsNext p.free (makes_true w p) after next → IsNext (length ss) (λ t. bound_true s (bind ss t e) b) after next
found-next ss e b r p s w after next q h k n =
    let stands = pattern-is ss e b r p q h in
    next-alike (length ss) (makes_true w p) (λ t. bound_true s (bind ss t e) b)
    (λ t size. ap (λ v. makes_true v p t) k ∙ stands.same s t size) after next
    (subst (λ m. IsNext m (makes_true w p) after next) stands.free n)

-- where the bound has no pattern, it has no tuple
pub never-next : (ss : List Var) (e : Assignment) (b : Bound) (r : Option Pattern) (s : Situation) (after : Option (List Value)) → r ≡
    None → IsPatternOf ss e b r → IsNext (length ss) (λ t. bound_true s (bind ss t e) b) after None
never-next ss e b r s after q h = λ t l. true≢false (sym l.1 ∙ (subst (IsPatternOf ss e b) q h) s t l.0)
