-- The tuples of a bound are the matches of its pattern.
use Rattle.std.proofs.Common.{◌≡◌, ℕ, List, length, Bool, true, false, Option, Some, None, refl, sym, ◌∙◌, subst}
use Rattle.std.specs.Prelude.{IfSome}
use Rattle.tl_eval.specs.Binders.{IsNextTuple}
use Rattle.tl_eval.specs.BoundTuples.{ReadsWhatStands, ComesToNext, ReadsSameBound, HasOneForEach}
use Rattle.tl_eval.specs.InPlace.{in_place}
use Rattle.tl_eval.specs.PatternOf.{world_read, IsPatternOf}
use Rattle.tl_eval.proofs.TupleSearch.{found-next, never-next}
use Rattle.tl_syntax.specs.declared.bound.Bound.{Bound}
use Rattle.tl_syntax.specs.declared.value.Value.{Value}
use Rattle.tl_syntax.specs.declared.variable.Var.{Var}
use Rattle.tl_syntax.specs.Assignment.{Assignment}
use Rattle.tl_terms.specs.Situation.{Situation}
use Rattle.tl_terms.specs.World.{World}
use Rattle.tl_match.specs.declared.pattern.Pattern.{Pattern}
use Rattle.tl_world.specs.MatchReading.{Reading, ReadsOn, IsNextBy, pattern_if}
use Rattle.tl_match.specs.Next.{IsNext}
use Rattle.tl_match.specs.Patterns.{IsLawful}

pub same-pattern : (b : Bool) (p : Pattern) → in_place b p ≡ pattern_if b p
same-pattern true p = refl
same-pattern false p = refl

-- the pattern of a bound is lawful
pub stands-lawful : (ss : List Var) (e : Assignment) (b : Bound) (o : Option Pattern) → IsPatternOf ss e b o → IfSome o IsLawful
stands-lawful ss e b None h = tt
stands-lawful ss e b (Some p) h = h.lawful

-- before the first tuple
pub begins_reading : (s : Situation) (b : Bound) (p : Option Pattern) (r : Reading) → r.world ≡ world_read s b → r.pattern ≡ p → r.tuple ≡
    None → ReadsWhatStands s b p r
begins_reading s b p r world pattern tuple ss e stands = record {
  stands = subst (IsPatternOf ss e b) (sym pattern) stands;
  world = world;
  size = subst (λ (o : Option (List Value)). IfSome o (λ t. length t ≡ length ss)) (sym tuple) tt;
}

next-by : (s : Situation) (ss : List Var) (e : Assignment) (b : Bound) (w : World) (o : Option Pattern) (after next : Option (List Value)) →
    IsPatternOf ss e b o → w ≡ world_read s b → IsNextBy w o after next → IsNextTuple s ss e b after next
next-by s ss e b w None after next stands k n = subst (IsNextTuple s ss e b after) (sym n) (never-next ss e b None s after refl stands)
next-by s ss e b w (Some p) after next stands k n = found-next ss e b (Some p) p s w after next refl stands k n

next-size : (k : ℕ) (test : List Value → Bool) (after next : Option (List Value)) → IsNext k test after next →
    IfSome next (λ t. length t ≡ k)
next-size k test after None h = tt
next-size k test after (Some m) h = h.0.0

-- the next match is the next tuple
pub comes_on : (old new : Reading) → ReadsOn old new → ComesToNext old new
comes_on old new on s b ss e reads = next-by s ss e b old.world old.pattern old.tuple new.tuple reads.stands reads.world on.next

-- of the same bound
pub stays_with : (old new : Reading) → ReadsOn old new → ReadsSameBound old new
stays_with old new on s b ss e reads = record {
  stands = subst (IsPatternOf ss e b) (sym on.pattern) reads.stands;
  world = on.world ∙ reads.world;
  size = next-size (length ss) _ old.tuple new.tuple (comes_on old new on s b ss e reads);
}

-- with a value for each variable
pub has_one : (r : Reading) (values : List Value) → r.tuple ≡ Some values → HasOneForEach r values
has_one r values is s ss e b reads = subst (λ (o : Option (List Value)). IfSome o (λ t. length t ≡ length ss)) is reads.size
