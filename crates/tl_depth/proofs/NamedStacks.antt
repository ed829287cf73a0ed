-- What a search holds stays named.
use Rattle.std.proofs.Common.{◌≡◌, ℕ, zero, suc, List, [], ◌∷◌, ◌++◌, drop, refl, sym, ap, ◌∙◌, subst, arith}
use Rattle.tl_syntax.specs.declared.action.Action.{Action}
use Rattle.tl_syntax.proofs.ListLaws.{Each-append}
use Rattle.tl_world.specs.declared.task.Task.{Task}
use Rattle.tl_search.specs.Calls.{AreNamedIn}
use Rattle.tl_search.specs.Faults.{TellsPair}
use Rattle.tl_search.specs.NamedAnswers.{IsNamedIn, EventsAreNamed, FaultIsNamed}
use Rattle.tl_search.specs.declared.fault.SearchFault.{SearchFault}
use Rattle.tl_search.specs.declared.fault.SearchFault.TheVariants as fault
use Rattle.tl_search.specs.declared.fault.SpaceFault.{SpaceFault}
use Rattle.tl_search.specs.declared.fault.SpaceFault.TheVariants as space
use Rattle.tl_depth.specs.Levels.{path_of, stepped}
use Rattle.tl_depth.specs.NamedStacks.{StackIsNamed, SearchIsNamed}
use Rattle.tl_depth.specs.Search.{at_hand}
use Rattle.tl_depth.specs.declared.level.Level.{Level}
use Rattle.tl_depth.specs.declared.stack.DepthFirst.{DepthFirst}
use Rattle.tl_depth.proofs.Ends.{last-of}

module _ (task : Task) where
  of-drop : (k : ℕ) (us : List Action) → AreNamedIn task us → AreNamedIn task (drop k us)
  of-drop zero us h = h
  of-drop (suc k) [] h = tt
  of-drop (suc k) (u ∷ us) h = of-drop k us h.1

  of-hand : (us : List Action) → AreNamedIn task us → AreNamedIn task (at_hand us)
  of-hand [] h = tt
  of-hand (u ∷ us) h = (h.0, tt)

  -- the actions that the levels are at
  pub path-of-named : (levels : List Level) → StackIsNamed task levels → AreNamedIn task (path_of levels)
  path-of-named [] h = tt
  path-of-named (c ∷ levels) h = (Each-append (IsNamedIn task) (at_hand (drop c.tried c.actions)) (path_of levels)).1
      (of-hand (drop c.tried c.actions) (of-drop c.tried c.actions h.0), path-of-named levels h.1)

  -- so is the fault that tells them
  pub levels-named : (levels : List Level) (s : SpaceFault) (f : SearchFault) → TellsPair (path_of levels) s f → StackIsNamed task levels →
      FaultIsNamed task f
  levels-named levels s fault.NoMemory t h = tt
  levels-named levels (space.RangeHere note) (fault.Range path o) t h = subst (AreNamedIn task) (sym t.0) (path-of-named levels h)
  levels-named levels (space.RangeAfter note) (fault.Range path o) t h = absurd t
  levels-named levels space.NoMemory (fault.Range path o) t h = absurd t

  -- one more level
  pub stack-more : (front : List Level) (c : Level) → StackIsNamed task front → AreNamedIn task c.actions →
      StackIsNamed task (front ++ c ∷ [])
  stack-more front c h k = (Each-append (λ (d : Level). AreNamedIn task d.actions) front (c ∷ [])).1 (h, (k, tt))

  -- the levels below the top, and the top
  pub stack-split : (levels front : List Level) (c : Level) → levels ≡ front ++ c ∷ [] → StackIsNamed task levels →
      StackIsNamed task front × AreNamedIn task c.actions
  stack-split levels front c is h = let k = (Each-append (λ (d : Level). AreNamedIn task d.actions) front (c ∷ [])).0
      (subst (StackIsNamed task) is h) in (k.0, k.1.0)

  -- the top is done with its next action
  pub stack-stepped : (levels front after : List Level) (c : Level) → levels ≡ front ++ c ∷ [] → after ≡ front ++ stepped c ∷ [] →
      StackIsNamed task levels → StackIsNamed task after
  stack-stepped levels front after c is then h = let k = stack-split levels front c is h in
      subst (StackIsNamed task) (sym then) (stack-more front (stepped c) k.0 k.1)

  -- the top is done with
  pub stack-left : (levels front after : List Level) (c : Level) → levels ≡ front ++ c ∷ [] → ((d : Level) → levels ≡ d ∷ [] → after ≡ [])
      → ((us : List Level) (h d : Level) → levels ≡ (us ++ h ∷ []) ++ d ∷ [] → after ≡ us ++ stepped h ∷ []) → StackIsNamed task levels →
      StackIsNamed task after
  stack-left levels [] after c is root below h = subst (StackIsNamed task) (sym (root c is)) tt
  stack-left levels (x ∷ xs) after c is root below h =
      let v = last-of (x ∷ xs) (omega arith) in
      let whole : levels ≡ (v.0 ++ v.1 ∷ []) ++ c ∷ [] = is ∙ ap (λ us. us ++ c ∷ []) v.2 in
      let k = stack-split levels (v.0 ++ v.1 ∷ []) c whole h in
      stack-stepped (v.0 ++ v.1 ∷ []) v.0 after v.1 refl (below v.0 v.1 c whole) k.0

  -- the walk with another stack, and with the same events
  pub search-with : (old new : DepthFirst) → StackIsNamed task new.stack.items → new.events ≡ old.events → SearchIsNamed task old →
      SearchIsNamed task new
  search-with old new h same w = record { stack = h; events = subst (EventsAreNamed task) (sym same) w.events }
