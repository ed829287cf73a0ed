-- Faults past range in the turn of a pair.
use Rattle.std.proofs.Common.{◌≡◌, ◌<◌, ℕ, List, length, Option, Some, refl, sym, subst}
use Rattle.std.proofs.lemmas.Option.{slice_get_within}
use Rattle.tl_syntax.specs.declared.action.Action.{Action}
use Rattle.tl_terms.specs.Looked.{looked_by_action, looked_by_idling, looked_by_progressing}
use Rattle.tl_terms.specs.Problem.{PlainProblem}
use Rattle.tl_terms.specs.Step.{step}
use Rattle.tl_terms.specs.World.{World}
use Rattle.tl_eval.specs.Notes.{Tells, operation_of}
use Rattle.tl_eval.specs.declared.range.RangeNote.{RangeNote}
use Rattle.tl_world.specs.declared.task.Task.{Task}
use Rattle.tl_search.specs.Calls.{AreNamedIn}
use Rattle.tl_search.specs.KeptPairs.{KeptPair}
use Rattle.tl_search.specs.NamedAnswers.{FaultIsNamed, IsNamedIn}
use Rattle.tl_search.specs.declared.fault.SearchFault.{SearchFault}
use Rattle.tl_search.specs.declared.fault.SearchFault.TheVariants as fault
use Rattle.tl_search.proofs.NamedLaws.{path-named}
use Rattle.tl_cost.specs.LeastCosts.{IsCheapestCause}
use Rattle.tl_cost.specs.Ongoing.{IsInTurn}
use Rattle.tl_cost.specs.Outcomes.{IsCheapestFault, TellsWay, TellsWayOn}
use Rattle.tl_cost.specs.Ways.{AreLinked, is_listed, listed_len}
use Rattle.tl_cost.specs.declared.ways.Found.{Found}
use Rattle.tl_cost.proofs.Answering.{are-linked, turn-acting, turn-after, turn-idling, turn-named}

module _ (p : PlainProblem) (task : Task) (costs : List ℕ) (b : ℕ) (kept : List KeptPair) (found : Found) (at : ℕ)
    (rest : Option (List Action)) (t : IsInTurn p task costs b kept found at rest) where
  -- the pair has a way
  pub turn-inside : at < length found.ways.items
  turn-inside = slice_get_within found.ways.items at t.way t.is_at.way

  pub turn-linked : AreLinked found.ways.items
  turn-linked = are-linked p task costs b kept found.ways.items (is_listed found.open_list)
      (listed_len found.open_list) t.way.cost t.way.length at rest t.ongoing

  pub fault-named : (note : RangeNote) (f : SearchFault) → TellsWay found at note f → FaultIsNamed task f
  fault-named note (fault.Range path told) h = turn-named p task costs b kept found.ways.items (is_listed found.open_list)
      (listed_len found.open_list) t.way.cost t.way.length at rest t.ongoing t.pair t.way t.is_at t.settled refl refl path h.1
  fault-named note fault.NoMemory h = tt

  pub fault-acting : (note : RangeNote) (a : Action) (f : SearchFault) → TellsWay found at note f →
      Tells (looked_by_action p t.pair.node.world a) note → IsCheapestFault p costs b f
  fault-acting note a (fault.Range path told) h k = turn-acting p task costs b kept found.ways.items (is_listed found.open_list)
      (listed_len found.open_list) t.way.cost t.way.length at rest t.ongoing t.pair t.way t.is_at t.settled refl refl path h.1 told a
      (subst (Tells (looked_by_action p t.pair.node.world a)) (sym h.0) k)
  fault-acting note a fault.NoMemory h k = tt

  pub fault-idling : (note : RangeNote) (f : SearchFault) → TellsWay found at note f →
      Tells (looked_by_idling p t.pair.node.world t.pair.node.formula) note → IsCheapestFault p costs b f
  fault-idling note (fault.Range path told) h k = turn-idling p task costs b kept found.ways.items (is_listed found.open_list)
      (listed_len found.open_list) t.way.cost t.way.length at rest t.ongoing t.pair t.way t.is_at t.settled refl refl path h.1 told
      (subst (Tells (looked_by_idling p t.pair.node.world t.pair.node.formula)) (sym h.0) k)
  fault-idling note fault.NoMemory h k = tt

  pub fault-after : (note : RangeNote) (a : Action) (f : SearchFault) → TellsWayOn found at a note f → (w : World) ×
      (step p t.pair.node.world a ≡ Some w) × Tells (looked_by_progressing p w t.pair.node.formula) note → IsCheapestFault p costs b f
  fault-after note a (fault.Range path told) h k = subst (λ us. IsCheapestCause p costs b us (operation_of told)) (sym h.1.2)
      (turn-after p task costs b kept found.ways.items (is_listed found.open_list)
      (listed_len found.open_list) t.way.cost t.way.length at rest t.ongoing t.pair t.way t.is_at t.settled refl refl h.1.0 h.1.1 told a k.0
      k.1 (subst (Tells (looked_by_progressing p k.0 t.pair.node.formula)) (sym h.0) k.2))
  fault-after note a fault.NoMemory h k = tt

  pub fault-after-named : (note : RangeNote) (a : Action) (f : SearchFault) → TellsWayOn found at a note f → IsNamedIn task a →
      FaultIsNamed task f
  fault-after-named note a (fault.Range path told) h n = subst (AreNamedIn task) (sym h.1.2)
      (path-named task h.1.0 a (turn-named p task costs b kept found.ways.items (is_listed found.open_list)
      (listed_len found.open_list) t.way.cost t.way.length at rest t.ongoing t.pair t.way t.is_at t.settled refl refl h.1.0 h.1.1) n)
  fault-after-named note a fault.NoMemory h n = tt
