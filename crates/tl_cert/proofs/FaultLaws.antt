-- What a part of the check of a proof looks at is the cause of a fault past range.
use Rattle.std.proofs.Common.{◌≡◌, ◌∷◌, ◌++◌, ℕ, List, [], Option, Some, IsSome, is_some, take, slice_get, Result, Ok, Err, OnErr, refl}
use Rattle.std.proofs.Common.{sym, ap, ◌∙◌, subst, inl, inr}
use Rattle.std.specs.Option.{option_map}
use Rattle.tl_syntax.specs.declared.action.Action.{Action}
use Rattle.tl_terms.specs.Acceptance.{states_from, states}
use Rattle.tl_terms.specs.Looked.{looked_by_action, looked_by_idling, looked_by_progressing}
use Rattle.tl_terms.specs.Pairs.{Pair, pair_of}
use Rattle.tl_terms.specs.Problem.{PlainProblem}
use Rattle.tl_eval.specs.Notes.{Tells, operation_of}
use Rattle.tl_eval.specs.declared.range.RangeNote.{RangeNote}
use Rattle.tl_search.specs.KeptPairs.{KeptPair}
use Rattle.tl_search.specs.PairGraph.{pair_in}
use Rattle.tl_search.specs.declared.fault.SearchFault.{SearchFault}
use Rattle.tl_search.specs.declared.fault.SearchFault.TheVariants as fault
use Rattle.tl_search.proofs.PathLaws.{pair-onward}
use Rattle.tl_search.proofs.RangeLaws.{has-states}
use Rattle.tl_cert.specs.Causes.{IsListedBySome, IsNoneCause, IsNoneFaultOf, IsVisited}
use Rattle.tl_search.specs.Causes.{IsCausedByAcceptance, IsCausedByActions, IsCausedByChild, IsRootFault}
use Rattle.tl_search.specs.Faults.{TellsChild, TellsPair}
use Rattle.tl_search.specs.declared.fault.SpaceFault.{SpaceFault}
use Rattle.tl_search.specs.declared.fault.SpaceFault.TheVariants as space
use Rattle.tl_cert.specs.Checking.{IsActingCause, IsIdlingCause, IsJudgingCause, IsListingCause, IsProgressingCause, IsRootCause}
use Rattle.tl_cert.specs.Checking.{IsTurnCause, IsVisitCause}
use Rattle.tl_cert.specs.Links.{Lists}
use Rattle.tl_cert.specs.declared.proof.Link.{Link}
use Rattle.tl_cert.proofs.GoodLinks.{lists-end}

-- a path with a pair executes
pair-executes : (p : PlainProblem) (path : List Action) (x : Pair) → pair_of p path ≡ Some x → IsSome (states p path)
pair-executes p path x e = let h = has-states p path x e in ap is_some h.executes

module _ (p : PlainProblem) (bound : Option ℕ) (links : List Link) where
  pub fault-at-root : (f : SearchFault) → IsRootCause p f → IsNoneFaultOf p bound links f
  unfolding states_from
  fault-at-root (fault.Range path note) h = record {
    executes = subst (λ q. IsSome (states p q)) (sym h.0) refl;
    past = h.1.1;
    looked =
        inl (h.0, h.1.0);
  }
  fault-at-root fault.NoMemory h = tt

  module _ (x : KeptPair) (end : pair_of p x.path ≡ Some x.node) where
    executes-at : (path : List Action) → path ≡ x.path → IsSome (states p path)
    executes-at path e = subst (λ q. IsSome (states p q)) (sym e) (pair-executes p x.path x.node end)

    acting : (a : Action) (path : List Action) (note : RangeNote) → IsVisited p bound links x a → IsActingCause p x path note →
        IsNoneCause p bound links path (operation_of note)
    acting a path note v h = record {
      executes = executes-at path h.0;
      past = h.1.1.1;
      looked = inr (inr (inr (record { node = x; visits = a; visited = v; is_path = h.0; action = h.1.0; looked = h.1.1.0 })));
    }

    progressing : (a : Action) (path : List Action) (note : RangeNote) → IsVisited p bound links x a → IsProgressingCause p x a path note →
        IsNoneCause p bound links path (operation_of note)
    progressing a path note v h = record {
      executes = subst (λ q. IsSome (states p q)) (sym h.0) (pair-executes p (x.path ++ a ∷ []) (pair_in p x.node.formula h.1.0)
          (pair-onward p x.path a x.node end ∙ ap (option_map (pair_in p x.node.formula)) h.1.1));
      past = h.1.2.1;
      looked = inr (inl (record { node = x; action = a; visited = v; is_path = h.0; world = h.1.0; steps = h.1.1; looked = h.1.2.0 }));
    }

    idling : IsListedBySome p bound links x → (f : SearchFault) → IsIdlingCause p x f → IsNoneFaultOf p bound links f
    idling l (fault.Range path note) h = record {
      executes = executes-at path h.0;
      past = h.1.1;
      looked = inr (inr (inl (record { node = x; is_listed = l; is_path = h.0; looked = h.1.0 })));
    }
    idling l fault.NoMemory h = tt

    visiting : (a : Action) → IsVisited p bound links x a → (f : SearchFault) → IsVisitCause p a x f → IsNoneFaultOf p bound links f
    visiting a v (fault.Range path note) (inl h) = acting a path note v h
    visiting a v (fault.Range path note) (inr h) = progressing a path note v h
    visiting a v fault.NoMemory h = tt

    turning : ((a : Action) → IsVisited p bound links x a) → (f : SearchFault) → IsTurnCause p x f → IsNoneFaultOf p bound links f
    turning v (fault.Range path note) (inl h) = acting h.1.0 path note (v h.1.0) h
    turning v (fault.Range path note) (inr h) = progressing h.0 path note (v h.0) h.1
    turning v fault.NoMemory h = tt

  -- at a link after good ones
  pub fault-at-link : (before : ℕ) (link : Link) (listed : List KeptPair) (x : KeptPair) → slice_get links before ≡ Some link →
      Lists p bound (take before links) listed → slice_get listed link.from ≡ Some x → (f : SearchFault) → IsVisitCause p link.action x f →
      IsNoneFaultOf p bound links f
  fault-at-link before link listed x at lists from f h =
      visiting x (lists-end p bound (take before links) listed lists link.from x from).0 link.action
      (inl (record { before = before; link = link; is_link = at; listed = listed; lists = lists; from = from; action = refl })) f h

  -- at a listed node, where all links are good
  pub fault-at-node : (listed : List KeptPair) (k : ℕ) (x : KeptPair) → Lists p bound links listed → IsListedBySome p bound links x →
      slice_get listed k ≡ Some x → (f : SearchFault) → IsJudgingCause p bound x f → IsNoneFaultOf p bound links f
  fault-at-node listed k x lists l e f (inl h) = idling x (lists-end p bound links listed lists k x e).0 l f h
  fault-at-node listed k x lists l e f (inr h) = turning x (lists-end p bound links listed lists k x e).0
      (λ a. inr (record { listed = listed; lists = lists; number = k; node = e; asked = h.0 })) f h.1

-- ---- the path to a fault

-- at the root
pub root-told : (p : PlainProblem) (s : SpaceFault) (f : SearchFault) → TellsPair [] s f → IsRootFault p s → IsRootCause p f
root-told p s fault.NoMemory t h = tt
root-told p (space.RangeHere note) (fault.Range path o) t h = (t.0, subst (Tells (looked_by_progressing p p.first p.control)) (sym t.1) h)
root-told p (space.RangeAfter note) (fault.Range path o) t h = absurd h
root-told p space.NoMemory (fault.Range path o) t h = absurd t

-- where the actions of the node are listed
pub listing-told : (p : PlainProblem) (x : KeptPair) (s : SpaceFault) (f : SearchFault) → TellsPair x.path s f →
    IsCausedByActions p x.node s → IsListingCause p x f
listing-told p x s fault.NoMemory t h = tt
listing-told p x (space.RangeHere note) (fault.Range path o) t h = (
  t.0,
  (h.0, subst (Tells (looked_by_action p x.node.world h.0)) (sym t.1) h.1),
)
listing-told p x (space.RangeAfter note) (fault.Range path o) t h = absurd t
listing-told p x space.NoMemory (fault.Range path o) t h = absurd t

-- where it is tested whether the node is accepted
pub idling-told : (p : PlainProblem) (x : KeptPair) (s : SpaceFault) (f : SearchFault) → TellsPair x.path s f →
    IsCausedByAcceptance p x.node s → IsIdlingCause p x f
idling-told p x s fault.NoMemory t h = tt
idling-told p x (space.RangeHere note) (fault.Range path o) t h = (
  t.0,
  subst (Tells (looked_by_idling p x.node.world x.node.formula)) (sym t.1) h,
)
idling-told p x (space.RangeAfter note) (fault.Range path o) t h = absurd t
idling-told p x space.NoMemory (fault.Range path o) t h = absurd t

-- where an action of the node is visited
pub visit-told : (p : PlainProblem) (a : Action) (x : KeptPair) (s : SpaceFault) (f : SearchFault) → TellsChild x.path a s f →
    IsCausedByChild p x.node a s → IsVisitCause p a x f
visit-told p a x s fault.NoMemory t h = tt
visit-told p a x (space.RangeHere note) (fault.Range path o) t h = inl
    (t.0, (a, subst (Tells (looked_by_action p x.node.world a)) (sym t.1) h))
visit-told p a x (space.RangeAfter note) (fault.Range path o) t h = inr
    (t.0, (h.0, h.1, subst (Tells (looked_by_progressing p h.0 x.node.formula)) (sym t.1) h.2))
visit-told p a x space.NoMemory (fault.Range path o) t h = absurd t

-- a visited action is one of all actions
pub visit-turn : (p : PlainProblem) (x : KeptPair) (a : Action) (f : SearchFault) → IsVisitCause p a x f → IsTurnCause p x f
visit-turn p x a (fault.Range path note) (inl h) = inl h
visit-turn p x a (fault.Range path note) (inr h) = inr (a, h)
visit-turn p x a fault.NoMemory h = tt

-- at each exit with a fault
pub err-anyway : {A E : Type 0} (X : Type 0) (r : Result A E) → X → OnErr r X
err-anyway X (Ok a) x = tt
err-anyway X (Err e) x = x
