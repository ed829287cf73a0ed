-- A pair's actions are tried one after another.
use Rattle.std.proofs.Common.{◌≡◌, ◌≤◌, ℕ, zero, suc, ◌+◌, List, [], ◌∷◌, length, drop, slice_get, Option, Some, None, IsTrue, is_some}
use Rattle.std.proofs.Common.{refl, sym, ap, ◌∙◌, subst, arith}
use Rattle.tl_syntax.specs.declared.action.Action.{Action}
use Rattle.tl_terms.specs.Problem.{PlainProblem}
use Rattle.tl_terms.specs.Step.{step}
use Rattle.tl_world.specs.declared.task.Task.{Task}
use Rattle.tl_search.specs.KeptPairs.{KeptPair}
use Rattle.tl_search.specs.ListedActions.{ListsActions}
use Rattle.tl_search.proofs.ListLaws.{among-at, get-one}
use Rattle.tl_cost.specs.Ongoing.{IsBetweenTurns, IsInTurn}
use Rattle.tl_cost.specs.Outcomes.{IsUnaccepted, OpensAsMany}
use Rattle.tl_cost.specs.Ticks.{Extends}
use Rattle.tl_cost.specs.Ways.{is_listed, listed_len}
use Rattle.tl_cost.specs.declared.ways.Found.{Found}
use Rattle.tl_cost.proofs.Settling.{list-actions}

drop-next : (xs : List Action) (k : ℕ) (a : Action) → slice_get xs k ≡ Some a → drop k xs ≡ a ∷ drop (k + 1) xs
drop-next xs k a e = go xs k e ∙ ap (λ n. a ∷ drop n xs) (let q : suc k ≡ k + 1 = omega arith in q)
  where
    go : (ys : List Action) (n : ℕ) → slice_get ys n ≡ Some a → drop n ys ≡ a ∷ drop (suc n) ys
    go [] n f = cc
    go (y ∷ ys) zero f = ap (λ z. z ∷ ys) (let d : y ≡ a = cc in d)
    go (y ∷ ys) (suc n) f = go ys n f

drop-all : (xs : List Action) (k : ℕ) → length xs ≤ k → drop k xs ≡ []
drop-all [] zero h = refl
drop-all [] (suc k) h = refl
drop-all (x ∷ xs) zero h = absurd (omega arith)
drop-all (x ∷ xs) (suc k) h = drop-all xs k (omega arith)

module _ (p : PlainProblem) (task : Task) (costs : List ℕ) (b : ℕ) (found : Found) (at : ℕ) where
  -- the pair was tested, and its actions are listed
  pub turn-begins : (old new : List KeptPair) (listed : List Action) → new ≡ old → IsInTurn p task costs b old found at None →
      IsUnaccepted p old at → ((x : KeptPair) → slice_get old at ≡ Some x → ListsActions p x.node.world listed) →
      IsInTurn p task costs b new found at (Some listed)
  turn-begins old new listed e t unaccepted lists = subst (λ xs. IsInTurn p task costs b xs found at (Some listed)) (sym e) (record {
    pair = t.pair;
    way = t.way;
    is_at = t.is_at;
    settled = t.settled;
    ongoing = list-actions p task costs b old found.ways.items (is_listed found.open_list)
        (listed_len found.open_list) at t.pair t.way t.is_at listed t.ongoing (unaccepted t.pair t.is_at.pair) (lists t.pair t.is_at.pair);
  })

  module _ (kept : List KeptPair) (listed : List Action) (k : ℕ) (t : IsInTurn p task costs b kept found at (Some (drop k listed))) where
    -- the next action has its turn
    pub turn-next : (a : Action) → slice_get listed k ≡ Some a → IsInTurn p task costs b kept found at (Some (a ∷ drop (k + 1) listed))
    turn-next a e = subst (λ rest. IsInTurn p task costs b kept found at (Some rest)) (drop-next listed k a e) t

    -- none is left
    pub turn-ends : length listed ≤ k → IsInTurn p task costs b kept found at (Some [])
    turn-ends h = subst (λ rest. IsInTurn p task costs b kept found at (Some rest)) (drop-all listed k h) t

-- a listed action can be executed
pub listed-executable : (p : PlainProblem) (old new : List KeptPair) (at k : ℕ) (a : Action) (listed : List Action) (x : KeptPair) →
    slice_get old at ≡ Some x → Extends old new → ((y : KeptPair) → slice_get old at ≡ Some y → ListsActions p y.node.world listed) →
    slice_get listed k ≡ Some a → (y : KeptPair) → slice_get new at ≡ Some y → IsTrue (is_some (step p y.node.world a))
listed-executable p old new at k a listed x e grows lists turn y f = subst (λ (z : KeptPair). IsTrue (is_some (step p z.node.world a)))
    (get-one new at x y (grows at x e) f) (((lists x e).exact a).0 (among-at listed k a turn))

-- as many pairs are settled after two parts as before the first
pub opens-on : (a b c : List KeptPair) (f g h : Found) → OpensAsMany a b f g → OpensAsMany b c g h → OpensAsMany a c f h
opens-on a b c f g h s t = omega (arith, s, t)

-- the turn is the same where the space has not changed
pub turn-same : (p q : PlainProblem) (s t : Task) (costs : List ℕ) (b : ℕ) (old new : List KeptPair) (found : Found) (at : ℕ)
    (rest : Option (List Action)) → q ≡ p → t ≡ s → new ≡ old → IsInTurn p s costs b old found at rest →
    IsInTurn q t costs b new found at rest
turn-same p q s t costs b old new found at rest e f g h =
    subst (λ (u : PlainProblem). IsInTurn u t costs b new found at rest) (sym e)
    (subst (λ (u : Task). IsInTurn p u costs b new found at rest) (sym f)
    (subst (λ us. IsInTurn p s costs b us found at rest) (sym g) h))

-- and so it is between two turns
pub between-same : (p q : PlainProblem) (s t : Task) (costs : List ℕ) (b : ℕ) (kept : List KeptPair) (found : Found) → q ≡ p → t ≡ s →
    IsBetweenTurns p s costs b kept found → IsBetweenTurns q t costs b kept found
between-same p q s t costs b kept found e f h = subst (λ (u : PlainProblem). IsBetweenTurns u t costs b kept found) (sym e)
    (subst (λ (u : Task). IsBetweenTurns p u costs b kept found) (sym f) h)
