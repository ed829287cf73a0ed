-- The steps of turns add up.
use Rattle.std.proofs.Common.{◌≡◌, ◌≤◌, ◌⊎◌, ℕ, ◌+◌, List, [], ◌∷◌, ◌++◌, length, take, drop, slice_get, Some, IsTrue, is_some, sym, ap}
use Rattle.std.proofs.Common.{◌∙◌, subst, arith, inl, inr}
use Rattle.std.proofs.lemmas.List.{length-take-le, take-append-drop}
use Rattle.tl_syntax.specs.declared.action.Action.{Action}
use Rattle.tl_syntax.specs.Lists.{Among, Rises}
use Rattle.tl_syntax.proofs.ListLaws.{Each-append}
use Rattle.tl_terms.specs.Orders.{action_cmp}
use Rattle.tl_terms.specs.Problem.{PlainProblem}
use Rattle.tl_terms.specs.Step.{step}
use Rattle.tl_search.specs.KeptPairs.{KeptPair}
use Rattle.tl_search.specs.ListedActions.{ListsActions}
use Rattle.tl_search.proofs.ListLaws.{get-one, get-either}
use Rattle.tl_cost.specs.Ticks.{Turn, IsTurn, AreTurns, IsTickedByTurns, IsCounted, IsPairSettled, TicksTurn, Extends, StaySettled, total}
use Rattle.tl_cost.specs.declared.ways.Found.{Found}

-- a turn of no action
pub ticks-none : (p : PlainProblem) (kept : List KeptPair) (at steps : ℕ) (x : KeptPair) → slice_get kept at ≡ Some x →
    TicksTurn p kept at steps steps
ticks-none p kept at steps x e = record {
  actions = [];
  turn = record { pair = x; is_pair = e; rises = tt; executable = λ a m. absurd m };
  ticks = omega arith;
}

rises-front : (xs ys : List Action) → Rises action_cmp (xs ++ ys) → Rises action_cmp xs
rises-front [] ys h = tt
rises-front (x ∷ xs) ys h = (((Each-append _ xs ys).0 h.0).0, rises-front xs ys h.1)

among-front : (a : Action) (xs ys : List Action) → Among a xs → Among a (xs ++ ys)
among-front a [] ys m = absurd m
among-front a (x ∷ xs) ys m = elim m [ inl e ↦ inl e | inr n ↦ inr (among-front a xs ys n) ]

-- a turn of the first actions that are listed
pub ticks-listed : (p : PlainProblem) (old new : List KeptPair) (at steps more k : ℕ) (x : KeptPair) (listed : List Action) →
    slice_get old at ≡ Some x → Extends old new → ListsActions p x.node.world listed → k ≤ length listed → more ≡ steps + k →
    TicksTurn p new at steps more
ticks-listed p old new at steps more k x listed e grows l few t = record {
  actions = take k listed;
  turn = record {
    pair = x;
    is_pair = grows at x e;
    rises = rises-front (take k listed) d.0 (subst (Rises action_cmp) (sym d.1) l.rises);
    executable = λ a m y f. subst (λ (z : KeptPair). IsTrue (is_some (step p z.node.world a))) (get-one new at x y (grows at x e) f)
        ((l.exact a).0 (subst (Among a) d.1 (among-front a (take k listed) d.0 m)));
  };
  ticks = t ∙ ap (λ n. steps + n) (sym (length-take-le k listed few));
}
  where
    d : (ys : List Action) × (take k listed ++ ys ≡ listed)
    d = (drop k listed, take-append-drop k listed)

total-snoc : (ts : List Turn) (t : Turn) → total (ts ++ t ∷ []) ≡ total ts + length t.actions
total-snoc [] t = omega arith
total-snoc (s ∷ ts) t = let e = total-snoc ts t in omega (arith, e)

-- turns stay so when more is kept
turn-grows : (p : PlainProblem) (old new : List KeptPair) (t : Turn) → Extends old new → IsTurn p old t → IsTurn p new t
turn-grows p old new t grows h = record {
  pair = h.pair;
  is_pair = grows t.number h.pair h.is_pair;
  rises = h.rises;
  executable = λ a m y f. subst (λ (z : KeptPair). IsTrue (is_some (step p z.node.world a)))
      (get-one new t.number h.pair y (grows t.number h.pair h.is_pair) f) (h.executable a m h.pair h.is_pair);
}

module _ (p : PlainProblem) (from : ℕ) (old new : List KeptPair) (found : Found) (steps more at : ℕ) (grows : Extends old new)
    (c : IsCounted p from old found steps) (fresh : IsPairSettled found at → ⊥) (t : TicksTurn p new at steps more) where
  -- one more turn, of a pair that was not settled
  pub more-turns : AreTurns p new (c.turns ++ record { number = at; actions = t.actions } ∷ [])
  more-turns = record {
    differ = λ i j s u e f same. by_place i j s u same (get-either c.turns (record { number = at; actions = t.actions }) i s e)
        (get-either c.turns (record { number = at; actions = t.actions }) j u f);
    right = λ i s e. elim (get-either c.turns (record { number = at; actions = t.actions }) i s e) [
      | inl h ↦ turn-grows p old new s grows
          (c.are.right i s h)
      | inr h ↦ subst (IsTurn p new) h.1 t.turn
    ];
  }
    where
      by_place : (i j : ℕ) (s u : Turn) → s.number ≡ u.number → (slice_get c.turns i ≡ Some s) ⊎
          ((i ≡ length c.turns) × (record { number = at; actions = t.actions } ≡ s)) → (slice_get c.turns j ≡ Some u) ⊎
          ((j ≡ length c.turns) × (record { number = at; actions = t.actions } ≡ u)) → i ≡ j
      by_place i j s u same (inl h) (inl k) = c.are.differ i j s u h k same
      by_place i j s u same (inl h) (inr k) = absurd (fresh (subst (IsPairSettled found) (same ∙ ap (λ (v : Turn). v.number) (sym k.1))
          (c.settled i s h)))
      by_place i j s u same (inr h) (inl k) = absurd (fresh (subst (IsPairSettled found) (sym same ∙ ap (λ (v : Turn). v.number) (sym h.1))
          (c.settled j u k)))
      by_place i j s u same (inr h) (inr k) = h.0 ∙ sym k.0

  more-ticks : more ≡ from + total (c.turns ++ record { number = at; actions = t.actions } ∷ [])
  more-ticks = let e = total-snoc c.turns (record { number = at; actions = t.actions }) in omega (arith, e, c.ticks, t.ticks)

  pub ticked-turn : IsTickedByTurns p from new more
  ticked-turn = record { turns = c.turns ++ record { number = at; actions = t.actions } ∷ []; are = more-turns; ticks = more-ticks }

  pub counted-turn : (later : Found) → StaySettled found later → IsPairSettled later at → IsCounted p from new later more
  counted-turn later stay settled = record {
    turns = c.turns ++ record { number = at; actions = t.actions } ∷ [];
    are = more-turns;
    ticks = more-ticks;
    settled = λ i s e. elim (get-either c.turns (record { number = at; actions = t.actions }) i s e) [
      | inl h ↦ stay s.number
          (c.settled i s h)
      | inr h ↦ subst (λ (u : Turn). IsPairSettled later u.number) h.1 settled
    ];
  }
