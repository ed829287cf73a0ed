-- What a search looks at after a path is the cause of a fault past range, and a calm search has none.
use Rattle.std.proofs.Common.{◌≡◌, ◌≤◌, ◌<◌, ◌⊎◌, ℕ, List, [], ◌∷◌, ◌++◌, length, Option, Some, None, IsSome, is_some, refl, sym, ap, ap₂}
use Rattle.std.proofs.Common.{◌∙◌, subst, inl, inr, arith}
use Rattle.tl_syntax.specs.declared.action.Action.{Action}
use Rattle.tl_syntax.specs.Lists.{Among}
use Rattle.tl_syntax.proofs.ListLaws.{Each-Among}
use Rattle.tl_terms.specs.Acceptance.{then_states, states_from, states, last_of, all_but_last}
use Rattle.tl_terms.specs.Calm.{NonePastRange, IsReached, IsCalm, IsCalmAfter}
use Rattle.tl_terms.specs.Looked.{looked_by_progressing, looked_by_idling, looked_by_action}
use Rattle.tl_terms.specs.Operations.{Operation, IsPastRange}
use Rattle.tl_terms.specs.Pairs.{residual, Pair, pair_after, pair_of, IsOpen}
use Rattle.tl_terms.specs.Problem.{PlainProblem}
use Rattle.tl_terms.specs.Step.{step}
use Rattle.tl_terms.specs.World.{World}
use Rattle.tl_search.specs.RangeCauses.{IsLookedAfter, IsRangeCause}
use Rattle.tl_search.proofs.WalkLaws.{by_last, length-snoc}
use Rattle.tl_search.proofs.PathLaws.{prefix-open, not_empty}

-- ---- the states of a path and of one with one more action

pub record HasStates (p : PlainProblem) (path : List Action) (x : Pair) : Type 0 where
  pub from : World
  pub after : List World
  pub executes : states p path ≡ Some (from ∷ after)
  pub world : x.world ≡ last_of from after
  pub formula : x.formula ≡ residual p (from ∷ after) p.control

pub has-states : (p : PlainProblem) (path : List Action) (x : Pair) → pair_of p path ≡ Some x → HasStates p path x
has-states p path x e = by_states (states p path) refl e
  where
    by_states : (o : Option (List World)) → states p path ≡ o → pair_after p o ≡ Some x → HasStates p path x
    by_states None q h = let b : ⊥ = cc in absurd b
    by_states (Some []) q h = let b : ⊥ = cc in absurd b
    by_states (Some (w ∷ ws)) q h =
        let d : record { world = last_of w ws; formula = residual p (w ∷ ws) p.control } ≡ x = cc in
        record {
          from = w;
          after = ws;
          executes = q;
          world = ap (λ (y : Pair). y.world) (sym d);
          formula =
              ap (λ (y : Pair). y.formula) (sym d);
        }

last-new : (w v : World) (ws : List World) → last_of w (ws ++ v ∷ []) ≡ v
last-new w v [] = refl
last-new w v (u ∷ ws) = last-new u v ws

front-old : (w v : World) (ws : List World) → all_but_last w (ws ++ v ∷ []) ≡ w ∷ ws
front-old w v [] = refl
front-old w v (u ∷ ws) = ap (λ us. w ∷ us) (front-old u v ws)

states-onward : (p : PlainProblem) (o : Option World) (path : List Action) (a : Action) (f v : World) (ws : List World) →
    states_from p o path ≡ Some (f ∷ ws) → step p (last_of f ws) a ≡ Some v → states_from p o (path ++ a ∷ []) ≡ Some (f ∷ (ws ++ v ∷ []))
unfolding states_from
states-onward p None path a f v ws e s = let b : ⊥ = cc in absurd b
states-onward p (Some w) [] a f v ws e s =
    let d : w ≡ f = cc in
    let n : [] ≡ ws = cc in
    let q : step p w a ≡ Some v = ap (λ u. step p u a) (ap₂ last_of d n) ∙ s in
    ap (λ u. then_states w (states_from p u [])) q ∙ (ap (λ u. Some (u ∷ (v ∷ []))) d ∙ ap (λ us. Some (f ∷ (us ++ v ∷ []))) n)
states-onward p (Some w) (b ∷ path) a f v ws e s = by_rest (states_from p (step p w b) path) refl e
    (λ u us. states-onward p (step p w b) path a u v us)
  where
    by_rest : (o : Option (List World)) → states_from p (step p w b) path ≡ o → then_states w o ≡ Some (f ∷ ws) →
        ((u : World) (us : List World) → states_from p (step p w b) path ≡ Some (u ∷ us) → step p (last_of u us) a ≡ Some v →
        states_from p (step p w b) (path ++ a ∷ []) ≡ Some (u ∷ (us ++ v ∷ []))) →
        then_states w (states_from p (step p w b) (path ++ a ∷ [])) ≡ Some (f ∷ (ws ++ v ∷ []))
    by_rest None q h r = let c : ⊥ = cc in absurd c
    by_rest (Some []) q h r = absurd (not_empty p (step p w b) path q)
    by_rest (Some (u ∷ us)) q h r =
        let d : w ≡ f = cc in
        let n : u ∷ us ≡ ws = cc in
        let t : step p (last_of u us) a ≡ Some v = ap (λ vs. step p (last_of w vs) a) n ∙ (ap (λ z. step p (last_of z ws) a) d ∙ s) in
        ap (then_states w) (r u us q t) ∙ (ap (λ z. Some (z ∷ (u ∷ us ++ v ∷ []))) d ∙ ap (λ vs. Some (f ∷ (vs ++ v ∷ []))) n)

-- ---- reached paths

executes-states : (p : PlainProblem) (path : List Action) (ws : List World) → states p path ≡ Some ws → IsSome (states p path)
executes-states p path ws e = ap is_some e

pub reached-open : (p : PlainProblem) (n : ℕ) (path : List Action) → IsOpen p path → length path ≤ n → IsSome (states p path) →
    IsReached p n path
reached-open p n path o s e = record {
  executes = e;
  short = s;
  begins = by_last (λ us. IsOpen p us → (us ≡ []) ⊎ ((front : List Action) × (a : Action) × (us ≡ front ++ a ∷ []) × IsOpen p front))
      (λ _. inl refl) (λ front a earlier h. inr (front, a, refl, prefix-open p front (a ∷ []) h)) path o;
}

-- ---- causes

module _ (p : PlainProblem) (n : ℕ) (o : Operation) (past : IsPastRange o) where
  -- progressing the control formula in the first world
  pub range-at-root : Among o (looked_by_progressing p p.first p.control) → IsRangeCause p n [] o
  unfolding states_from residual
  range-at-root m = record {
    from = p.first;
    after = [];
    executes = refl;
    reached =
        record { executes = refl; short = omega arith; begins = inl refl };
    past = past;
    looked = inl m;
  }

  module _ (path : List Action) (x : Pair) (e : pair_of p path ≡ Some x) (h : IsOpen p path) where
    -- the idling check of the pair of an open path
    pub range-by-idling : length path ≤ n → Among o (looked_by_idling p x.world x.formula) → IsRangeCause p n path o
    range-by-idling s m =
        let t = has-states p path x e in
        record {
          from = t.from;
          after = t.after;
          executes = t.executes;
          reached =
              reached-open p n path h s (executes-states p path (t.from ∷ t.after) t.executes);
          past = past;
          looked =
              inr (
                h,
                inl (subst (λ (w : World). Among o (looked_by_idling p w (residual p (t.from ∷ t.after) p.control))) t.world
                    (subst (λ f. Among o (looked_by_idling p x.world f)) t.formula m)),
              );
        }

    -- an action in its world
    pub range-by-action : length path < n → (a : Action) → Among o (looked_by_action p x.world a) → IsRangeCause p n path o
    range-by-action s a m =
        let t = has-states p path x e in
        record {
          from = t.from;
          after = t.after;
          executes = t.executes;
          reached =
              reached-open p n path h (omega arith) (executes-states p path (t.from ∷ t.after) t.executes);
          past = past;
          looked =
              inr (h, inr (s, (a, subst (λ (w : World). Among o (looked_by_action p w a)) t.world m)));
        }

    -- progressing the formula of its pair in the world after an action
    pub range-after : length path < n → (a : Action) (w : World) → step p x.world a ≡ Some w →
        Among o (looked_by_progressing p w x.formula) → IsRangeCause p n (path ++ a ∷ []) o
    range-after s a w d m =
        let t = has-states p path x e in
        let f : states p (path ++ a ∷ []) ≡ Some (t.from ∷ (t.after ++ w ∷ [])) =
        states-onward p (Some p.first) path a t.from w t.after t.executes (ap (λ v. step p v a) (sym t.world) ∙ d) in
        record {
          from = t.from;
          after = t.after ++ w ∷ [];
          executes = f;
          reached = record {
            executes = executes-states p (path ++ a ∷ []) (t.from ∷ (t.after ++ w ∷ [])) f;
            short =
                omega (arith, length-snoc path a);
            begins = inr (path, a, refl, h);
          };
          past = past;
          looked = inl (subst (λ (v : World). Among o (looked_by_progressing p v
              (residual p (all_but_last t.from (t.after ++ w ∷ [])) p.control))) (sym (last-new t.from w t.after))
              (subst (λ ws. Among o (looked_by_progressing p w (residual p ws p.control))) (sym (front-old t.from w t.after))
              (subst (λ g. Among o (looked_by_progressing p w g)) t.formula m)));
        }

-- ---- calm searches

none-among : (os : List Operation) (o : Operation) → NonePastRange os → Among o os → IsPastRange o → ⊥
none-among os o h m q = (Each-Among (λ u. IsPastRange u → ⊥) os).0 h o m q

-- a calm search meets no operation past range
pub calm-has-no-cause : (p : PlainProblem) (n : ℕ) (path : List Action) (o : Operation) → IsCalm p n → IsRangeCause p n path o → ⊥
calm-has-no-cause p n path o calm c = by_look c.looked
  where
    after : IsCalmAfter p n path c.from c.after
    after = calm path c.from c.after c.reached c.executes

    by_look : IsLookedAfter p n path c.from c.after o → ⊥
    by_look (inl m) = none-among (looked_by_progressing p (last_of c.from c.after) (residual p (all_but_last c.from c.after) p.control)) o
        after.progressing m c.past
    by_look (inr h) = by_part h.1
      where
        by_part : (Among o (looked_by_idling p (last_of c.from c.after) (residual p (c.from ∷ c.after) p.control))) ⊎
            ((length path < n) × ((a : Action) × Among o (looked_by_action p (last_of c.from c.after) a))) → ⊥
        by_part (inl m) = none-among (looked_by_idling p (last_of c.from c.after) (residual p (c.from ∷ c.after) p.control)) o
            (after.idling h.0) m c.past
        by_part (inr m) = none-among (looked_by_action p (last_of c.from c.after) m.1.0) o (after.acting h.0 m.0 m.1.0) m.1.1 c.past

-- a smaller bound leaves fewer paths to look at, and fewer actions
pub calm-with-fewer : (p : PlainProblem) (m n : ℕ) → m ≤ n → IsCalm p n → IsCalm p m
calm-with-fewer p m n l calm path from after r e =
    let c = calm path from after (record {
      executes = r.executes;
      short = (let s : length path ≤ m = r.short in omega arith);
      begins =
          r.begins;
    }) e in
    record { progressing = c.progressing; idling = c.idling; acting = λ o s a. c.acting o (omega arith) a }
