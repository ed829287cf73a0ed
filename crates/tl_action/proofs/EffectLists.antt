-- Effects in turn, each read under a frame that agrees with the first one.
use Rattle.std.proofs.Common.{◌≡◌, ◌<◌, ◌≤◌, ◌+◌, ℕ, List, [], ◌++◌, map, drop, length, get_or, Bool, true, false, Ok, IsTrue, refl, sym}
use Rattle.std.proofs.Common.{ap, ◌∙◌, subst, arith}
use Rattle.tl_action.specs.declared.changes.Changes.{Changes}
use Rattle.std.specs.List.{list_all}
use Rattle.tl_eval.specs.declared.fault.EvalFault.{EvalFault}
use Rattle.tl_eval.specs.Faults.{IsCausedBy}
use Rattle.tl_action.specs.Collected.{HasMore}
use Rattle.tl_action.specs.Agreement.{EffectReads, EffectsRead, EffectLeaves, EffectsLeave}
use Rattle.tl_action.proofs.Agreement.{agree-within, agree-through, EffectAgrees, effect-agrees}
use Rattle.tl_action.proofs.EffectSizes.{effect_nodes, effects_nodes}
use Rattle.tl_action.proofs.EffectParts.{CollectsEffect}
use Rattle.tl_action.proofs.Passed.{Passed, passed-begun, passed-on, passed-undefined, passed-fault, passed-end}
use Rattle.tl_action.proofs.Walks.{drop-opened, drop-past}
use Rattle.tl_syntax.specs.declared.effect.Effect.{Effect}
use Rattle.tl_syntax.specs.declared.effect.Effects.{Effects}
use Rattle.tl_syntax.specs.Assignment.{Assignment}
use Rattle.tl_syntax.specs.Effects.{EffectTrees, more_effects}
use Rattle.tl_syntax.specs.Fits.{EffectFits, EffectsFit}
use Rattle.tl_syntax.specs.FreeVariables.{is_slot_in, effect_slots, effects_slots, InScope}
use Rattle.tl_syntax.specs.Signature.{Signature}
use Rattle.tl_syntax.specs.StateFormulas.{EffectsAreState}
use Rattle.tl_syntax.specs.TreeOfEffect.{tree_of_effect, tree_of_effects, effects_of_list}
use Rattle.tl_syntax.proofs.EffectTrees.{trees-Effects}
use Rattle.tl_syntax.proofs.ListLaws.{Each-append}
use Rattle.tl_terms.specs.Definitions.{situation_of}
use Rattle.tl_terms.specs.Looked.{looked_in_effect, looked_in_effects, looks_of}
use Rattle.tl_terms.specs.Problem.{PlainProblem}
use Rattle.tl_terms.specs.Operations.{Operation}
use Rattle.tl_terms.specs.Step.{EffectInstance, is_defined, effect_instances, all_instances}
use Rattle.tl_terms.specs.World.{World}

-- the effects of the rest fit, speak of and are what all do, are smaller, and the changes so far are those of the others
pub record EffectsPassed (g : Signature) (p : PlainProblem) (w : World) (e : Assignment) (all rest : EffectTrees)
    (before now : Changes) : Type 0 where
  pub fits : (around : List ℕ) → EffectsFit g around all → EffectsFit g around rest
  pub scope : (around : List ℕ) → InScope around (effects_slots all) → InScope around (effects_slots rest)
  pub state : EffectsAreState rest
  pub smaller : effects_nodes rest ≤ effects_nodes all
  pub passed : Passed (all_instances (situation_of p w) e all) (looked_in_effects (looks_of p w) (situation_of p w) e all)
      (all_instances (situation_of p w) e rest) (looked_in_effects (looks_of p w) (situation_of p w) e rest) before now

pub effects-begun : (g : Signature) (p : PlainProblem) (w : World) (e : Assignment) (xs : Effects) (items : List Effect) (x : Changes) →
    items ≡ xs.items.items → EffectsAreState (tree_of_effects xs)
    → EffectsPassed g p w e (tree_of_effects xs) (effects_of_list (map tree_of_effect items)) x x
effects-begun g p w e xs items x q h =
    let same : tree_of_effects xs ≡ effects_of_list (map tree_of_effect items) = trees-Effects xs ∙
    ap (λ (ys : List Effect). effects_of_list (map tree_of_effect ys)) (sym q) in
    let nodes = ap effects_nodes same in
    record {
      fits = λ around. subst (EffectsFit g around) same;
      scope = λ around. subst (λ (ys : EffectTrees). InScope around (effects_slots ys)) same;
      state = subst EffectsAreState same h;
      smaller = omega arith;
      passed = passed-begun _ _ _ _ x (ap (all_instances (situation_of p w) e) same)
          (ap (looked_in_effects (looks_of p w) (situation_of p w) e) same);
    }

module _ (g : Signature) (p : PlainProblem) (w : World) (e : Assignment) (all : EffectTrees) (items : List Effect) (i : ℕ) (x : Effect)
    (k : i < length items) (n : x ≡ get_or items i x) (before now : Changes)
    (h : EffectsPassed g p w e all (effects_of_list (map tree_of_effect (drop i items))) before now) where
  abbrev pub others : EffectTrees
  others = effects_of_list (map tree_of_effect (drop (i + 1) items))

  pub opened : EffectsPassed g p w e all (more_effects (tree_of_effect x) others) before now
  opened = subst (λ (xs : List Effect). EffectsPassed g p w e all (effects_of_list (map tree_of_effect xs)) before now)
      (drop-opened items i x k n) h

  pub item-smaller : effect_nodes (tree_of_effect x) < effects_nodes all
  unfolding effect_nodes
  item-smaller = omega (arith, opened.smaller)

  pub item-reads : EffectsRead g all → EffectReads g (tree_of_effect x)
  unfolding EffectFits effect_slots
  item-reads r = record {
    around = r.around;
    fits = (opened.fits r.around r.fits).0;
    scope = ((Each-append (λ q. IsTrue (is_slot_in r.around q)) (effect_slots (tree_of_effect x)) (effects_slots others)).0
        (opened.scope r.around r.scope)).0;
    state = opened.state.0;
  }

  -- the effect is read as in the first frame
  pub item-agrees : EffectsRead g all → (d : Assignment) → EffectsLeave g all e d →
      EffectAgrees (looks_of p w) (situation_of p w) d e (tree_of_effect x)
  unfolding EffectFits item-reads
  item-agrees r d f = effect-agrees (looks_of p w) (situation_of p w) d e (tree_of_effect x)
      (agree-within r.around (effect_slots (tree_of_effect x)) d e (item-reads r).scope (f r.around r.fits))

  -- the frame after it
  pub frame-on : (d c : Assignment) → EffectsLeave g all e d → EffectLeaves g (tree_of_effect x) d c → EffectsLeave g all e c
  unfolding EffectFits
  frame-on d c f m around fits = agree-through around c d e (m around (opened.fits around fits).0) (f around fits)

  pub rest-is : all_instances (situation_of p w) e (more_effects (tree_of_effect x) others) ≡
      effect_instances (situation_of p w) e (tree_of_effect x) ++ all_instances (situation_of p w) e others
  unfolding effect_instances
  rest-is = refl

  pub looked-is : looked_in_effects (looks_of p w) (situation_of p w) e (more_effects (tree_of_effect x) others) ≡
      looked_in_effect (looks_of p w) (situation_of p w) e (tree_of_effect x) ++
      looked_in_effects (looks_of p w) (situation_of p w) e others
  unfolding looked_in_effect
  looked-is = refl

  -- one more was passed
  pub effects-on : (then : Changes) → Passed (all_instances (situation_of p w) e all)
      (looked_in_effects (looks_of p w) (situation_of p w) e all) (all_instances (situation_of p w) e others)
      (looked_in_effects (looks_of p w) (situation_of p w) e others) before then
      → EffectsPassed g p w e all others before then
  unfolding EffectFits effect_slots effect_nodes
  effects-on then m = record {
    fits = λ around f. (opened.fits around f).1;
    scope = λ around s. ((Each-append (λ q. IsTrue (is_slot_in around q)) (effect_slots (tree_of_effect x)) (effects_slots others)).0
        (opened.scope around s)).1;
    state = opened.state.1;
    smaller = omega (arith, opened.smaller);
    passed = m;
  }

  -- what the effect made of the changes
  module _ (r : EffectsRead g all) (d : Assignment) (f : EffectsLeave g all e d) where
    pub item-on : (then : Changes) (b : Bool) → b ≡ true → CollectsEffect p w d (tree_of_effect x) now then (Ok b) →
        EffectsPassed g p w e all others before then
    item-on then b q c =
        let k : HasMore (effect_instances (situation_of p w) d (tree_of_effect x)) now then =
        subst (λ (t : Bool). CollectsEffect p w d (tree_of_effect x) now then (Ok t)) q c in
        effects-on then (passed-on (all_instances (situation_of p w) e all)
        (all_instances (situation_of p w) e (more_effects (tree_of_effect x) others))
        (effect_instances (situation_of p w) e (tree_of_effect x)) (all_instances (situation_of p w) e others)
        (looked_in_effects (looks_of p w) (situation_of p w) e all)
        (looked_in_effects (looks_of p w) (situation_of p w) e (more_effects (tree_of_effect x) others))
        (looked_in_effect (looks_of p w) (situation_of p w) e (tree_of_effect x))
        (looked_in_effects (looks_of p w) (situation_of p w) e others) before now rest-is looked-is opened.passed then
        (subst (λ (cs : List EffectInstance). HasMore cs now then) (item-agrees r d f).instances k))

    pub item-undefined : (then : Changes) (b : Bool) → b ≡ false → CollectsEffect p w d (tree_of_effect x) now then (Ok b) →
        list_all is_defined (all_instances (situation_of p w) e all) ≡ false
    item-undefined then b q c =
        let k : list_all is_defined (effect_instances (situation_of p w) d (tree_of_effect x)) ≡ false =
        subst (λ (t : Bool). CollectsEffect p w d (tree_of_effect x) now then (Ok t)) q c in
        passed-undefined (all_instances (situation_of p w) e all) (all_instances (situation_of p w) e
        (more_effects (tree_of_effect x) others)) (effect_instances (situation_of p w) e (tree_of_effect x))
        (all_instances (situation_of p w) e others) (looked_in_effects (looks_of p w) (situation_of p w) e all)
        (looked_in_effects (looks_of p w) (situation_of p w) e (more_effects (tree_of_effect x) others))
        (looked_in_effect (looks_of p w) (situation_of p w) e (tree_of_effect x))
        (looked_in_effects (looks_of p w) (situation_of p w) e others) before now rest-is looked-is opened.passed
        (ap (list_all is_defined) (sym (item-agrees r d f).instances) ∙ k)

    pub item-fault : (a : EvalFault) → IsCausedBy (looked_in_effect (looks_of p w) (situation_of p w) d (tree_of_effect x)) a →
        IsCausedBy (looked_in_effects (looks_of p w) (situation_of p w) e all) a
    item-fault a c = passed-fault (all_instances (situation_of p w) e all)
        (all_instances (situation_of p w) e (more_effects (tree_of_effect x) others))
        (effect_instances (situation_of p w) e (tree_of_effect x)) (all_instances (situation_of p w) e others)
        (looked_in_effects (looks_of p w) (situation_of p w) e all) (looked_in_effects (looks_of p w) (situation_of p w) e
        (more_effects (tree_of_effect x) others)) (looked_in_effect (looks_of p w) (situation_of p w) e (tree_of_effect x))
        (looked_in_effects (looks_of p w) (situation_of p w) e others) before now rest-is looked-is opened.passed a
        (subst (λ (ls : List Operation). IsCausedBy ls a) (item-agrees r d f).looked c)

effects-ended : (p : PlainProblem) (w : World) (e : Assignment) (items : List Effect) (i : ℕ) → length items ≤ i →
    all_instances (situation_of p w) e (effects_of_list (map tree_of_effect (drop i items))) ≡ []
unfolding effect_instances
effects-ended p w e items i h = ap (λ (xs : List Effect). all_instances (situation_of p w) e (effects_of_list (map tree_of_effect xs)))
    (drop-past items i h)

-- all were passed
pub effects-all : (g : Signature) (p : PlainProblem) (w : World) (e : Assignment) (all : EffectTrees) (items : List Effect) (i : ℕ)
    (before now : Changes) → length items ≤ i → EffectsPassed g p w e all (effects_of_list (map tree_of_effect (drop i items))) before now
    → HasMore (all_instances (situation_of p w) e all) before now
effects-all g p w e all items i before now k h = passed-end _ _ _ _ before now (effects-ended p w e items i k) h.passed
