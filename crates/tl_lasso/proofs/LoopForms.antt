-- The forms of a plan file with a repeated part.
use Rattle.std.proofs.Common.{◌≡◌, ◌<◌, ◌-◌, ℕ, zero, suc, List, [], ◌∷◌, ◌++◌, take, length, get_or, Bool, true, false, true≢false, Option}
use Rattle.std.proofs.Common.{Some, None, Result, Ok, Err, IsErrAnd, refl, sym, ap, ap₂, ◌∙◌, subst, arith}
use Rattle.std.specs.Prelude.{codes, ◌==◌, if◌then◌else◌}
use Rattle.tl_sexpr.specs.declared.form.Form.{Form}
use Rattle.tl_sexpr.specs.Tree.{FormTree, FormTrees, no_form, more_forms, tree_of}
use Rattle.tl_rules.specs.declared.rule.FormFault.{FormFault}
use Rattle.tl_rules.specs.Parts.{count, is_word}
use Rattle.tl_rules.specs.Reads.{trees_in}
use Rattle.tl_rules.specs.Rules.{Break}
use Rattle.tl_line.specs.ActionLists.{actions_breaks}
use Rattle.tl_line.specs.MeaningOfActions.{actions_meant}
use Rattle.tl_lasso.specs.LoopFiles.{front_of, last_form, loop_breaks_by, loop_breaks, repeat_breaks, repeated_in}
use Rattle.tl_lasso.specs.MeaningOfLoops.{loop_meant_by, loop_meant, repeat_meant}
use Rattle.tl_lasso.specs.declared.plan.LoopPlan.{LoopPlan}
use Rattle.tl_syntax.specs.declared.action.Action.{Action}
use Rattle.tl_syntax.specs.declared.operator.Operator.{Operator}

-- the word and some forms after it
pub repeated-some : (word : FormTree) (rest : List Form) → is_word (codes "repeat") word ≡ true → (length rest == 0) ≡ false →
    repeated_in (more_forms word (trees_in rest)) ≡ Some (trees_in rest)
repeated-some word [] w h = absurd (true≢false h)
repeated-some word (f ∷ rest) w h = ap (λ (b : Bool). if b then Some (trees_in (f ∷ rest)) else None) w

-- another word
pub repeated-other : (word : FormTree) (rest : FormTrees) → is_word (codes "repeat") word ≡ false → repeated_in (more_forms word rest) ≡
    None
repeated-other word no_form w = refl
repeated-other word (more_forms f fs) w = ap (λ (b : Bool). if b then Some (more_forms f fs) else None) w

pub ruleset repeated_elements = (repeated-other)

-- the last form and those before it
pub split-at : (xs : List Form) (y : Form) (n : ℕ) → 0 < length xs → n ≡ length xs - 1 → y ≡ get_or xs n y →
    (front_of (trees_in xs) ≡ trees_in (take n xs)) × (last_form (trees_in xs) ≡ Some (tree_of y))
split-at [] y n h k q = absurd (omega arith)
split-at (x ∷ []) y zero h k q = (refl, ap (λ (z : Form). Some (tree_of z)) (sym q))
split-at (x ∷ []) y (suc n) h k q = absurd (omega arith)
split-at (x ∷ z ∷ xs) y zero h k q = absurd (omega arith)
split-at (x ∷ z ∷ xs) y (suc n) h k q = let rest = split-at (z ∷ xs) y n (omega arith) (omega arith) q in
    (ap (λ (fs : FormTrees). more_forms (tree_of x) fs) rest.0, rest.1)

module _ (names : List (List ℕ)) (operators : List Operator) where
  -- as many actions as forms
  meant-count : (fs : FormTrees) → length (actions_meant names operators fs) ≡ count fs
  meant-count no_form = refl
  meant-count (more_forms f fs) = let rest = meant-count fs in omega arith

  module _ (fs front : FormTrees) (last : FormTree) (before : front_of fs ≡ front) (end : last_form fs ≡ Some last) (stem : List Action)
      (none : actions_breaks names operators 0 front ≡ []) (meant : stem ≡ actions_meant names operators front) where
    -- where the actions before it break nothing, the file breaks what its last form breaks
    pub loop-last : (n : ℕ) → n ≡ length stem → loop_breaks names operators fs ≡ repeat_breaks names operators n last
    loop-last n q =
        let same : count front ≡ n = sym (q ∙ (ap length meant ∙ meant-count front)) in
        ap (λ (o : Option FormTree). loop_breaks_by names operators (front_of fs) o) end
        ∙ (ap (λ (gs : FormTrees). actions_breaks names operators 0 gs ++ repeat_breaks names operators (count gs) last) before
        ∙ ap₂ (λ (bs : List Break) (k : ℕ). bs ++ repeat_breaks names operators k last) none same)

    pub loop-both : (cycle : List Action) → cycle ≡ repeat_meant names operators last → record { stem = stem; cycle = cycle } ≡
        loop_meant names operators fs
    loop-both cycle q = sym (ap (λ (o : Option FormTree). loop_meant_by names operators (front_of fs) o) end
        ∙ (ap (λ (gs : FormTrees). loop_meant_by names operators gs (Some last)) before ∙
        ap₂ (λ (xs ys : List Action). let plan : LoopPlan = record { stem = xs; cycle = ys } in plan) (sym meant) (sym q)))

-- the exit of a `?`
pub handed : (P : Result LoopPlan FormFault → Type 0) (r : Result LoopPlan FormFault) (x : FormFault) → IsErrAnd r (λ y. y ≡ x) →
    P (Err x) → P r
handed P (Ok a) x same h = absurd same
handed P (Err y) x same h = subst (λ (z : FormFault). P (Err z)) (sym same) h
