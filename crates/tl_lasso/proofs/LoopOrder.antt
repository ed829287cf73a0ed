-- The order of what the forms of a plan file with a repeated part break.
use Rattle.std.proofs.Common.{◌≡◌, ◌≤◌, ◌<◌, ℕ, ◌+◌, ◌*◌, List, Bool, true, false, arith, Option, Some, None, refl, subst, sym}
use Rattle.std.specs.Prelude.{codes, if◌then◌else◌, Result, Ok, Err, IfErr}
use Rattle.tl_sexpr.specs.Tree.{FormTree, FormTrees, symbol, integer, list, no_form, more_forms}
use Rattle.tl_sexpr.specs.Offsets.{RisesFrom, RiseFrom, AreAsRead}
use Rattle.tl_syntax.specs.declared.operator.Operator.{Operator}
use Rattle.tl_rules.specs.declared.rule.Rule.TheVariants.{Shape}
use Rattle.tl_rules.specs.Parts.{offset_of, count, is_word}
use Rattle.tl_rules.specs.declared.rule.FormFault.{FormFault}
use Rattle.tl_rules.specs.declared.rule.FormFault.TheVariants.{Breaks, NoMemory}
use Rattle.tl_rules.specs.Reads.{Reads, IsLeastFault}
use Rattle.tl_rules.proofs.Offsets.{form-within}
use Rattle.tl_rules.proofs.Order.{first-least, IsInOrder, from, up_to, both, one}
use Rattle.tl_line.proofs.ListOrder.{actions-order}
use Rattle.tl_lasso.specs.LoopFiles.{repeated_in, repeat_breaks_at, repeat_breaks, front_of, last_form, loop_breaks_by, loop_breaks}
use Rattle.tl_lasso.specs.MeaningOfLoops.{loop_meant}
use Rattle.tl_lasso.specs.declared.plan.LoopPlan.{LoopPlan}

module _ (names : List (List ℕ)) (operators : List Operator) where
  -- ---- the repeated part

  -- the forms after the word stand in the list
  repeated-order : (before : ℕ) (fs : FormTrees) (low at next : ℕ) → low ≤ at → at < next → RiseFrom (at + 1) fs next →
      IsInOrder (64 * low) (repeat_breaks_at names operators before at (repeated_in fs)) (64 * next)
  repeated-order before no_form low at next l m h = one Shape at (64 * low) (64 * next) (omega arith) (omega arith)
  repeated-order before (more_forms word no_form) low at next l m h = one Shape at (64 * low) (64 * next) (omega arith) (omega arith)
  repeated-order before (more_forms word (more_forms f fs)) low at next l m h = by (is_word (codes "repeat") word)
    where
      first : (at + 1 ≤ offset_of word) × (offset_of word < h.0)
      first = form-within word (at + 1) h.0 h.1

      by : (b : Bool) → IsInOrder (64 * low) (repeat_breaks_at names operators before at (if b then Some (more_forms f fs) else None))
          (64 * next)
      by true = from (64 * low) (64 * h.0) (64 * next) _ (omega (arith, first.0, first.1))
          (actions-order names operators before (more_forms f fs) h.0 next h.2)
      by false = one Shape at (64 * low) (64 * next) (omega arith) (omega arith)

  repeat-order : (before : ℕ) (f : FormTree) (low next : ℕ) → RisesFrom low f next →
      IsInOrder (64 * low) (repeat_breaks names operators before f) (64 * next)
  repeat-order before (symbol text at) low next h = one Shape at (64 * low) (64 * next) (omega (arith, h.0)) (omega (arith, h.1))
  repeat-order before (integer z at) low next h = one Shape at (64 * low) (64 * next) (omega (arith, h.0)) (omega (arith, h.1))
  repeat-order before (list fs at) low next h = let within = form-within (list fs at) low next h in
      repeated-order before fs low at next within.0 within.1 h.1

  -- ---- the file

  -- the last form comes after all others
  record Ends (fs : FormTrees) (low next : ℕ) : Type 0 where
    middle : ℕ
    top : ℕ
    last : FormTree
    is : last_form fs ≡ Some last
    front : RiseFrom low (front_of fs) middle
    back : RisesFrom middle last top
    high : top ≤ next

  ends : (f : FormTree) (fs : FormTrees) (low next : ℕ) → RiseFrom low (more_forms f fs) next → Ends (more_forms f fs) low next
  ends f no_form low next h = record {
    middle = low;
    top = h.0;
    last = f;
    is = refl;
    front = (let e : low ≤ low = omega arith in e);
    back =
        h.1;
    high = h.2;
  }
  ends f (more_forms g gs) low next h =
      let k = ends g gs h.0 next h.2 in
      record { middle = k.middle; top = k.top; last = k.last; is = k.is; front = (h.0, h.1, k.front); back = k.back; high = k.high }

  loop-order : (fs : FormTrees) (next : ℕ) → 0 < next → RiseFrom 0 fs next → IsInOrder 0 (loop_breaks names operators fs) (64 * next)
  loop-order no_form next some h = one Shape 0 0 (64 * next) (omega arith) (omega arith)
  loop-order (more_forms f fs) next some h =
      let k = ends f fs 0 next h in
      let front = front_of (more_forms f fs) in
      subst (λ (o : Option FormTree). IsInOrder 0 (loop_breaks_by names operators front o) (64 * next)) (sym k.is)
      (both 0 (64 * k.middle) (64 * next) _ _ (actions-order names operators 0 front 0 k.middle k.front)
      (up_to (64 * k.middle) (64 * k.top) (64 * next) _ (omega (arith, k.high))
      (repeat-order (count front) k.last k.middle k.top k.back)))

  -- the first break of a plan file with a repeated part is the least one
  pub least-fault : (fs : FormTrees) (r : Result LoopPlan FormFault) →
      Reads (λ (x : LoopPlan). x) r (loop_breaks names operators fs) (loop_meant names operators fs) → AreAsRead fs →
      IfErr r (IsLeastFault (loop_breaks names operators fs))
  least-fault fs (Ok plan) h rise = tt
  least-fault fs (Err (Breaks broken at)) h rise = first-least 0 (64 * 4194304) (loop_breaks names operators fs) (broken, at)
      (loop-order fs 4194304 (omega arith) rise) h
  least-fault fs (Err NoMemory) h rise = tt

pub ruleset least_fault = (least-fault)
