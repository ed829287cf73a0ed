-- The order of what the forms of a proof file break.
use Rattle.std.proofs.Common.{◌≡◌, ◌≤◌, ◌<◌, ℕ, ◌+◌, ◌*◌, List, [], ◌∷◌, ◌++◌, true, arith, Option, Some, None, refl, subst}
use Rattle.std.specs.Prelude.{ℤ, nat_lt, not, Result, Ok, Err, IfErr}
use Rattle.tl_sexpr.specs.Tree.{FormTree, FormTrees, symbol, integer, list, no_form, more_forms}
use Rattle.tl_sexpr.specs.Offsets.{RisesFrom, RiseFrom, AreAsRead}
use Rattle.tl_syntax.specs.declared.operator.Operator.{Operator}
use Rattle.tl_rules.specs.declared.rule.Rule.TheVariants.{Shape, Limit, NoPair}
use Rattle.tl_rules.specs.Parts.{offset_of, is_call, is_within}
use Rattle.tl_rules.specs.Rules.{breaks_if}
use Rattle.tl_rules.specs.declared.rule.FormFault.{FormFault}
use Rattle.tl_rules.specs.declared.rule.FormFault.TheVariants.{Breaks, NoMemory}
use Rattle.tl_rules.specs.Reads.{Reads, IsLeastFault}
use Rattle.tl_rules.proofs.Offsets.{form-within}
use Rattle.tl_rules.proofs.Order.{first-least, IsInOrder, from, up_to, both, none, one, tested}
use Rattle.tl_line.specs.Actions.{action_breaks}
use Rattle.tl_line.proofs.ActionOrder.{call-order}
use Rattle.tl_line.specs.ActionLists.{limit_breaks}
use Rattle.tl_cert.specs.ProofFiles.{head_in, length_bound_breaks, proof_head_breaks_at, proof_head_breaks, link_in, link_breaks_at}
use Rattle.tl_cert.specs.ProofFiles.{link_breaks, links_breaks, proof_breaks}
use Rattle.tl_cert.specs.MeaningOfProofs.{proof_meant}
use Rattle.tl_cert.specs.declared.proof.Proof.{Proof}
use Rattle.tl_cert.proofs.ProofForms.{link-back, head-back}

module _ (names : List (List ℕ)) (operators : List Operator) where
  -- ---- links

  shape-order : (before at next : ℕ) → at < next → IsInOrder (64 * at) ((Shape, at) ∷ limit_breaks before at) (64 * next)
  shape-order before at next less =
      both (64 * at) (64 * at + 10) (64 * next) ((Shape, at) ∷ []) (limit_breaks before at)
      (one Shape at (64 * at) (64 * at + 10) (omega arith) (omega arith))
      (tested (not (nat_lt before 100000)) Limit at (64 * at + 10) (64 * next) (omega arith) (omega arith))

  parts-order : (before at next : ℕ) (word action : FormTree) (j : ℤ) (k : ℕ) → is_call action ≡ true →
      RiseFrom (at + 1) (more_forms word (more_forms (integer j k) (more_forms action no_form))) next →
      IsInOrder (64 * at) (limit_breaks before at ++ (breaks_if (not (is_within 0 before j)) NoPair k ++
      action_breaks names operators action)) (64 * next)
  parts-order before at next word action j k call h =
      let first = form-within word (at + 1) h.0 h.1 in
      let from_number = h.2.1 in
      let rest = h.2.2 in
      let last = form-within action h.2.0 rest.0 rest.1 in
      both (64 * at) (64 * h.0) (64 * next) _ _
      (tested (not (nat_lt before 100000)) Limit at (64 * at) (64 * h.0) (omega arith) (omega (arith, first.0, first.1)))
      (both (64 * h.0) (64 * h.2.0) (64 * next) _ _
      (tested (not (is_within 0 before j)) NoPair k (64 * h.0) (64 * h.2.0) (omega (arith, from_number.0)) (omega (arith, from_number.1)))
      (up_to (64 * h.2.0) (64 * rest.0) (64 * next) _ (omega (arith, rest.2))
      (from (64 * h.2.0) (64 * offset_of action + 30) (64 * rest.0) _ (omega (arith, last.0))
      (call-order names operators action h.2.0 rest.0 call rest.1))))

  link-order : (before : ℕ) (f : FormTree) (low next : ℕ) → RisesFrom low f next →
      IsInOrder (64 * low) (link_breaks names operators before f) (64 * next)
  link-order before (symbol text at) low next h = from (64 * low) (64 * at) (64 * next) _ (omega (arith, h.0))
      (shape-order before at next h.1)
  link-order before (integer z at) low next h = from (64 * low) (64 * at) (64 * next) _ (omega (arith, h.0))
      (shape-order before at next h.1)
  link-order before (list fs at) low next h = from (64 * low) (64 * at) (64 * next) _ (omega (arith, h.0)) (by_parts (link_in fs) refl)
    where
      inside : at < next
      inside = let w = form-within (list fs at) low next h in w.1

      by_parts : (o : Option (ℤ × ℕ × FormTree)) → link_in fs ≡ o → IsInOrder (64 * at) (link_breaks_at names operators before at o)
          (64 * next)
      by_parts None e = shape-order before at next inside
      by_parts (Some parts) e =
          let k = link-back fs parts e in
          parts-order before at next k.word parts.2 parts.0 parts.1 k.call (subst (λ gs. RiseFrom (at + 1) gs next) k.elements h.1)

  links-order : (before : ℕ) (fs : FormTrees) (low next : ℕ) → RiseFrom low fs next →
      IsInOrder (64 * low) (links_breaks names operators before fs) (64 * next)
  links-order before no_form low next h = none (64 * low) (64 * next) (omega arith)
  links-order before (more_forms f fs) low next h =
      both (64 * low) (64 * h.0) (64 * next) _ _ (link-order before f low h.0 h.1) (links-order (before + 1) fs h.0 next h.2)

  -- ---- the file

  head-order : (f : FormTree) (low next : ℕ) → RisesFrom low f next → IsInOrder (64 * low) (proof_head_breaks f) (64 * next)
  head-order (symbol text at) low next h = one Shape at (64 * low) (64 * next) (omega (arith, h.0)) (omega (arith, h.1))
  head-order (integer z at) low next h = one Shape at (64 * low) (64 * next) (omega (arith, h.0)) (omega (arith, h.1))
  head-order (list fs at) low next h = by_parts (head_in fs) refl
    where
      within : (low ≤ at) × (at < next)
      within = form-within (list fs at) low next h

      by_bound : (bound : Option (ℤ × ℕ)) → head_in fs ≡ Some bound → IsInOrder (64 * low) (length_bound_breaks bound) (64 * next)
      by_bound None e = none (64 * low) (64 * next) (omega (arith, within.0, within.1))
      by_bound (Some n) e =
          let k = head-back fs n e in
          let r = subst (λ gs. RiseFrom (at + 1) gs next) k.elements h.1 in
          let first = form-within k.word (at + 1) r.0 r.1 in
          tested (not (is_within 0 100000 n.0)) Limit n.1 (64 * low) (64 * next) (omega (arith, h.0, first.0, first.1, r.2.1.0))
          (omega (arith, r.2.1.1, r.2.2))

      by_parts : (o : Option (Option (ℤ × ℕ))) → head_in fs ≡ o → IsInOrder (64 * low) (proof_head_breaks_at at o) (64 * next)
      by_parts None e = one Shape at (64 * low) (64 * next) (omega (arith, within.0)) (omega (arith, within.1))
      by_parts (Some bound) e = by_bound bound e

  pub proof-order : (fs : FormTrees) (next : ℕ) → 0 < next → RiseFrom 0 fs next → IsInOrder 0 (proof_breaks names operators fs) (64 * next)
  proof-order no_form next some h = one Shape 0 0 (64 * next) (omega arith) (omega arith)
  proof-order (more_forms f fs) next some h = both 0 (64 * h.0) (64 * next) _ _ (head-order f 0 h.0 h.1) (links-order 0 fs h.0 next h.2)

  -- the first break of a proof file is the least one
  pub least-fault : (fs : FormTrees) (r : Result Proof FormFault) → Reads (λ (x : Proof). x) r (proof_breaks names operators fs)
      (proof_meant names operators fs) → AreAsRead fs → IfErr r (IsLeastFault (proof_breaks names operators fs))
  least-fault fs (Ok proof) h rise = tt
  least-fault fs (Err (Breaks broken at)) h rise = first-least 0 (64 * 4194304) (proof_breaks names operators fs) (broken, at)
      (proof-order fs 4194304 (omega arith) rise) h
  least-fault fs (Err NoMemory) h rise = tt

pub ruleset least_fault = (least-fault)
