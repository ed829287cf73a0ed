-- Offsets of forms in reading order.
use Rattle.std.proofs.Common.{ℕ, ◌+◌, ◌<◌, ◌≤◌, arith}
use Rattle.tl_sexpr.specs.Offsets.{RisesFrom, RiseFrom}
use Rattle.tl_sexpr.specs.Tree.{FormTree, FormTrees, symbol, integer, list, no_form, more_forms}
use Rattle.tl_rules.specs.Parts.{offset_of, rest_of}

mutual
  -- a form begins at the first number or after it, and before the second
  pub form-within : (f : FormTree) (low next : ℕ) → RisesFrom low f next → (low ≤ offset_of f) × (offset_of f < next)
  form-within (symbol text at) low next h = (h.0, h.1)
  form-within (integer z at) low next h = (h.0, h.1)
  form-within (list fs at) low next h = let parts = forms-within fs (at + 1) next h.1 in (h.0, omega arith)

  pub forms-within : (fs : FormTrees) (low next : ℕ) → RiseFrom low fs next → low ≤ next
  forms-within no_form low next h = h
  forms-within (more_forms f fs) low next h =
      let first = form-within f low h.0 h.1 in
      let later = forms-within fs h.0 next h.2 in
      omega (arith, first.0, first.1, later)

forms-from : (low later : ℕ) (fs : FormTrees) (next : ℕ) → low ≤ later → RiseFrom later fs next → RiseFrom low fs next
forms-from low later no_form next le h = omega arith
forms-from low later (more_forms f fs) next le h = (h.0, form-from f h.1, h.2)
  where
    form-from : (f : FormTree) → RisesFrom later f h.0 → RisesFrom low f h.0
    form-from (symbol text at) r = (omega (arith, r.0), r.1)
    form-from (integer z at) r = (omega (arith, r.0), r.1)
    form-from (list gs at) r = (omega (arith, r.0), r.1)

-- the elements of a list after the first stand after it
pub rest-rises : (f : FormTree) (low next : ℕ) → RisesFrom low f next → RiseFrom (offset_of f + 1) (rest_of f) next
rest-rises (symbol text at) low next h = omega (arith, h.1)
rest-rises (integer z at) low next h = omega (arith, h.1)
rest-rises (list no_form at) low next h = h.1
rest-rises (list (more_forms f fs) at) low next h =
    let rises = h.1 in
    let first = form-within f (at + 1) rises.0 rises.1 in
    forms-from (at + 1) rises.0 fs next (omega (arith, first.0, first.1)) rises.2
