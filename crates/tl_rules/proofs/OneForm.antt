-- The order of what a second form breaks.
use Rattle.std.proofs.Common.{ℕ, ◌*◌, arith}
use Rattle.tl_sexpr.specs.Offsets.{RiseFrom}
use Rattle.tl_sexpr.specs.Tree.{FormTrees, no_form, more_forms}
use Rattle.tl_rules.specs.declared.rule.Rule.TheVariants.{Shape}
use Rattle.tl_rules.specs.OneForm.{second_form_breaks}
use Rattle.tl_rules.specs.Parts.{offset_of}
use Rattle.tl_rules.proofs.Offsets.{form-within, forms-within}
use Rattle.tl_rules.proofs.Order.{IsInOrder, none, one}

pub second_form-order : (fs : FormTrees) (low next : ℕ) → RiseFrom low fs next → IsInOrder (64 * low) (second_form_breaks fs) (64 * next)
second_form-order no_form low next h = none (64 * low) (64 * next) (omega arith)
second_form-order (more_forms f fs) low next h =
    let first = form-within f low h.0 h.1 in
    let later = forms-within fs h.0 next h.2 in
    one Shape (offset_of f) (64 * low) (64 * next) (omega (arith, first.0)) (omega (arith, first.1))
