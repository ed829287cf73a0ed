-- A term that is a variable.
use Rattle.std.proofs.Common.{◌≡◌, ◌<◌, sym, ap, subst}
use Rattle.tl_syntax.proofs.TermTrees.{tree-Var}
use Rattle.tl_syntax.specs.declared.term.Term.TheVariants as term
use Rattle.tl_syntax.specs.declared.variable.Var.{Var}
use Rattle.tl_syntax.specs.Assignment.{Assignment}
use Rattle.tl_syntax.specs.Fits.{TermFits}
use Rattle.tl_syntax.specs.Signature.{Signature}
use Rattle.tl_syntax.specs.TreeOfTerm.{tree_of_term}
use Rattle.tl_eval.specs.Notes.{Tells}
use Rattle.tl_eval.specs.declared.range.RangeNote.{RangeNote}
use Rattle.tl_terms.specs.Looked.{looked_in_term}
use Rattle.tl_terms.specs.Terms.{term_value}
use Rattle.tl_terms.specs.World.{World}

pub variable-fits : (g : Signature) (s : Var) → s.slot < 32 → TermFits g (tree_of_term (term.Var s))
unfolding TermFits
variable-fits g s h = subst (TermFits g) (sym (tree-Var s)) h

pub variable-value : (w : World) (e : Assignment) (s : Var) → term_value w e (tree_of_term (term.Var s)) ≡ e s.slot
unfolding term_value
variable-value w e s = ap (term_value w e) (tree-Var s)

-- nothing is looked at in it
pub variable-quiet : (w : World) (e : Assignment) (s : Var) (n : RangeNote) → Tells (looked_in_term w e (tree_of_term (term.Var s))) n → ⊥
unfolding looked_in_term
variable-quiet w e s n h = (subst (λ t. Tells (looked_in_term w e t) n) (tree-Var s) h).0
