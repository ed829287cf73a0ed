use Rattle.std.proofs.Common.{sym, ap, ◌∙◌}
use Rattle.tl_eval.specs.Frames.{assignment_in}
use Rattle.tl_eval.specs.Notes.{operation_of}
use Rattle.tl_syntax.specs.TreeOfTerm.{tree_of_term}
use Rattle.tl_terms.specs.Looked.{leaves_open, looked_in_term}
use Rattle.tl_eval.proofs.TermLaws.{among-left}
use Rattle.tl_eval.proofs.BasicLaws.{second-noted}
use Rattle.tl_eval.proofs.basic_truth.sides_compared.Goals as goal

pub returns-in-Err-value_of_term : goal.returns-in-Err-value_of_term
returns-in-Err-value_of_term c =
    second-noted _ _ _ _ (ap (leaves_open c.args.cmp) (sym c.in-Ok.ensures.0) ∙ (sym c.goes_on.ensures ∙ c.if-goes_on.true))
    c.in-Err-value_of_term.ensures

pub returns-in-Err : goal.returns-in-Err
returns-in-Err c = (
  among-left (operation_of c.in-Err.note) (looked_in_term c.args.w.now (assignment_in c.args.frame.now)
      (tree_of_term c.args.left.now)) _ c.in-Err.ensures.0,
  c.in-Err.ensures.1,
)
