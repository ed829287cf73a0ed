use Rattle.std.proofs.Common.{List, Bool, sym, ap, ◌∙◌}
use Rattle.tl_check.proofs.AtomLaws.{if-ok, if-some, fact_bound-marks}
use Rattle.tl_eval.specs.Frames.{assignment_in}
use Rattle.tl_syntax.specs.declared.variable.Arg.{Arg}
use Rattle.tl_terms.specs.Bounds.{arg_values}
use Rattle.tl_check.specs.StatesAlong.{states_along, course_along}
use Rattle.tl_check.proofs.atoms.fact_bound_labels.Goals as goal

pub returns-in-Some : goal.returns-in-Some
returns-in-Some c =
    let p = course_along c.args.along.now in
    let e = assignment_in c.args.env.now in
    let ws = states_along c.args.along.now in
    let row = sym c.in-Some.is ∙ (c.in_ok-row.ensures ∙ ap (λ (xs : List Arg). arg_values e xs) c.as_slice.ensures) in
    if-ok _ _ (λ o. if-some _ _ (λ (labels : List Bool) h. h ∙ fact_bound-marks p e ws c.args.span c.args.pred c.args.args.now c.in-Some.row
    row) o) c.fact_labels.result c.fact_labels.ensures
