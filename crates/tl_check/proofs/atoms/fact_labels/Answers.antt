use Rattle.std.proofs.Common.{◌-◌, ap, ◌∙◌, false}
use Rattle.tl_check.proofs.AtomLaws.{history-marks, history-known}
use Rattle.tl_check.specs.Lines.{truth_from, test_from}
use Rattle.tl_check.specs.StatesAlong.{states_along}
use Rattle.tl_check.proofs.atoms.fact_labels.Goals as goal

pub returns-in_ok-labels-in-Some : goal.returns-in_ok-labels-in-Some
returns-in_ok-labels-in-Some c =
    let h = c.in-Some.history.now in
    c.in_ok-labels-in-Some.ensures ∙ (ap (λ cs. test_from (truth_from false cs) c.args.span.from (c.args.span.to - c.args.span.from))
    c.line.ensures
    ∙ history-marks (states_along c.args.along.now) h c.args.span c.args.pred c.args.row c.requires.span
    (history-known c.args.along.now h c.requires.along c.in-Some.ensures.1) c.in-Some.ensures.0)
