use Rattle.std.proofs.Common.{List, false, Option, IfSome, sym, ap, ◌∙◌, subst}
use Rattle.tl_check.proofs.TupleLaws.{tuple-labels}
use Rattle.tl_check.specs.Facts.{bound_ahead}
use Rattle.tl_check.specs.Gathered.{TellWhere}
use Rattle.tl_check.specs.Lines.{truth_from, test_in}
use Rattle.tl_check.specs.Spans.{marks_in}
use Rattle.tl_check.specs.StatesAlong.{states_along}
use Rattle.tl_check.specs.Tracks.{Lines}
use Rattle.tl_check.specs.declared.line.Change.{Change}
use Rattle.tl_syntax.specs.Assignment.{Assignment}
use Rattle.tl_terms.specs.ProblemMeaning.{plain_problem}
use Rattle.tl_check.proofs.tuples.Tuples.there.Goals as goal

pub returns-in_ok-labels-in-Some-clause-there : goal.returns-in_ok-labels-in-Some-clause-there
returns-in_ok-labels-in-Some-clause-there c = λ e b such differ occur known here.
    let p = plain_problem c.args.along.now.task.now.problem in
    let ws = states_along c.args.along.now in
    let told = subst (λ (o : Option Lines). IfSome o (TellWhere p ws e b.vars.now b.bound.now c.args.span)) c.in-Some.is such.lines in
    c.in_ok-labels-in-Some.ensures
    ∙ (ap (λ (cs : List Change). test_in (truth_from false cs) c.args.span) c.line_of.ensures
    ∙ (tuple-labels p ws e b.vars.now b.bound.now c.args.span differ occur c.in-Some.lines told c.requires.span c.args.tuple.now known
    ∙ ap (λ (x : Assignment). marks_in (bound_ahead p x b.bound.now) ws c.args.span) (sym here)))
