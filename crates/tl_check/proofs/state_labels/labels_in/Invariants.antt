use Rattle.std.proofs.Common.{◌≡◌, ◌++◌, ◌-◌, ℕ, drop}
use Rattle.tl_check.specs.Ahead.{true_ahead}
use Rattle.tl_check.specs.Lines.{test_from}
use Rattle.tl_check.specs.StatesAlong.{course_along}
use Rattle.tl_eval.specs.Frames.{assignment_in}
use Rattle.tl_syntax.specs.TreeOfFormula.{tree_of_formula}
use Rattle.tl_check.proofs.state_labels.labels_in.Given as goal

abbrev pub invariant-loop-i : goal.invariant-loop-i
invariant-loop-i l =
    let t = λ (i : ℕ). true_ahead (course_along l.along) (assignment_in l.fn.env) (tree_of_formula l.f) (drop i l.worlds) in
    record {
      frame : l.env ≡ l.fn.env;
      so_far : l.labels ++ test_from t l.i (l.fn.span.to - l.i) ≡ test_from t l.fn.span.from (l.fn.span.to - l.fn.span.from);
    }
