use Rattle.tl_syntax.specs.TreeOfTerm.{tree_of_term}
use Rattle.tl_eval.proofs.BasicLaws.{sides-plain}
use Rattle.tl_eval.proofs.basic_truth.plain_comparison.Goals as goal

pub returns-in-Some-Some : goal.returns-in-Some-Some
returns-in-Some-Some c = λ w.
    sides-plain w c.args.frame.now c.args.cmp (tree_of_term c.args.left.now)
    (tree_of_term c.args.right.now) c.in-Some-Some.first c.in-Some-Some.second c.compare_values.result c.in-Some-Some.ensures
    c.in-Some-Some.ensures' c.compare_values.ensures
