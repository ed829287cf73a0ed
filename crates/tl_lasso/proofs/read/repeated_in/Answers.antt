use Rattle.std.proofs.Common.{sym, ap, ◌∙◌}
use Rattle.tl_lasso.specs.LoopFiles.{repeated_in}
use Rattle.tl_lasso.proofs.LoopForms.{repeated-some}
use Rattle.tl_sexpr.specs.Tree.{tree_of}
use Rattle.tl_lasso.proofs.read.repeated_in.Goals as goal

pub returns-then-not-is_empty : goal.returns-then-not-is_empty
returns-then-not-is_empty c =
    sym (ap repeated_in c.in-Some.ensures ∙ repeated-some (tree_of c.in-Some.word.now) c.in-Some.rest.now
    (sym c.is_word.ensures ∙ c.if-is_word.true) (sym c.is_empty.ensures ∙ c.if-not-is_empty.true))
