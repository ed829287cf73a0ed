use Rattle.std.proofs.Common.{[], ◌∷◌, ◌++◌, sym, ◌∙◌, arith}
use Rattle.tl_depth.proofs.Reading.{path-got, path-passed}
use Rattle.tl_depth.proofs.stack.path.Goals.{then-level-len+in_ok-action+in_ok-push, else-level-len}
use Rattle.tl_depth.proofs.stack.path.Goals as goal

pub loop-level-preserved : goal.loop-level-preserved
loop-level-preserved c = elim c.if-level-len.branch [
  | then-level-len+in_ok-action+in_ok-push w ↦
      w.found-is ∙ (w.in_ok-push.ensures ∙ ((λ i. c.loop-level.invariant i ++ w.in_ok-action.action ∷ []) ∙
      sym (path-got c.args.levels.now c.loop-level.level-index c.level-item.result
      (omega arith) c.level-item.is w.in_ok-action.action w.in_ok-action.ensures)))
  | else-level-len w ↦ w.found-is ∙ (c.loop-level.invariant ∙ sym (path-passed c.args.levels.now c.loop-level.level-index
      c.level-item.result (omega arith) c.level-item.is (omega arith)))
]
