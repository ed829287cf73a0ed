use Rattle.std.proofs.Common.{◌≡◌, ◌↔◌, ◌⊎◌, List, [], inl, inr, subst}
use Rattle.tl_action.specs.Join.{arranged, IsFound}
use Rattle.tl_action.proofs.BoundOrders.{arranged-same, rows-with, fault-with}
use Rattle.tl_eval.specs.Frames.{assignment_in}
use Rattle.tl_syntax.specs.declared.value.Value.{Value}
use Rattle.tl_syntax.specs.Lists.{Among}
use Rattle.tl_terms.specs.ProblemMeaning.{plain_operator, plain_problem}
use Rattle.tl_action.proofs.operator_rows.rows_by.Goals as goal

-- the rows that were added to none
added : (P : List Value → Type 0) (before after kept : List (List Value)) → before ≡ [] →
    ((t : List Value) → Among t after ↔ (Among t before ⊎ P t)) → ((t : List Value) → Among t kept ↔ Among t after) → (t : List Value) →
    Among t kept ↔ P t
added P before after kept q h k t = (
  λ m. elim ((h t).0 ((k t).0 m)) [ inl a ↦ absurd (subst (Among t) q a) | inr p ↦ p ],
  λ p. (k t).1 ((h t).1 (inr p)),
)

pub returns-in-Ok-clause-rows : goal.returns-in-Ok-clause-rows
returns-in-Ok-clause-rows c =
    let a = c.args.order.now.bounds in
    let o = arranged a in
    let p = plain_problem c.args.here.now.task.now.problem in
    let e = assignment_in c.args.env.now in
    rows-with p c.args.here.now.world.now a.operator.now o.bounds (arranged-same a) e c.in_order.result.items (record {
      all = added (IsFound p c.args.here.now.world.now (plain_operator o) [] o.bounds e) c.in_ok-rows.rows.items c.join.new.rows.items
          c.in_order.result.items c.in_ok-rows.ensures.items c.in-Ok.ensures.rows c.in_order.ensures.same;
      order = c.in_order.ensures.order;
    })

pub returns-in-Err-clause-cause : goal.returns-in-Err-clause-cause
returns-in-Err-clause-cause c =
    let a = c.args.order.now.bounds in
    let p = plain_problem c.args.here.now.task.now.problem in
    let e = assignment_in c.args.env.now in
    fault-with p c.args.here.now.world.now a.operator.now (arranged a).bounds (arranged-same a) e c.in-Err.fault c.in-Err.ensures.rows
