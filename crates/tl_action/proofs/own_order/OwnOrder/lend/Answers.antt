use Rattle.std.proofs.Common.{List, [], sym, ap, ◌∙◌}
use Rattle.tl_action.specs.Join.{new_from}
use Rattle.tl_action.proofs.OwnOrders.{first-first}
use Rattle.tl_syntax.specs.declared.bound.Bound.{Bound}
use Rattle.tl_action.proofs.own_order.OwnOrder.lend.Goals as goal

pub invariant_of-result : goal.invariant_of-result
invariant_of-result c =
    let own = c.self.view_is ∙ c.requires in
    let o = c.args.operator.now in
    record {
      new_parameters_are = ap (λ v. v.items) c.replace-new_parameters.ensures.value ∙
          (ap (λ x. x.0) own ∙ ap (λ (bs : List Bound). new_from o.params [] bs) (sym (first-first o.bounds)));
      sure_is = ap (λ x. x.1) own;
    }
