use Rattle.std.proofs.Common.{ap, ◌∙◌}
use Rattle.std.specs.List.{list_all}
use Rattle.tl_action.proofs.PlacesAgree.{places-agree, few-agree, each-agrees}
use Rattle.tl_terms.specs.Acceptance.{is_value}
use Rattle.tl_terms.specs.World.{World, value_at}
use Rattle.tl_action.proofs.clash.agree.Goals as goal

pub returns-then-sets-lt2 : goal.returns-then-sets-lt2
returns-then-sets-lt2 c = few-agree c.args.sets.now c.if-sets-lt2.true

pub returns-then-sets-le-FEW : goal.returns-then-sets-le-FEW
returns-then-sets-le-FEW c = c.each_agrees.ensures ∙ each-agrees c.args.sets.now

pub returns : goal.returns
returns c = c.gives_each.ensures ∙ (ap (λ (w : World). list_all (λ s. is_value (value_at w (s.fun, s.args)) s.value) c.args.sets.now)
    c.in_ok-given.ensures.same ∙ places-agree c.args.sets.now)
