use Rattle.tl_depth.specs.NamedStacks.{SearchIsNamed}
use Rattle.tl_search.specs.KeptPairs.{pairs_of}
use Rattle.std.proofs.Common.{◌+◌, None, refl, sym, ap, subst}
use Rattle.tl_depth.specs.Ongoing.{Judged}
use Rattle.tl_depth.proofs.Arriving.{as-arrival, as-turned}
use Rattle.tl_depth.specs.Endings.{KeepsLast}
use Rattle.tl_depth.proofs.Histories.{ends-any}
use Rattle.tl_depth.proofs.stack.DepthFirst.arrived.Goals as goal

pub returns-in-Pruned-clause-turned : goal.returns-in-Pruned-clause-turned
returns-in-Pruned-clause-turned g c calls s = c.pruned.ensures.turned calls (as-arrival refl refl c.in-Pruned.is s)

pub returns-in-Some-clause-turned : goal.returns-in-Some-clause-turned
returns-in-Some-clause-turned g c calls s =
    subst (λ o. Judged (g.S.SearchSpace.problem c.args.space.now) c.args.nodes
    (pairs_of (g.S.SearchSpace.kept c.args.space.now)) c.args.self.now c.in-Fresh.k c.args.left o) c.in-Some.is
    c.in_ok-ended-in-Fresh.ensures.judged
    calls (as-arrival refl refl c.in-Fresh.is s)

pub returns-in_ok-seen-in-Seen-clause-turned : goal.returns-in_ok-seen-in-Seen-clause-turned
returns-in_ok-seen-in-Seen-clause-turned g c calls s = c.in_ok-seen-in-Seen.ensures.turned calls (as-arrival refl refl c.in-Seen.is s)

pub returns-in_ok-fresh-in-Fresh-clause-turned : goal.returns-in_ok-fresh-in-Fresh-clause-turned
returns-in_ok-fresh-in-Fresh-clause-turned g c calls s =
    as-turned _ _ c.args.nodes _ _ c.args.self.now c.fresh.new.self (calls + 1) None c.outcome_at.ensures.same.problem
    (ap pairs_of c.outcome_at.ensures.kept)
    (c.in_ok-fresh-in-Fresh.ensures.turned calls (as-arrival (sym c.outcome_at.ensures.same.problem)
    (sym (ap pairs_of c.outcome_at.ensures.kept)) c.in-Fresh.is s))

pub returns-in-Some-clause-ends : goal.returns-in-Some-clause-ends
returns-in-Some-clause-ends g c h = ends-any _ _ _ c.in-Some.outcome (subst
    (KeepsLast c.args.self.now.watch (g.S.SearchSpace.kept c.args.space.now) c.args.self.now.events) c.in-Fresh.is h)

pub fresh-requires-clause-arrived : goal.fresh-requires-clause-arrived
fresh-requires-clause-arrived g c = (
  c.requires.arrived.0,
  as-arrival (sym c.outcome_at.ensures.same.problem)
      (sym (ap pairs_of c.outcome_at.ensures.kept)) c.in-Fresh.is c.requires.arrived.1,
)

pub fresh-requires-clause-named : goal.fresh-requires-clause-named
fresh-requires-clause-named g c = subst (λ t. SearchIsNamed t c.args.self.now) (sym c.outcome_at.ensures.same.task) c.requires.named

pub returns-in-Some-clause-plan_named : goal.returns-in-Some-clause-plan_named
returns-in-Some-clause-plan_named g c = rw c.in-Some.is at c.in_ok-ended-in-Fresh.ensures.plan_named

pub returns-in_ok-fresh-in-Fresh-clause-named : goal.returns-in_ok-fresh-in-Fresh-clause-named
returns-in_ok-fresh-in-Fresh-clause-named g c = subst (λ t. SearchIsNamed t c.fresh.new.self) c.outcome_at.ensures.same.task
    c.in_ok-fresh-in-Fresh.ensures.named
