use Rattle.std.proofs.Common.{◌≡◌, ℕ, List, None, Some, take, sym, subst, arith}
use Rattle.tl_progress.specs.declared.residuals.Incoming.{Incoming}
use Rattle.tl_progress.specs.WorldsKept.{number_for, IsBefore}
use Rattle.tl_progress.proofs.EntryLaws.{none-before, none-after, fewer-first}
use Rattle.tl_progress.proofs.by_world.ByWorld.forget.Goals as goal
use Rattle.tl_syntax.specs.Lists.{Each}

pub returns-then-self-world-clause-none : goal.returns-then-self-world-clause-none
returns-then-self-world-clause-none c = λ k. subst (λ (es : List (Incoming × ℕ)).
    number_for es (record { world = c.args.world; formula = k }) ≡ None) c.self.view_is
    (none-after c.self.inside.newest c.args.world c.if-self-world.true k c.self.inside.table.entries c.self.invariant.known)

pub returns-clause-none : goal.returns-clause-none
returns-clause-none c = λ k. subst (λ (es : List (Incoming × ℕ)). number_for es (record { world = c.args.world; formula = k }) ≡ None)
    (sym c.truncate.ensures.entries) (none-before c.args.world k (take c.self.inside.begins c.self.inside.table.entries) before)
  where
    same : c.self.inside.newest ≡ c.args.world
    same = let low = c.if-self-world.false in let high = c.if-world-self.false in omega (arith, low, high)

    before : Each (IsBefore c.args.world) (take c.self.inside.begins c.self.inside.table.entries)
    before = subst (λ (n : ℕ). Each (IsBefore n) (take c.self.inside.begins c.self.inside.table.entries)) same c.self.invariant.before

pub returns-clause-fewer : goal.returns-clause-fewer
returns-clause-fewer c = λ q i h. subst (λ (es : List (Incoming × ℕ)). number_for es q ≡ Some i) c.self.view_is
    (fewer-first c.self.inside.begins c.self.inside.table.entries q i (subst
    (λ (es : List (Incoming × ℕ)). number_for es q ≡ Some i) c.truncate.ensures.entries h))
