use Rattle.std.proofs.Common.{◌≡◌, ◌++◌, ℕ, Option, drop, map}
use Rattle.std.specs.Prelude.{unwrap_or}
use Rattle.tl_cost.proofs.cost_files.costs_from.Given as goal

-- the costs so far, and after them those that are left
abbrev pub invariant-loop-cost : goal.invariant-loop-cost
invariant-loop-cost l = l.costs ++ map (λ (c : Option ℕ). unwrap_or c 1) (drop l.cost-index l.given) ≡
    map (λ (c : Option ℕ). unwrap_or c 1) l.given
