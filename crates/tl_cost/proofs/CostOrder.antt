-- The order of ways by cost and length, and the costs of paths with one more action.
use Rattle.std.proofs.Common.{◌≡◌, ◌≤◌, ℕ, ◌+◌, List, [], ◌∷◌, ◌++◌, length, sym, ◌∙◌, arith, add-one}
use Rattle.tl_syntax.specs.declared.action.Action.{Action}
use Rattle.tl_search.proofs.WalkLaws.{length-snoc}
use Rattle.tl_cost.specs.PlanCosts.{action_cost, plan_cost}
use Rattle.tl_cost.specs.Ways.{ComesNoLater}

pub upto-refl : (a m : ℕ) → ComesNoLater a m a m
upto-refl a m = record { cheap = omega arith; short = λ _. omega arith }

pub upto-zero : (a m b n : ℕ) → a ≡ 0 → m ≡ 0 → ComesNoLater a m b n
upto-zero a m b n d e = record { cheap = omega arith; short = λ _. omega arith }

pub upto-trans : (a m b n c k : ℕ) → ComesNoLater a m b n → ComesNoLater b n c k → ComesNoLater a m c k
upto-trans a m b n c k f g = record {
  cheap = omega (arith, f.cheap, g.cheap);
  short = λ e. (let d : m ≤ n = f.short (omega (arith, f.cheap, g.cheap)) in let q : n ≤ k = g.short (omega (arith, f.cheap, g.cheap)) in
      omega arith);
}

-- with one more action each
pub upto-onward : (a m b n x : ℕ) → ComesNoLater a m b n → ComesNoLater (a + x) (m + 1) (b + x) (n + 1)
upto-onward a m b n x f = record {
  cheap = omega (arith, f.cheap);
  short = λ e. (let d : m ≤ n = f.short (omega arith) in omega arith);
}

-- one more action comes later
pub upto-grows : (a m x : ℕ) → ComesNoLater a m (a + x) (m + 1)
upto-grows a m x = record { cheap = omega arith; short = λ _. omega arith }

pub upto-never : (a m x : ℕ) → ComesNoLater (a + x) (m + 1) a m → ⊥
upto-never a m x f = let q : m + 1 ≤ m = f.short (omega (arith, f.cheap)) in omega arith

pub upto-same : (a m b n c k : ℕ) → b ≡ c → n ≡ k → ComesNoLater a m b n → ComesNoLater a m c k
upto-same a m b n c k d e f = record { cheap = omega (arith, f.cheap); short = λ q. (let r : m ≤ n = f.short (omega arith) in omega arith) }

pub upto-from : (a m b n c k : ℕ) → a ≡ b → m ≡ n → ComesNoLater b n c k → ComesNoLater a m c k
upto-from a m b n c k d e f = record { cheap = omega (arith, f.cheap); short = λ q. (let r : n ≤ k = f.short (omega arith) in omega arith) }

pub plan-cost-snoc : (costs : List ℕ) (path : List Action) (a : Action) → plan_cost costs (path ++ a ∷ []) ≡
    plan_cost costs path + action_cost costs a
plan-cost-snoc costs [] a = omega arith
plan-cost-snoc costs (b ∷ path) a = let e = plan-cost-snoc costs path a in omega (arith, e)

-- a way up to a path goes on to a way up to the path with one more action
pub upto-path : (costs : List ℕ) (a m : ℕ) (path : List Action) (x : Action) →
    ComesNoLater a m (plan_cost costs path + action_cost costs x) (length path + 1) →
    ComesNoLater a m (plan_cost costs (path ++ x ∷ [])) (length (path ++ x ∷ []))
upto-path costs a m path x f = upto-same a m (plan_cost costs path + action_cost costs x) (length path + 1)
    (plan_cost costs (path ++ x ∷ [])) (length (path ++ x ∷ [])) (sym (plan-cost-snoc costs path x))
    (add-one (length path) ∙ sym (length-snoc path x)) f
