-- The orders are total, and a prefix comes before.
use Rattle.std.proofs.Common.{◌≡◌, List, [], ◌∷◌, ◌++◌, Less, Equal, Greater, refl, ap, ◌∙◌}
use Rattle.std.specs.Ordering.{nat_cmp, ordering_then}
use Rattle.std.specs.Cmp.{IsTotalOrder, nat_cmp_total, then_total, on_total, tied_itself}
use Rattle.std.specs.Cmp.Lexicographic.{slice_cmp, lists_total}
use Rattle.std.specs.FinSet as set
use Rattle.tl_terms.specs.LawsOrders.{OrdersTotally}
use Rattle.tl_terms.specs.Orders.{action_cmp, plan_cmp}
use Rattle.tl_syntax.proofs.TotalOrders.{value_total, key_total, value_ties, key_ties}
use Rattle.tl_syntax.specs.Keys.{value_cmp, key_cmp}
use Rattle.tl_syntax.specs.declared.action.Action.{Action}

pub values-total : OrdersTotally value_cmp
values-total = record { total = value_total; ties = value_ties }

pub keys-total : OrdersTotally key_cmp
keys-total = record { total = key_total; ties = key_ties }

action_total : IsTotalOrder action_cmp
action_total = then_total (on_total (λ (a : Action). a.op) nat_cmp_total) (on_total (λ (a : Action). a.args) (lists_total value_total))

action_ties : set.IsAntisymmetric action_cmp
action_ties x y e = (elim (nat_cmp x.op y.op) as (λ r. nat_cmp x.op y.op ≡ r → ordering_then r (slice_cmp value_cmp x.args y.args) ≡ Equal →
    x ≡ y) [
      | Less ↦ λ p q. cc
      | Equal ↦ λ p q. let a = set.nat_cmp-IsAntisymmetric x.op y.op p in let b =
          set.slice_cmp-IsAntisymmetric value_ties x.args y.args q in
          λ i. record { op = a i; args = b i }
      | Greater ↦ λ p q. cc
    ]) refl e

pub actions-total : OrdersTotally action_cmp
actions-total = record { total = action_total; ties = action_ties }

pub plans-total : OrdersTotally plan_cmp
plans-total = record { total = lists_total action_total; ties = set.slice_cmp-IsAntisymmetric action_ties }

pub prefix-first : (plan rest : List Action) (a : Action) → plan_cmp plan (plan ++ a ∷ rest) ≡ Less
prefix-first [] rest a = refl
prefix-first (b ∷ plan) rest a = ap (λ r. ordering_then r (plan_cmp plan (plan ++ a ∷ rest))) (tied_itself action_total b) ∙
    prefix-first plan rest a
