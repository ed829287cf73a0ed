-- Worlds are compared by what they hold.
use Rattle.std.specs.Prelude.{◌≡◌}
use Rattle.std.specs.FinSet as set
use Rattle.std.specs.FinMap as dict
use Rattle.tl_syntax.specs.Keys.{Key}
use Rattle.tl_terms.specs.World.{World, has_fact, value_at}
use Rattle.tl_syntax.proofs.TotalOrders.{key_total, key_ties}

-- two worlds with the same facts and the same values of places are one
pub same_world : (v w : World) → ((k : Key) → has_fact v k ≡ has_fact w k) → ((k : Key) → value_at v k ≡ value_at w k) → v ≡ w
same_world v w p q = let a = set.same_set key_total key_ties v.facts w.facts p in let b =
    dict.same_map key_total key_ties v.places w.places q in λ i. record { facts = a i; places = b i }
