-- The orders of values and of keys are total, and only the same ones tie.
use Rattle.std.specs.Prelude.{◌≡◌, refl}
use Rattle.std.specs.declared.cmp.Ordering.TheVariants.{Less, Equal, Greater}
use mathlib.Core.Path.{ap}
use Rattle.std.specs.Ordering.{nat_cmp, ordering_reverse, ordering_then}
use Rattle.std.specs.Cmp.{IsTotalOrder, nat_cmp_total, int_cmp_total, then_total, on_total}
use Rattle.std.specs.Cmp.Lexicographic.{slice_cmp, lists_total}
use Rattle.std.specs.FinSet as set
use Rattle.tl_syntax.specs.declared.value.Value.{Value}
use Rattle.tl_syntax.specs.declared.value.Value.TheVariants.{Int, Sym}
use Rattle.tl_syntax.specs.Keys.{Key, key_cmp, value_cmp}

-- the order of values is total
pub value_total : IsTotalOrder value_cmp
value_total = record { antisymm = back; trans = along; congr = alike }
  where
    back : (x y : Value) → value_cmp x y ≡ ordering_reverse (value_cmp y x)
    back (Int a) (Int b) = int_cmp_total.antisymm a b
    back (Int a) (Sym b) = refl
    back (Sym a) (Int b) = refl
    back (Sym a) (Sym b) = nat_cmp_total.antisymm a b

    along : (x y z : Value) → value_cmp x y ≡ Less → value_cmp y z ≡ Less → value_cmp x z ≡ Less
    along (Int a) (Int b) (Int c) p q = int_cmp_total.trans a b c p q
    along (Int a) (Int b) (Sym c) p q = refl
    along (Int a) (Sym b) (Int c) p q = cc
    along (Int a) (Sym b) (Sym c) p q = refl
    along (Sym a) (Int b) z p q = cc
    along (Sym a) (Sym b) (Int c) p q = cc
    along (Sym a) (Sym b) (Sym c) p q = nat_cmp_total.trans a b c p q

    alike : (x y z : Value) → value_cmp x y ≡ Equal → value_cmp x z ≡ value_cmp y z
    alike (Int a) (Int b) (Int c) p = int_cmp_total.congr a b c p
    alike (Int a) (Int b) (Sym c) p = refl
    alike (Int a) (Sym b) z p = cc
    alike (Sym a) (Int b) z p = cc
    alike (Sym a) (Sym b) (Int c) p = refl
    alike (Sym a) (Sym b) (Sym c) p = nat_cmp_total.congr a b c p

-- the order of facts and places is total
pub key_total : IsTotalOrder key_cmp
key_total = then_total (on_total (λ (k : Key). k.0) nat_cmp_total) (on_total (λ (k : Key). k.1) (lists_total value_total))

-- values that tie are the same
pub value_ties : set.IsAntisymmetric value_cmp
value_ties (Int a) (Int b) e = ap Int (set.int_cmp-IsAntisymmetric a b e)
value_ties (Int a) (Sym b) e = cc
value_ties (Sym a) (Int b) e = cc
value_ties (Sym a) (Sym b) e = ap Sym (set.nat_cmp-IsAntisymmetric a b e)

-- keys that tie are the same
pub key_ties : set.IsAntisymmetric key_cmp
key_ties x y e = (elim (nat_cmp x.0 y.0) as (λ r. nat_cmp x.0 y.0 ≡ r → ordering_then r (slice_cmp value_cmp x.1 y.1) ≡ Equal → x ≡ y) [
  | Less ↦ λ p q. cc
  | Equal ↦ λ p q. let a = set.nat_cmp-IsAntisymmetric x.0 y.0 p in let b = set.slice_cmp-IsAntisymmetric value_ties x.1 y.1 q in λ i.
      (a i, b i)
  | Greater ↦ λ p q. cc
]) refl e
