-- Operations of terms, and those whose result does not fit 64 bits.
use Rattle.std.specs.Prelude.{ℕ, ◌^◌, ◌-◌, ◌&&◌, Bool, IsTrue, ℤ, pos, neg_ℤ, int_le}
use Rattle.tl_syntax.specs.declared.value.Op.{Op}
use Rattle.tl_terms.specs.Terms.{exact}

-- one operation on two integers, with the offset of its form
pub record Operation : Type 0 where
  pub at : ℕ
  pub op : Op
  pub left : ℤ
  pub right : ℤ

-- from -2^63 to 2^63-1
abbrev pub in_range : ℤ → Bool
in_range z = int_le (neg_ℤ (pos (2 ^ 63))) z && int_le z (pos (2 ^ 63 - 1))

-- both operands are in range, and the exact result is not
pub record IsPastRange (o : Operation) : Type 0 where
  pub left : IsTrue (in_range o.left)
  pub right : IsTrue (in_range o.right)
  pub past : IsTrue (in_range (exact o.op o.left o.right)) → ⊥
