-- The derived tests of what stands in trees hold exactly where the two are the same.
use Rattle.std.proofs.Common.{◌≡◌, Bool, true, true≢false, ap, ap₂, sym, refl, subst, rules, nat_eq, ◌&&◌, eqb-true, eq-eqb}
use Rattle.std.specs.Cmp.Lexicographic.{pointwise}
use denote.Enum.Bare.{same_true}
use Rattle.tl_syntax.specs.contracts.value.Op.{the_type as op_type}
use Rattle.tl_syntax.specs.contracts.value.Cmp.{the_type as cmp_type}
use Rattle.tl_syntax.specs.declared.variable.Var.{Var}
use Rattle.tl_syntax.specs.declared.value.Value.{Value}
use Rattle.tl_syntax.specs.declared.variable.Arg.{Arg}
use Rattle.tl_syntax.specs.declared.variable.Arg.TheVariants as arg
use Rattle.tl_syntax.specs.declared.value.Op.{Op}
use Rattle.tl_syntax.specs.declared.value.Op.TheVariants.{Plus, Minus, Times}
use Rattle.tl_syntax.specs.declared.value.Cmp.{Cmp}
use Rattle.tl_syntax.specs.declared.value.Cmp.TheVariants as cmp
use Rattle.tl_syntax.specs.declared.bound.Bound.TheVariants as bound
use Rattle.tl_syntax.specs.contracts.variable.VarPartialEq.TheImpl as var_impl
use Rattle.tl_syntax.specs.contracts.variable.ArgPartialEq.TheImpl as arg_impl
use Rattle.tl_syntax.specs.contracts.value.OpPartialEq.TheImpl as op_impl
use Rattle.tl_syntax.specs.contracts.value.CmpPartialEq.TheImpl as cmp_impl
use Rattle.tl_syntax.specs.contracts.bound.BoundPartialEq.TheImpl as bound_impl
use Rattle.tl_syntax.specs.declared.place_value.PlaceValue.{PlaceValue}
use Rattle.tl_syntax.specs.declared.action.Action.{Action}
use Rattle.tl_syntax.specs.contracts.value.ValuePartialEq.TheImpl as value_impl
use Rattle.tl_syntax.specs.contracts.place_value.PlaceValuePartialEq.TheImpl as place_value_impl
use Rattle.tl_syntax.specs.contracts.action.ActionPartialEq.TheImpl as action_impl
use Rattle.tl_syntax.proofs.Plain.{Tells, both, with_both, list-tells, value-tells}

pub nat-tells : Tells nat_eq
nat-tells m n = (eqb-true m n, eq-eqb m n)

pub var-tells : Tells (var_impl.ghosts).eq
var-tells u v = (
  λ h. let k = both (nat_eq u.slot v.slot) (nat_eq u.name v.name) h in
      let p = eqb-true u.slot v.slot k.0 in let q = eqb-true u.name v.name k.1 in
      λ i. record { slot = p i; name = q i },
  λ e. with_both (eq-eqb u.slot v.slot (ap (λ (x : Var). x.slot) e)) (eq-eqb u.name v.name (ap (λ (x : Var). x.name) e)),
)

pub arg-tells : Tells (arg_impl.ghosts).eq
arg-tells (arg.Var u) (arg.Var v) = (
  λ h. ap (λ (k : Var). arg.Var k) ((var-tells u v).0 h),
  λ e.
      (var-tells u v).1 (let k : u ≡ v = cc in k),
)
arg-tells (arg.Val u) (arg.Val v) = (
  λ h. ap (λ (k : Value). arg.Val k) ((value-tells u v).0 h),
  λ e.
      (value-tells u v).1 (let k : u ≡ v = cc in k),
)
arg-tells u v = (λ h. absurd (true≢false (sym h)), λ e. absurd (let k : ⊥ = cc in k))

pub op-tells : Tells (op_impl.ghosts).eq
op-tells u v = (λ h. same_true op_type (search rules) u v h, λ e. subst (λ w. (op_impl.ghosts).eq u w ≡ true) e (itself u))
  where
    itself : (w : Op) → (op_impl.ghosts).eq w w ≡ true
    itself Plus = refl
    itself Minus = refl
    itself Times = refl

pub cmp-tells : Tells (cmp_impl.ghosts).eq
cmp-tells u v = (λ h. same_true cmp_type (search rules) u v h, λ e. subst (λ w. (cmp_impl.ghosts).eq u w ≡ true) e (itself u))
  where
    itself : (w : Cmp) → (cmp_impl.ghosts).eq w w ≡ true
    itself cmp.Eq = refl
    itself cmp.Less = refl
    itself cmp.AtMost = refl
    itself cmp.More = refl
    itself cmp.AtLeast = refl

-- the derived test of two arguments
abbrev A : Arg → Arg → Bool
A = (arg_impl.ghosts).eq

pub bound-tells : Tells (bound_impl.ghosts).eq
bound-tells (bound.Fact p xs) (bound.Fact q ys) = (
  λ h. let k = both (nat_eq p q) (pointwise A xs ys) h in ap₂ bound.Fact (eqb-true p q k.0) ((list-tells A arg-tells xs ys).0 k.1),
  λ e. with_both (eq-eqb p q (let k : p ≡ q = cc in k)) ((list-tells A arg-tells xs ys).1 (let k : xs ≡ ys = cc in k)),
)
bound-tells (bound.Place p xs x) (bound.Place q ys y) = (
  λ h. let k = both (nat_eq p q) (pointwise A xs ys && A x y) h in let l = both (pointwise A xs ys) (A x y) k.1 in
      let a = eqb-true p q k.0 in let b = (list-tells A arg-tells xs ys).0 l.0 in let c = (arg-tells x y).0 l.1 in λ i.
      bound.Place (a i) (b i) (c i),
  λ e. with_both (eq-eqb p q (let k : p ≡ q = cc in k)) (with_both ((list-tells A arg-tells xs ys).1 (let k : xs ≡ ys = cc in k))
      ((arg-tells x y).1 (let k : x ≡ y = cc in k))),
)
bound-tells (bound.GoalFact p xs) (bound.GoalFact q ys) = (
  λ h. let k = both (nat_eq p q) (pointwise A xs ys) h in ap₂ bound.GoalFact (eqb-true p q k.0) ((list-tells A arg-tells xs ys).0 k.1),
  λ e. with_both (eq-eqb p q (let k : p ≡ q = cc in k)) ((list-tells A arg-tells xs ys).1 (let k : xs ≡ ys = cc in k)),
)
bound-tells (bound.GoalPlace p xs x) (bound.GoalPlace q ys y) = (
  λ h. let k = both (nat_eq p q) (pointwise A xs ys && A x y) h in let l = both (pointwise A xs ys) (A x y) k.1 in
      let a = eqb-true p q k.0 in let b = (list-tells A arg-tells xs ys).0 l.0 in let c = (arg-tells x y).0 l.1 in λ i.
      bound.GoalPlace (a i) (b i) (c i),
  λ e. with_both (eq-eqb p q (let k : p ≡ q = cc in k)) (with_both ((list-tells A arg-tells xs ys).1 (let k : xs ≡ ys = cc in k))
      ((arg-tells x y).1 (let k : x ≡ y = cc in k))),
)
bound-tells (bound.GoalNot p xs) (bound.GoalNot q ys) = (
  λ h. let k = both (nat_eq p q) (pointwise A xs ys) h in ap₂ bound.GoalNot (eqb-true p q k.0) ((list-tells A arg-tells xs ys).0 k.1),
  λ e. with_both (eq-eqb p q (let k : p ≡ q = cc in k)) ((list-tells A arg-tells xs ys).1 (let k : xs ≡ ys = cc in k)),
)
bound-tells u v = (λ h. absurd (true≢false (sym h)), λ e. absurd (let k : ⊥ = cc in k))

-- the derived test of two values
abbrev V : Value → Value → Bool
V = (value_impl.ghosts).eq

pub place_value-tells : Tells (place_value_impl.ghosts).eq
place_value-tells x y = (
  λ h. let k = both (nat_eq x.fun y.fun) (pointwise V x.args y.args && V x.value y.value) h in let l =
      both (pointwise V x.args y.args) (V x.value y.value) k.1 in
      let a = eqb-true x.fun y.fun k.0 in let b = (list-tells V value-tells x.args y.args).0 l.0 in let c =
      (value-tells x.value y.value).0 l.1 in
      λ i. record { fun = a i; args = b i; value = c i },
  λ e. with_both (eq-eqb x.fun y.fun (ap (λ (p : PlaceValue). p.fun) e))
      (with_both ((list-tells V value-tells x.args y.args).1 (ap (λ (p : PlaceValue). p.args) e))
      ((value-tells x.value y.value).1 (ap (λ (p : PlaceValue). p.value) e))),
)

pub action-tells : Tells (action_impl.ghosts).eq
action-tells x y = (
  λ h. let k = both (nat_eq x.op y.op) (pointwise V x.args y.args) h in
      let a = eqb-true x.op y.op k.0 in let b = (list-tells V value-tells x.args y.args).0 k.1 in
      λ i. record { op = a i; args = b i },
  λ e. with_both (eq-eqb x.op y.op (ap (λ (p : Action). p.op) e)) ((list-tells V value-tells x.args y.args).1
      (ap (λ (p : Action). p.args) e)),
)
