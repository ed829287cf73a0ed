-- The derived tests of equality and the derived orders, under plain names.
use Rattle.std.specs.Prelude.{◌≡◌, ◌↔◌, List, Bool, true}
use Rattle.std.specs.Cmp.Lexicographic.{pointwise, slice_cmp}
use Rattle.std.specs.declared.cmp.Ordering.{Ordering}
use Rattle.tl_syntax.specs.declared.value.Value.{Value}
use Rattle.tl_syntax.specs.declared.value.Op.{Op}
use Rattle.tl_syntax.specs.declared.value.Cmp.{Cmp}
use Rattle.tl_syntax.specs.declared.variable.Var.{Var}
use Rattle.tl_syntax.specs.declared.variable.Arg.{Arg}
use Rattle.tl_syntax.specs.declared.bound.Bound.{Bound}
use Rattle.tl_syntax.specs.declared.fact.Fact.{Fact}
use Rattle.tl_syntax.specs.declared.place_value.PlaceValue.{PlaceValue}
use Rattle.tl_syntax.specs.declared.action.Action.{Action}
use Rattle.tl_syntax.specs.contracts.value.OpPartialEq.TheImpl as op_test
use Rattle.tl_syntax.specs.contracts.value.CmpPartialEq.TheImpl as cmp_test
use Rattle.tl_syntax.specs.contracts.value.ValuePartialEq.TheImpl as value_test
use Rattle.tl_syntax.specs.contracts.value.ValueOrd.TheImpl as value_ord
use Rattle.tl_syntax.specs.contracts.variable.VarPartialEq.TheImpl as var_test
use Rattle.tl_syntax.specs.contracts.variable.ArgPartialEq.TheImpl as arg_test
use Rattle.tl_syntax.specs.contracts.bound.BoundPartialEq.TheImpl as bound_test
use Rattle.tl_syntax.specs.contracts.fact.FactPartialEq.TheImpl as fact_test
use Rattle.tl_syntax.specs.contracts.fact.FactOrd.TheImpl as fact_ord
use Rattle.tl_syntax.specs.contracts.place_value.PlaceValuePartialEq.TheImpl as place_value_test
use Rattle.tl_syntax.specs.contracts.action.ActionPartialEq.TheImpl as action_test

-- the test holds exactly where the two are the same
abbrev pub TellsSame : {A : Type 0} → (A → A → Bool) → Type 0
TellsSame {A} test = (x y : A) → (test x y ≡ true) ↔ (x ≡ y)

-- the two orders say the same of every two
abbrev pub OrdersAs : {A : Type 0} → (A → A → Ordering) → (A → A → Ordering) → Type 0
OrdersAs {A} derived defined = (x y : A) → derived x y ≡ defined x y

abbrev pub op_eq : Op → Op → Bool
op_eq = (op_test.ghosts).eq

abbrev pub cmp_eq : Cmp → Cmp → Bool
cmp_eq = (cmp_test.ghosts).eq

abbrev pub value_eq : Value → Value → Bool
value_eq = (value_test.ghosts).eq

abbrev pub value_order : Value → Value → Ordering
value_order = (value_ord.ghosts).cmp

abbrev pub values_eq : List Value → List Value → Bool
values_eq = pointwise value_eq

abbrev pub values_order : List Value → List Value → Ordering
values_order = slice_cmp value_order

abbrev pub var_eq : Var → Var → Bool
var_eq = (var_test.ghosts).eq

abbrev pub vars_eq : List Var → List Var → Bool
vars_eq = pointwise var_eq

abbrev pub arg_eq : Arg → Arg → Bool
arg_eq = (arg_test.ghosts).eq

abbrev pub args_eq : List Arg → List Arg → Bool
args_eq = pointwise arg_eq

abbrev pub bound_eq : Bound → Bound → Bool
bound_eq = (bound_test.ghosts).eq

abbrev pub fact_eq : Fact → Fact → Bool
fact_eq = (fact_test.ghosts).eq

abbrev pub fact_order : Fact → Fact → Ordering
fact_order = (fact_ord.ghosts).cmp

abbrev pub place_value_eq : PlaceValue → PlaceValue → Bool
place_value_eq = (place_value_test.ghosts).eq

abbrev pub action_eq : Action → Action → Bool
action_eq = (action_test.ghosts).eq
