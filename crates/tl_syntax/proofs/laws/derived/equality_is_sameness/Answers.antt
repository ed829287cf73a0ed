use Rattle.tl_syntax.proofs.Plain.{list-tells, value-tells, fact-tells}
use Rattle.tl_syntax.proofs.PartsSame.{op-tells, cmp-tells, var-tells, arg-tells, bound-tells, place_value-tells, action-tells}
use Rattle.tl_syntax.specs.DerivedTests.{value_eq, var_eq, arg_eq}
use Rattle.tl_syntax.proofs.laws.derived.equality_is_sameness.Goals as goal

pub returns : goal.returns
returns c = record {
  op = op-tells;
  cmp = cmp-tells;
  value = value-tells;
  values = list-tells value_eq value-tells;
  var = var-tells;
  vars = list-tells var_eq var-tells;
  arg = arg-tells;
  args = list-tells arg_eq arg-tells;
  bound = bound-tells;
  fact = fact-tells;
  place_value = place_value-tells;
  action = action-tells;
}
