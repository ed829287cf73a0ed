use Rattle.std.proofs.Common.{List, get_or, sym, ap, ◌∙◌}
use Rattle.std.specs.List.{list_any}
use Rattle.tl_action.specs.Early.{is_known_as, is_known_slot}
use Rattle.tl_action.proofs.EarlyParts.{any-stop, any-on, any-end}
use Rattle.tl_action.proofs.Walks.{get-itself}
use Rattle.tl_syntax.specs.declared.variable.Var.{Var}
use Rattle.tl_action.proofs.early.is_known_slot.Goals as goal

abbrev no_variable : Var
no_variable = record { slot = 0; name = 0 }

pub loop-param-init : goal.loop-param-init
loop-param-init c = ap (λ (ss : List Var). list_any (is_known_as c.args.bounds.now c.args.j c.args.slot) ss) (sym c.as_slice-params.ensures)

pub returns-then-is_known_as : goal.returns-then-is_known_as
returns-then-is_known_as c =
    let ss = c.as_slice-params.result.now in
    let i = c.loop-param.param-index in
    any-stop (is_known_as c.args.bounds.now c.args.j c.args.slot) ss i (is_known_slot c.args.bounds.now c.args.j c.args.slot)
    (get_or ss i no_variable) c.loop-param-test.true (get-itself ss i no_variable c.loop-param-test.true) c.loop-param.invariant
    (sym c.is_known_as.ensures ∙ c.if-is_known_as.true)

pub loop-param-preserved : goal.loop-param-preserved
loop-param-preserved c =
    let ss = c.as_slice-params.result.now in
    let i = c.loop-param.param-index in
    any-on (is_known_as c.args.bounds.now c.args.j c.args.slot) ss i (is_known_slot c.args.bounds.now c.args.j c.args.slot)
    (get_or ss i no_variable) c.loop-param-test.true (get-itself ss i no_variable c.loop-param-test.true) c.loop-param.invariant
    (sym c.is_known_as.ensures ∙ c.if-is_known_as.false)

pub returns : goal.returns
returns c = any-end (is_known_as c.args.bounds.now c.args.j c.args.slot) c.as_slice-params.result.now c.loop-param.param-index
    (is_known_slot c.args.bounds.now c.args.j c.args.slot) c.loop-param-test.false c.loop-param.invariant
