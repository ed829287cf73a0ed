use Rattle.std.proofs.Common.{◌≡◌, ◌<◌, ℕ, List, length, get_or, sym, ◌∙◌}
use Rattle.tl_action.proofs.FrameRows.{row-begun, row-on, row-undefined, row-ended}
use Rattle.tl_action.proofs.Walks.{get-itself}
use Rattle.tl_eval.specs.Frames.{assignment_in}
use Rattle.tl_syntax.specs.declared.variable.Var.{Var}
use Rattle.tl_action.proofs.values.row_of.Goals as goal

-- the variable at a place
abbrev item : List Var → ℕ → Var
item ss i = get_or ss i (record { slot = 0; name = 0 })

item-is : (ss : List Var) (i : ℕ) → i < length ss → item ss i ≡ get_or ss i (item ss i)
item-is ss i h = get-itself ss i (record { slot = 0; name = 0 }) h

pub loop-var-init : goal.loop-var-init
loop-var-init c = row-begun c.args.here.now.world.now (assignment_in c.args.env.now) c.args.vars.now c.new-row.result c.new-row.ensures

pub returns-in-None : goal.returns-in-None
returns-in-None c =
    let ss = c.args.vars.now in
    let i = c.loop-var.var-index in
    row-undefined c.args.here.now.world.now (assignment_in c.args.env.now) ss ss i (item ss i) c.loop-var.row c.loop-var-test.true
    (item-is ss i c.loop-var-test.true) c.loop-var.invariant
    (sym c.in-None.is ∙ c.value.ensures)

pub loop-var-preserved : goal.loop-var-preserved
loop-var-preserved c =
    let ss = c.args.vars.now in
    let i = c.loop-var.var-index in
    row-on c.args.here.now.world.now (assignment_in c.args.env.now) ss ss i (item ss i) c.loop-var.row c.loop-var-test.true
    (item-is ss i c.loop-var-test.true) c.loop-var.invariant c.push.new.self c.in-Some.value
    (sym c.in-Some.is ∙ c.value.ensures) c.in_ok-push-in-Some.ensures

pub returns : goal.returns
returns c = row-ended c.args.here.now.world.now (assignment_in c.args.env.now) c.args.vars.now c.args.vars.now c.loop-var.var-index
    c.loop-var.row c.loop-var-test.false c.loop-var.invariant
