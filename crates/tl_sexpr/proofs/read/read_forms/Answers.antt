use Rattle.tl_sexpr.proofs.Refusals.{fault_at_end, reads_all, refuses_all, reads_on, refuses_on}
use Rattle.tl_sexpr.proofs.Steps.{read_nothing, finished, few_symbols}
use Rattle.tl_sexpr.proofs.read.read_forms.Goals as goal

pub loop-at-init : goal.loop-at-init
loop-at-init c = read_nothing c.args.bytes.now c.new-reader.result c.new-reader.ensures.open c.new-reader.ensures.forms

pub returns-clause-spelled : goal.returns-clause-spelled
returns-clause-spelled c =
    finished c.args.bytes.now c.loop-at.reader c.loop-at.at c.finish.result c.loop-at.invariant c.loop-at-test.false
    c.finish.ensures.none_open c.finish.ensures.forms

pub returns-clause-few_symbols : goal.returns-clause-few_symbols
returns-clause-few_symbols c = few_symbols c.args.bytes.now c.finish.result (returns-clause-spelled c)

pub returns-clause-fault : goal.returns-clause-fault
returns-clause-fault c = fault_at_end c.args.bytes.now c.loop-at.reader c.loop-at.at c.finish.result c.loop-at.invariant
    c.loop-at-test.false c.finish.ensures.unclosed

pub returns-clause-reads : goal.returns-clause-reads
returns-clause-reads c = reads_all c.args.bytes.now c.finish.result (returns-clause-spelled c) (returns-clause-fault c)

pub returns-clause-refuses : goal.returns-clause-refuses
returns-clause-refuses c = refuses_all c.args.bytes.now c.finish.result (returns-clause-spelled c) (returns-clause-fault c)

pub returns-in_err-at-clause-reads : goal.returns-in_err-at-clause-reads
returns-in_err-at-clause-reads c = reads_on c.args.bytes.now c.from_residual.result c.in_err-at.field-0.0 c.from_residual.ensures.1
    c.in_err-at.ensures.fault

pub returns-in_err-at-clause-refuses : goal.returns-in_err-at-clause-refuses
returns-in_err-at-clause-refuses c = refuses_on c.args.bytes.now c.from_residual.result c.in_err-at.field-0.0 c.from_residual.ensures.1
    c.in_err-at.ensures.fault
