use Rattle.std.proofs.Common.{ap, ◌∙◌, refl}
use Rattle.tl_syntax.specs.Bindings.{assignment_of}
use Rattle.tl_syntax.proofs.Bindings.{paired-none, paired-pushed, paired-all}
use Rattle.tl_syntax.proofs.substitution.bindings_of.Goals as goal

pub loop-i-init : goal.loop-i-init
loop-i-init c = c.new-out.ensures ∙ paired-none

pub loop-i-preserved : goal.loop-i-preserved
loop-i-preserved c =
    paired-pushed c.as_slice-slots.result.now c.args.values.now c.args.vars.now c.loop-i.i _ _ c.loop-i.out c.push.new.self _
    c.as_slice-slots.ensures c.requires c.loop-i-test.true c.loop-i.invariant c.in_ok-push.ensures refl

pub returns : goal.returns
returns c =
    ap assignment_of c.loop-i.invariant
    ∙ paired-all c.as_slice-slots.result.now c.args.values.now c.args.vars.now c.loop-i.i c.as_slice-slots.ensures c.requires
    c.loop-i-test.false
