use Rattle.std.proofs.Common.{◌<◌, ℕ, length, sym, subst, arith}
use Rattle.tl_progress.proofs.Below.{among-at}
use Rattle.tl_syntax.specs.Lists.{Among}
use Rattle.tl_task_cases.proofs.progression.one_of.Goals as goal

pub returns : goal.returns
returns c =
    let within : c.args.i < length c.args.ids.now = omega (arith, c.if-i-len.false, c.len.ensures) in
    subst (λ (k : ℕ). Among k c.args.ids.now) (sym c.number_at.ensures) (among-at c.args.ids.now c.args.i within)
