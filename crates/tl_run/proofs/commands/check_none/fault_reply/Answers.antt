use Rattle.std.proofs.Common.{arith}
use Rattle.tl_eval.specs.Notes.{operation_of}
use Rattle.tl_terms.specs.ProblemMeaning.{plain_problem}
use Rattle.tl_run.proofs.NamedProofs.{none_path_short}
use Rattle.tl_run.proofs.Replied.{proof_range_replied}
use Rattle.tl_run.proofs.commands.check_none.fault_reply.Goals as goal

pub overflow_cast-after : goal.overflow_cast-after
overflow_cast-after c =
    let short = none_path_short (plain_problem c.args.problem.now) c.args.proof.now.bound c.args.proof.now.links c.in-Range.path
    (operation_of c.in-Range.note) (rw c.in-Range.is at c.requires.cause) in
    omega (arith, short, c.requires.few, c.len-after.ensures)

pub returns-in_ok-text-in-Range : goal.returns-in_ok-text-in-Range
returns-in_ok-text-in-Range c = λ d p q. proof_range_replied d p q c.args.problem.now c.args.proof.now c.in-Range.note c.in-Range.path
    c.in_ok-text-in-Range.text (rw c.in-Range.is at c.requires.cause) (rw
    (c.len-after.ensures, c.as_slice.ensures) at c.in_ok-text-in-Range.ensures)
