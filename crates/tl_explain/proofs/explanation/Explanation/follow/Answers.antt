use Rattle.std.proofs.Common.{◌∙◌, inr, sym}
use Rattle.std.proofs.lemmas.Result.{err_from_is_err_and}
use Rattle.tl_explain.proofs.Beginning.{of-operator}
use Rattle.tl_explain.proofs.explanation.Explanation.follow.Goals as goal

pub apply-requires : goal.apply-requires
apply-requires g c = record { operator = of-operator c.args.task.now.problem c.args.a.now c.requires.named }

pub returns-in_err-arrive : goal.returns-in_err-arrive
returns-in_err-arrive g c =
    let p = err_from_is_err_and c.from_residual-in_err-arrive.result c.from_residual-in_err-arrive.ensures.1 in
    rw (p.1, p.2) (inr (c.in-Ok-Some.next, sym c.in-Ok-Some.ensures.world ∙ c.in-Ok-Some.field-0-is, c.in_err-arrive.ensures.cause))
