use Rattle.std.proofs.Common.{◌-◌, length, take, refl, sym, ap, subst, arith}
use Rattle.tl_check.proofs.KeptLaws.{round-along, round-answer, kept-length}
use Rattle.tl_check.specs.Histories.{IsFactHistory}
use Rattle.tl_check.specs.StatesAlong.{states_of}
use Rattle.tl_syntax.specs.Lists.{Each}
use Rattle.tl_terms.specs.ProblemMeaning.{plain_problem}
use Rattle.tl_check.proofs.rounds.obeys_round.Goals as goal

pub slice_bounds-along-end : goal.slice_bounds-along-end
slice_bounds-along-end c =
    let plan = c.args.round.now.plan.now in
    sym (kept-length (plain_problem c.args.task.now.problem) plan c.args.trail c.requires.kept
    (omega (arith, c.requires.some)) c.as_slice.result.now c.as_slice.ensures.value)

pub obeys_kept-requires-clause-along : goal.obeys_kept-requires-clause-along
obeys_kept-requires-clause-along c =
    let plan = c.args.round.now.plan.now in
    round-along (plain_problem c.args.task.now.problem) plan c.args.trail c.requires.kept
    (omega (arith, c.requires.some)) refl refl c.requires.some c.requires.short (ap (take (length plan)) c.as_slice.ensures.value)
    (λ ws h. subst (Each (IsFactHistory ws)) (sym c.as_slice-2.ensures.value) (c.in_ok-histories.ensures ws h))

pub obeys_kept-requires-clause-kept : goal.obeys_kept-requires-clause-kept
obeys_kept-requires-clause-kept c =
    let plan = c.args.round.now.plan.now in
    kept-length (plain_problem c.args.task.now.problem) plan c.args.trail c.requires.kept
    (omega (arith, c.requires.some)) c.as_slice.result.now c.as_slice.ensures.value

pub returns : goal.returns
returns c =
    let p = plain_problem c.args.task.now.problem in
    let plan = c.args.round.now.plan.now in
    round-answer p plan c.args.trail c.requires.kept (omega (arith, c.requires.some)) c.args.round.now.again c.requires.some
    (states_of p (take (length plan - 1) plan)) refl c.obeys_kept.result c.obeys_kept.ensures
