use Rattle.std.proofs.Common.{sym, subst}
use Rattle.std.specs.Prelude.{IfOk}
use Rattle.tl_search.specs.KeptPairs.{pairs_of}
use Rattle.tl_space.specs.Spaces.{kept_of, problem_of}
use Rattle.tl_run.specs.declared.search.Mode.{Mode}
use Rattle.tl_run.specs.Plan.{IsOutcomeIn}
use Rattle.tl_run.proofs.SamplePrefixes.{report_near, report_outcome, report_prefixes}
use Rattle.tl_run.proofs.commands.sample.searched.Goals as goal

pub search-requires : goal.search-requires
search-requires g c =
    let limits = c.requires.limits in
    record { empty = c.requires.empty; within = limits.within; some_nodes = limits.some; nodes = limits.nodes }

pub returns-clause-outcome : goal.returns-clause-outcome
returns-clause-outcome g c =
    let p = problem_of c.args.space.now in
    let kept = pairs_of (kept_of c.search.new.space) in
    let search = c.args.search in
    subst (λ (m : Mode). IfOk c.search.result (λ report. IsOutcomeIn m search.within search.nodes p report.outcome)) (sym c.requires.depth)
    (report_outcome p search.within search.nodes kept c.search.result c.search.ensures.outcome)

pub returns-clause-near : goal.returns-clause-near
returns-clause-near g c =
    let search = c.args.search in
    report_near (problem_of c.args.space.now) search.within search.nodes
    (pairs_of (kept_of c.search.new.space)) c.search.result c.search.ensures.outcome

pub returns-clause-prefixes : goal.returns-clause-prefixes
returns-clause-prefixes g c =
    let p = problem_of c.args.space.now in
    let kept = pairs_of (kept_of c.search.new.space) in
    let search = c.args.search in
    report_prefixes c.pair_goes_on.ensures c.prefixes_are_open.ensures c.action_order_is_total.ensures p search.within search.nodes kept
    c.search.result c.search.ensures.outcome c.search.ensures.told
