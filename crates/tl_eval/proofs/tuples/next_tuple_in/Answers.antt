use Rattle.std.specs.Option.{option_map}
use Rattle.tl_eval.specs.Frames.{assignment_in}
use Rattle.tl_eval.specs.InPlace.{in_place}
use Rattle.tl_eval.proofs.ArityLaws.{declared-few}
use Rattle.tl_eval.proofs.PartLists.{counts, counts-not}
use Rattle.tl_eval.proofs.PatternLaws.{bound-few}
use Rattle.tl_eval.proofs.TupleSearch.{pattern-lawful, asked-after, found-len, found-next, never-next}
use Rattle.tl_syntax.specs.Signature.{signature_of}
use Rattle.tl_terms.specs.Definitions.{situation_of}
use Rattle.tl_terms.specs.ProblemMeaning.{plain_problem}
use Rattle.tl_match.specs.Patterns.{tuple_of}
use Rattle.tl_eval.proofs.tuples.next_tuple_in.Goals as goal

pub put_pattern_of-requires-clause-few : goal.put_pattern_of-requires-clause-few
put_pattern_of-requires-clause-few c =
    let problem = c.args.task.now.problem in
    bound-few (signature_of problem.domain) (declared-few _ _ problem.domain_keeps.predicates)
    (declared-few _ _ problem.domain_keeps.functions) c.args.binder.now.bound.now c.requires.fits

pub next_match-requires-clause-pattern : goal.next_match-requires-clause-pattern
next_match-requires-clause-pattern c =
    pattern-lawful c.args.binder.now.vars.now (assignment_in c.args.frame.now) c.args.binder.now.bound.now
    (in_place c.put_pattern_of.result c.put_pattern_of.new.pattern) c.put_pattern_of.new.pattern
    (counts c.put_pattern_of.result c.put_pattern_of.new.pattern c.if-put_pattern_of.true) c.put_pattern_of.ensures

pub next_match-requires-clause-after : goal.next_match-requires-clause-after
next_match-requires-clause-after c =
    asked-after c.args.binder.now.vars.now (assignment_in c.args.frame.now) c.args.binder.now.bound.now
    (in_place c.put_pattern_of.result c.put_pattern_of.new.pattern) c.put_pattern_of.new.pattern c.args.after
    (counts c.put_pattern_of.result c.put_pattern_of.new.pattern c.if-put_pattern_of.true) c.put_pattern_of.ensures c.requires.after

pub returns-then-put_pattern_of-clause-next : goal.returns-then-put_pattern_of-clause-next
returns-then-put_pattern_of-clause-next c =
    found-next c.args.binder.now.vars.now (assignment_in c.args.frame.now) c.args.binder.now.bound.now
    (in_place c.put_pattern_of.result c.put_pattern_of.new.pattern) c.put_pattern_of.new.pattern
    (situation_of (plain_problem c.args.task.now.problem) c.args.w.now) c.world_of_bound.result.now
    (option_map tuple_of c.args.after) (option_map tuple_of c.next_match.result)
    (counts c.put_pattern_of.result c.put_pattern_of.new.pattern c.if-put_pattern_of.true) c.put_pattern_of.ensures
    c.world_of_bound.ensures c.next_match.ensures.next

pub returns-then-put_pattern_of-clause-len : goal.returns-then-put_pattern_of-clause-len
returns-then-put_pattern_of-clause-len c =
    found-len c.args.binder.now.vars.now (assignment_in c.args.frame.now) c.args.binder.now.bound.now
    (in_place c.put_pattern_of.result c.put_pattern_of.new.pattern) c.put_pattern_of.new.pattern c.next_match.result
    (counts c.put_pattern_of.result c.put_pattern_of.new.pattern c.if-put_pattern_of.true) c.put_pattern_of.ensures
    c.next_match.ensures.len

pub returns-else-put_pattern_of-clause-next : goal.returns-else-put_pattern_of-clause-next
returns-else-put_pattern_of-clause-next c =
    never-next c.args.binder.now.vars.now (assignment_in c.args.frame.now) c.args.binder.now.bound.now
    (in_place c.put_pattern_of.result c.put_pattern_of.new.pattern) (situation_of (plain_problem c.args.task.now.problem) c.args.w.now)
    (option_map tuple_of c.args.after) (counts-not c.put_pattern_of.result c.put_pattern_of.new.pattern c.if-put_pattern_of.false)
    c.put_pattern_of.ensures
