use Rattle.tl_eval.specs.Frames.{assignment_in}
use Rattle.tl_eval.specs.InPlace.{in_place}
use Rattle.tl_eval.proofs.PatternLaws.{few-variables, stands, at-Fact, at-Place, at-GoalFact, at-GoalPlace, at-GoalNot}
use Rattle.tl_eval.proofs.pattern_of.put_pattern_of.Goals as goal

pub put_fact-requires-clause-few : goal.put_fact-requires-clause-few
put_fact-requires-clause-few c = few-variables c.args.vars.now c.args.b.now c.requires.differ c.requires.occur c.requires.few

pub put_place-requires-clause-few : goal.put_place-requires-clause-few
put_place-requires-clause-few c = few-variables c.args.vars.now c.args.b.now c.requires.differ c.requires.occur c.requires.few

pub put_fact-requires-in-GoalFact-clause-few : goal.put_fact-requires-in-GoalFact-clause-few
put_fact-requires-in-GoalFact-clause-few c = few-variables c.args.vars.now c.args.b.now c.requires.differ c.requires.occur c.requires.few

pub put_place-requires-in-GoalPlace-clause-few : goal.put_place-requires-in-GoalPlace-clause-few
put_place-requires-in-GoalPlace-clause-few c = few-variables c.args.vars.now c.args.b.now c.requires.differ c.requires.occur c.requires.few

pub put_fact-requires-in-GoalNot-clause-few : goal.put_fact-requires-in-GoalNot-clause-few
put_fact-requires-in-GoalNot-clause-few c = few-variables c.args.vars.now c.args.b.now c.requires.differ c.requires.occur c.requires.few

pub returns-in-Fact : goal.returns-in-Fact
returns-in-Fact c =
    at-Fact c.args.vars.now (assignment_in c.args.frame.now) c.args.b.now c.in-Fact.pred c.in-Fact.args c.as_slice.result.now
    (in_place c.put_fact.result c.put_fact.new.pattern)
    (stands c.args.vars.now c.args.b.now c.requires.differ c.requires.occur c.requires.few) c.in-Fact.is c.as_slice.ensures
    c.put_fact.ensures

pub returns-in-Place : goal.returns-in-Place
returns-in-Place c =
    at-Place c.args.vars.now (assignment_in c.args.frame.now) c.args.b.now c.in-Place.fun c.in-Place.args c.as_slice-in-Place.result.now
    c.in-Place.value (in_place c.put_place.result c.put_place.new.pattern)
    (stands c.args.vars.now c.args.b.now c.requires.differ c.requires.occur c.requires.few) c.in-Place.is c.as_slice-in-Place.ensures
    c.put_place.ensures

pub returns-in-GoalFact : goal.returns-in-GoalFact
returns-in-GoalFact c =
    at-GoalFact c.args.vars.now (assignment_in c.args.frame.now) c.args.b.now c.in-GoalFact.pred c.in-GoalFact.args
    c.as_slice-in-GoalFact.result.now (in_place c.put_fact-in-GoalFact.result c.put_fact-in-GoalFact.new.pattern)
    (stands c.args.vars.now c.args.b.now c.requires.differ c.requires.occur c.requires.few) c.in-GoalFact.is c.as_slice-in-GoalFact.ensures
    c.put_fact-in-GoalFact.ensures

pub returns-in-GoalPlace : goal.returns-in-GoalPlace
returns-in-GoalPlace c =
    at-GoalPlace c.args.vars.now (assignment_in c.args.frame.now) c.args.b.now c.in-GoalPlace.fun c.in-GoalPlace.args
    c.as_slice-in-GoalPlace.result.now c.in-GoalPlace.value (in_place c.put_place-in-GoalPlace.result
    c.put_place-in-GoalPlace.new.pattern)
    (stands c.args.vars.now c.args.b.now c.requires.differ c.requires.occur c.requires.few) c.in-GoalPlace.is
    c.as_slice-in-GoalPlace.ensures c.put_place-in-GoalPlace.ensures

pub returns-in-GoalNot : goal.returns-in-GoalNot
returns-in-GoalNot c =
    at-GoalNot c.args.vars.now (assignment_in c.args.frame.now) c.args.b.now c.in-GoalNot.pred c.in-GoalNot.args
    c.as_slice-in-GoalNot.result.now (in_place c.put_fact-in-GoalNot.result c.put_fact-in-GoalNot.new.pattern)
    (stands c.args.vars.now c.args.b.now c.requires.differ c.requires.occur c.requires.few) c.in-GoalNot.is c.as_slice-in-GoalNot.ensures
    c.put_fact-in-GoalNot.ensures
