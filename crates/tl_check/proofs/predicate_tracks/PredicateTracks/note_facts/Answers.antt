use Rattle.std.proofs.Common.{◌≤◌, length, arith}
use Rattle.tl_check.proofs.TrailLaws.{facts-none, facts-more, facts-all}
use Rattle.tl_check.proofs.predicate_tracks.PredicateTracks.note_facts.Goals as goal

pub loop-fact-init : goal.loop-fact-init
loop-fact-init c = record {
  covered = c.requires;
  noted = facts-none c.args.facts.now c.args.w.now c.args.at c.args.self.now;
}

pub loop-fact-preserved : goal.loop-fact-preserved
loop-fact-preserved c = record {
  covered = c.in_ok-note_fact.ensures.covered;
  noted = facts-more c.args.facts.now c.args.w.now c.args.at c.loop-fact.fact-index c.fact-item.result c.args.self.now c.loop-fact.self
      c.note_fact.new.self c.loop-fact-test.true c.fact-item.is c.loop-fact.invariant.noted c.in_ok-note_fact.ensures.noted;
}

pub returns-clause-noted : goal.returns-clause-noted
returns-clause-noted c =
    let done : length c.args.facts.now ≤ c.loop-fact.fact-index = omega arith in
    facts-all c.args.facts.now c.args.w.now c.args.at c.loop-fact.fact-index c.args.self.now c.loop-fact.self done
    c.loop-fact.invariant.noted
