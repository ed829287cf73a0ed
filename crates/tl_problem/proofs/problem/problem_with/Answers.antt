use Rattle.std.proofs.Common.{length, sym, subst}
use Rattle.tl_syntax.specs.Signature.{signature_of}
use Rattle.tl_problem.specs.Keeps.{SectionsKeep}
use Rattle.tl_problem.specs.Sections.{Sections}
use Rattle.tl_problem.proofs.problem.problem_with.Goals as goal

pub invariant_of-result : goal.invariant_of-result
invariant_of-result c =
    let kept = subst (λ (s : Sections). SectionsKeep (signature_of c.args.domain) (length c.args.names) s)
    (sym c.in-Ok.ensures) c.requires.said in
    record {
      settled = c.requires.order;
      domain_keeps = c.requires.domain;
      init_facts_keep = kept.init.facts;
      init_values_keep = kept.init.values;
      goal_facts_keep = kept.goal.facts;
      goal_values_keep = kept.goal.values;
      goal_nots_keep = kept.goal.nots;
      init_agrees = kept.init.agrees;
      goal_agrees = kept.goal.agrees;
      goal_is_consistent = kept.goal.consistent;
    }
