use Rattle.std.proofs.Common.{subst}
use Rattle.tl_action.proofs.Passed.{caused-more}
use Rattle.tl_eval.specs.Frames.{assignment_in}
use Rattle.tl_eval.specs.Notes.{Tells}
use Rattle.tl_eval.proofs.TermLaws.{among-left, among-right}
use Rattle.tl_syntax.specs.TreeOfTerm.{tree_of_term, tree_of_terms}
use Rattle.tl_terms.specs.Looked.{looked_in_term, looked_in_each}
use Rattle.std.proofs.Common.{◌++◌}
use Rattle.tl_action.proofs.collect.collect_place.Goals as goal

pub returns-in-Err-term-clause-place : goal.returns-in-Err-term-clause-place
returns-in-Err-term-clause-place c =
    let t = subst (λ env. Tells (looked_in_term c.args.here.now.world.now (assignment_in env) (tree_of_term c.args.setting.now.value.now))
    c.in-Err-term.note) c.values_of.ensures.frame c.in-Err-term.ensures.note in (
      among-right _ (looked_in_each c.args.here.now.world.now (assignment_in c.args.env.now) (tree_of_terms c.args.setting.now.args.now))
          (looked_in_term c.args.here.now.world.now (assignment_in c.args.env.now) (tree_of_term c.args.setting.now.value.now)) t.0,
      t.1,
    )

pub returns-in-Err-clause-place : goal.returns-in-Err-clause-place
returns-in-Err-clause-place c =
    let ls = looked_in_each c.args.here.now.world.now (assignment_in c.args.env.now) (tree_of_terms c.args.setting.now.args.now) in
    let ms = looked_in_term c.args.here.now.world.now (assignment_in c.args.env.now) (tree_of_term c.args.setting.now.value.now) in
    caused-more ls (ls ++ ms) c.in-Err.fault (λ o. among-left o ls ms) c.in-Err.ensures.values
