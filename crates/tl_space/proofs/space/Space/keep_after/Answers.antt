use Rattle.std.proofs.Common.{List, sym, ap, subst, IfOk, ◌∙◌}
use Rattle.tl_syntax.specs.declared.action.Action.{Action}
use Rattle.tl_action.specs.Actions.{ArgumentsAreNamed}
use Rattle.tl_search.specs.Graphs.{walk}
use Rattle.tl_search.specs.PairGraph.{pair_graph}
use Rattle.tl_space.specs.Inner.{node_in, IsKeptLast}
use Rattle.tl_space.specs.Kept.{paths_of}
use Rattle.tl_space.specs.Spaces.{problem_of, name_count}
use Rattle.tl_space.proofs.Keeping.{after-path, met-before}
use Rattle.tl_space.proofs.space.Space.keep_after.Goals as goal

pub keep-requires-clause-met : goal.keep-requires-clause-met
keep-requires-clause-met c = met-before c.args.self.now c.args.at c.requires.at

pub keep-requires-clause-named : goal.keep-requires-clause-named
keep-requires-clause-named c = subst (ArgumentsAreNamed (name_count c.args.self.now)) (sym c.in_ok-action.ensures.same) c.requires.named

pub keep-requires-clause-walk : goal.keep-requires-clause-walk
keep-requires-clause-walk c =
    let s = c.args.self.now in
    ap (walk (pair_graph (problem_of s))) (after-path (paths_of s.from) c.args.at c.args.a.now _ c.in_ok-action.ensures.same) ∙
    c.requires.walk

pub returns-clause-kept : goal.returns-clause-kept
returns-clause-kept c =
    let s = c.args.self.now in
    subst (λ (u : List Action). IfOk c.keep.result (λ k. IsKeptLast s c.keep.new.self (node_in s c.args.numbers) u))
    (after-path (paths_of s.from) c.args.at c.args.a.now _ c.in_ok-action.ensures.same) c.keep.ensures.kept
