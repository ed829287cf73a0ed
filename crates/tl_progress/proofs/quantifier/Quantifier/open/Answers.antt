use Rattle.std.proofs.Common.{◌≤◌, List, length, refl, sym, subst}
use Rattle.tl_eval.specs.Frames.{assignment_in}
use Rattle.tl_eval.specs.PatternOf.{IsPatternOf}
use Rattle.tl_nodes.specs.NodeTrees.{tree_at}
use Rattle.tl_nodes.specs.Numbers.{trees}
use Rattle.tl_syntax.specs.declared.bound.Bound.{Bound}
use Rattle.tl_syntax.specs.declared.variable.Var.{Var}
use Rattle.tl_syntax.specs.BoundVariables.{DifferInSlot, OccurIn}
use Rattle.tl_syntax.specs.Fits.{BoundFits}
use Rattle.tl_syntax.specs.Signature.{signature_of}
use Rattle.tl_progress.specs.Quantifiers.{node_bound, node_vars}
use Rattle.tl_progress.specs.Sentences.{FitsSomewhere}
use Rattle.tl_progress.proofs.Instances.{quantifier-fits}
use Rattle.tl_progress.proofs.QuantifierNodes.{vars-ForAll, vars-Exists, bound-ForAll, bound-Exists, no-quantifier}
use Rattle.tl_progress.proofs.quantifier.Quantifier.open.Goals as goal

pub open_in_place-requires-clause-differ : goal.open_in_place-requires-clause-differ
open_in_place-requires-clause-differ c =
    let q = quantifier-fits c.args.task.now.problem c.args.self.junction (node_vars (trees c.args.nodes.now) c.args.self)
    (node_bound (trees c.args.nodes.now) c.args.self) (tree_at (trees c.args.nodes.now) c.args.self.part)
    (subst (FitsSomewhere (signature_of c.args.task.now.problem.domain)) c.requires.stands c.requires.fits) in
    subst DifferInSlot (vars-ForAll (trees c.args.nodes.now) c.args.self.at c.get.result.now c.get.ensures.tree c.in-ForAll.vars
    c.in-ForAll.bound c.in-ForAll.field-2 c.in-ForAll.is) q.differ

pub open_in_place-requires-clause-occur : goal.open_in_place-requires-clause-occur
open_in_place-requires-clause-occur c =
    let q = quantifier-fits c.args.task.now.problem c.args.self.junction (node_vars (trees c.args.nodes.now) c.args.self)
    (node_bound (trees c.args.nodes.now) c.args.self) (tree_at (trees c.args.nodes.now) c.args.self.part)
    (subst (FitsSomewhere (signature_of c.args.task.now.problem.domain)) c.requires.stands c.requires.fits) in
    subst (λ (ss : List Var). OccurIn ss c.in-ForAll.bound) (vars-ForAll
    (trees c.args.nodes.now) c.args.self.at c.get.result.now c.get.ensures.tree c.in-ForAll.vars c.in-ForAll.bound c.in-ForAll.field-2
    c.in-ForAll.is)
    (subst (OccurIn (node_vars (trees c.args.nodes.now) c.args.self)) (bound-ForAll
    (trees c.args.nodes.now) c.args.self.at c.get.result.now c.get.ensures.tree c.in-ForAll.vars c.in-ForAll.bound c.in-ForAll.field-2
    c.in-ForAll.is) q.occur)

pub open_in_place-requires-clause-fits : goal.open_in_place-requires-clause-fits
open_in_place-requires-clause-fits c =
    let q = quantifier-fits c.args.task.now.problem c.args.self.junction (node_vars (trees c.args.nodes.now) c.args.self)
    (node_bound (trees c.args.nodes.now) c.args.self) (tree_at (trees c.args.nodes.now) c.args.self.part)
    (subst (FitsSomewhere (signature_of c.args.task.now.problem.domain)) c.requires.stands c.requires.fits) in
    subst (BoundFits (signature_of c.args.task.now.problem.domain)) (bound-ForAll
    (trees c.args.nodes.now) c.args.self.at c.get.result.now c.get.ensures.tree c.in-ForAll.vars c.in-ForAll.bound c.in-ForAll.field-2
    c.in-ForAll.is) q.bound

pub returns-in-ForAll-clause-stands : goal.returns-in-ForAll-clause-stands
returns-in-ForAll-clause-stands c =
    subst (λ (ss : List Var). IsPatternOf ss (assignment_in c.args.env.now)
    (node_bound (trees c.args.nodes.now) c.args.self) c.open_in_place.new.self)
    (sym (vars-ForAll (trees c.args.nodes.now) c.args.self.at c.get.result.now c.get.ensures.tree c.in-ForAll.vars c.in-ForAll.bound
    c.in-ForAll.field-2 c.in-ForAll.is))
    (subst (λ (b : Bound). IsPatternOf c.in-ForAll.vars (assignment_in c.args.env.now) b c.open_in_place.new.self)
    (sym (bound-ForAll (trees c.args.nodes.now) c.args.self.at c.get.result.now c.get.ensures.tree c.in-ForAll.vars c.in-ForAll.bound
    c.in-ForAll.field-2 c.in-ForAll.is)) c.open_in_place.ensures.stands)

pub open_in_place-requires-in-Exists-clause-differ : goal.open_in_place-requires-in-Exists-clause-differ
open_in_place-requires-in-Exists-clause-differ c =
    let q = quantifier-fits c.args.task.now.problem c.args.self.junction (node_vars (trees c.args.nodes.now) c.args.self)
    (node_bound (trees c.args.nodes.now) c.args.self) (tree_at (trees c.args.nodes.now) c.args.self.part)
    (subst (FitsSomewhere (signature_of c.args.task.now.problem.domain)) c.requires.stands c.requires.fits) in
    subst DifferInSlot (vars-Exists (trees c.args.nodes.now) c.args.self.at c.get.result.now c.get.ensures.tree c.in-Exists.vars
    c.in-Exists.bound c.in-Exists.field-2 c.in-Exists.is) q.differ

pub open_in_place-requires-in-Exists-clause-occur : goal.open_in_place-requires-in-Exists-clause-occur
open_in_place-requires-in-Exists-clause-occur c =
    let q = quantifier-fits c.args.task.now.problem c.args.self.junction (node_vars (trees c.args.nodes.now) c.args.self)
    (node_bound (trees c.args.nodes.now) c.args.self) (tree_at (trees c.args.nodes.now) c.args.self.part)
    (subst (FitsSomewhere (signature_of c.args.task.now.problem.domain)) c.requires.stands c.requires.fits) in
    subst (λ (ss : List Var). OccurIn ss c.in-Exists.bound) (vars-Exists
    (trees c.args.nodes.now) c.args.self.at c.get.result.now c.get.ensures.tree c.in-Exists.vars c.in-Exists.bound c.in-Exists.field-2
    c.in-Exists.is)
    (subst (OccurIn (node_vars (trees c.args.nodes.now) c.args.self)) (bound-Exists
    (trees c.args.nodes.now) c.args.self.at c.get.result.now c.get.ensures.tree c.in-Exists.vars c.in-Exists.bound c.in-Exists.field-2
    c.in-Exists.is) q.occur)

pub open_in_place-requires-in-Exists-clause-fits : goal.open_in_place-requires-in-Exists-clause-fits
open_in_place-requires-in-Exists-clause-fits c =
    let q = quantifier-fits c.args.task.now.problem c.args.self.junction (node_vars (trees c.args.nodes.now) c.args.self)
    (node_bound (trees c.args.nodes.now) c.args.self) (tree_at (trees c.args.nodes.now) c.args.self.part)
    (subst (FitsSomewhere (signature_of c.args.task.now.problem.domain)) c.requires.stands c.requires.fits) in
    subst (BoundFits (signature_of c.args.task.now.problem.domain)) (bound-Exists
    (trees c.args.nodes.now) c.args.self.at c.get.result.now c.get.ensures.tree c.in-Exists.vars c.in-Exists.bound c.in-Exists.field-2
    c.in-Exists.is) q.bound

pub returns-in-Exists-clause-stands : goal.returns-in-Exists-clause-stands
returns-in-Exists-clause-stands c =
    subst (λ (ss : List Var). IsPatternOf ss (assignment_in c.args.env.now)
    (node_bound (trees c.args.nodes.now) c.args.self) c.open_in_place-in-Exists.new.self)
    (sym (vars-Exists (trees c.args.nodes.now) c.args.self.at c.get.result.now c.get.ensures.tree c.in-Exists.vars c.in-Exists.bound
    c.in-Exists.field-2 c.in-Exists.is))
    (subst (λ (b : Bound). IsPatternOf c.in-Exists.vars (assignment_in c.args.env.now) b c.open_in_place-in-Exists.new.self)
    (sym (bound-Exists (trees c.args.nodes.now) c.args.self.at c.get.result.now c.get.ensures.tree c.in-Exists.vars c.in-Exists.bound
    c.in-Exists.field-2 c.in-Exists.is)) c.open_in_place-in-Exists.ensures.stands)

pub returns-in-ForAll-clause-few : goal.returns-in-ForAll-clause-few
returns-in-ForAll-clause-few c = subst (λ (ss : List Var). length ss ≤ 9)
    (sym (vars-ForAll (trees c.args.nodes.now) c.args.self.at c.get.result.now c.get.ensures.tree c.in-ForAll.vars c.in-ForAll.bound
    c.in-ForAll.field-2 c.in-ForAll.is)) c.open_in_place.ensures.few

pub returns-in-Exists-clause-few : goal.returns-in-Exists-clause-few
returns-in-Exists-clause-few c = subst (λ (ss : List Var). length ss ≤ 9)
    (sym (vars-Exists (trees c.args.nodes.now) c.args.self.at c.get.result.now c.get.ensures.tree c.in-Exists.vars c.in-Exists.bound
    c.in-Exists.field-2 c.in-Exists.is)) c.open_in_place-in-Exists.ensures.few

pub unreachable-requires : goal.unreachable-requires
unreachable-requires c = (no-quantifier (trees c.args.nodes.now) c.args.self.at c.get.result.now c.get.ensures.tree c.get.ensures.parts
    c.in_default.not-ForAll c.in_default.not-Exists c.args.self refl c.requires.stands)
