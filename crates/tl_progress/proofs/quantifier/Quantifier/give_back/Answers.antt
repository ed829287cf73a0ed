use Rattle.std.proofs.Common.{◌≤◌, ◌<◌, List, length, refl, sym, ◌∙◌, subst}
use Rattle.tl_eval.specs.Frames.{assignment_in, AgreeElsewhere, AreKept}
use Rattle.tl_nodes.specs.Numbers.{trees}
use Rattle.tl_syntax.specs.Lists.{Each}
use Rattle.tl_syntax.specs.declared.variable.Var.{Var}
use Rattle.tl_progress.proofs.QuantifierNodes.{vars-ForAll, vars-Exists, no-quantifier}
use Rattle.tl_progress.proofs.quantifier.Quantifier.give_back.Goals as goal

pub give_back-requires-clause-slots : goal.give_back-requires-clause-slots
give_back-requires-clause-slots c =
    let vs = vars-ForAll (trees c.args.nodes.now) c.args.self.at c.get.result.now c.get.ensures.tree c.in-ForAll.vars c.in-ForAll.field-1
    c.in-ForAll.field-2 c.in-ForAll.is in
    subst (λ (ss : List Var). Each (λ s. s.slot < 32) ss) (vs ∙ sym c.as_slice.ensures) c.requires.slots

pub give_back-requires-clause-few : goal.give_back-requires-clause-few
give_back-requires-clause-few c =
    let vs = vars-ForAll (trees c.args.nodes.now) c.args.self.at c.get.result.now c.get.ensures.tree c.in-ForAll.vars c.in-ForAll.field-1
    c.in-ForAll.field-2 c.in-ForAll.is in
    subst (λ (ss : List Var). length ss ≤ 9) (vs ∙ sym c.as_slice.ensures) c.requires.few

pub returns-in-ForAll : goal.returns-in-ForAll
returns-in-ForAll c = λ frame kept others.
    let vs = vars-ForAll (trees c.args.nodes.now) c.args.self.at c.get.result.now c.get.ensures.tree c.in-ForAll.vars c.in-ForAll.field-1
    c.in-ForAll.field-2 c.in-ForAll.is in
    c.give_back.ensures.frame frame (subst (λ (ss : List Var). AreKept ss frame c.args.outer.now) (vs ∙ sym c.as_slice.ensures) kept)
    (subst (λ (ss : List Var). AgreeElsewhere ss (assignment_in c.args.env.now) (assignment_in frame))
    (vs ∙ sym c.as_slice.ensures) others)

pub give_back-requires-in-Exists-clause-slots : goal.give_back-requires-in-Exists-clause-slots
give_back-requires-in-Exists-clause-slots c =
    let vs = vars-Exists (trees c.args.nodes.now) c.args.self.at c.get.result.now c.get.ensures.tree c.in-Exists.vars c.in-Exists.field-1
    c.in-Exists.field-2 c.in-Exists.is in
    subst (λ (ss : List Var). Each (λ s. s.slot < 32) ss) (vs ∙ sym c.as_slice-in-Exists.ensures) c.requires.slots

pub give_back-requires-in-Exists-clause-few : goal.give_back-requires-in-Exists-clause-few
give_back-requires-in-Exists-clause-few c =
    let vs = vars-Exists (trees c.args.nodes.now) c.args.self.at c.get.result.now c.get.ensures.tree c.in-Exists.vars c.in-Exists.field-1
    c.in-Exists.field-2 c.in-Exists.is in
    subst (λ (ss : List Var). length ss ≤ 9) (vs ∙ sym c.as_slice-in-Exists.ensures) c.requires.few

pub returns-in-Exists : goal.returns-in-Exists
returns-in-Exists c = λ frame kept others.
    let vs = vars-Exists (trees c.args.nodes.now) c.args.self.at c.get.result.now c.get.ensures.tree c.in-Exists.vars c.in-Exists.field-1
    c.in-Exists.field-2 c.in-Exists.is in
    c.give_back-in-Exists.ensures.frame frame (subst (λ (ss : List Var). AreKept ss frame c.args.outer.now)
    (vs ∙ sym c.as_slice-in-Exists.ensures) kept) (subst (λ (ss : List Var).
    AgreeElsewhere ss (assignment_in c.args.env.now) (assignment_in frame)) (vs ∙ sym c.as_slice-in-Exists.ensures) others)

pub returns-in_default : goal.returns-in_default
returns-in_default c = absurd (no-quantifier (trees c.args.nodes.now) c.args.self.at c.get.result.now c.get.ensures.tree c.get.ensures.parts
    c.in_default.not-ForAll c.in_default.not-Exists c.args.self refl c.requires.stands)
