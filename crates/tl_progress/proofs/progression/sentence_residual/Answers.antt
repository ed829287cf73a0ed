use Rattle.std.proofs.Common.{true≢false, sym, ◌∙◌}
use Rattle.tl_nodes.specs.Numbers.{trees}
use Rattle.tl_progress.proofs.ResidualLayers.{is-and, is-or}
use Rattle.tl_progress.proofs.progression.sentence_residual.Goals as goal

pub joined_residual-requires-clause-join : goal.joined_residual-requires-clause-join
joined_residual-requires-clause-join c = is-and (trees c.args.nodes.now) c.args.incoming.formula c.get.result.now c.get.ensures.tree
    c.in-And.field-0 c.in-And.is

pub joined_residual-requires-in-Or-clause-join : goal.joined_residual-requires-in-Or-clause-join
joined_residual-requires-in-Or-clause-join c = is-or (trees c.args.nodes.now) c.args.incoming.formula c.get.result.now c.get.ensures.tree
    c.in-Or.field-0 c.in-Or.is

pub constant_residual-requires-clause-state : goal.constant_residual-requires-clause-state
constant_residual-requires-clause-state c = c.temporal.ensures.state.0 c.if-not-temporal.true

pub returns-then-not-temporal-clause-constant : goal.returns-then-not-temporal-clause-constant
returns-then-not-temporal-clause-constant c = λ h. c.constant_residual.ensures.constant

pub returns-in-And-clause-same : goal.returns-in-And-clause-same
returns-in-And-clause-same c = λ h. absurd (true≢false (sym c.if-not-temporal.false ∙ c.temporal.ensures.state.1 h))

pub returns-in-And-clause-constant : goal.returns-in-And-clause-constant
returns-in-And-clause-constant c = λ h. absurd (true≢false (sym c.if-not-temporal.false ∙ c.temporal.ensures.state.1 h))

pub returns-in-Or-clause-same : goal.returns-in-Or-clause-same
returns-in-Or-clause-same c = λ h. absurd (true≢false (sym c.if-not-temporal.false ∙ c.temporal.ensures.state.1 h))

pub returns-in-Or-clause-constant : goal.returns-in-Or-clause-constant
returns-in-Or-clause-constant c = λ h. absurd (true≢false (sym c.if-not-temporal.false ∙ c.temporal.ensures.state.1 h))

pub returns-in_default-clause-same : goal.returns-in_default-clause-same
returns-in_default-clause-same c = λ h. absurd (true≢false (sym c.if-not-temporal.false ∙ c.temporal.ensures.state.1 h))

pub returns-in_default-clause-constant : goal.returns-in_default-clause-constant
returns-in_default-clause-constant c = λ h. absurd (true≢false (sym c.if-not-temporal.false ∙ c.temporal.ensures.state.1 h))
