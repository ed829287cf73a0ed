use Rattle.std.proofs.Common.{◌≡◌, List, Option, Some, None, IfOk, IfErr, IfSome, IfNone, sym, ◌∙◌, subst}
use Rattle.tl_eval.specs.Remembered.{AreTruths}
use Rattle.tl_syntax.specs.declared.value.Value.{Value}
use Rattle.tl_terms.specs.ProblemMeaning.{plain_problem}
use Rattle.tl_eval.specs.Faults.{IsCausedBy}
use Rattle.tl_progress.specs.Calls.{looked_for_residual_at, AreOpenIn, IsDecided}
use Rattle.tl_progress.proofs.joined.open_parts.Goals as goal

pub remembering_open_parts-answer-requires-clause-remembers : goal.remembering_open_parts-answer-requires-clause-remembers
remembering_open_parts-answer-requires-clause-remembers c = subst (AreTruths
    (plain_problem c.args.formulas.now.here.now.task.now.problem) c.args.formulas.now.here.now.world.now)
    (sym c.lend_memory-memory.ensures.nothing) tt

pub remembering_open_parts-answer-requires-clause-known : goal.remembering_open_parts-answer-requires-clause-known
remembering_open_parts-answer-requires-clause-known c = λ k b h. let z : None ≡ Some b = h in absurd (let f : ⊥ = cc in f)

pub returns-clause-decided : goal.returns-clause-decided
returns-clause-decided c =
    subst (λ (v : List (Option Value)). IfOk c.remembering_open_parts-answer.result
    (λ o. IfNone o (IsDecided c.args.formulas.now.here.now.task.now c.args.formulas.now.here.now.world.now v
    c.args.formulas.now.nodes.now c.args.joined))) c.lend_memory-memory.ensures.frame c.remembering_open_parts-answer.ensures.decided

pub returns-clause-parts : goal.returns-clause-parts
returns-clause-parts c =
    subst (λ (v : List (Option Value)). IfOk c.remembering_open_parts-answer.result
    (λ o. IfSome o (λ ids. AreOpenIn c.args.formulas.now.here.now.task.now c.args.formulas.now.here.now.world.now v
    c.args.formulas.now.nodes.now c.args.joined ids))) c.lend_memory-memory.ensures.frame c.remembering_open_parts-answer.ensures.parts

pub returns-clause-cause : goal.returns-clause-cause
returns-clause-cause c =
    subst (λ (v : List (Option Value)). IfErr c.remembering_open_parts-answer.result
    (IsCausedBy (looked_for_residual_at c.args.formulas.now.here.now.task.now c.args.formulas.now.here.now.world.now v
    c.args.formulas.now.nodes.now c.args.joined.at))) c.lend_memory-memory.ensures.frame c.remembering_open_parts-answer.ensures.cause

pub returns-clause-frame : goal.returns-clause-frame
returns-clause-frame c = c.take_back.ensures.frame ∙ (c.remembering_open_parts-answer.ensures.stays.frame ∙
    c.lend_memory-memory.ensures.frame)

pub remembering_open_parts-answer-requires-clause-there : goal.remembering_open_parts-answer-requires-clause-there
remembering_open_parts-answer-requires-clause-there c = record { at = c.requires.there.at; sentence = c.requires.there.sentence }
