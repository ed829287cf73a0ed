use Rattle.std.proofs.Common.{◌<◌, ℕ, [], false, length, Result, Ok, Err, IfOk, sym, subst, arith}
use Rattle.tl_nodes.specs.NodeTrees.{tree_at}
use Rattle.tl_nodes.specs.Numbers.{trees}
use Rattle.tl_progress.specs.Parts.{parts}
use Rattle.tl_progress.specs.Sentences.{IsSentence}
use Rattle.tl_progress.proofs.Below.{part-lower}
use Rattle.tl_syntax.specs.Lists.{Among}
use Rattle.tl_syntax.specs.Signature.{Signature}
use Rattle.tl_task_cases.proofs.progression.part_of.Goals as goal

over : {E : Type 0} (P Q : ℕ → Type 0) → ((n : ℕ) → P n → Q n) → (r : Result ℕ E) → IfOk r P → IfOk r Q
over P Q h (Ok n) k = h n k
over P Q h (Err e) k = tt

pub returns-in-And-clause-number : goal.returns-in-And-clause-number
returns-in-And-clause-number c =
    over (λ n. Among n c.in-And.parts) (λ n. n < length (trees c.args.nodes.now))
    (λ n m.
    let low = part-lower false (trees c.args.nodes.now) c.args.whole n c.get.result.now c.get.ensures.tree c.get.ensures.parts
    (subst (λ a. Among n (parts false a)) (sym c.in-And.is) m) in
    let less = low.less in
    omega (arith, less, c.requires))
    c.one_of.result c.one_of.ensures

pub returns-in-And-clause-sentence : goal.returns-in-And-clause-sentence
returns-in-And-clause-sentence c =
    over (λ n. Among n c.in-And.parts) (λ n. (g : Signature) → IsSentence g (tree_at (trees c.args.nodes.now) c.args.whole) →
    IsSentence g (tree_at (trees c.args.nodes.now) n))
    (λ n m g s.
    let low = part-lower false (trees c.args.nodes.now) c.args.whole n c.get.result.now c.get.ensures.tree c.get.ensures.parts
    (subst (λ a. Among n (parts false a)) (sym c.in-And.is) m) in
    record { fits = low.below.fits g [] s.fits; closed = low.below.scope [] s.closed })
    c.one_of.result c.one_of.ensures
