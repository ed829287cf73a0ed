use Rattle.std.proofs.Common.{◌≡◌, map, drop}
use Rattle.tl_syntax.specs.TreeOfTerm.{tree_of_term}
use Rattle.tl_label.specs.Lines.{after}
use Rattle.tl_label.specs.Parts.{after_spaces}
use Rattle.tl_label.specs.Terms.{term_text}
use Rattle.tl_label.proofs.terms.+put_term.Given as goal

-- the terms so far, and after them those that are left
abbrev pub invariant-put_terms-loop-term : goal.invariant-put_terms-loop-term
invariant-put_terms-loop-term l =
    after l.initial.line (after_spaces (map (λ t. term_text l.problem.names l.problem.domain (tree_of_term t)) l.term-items)) ≡
    after l.line (after_spaces (map (λ t. term_text l.problem.names l.problem.domain (tree_of_term t))
    (drop l.term-index l.term-items)))
