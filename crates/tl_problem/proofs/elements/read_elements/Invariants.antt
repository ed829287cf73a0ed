use Rattle.std.proofs.Common.{◌≡◌, drop}
use Rattle.tl_rules.specs.Reads.{trees_in}
use Rattle.tl_problem.specs.Elements.{elements_breaks, with_elements}
use Rattle.tl_problem.specs.Readers.{literals_in}
use Rattle.tl_problem.proofs.elements.read_elements.Given as goal

-- what those that are left break and say, beside what is said so far, is what all do
abbrev pub invariant-loop-form : goal.invariant-loop-form
invariant-loop-form l =
    let names = l.vocabulary.names.now in
    let d = l.vocabulary.declared.now in
    record {
      breaks : elements_breaks names d l.section (literals_in l.initial.literals) (trees_in l.forms) ≡
          elements_breaks names d l.section (literals_in l.literals) (trees_in (drop l.form-index l.forms));
      meant : with_elements names d l.section (literals_in l.initial.literals) (trees_in l.forms) ≡
          with_elements names d l.section (literals_in l.literals) (trees_in (drop l.form-index l.forms));
    }
