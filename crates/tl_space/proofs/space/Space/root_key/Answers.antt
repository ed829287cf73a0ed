use Rattle.std.proofs.Common.{Some, sym, ap, ◌∙◌}
use Rattle.std.proofs.lemmas.Option.{slice_get_within}
use Rattle.tl_terms.specs.Problem.{PlainProblem}
use Rattle.tl_space.specs.Spaces.{problem_of}
use Rattle.tl_known.specs.WorldNumbers.{worlds_in}
use Rattle.tl_space.proofs.SpaceLaws.{keeps-trans, label-later, keeps-problem}
use Rattle.tl_space.proofs.space.Space.root_key.Goals as goal

pub returns-in_err-world-clause-keeps : goal.returns-in_err-world-clause-keeps
returns-in_err-world-clause-keeps c = keeps-trans c.args.self.now c.number_of_control.new.self c.number_of_first.new.self
    c.number_of_control.ensures.keeps c.number_of_first.ensures.keeps

pub returns-clause-keeps : goal.returns-clause-keeps
returns-clause-keeps c = keeps-trans c.args.self.now c.number_of_control.new.self c.number_of_first.new.self
    c.number_of_control.ensures.keeps c.number_of_first.ensures.keeps

pub returns-clause-numbers : goal.returns-clause-numbers
returns-clause-numbers c = record {
  world = slice_get_within (worlds_in c.number_of_first.new.self.worlds) c.in_ok-world.world _ c.in_ok-world.ensures.number;
  label = label-later c.number_of_control.new.self c.number_of_first.new.self c.in_ok-label.label c.number_of_first.ensures.keeps
      c.in_ok-label.ensures.label;
}

pub returns-clause-key : goal.returns-clause-key
returns-clause-key c =
    let s0 = c.args.self.now in
    let s1 = c.number_of_control.new.self in
    let s2 = c.number_of_first.new.self in
    let k1 = c.number_of_control.ensures.keeps in
    let k2 = c.number_of_first.ensures.keeps in
    record {
      world = c.in_ok-world.ensures.number ∙ ap (λ (p : PlainProblem). Some p.first) (sym (keeps-problem s1 s2 k2));
      label = k2.trees c.in_ok-label.label (problem_of s0).control c.in_ok-label.ensures.number ∙
          ap (λ (p : PlainProblem). Some p.control) (sym (keeps-problem s0 s2 (keeps-trans s0 s1 s2 k1 k2)));
    }
