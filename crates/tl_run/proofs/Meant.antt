-- What files stand for, as they are read in turn and as they are meant together.
use Rattle.std.proofs.Common.{◌≡◌, ℕ, List, refl, sym, ◌∙◌, subst}
use Rattle.std.specs.Prelude.{Option}
use Rattle.tl_cert.specs.MeaningOfProofs.{proof_meant}
use Rattle.tl_cert.specs.ProofFiles.{proof_breaks}
use Rattle.tl_cert.specs.declared.proof.Proof.{Proof}
use Rattle.tl_cost.specs.CostFiles.{costs_breaks, costs_meant}
use Rattle.tl_gen.specs.Samples.{domain_text, problem_text}
use Rattle.tl_lasso.specs.LoopFiles.{loop_breaks}
use Rattle.tl_lasso.specs.MeaningOfLoops.{loop_meant}
use Rattle.tl_lasso.specs.declared.plan.LoopPlan.{LoopPlan}
use Rattle.tl_outside.specs.Told.{Files, IsContent}
use Rattle.tl_sexpr.specs.Tree.{FormTrees}
use Rattle.tl_syntax.specs.declared.action.Action.{Action}
use Rattle.tl_syntax.specs.declared.problem.Problem.{Problem}
use Rattle.tl_text.specs.MeaningOfPlans.{plan_meant}
use Rattle.tl_text.specs.Plans.{plan_breaks}
use Rattle.tl_run.specs.declared.words.Role.{Role}
use Rattle.tl_run.specs.declared.words.Role.TheVariants as role
use Rattle.tl_run.specs.Commands.{three_files, two_files}
use Rattle.tl_run.specs.Files.{SpellShortly}
use Rattle.tl_run.specs.Inputs.{Input, nothing, a_domain, a_problem, a_plan, a_proof, some_costs, a_loop, StandsFor}
use Rattle.tl_run.specs.Over.{HoldProblem, HoldThird, StandForProblem}
use Rattle.tl_run.specs.SampleTexts.{SampleStandsFor}
use Rattle.tl_run.specs.Turns.{StandTogether}

-- three files of each kind
abbrev pub HoldPlan : Option Files → List ℕ → List ℕ → List ℕ → Problem → List Action → Type 0
HoldPlan files d p q m plan = HoldProblem files d p m × HoldThird files q (plan_breaks m.names m.domain.operators)
    (plan_meant m.names m.domain.operators) plan

abbrev pub HoldProof : Option Files → List ℕ → List ℕ → List ℕ → Problem → Proof → Type 0
HoldProof files d p q m proof = HoldProblem files d p m × HoldThird files q (proof_breaks m.names m.domain.operators)
    (proof_meant m.names m.domain.operators) proof

abbrev pub HoldCosts : Option Files → List ℕ → List ℕ → List ℕ → Problem → List ℕ → Type 0
HoldCosts files d p q m costs = HoldProblem files d p m × HoldThird files q (costs_breaks m.names m.domain.operators)
    (costs_meant m.names m.domain.operators) costs

abbrev pub HoldLoop : Option Files → List ℕ → List ℕ → List ℕ → Problem → LoopPlan → Type 0
HoldLoop files d p q m plan = HoldProblem files d p m × HoldThird files q (loop_breaks m.names m.domain.operators)
    (loop_meant m.names m.domain.operators) plan

-- ---- from what was read in turn

by_problem : (first : FormTrees) (y : Input) (b c : List ℕ) → SpellShortly b first → StandsFor role.Problem (a_domain first) c y →
    (m : Problem) × (y ≡ a_problem m) × StandForProblem b c m
by_problem first (a_problem m) b c spelled t = (
  m,
  refl,
  record {
    first = first;
    second = t.forms;
    first_spelled = spelled;
    second_spelled =
        t.spelled;
    files = t.meant;
  },
)
by_problem first y b c spelled t = absurd t.meant

-- two texts that pass in turn stand for a problem
both_stand : (x y : Input) (b c : List ℕ) → StandsFor role.Domain nothing b x → StandsFor role.Problem x c y → (m : Problem) ×
    (y ≡ a_problem m) × StandForProblem b c m
both_stand (a_domain first) y b c s t = by_problem first y b c (subst (SpellShortly b) (sym s.meant) s.spelled) t
both_stand x y b c s t = absurd s.meant

problem_is : (m n : Problem) (y : Input) → y ≡ a_problem m → y ≡ a_problem n → m ≡ n
problem_is m n y e f = let z : a_problem m ≡ a_problem n = sym e ∙ f in cc

pub problem_held : (files : Option Files) (d p : List ℕ) (m : Problem) → StandTogether files (two_files d p) nothing (a_problem m) →
    HoldProblem files d p m
problem_held files d p m h =
    let second = h.4 in
    let found = both_stand h.1 second.1 h.0 second.0 h.3 second.3 in
    record {
      domain = h.0;
      problem = second.0;
      domain_content = h.2;
      problem_content = second.2;
      stand = subst (StandForProblem h.0 second.0) (problem_is found.0 m second.1 found.1 second.4) found.2;
    }

pub sample_held : (balls : ℕ) (m : Problem) → SampleStandsFor balls (a_problem m) → StandForProblem domain_text (problem_text balls) m
sample_held balls m h =
    let found = both_stand h.0 (a_problem m) domain_text (problem_text balls) h.1 h.2 in
    subst (StandForProblem domain_text (problem_text balls)) (problem_is found.0 m (a_problem m) found.1 refl) found.2

-- a third file, after two that stand for a problem
third_read : (files : Option Files) (d p q : List ℕ) (r : Role) (x : Input) → StandTogether files (three_files d p r q) nothing x →
    (m : Problem) × HoldProblem files d p m × (bytes : List ℕ) × IsContent files q bytes × StandsFor r (a_problem m) bytes x
third_read files d p q r x h =
    let second = h.4 in
    let third = second.4 in
    let found = both_stand h.1 second.1 h.0 second.0 h.3 second.3 in (
      found.0,
      record { domain = h.0; problem = second.0; domain_content = h.2; problem_content = second.2; stand = found.2 },
      third.0,
      third.2,
      subst (λ (y : Input). StandsFor r (a_problem found.0) third.0 y) third.4
          (subst (λ (y : Input). StandsFor r y third.0 third.1) found.1 third.3),
    )

pub plan_held : (files : Option Files) (d p q : List ℕ) (m : Problem) (plan : List Action) →
    StandTogether files (three_files d p role.Plan q) nothing (a_plan m plan) → HoldPlan files d p q m plan
plan_held files d p q m plan h =
    let t = third_read files d p q role.Plan (a_plan m plan) h in
    let s : StandsFor role.Plan (a_problem t.0) t.2 (a_plan m plan) = t.4 in
    let meant = s.meant in
    subst (λ (n : Problem). HoldPlan files d p q n plan) (sym meant.0)
    (t.1, record { bytes = t.2; content = t.3; forms = s.forms; spelled = s.spelled; lawful = s.lawful; means = meant.1 })

pub proof_held : (files : Option Files) (d p q : List ℕ) (m : Problem) (proof : Proof) →
    StandTogether files (three_files d p role.Proof q) nothing (a_proof m proof) → HoldProof files d p q m proof
proof_held files d p q m proof h =
    let t = third_read files d p q role.Proof (a_proof m proof) h in
    let s : StandsFor role.Proof (a_problem t.0) t.2 (a_proof m proof) = t.4 in
    let meant = s.meant in
    subst (λ (n : Problem). HoldProof files d p q n proof) (sym meant.0)
    (t.1, record { bytes = t.2; content = t.3; forms = s.forms; spelled = s.spelled; lawful = s.lawful; means = meant.1 })

pub costs_held : (files : Option Files) (d p q : List ℕ) (m : Problem) (costs : List ℕ) →
    StandTogether files (three_files d p role.Costs q) nothing (some_costs m costs) → HoldCosts files d p q m costs
costs_held files d p q m costs h =
    let t = third_read files d p q role.Costs (some_costs m costs) h in
    let s : StandsFor role.Costs (a_problem t.0) t.2 (some_costs m costs) = t.4 in
    let meant = s.meant in
    subst (λ (n : Problem). HoldCosts files d p q n costs) (sym meant.0)
    (t.1, record { bytes = t.2; content = t.3; forms = s.forms; spelled = s.spelled; lawful = s.lawful; means = meant.1 })

pub loop_held : (files : Option Files) (d p q : List ℕ) (m : Problem) (plan : LoopPlan) →
    StandTogether files (three_files d p role.Loop q) nothing (a_loop m plan) → HoldLoop files d p q m plan
loop_held files d p q m plan h =
    let t = third_read files d p q role.Loop (a_loop m plan) h in
    let s : StandsFor role.Loop (a_problem t.0) t.2 (a_loop m plan) = t.4 in
    let meant = s.meant in
    subst (λ (n : Problem). HoldLoop files d p q n plan) (sym meant.0)
    (t.1, record { bytes = t.2; content = t.3; forms = s.forms; spelled = s.spelled; lawful = s.lawful; means = meant.1 })

-- ---- and back

domain_stands : (b c : List ℕ) (m : Problem) (both : StandForProblem b c m) → StandsFor role.Domain nothing b (a_domain both.first)
domain_stands b c m both = let files = both.files in record {
  forms = both.first;
  spelled = both.first_spelled;
  lawful =
      files.domain_lawful;
  meant = refl;
}

problem_stands : (b c : List ℕ) (m : Problem) (both : StandForProblem b c m) → StandsFor role.Problem (a_domain both.first) c (a_problem m)
problem_stands b c m both = let files = both.files in record {
  forms = both.second;
  spelled = both.second_spelled;
  lawful =
      files.problem_lawful;
  meant = files;
}

pub problem_in_turn : (files : Option Files) (d p : List ℕ) (m : Problem) → HoldProblem files d p m →
    StandTogether files (two_files d p) nothing (a_problem m)
problem_in_turn files d p m h =
    let both = h.stand in (
      h.domain,
      a_domain both.first,
      h.domain_content,
      domain_stands h.domain h.problem m both,
      (h.problem, a_problem m, h.problem_content, problem_stands h.domain h.problem m both, refl),
    )

pub sample_in_turn : (balls : ℕ) (m : Problem) → StandForProblem domain_text (problem_text balls) m → SampleStandsFor balls (a_problem m)
sample_in_turn balls m both = (
  a_domain both.first,
  domain_stands domain_text (problem_text balls) m both,
  problem_stands domain_text (problem_text balls) m both,
)

third_in_turn : (files : Option Files) (d p q : List ℕ) (r : Role) (x : Input) (bytes : List ℕ) (m : Problem) → HoldProblem files d p m →
    IsContent files q bytes → StandsFor r (a_problem m) bytes x → StandTogether files (three_files d p r q) nothing x
third_in_turn files d p q r x bytes m h content stands =
    let both = h.stand in (
      h.domain,
      a_domain both.first,
      h.domain_content,
      domain_stands h.domain h.problem m both,
      (h.problem, a_problem m, h.problem_content, problem_stands h.domain h.problem m both, (bytes, x, content, stands, refl)),
    )

pub plan_in_turn : (files : Option Files) (d p q : List ℕ) (m : Problem) (plan : List Action) → HoldPlan files d p q m plan →
    StandTogether files (three_files d p role.Plan q) nothing (a_plan m plan)
plan_in_turn files d p q m plan h =
    let t = h.1 in
    third_in_turn files d p q role.Plan (a_plan m plan) t.bytes m h.0 t.content
    (record { forms = t.forms; spelled = t.spelled; lawful = t.lawful; meant = (refl, t.means) })

pub proof_in_turn : (files : Option Files) (d p q : List ℕ) (m : Problem) (proof : Proof) → HoldProof files d p q m proof →
    StandTogether files (three_files d p role.Proof q) nothing (a_proof m proof)
proof_in_turn files d p q m proof h =
    let t = h.1 in
    third_in_turn files d p q role.Proof (a_proof m proof) t.bytes m h.0 t.content
    (record { forms = t.forms; spelled = t.spelled; lawful = t.lawful; meant = (refl, t.means) })

pub costs_in_turn : (files : Option Files) (d p q : List ℕ) (m : Problem) (costs : List ℕ) → HoldCosts files d p q m costs →
    StandTogether files (three_files d p role.Costs q) nothing (some_costs m costs)
costs_in_turn files d p q m costs h =
    let t = h.1 in
    third_in_turn files d p q role.Costs (some_costs m costs) t.bytes m h.0 t.content
    (record { forms = t.forms; spelled = t.spelled; lawful = t.lawful; meant = (refl, t.means) })

pub loop_in_turn : (files : Option Files) (d p q : List ℕ) (m : Problem) (plan : LoopPlan) → HoldLoop files d p q m plan →
    StandTogether files (three_files d p role.Loop q) nothing (a_loop m plan)
loop_in_turn files d p q m plan h =
    let t = h.1 in
    third_in_turn files d p q role.Loop (a_loop m plan) t.bytes m h.0 t.content
    (record { forms = t.forms; spelled = t.spelled; lawful = t.lawful; meant = (refl, t.means) })
