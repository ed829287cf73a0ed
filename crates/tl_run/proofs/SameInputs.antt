-- What files stand for, once what was read before them is the same.
use Rattle.std.proofs.Common.{◌≡◌, ℕ, List, refl, sym, ap, ◌∙◌, subst}
use Rattle.tl_sexpr.specs.Tree.{FormTrees}
use Rattle.tl_sexpr.proofs.Once.{spelled_once}
use Rattle.tl_syntax.specs.declared.action.Action.{Action}
use Rattle.tl_syntax.specs.declared.problem.Problem.{Problem}
use Rattle.tl_domain.specs.DomainFiles.{domain_file_breaks}
use Rattle.tl_domain.specs.Files.{AreFilesOf, problem_breaks}
use Rattle.tl_domain.specs.LawsFiles.{FilesStandForOneProblem}
use Rattle.tl_cert.specs.MeaningOfProofs.{proof_meant}
use Rattle.tl_cert.specs.ProofFiles.{proof_breaks}
use Rattle.tl_cert.specs.declared.proof.Proof.{Proof}
use Rattle.tl_cost.specs.CostFiles.{costs_breaks, costs_meant}
use Rattle.tl_lasso.specs.LoopFiles.{loop_breaks}
use Rattle.tl_lasso.specs.MeaningOfLoops.{loop_meant}
use Rattle.tl_lasso.specs.declared.plan.LoopPlan.{LoopPlan}
use Rattle.tl_text.specs.Plans.{plan_breaks}
use Rattle.tl_text.specs.MeaningOfPlans.{plan_meant}
use Rattle.tl_run.specs.declared.words.Role.{Role}
use Rattle.tl_run.specs.declared.words.Role.TheVariants as role
use Rattle.tl_run.specs.Files.{SpellShortly}
use Rattle.tl_run.specs.Inputs.{Input, nothing, a_domain, a_problem, a_plan, a_proof, breaks_of, IsMeant, StandsFor, some_costs, a_loop}
use Rattle.tl_run.proofs.OneProblem.{SameProblem, same_problem}
use Rattle.tl_run.proofs.SameOperators.{same_plan_breaks, same_plan_meant}
use Rattle.tl_run.proofs.SameProofs.{same_proof_breaks, same_proof_meant}
use Rattle.tl_run.proofs.SameCosts.{same_costs_breaks, same_costs_meant}
use Rattle.tl_run.proofs.SameLoops.{same_loop_breaks, same_loop_meant}

-- the same was read
abbrev pub SameInput : Input → Input → Type 0
SameInput nothing nothing = Unit {0}
SameInput (a_domain f) (a_domain g) = f ≡ g
SameInput (a_problem p) (a_problem q) = SameProblem p q
SameInput (a_plan p plan) (a_plan q other) = SameProblem p q × (plan ≡ other)
SameInput (a_proof p proof) (a_proof q other) = SameProblem p q × (proof ≡ other)
SameInput (some_costs p costs) (some_costs q others) = SameProblem p q × (costs ≡ others)
SameInput (a_loop p plan) (a_loop q other) = SameProblem p q × (plan ≡ other)
SameInput a b = ⊥

same_problem_back : (p q : Problem) → SameProblem p q → SameProblem q p
same_problem_back p q same =
    let w = same.words in
    record {
      meaning = sym same.meaning;
      names = sym same.names;
      heads = sym same.heads;
      words = record {
        predicates = sym w.predicates;
        functions = sym w.functions;
        definitions = sym w.definitions;
        operators =
            sym w.operators;
      };
    }

pub same_back : (a b : Input) → SameInput a b → SameInput b a
same_back nothing nothing same = tt
same_back (a_domain f) (a_domain g) same = sym same
same_back (a_problem p) (a_problem q) same = same_problem_back p q same
same_back (a_plan p plan) (a_plan q other) same = (same_problem_back p q same.0, sym same.1)
same_back (a_proof p proof) (a_proof q other) same = (same_problem_back p q same.0, sym same.1)
same_back (some_costs p costs) (some_costs q others) same = (same_problem_back p q same.0, sym same.1)
same_back (a_loop p plan) (a_loop q other) same = (same_problem_back p q same.0, sym same.1)
same_back a b same = absurd same

-- the forms of a file are one
pub one_text : (bytes : List ℕ) (fs gs : FormTrees) → SpellShortly bytes fs → SpellShortly bytes gs → fs ≡ gs
one_text bytes fs gs f g = spelled_once bytes fs gs f.spelled g.spelled

-- the same rules are broken
pub one_breaks : (r : Role) (a b : Input) (fs gs : FormTrees) → SameInput a b → fs ≡ gs → breaks_of r a fs ≡ breaks_of r b gs
one_breaks role.Domain nothing nothing fs gs same e = ap domain_file_breaks e
one_breaks role.Domain (a_domain f) (a_domain g) fs gs same e = refl
one_breaks role.Domain (a_problem p) (a_problem q) fs gs same e = refl
one_breaks role.Domain (a_plan p plan) (a_plan q other) fs gs same e = refl
one_breaks role.Domain (a_proof p proof) (a_proof q other) fs gs same e = refl
one_breaks role.Domain (some_costs p costs) (some_costs q others) fs gs same e = refl
one_breaks role.Domain (a_loop p plan) (a_loop q other) fs gs same e = refl
one_breaks role.Problem nothing nothing fs gs same e = refl
one_breaks role.Problem (a_domain f) (a_domain g) fs gs same e = λ i. problem_breaks (same i) (e i)
one_breaks role.Problem (a_problem p) (a_problem q) fs gs same e = refl
one_breaks role.Problem (a_plan p plan) (a_plan q other) fs gs same e = refl
one_breaks role.Problem (a_proof p proof) (a_proof q other) fs gs same e = refl
one_breaks role.Problem (some_costs p costs) (some_costs q others) fs gs same e = refl
one_breaks role.Problem (a_loop p plan) (a_loop q other) fs gs same e = refl
one_breaks role.Plan nothing nothing fs gs same e = refl
one_breaks role.Plan (a_domain f) (a_domain g) fs gs same e = refl
one_breaks role.Plan (a_problem p) (a_problem q) fs gs same e =
    same_plan_breaks p.names p.domain.operators q.domain.operators fs same.heads ∙
    (λ i. plan_breaks (same.names i) q.domain.operators (e i))
one_breaks role.Plan (a_plan p plan) (a_plan q other) fs gs same e = refl
one_breaks role.Plan (a_proof p proof) (a_proof q other) fs gs same e = refl
one_breaks role.Plan (some_costs p costs) (some_costs q others) fs gs same e = refl
one_breaks role.Plan (a_loop p plan) (a_loop q other) fs gs same e = refl
one_breaks role.Proof nothing nothing fs gs same e = refl
one_breaks role.Proof (a_domain f) (a_domain g) fs gs same e = refl
one_breaks role.Proof (a_problem p) (a_problem q) fs gs same e =
    same_proof_breaks p.names p.domain.operators q.domain.operators same.heads fs ∙
    (λ i. proof_breaks (same.names i) q.domain.operators (e i))
one_breaks role.Proof (a_plan p plan) (a_plan q other) fs gs same e = refl
one_breaks role.Proof (a_proof p proof) (a_proof q other) fs gs same e = refl
one_breaks role.Proof (some_costs p costs) (some_costs q others) fs gs same e = refl
one_breaks role.Proof (a_loop p plan) (a_loop q other) fs gs same e = refl
one_breaks role.Costs nothing nothing fs gs same e = refl
one_breaks role.Costs (a_domain f) (a_domain g) fs gs same e = refl
one_breaks role.Costs (a_problem p) (a_problem q) fs gs same e =
    same_costs_breaks p.names p.domain.operators q.domain.operators same.heads fs ∙
    (λ i. costs_breaks (same.names i) q.domain.operators (e i))
one_breaks role.Costs (a_plan p plan) (a_plan q other) fs gs same e = refl
one_breaks role.Costs (a_proof p proof) (a_proof q other) fs gs same e = refl
one_breaks role.Costs (some_costs p costs) (some_costs q others) fs gs same e = refl
one_breaks role.Costs (a_loop p plan) (a_loop q other) fs gs same e = refl
one_breaks role.Loop nothing nothing fs gs same e = refl
one_breaks role.Loop (a_domain f) (a_domain g) fs gs same e = refl
one_breaks role.Loop (a_problem p) (a_problem q) fs gs same e =
    same_loop_breaks p.names p.domain.operators q.domain.operators same.heads fs ∙
    (λ i. loop_breaks (same.names i) q.domain.operators (e i))
one_breaks role.Loop (a_plan p plan) (a_plan q other) fs gs same e = refl
one_breaks role.Loop (a_proof p proof) (a_proof q other) fs gs same e = refl
one_breaks role.Loop (some_costs p costs) (some_costs q others) fs gs same e = refl
one_breaks role.Loop (a_loop p plan) (a_loop q other) fs gs same e = refl
one_breaks r a b fs gs same e = absurd same

domain_meant : (b y : Input) (f fs gs : FormTrees) → SameInput nothing b → fs ≡ gs → f ≡ fs → IsMeant role.Domain b gs y →
    SameInput (a_domain f) y
domain_meant nothing (a_domain g) f fs gs same e h k = h ∙ e ∙ sym k
domain_meant nothing y f fs gs same e h k = absurd k
domain_meant b y f fs gs same e h k = absurd same

problem_meant : FilesStandForOneProblem → (b y : Input) (f fs gs : FormTrees) (p : Problem) → SameInput (a_domain f) b → fs ≡ gs →
    AreFilesOf f fs p → IsMeant role.Problem b gs y → SameInput (a_problem p) y
problem_meant law (a_domain g) (a_problem q) f fs gs p same e h k =
    let other : AreFilesOf f fs q = subst (λ (u : FormTrees). AreFilesOf f u q) (sym e)
    (subst (λ (u : FormTrees). AreFilesOf u gs q) (sym same) k) in
    same_problem p q (law f fs p q h other)
problem_meant law (a_domain g) y f fs gs p same e h k = absurd k
problem_meant law b y f fs gs p same e h k = absurd same

plan_same : (p q p' q' : Problem) (plan other : List Action) (fs gs : FormTrees) → SameProblem p q → fs ≡ gs → p' ≡ p → plan ≡
    plan_meant p.names p.domain.operators fs → q' ≡ q → other ≡ plan_meant q.names q.domain.operators gs → SameProblem p' q' ×
    (plan ≡ other)
plan_same p q p' q' plan other fs gs same e a h b k = (
  subst (λ (u : Problem). SameProblem u q') (sym a) (subst (λ (u : Problem). SameProblem p u) (sym b) same),
  h ∙ same_plan_meant p.names p.domain.operators q.domain.operators fs same.heads ∙
      (λ i. plan_meant (same.names i) q.domain.operators (e i)) ∙ sym k,
)

plan_is_meant : (b y : Input) (p p' : Problem) (plan : List Action) (fs gs : FormTrees) → SameInput (a_problem p) b → fs ≡ gs → p' ≡ p →
    plan ≡ plan_meant p.names p.domain.operators fs → IsMeant role.Plan b gs y → SameInput (a_plan p' plan) y
plan_is_meant (a_problem q) (a_plan q' other) p p' plan fs gs same e a h k = plan_same p q p' q' plan other fs gs same e a h k.0 k.1
plan_is_meant (a_problem q) y p p' plan fs gs same e a h k = absurd k
plan_is_meant b y p p' plan fs gs same e a h k = absurd same

proof_same : (p q p' q' : Problem) (proof other : Proof) (fs gs : FormTrees) → SameProblem p q → fs ≡ gs → p' ≡ p → proof ≡
    proof_meant p.names p.domain.operators fs → q' ≡ q → other ≡ proof_meant q.names q.domain.operators gs → SameProblem p' q' ×
    (proof ≡ other)
proof_same p q p' q' proof other fs gs same e a h b k = (
  subst (λ (u : Problem). SameProblem u q') (sym a) (subst (λ (u : Problem). SameProblem p u) (sym b) same),
  h ∙ same_proof_meant p.names p.domain.operators q.domain.operators same.heads fs ∙
      (λ i. proof_meant (same.names i) q.domain.operators (e i)) ∙ sym k,
)

proof_is_meant : (b y : Input) (p p' : Problem) (proof : Proof) (fs gs : FormTrees) → SameInput (a_problem p) b → fs ≡ gs → p' ≡ p → proof ≡
    proof_meant p.names p.domain.operators fs → IsMeant role.Proof b gs y → SameInput (a_proof p' proof) y
proof_is_meant (a_problem q) (a_proof q' other) p p' proof fs gs same e a h k = proof_same p q p' q' proof other fs gs same e a h k.0 k.1
proof_is_meant (a_problem q) y p p' proof fs gs same e a h k = absurd k
proof_is_meant b y p p' proof fs gs same e a h k = absurd same

costs_same : (p q p' q' : Problem) (costs others : List ℕ) (fs gs : FormTrees) → SameProblem p q → fs ≡ gs → p' ≡ p → costs ≡
    costs_meant p.names p.domain.operators fs → q' ≡ q → others ≡ costs_meant q.names q.domain.operators gs → SameProblem p' q' ×
    (costs ≡ others)
costs_same p q p' q' costs others fs gs same e a h b k = (
  subst (λ (u : Problem). SameProblem u q') (sym a) (subst (λ (u : Problem). SameProblem p u) (sym b) same),
  h ∙ same_costs_meant p.names p.domain.operators q.domain.operators same.heads fs ∙
      (λ i. costs_meant (same.names i) q.domain.operators (e i)) ∙ sym k,
)

costs_are_meant : (b y : Input) (p p' : Problem) (costs : List ℕ) (fs gs : FormTrees) → SameInput (a_problem p) b → fs ≡ gs → p' ≡ p →
    costs ≡ costs_meant p.names p.domain.operators fs → IsMeant role.Costs b gs y → SameInput (some_costs p' costs) y
costs_are_meant (a_problem q) (some_costs q' others) p p' costs fs gs same e a h k =
    costs_same p q p' q' costs others fs gs same e a h k.0 k.1
costs_are_meant (a_problem q) y p p' costs fs gs same e a h k = absurd k
costs_are_meant b y p p' costs fs gs same e a h k = absurd same

loop_same : (p q p' q' : Problem) (plan other : LoopPlan) (fs gs : FormTrees) → SameProblem p q → fs ≡ gs → p' ≡ p → plan ≡
    loop_meant p.names p.domain.operators fs → q' ≡ q → other ≡ loop_meant q.names q.domain.operators gs → SameProblem p' q' ×
    (plan ≡ other)
loop_same p q p' q' plan other fs gs same e a h b k = (
  subst (λ (u : Problem). SameProblem u q') (sym a) (subst (λ (u : Problem). SameProblem p u) (sym b) same),
  h ∙ same_loop_meant p.names p.domain.operators q.domain.operators same.heads fs ∙
      (λ i. loop_meant (same.names i) q.domain.operators (e i)) ∙ sym k,
)

loop_is_meant : (b y : Input) (p p' : Problem) (plan : LoopPlan) (fs gs : FormTrees) → SameInput (a_problem p) b → fs ≡ gs → p' ≡ p → plan ≡
    loop_meant p.names p.domain.operators fs → IsMeant role.Loop b gs y → SameInput (a_loop p' plan) y
loop_is_meant (a_problem q) (a_loop q' other) p p' plan fs gs same e a h k = loop_same p q p' q' plan other fs gs same e a h k.0 k.1
loop_is_meant (a_problem q) y p p' plan fs gs same e a h k = absurd k
loop_is_meant b y p p' plan fs gs same e a h k = absurd same

-- the same is meant
one_meant : FilesStandForOneProblem → (r : Role) (a b x y : Input) (fs gs : FormTrees) → SameInput a b → fs ≡ gs → IsMeant r a fs x →
    IsMeant r b gs y → SameInput x y
one_meant law role.Domain nothing b (a_domain f) y fs gs same e h k = domain_meant b y f fs gs same e h k
one_meant law role.Problem (a_domain f) b (a_problem p) y fs gs same e h k = problem_meant law b y f fs gs p same e h k
one_meant law role.Plan (a_problem p) b (a_plan p' plan) y fs gs same e h k = plan_is_meant b y p p' plan fs gs same e h.0 h.1 k
one_meant law role.Proof (a_problem p) b (a_proof p' proof) y fs gs same e h k = proof_is_meant b y p p' proof fs gs same e h.0 h.1 k
one_meant law role.Costs (a_problem p) b (some_costs p' costs) y fs gs same e h k = costs_are_meant b y p p' costs fs gs same e h.0 h.1 k
one_meant law role.Loop (a_problem p) b (a_loop p' plan) y fs gs same e h k = loop_is_meant b y p p' plan fs gs same e h.0 h.1 k
one_meant law r a b x y fs gs same e h k = absurd h

-- bytes stand for one thing, after the same
pub stands_one : FilesStandForOneProblem → (r : Role) (a b x y : Input) (bytes : List ℕ) → SameInput a b → StandsFor r a bytes x →
    StandsFor r b bytes y → SameInput x y
stands_one law r a b x y bytes same h k = one_meant law r a b x y h.forms k.forms same
    (one_text bytes h.forms k.forms h.spelled k.spelled) h.meant k.meant
