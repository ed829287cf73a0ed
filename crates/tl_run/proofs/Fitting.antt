-- What is held after all files of a command is of the kind that the command goes over.
use Rattle.std.proofs.Common.{◌≡◌, List, ℕ, refl, sym, ap, ◌∙◌}
use Rattle.std.specs.Prelude.{Option, Some, None}
use Rattle.tl_outside.specs.Told.{Files}
use Rattle.tl_sexpr.specs.Tree.{FormTrees}
use Rattle.tl_run.specs.declared.turn.Input.{Input as Held}
use Rattle.tl_run.specs.declared.turn.Input.TheVariants as held
use Rattle.tl_run.specs.declared.words.Role.{Role}
use Rattle.tl_run.specs.declared.words.Role.TheVariants as role
use Rattle.tl_run.specs.Commands.{Command, check, search, trace, explain, prove_none, check_none, sample, cheapest, check_loop, three_files}
use Rattle.tl_run.specs.Commands.{two_files}
use Rattle.tl_run.specs.Held.{IsHeld, last_role}
use Rattle.tl_run.specs.Inputs.{Input, nothing, a_domain, a_problem, a_plan, a_proof, IsMeant, some_costs, a_loop}
use Rattle.tl_run.specs.Replies.{FitsCommand}
use Rattle.tl_run.specs.Turns.{HoldInput, StandTogether}

-- the role of the file that was read last
abbrev last_read : Input → Option Role
last_read nothing = None
last_read (a_domain first) = Some role.Domain
last_read (a_problem p) = Some role.Problem
last_read (a_plan p plan) = Some role.Plan
last_read (a_proof p proof) = Some role.Proof
last_read (some_costs p costs) = Some role.Costs
last_read (a_loop p plan) = Some role.Loop

-- what is held is of the role of what was read
held_role : (h : Held) (x : Input) → IsHeld h x → last_role h ≡ last_read x
held_role held.Nothing nothing is = refl
held_role (held.Domain forms) (a_domain first) is = refl
held_role (held.Problem problem) (a_problem p) is = refl
held_role (held.Plan problem plan) (a_plan p actions) is = refl
held_role (held.Proof problem proof) (a_proof p other) is = refl
held_role (held.Costs problem costs) (some_costs p given) is = refl
held_role (held.Loop problem plan) (a_loop p other) is = refl
held_role h x is = absurd is

-- a file of a role is the last one with what it stands for
meant_role : (r : Role) (before after : Input) (forms : FormTrees) → IsMeant r before forms after → last_read after ≡ Some r
meant_role role.Domain nothing (a_domain first) forms h = refl
meant_role role.Problem (a_domain first) (a_problem p) forms h = refl
meant_role role.Plan (a_problem p) (a_plan q plan) forms h = refl
meant_role role.Proof (a_problem p) (a_proof q proof) forms h = refl
meant_role role.Costs (a_problem p) (some_costs q costs) forms h = refl
meant_role role.Loop (a_problem p) (a_loop q plan) forms h = refl
meant_role r before after forms h = absurd h

two_fit : (files : Option Files) (d p : List ℕ) (h : Held) (x : Input) → StandTogether files (two_files d p) nothing x → IsHeld h x →
    last_role h ≡ Some role.Problem
two_fit files d p h x stand is =
    let second = stand.4 in
    let stands = second.3 in
    held_role h x is ∙ ap last_read (sym second.4) ∙ meant_role role.Problem stand.1 second.1 stands.forms stands.meant

three_fit : (files : Option Files) (d p q : List ℕ) (r : Role) (h : Held) (x : Input) →
    StandTogether files (three_files d p r q) nothing x → IsHeld h x → last_role h ≡ Some r
three_fit files d p q r h x stand is =
    let second = stand.4 in
    let third = second.4 in
    let stands = third.3 in
    held_role h x is ∙ ap last_read (sym third.4) ∙ meant_role r second.1 third.1 stands.forms stands.meant

-- one line for each command
pub fits : (files : Option Files) (c : Command) (h : Held) (x : Input) → HoldInput files c x → IsHeld h x → FitsCommand c h
fits files (check d p q) h x stand is = three_fit files d p q role.Plan h x stand is
fits files (search s d p) h x stand is = two_fit files d p h x stand is
fits files (trace s d p) h x stand is = two_fit files d p h x stand is
fits files (explain d p q) h x stand is = three_fit files d p q role.Plan h x stand is
fits files (prove_none s d p) h x stand is = two_fit files d p h x stand is
fits files (check_none d p q) h x stand is = three_fit files d p q role.Proof h x stand is
fits files (sample balls) h x stand is = let stands = stand.2 in held_role h x is ∙
    meant_role role.Problem stand.0 x stands.forms stands.meant
fits files (cheapest b d p k) h x stand is = three_fit files d p k role.Costs h x stand is
fits files (check_loop d p q) h x stand is = three_fit files d p q role.Loop h x stand is
