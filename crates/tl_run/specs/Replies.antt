-- Replies as the program holds and sends them.
use Rattle.std.specs.Prelude.{◌≡◌, ◌⊎◌, ℕ, true, List, Option, Some, ⊤}
use Rattle.tl_run.specs.declared.reply.Reply.{Reply}
use Rattle.tl_run.specs.declared.status.Status.{Status}
use Rattle.tl_run.specs.declared.status.Status.TheVariants.{Yes, No, Spent, Refused, Range, WriteFault}
use Rattle.tl_run.specs.declared.turn.Input.{Input as Held}
use Rattle.tl_run.specs.declared.words.Role.TheVariants as role
use Rattle.tl_run.specs.Held.{last_role}
use Rattle.tl_run.specs.Answers.{ExplainsPlan, FindsCheapest, JudgesLoop, JudgesPlan, JudgesProof, ProvesNone, Samples, Searches, Traces}
use Rattle.tl_run.specs.Commands.{Command, check, search, trace, explain, prove_none, check_none, sample, cheapest, check_loop}
use Rattle.tl_run.specs.Inputs.{Input, a_problem, a_plan, a_proof, some_costs, a_loop}
use Rattle.tl_run.specs.Sent.{SendsAll, SendsPart, SinkTold}

-- this status with these lines is right over what was read: one line for each command
abbrev pub IsRight : Command → Input → Status → List ℕ → Type 0
IsRight (check d p q) (a_plan m plan) status text = JudgesPlan status text m plan
IsRight (search s d p) (a_problem m) status text = Searches true s status text m
IsRight (trace s d p) (a_problem m) status text = Traces true s status text m
IsRight (explain d p q) (a_plan m plan) status text = ExplainsPlan status text m plan
IsRight (prove_none s d p) (a_problem m) status text = ProvesNone true s status text m
IsRight (check_none d p q) (a_proof m proof) status text = JudgesProof status text m proof
IsRight (sample balls) (a_problem m) status text = Samples balls status text m
IsRight (cheapest b d p k) (some_costs m costs) status text = FindsCheapest b status text m costs
IsRight (check_loop d p q) (a_loop m plan) status text = JudgesLoop status text m plan
IsRight c input status text = ⊥

-- a reply with such a status and such lines
pub record Replies (c : Command) (input : Input) (reply : Reply) : Type 0 where
  pub right : IsRight c input reply.status reply.text

-- the file that was read last is of the role that comes last for the command: one line for each
-- command
abbrev pub FitsCommand : Command → Held → Type 0
FitsCommand (check d p q) held = last_role held ≡ Some role.Plan
FitsCommand (search s d p) held = last_role held ≡ Some role.Problem
FitsCommand (trace s d p) held = last_role held ≡ Some role.Problem
FitsCommand (explain d p q) held = last_role held ≡ Some role.Plan
FitsCommand (prove_none s d p) held = last_role held ≡ Some role.Problem
FitsCommand (check_none d p q) held = last_role held ≡ Some role.Proof
FitsCommand (sample balls) held = last_role held ≡ Some role.Problem
FitsCommand (cheapest b d p k) held = last_role held ≡ Some role.Costs
FitsCommand (check_loop d p q) held = last_role held ≡ Some role.Loop

-- a status that comes with lines
abbrev pub HasLines : Status → Type 0
HasLines Yes = ⊤
HasLines No = ⊤
HasLines Spent = ⊤
HasLines Refused = ⊤
HasLines Range = ⊤
HasLines status = ⊥

-- all lines are sent, or writing fails after a front part of them
abbrev pub Sends : SinkTold → SinkTold → Status → List ℕ → Status → Type 0
Sends old new status text result = ((result ≡ status) × SendsAll old new text) ⊎ ((result ≡ WriteFault) × SendsPart old new text)
