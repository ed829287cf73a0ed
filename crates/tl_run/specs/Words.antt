-- Commands as the program holds them.
use Rattle.std.specs.Prelude.{ℕ, List}
use Rattle.tl_run.specs.Commands.{check, search, trace, explain, prove_none, check_none, sample, cheapest, check_loop}
use Rattle.tl_run.specs.Commands as commands
use Rattle.tl_run.specs.declared.words.Command.{Command}
use Rattle.tl_run.specs.declared.words.Command.TheVariants.{Check, Plan, Trace, Explain, ProveNone, CheckNone, Sample, Cheapest, CheckLoop}
use Rattle.tl_run.specs.declared.words.File.{File}
use Rattle.tl_run.specs.declared.words.Role.{Role}

-- the command with the names as bytes
abbrev pub command_meant : Command → commands.Command
command_meant (Check domain problem plan) = check domain.now problem.now plan.now
command_meant (Plan s domain problem) = search s domain.now problem.now
command_meant (Trace s domain problem) = trace s domain.now problem.now
command_meant (Explain domain problem plan) = explain domain.now problem.now plan.now
command_meant (ProveNone s domain problem) = prove_none s domain.now problem.now
command_meant (CheckNone domain problem proof) = check_none domain.now problem.now proof.now
command_meant (Sample balls) = sample balls
command_meant (Cheapest nodes domain problem costs) = cheapest nodes domain.now problem.now costs.now
command_meant (CheckLoop domain problem plan) = check_loop domain.now problem.now plan.now

-- the role of a file and its name as bytes
abbrev pub file_meant : File → Role × List ℕ
file_meant file = (file.role, file.name.now)
