-- What is known where formulas are read.
use Rattle.std.proofs.Common.{◌≡◌, Some, None, sym, ap, ◌∙◌}
use Rattle.tl_nodes.specs.declared.nodes.Nodes.{Nodes}
use Rattle.tl_nodes.specs.Numbering.{Keeps}
use Rattle.tl_nodes.specs.Numbers.{trees}
use Rattle.tl_terms.specs.ProblemMeaning.{plain_problem}
use Rattle.tl_progress.specs.declared.here.Here.{Here}
use Rattle.tl_progress.specs.CallsHere.{KnowsTruths, KnowsRightly, truths_in, residuals_in}
use Rattle.tl_progress.proofs.ResidualLayers.{truths-still, residuals-still}

-- nothing is known
pub no-truths : (here : Here) (nodes : Nodes) → here.known ≡ None → KnowsTruths here nodes
no-truths here nodes q k b h = absurd (let z : None ≡ Some b = sym (ap (λ o. truths_in o k) q) ∙ h in let f : ⊥ = cc in f)

pub nothing-known : (here : Here) (nodes : Nodes) → here.known ≡ None → KnowsRightly here nodes
nothing-known here nodes q = record {
  truths = no-truths here nodes q;
  residuals = λ k n h. absurd (let z : None ≡ Some n = sym (ap (λ o. residuals_in o k) q) ∙ h in let f : ⊥ = cc in f);
}

-- what is known of numbers stays right as the table grows
pub knows-still : (here : Here) (old new : Nodes) → Keeps (trees old) (trees new) → KnowsRightly here old → KnowsRightly here new
knows-still here old new kept h = record {
  truths = truths-still (plain_problem here.task.now.problem) here.world.now (trees old) (trees new) kept (truths_in here.known) h.truths;
  residuals = residuals-still (plain_problem here.task.now.problem) here.world.now (trees old) (trees new) kept
      (residuals_in here.known) h.residuals;
}
