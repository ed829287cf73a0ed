-- The order of what the forms of a plan file break.
use Rattle.std.proofs.Common.{ℕ, ◌*◌, List}
use Rattle.std.specs.Prelude.{Result, Ok, Err, IfErr}
use Rattle.tl_sexpr.specs.Tree.{FormTrees}
use Rattle.tl_sexpr.specs.Offsets.{AreAsRead}
use Rattle.tl_syntax.specs.declared.action.Action.{Action}
use Rattle.tl_syntax.specs.declared.operator.Operator.{Operator}
use Rattle.tl_rules.specs.declared.rule.FormFault.{FormFault}
use Rattle.tl_rules.specs.declared.rule.FormFault.TheVariants.{Breaks, NoMemory}
use Rattle.tl_rules.specs.Reads.{Reads, IsLeastFault}
use Rattle.tl_rules.proofs.Order.{first-least}
use Rattle.tl_line.proofs.ListOrder.{actions-order}
use Rattle.tl_text.specs.Plans.{plan_breaks}
use Rattle.tl_text.specs.MeaningOfPlans.{plan_meant}

-- the first break of a plan file is the least one
pub least-fault : (names : List (List ℕ)) (operators : List Operator) (fs : FormTrees) (r : Result (List Action) FormFault) →
    Reads (λ (xs : List Action). xs) r (plan_breaks names operators fs) (plan_meant names operators fs) → AreAsRead fs →
    IfErr r (IsLeastFault (plan_breaks names operators fs))
least-fault names operators fs (Ok plan) h rise = tt
least-fault names operators fs (Err (Breaks broken at)) h rise = first-least 0 (64 * 4194304) (plan_breaks names operators fs) (broken, at)
    (actions-order names operators 0 fs 0 4194304 rise) h
least-fault names operators fs (Err NoMemory) h rise = tt

pub ruleset least_fault = (least-fault)
