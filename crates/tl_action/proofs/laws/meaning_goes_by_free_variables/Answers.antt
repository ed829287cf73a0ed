use Rattle.std.proofs.Common.{[]}
use Rattle.tl_action.proofs.Agreement.{state-agrees, effects-agree}
use Rattle.tl_action.proofs.laws.meaning_goes_by_free_variables.Goals as goal

pub returns-clause-truth : goal.returns-clause-truth
returns-clause-truth c = λ s d e f h. (state-agrees (λ n vs. []) s d e f h).truth

pub returns-clause-looked : goal.returns-clause-looked
returns-clause-looked c = λ l s d e f h. (state-agrees l s d e f h).looked

pub returns-clause-instances : goal.returns-clause-instances
returns-clause-instances c = λ s d e xs h. (effects-agree (λ n vs. []) s d e xs h).instances
