use Rattle.std.proofs.Common.{ap, ◌∙◌, take}
use Rattle.tl_eval.proofs.env.Env.saved.Goals as goal

pub returns : goal.returns
returns c = c.saved.ensures ∙ (ap (take 32) c.as_slice.ensures.value ∙ c.self.view_is)
