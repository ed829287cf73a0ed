use Rattle.tl_text.proofs.PlanReadBack.{plan-read-back}
use Rattle.tl_text.proofs.laws.plans_are_read_back.Goals as goal

pub returns : goal.returns
returns c = λ names operators plan distinct differ w few. plan-read-back names operators plan distinct differ w few
