use Rattle.tl_line.proofs.ReadBack.{read-back}
use Rattle.tl_line.proofs.laws.text_is_read_back.Goals as goal

pub returns : goal.returns
returns c = λ names operators a distinct differ w. read-back names operators a distinct differ w
