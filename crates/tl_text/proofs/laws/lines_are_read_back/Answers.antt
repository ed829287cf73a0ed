use Rattle.tl_text.proofs.LinesReadBack.{lines-read-back}
use Rattle.tl_text.proofs.laws.lines_are_read_back.Goals as goal

pub returns : goal.returns
returns c = λ names operators plan distinct differ w few. lines-read-back names operators plan distinct differ w few
