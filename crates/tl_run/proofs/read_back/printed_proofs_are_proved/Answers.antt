use Rattle.tl_run.proofs.ReadBack.{printed-proofs-proved}
use Rattle.tl_run.proofs.read_back.printed_proofs_are_proved.Goals as goal

pub returns : goal.returns
returns c = printed-proofs-proved
