use Rattle.tl_sexpr.specs.Tree.{trees_of}
use Rattle.tl_run.proofs.Standing.{text_stop}
use Rattle.tl_run.proofs.turn.forms_of.Goals as goal

pub returns-in-Ok-clause-as_read : goal.returns-in-Ok-clause-as_read
returns-in-Ok-clause-as_read c = c.offsets_rise.ensures c.args.bytes.now (trees_of c.in-Ok.forms) 4194304 c.requires c.in-Ok.ensures.spelled

pub returns-in-Err-clause-stop : goal.returns-in-Err-clause-stop
returns-in-Err-clause-stop c = λ r before. rw c.of_text.ensures (text_stop c.args.number r before c.args.bytes.now c.in-Err.fault c.requires
    c.in-Err.ensures.fault)
