use Rattle.std.proofs.Common.{refl}
use Rattle.tl_sexpr.specs.Tree.{trees_of}
use Rattle.tl_run.specs.Inputs.{a_domain}
use Rattle.tl_run.proofs.Standing.{forms_stop}
use Rattle.tl_run.proofs.turn.domain_in.Goals as goal

pub returns-in-Ok-clause-held : goal.returns-in-Ok-clause-held
returns-in-Ok-clause-held c = record {
  input = a_domain (trees_of c.args.forms);
  lawful = c.in-Ok.ensures.lawful;
  meant = refl;
  is_held =
      refl;
}

pub returns-in-Err-clause-stop : goal.returns-in-Err-clause-stop
returns-in-Err-clause-stop c = rw c.of_forms.ensures (forms_stop c.args.number _ c.in-Err.fault (c.in-Err.ensures.least c.requires.as_read))
