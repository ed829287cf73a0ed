use Rattle.std.proofs.Common.{[]}
use Rattle.tl_progress.proofs.progression.remembering_residual.Goals as goal

pub early_residual-requires-clause-readable : goal.early_residual-requires-clause-readable
early_residual-requires-clause-readable c = record {
  at = c.requires.there.at;
  fits =
      record { around = []; fits = c.requires.there.sentence.fits };
  known = c.requires.known.truths;
}
