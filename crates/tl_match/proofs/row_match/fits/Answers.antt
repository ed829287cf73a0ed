use Rattle.tl_match.proofs.Matching.{fits-short}
use Rattle.tl_match.proofs.row_match.fits.Goals as goal

pub returns-then-parts-row : goal.returns-then-parts-row
returns-then-parts-row c = fits-short c.args.parts.now c.args.row.now c.args.tuple.now c.if-parts-row.true
