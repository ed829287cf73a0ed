use Rattle.std.proofs.Common.{arith, length-take-le, sym, ◌∙◌, refl}
use Rattle.tl_match.proofs.Matching.{never-short, never-else, only-gathered}
use Rattle.tl_match.proofs.row_match.match_row.Goals as goal

pub returns-then-parts-row : goal.returns-then-parts-row
returns-then-parts-row c t size = never-short c.args.parts.now c.args.row.now t c.if-parts-row.true

pub returns-then-fits : goal.returns-then-fits
returns-then-fits c = (
  refl,
  length-take-le _ _ (omega (arith, c.gather-values.ensures.size, c.requires.few)),
  sym c.fits.ensures ∙ c.if-fits.true,
  λ t size h. only-gathered c.args.parts.now c.args.row.now c.gather-values.result t c.args.free c.gather-values.ensures.known
      c.requires.few c.requires.each size h,
)

pub returns-else-fits : goal.returns-else-fits
returns-else-fits c t size = never-else c.args.parts.now c.args.row.now c.gather-values.result t c.args.free _ refl
    (sym c.if-fits.false ∙ c.fits.ensures) c.gather-values.ensures.known c.requires.few c.requires.each size
