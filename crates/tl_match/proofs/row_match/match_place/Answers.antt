use Rattle.std.proofs.Common.{◌++◌, ◌∷◌, [], subst}
use Rattle.tl_match.specs.Fits.{IsMatch}
use Rattle.tl_match.proofs.WholeRows.{match-nine, never-long}
use Rattle.tl_match.proofs.row_match.match_place.Goals as goal

pub returns-then-n-ge-MOST_PARTS : goal.returns-then-n-ge-MOST_PARTS
returns-then-n-ge-MOST_PARTS c t size = never-long c.args.parts.now c.args.row.now c.place_args-args.result.now t c.place_args-args.ensures
    c.if-n-ge-MOST_PARTS.true c.requires.short

pub returns : goal.returns
returns c =
    subst (λ v. IsMatch c.args.parts.now (c.args.row.now.args ++ v ∷ []) c.args.free c.match_row.result) c.place_value-whole.ensures
    (match-nine c.args.parts.now (record { args = c.args.row.now.args; value = c.place_value-whole.result }) c.args.free
    c.place_args-args.result.now c.copy_from_slice.new.self c.match_row.result c.place_args-args.ensures c.if-n-ge-MOST_PARTS.false
    c.copy_from_slice.ensures.after c.match_row.ensures)
