use Rattle.std.proofs.Common.{◌≡◌, ◌+◌, length, length-append, true≢false, refl, sym, ap, ◌∙◌, arith}
use Rattle.tl_rows.specs.RowTests.{rows_eq, rows-tell}
use Rattle.tl_rows.specs.Runs.{between}
use Rattle.tl_syntax.proofs.Telling.{told_alike}
use Rattle.tl_rows.proofs.SameParts.{rows-differ, first-same, last-same, whole-same}
use Rattle.tl_rows.proofs.runs.RunsPartialEq.eq.Goals as goal

pub returns-then-not-begins_with : goal.returns-then-not-begins_with
returns-then-not-begins_with c =
    let s = c.other.inside.shared in
    let t = c.other.inside.last in
    rows-differ c.args.self.now c.args.other.now (λ same. true≢false (sym
    (c.begins_with.ensures.1 (first-same c.args.self.now s t (length s) refl (same ∙ sym c.other.view_is))) ∙
    c.if-not-begins_with.true))

pub returns : goal.returns
returns c =
    let s = c.other.inside.shared in
    let t = c.other.inside.last in
    let at : c.len-3.result ≡ length s = c.len-3.ensures.len in
    let all : length c.args.other.now ≡ length s + length t = ap length (sym c.other.view_is) ∙ length-append s t in
    let size : length c.args.self.now ≡ length s + length t = omega (arith, c.if-len.false, c.len.ensures, c.len-2.ensures, all) in
    told_alike {P = c.args.self.now ≡ c.args.other.now} c.has_at.result (rows_eq c.args.self.now c.args.other.now) (
      λ told. whole-same c.args.self.now s t (length s) refl size (c.begins_with.ensures.0 c.if-not-begins_with.false)
          (ap (λ n. between c.args.self.now n (n + length t)) (sym at) ∙ c.has_at.ensures.0 told) ∙ c.other.view_is,
      λ same. c.has_at.ensures.1 (last-same c.args.self.now s t c.len-3.result at (same ∙ sym c.other.view_is)),
    ) (rows-tell c.args.self.now c.args.other.now)
