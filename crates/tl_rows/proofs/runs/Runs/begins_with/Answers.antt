use Rattle.std.proofs.Common.{◌≡◌, ◌≤◌, ◌+◌, length, true≢false, refl, sym, ap, ◌∙◌, subst, arith}
use Rattle.tl_rows.specs.Runs.{between, IsPart}
use Rattle.tl_rows.proofs.SameParts.{part-same, longer-same}
use Rattle.tl_rows.proofs.runs.Runs.begins_with.Goals as goal

pub returns-then-not-has_at : goal.returns-then-not-has_at
returns-then-not-has_at c =
    let from = c.run_of-from.result.1 in
    let rows = c.as_ref.result.now in
    let part : IsPart c.args.shared.now from rows = subst (IsPart c.args.shared.now from)
    (sym c.as_ref.ensures) c.run_of-from.ensures.part in (
      λ h. absurd (true≢false (sym h)),
      λ same. absurd (true≢false (sym (c.has_at.ensures.1 (part-same c.args.self.now c.args.shared.now from (from + length rows)
          (length c.args.shared.now) refl (let m : from ≤ from + length rows = omega arith in m) part.within same ∙ sym part.are)) ∙
          c.if-not-has_at.true)),
    )

pub loop-k-preserved : goal.loop-k-preserved
loop-k-preserved c =
    let from = c.run_of-from.result.1 in
    let rows = c.as_ref.result.now in
    let part : IsPart c.args.shared.now from rows = subst (IsPart c.args.shared.now from)
    (sym c.as_ref.ensures) c.run_of-from.ensures.part in
    let size : c.len-in-loop-k.result ≡ length rows = c.len-in-loop-k.ensures.len ∙ ap length (c.deref.ensures ∙ sym c.as_ref.ensures) in
    let here : between c.args.self.now from (from + length rows) ≡ between c.args.shared.now from (from + length rows) =
    c.has_at.ensures.0 c.if-not-has_at.false ∙ part.are in
    record {
      within = (let w = part.within in omega (arith, w, size));
      same = longer-same c.args.self.now c.args.shared.now c.loop-k.k from (from + c.len-in-loop-k.result) c.run_of-from.ensures.from
          (let m : from ≤ from + c.len-in-loop-k.result = omega arith in m) c.loop-k.invariant.same
          (ap (λ n. between c.args.self.now from (from + n)) size ∙ (here ∙
          ap (λ n. between c.args.shared.now from (from + n)) (sym size)));
    }
