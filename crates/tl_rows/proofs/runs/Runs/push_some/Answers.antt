use Rattle.std.proofs.Common.{◌≡◌, ◌<◌, ◌≤◌, ◌+◌, ◌-◌, ◌++◌, length, sym, ap, ◌∙◌, subst, arith}
use Rattle.std.specs.Prelude.{min}
use Rattle.tl_rows.specs.Runs.{between, IsPart}
use Rattle.tl_rows.proofs.Parts.{between-all, between-back, between-part, first-part}
use Rattle.tl_rows.proofs.runs.Runs.push_some.Goals as goal

pub returns-then-k-full : goal.returns-then-k-full
returns-then-k-full c =
    let s = c.other.inside.shared in
    let t = c.other.inside.last in
    let full : c.len-full.result ≡ length s = c.len-full.ensures.len in
    let low : length s ≤ c.args.k = omega (arith, full, c.if-k-full.true) in
    let same : between t (c.args.k - c.len-full.result) (c.args.to - c.len-full.result) ≡ between c.args.other.now c.args.k c.args.to =
    (λ i. between t (c.args.k - full i) (c.args.to - full i)) ∙ (sym (between-back s t c.args.k c.args.to low) ∙
    ap (λ xs. between xs c.args.k c.args.to) c.other.view_is) in
    (c.requires.some, (let m : c.args.to ≤ c.args.to = omega arith in m), c.in_ok-copy_rows.ensures ∙ ap (λ xs. c.args.self.now ++ xs) same)

pub returns-in_ok-copy_rows-2 : goal.returns-in_ok-copy_rows-2
returns-in_ok-copy_rows-2 c =
    let s = c.other.inside.shared in
    let t = c.other.inside.last in
    let rows = c.run_of-from.result.0.now.value in
    let from = c.run_of-from.result.1 in
    let part : IsPart c.args.other.now from rows = subst (λ xs. IsPart xs from rows) c.other.view_is
    (first-part s t rows from c.run_of-from.ensures.part) in
    let size : c.len.result ≡ length rows = c.len.ensures.len ∙ ap length c.deref.ensures in
    let next : c.min-next.result ≡ min c.args.to (from + c.len.result) = c.min-next.ensures in
    let below : c.args.k < c.min-next.result = omega (arith, next, size, c.run_of-from.ensures.to, c.requires.some) in
    let within : c.min-next.result ≤ from + length rows = omega (arith, next, size) in (
      below,
      (let m : c.min-next.result ≤ c.args.to = omega (arith, next) in m),
      c.in_ok-copy_rows-2.ensures ∙ ap (λ xs. c.args.self.now ++ xs)
          (ap (λ xs. between xs (c.args.k - from) (c.min-next.result - from)) c.as_ref-else-next-k.ensures ∙
          between-part c.args.other.now rows from c.args.k c.min-next.result part c.run_of-from.ensures.from
          (omega (arith, below)) within),
    )

pub returns-in_ok-share : goal.returns-in_ok-share
returns-in_ok-share c =
    let s = c.other.inside.shared in
    let t = c.other.inside.last in
    let rows = c.run_of-from.result.0.now.value in
    let from = c.run_of-from.result.1 in
    let next = c.min-next.result in
    let part : IsPart c.args.other.now from rows = subst (λ xs. IsPart xs from rows) c.other.view_is
    (first-part s t rows from c.run_of-from.ensures.part) in
    let size : c.len.result ≡ length rows = c.len.ensures.len ∙ ap length c.deref.ensures in
    let size2 : c.len-2.result ≡ length rows = c.len-2.ensures.len ∙ ap length c.deref-2.ensures in
    let least : next ≡ min c.args.to (from + c.len.result) = c.min-next.ensures in
    let below : c.args.k < next = omega (arith, least, size, c.run_of-from.ensures.to, c.requires.some) in
    let within : next ≤ from + length rows = omega (arith, least, size) in
    let start : c.args.k ≡ from = omega (arith, c.if-next-k.true, size2, within, c.run_of-from.ensures.from, below) in
    let end : next - from ≡ length rows = omega (arith, c.if-next-k.true, size2, start) in
    let all : between rows (c.args.k - from) (next - from) ≡ rows = ap (λ n. between rows n (next - from))
    (let z : c.args.k - from ≡ 0 = omega (arith, start) in z) ∙ between-all rows (next - from) end in (
      below,
      (let m : next ≤ c.args.to = omega (arith, least) in m),
      c.in_ok-share.ensures ∙ ap (λ xs. c.args.self.now ++ xs) (sym all ∙
          between-part c.args.other.now rows from c.args.k next part c.run_of-from.ensures.from (omega (arith, below)) within),
    )
