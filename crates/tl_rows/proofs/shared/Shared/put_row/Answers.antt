use Rattle.std.proofs.Common.{◌≡◌, ◌+◌, ◌-◌, ◌<◌, ◌≤◌, ◌^◌, length, get_or, sym, ap, ◌∙◌, subst, arith}
use Rattle.std.proofs.Math.ListN.{set}
use Rattle.std.specs.List.{insert}
use Rattle.tl_rows.specs.declared.shared.Run.{Run}
use Rattle.tl_rows.specs.Runs.{rows_in, run_place, AreCounted}
use Rattle.tl_rows.proofs.Going.{on-err}
use Rattle.tl_rows.proofs.RunEdits.{put-counted, put-rows, raised-rows, run-found, same-counted, same-rows}
use Rattle.tl_rows.proofs.shared.Shared.put_row.Goals as goal

pub put_in_run-requires-clause-place : goal.put_in_run-requires-clause-place
put_in_run-requires-clause-place c =
    let rs = c.self.inside.runs.items in
    let i = c.find_run-i.result in
    let b = c.begin-from.result in
    let d = c.index_mut.result.now in
    let k = c.args.k in
    let f = run-found rs c.as_slice.result.now c.as_slice-2.result.now i b k d c.as_slice.ensures.value c.as_slice-2.ensures.value
    c.self.invariant c.find_run-i.ensures.bound c.find_run-i.ensures.from c.find_run-i.ensures.to c.begin-from.ensures.place in
    let from = f.from in
    let to = f.to in
    let here = c.index_mut.ensures.value in
    omega (arith, from, to, ap (λ (u : Run). length u.rows.value) here)

pub invariant_of-self : goal.invariant_of-self
invariant_of-self c =
    let rs = c.self.inside.runs.items in
    let i = c.find_run-i.result in
    let b = c.begin-from.result in
    let d = c.index_mut.result.now in
    let k = c.args.k in
    let f = run-found rs c.as_slice.result.now c.as_slice-2.result.now i b k d c.as_slice.ensures.value c.as_slice-2.ensures.value
    c.self.invariant c.find_run-i.ensures.bound c.find_run-i.ensures.from c.find_run-i.ensures.to c.begin-from.ensures.place in
    let from = f.from in
    let to = f.to in
    let here = c.index_mut.ensures.value in
    let r = c.put_in_run.new.run in
    let end : r.end ≡ (get_or rs i d).end = c.put_in_run.ensures.end ∙ ap (λ (u : Run). u.end) here in
    let same = c.in_err-put_in_run.ensures.same ∙ ap (λ (u : Run). u.rows.value) here in
    same-counted r d 0 rs i c.self.invariant f.below end (ap length same)

pub returns-in_err-put_in_run-clause-same : goal.returns-in_err-put_in_run-clause-same
returns-in_err-put_in_run-clause-same c =
    let rs = c.self.inside.runs.items in
    let i = c.find_run-i.result in
    let b = c.begin-from.result in
    let d = c.index_mut.result.now in
    let k = c.args.k in
    let f = run-found rs c.as_slice.result.now c.as_slice-2.result.now i b k d c.as_slice.ensures.value c.as_slice-2.ensures.value
    c.self.invariant c.find_run-i.ensures.bound c.find_run-i.ensures.from c.find_run-i.ensures.to c.begin-from.ensures.place in
    let from = f.from in
    let to = f.to in
    let here = c.index_mut.ensures.value in
    let same = c.in_err-put_in_run.ensures.same ∙ ap (λ (u : Run). u.rows.value) here in
    on-err c.from_residual.result (same-rows c.put_in_run.new.run d rs i f.below same ∙ c.self.view_is)

pub invariant_of-self-2 : goal.invariant_of-self-2
invariant_of-self-2 c =
    let rs = c.self.inside.runs.items in
    let i = c.find_run-i.result in
    let b = c.begin-from.result in
    let d = c.index_mut.result.now in
    let k = c.args.k in
    let f = run-found rs c.as_slice.result.now c.as_slice-2.result.now i b k d c.as_slice.ensures.value c.as_slice-2.ensures.value
    c.self.invariant c.find_run-i.ensures.bound c.find_run-i.ensures.from c.find_run-i.ensures.to c.begin-from.ensures.place in
    let from = f.from in
    let to = f.to in
    let here = c.index_mut.ensures.value in
    let r = c.put_in_run.new.run in
    let end : r.end ≡ (get_or rs i d).end = c.put_in_run.ensures.end ∙ ap (λ (u : Run). u.end) here in
    let row = c.args.row.now in
    let is = c.in_ok-put_in_run.ensures.all ∙ ap (λ (u : Run). insert u.rows.value (k - b) row) here in
    let q : k - b ≤ length (get_or rs i d).rows.value = omega (arith, from, to) in
    let small : 0 + length (rows_in rs) + 1 < 2 ^ 63 = omega (
      arith,
      c.if-len-ge-COUNTED.false,
      c.len-else-len-ge-MOST.ensures.len,
      ap length c.self.view_is,
    ) in
    subst (AreCounted 0) (sym c.raise_ends.ensures) (put-counted r d 0 rs i (k - b) row c.self.invariant f.below end is q small)

pub returns-clause-all : goal.returns-clause-all
returns-clause-all c _ =
    let rs = c.self.inside.runs.items in
    let i = c.find_run-i.result in
    let b = c.begin-from.result in
    let d = c.index_mut.result.now in
    let k = c.args.k in
    let f = run-found rs c.as_slice.result.now c.as_slice-2.result.now i b k d c.as_slice.ensures.value c.as_slice-2.ensures.value
    c.self.invariant c.find_run-i.ensures.bound c.find_run-i.ensures.from c.find_run-i.ensures.to c.begin-from.ensures.place in
    let from = f.from in
    let to = f.to in
    let here = c.index_mut.ensures.value in
    let r = c.put_in_run.new.run in
    let row = c.args.row.now in
    let is = c.in_ok-put_in_run.ensures.all ∙ ap (λ (u : Run). insert u.rows.value (k - b) row) here in
    let q : k - b ≤ length (get_or rs i d).rows.value = omega (arith, from, to) in
    let at : k ≡ run_place rs i + (k - b) = let place = f.place in omega (arith, place, from) in
    ap rows_in c.raise_ends.ensures ∙ (raised-rows (set rs i r) i ∙ (put-rows r d rs i (k - b) k row f.below is q at ∙
    ap (λ xs. insert xs k row) c.self.view_is))
