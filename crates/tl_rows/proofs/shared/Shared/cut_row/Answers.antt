use Rattle.std.proofs.Common.{◌≡◌, ◌+◌, ◌-◌, ◌<◌, length, get_or, sym, ap, ◌∙◌, subst, arith}
use Rattle.std.proofs.Math.ListN.{set}
use Rattle.std.proofs.lemmas.List.{get_or_default}
use Rattle.std.specs.List.{remove}
use Rattle.tl_rows.specs.declared.shared.Run.{Run}
use Rattle.tl_rows.specs.Runs.{rows_in, run_place, AreCounted}
use Rattle.tl_rows.proofs.Going.{on-err}
use Rattle.tl_rows.proofs.RunEdits.{cut-counted, cut-rows, lowered-rows, run-found, same-counted, same-rows}
use Rattle.tl_rows.proofs.shared.Shared.cut_row.Goals as goal

pub cut_in_run-requires : goal.cut_in_run-requires
cut_in_run-requires c =
    let rs = c.self.inside.runs.items in
    let i = c.find_run-i.result in
    let b = c.begin-from.result in
    let d = c.index_mut.result.now in
    let k = c.args.k in
    let f = run-found rs c.as_slice.result.now c.as_slice-2.result.now i b k d c.as_slice.ensures.value c.as_slice-2.ensures.value
    c.self.invariant c.find_run-i.ensures.bound c.find_run-i.ensures.from c.find_run-i.ensures.to c.begin-from.ensures.place in
    let from = f.from in
    let to = f.to in
    let here = c.index_mut.ensures.value in
    omega (arith, from, to, ap (λ (u : Run). length u.rows.value) here)

pub invariant_of-self : goal.invariant_of-self
invariant_of-self c =
    let rs = c.self.inside.runs.items in
    let i = c.find_run-i.result in
    let b = c.begin-from.result in
    let d = c.index_mut.result.now in
    let k = c.args.k in
    let f = run-found rs c.as_slice.result.now c.as_slice-2.result.now i b k d c.as_slice.ensures.value c.as_slice-2.ensures.value
    c.self.invariant c.find_run-i.ensures.bound c.find_run-i.ensures.from c.find_run-i.ensures.to c.begin-from.ensures.place in
    let from = f.from in
    let to = f.to in
    let here = c.index_mut.ensures.value in
    let r = c.cut_in_run.new.run in
    let end : r.end ≡ (get_or rs i d).end = c.cut_in_run.ensures.end ∙ ap (λ (u : Run). u.end) here in
    let same = c.in_err-cut_in_run.ensures.same ∙ ap (λ (u : Run). u.rows.value) here in
    same-counted r d 0 rs i c.self.invariant f.below end (ap length same)

pub returns-in_err-cut_in_run-clause-same : goal.returns-in_err-cut_in_run-clause-same
returns-in_err-cut_in_run-clause-same c =
    let rs = c.self.inside.runs.items in
    let i = c.find_run-i.result in
    let b = c.begin-from.result in
    let d = c.index_mut.result.now in
    let k = c.args.k in
    let f = run-found rs c.as_slice.result.now c.as_slice-2.result.now i b k d c.as_slice.ensures.value c.as_slice-2.ensures.value
    c.self.invariant c.find_run-i.ensures.bound c.find_run-i.ensures.from c.find_run-i.ensures.to c.begin-from.ensures.place in
    let from = f.from in
    let to = f.to in
    let here = c.index_mut.ensures.value in
    let same = c.in_err-cut_in_run.ensures.same ∙ ap (λ (u : Run). u.rows.value) here in
    on-err c.from_residual.result (same-rows c.cut_in_run.new.run d rs i f.below same ∙ c.self.view_is)

pub invariant_of-self-2 : goal.invariant_of-self-2
invariant_of-self-2 c =
    let rs = c.self.inside.runs.items in
    let i = c.find_run-i.result in
    let b = c.begin-from.result in
    let d = c.index_mut.result.now in
    let k = c.args.k in
    let f = run-found rs c.as_slice.result.now c.as_slice-2.result.now i b k d c.as_slice.ensures.value c.as_slice-2.ensures.value
    c.self.invariant c.find_run-i.ensures.bound c.find_run-i.ensures.from c.find_run-i.ensures.to c.begin-from.ensures.place in
    let from = f.from in
    let to = f.to in
    let here = c.index_mut.ensures.value in
    let r = c.cut_in_run.new.run in
    let end : r.end ≡ (get_or rs i d).end = c.cut_in_run.ensures.end ∙ ap (λ (u : Run). u.end) here in
    let is = c.in_ok-cut_in_run.ensures.all ∙ ap (λ (u : Run). remove u.rows.value (k - b)) here in
    let read = c.index.ensures ∙ get_or_default rs i c.index.result.now d f.below in
    let q : k - b < length (get_or rs i d).rows.value = omega (arith, from, to) in
    let two : 1 < length (get_or rs i d).rows.value = omega (
      arith,
      c.if-len-le-FEWEST.false,
      c.len.ensures.len,
      ap length c.deref.ensures,
      ap (λ (u : Run). length u.rows.value) read,
    ) in
    subst (AreCounted 0) (sym c.lower_ends.ensures) (cut-counted r d 0 rs i (k - b) c.self.invariant f.below end is q two)

pub returns-clause-all : goal.returns-clause-all
returns-clause-all c _ =
    let rs = c.self.inside.runs.items in
    let i = c.find_run-i.result in
    let b = c.begin-from.result in
    let d = c.index_mut.result.now in
    let k = c.args.k in
    let f = run-found rs c.as_slice.result.now c.as_slice-2.result.now i b k d c.as_slice.ensures.value c.as_slice-2.ensures.value
    c.self.invariant c.find_run-i.ensures.bound c.find_run-i.ensures.from c.find_run-i.ensures.to c.begin-from.ensures.place in
    let from = f.from in
    let to = f.to in
    let here = c.index_mut.ensures.value in
    let r = c.cut_in_run.new.run in
    let is = c.in_ok-cut_in_run.ensures.all ∙ ap (λ (u : Run). remove u.rows.value (k - b)) here in
    let q : k - b < length (get_or rs i d).rows.value = omega (arith, from, to) in
    let at : k ≡ run_place rs i + (k - b) = let place = f.place in omega (arith, place, from) in
    ap rows_in c.lower_ends.ensures ∙ (lowered-rows (set rs i r) i ∙ (cut-rows r d rs i (k - b) k f.below is q at ∙
    ap (λ xs. remove xs k) c.self.view_is))
