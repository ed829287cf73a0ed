use Rattle.std.proofs.Common.{rules, ◌≡◌, ◌≤◌, ◌+◌, ◌++◌, ℕ, length, take, arith, length-append, ◌∙◌, sym, ap, subst}
use Rattle.std.proofs.lemmas.Result.{err_from_is_err_and}
use Rattle.tl_outside.proofs.Calls.{TakesSo, take_failed, takes_end, takes_first, takes_more, takes_none}
use Rattle.tl_outside.proofs.Front.{front_more, length_take_le}
use Rattle.tl_outside.proofs.reading.read_whole.Goals as goal

pub takes-preserved : goal.takes-preserved
takes-preserved g c =
    let i = c.takes.invariant in
    let t = c.in_ok-count.ensures in
    let more : c.extend.new.self ≡ c.takes.bytes ++ take c.in_ok-count.count c.take.new.room = c.in_ok-extend.ensures in
    let len : length c.extend.new.self ≡ length c.takes.bytes + c.in_ok-count.count =
    ap length more ∙ length-append c.takes.bytes _ ∙ ap (λ k. length c.takes.bytes + k) (sym t.bound.1) in
    let room : length c.take.new.room ≤ c.min-want.result = rw c.take.auto.room (length_take_le c.min-want.result c.takes.room) in
    record {
      chosen = t.chosen ∙ i.chosen;
      files = t.files ∙ i.files;
      whole = t.whole ∙ i.whole;
      taken = t.taken ∙ ap (λ k. k + c.in_ok-count.count) i.taken ∙ sym len;
      within = omega (arith, len, t.bound.0, room, c.min-want.ensures, c.len-in-takes.ensures);
      front = rw (t.whole, more) (front_more _ _ _ _ t.bound.0 i.front (rw i.taken at t.bytes));
      found = i.found;
      calls = subst (λ (n : ℕ). TakesSo (g.S.Store.calls c.args.store.now) (g.S.Store.calls c.take.new.self) c.args.name.now c.args.limit n)
          (sym len)
          (takes_more _ _ _ c.args.name.now c.args.limit (length c.takes.bytes) c.in_ok-count.count
          (omega (arith, c.takes-test.true)) c.if-count-eq0.false i.calls t.calls);
      later = omega (arith, t.cause.later);
    }

pub takes-init : goal.takes-init
takes-init g c = record {
  chosen = c.in_ok-begin.ensures.chosen;
  files = c.in_ok-begin.ensures.files;
  whole = c.in_ok-begin.ensures.whole;
  taken = search rules;
  within = search rules;
  front = search rules;
  found = search rules;
  calls = rw c.new-bytes.ensures (takes_first _ _ c.args.name.now c.args.limit c.in_ok-begin.ensures.calls);
  later = c.in_ok-begin.ensures.later;
}

pub returns-clause-too_long : goal.returns-clause-too_long
returns-clause-too_long g c = search rules

pub returns-clause-failed : goal.returns-clause-failed
returns-clause-failed g c = search rules

pub returns-in_err-count-clause-calls : goal.returns-in_err-count-clause-calls
returns-in_err-count-clause-calls g c =
    let p = err_from_is_err_and c.from_residual-in_err-count.result c.from_residual-in_err-count.ensures.1 in
    rw (p.1, p.2) (take_failed _ _ _ c.args.name.now c.args.limit (length c.takes.bytes)
    (omega (arith, c.takes-test.true)) c.takes.invariant.calls c.in_err-count.ensures.calls)

pub returns-then-count-eq0-clause-calls : goal.returns-then-count-eq0-clause-calls
returns-then-count-eq0-clause-calls g c =
    takes_none _ _ _ c.args.name.now c.args.limit (length c.takes.bytes) c.in_ok-count.count
    (omega (arith, c.takes-test.true)) c.if-count-eq0.true c.takes.invariant.calls c.in_ok-count.ensures.calls

pub returns-in_err-extend-clause-calls : goal.returns-in_err-extend-clause-calls
returns-in_err-extend-clause-calls g c =
    let p = err_from_is_err_and c.from_residual-in_err-extend.result c.from_residual-in_err-extend.ensures.1 in
    let more = takes_more _ _ _ c.args.name.now c.args.limit (length c.takes.bytes) c.in_ok-count.count
    (omega (arith, c.takes-test.true)) c.if-count-eq0.false c.takes.invariant.calls c.in_ok-count.ensures.calls in
    rw (p.1, p.2) (takes_end _ _ c.args.name.now c.args.limit _ more)

pub returns-clause-calls : goal.returns-clause-calls
returns-clause-calls g c = takes_end _ _ c.args.name.now c.args.limit (length c.takes.bytes) c.takes.invariant.calls
