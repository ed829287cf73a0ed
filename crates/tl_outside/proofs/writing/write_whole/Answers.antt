use Rattle.std.proofs.Common.{◌-◌, length, take, drop, ap, ◌∙◌, arith}
use Rattle.std.proofs.lemmas.List.{take_all}
use Rattle.std.proofs.lemmas.Result.{err_from_is_err_and}
use Rattle.std.specs.Io.KnownBytes.{append_known}
use Rattle.tl_outside.proofs.Front.{append_known_more, length_take_le}
use Rattle.tl_outside.proofs.Puts.{leads_more, leads_to_all, leads_to_fault}
use Rattle.tl_outside.proofs.writing.write_whole.Goals as goal

pub returns-in_err-done-clause-puts : goal.returns-in_err-done-clause-puts
returns-in_err-done-clause-puts g c =
    let p = err_from_is_err_and c.from_residual.result c.from_residual.ensures.1 in
    rw p.1 (leads_to_fault _ _ _ c.args.bytes.now c.puts.done c.puts-test.true c.puts.invariant.puts c.in_err-done.ensures.puts)

pub puts-preserved : goal.puts-preserved
puts-preserved g c =
    let i = c.puts.invariant in
    let t = c.in_ok-done.ensures in
    let all = c.args.bytes.now in
    let n = c.in_ok-done.field-0 in
    record {
      within = omega (arith, t.bound, length_take_le (length all - c.puts.done) (drop c.puts.done all), c.puts-test.true);
      bytes = t.bytes ∙ ap (λ told. append_known told (take n (take (length all - c.puts.done) (drop c.puts.done all)))) i.bytes ∙
          append_known_more _ all c.puts.done n;
      puts = leads_more _ _ _ all c.puts.done n c.puts-test.true i.puts t.puts;
      later = omega (arith, t.cause.later, i.later);
    }

pub returns-clause-puts : goal.returns-clause-puts
returns-clause-puts g c = leads_to_all _ _ c.args.bytes.now c.puts.done c.puts-test.false c.puts.invariant.puts

pub returns-clause-all : goal.returns-clause-all
returns-clause-all g c =
    c.puts.invariant.bytes ∙ ap (append_known (g.K.Sink.bytes c.args.out.now)) (take_all c.puts.done c.args.bytes.now c.puts-test.false)
