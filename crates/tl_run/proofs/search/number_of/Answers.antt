use Rattle.std.proofs.Common.{◌≡◌, ◌<◌, ◌^◌, false, true, sym, arith}
use Rattle.std.specs.Str.{all_ascii_digits}
use Rattle.tl_run.proofs.Numbers.{no_number, writes_none, writes_within}
use Rattle.tl_run.proofs.search.number_of.Goals as goal

pub returns-then-not-is_digits-clause-number : goal.returns-then-not-is_digits-clause-number
returns-then-not-is_digits-clause-number c = let d : all_ascii_digits c.args.word.now ≡ false = cc in
    sym (no_number c.args.least c.args.most c.args.word.now d)

pub returns-in-Ok-clause-number : goal.returns-in-Ok-clause-number
returns-in-Ok-clause-number c =
    let d : all_ascii_digits c.args.word.now ≡ true = cc in
    let few : c.args.most < 2 ^ 32 = omega arith in
    writes_within c.args.least c.args.most c.args.word.now c.parse.result few d c.parse.ensures.value.0 c.in-Ok.number c.in-Ok.is
    c.if-least-number.true c.if-number-most.true

pub returns-in_default-3-clause-number : goal.returns-in_default-3-clause-number
returns-in_default-3-clause-number c =
    let d : all_ascii_digits c.args.word.now ≡ true = cc in
    let few : c.args.most < 2 ^ 32 = omega arith in
    writes_none c.args.least c.args.most c.args.word.now c.parse.result few d c.parse.ensures.value.0 c.in_default.field-0 c.in_default.is
