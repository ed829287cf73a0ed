use Rattle.std.proofs.Common.{◌≡◌, ◌+◌, drop, sym, ap, ◌∙◌, arith}
use Rattle.tl_sexpr.specs.Spelling.{symbols_in_all}
use Rattle.tl_sexpr.specs.Tree.{tree_of}
use Rattle.tl_rules.specs.Parts.{sizes}
use Rattle.tl_rules.specs.Reads.{trees_in}
use Rattle.tl_rules.specs.Symbols.{names_with, names_with_all}
use Rattle.tl_rules.proofs.Loops.{trees-next}
use Rattle.tl_rules.proofs.Beginnings.{begins-chain, forms-begin}
use Rattle.tl_rules.proofs.NamesWith.{length-names_with}
use Rattle.tl_rules.proofs.symbols.+add_symbols.Goals as goal

pub add_forms-loop-form-preserved : goal.add_forms-loop-form-preserved
add_forms-loop-form-preserved t c =
    let next = trees-next c.args.forms.now c.loop-form.form-index c.form-item.result c.loop-form-test.true c.form-item.is in
    let count = ap sizes next in
    let symbols = ap symbols_in_all next in
    let added : c.add_form.new.names ≡ names_with c.loop-form.names (tree_of c.form-item.result) = c.in_ok-add_form.ensures.added in
    record {
      names = c.loop-form.invariant.names ∙ ap (names_with_all c.loop-form.names) next ∙
          ap (λ names. names_with_all names (trees_in (drop (c.loop-form.form-index + 1) c.args.forms.now))) (sym added);
      room = omega (
        arith,
        symbols,
        c.loop-form.invariant.room,
        rw (← added) at
            (length-names_with c.loop-form.names (tree_of c.form-item.result)),
      );
      kept = begins-chain _ _ _ c.add_form.ensures.kept c.loop-form.invariant.kept;
      fewer = omega (arith, count, c.loop-form.invariant.fewer);
    }

pub add_forms-returns-in_err-add_form-clause-no_other : goal.add_forms-returns-in_err-add_form-clause-no_other
add_forms-returns-in_err-add_form-clause-no_other t c =
    let next = trees-next c.args.forms.now c.loop-form.form-index c.form-item.result c.loop-form-test.true c.form-item.is in
    let later = trees_in (drop (c.loop-form.form-index + 1) c.args.forms.now) in
    let sofar = names_with c.loop-form.names (tree_of c.form-item.result) in
    let all : names_with_all c.args.names.now (trees_in c.args.forms.now) ≡ names_with_all sofar later = c.loop-form.invariant.names ∙
    ap (names_with_all c.loop-form.names) next in
    rw all (begins-chain (names_with_all sofar later) sofar c.add_form.new.names (forms-begin sofar later) c.add_form.ensures.no_other)
