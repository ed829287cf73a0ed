use Rattle.std.proofs.Common.{◌∙◌, sym, ap}
use Rattle.tl_syntax.specs.declared.term.Term.{Term}
use Rattle.tl_syntax.specs.TreeOfTerm.{tree_of_term, tree_of_terms}
use Rattle.tl_label.specs.Lines.{after}
use Rattle.tl_label.specs.Terms.{declared_text, operation_text, term_text, term_texts}
use Rattle.tl_label.proofs.Parentheses.{parenthesized, two_parts, one-more, none-left}
use Rattle.tl_label.proofs.TermParts.{texts-in, text-Var, text-Val, text-Place, text-Arith}
use Rattle.tl_label.proofs.terms.+put_term.Goals as goal

pub put_term-returns-in-Var : goal.put_term-returns-in-Var
put_term-returns-in-Var t c = rw (text-Var c.args.problem.now.names c.args.problem.now.domain c.args.term.now c.in-Var.var c.in-Var.is)
    c.put_name.ensures

pub put_term-returns-in-Val : goal.put_term-returns-in-Val
put_term-returns-in-Val t c = rw (text-Val c.args.problem.now.names c.args.problem.now.domain c.args.term.now c.in-Val.value c.in-Val.is)
    c.put_value.ensures

pub put_term-returns-in_ok-put_terms-in-Place : goal.put_term-returns-in_ok-put_terms-in-Place
put_term-returns-in_ok-put_terms-in-Place t c =
    let names = c.args.problem.now.names in
    let domain = c.args.problem.now.domain in
    rw (
      text-Place names domain c.args.term.now c.in-Place.fun c.in-Place.args c.in-Place.is,
      parenthesized c.args.line.now (declared_text names domain.functions c.in-Place.fun)
          (term_texts names domain (tree_of_terms c.in-Place.args)),
      ← c.in_ok-put-in-Place.ensures,
      ← c.function_name.ensures,
      ← c.as_bytes.ensures.value,
      ← c.in_ok-put-in-Place-2.ensures,
      ← c.in_ok-put_terms-in-Place.ensures,
    )
    c.put-in-Place-2.ensures

pub put_term-returns-in_ok-put_term-in-Arith-2 : goal.put_term-returns-in_ok-put_term-in-Arith-2
put_term-returns-in_ok-put_term-in-Arith-2 t c =
    let names = c.args.problem.now.names in
    let domain = c.args.problem.now.domain in
    rw (
      text-Arith names domain c.args.term.now c.in-Arith.op c.in-Arith.left c.in-Arith.right c.in-Arith.field-3 c.in-Arith.is,
      two_parts c.args.line.now (operation_text c.in-Arith.op) (term_text names domain (tree_of_term c.in-Arith.left.value))
          (term_text names domain (tree_of_term c.in-Arith.right.value)),
      ← c.in_ok-put-in-Arith.ensures,
      ← c.operation_sign.ensures,
      ← c.as_bytes-in-Arith.ensures.value,
      ← c.in_ok-put-in-Arith-2.ensures,
      ← c.in_ok-put-in-Arith-3.ensures,
      ← c.deref.ensures,
      ← c.in_ok-put_term-in-Arith.ensures,
      ← c.in_ok-put-in-Arith-4.ensures,
      ← c.deref-in-Arith.ensures,
      ← c.in_ok-put_term-in-Arith-2.ensures,
    )
    c.put-in-Arith-5.ensures

pub put_terms-loop-term-preserved : goal.put_terms-loop-term-preserved
put_terms-loop-term-preserved t c =
    let f = λ (x : Term). term_text c.args.problem.now.names c.args.problem.now.domain (tree_of_term x) in
    c.loop-term.invariant
    ∙ one-more f c.as_slice-term-items.result.now c.loop-term.term-index c.term-item.result c.loop-term.line c.put.new.self
    c.put_term.new.line c.loop-term-test.true
    c.in_ok-put.ensures (c.in_ok-put_term.ensures ∙ ap (λ x. after c.put.new.self (f x)) c.term-item.is)

pub put_terms-returns : goal.put_terms-returns
put_terms-returns t c =
    let f = λ (x : Term). term_text c.args.problem.now.names c.args.problem.now.domain (tree_of_term x) in
    rw (texts-in c.args.problem.now.names c.args.problem.now.domain c.args.terms.now, ← c.as_slice-term-items.ensures)
    (sym (c.loop-term.invariant ∙ none-left f c.as_slice-term-items.result.now c.loop-term.term-index c.loop-term.line
    c.loop-term-test.false))
