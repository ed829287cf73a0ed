use Rattle.std.proofs.Common.{List, true≢false, length, refl, sym, ap, ◌∙◌, subst}
use Rattle.tl_eval.specs.Frames.{assignment_in, AgreeElsewhere}
use Rattle.tl_syntax.specs.Assignment.{bind}
use Rattle.tl_syntax.specs.declared.variable.Var.{Var}
use Rattle.tl_progress.proofs.quantifier.put_instance.Goals as goal

pub returns-then-not-next : goal.returns-then-not-next
returns-then-not-next c s b = record {
  reads = λ e. c.next.ensures.reads s b c.args.vars.now e;
  next = λ e. c.next.ensures.next s b c.args.vars.now e;
  put = λ h. absurd (true≢false (sym h));
  done = λ h. c.next.ensures.end c.if-not-next.true;
  elsewhere = λ u. refl;
}

pub put_values-requires-clause-same : goal.put_values-requires-clause-same
put_values-requires-clause-same c =
    let r = c.requires.reads in
    ap length c.as_slice.ensures ∙ sym (c.values.ensures.count r.0 c.args.vars.now r.2 r.1
    (c.next.ensures.reads r.0 r.1 c.args.vars.now r.2 r.3))

pub returns : goal.returns
returns c s b = record {
  reads = λ e. c.next.ensures.reads s b c.args.vars.now e;
  next = λ e. c.next.ensures.next s b c.args.vars.now e;
  put = λ h. (
    c.values.result.now,
    c.values.ensures.values,
    c.put_values.ensures.values ∙
        ap (λ (ss : List Var). bind ss c.values.result.now (assignment_in c.args.env.now)) c.as_slice.ensures,
  );
  done = λ h. absurd (true≢false h);
  elsewhere = subst (λ (ss : List Var). AgreeElsewhere ss (assignment_in c.put_values.new.self) (assignment_in c.args.env.now))
      c.as_slice.ensures c.put_values.ensures.elsewhere;
}
