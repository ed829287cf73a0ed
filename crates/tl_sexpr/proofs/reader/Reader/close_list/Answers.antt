use Rattle.tl_sexpr.proofs.reader.Reader.close_list.Goals as goal

pub returns-clause-closed : goal.returns-clause-closed
returns-clause-closed c = record {
  closed = c.in-Some.field-0;
  stack = c.in-Some.ensures.items;
  forms = cc (c.in_ok-push.ensures.added, c.replace-inner.ensures.value, c.replace-inner.ensures.after);
}
