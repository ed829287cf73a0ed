use Rattle.std.proofs.Common.{List, slice_get, refl, ap, ◌∙◌}
use Rattle.tl_sexpr.specs.declared.reader.OpenList.{OpenList}
use Rattle.tl_sexpr.proofs.Ranges.{first_is}
use Rattle.tl_sexpr.proofs.reader.Reader.finish.Goals as goal

pub returns-in-Some-clause-unclosed : goal.returns-in-Some-clause-unclosed
returns-in-Some-clause-unclosed c =
    let first = first_is c.args.self.open.items c.in-Some.list.now (c.in-Some.ensures.value ∙
    ap (λ (xs : List OpenList). slice_get xs 0) c.deref.ensures.value) in
    record { outermost = c.in-Some.list.now; rest = first.0; stack = first.1; told = refl }
