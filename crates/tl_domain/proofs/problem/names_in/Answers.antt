use Rattle.std.proofs.Common.{List, [], sym, ap, ◌∙◌}
use Rattle.std.specs.Prelude.{length}
use Rattle.tl_sexpr.specs.Tree.{trees_of}
use Rattle.tl_sexpr.specs.declared.form.Form.{Form}
use Rattle.tl_sexpr.proofs.TreeOf.{trees-Forms}
use Rattle.tl_rules.specs.Reads.{trees_in}
use Rattle.tl_domain.proofs.NamesInOrder.{room-first, room-after, settled-names}
use Rattle.tl_domain.proofs.problem.names_in.Goals as goal

pub add_forms-requires : goal.add_forms-requires
add_forms-requires c =
    let first = ap trees_in c.as_slice.ensures ∙ sym (trees-Forms c.args.first.now) in
    record {
      room = room-first (trees_of c.args.first.now) (trees_of c.args.second.now)
          (trees_in c.as_slice.result.now) c.new-names.result c.requires.room first c.new-names.ensures;
    }

pub add_forms-requires-2 : goal.add_forms-requires-2
add_forms-requires-2 c =
    let first = ap trees_in c.as_slice.ensures ∙ sym (trees-Forms c.args.first.now) in
    let second = ap trees_in c.as_slice-2.ensures ∙ sym (trees-Forms c.args.second.now) in
    record {
      room = room-after (trees_of c.args.first.now) (trees_of c.args.second.now) (trees_in c.as_slice.result.now)
          (trees_in c.as_slice-2.result.now) c.new-names.result c.add_forms.new.names c.requires.room first second c.new-names.ensures
          c.in_ok-add_forms.ensures.added;
    }

pub returns : goal.returns
returns c =
    let first = ap trees_in c.as_slice.ensures ∙ sym (trees-Forms c.args.first.now) in
    let second = ap trees_in c.as_slice-2.ensures ∙ sym (trees-Forms c.args.second.now) in
    let e = c.in_ok-names.ensures in
    record {
      names = settled-names (trees_of c.args.first.now) (trees_of c.args.second.now) (trees_in c.as_slice.result.now)
          (trees_in c.as_slice-2.result.now) c.new-names.result c.add_forms.new.names c.add_forms-2.new.names c.in_ok-names.names first
          second
          c.new-names.ensures c.in_ok-add_forms.ensures.added c.in_ok-add_forms-2.ensures.added e.permutation e.order;
    }
