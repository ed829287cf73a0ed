use Rattle.std.proofs.Common.{◌≡◌, Bool, true, false, not, true≢false, List, map, refl, sym, ap, ◌∙◌}
use Rattle.tl_syntax.specs.declared.value.Value.{Value}
use Rattle.tl_rows.specs.declared.table.PlaceRow.{PlaceRow}
use Rattle.tl_rows.specs.Codes.{places_code}
use Rattle.tl_rows.specs.RowTests.{rows_eq, rows-tell}
use Rattle.tl_rows.proofs.PlaceLists.{all-args, differ, same-values}
use Rattle.tl_rows.proofs.table.PlaceRowsPartialEq.eq.Goals as goal

not-true : (b : Bool) → not b ≡ true → b ≡ false
not-true true h = absurd (true≢false (sym h))
not-true false h = refl

not-false : (b : Bool) → not b ≡ false → b ≡ true
not-false true h = refl
not-false false h = absurd (true≢false h)

args-differ : (us ys : List (List Value)) → rows_eq us ys ≡ false → us ≡ ys → ⊥
args-differ us ys e is = true≢false (sym ((rows-tell us ys).1 is) ∙ e)

pub returns-then-self-other : goal.returns-then-self-other
returns-then-self-other c = differ c.args.self.now c.args.other.now (λ is.
    c.if-self-other.true (c.self.invariant.1 ∙ (ap places_code (c.self.view_is ∙ (is ∙ sym c.other.view_is)) ∙ sym c.other.invariant.1)))

pub returns-then-ne : goal.returns-then-ne
returns-then-ne c =
    let other : rows_eq c.self.inside.args.value c.other.inside.args.value ≡ false =
    (λ i. rows_eq (sym c.deref.ensures i) (sym c.deref-2.ensures i)) ∙
    not-true (rows_eq c.deref.result.now c.deref-2.result.now) (sym c.ne.ensures ∙ c.if-ne.true) in
    differ c.args.self.now c.args.other.now (λ is. args-differ c.self.inside.args.value c.other.inside.args.value other
    (all-args c.self.inside.args.value c.self.inside.values.items c.self.invariant.0
    ∙ (ap (map (λ (r : PlaceRow). r.args)) (c.self.view_is ∙ (is ∙ sym c.other.view_is)) ∙
    sym (all-args c.other.inside.args.value c.other.inside.values.items c.other.invariant.0))))

pub returns : goal.returns
returns c =
    let same : rows_eq c.self.inside.args.value c.other.inside.args.value ≡ true =
    (λ i. rows_eq (sym c.deref.ensures i) (sym c.deref-2.ensures i)) ∙
    not-false (rows_eq c.deref.result.now c.deref-2.result.now) (sym c.ne.ensures ∙ c.if-ne.false) in
    same-values c.self.inside.args.value c.other.inside.args.value c.self.inside.values.items c.other.inside.values.items c.args.self.now
    c.args.other.now c.eq.result c.self.invariant.0 c.other.invariant.0 c.self.view_is c.other.view_is
    ((rows-tell c.self.inside.args.value c.other.inside.args.value).0 same) c.eq.ensures
