use Rattle.std.proofs.Common.{◌≡◌, List, [], ◌∷◌, false, refl, sym, subst, arith}
use Rattle.tl_syntax.specs.declared.value.Value.{Value}
use Rattle.tl_syntax.specs.Lists.{Each}
use Rattle.tl_match.specs.Front.{front_cmp, is_passed, IsFirstKept}
use Rattle.tl_world.proofs.match_reader.first_place.Goals as goal

all-kept : (rows : List (List Value)) → Each (λ r. is_passed false (front_cmp [] r) ≡ false) rows
all-kept [] = tt
all-kept (r ∷ rows) = (refl, all-kept rows)

pub returns-then-begins_free : goal.returns-then-begins_free
returns-then-begins_free c =
    let rows = c.args.rows.now in
    subst (λ (f : List Value). IsFirstKept false f rows 0) (sym (c.begins_free.ensures c.if-begins_free.true))
    (record { bound = omega arith; before = tt; after = all-kept rows })
