use Rattle.std.proofs.Common.{◌≡◌, List, [], ◌∷◌, ℕ, Option, ◌&&◌, length, get_or, refl, sym, ap, ◌∙◌, arith, pos}
use Rattle.tl_syntax.specs.declared.value.Value.{Value}
use Rattle.tl_syntax.specs.declared.value.Value.TheVariants.{Int}
use Rattle.tl_match.specs.declared.pattern.Match.{Match}
use Rattle.tl_match.specs.declared.pattern.Part.{Part}
use Rattle.tl_match.specs.declared.pattern.Part.TheVariants.{Fixed}
use Rattle.tl_match.specs.Fits.{occurs}
use Rattle.tl_match.specs.Least.{IsLeast, fits_some, above, match_in_place}
use Rattle.tl_rows.specs.Second.{exchanged, AreExchanged}
use Rattle.tl_match.proofs.ExchangedParts.{occurs-exchanged, some-exchanged}
use Rattle.tl_match.proofs.Least.{least-same}
use Rattle.tl_match.proofs.by_second.put_next_in_table.Goals as goal

two : (ps : List Part) (d : Part) → length ps ≡ 2 → get_or ps 1 d ∷ get_or ps 0 d ∷ [] ≡ exchanged ps
two [] d e = absurd (omega (arith, e))
two (p ∷ []) d e = absurd (omega (arith, e))
two (p ∷ q ∷ []) d e = refl
two (p ∷ q ∷ r ∷ ps) d e = absurd (omega (arith, e))

-- the least tuple that makes the exchanged parts one of the exchanged rows is that which makes the parts one of the rows
least-exchanged : (parts other : List Part) (rows second : List (List Value)) (after found : Option Match) (k : ℕ) → other ≡
    exchanged parts → AreExchanged rows second
    → IsLeast k (λ t. fits_some other second t && above after k t) found → IsLeast k (λ t. fits_some parts rows t && above after k t) found
least-exchanged parts other rows second after found k same are =
    least-same k found (λ t. fits_some other second t && above after k t) (λ t. fits_some parts rows t && above after k t)
    (λ t size. ap (λ b. b && above after k t) (ap (λ ps. fits_some ps second t) same ∙ some-exchanged parts rows second t are))

pub put_next-requires-clause-each : goal.put_next-requires-clause-each
put_next-requires-clause-each c n p = ap (occurs n) (two c.args.parts.now (Fixed (Int (pos 0))) c.if-parts-eq2.true) ∙
    (occurs-exchanged n c.args.parts.now ∙ c.requires.each n p)

pub put_next-requires-clause-slots : goal.put_next-requires-clause-slots
put_next-requires-clause-slots c n o = c.requires.slots n (sym (occurs-exchanged n c.args.parts.now) ∙
    (sym (ap (occurs n) (two c.args.parts.now (Fixed (Int (pos 0))) c.if-parts-eq2.true)) ∙ o))

pub returns-then-parts-eq2 : goal.returns-then-parts-eq2
returns-then-parts-eq2 c =
    least-exchanged c.args.parts.now _ c.args.rows.now c.in-Some.second.now (match_in_place c.args.begun c.args.tuple.now)
    (match_in_place c.put_next.result c.put_next.new.tuple) c.args.free
    (two c.args.parts.now (Fixed (Int (pos 0))) c.if-parts-eq2.true) c.in-Some.ensures.are c.put_next.ensures

pub put_next-requires-in-Some-clause-each : goal.put_next-requires-in-Some-clause-each
put_next-requires-in-Some-clause-each c n p = ap (occurs n) c.exchanged_parts-other.ensures ∙
    (occurs-exchanged n c.args.parts.now ∙ c.requires.each n p)

pub put_next-requires-in-Some-clause-slots : goal.put_next-requires-in-Some-clause-slots
put_next-requires-in-Some-clause-slots c n o = c.requires.slots n (sym (occurs-exchanged n c.args.parts.now) ∙
    (sym (ap (occurs n) c.exchanged_parts-other.ensures) ∙ o))

pub returns-in-Some : goal.returns-in-Some
returns-in-Some c =
    least-exchanged c.args.parts.now _ c.args.rows.now c.in-Some.second.now (match_in_place c.args.begun c.args.tuple.now)
    (match_in_place c.put_next-in-Some.result c.put_next-in-Some.new.tuple) c.args.free
    c.exchanged_parts-other.ensures c.in-Some.ensures.are c.put_next-in-Some.ensures
