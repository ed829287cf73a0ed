use Rattle.std.proofs.Common.{◌≡◌, ◌<◌, ◌≤◌, List, [], ◌∷◌, ◌++◌, length, get_or, take, set, refl, ap, ◌∙◌, arith, pos}
use Rattle.std.proofs.Math.Seq.{take-append_seam}
use Rattle.tl_syntax.specs.declared.value.Value.TheVariants.{Int}
use Rattle.tl_match.specs.declared.pattern.Part.{Part}
use Rattle.tl_match.specs.declared.pattern.Part.TheVariants.{Fixed}
use Rattle.tl_rows.specs.Second.{exchanged}
use Rattle.tl_match.proofs.by_second.exchanged_parts.Goals as goal

exchanged-first : (ps rest : List Part) (d : Part) → 1 < length ps → take (length ps)
    (set (set (ps ++ rest) 0 (get_or ps 1 d)) 1 (get_or ps 0 d)) ≡ exchanged ps
exchanged-first [] rest d p = absurd (omega arith)
exchanged-first (q ∷ []) rest d p = absurd (omega arith)
exchanged-first (q ∷ r ∷ ps) rest d p = ap (λ zs. r ∷ q ∷ zs) (take-append_seam ps rest)

few-first : (ps rest : List Part) → length ps ≤ 1 → take (length ps) (ps ++ rest) ≡ exchanged ps
few-first [] rest p = refl
few-first (q ∷ []) rest p = refl
few-first (q ∷ r ∷ ps) rest p = absurd (omega arith)

-- a copy of the parts, before others, of which the first two are exchanged
two : (ps copy rest : List Part) (d : Part) → copy ≡ ps → 1 < length ps →
    take (length ps) (set (set (copy ++ rest) 0 (get_or ps 1 d)) 1 (get_or ps 0 d)) ≡ exchanged ps
two ps copy rest d same p = ap (λ cs. take (length ps) (set (set (cs ++ rest) 0 (get_or ps 1 d)) 1 (get_or ps 0 d))) same ∙
    exchanged-first ps rest d p

-- a copy of no more than one part, before others
few : (ps copy rest : List Part) → copy ≡ ps → length ps ≤ 1 → take (length ps) (copy ++ rest) ≡ exchanged ps
few ps copy rest same p = ap (λ cs. take (length ps) (cs ++ rest)) same ∙ few-first ps rest p

pub returns-then-parts-gt1 : goal.returns-then-parts-gt1
returns-then-parts-gt1 c = two c.args.parts.now c.copy_from_slice.new.self _
    (Fixed (Int (pos 0))) c.copy_from_slice.ensures.after c.if-parts-gt1.true

pub returns-else-parts-gt1 : goal.returns-else-parts-gt1
returns-else-parts-gt1 c = few c.args.parts.now c.copy_from_slice.new.self _ c.copy_from_slice.ensures.after c.if-parts-gt1.false
