-- Labels that count at some positions alone.
use Rattle.std.proofs.Common.{◌≡◌, ◌≤◌, ◌<◌, ◌+◌, ◌-◌, inl, inr, ℕ, zero, suc, List, [], ◌∷◌, ◌++◌, length, replicate, get_or, cond, Bool}
use Rattle.std.proofs.Common.{true, false, not, refl, sym, ap, ◌∙◌, arith, append_assoc, length-append}
use Rattle.std.proofs.lemmas.List.{length-replicate, get_or-append_right, get_or_append_left, get_or-replicate}
use Rattle.std.proofs.lemmas.Bool.{cases_lt}
use Rattle.tl_check.proofs.RunLaws.{at-in, at-past}
use Rattle.tl_check.proofs.SpanLaws.{where-before, where-after, where-not, where-there}
use Rattle.tl_check.specs.Passes.{joins, joined_labels}
use Rattle.tl_check.specs.Picked.{placed_labels, chosen_labels, picked_labels}
use Rattle.tl_check.specs.Spans.{joined_where, JoinsWhere}
use Rattle.tl_syntax.specs.Junctions.{deciding_truth}
use Rattle.tl_syntax.specs.declared.junction.Junction.{Junction}
use Rattle.tl_syntax.specs.declared.junction.Junction.TheVariants.{All, Any}

pub chosen-run : (e : Bool) (n : ℕ) (a b : Bool) (bs cs : List Bool) → chosen_labels e (replicate n a ++ bs) (replicate n b ++ cs) ≡
    replicate n (cond a b e) ++ chosen_labels e bs cs
chosen-run e zero a b bs cs = refl
chosen-run e (suc n) a b bs cs = ap (λ (us : List Bool). cond a b e ∷ us) (chosen-run e n a b bs cs)

pub placed-length : (bs : List Bool) (at count : ℕ) (e : Bool) → at + length bs ≤ count → length (placed_labels bs at count e) ≡ count
placed-length bs at count e h =
    omega (
      arith,
      length-append (replicate at e ++ bs) (replicate (count - (at + length bs)) e),
      length-append (replicate at e) bs,
      length-replicate at e,
      length-replicate (count - (at + length bs)) e,
    )

chosen-length : (e : Bool) (bs cs : List Bool) → length bs ≡ length cs → length (chosen_labels e bs cs) ≡ length bs
chosen-length e [] cs h = refl
chosen-length e (b ∷ bs) [] h = absurd (omega (arith, h))
chosen-length e (b ∷ bs) (c ∷ cs) h = ap suc (chosen-length e bs cs (omega (arith, h)))

pub picked-length : (there bs : List Bool) (at : ℕ) (e : Bool) → at + length bs ≤ length there → length (picked_labels there bs at e) ≡
    length there
picked-length there bs at e h = chosen-length e there (placed_labels bs at (length there) e) (sym (placed-length bs at (length there) e h))

pub joined-length : (j : Junction) (bs cs : List Bool) → length bs ≡ length cs → length (joined_labels j bs cs) ≡ length bs
joined-length j [] cs h = refl
joined-length j (b ∷ bs) [] h = absurd (omega (arith, h))
joined-length j (b ∷ bs) (c ∷ cs) h = ap suc (joined-length j bs cs (omega (arith, h)))

pub joined-at : (j : Junction) (bs cs : List Bool) (k : ℕ) → length bs ≡ length cs → k < length bs →
    get_or (joined_labels j bs cs) k false ≡ joins j (get_or bs k false) (get_or cs k false)
joined-at j [] cs k h l = absurd (omega arith)
joined-at j (b ∷ bs) [] k h l = absurd (omega (arith, h))
joined-at j (b ∷ bs) (c ∷ cs) zero h l = refl
joined-at j (b ∷ bs) (c ∷ cs) (suc k) h l = joined-at j bs cs k (omega (arith, h)) (omega arith)

chosen-at : (e : Bool) (bs cs : List Bool) (k : ℕ) → length bs ≡ length cs → k < length bs → get_or (chosen_labels e bs cs) k false ≡
    cond (get_or bs k false) (get_or cs k false) e
chosen-at e [] cs k h l = absurd (omega arith)
chosen-at e (b ∷ bs) [] k h l = absurd (omega (arith, h))
chosen-at e (b ∷ bs) (c ∷ cs) zero h l = refl
chosen-at e (b ∷ bs) (c ∷ cs) (suc k) h l = chosen-at e bs cs k (omega (arith, h)) (omega arith)

pub placed-before : (bs : List Bool) (at count k : ℕ) (e : Bool) → k < at → get_or (placed_labels bs at count e) k false ≡ e
placed-before bs at count k e h =
    ap (λ (us : List Bool). get_or us k false) (append_assoc (replicate at e) bs (replicate (count - (at + length bs)) e)) ∙
    at-in at k e (bs ++ replicate (count - (at + length bs)) e) h

pub placed-in : (bs : List Bool) (at count k : ℕ) (e : Bool) → at ≤ k → k < at + length bs → get_or (placed_labels bs at count e) k false ≡
    get_or bs (k - at) false
placed-in bs at count k e h l =
    ap (λ (us : List Bool). get_or us k false) (append_assoc (replicate at e) bs (replicate (count - (at + length bs)) e))
    ∙ (at-past at k e (bs ++ replicate (count - (at + length bs)) e) h
    ∙ get_or_append_left bs (replicate (count - (at + length bs)) e) false (k - at) (omega arith))

pub placed-after : (bs : List Bool) (at count k : ℕ) (e : Bool) → at + length bs ≤ k → k < count →
    get_or (placed_labels bs at count e) k false ≡ e
placed-after bs at count k e h l =
    let size : length (replicate at e ++ bs) ≡ at + length bs = omega (arith, length-append (replicate at e) bs, length-replicate at e) in
    get_or-append_right (replicate at e ++ bs) (replicate (count - (at + length bs)) e) (at + length bs) k false size h
    ∙ get_or-replicate (count - (at + length bs)) (k - (at + length bs)) e false (omega arith)

same-choice : (t e : Bool) → cond t e e ≡ e
same-choice true e = refl
same-choice false e = refl

neutral : (j : Junction) (b : Bool) → joins j b (not (deciding_truth j)) ≡ b
neutral All true = refl
neutral All false = refl
neutral Any true = refl
neutral Any false = refl

module _ (j : Junction) (old there bs : List Bool) (at : ℕ) (size : length old ≡ length there) (room : at + length bs ≤ length there) where
  abbrev fill : Bool
  fill = not (deciding_truth j)

  abbrev picked : List Bool
  picked = picked_labels there bs at fill

  pick : (k : ℕ) (c : Bool) → k < length old → get_or (placed_labels bs at (length there) fill) k false ≡ c → get_or picked k false ≡
      cond (get_or there k false) c fill
  pick k c l q = chosen-at fill there (placed_labels bs at (length there) fill) k (sym (placed-length bs at (length there) fill room))
      (omega (arith, size)) ∙ ap (λ (x : Bool). cond (get_or there k false) x fill) q

  whole : (k : ℕ) → k < length old → get_or (joined_labels j old picked) k false ≡ joins j (get_or old k false) (get_or picked k false)
  whole k l = joined-at j old picked k (size ∙ sym (picked-length there bs at fill room)) l

  kept : (k : ℕ) → k < length old → get_or picked k false ≡ fill → get_or (joined_labels j old picked) k false ≡ get_or old k false
  kept k l q = whole k l ∙ (ap (joins j (get_or old k false)) q ∙ neutral j (get_or old k false))

  outside : (k : ℕ) → k < length old → get_or (placed_labels bs at (length there) fill) k false ≡ fill →
      get_or (joined_labels j old picked) k false ≡ get_or old k false
  outside k l q = kept k l (pick k fill l q ∙ same-choice (get_or there k false) fill)

  inside : (k : ℕ) (t : Bool) → k < length old → at ≤ k → k < at + length bs → get_or there k false ≡ t →
      get_or (joined_labels j old picked) k false ≡ joined_where j there bs at k (get_or old k false)
  inside k true l h m q =
      whole k l ∙ (ap (joins j (get_or old k false)) (pick k (get_or bs (k - at) false) l (placed-in bs at (length there) k fill h m) ∙
      ap (λ (t : Bool). cond t (get_or bs (k - at) false) fill) q)
      ∙ sym (where-there j there bs at k (get_or old k false) h m q))
  inside k false l h m q =
      kept k l (pick k (get_or bs (k - at) false) l (placed-in bs at (length there) k fill h m) ∙
      ap (λ (t : Bool). cond t (get_or bs (k - at) false) fill) q)
      ∙ sym (where-not j there bs at k (get_or old k false) q)

  pub joins-where : JoinsWhere j there bs at old (joined_labels j old picked)
  joins-where k l = elim (cases_lt k at) [
    | inl h ↦ outside k l (placed-before bs at (length there) k fill h) ∙ sym (where-before j there bs at k (get_or old k false) h)
    | inr h ↦ elim (cases_lt k (at + length bs)) [
      | inl m ↦ inside k (get_or there k false) l h m refl
      | inr m ↦ outside k l (placed-after bs at (length there) k fill m (omega (arith, size))) ∙
          sym (where-after j there bs at k (get_or old k false) m)
    ]
  ]
