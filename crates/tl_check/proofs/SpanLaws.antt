-- Labels of the positions of a span.
use Rattle.std.proofs.Common.{◌≡◌, ◌≤◌, ◌<◌, ◌+◌, ◌-◌, ℕ, zero, suc, List, ◌∷◌, drop, length, get_or, cond, nat_le, nat_lt, ◌&&◌, Bool}
use Rattle.std.proofs.Common.{true, false, refl, sym, ap, ap₂, ◌∙◌, arith, length-drop}
use Rattle.std.proofs.lemmas.List.{get_or-take, length-take, drop-drop, ext_get_or, take_all}
use Rattle.std.proofs.lemmas.Bool.{le-leb, lt-leb}
use Rattle.tl_check.proofs.LabelLaws.{marks-length, marks-at}
use Rattle.tl_check.specs.Ahead.{Ahead, marks}
use Rattle.tl_check.specs.Lines.{test_from}
use Rattle.tl_check.specs.Passes.{joins}
use Rattle.tl_check.specs.Spans.{IsWithin, marks_in, joined_where}
use Rattle.tl_check.specs.declared.span.Span.{Span}
use Rattle.tl_syntax.specs.declared.junction.Junction.{Junction}
use Rattle.tl_terms.specs.World.{World}

module _ (t : Ahead) (ws : List World) (span : Span) (within : IsWithin span (length ws)) where
  pub marks_in-length : length (marks_in t ws span) ≡ span.to - span.from
  marks_in-length =
      let all : length (marks t (drop span.from ws)) ≡ length ws - span.from = marks-length t (drop span.from ws) ∙
      length-drop span.from ws in
      let order = within.order in
      let room = within.within in
      omega (arith, length-take (span.to - span.from) (marks t (drop span.from ws)))

  pub marks_in-at : (k : ℕ) (d : Bool) → k < span.to - span.from → get_or (marks_in t ws span) k d ≡ t (drop (span.from + k) ws)
  marks_in-at k d h =
      let order = within.order in
      let room = within.within in
      get_or-take (span.to - span.from) (marks t (drop span.from ws)) k d h
      ∙ (marks-at t (drop span.from ws) k d (omega (arith, length-drop span.from ws)) ∙ ap t (drop-drop k span.from ws))

  -- labels that are right at each position
  pub marks_in-by : (bs : List Bool) → length bs ≡ span.to - span.from →
      ((k : ℕ) → k < span.to - span.from → get_or bs k false ≡ t (drop (span.from + k) ws)) → bs ≡ marks_in t ws span
  marks_in-by bs size right =
      ext_get_or false bs (marks_in t ws span) (size ∙ sym marks_in-length)
      (λ k h. let l : k < span.to - span.from = omega (arith, size) in right k l ∙ sym (marks_in-at k false l))

  -- all positions up to the last one
  pub marks_in-rest : span.to ≡ length ws → marks_in t ws span ≡ marks t (drop span.from ws)
  marks_in-rest h = take_all (span.to - span.from) (marks t (drop span.from ws))
      (omega (arith, h, marks-length t (drop span.from ws), length-drop span.from ws))

pub test_from-length : (t : ℕ → Bool) (i n : ℕ) → length (test_from t i n) ≡ n
test_from-length t i zero = refl
test_from-length t i (suc n) = ap suc (test_from-length t (suc i) n)

pub test_from-at : (t : ℕ → Bool) (i n k : ℕ) (d : Bool) → k < n → get_or (test_from t i n) k d ≡ t (i + k)
test_from-at t i zero k d h = absurd (omega arith)
test_from-at t i (suc n) zero d h = ap t (let e : i ≡ i + 0 = omega arith in e)
test_from-at t i (suc n) (suc k) d h = test_from-at t (suc i) n k d (omega arith) ∙ ap t (let e : suc i + k ≡ i + suc k = omega arith in e)

-- labels of a test of positions
pub test_from-marks_in : (t : ℕ → Bool) (u : Ahead) (ws : List World) (span : Span) → IsWithin span (length ws) →
    ((i : ℕ) → span.from ≤ i → i < span.to → t i ≡ u (drop i ws)) → test_from t span.from (span.to - span.from) ≡ marks_in u ws span
test_from-marks_in t u ws span within right =
    marks_in-by u ws span within (test_from t span.from (span.to - span.from)) (test_from-length t span.from (span.to - span.from))
    (λ k h. test_from-at t span.from (span.to - span.from) k false h ∙ right (span.from + k) (omega arith) (omega arith))

pub test_from-marks : (t : ℕ → Bool) (u : Ahead) (ws : List World) (span : Span) → IsWithin span (length ws) →
    ((i : ℕ) → i < length ws → t i ≡ u (drop i ws)) → test_from t span.from (span.to - span.from) ≡ marks_in u ws span
test_from-marks t u ws span within right = test_from-marks_in t u ws span within
    (λ i h l. right i (let room = within.within in omega arith))

-- one more label
pub test_from-more : (t : ℕ → Bool) (i to : ℕ) → i < to → test_from t i (to - i) ≡ t i ∷ test_from t (i + 1) (to - (i + 1))
test_from-more t i to h =
    ap (test_from t i) (let e : to - i ≡ suc (to - (i + 1)) = omega arith in e) ∙
    ap (λ (k : ℕ). t i ∷ test_from t k (to - (i + 1))) (let e : suc i ≡ i + 1 = omega arith in e)

-- ---- labels that are joined with others at some positions

module _ (j : Junction) (there other : List Bool) (at k : ℕ) (b : Bool) where
  test-is : (x y z : Bool) → nat_le at k ≡ x → nat_lt k (at + length other) ≡ y → get_or there k false ≡ z →
      joined_where j there other at k b ≡ cond ((x && y) && z) (joins j b (get_or other (k - at) false)) b
  test-is x y z p q r = ap (λ (t : Bool). cond t (joins j b (get_or other (k - at) false)) b) (ap₂ ◌&&◌ (ap₂ ◌&&◌ p q) r)

  pub where-before : k < at → joined_where j there other at k b ≡ b
  where-before h = test-is false (nat_lt k (at + length other)) (get_or there k false) (lt-leb at k h) refl refl

  pub where-after : at + length other ≤ k → joined_where j there other at k b ≡ b
  where-after h = test-is (nat_le at k) false (get_or there k false) refl (lt-leb (suc k) (at + length other) (omega arith)) refl ∙
      by (nat_le at k)
    where
      by : (x : Bool) → cond ((x && false) && get_or there k false) (joins j b (get_or other (k - at) false)) b ≡ b
      by true = refl
      by false = refl

  pub where-not : get_or there k false ≡ false → joined_where j there other at k b ≡ b
  where-not h = test-is (nat_le at k) (nat_lt k (at + length other)) false refl refl h ∙ by (nat_le at k && nat_lt k (at + length other))
    where
      by : (x : Bool) → cond (x && false) (joins j b (get_or other (k - at) false)) b ≡ b
      by true = refl
      by false = refl

  pub where-there : at ≤ k → k < at + length other → get_or there k false ≡ true → joined_where j there other at k b ≡
      joins j b (get_or other (k - at) false)
  where-there h l t = test-is true true true (le-leb at k h) (le-leb (suc k) (at + length other) (omega arith)) t
