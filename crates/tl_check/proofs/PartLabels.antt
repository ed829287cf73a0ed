-- The labels of parts together.
use Rattle.std.proofs.Common.{◌≡◌, ◌<◌, ◌≤◌, ◌+◌, ◌-◌, ℕ, zero, suc, List, [], ◌∷◌, map, take, drop, length, replicate, get_or, Bool, not}
use Rattle.std.proofs.Common.{refl, sym, ap, ap₂, ◌∙◌, arith, drop-cons, add-one}
use Rattle.tl_check.proofs.JoinLaws.{joins-assoc, joins-idle_right, joins-idle}
use Rattle.tl_check.proofs.AtomLaws.{marks_in-agree, same-marks}
use Rattle.tl_check.proofs.LabelLaws.{marks-joined}
use Rattle.tl_check.specs.Ahead.{Ahead, Course, true_ahead, marks}
use Rattle.tl_check.specs.Passes.{joins, joined_labels}
use Rattle.tl_check.specs.Spans.{IsWithin, marks_in}
use Rattle.tl_check.specs.declared.span.Span.{Span}
use Rattle.tl_syntax.specs.declared.junction.Junction.{Junction}
use Rattle.tl_syntax.specs.declared.junction.Junction.TheVariants.{All, Any}
use Rattle.tl_syntax.specs.Junctions.{deciding_truth, joined}
use Rattle.tl_syntax.proofs.FormulaTrees.{trees-Formulas}
use Rattle.tl_syntax.specs.declared.formula.Formula.{Formula}
use Rattle.tl_syntax.specs.declared.formula.Formulas.{Formulas}
use Rattle.tl_syntax.specs.Assignment.{Assignment}
use Rattle.tl_syntax.specs.TreeOfFormula.{tree_of_formula, tree_of_formulas}
use Rattle.tl_syntax.specs.Trees.{formulas_of_list}
use Rattle.tl_terms.specs.World.{World}

-- the parts together
abbrev pub joined_ahead : Course → Assignment → Junction → List Formula → Ahead
joined_ahead p e junction items = true_ahead p e (joined junction (formulas_of_list (map tree_of_formula items)))

-- the labels so far are those of a test which is, with the parts that are left, that of all parts
pub record PartsSoFar (p : Course) (e : Assignment) (ws : List World) (span : Span) (junction : Junction) (items rest : List Formula)
    (bs : List Bool) : Type 0 where
  pub so_far : Ahead
  pub labels : bs ≡ marks_in so_far ws span
  pub whole : (s : List World) → joined_ahead p e junction items s ≡ joins junction (so_far s) (joined_ahead p e junction rest s)

joined-take : (j : Junction) (n : ℕ) (bs cs : List Bool) → joined_labels j (take n bs) (take n cs) ≡ take n (joined_labels j bs cs)
joined-take j zero bs cs = refl
joined-take j (suc n) [] cs = refl
joined-take j (suc n) (b ∷ bs) [] = refl
joined-take j (suc n) (b ∷ bs) (c ∷ cs) = ap (λ (ds : List Bool). joins j b c ∷ ds) (joined-take j n bs cs)

module _ (p : Course) (e : Assignment) (ws : List World) (span : Span) (within : IsWithin span (length ws)) (junction : Junction)
    (items : List Formula) where
  pub parts-begun : (bs : List Bool) → bs ≡ replicate (span.to - span.from) (not (deciding_truth junction)) →
      PartsSoFar p e ws span junction items items bs
  parts-begun bs q = record {
    so_far = λ s. not (deciding_truth junction);
    labels = q ∙ same-marks ws span (λ s. not (deciding_truth junction)) (not (deciding_truth junction)) within (λ w vs. refl);
    whole = λ s. sym (joins-idle junction (joined_ahead p e junction items s));
  }

  head-part : (x : Formula) (xs : List Formula) (s : List World) → joined_ahead p e junction (x ∷ xs) s ≡
      joins junction (true_ahead p e (tree_of_formula x) s) (joined_ahead p e junction xs s)
  unfolding true_ahead
  head-part x xs s = by junction
    where
      by : (b : Junction) → joined_ahead p e b (x ∷ xs) s ≡ joins b (true_ahead p e (tree_of_formula x) s) (joined_ahead p e b xs s)
      by Any = refl
      by All = refl

  no-part : (s : List World) → joined_ahead p e junction [] s ≡ not (deciding_truth junction)
  unfolding true_ahead
  no-part s = by junction
    where
      by : (b : Junction) → joined_ahead p e b [] s ≡ not (deciding_truth b)
      by Any = refl
      by All = refl

  pub parts-on : (bs cs new : List Bool) (i : ℕ) (x : Formula) → i < length items → x ≡ get_or items i x →
      PartsSoFar p e ws span junction items (drop i items) bs → cs ≡ marks_in (true_ahead p e (tree_of_formula x)) ws span → new ≡
      joined_labels junction bs cs
      → PartsSoFar p e ws span junction items (drop (i + 1) items) new
  parts-on bs cs new i x h r so told joined_is =
      let rest : drop i items ≡ x ∷ drop (i + 1) items = drop-cons items i x h ∙
      ap₂ (λ (y : Formula) (k : ℕ). y ∷ drop k items) (sym r) (sym (add-one i)) in
      record {
        so_far = λ s. joins junction (so.so_far s) (true_ahead p e (tree_of_formula x) s);
        labels = joined_is ∙ (ap₂ (joined_labels junction) so.labels told ∙
            (joined-take junction (span.to - span.from) (marks so.so_far (drop span.from ws))
            (marks (true_ahead p e (tree_of_formula x)) (drop span.from ws)) ∙
            ap (take (span.to - span.from)) (marks-joined junction so.so_far (true_ahead p e (tree_of_formula x)) (drop span.from ws))));
        whole = λ s. so.whole s
            ∙ (ap (λ (ys : List Formula). joins junction (so.so_far s) (joined_ahead p e junction ys s)) rest
            ∙ (ap (joins junction (so.so_far s)) (head-part x (drop (i + 1) items) s)
            ∙ joins-assoc junction (so.so_far s) (true_ahead p e (tree_of_formula x) s)
            (joined_ahead p e junction (drop (i + 1) items) s)));
      }

  past : (xs : List Formula) (k : ℕ) → length xs ≤ k → drop k xs ≡ []
  past [] zero l = refl
  past [] (suc k) l = refl
  past (x ∷ xs) zero l = absurd (omega arith)
  past (x ∷ xs) (suc k) l = past xs k (omega arith)

  pub parts-end : (fs : Formulas) (bs : List Bool) (i : ℕ) → items ≡ fs.items.items → length items ≤ i →
      PartsSoFar p e ws span junction items (drop i items) bs → bs ≡ marks_in
      (true_ahead p e (joined junction (tree_of_formulas fs))) ws span
  parts-end fs bs i q h so =
      so.labels
      ∙ (marks_in-agree so.so_far (joined_ahead p e junction items)
      (λ s. sym (so.whole s ∙ (ap (λ (ys : List Formula). joins junction (so.so_far s) (joined_ahead p e junction ys s)) (past items i h) ∙
      (ap (joins junction (so.so_far s)) (no-part s) ∙ joins-idle_right junction (so.so_far s))))) ws span
      ∙ ap (λ ts. marks_in (true_ahead p e (joined junction ts)) ws span)
      (ap (λ (ys : List Formula). formulas_of_list (map tree_of_formula ys)) q ∙ sym (trees-Formulas fs)))
