-- The changes of facts, as they are found.
use Rattle.std.proofs.Common.{◌≡◌, ◌+◌, List, [], ◌∷◌, ◌++◌, cond, Bool, true, false, Option, Some, None, IsSome, refl, sym, ap, ◌∙◌, subst}
use Rattle.std.proofs.Common.{inl, inr, arith}
use Rattle.std.specs.Global.{Vec}
use Rattle.std.specs.HashMap.{get}
use Rattle.tl_check.proofs.LineLaws.{truth-before_change, truth-at_change, before-added}
use Rattle.tl_check.specs.Lines.{truth_from, AreBefore, IsLastTruth}
use Rattle.tl_check.specs.Tracks.{Lines, TellsTruth, changes_in, line_in}
use Rattle.tl_check.specs.declared.line.Change.{Change}
use Rattle.tl_syntax.specs.declared.fact.Fact.{Fact}
use Rattle.tl_syntax.specs.DerivedTests.{fact_eq}
use Rattle.tl_syntax.specs.Lists.{Among}
use Rattle.tl_syntax.proofs.ListLaws.{One-append}
use Rattle.tl_syntax.proofs.Plain.{fact-tells}

pub among-added : {A : Type 0} (x y : A) (xs ys : List A) → ys ≡ xs ++ y ∷ [] → Among x xs → Among x ys
among-added x y xs ys q h = subst (Among x) (sym q) ((One-append (λ z. z ≡ x) xs (y ∷ [])).1 (inl h))

pub among-last : {A : Type 0} (x y : A) (xs ys : List A) → ys ≡ xs ++ y ∷ [] → y ≡ x → Among x ys
among-last x y xs ys q e = subst (Among x) (sym q) ((One-append (λ z. z ≡ x) xs (y ∷ [])).1 (inr (inl e)))

-- ---- a change more

-- a change that is added
pub tells-added : (fact : Fact) (change : Change) (old new : Fact → List Change) →
    ((g : Fact) → new g ≡ cond (fact_eq fact g) (old g ++ change ∷ []) (old g)) → TellsTruth fact change old new
tells-added fact change old new noted =
    let here : new fact ≡ old fact ++ change ∷ [] = noted fact ∙ ap (λ (b : Bool). cond b (old fact ++ change ∷ []) (old fact))
    ((fact-tells fact fact).1 refl) in
    record {
      others = λ g h. noted g ∙ ap (λ (b : Bool). cond b (old g ++ change ∷ []) (old g)) h;
      earlier = λ j h. ap (λ (cs : List Change). truth_from false cs j) here ∙ truth-before_change false (old fact) change j h;
      bounded = λ h. subst (AreBefore (change.at + 1)) (sym here) (before-added (change.at + 1) (old fact) change h (omega arith));
      there = λ h. ap (λ (cs : List Change). truth_from false cs change.at) here ∙ truth-at_change false (old fact) change change.at h refl;
    }

-- a change that the others tell already
pub tells-same : (fact : Fact) (change : Change) (old : Fact → List Change) (b : Bool) → IsLastTruth (old fact) b → b ≡ change.truth →
    TellsTruth fact change old old
tells-same fact change old b last q = record {
  others = λ g h. refl;
  earlier = λ j h. refl;
  bounded = λ h. h;
  there = λ h. last change.at h ∙ q;
}

module _ (old mid new : Lines) (fact : Fact) (line : Vec Change) (taken : (g : Fact) → get fact_eq mid g ≡
    cond (fact_eq fact g) None (get fact_eq old g)) (put : (g : Fact) → get fact_eq new g ≡
    cond (fact_eq fact g) (Some line) (get fact_eq mid g)) where
  -- the changes after a change was added to those of the fact
  pub line-noted : (change : Change) (had : List Change) → had ≡ line_in old fact → line.items ≡ had ++ change ∷ [] → (g : Fact) →
      line_in new g ≡ cond (fact_eq fact g) (line_in old g ++ change ∷ []) (line_in old g)
  line-noted change had q added g = by (fact_eq fact g) refl
    where
      by : (b : Bool) → fact_eq fact g ≡ b → line_in new g ≡ cond b (line_in old g ++ change ∷ []) (line_in old g)
      by true h =
          let same : fact ≡ g = (fact-tells fact g).0 h in
          ap changes_in (put g ∙ ap (λ (b : Bool). cond b (Some line) (get fact_eq mid g)) h)
          ∙ (added ∙ ap (λ (cs : List Change). cs ++ change ∷ []) (q ∙ ap (line_in old) same))
      by false h =
          ap changes_in (put g ∙ (ap (λ (b : Bool). cond b (Some line) (get fact_eq mid g)) h ∙
          (taken g ∙ ap (λ (b : Bool). cond b None (get fact_eq old g)) h)))

  pub line-covered : (seen : List Fact) → Among fact seen → ((g : Fact) → IsSome (get fact_eq old g) → Among g seen) → (g : Fact) →
      IsSome (get fact_eq new g) → Among g seen
  line-covered seen here others g k = by (fact_eq fact g) refl
    where
      by : (b : Bool) → fact_eq fact g ≡ b → Among g seen
      by true h = subst (λ (x : Fact). Among x seen) ((fact-tells fact g).0 h) here
      by false h =
          let same : get fact_eq new g ≡ get fact_eq old g = put g ∙ (ap (λ (b : Bool). cond b (Some line) (get fact_eq mid g)) h ∙
          (taken g ∙ ap (λ (b : Bool). cond b None (get fact_eq old g)) h)) in
          others g (subst (λ (o : Option (Vec Change)). IsSome o) same k)
