-- The labels of a quantifier by its instances.
use Rattle.std.proofs.Common.{◌≡◌, ◌<◌, ◌≤◌, ◌+◌, ◌-◌, ◌&&◌, ◌||◌, ℕ, zero, suc, List, [], ◌∷◌, drop, length, replicate, get_or, cond, Bool}
use Rattle.std.proofs.Common.{true, false, true≢false, not, Some, Ok, Err, refl, sym, ap, ◌∙◌, subst, inl, inr, arith}
use Rattle.std.specs.Prelude.{slice_get}
use Rattle.std.proofs.lemmas.List.{length-replicate, get_or-replicate}
use Rattle.tl_check.proofs.AtomLaws.{opened, opened-at}
use Rattle.tl_check.proofs.JoinLaws.{joins-idle, joins-idle_right, joins-assoc, quantified-joined}
use Rattle.tl_check.proofs.HistoryLaws.{there-is, each-among}
use Rattle.tl_check.proofs.LookedLaws.{comes-later, instance-looked}
use Rattle.tl_check.proofs.SpanLaws.{marks_in-at, marks_in-by, marks_in-length, where-not, where-there}
use Rattle.tl_check.specs.Ahead.{Course, true_ahead}
use Rattle.tl_check.specs.Quantifiers.{Quantifier, joined_truths}
use Rattle.tl_check.specs.Facts.{bound_ahead}
use Rattle.tl_check.specs.Gathered.{IsTuple}
use Rattle.tl_check.specs.Instances.{instance_ahead, JoinsInstance}
use Rattle.tl_check.specs.Labelled.{AreLabels}
use Rattle.tl_check.specs.Passes.{joins}
use Rattle.tl_check.specs.Tracks.{fact_with}
use Rattle.tl_check.specs.Tuples.{HaveTuples}
use Rattle.tl_check.specs.Spans.{IsWithin, IsHull, marks_in, joined_where}
use Rattle.tl_action.specs.declared.check_fault.CheckFault.{CheckFault}
use Rattle.tl_action.specs.declared.check_fault.CheckFault.TheVariants as fault
use Rattle.tl_check.specs.declared.span.Span.{Span}
use Rattle.tl_eval.specs.Notes.{operation_of}
use Rattle.tl_syntax.proofs.ListLaws.{one_in}
use Rattle.tl_syntax.specs.declared.bound.Bound.{Bound}
use Rattle.tl_syntax.specs.declared.fact.Fact.{Fact}
use Rattle.tl_syntax.specs.declared.junction.Junction.{Junction}
use Rattle.tl_syntax.specs.declared.junction.Junction.TheVariants.{All, Any}
use Rattle.tl_syntax.specs.declared.value.Value.{Value}
use Rattle.tl_syntax.specs.Assignment.{Assignment, bind}
use Rattle.tl_syntax.specs.BoundVariables.{DifferInSlot, OccurIn}
use Rattle.tl_syntax.specs.Junctions.{deciding_truth, quantified}
use Rattle.tl_syntax.specs.Lists.{Among, AtLeastOne}
use Rattle.tl_terms.proofs.Tuples.{all-tuples}
use Rattle.tl_terms.specs.Bounds.{bound_true, tuples}
use Rattle.tl_terms.specs.Definitions.{situation_of}
use Rattle.tl_terms.specs.Problem.{PlainProblem}
use Rattle.tl_terms.specs.World.{World}

-- ---- truths together

pub same-by : (d a b : Bool) → (a ≡ d → b ≡ d) → (b ≡ d → a ≡ d) → a ≡ b
same-by true true b h k = sym (h refl)
same-by true false true h k = k refl
same-by true false false h k = refl
same-by false false b h k = sym (h refl)
same-by false true false h k = k refl
same-by false true true h k = refl

pub some-decides : {A : Type 0} (j : Junction) (truth : A → Bool) (xs : List A) → joined_truths j truth xs ≡ deciding_truth j →
    AtLeastOne (λ x. truth x ≡ deciding_truth j) xs
some-decides Any truth [] h = absurd (true≢false (sym h))
some-decides All truth [] h = absurd (true≢false h)
some-decides Any truth (x ∷ xs) h = (elim (truth x) as (λ b. truth x ≡ b → AtLeastOne (λ y. truth y ≡ true) (x ∷ xs)) [
  | true ↦ λ q. inl q
  | false ↦ λ q. inr (some-decides Any truth xs (ap (λ (c : Bool). c || joined_truths Any truth xs) (sym q) ∙ h))
]) refl
some-decides All truth (x ∷ xs) h = (elim (truth x) as (λ b. truth x ≡ b → AtLeastOne (λ y. truth y ≡ false) (x ∷ xs)) [
  | false ↦ λ q. inl q
  | true ↦ λ q. inr (some-decides All truth xs (ap (λ (c : Bool). c && joined_truths All truth xs) (sym q) ∙ h))
]) refl

pub decided-by_some : {A : Type 0} (j : Junction) (truth : A → Bool) (xs : List A) → AtLeastOne (λ x. truth x ≡ deciding_truth j) xs →
    joined_truths j truth xs ≡ deciding_truth j
decided-by_some j truth [] h = absurd h
decided-by_some Any truth (x ∷ xs) h = elim h [
  | inl q ↦ ap (λ (b : Bool). b || joined_truths Any truth xs) q
  | inr k ↦ later (truth x) (decided-by_some Any truth xs k)
]
  where
    later : (a : Bool) {b : Bool} → b ≡ true → (a || b) ≡ true
    later true h = refl
    later false h = h
decided-by_some All truth (x ∷ xs) h = elim h [
  | inl q ↦ ap (λ (b : Bool). b && joined_truths All truth xs) q
  | inr k ↦ later (truth x) (decided-by_some All truth xs k)
]
  where
    later : (a : Bool) {b : Bool} → b ≡ false → (a && b) ≡ false
    later true h = h
    later false h = refl

pub one-out : {A : Type 0} (P : A → Type 0) (xs : List A) → AtLeastOne P xs → (x : A) × Among x xs × P x
one-out P [] h = absurd h
one-out P (x ∷ xs) h = elim h [
  | inl k ↦ (x, inl refl, k)
  | inr k ↦ (let found = one-out P xs k in (found.0, inr found.1, found.2))
]

pub open-is_not : (j : Junction) → not (deciding_truth j) ≡ deciding_truth j → ⊥
open-is_not Any h = true≢false (sym h)
open-is_not All h = true≢false h

-- ---- an instance at one position

module _ (p : Course) (q : Quantifier) (e : Assignment) where
  pub instance-in : (w : World) (vs : List World) (b : Bool) → bound_true (situation_of p.problem w) e q.bound ≡ b →
      instance_ahead p q e (w ∷ vs) ≡ cond b (true_ahead p e q.part (w ∷ vs)) (not (deciding_truth q.junction))
  instance-in w vs b h = ap (λ (x : Bool). cond x (true_ahead p e q.part (w ∷ vs)) (not (deciding_truth q.junction))) h

-- the world in which a bound is true at a position
pub bound-world : (p : PlainProblem) (e : Assignment) (b : Bound) (ws : List World) (j : ℕ) → bound_ahead p e b (drop j ws) ≡ true →
    (w : World) × (slice_get ws j ≡ Some w) × (bound_true (situation_of p w) e b ≡ true)
bound-world p e b [] zero h = absurd (true≢false (sym h))
bound-world p e b [] (suc j) h = absurd (true≢false (sym h))
bound-world p e b (w ∷ ws) zero h = (w, refl, h)
bound-world p e b (w ∷ ws) (suc j) h = bound-world p e b ws j h

-- ---- the labels of a quantifier by its tuples

-- the labels so far and the instances that are left are together those of the formula
pub record Joining (p : Course) (ws : List World) (e : Assignment) (q : Quantifier) (span : Span) (bs : List Bool)
    (left : List Fact) : Type 0 where
  pub size : length bs ≡ span.to - span.from
  pub so_far : (k : ℕ) → k < span.to - span.from → true_ahead p e (quantified q.junction q.vars q.bound q.part) (drop (span.from + k) ws)
      ≡ joins q.junction (get_or bs k false) (joined_truths q.junction
      (λ f. instance_ahead p q (bind q.vars f.args e) (drop (span.from + k) ws)) left)

module _ (p : Course) (ws : List World) (e : Assignment) (q : Quantifier) (d : DifferInSlot q.vars) (o : OccurIn q.vars q.bound)
    (span : Span) (within : IsWithin span (length ws)) (fs : List Fact) (have : HaveTuples p.problem ws e q.vars q.bound span fs) where
  abbrev truth : List World → Fact → Bool
  truth s f = instance_ahead p q (bind q.vars f.args e) s

  -- the instances in a world are among those of the tuples that are there
  whole : (k : ℕ) (w : World) (vs : List World) → span.from ≤ k → k < span.to → slice_get ws k ≡ Some w →
      true_ahead p e (quantified q.junction q.vars q.bound q.part) (w ∷ vs) ≡ joined_truths q.junction (truth (w ∷ vs)) fs
  whole k w vs low high at =
      let here = tuples (situation_of p.problem w) e q.vars q.bound in
      let plain : List Value → Bool = λ t. true_ahead p (bind q.vars t e) q.part (w ∷ vs) in
      quantified-joined p e q.junction q.vars q.bound q.part w vs
      ∙ same-by (deciding_truth q.junction) (joined_truths q.junction plain here) (joined_truths q.junction (truth (w ∷ vs)) fs)
      (λ h. (
      let found = one-out (λ t. plain t ≡ deciding_truth q.junction) here (some-decides q.junction plain here h) in
      let t = found.0 in
      let known = (all-tuples (situation_of p.problem w) e q.vars q.bound d o t).0 found.1 in
      let there = have.covered t k w low high at found.1 in
      decided-by_some q.junction (truth (w ∷ vs)) fs (one_in (λ f. truth (w ∷ vs) f ≡ deciding_truth q.junction) (fact_with 0 t) fs there
      (instance-in p q (bind q.vars t e) w vs true known.1 ∙ found.2))
      ))
      (λ h. (
      let found = one-out (λ f. truth (w ∷ vs) f ≡ deciding_truth q.junction) fs (some-decides q.junction (truth (w ∷ vs)) fs h) in
      let f = found.0 in
      let known = each-among (IsTuple (length q.vars)) fs f have.counts found.1 in
      let is = by f.args (bound_true (situation_of p.problem w) (bind q.vars f.args e) q.bound) refl found.2 in
      let there = (all-tuples (situation_of p.problem w) e q.vars q.bound d o f.args).1 (known.1, is.0) in
      decided-by_some q.junction plain here (one_in (λ u. plain u ≡ deciding_truth q.junction) f.args here there is.1)
      ))
    where
      by : (t : List Value) (b : Bool) → bound_true (situation_of p.problem w) (bind q.vars t e) q.bound ≡ b →
          instance_ahead p q (bind q.vars t e) (w ∷ vs) ≡ deciding_truth q.junction →
          (bound_true (situation_of p.problem w) (bind q.vars t e) q.bound ≡ true) ×
          (true_ahead p (bind q.vars t e) q.part (w ∷ vs) ≡ deciding_truth q.junction)
      by t true h k = (h, sym (instance-in p q (bind q.vars t e) w vs true h) ∙ k)
      by t false h k = absurd (open-is_not q.junction (sym (instance-in p q (bind q.vars t e) w vs false h) ∙ k))

  abbrev So : List Bool → List Fact → Type 0
  So bs left = Joining p ws e q span bs left

  begun : (bs : List Bool) → bs ≡ replicate (span.to - span.from) (not (deciding_truth q.junction)) → So bs fs
  begun bs is = record {
    size = ap length is ∙ length-replicate (span.to - span.from) (not (deciding_truth q.junction));
    so_far = λ k h. (
        let order = within.order in
        let room = within.within in
        let i : span.from + k < length ws = omega arith in
        let v = there-is ws (span.from + k) i in
        let s : drop (span.from + k) ws ≡ v.0 ∷ drop (suc (span.from + k)) ws = opened-at ws (span.from + k) v.0 v.1 in
        ap (true_ahead p e (quantified q.junction q.vars q.bound q.part)) s
        ∙ (whole (span.from + k) v.0 (drop (suc (span.from + k)) ws) (omega arith) (omega arith) v.1
        ∙ (ap (λ (x : List World). joined_truths q.junction (truth x) fs) (sym s)
        ∙ (sym (joins-idle q.junction (joined_truths q.junction (truth (drop (span.from + k) ws)) fs))
        ∙ ap (λ (b : Bool). joins q.junction b (joined_truths q.junction (truth (drop (span.from + k) ws)) fs))
        (sym (ap (λ (cs : List Bool). get_or cs k false) is ∙ get_or-replicate (span.to - span.from) k
        (not (deciding_truth q.junction)) false h)))))
        );
  }

  pub joining-begun : (bs : List Bool) (items : List Fact) → items ≡ fs → bs ≡
      replicate (span.to - span.from) (not (deciding_truth q.junction)) → So bs (drop 0 items)
  joining-begun bs items same is = subst (So bs) (sym same) (begun bs is)

  -- the instance of the next tuple
  module _ (bs : List Bool) (items : List Fact) (i : ℕ) (f : Fact) (so : So bs (drop i items)) (room : i < length items)
      (here : f ≡ get_or items i f) where
    pub joining-on : (new : List Bool) (u : Unit {0}) → JoinsInstance p ws span (bind q.vars f.args e) q bs new (Ok u) →
        So new (drop (i + 1) items)
    joining-on new u h = record {
      size = h.0 ∙ so.size;
      so_far = λ k l. (
          let s = drop (span.from + k) ws in
          let rest = joined_truths q.junction (truth s) (drop (i + 1) items) in
          so.so_far k l
          ∙ (ap (λ (fs : List Fact). joins q.junction (get_or bs k false) (joined_truths q.junction (truth s) fs))
          (opened items i f room here)
          ∙ (joins-assoc q.junction (get_or bs k false) (truth s f) rest ∙
          ap (λ (b : Bool). joins q.junction b rest) (sym (h.1 k (let size = so.size in omega arith)))))
          );
    }

  -- a note of an instance
  pub joining-noted : (f : Fact) → length f.args ≡ length q.vars → (bs new : List Bool) (x : CheckFault) →
      JoinsInstance p ws span (bind q.vars f.args e) q bs new (Err x) →
      AreLabels p ws span e (quantified q.junction q.vars q.bound q.part) (Err x)
  joining-noted f size bs new fault.NoMemory h = tt
  joining-noted f size bs new (fault.Range k n) h =
      let there = bound-world p.problem (bind q.vars f.args e) q.bound ws h.0 h.3 in
      let among = (all-tuples (situation_of p.problem there.0) e q.vars q.bound d o f.args).1 (size, there.2) in (
        comes-later p ws span.from h.0 k h.1 h.2,
        (
          instance-looked p ws
              (operation_of n) e q.junction q.vars q.bound q.part f.args h.0 k there.0 there.1 h.2 among h.4.0,
          h.4.1,
        ),
      )

  pub joining-end : (bs : List Bool) (items : List Fact) (i : ℕ) → length items ≤ i → So bs (drop i items) → bs ≡
      marks_in (true_ahead p e (quantified q.junction q.vars q.bound q.part)) ws span
  joining-end bs items i h so = marks_in-by (true_ahead p e (quantified q.junction q.vars q.bound q.part)) ws span within bs so.size
      (λ k l. (
      let s = drop (span.from + k) ws in
      sym (so.so_far k l ∙ (ap (λ (fs : List Fact). joins q.junction (get_or bs k false) (joined_truths q.junction (truth s) fs))
      (past items i h) ∙ joins-idle_right q.junction (get_or bs k false)))
      ))
    where
      past : (xs : List Fact) (n : ℕ) → length xs ≤ n → drop n xs ≡ []
      past [] zero h = refl
      past [] (suc n) h = refl
      past (x ∷ xs) zero h = absurd (omega arith)
      past (x ∷ xs) (suc n) h = past xs n (omega arith)

-- ---- the labels of one instance

module _ (p : Course) (ws : List World) (span : Span) (e : Assignment) (q : Quantifier) (within : IsWithin span (length ws))
    (there : List Bool) (told : there ≡ marks_in (bound_ahead p.problem e q.bound) ws span) where
  bound-at : (k : ℕ) → k < span.to - span.from → get_or there k false ≡ bound_ahead p.problem e q.bound (drop (span.from + k) ws)
  bound-at k h = ap (λ (bs : List Bool). get_or bs k false) told ∙ marks_in-at (bound_ahead p.problem e q.bound) ws span within k false h

  no-instance : (k : ℕ) (b : Bool) → k < span.to - span.from → get_or there k false ≡ false →
      joins q.junction b (instance_ahead p q e (drop (span.from + k) ws)) ≡ b
  no-instance k b h f =
      ap (λ (x : Bool). joins q.junction b (cond x (true_ahead p e q.part (drop (span.from + k) ws)) (not (deciding_truth q.junction))))
      (sym (bound-at k h) ∙ f)
      ∙ joins-idle_right q.junction b

  pub instance-nowhere : (old : List Bool) (u : Unit {0}) → length old ≡ span.to - span.from → ((k : ℕ) → get_or there k false ≡ false) →
      JoinsInstance p ws span e q old old (Ok u)
  instance-nowhere old u size none = (refl, λ k h. sym (no-instance k (get_or old k false) (omega (arith, size)) (none k)))

  module _ (hull : Span) (is : IsHull there span hull) where
    pub hull-within : IsWithin hull (length ws)
    hull-within = record { order = (let a = is.order in omega arith); within = (let a = is.to in let b = within.within in omega arith) }

    pub instance-joined : (old new found : List Bool) (u : Unit {0}) → length old ≡ span.to - span.from → found ≡
        marks_in (true_ahead p e q.part) ws hull → length new ≡ length old
        → ((k : ℕ) → k < length old → get_or new k false ≡ joined_where q.junction there found (hull.from - span.from) k
        (get_or old k false)) → JoinsInstance p ws span e q old new (Ok u)
    instance-joined old new found u size labels same joined = (same, λ k h. joined k h ∙ by k h (get_or there k false) refl)
      where
        count : length found ≡ hull.to - hull.from
        count = ap length labels ∙ marks_in-length (true_ahead p e q.part) ws hull hull-within

        by : (k : ℕ) → k < length old → (b : Bool) → get_or there k false ≡ b →
            joined_where q.junction there found (hull.from - span.from) k (get_or old k false) ≡
            joins q.junction (get_or old k false) (instance_ahead p q e (drop (span.from + k) ws))
        by k h false f = where-not q.junction there found (hull.from - span.from) k (get_or old k false) f ∙
            sym (no-instance k (get_or old k false) (omega (arith, size)) f)
        by k h true f =
            let inside = is.all k f in
            let low = inside.0 in
            let high = inside.1 in
            let from = is.from in
            let l : k < span.to - span.from = omega (arith, size) in
            let place : hull.from + (k - (hull.from - span.from)) ≡ span.from + k = omega arith in
            where-there q.junction there found (hull.from - span.from) k (get_or old k false) (omega arith) (omega (arith, count)) f
            ∙ ap (joins q.junction (get_or old k false))
            (ap (λ (bs : List Bool). get_or bs (k - (hull.from - span.from)) false) labels
            ∙ (marks_in-at (true_ahead p e q.part) ws hull hull-within (k - (hull.from - span.from)) false (omega arith)
            ∙ (ap (λ (i : ℕ). true_ahead p e q.part (drop i ws)) place
            ∙ sym (ap (λ (x : Bool). cond x (true_ahead p e q.part (drop (span.from + k) ws)) (not (deciding_truth q.junction)))
            (sym (bound-at k l) ∙ f)))))

    pub instance-noted : (old new : List Bool) (x : CheckFault) → AreLabels p ws hull e q.part (Err x) →
        JoinsInstance p ws span e q old new (Err x)
    instance-noted old new fault.NoMemory h = tt
    instance-noted old new (fault.Range k n) h =
        let order = is.order in
        let from = is.from in
        let to = is.to in
        let place : span.from + (hull.from - span.from) ≡ hull.from = omega arith in (
          hull.from,
          is.from,
          h.0,
          ap (λ (i : ℕ). bound_ahead p.problem e q.bound (drop i ws)) (sym place) ∙
              (sym (bound-at (hull.from - span.from) (omega arith)) ∙ is.first),
          h.1,
        )
