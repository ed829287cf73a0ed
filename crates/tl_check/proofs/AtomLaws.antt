-- The labels of atoms and of bounds.
use Rattle.std.proofs.Common.{◌≡◌, ◌≤◌, ◌<◌, ◌+◌, ◌-◌, ℕ, zero, suc, List, [], ◌∷◌, ◌++◌, map, drop, take, length, replicate, get_or, Bool}
use Rattle.std.proofs.Common.{true, false, Option, Some, None, IfSome, Result, Ok, Err, IfOk, refl, sym, ap, ap₂, ◌∙◌, arith, append_assoc}
use Rattle.std.proofs.Common.{append-nil, drop-cons, add-one}
use Rattle.std.specs.Prelude.{slice_get}
use Rattle.std.proofs.lemmas.List.{length-replicate, get_or-replicate}
use Rattle.std.proofs.lemmas.Option.{slice_get_read}
use Rattle.tl_check.proofs.HistoryLaws.{there-is, each-among}
use Rattle.tl_check.proofs.LabelLaws.{marks-agree_all}
use Rattle.tl_check.proofs.SpanLaws.{marks_in-by, test_from-marks}
use Rattle.tl_check.specs.Ahead.{Ahead, Course, true_ahead}
use Rattle.tl_check.specs.Facts.{IsAlong, IsOverGoal, Guides, fact_ahead, bound_ahead}
use Rattle.tl_check.specs.Histories.{IsFactHistory}
use Rattle.tl_check.specs.Lines.{truth_from, test_from}
use Rattle.tl_check.specs.Spans.{IsWithin, marks_in}
use Rattle.tl_check.specs.StatesAlong.{states_along}
use Rattle.tl_check.specs.Tracks.{line_in, fact_with}
use Rattle.tl_check.specs.declared.along.Along.{Along}
use Rattle.tl_check.specs.declared.history.History.{History}
use Rattle.tl_check.specs.declared.span.Span.{Span}
use Rattle.tl_eval.specs.Notes.{prefixed}
use Rattle.tl_syntax.specs.declared.bound.Bound.{Bound}
use Rattle.tl_syntax.specs.declared.bound.Bound.TheVariants as bound
use Rattle.tl_syntax.specs.declared.term.Term.{Term}
use Rattle.tl_syntax.specs.declared.term.Terms.{Terms}
use Rattle.tl_syntax.specs.declared.term.Term.TheVariants as term
use Rattle.tl_syntax.specs.declared.value.Value.{Value}
use Rattle.tl_syntax.specs.declared.variable.Arg.{Arg}
use Rattle.tl_syntax.specs.declared.variable.Var.{Var}
use Rattle.tl_syntax.specs.Assignment.{Assignment}
use Rattle.tl_syntax.specs.Lists.{Among}
use Rattle.tl_syntax.specs.TreeOfTerm.{tree_of_term, tree_of_terms, terms_of_list}
use Rattle.tl_syntax.specs.Trees.{TermTrees, atom}
use Rattle.tl_syntax.proofs.TermTrees.{trees-Terms, tree-Var, tree-Val}
use Rattle.tl_terms.specs.Bounds.{arg_value, arg_values, bound_true, fact_in}
use Rattle.tl_terms.specs.Definitions.{situation_of}
use Rattle.tl_terms.specs.Problem.{PlainProblem}
use Rattle.tl_terms.specs.Terms.{prepend, term_value, term_values}
use Rattle.tl_terms.specs.Truth.{state_true}
use Rattle.tl_terms.specs.World.{World, has_fact}

pub first-kept : (values : List (Option Value)) (x d : Option Value) → take 1 values ≡ x ∷ [] → get_or values 0 d ≡ x
first-kept [] x d h = absurd (let z : ⊥ = cc in z)
first-kept (v ∷ values) x d h = let q : v ≡ x = cc in q

pub if-ok : {A E : Type 0} (P Q : A → Type 0) → ((x : A) → P x → Q x) → (r : Result A E) → IfOk r P → IfOk r Q
if-ok P Q h (Ok x) k = h x k
if-ok P Q h (Err e) k = k

pub if-some : {A : Type 0} (P Q : A → Type 0) → ((x : A) → P x → Q x) → (o : Option A) → IfSome o P → IfSome o Q
if-some P Q h None k = k
if-some P Q h (Some x) k = h x k

pub variable-value : (e : Assignment) (t : Term) (v : Var) (o : Option Value) → t ≡ term.Var v → o ≡ e v.slot →
    IfSome o (λ x. (w : World) → term_value w e (tree_of_term t) ≡ Some x)
unfolding term_value
variable-value e t v None q h = tt
variable-value e t v (Some x) q h = λ w. ap (term_value w e) (ap tree_of_term q ∙ tree-Var v) ∙ sym h

pub constant-value : (e : Assignment) (t : Term) (x : Value) → t ≡ term.Val x → (w : World) → term_value w e (tree_of_term t) ≡ Some x
unfolding term_value
constant-value e t x q w = ap (term_value w e) (ap tree_of_term q ∙ tree-Val x)

-- ---- rows of values

no-front : (o : Option (List Value)) → o ≡ prefixed [] o
no-front None = refl
no-front (Some vs) = refl

one-front : (row : List Value) (v : Value) (o : Option (List Value)) → prefixed row (prepend (Some v) o) ≡ prefixed (row ++ v ∷ []) o
one-front row v None = refl
one-front row v (Some vs) = ap (λ (x : List Value). Some x) (sym (append_assoc row (v ∷ []) vs))

past : {A : Type 0} (xs : List A) (n : ℕ) → length xs ≤ n → drop n xs ≡ []
past [] zero h = refl
past [] (suc n) h = refl
past (x ∷ xs) zero h = absurd (omega arith)
past (x ∷ xs) (suc n) h = past xs n (omega arith)

pub opened : {A : Type 0} (xs : List A) (i : ℕ) (x : A) → i < length xs → x ≡ get_or xs i x → drop i xs ≡ x ∷ drop (i + 1) xs
opened xs i x h q = drop-cons xs i x h ∙ ap₂ (λ y (k : ℕ). y ∷ drop k xs) (sym q) (sym (add-one i))

module _ (e : Assignment) (args : List Arg) where
  -- the arguments so far have these values
  abbrev pub ArgsRead : ℕ → List Value → Type 0
  ArgsRead i row = arg_values e args ≡ prefixed row (arg_values e (drop i args))

  pub args-begun : (row : List Value) → row ≡ [] → ArgsRead 0 row
  args-begun row q = no-front (arg_values e args) ∙ ap (λ (r : List Value). prefixed r (arg_values e args)) (sym q)

  at-arg : (i : ℕ) (x : Arg) (row : List Value) (o : Option Value) → i < length args → x ≡ get_or args i x → o ≡ arg_value e x →
      ArgsRead i row → arg_values e args ≡ prefixed row (prepend o (arg_values e (drop (i + 1) args)))
  at-arg i x row o h q is so = so ∙ (ap (λ (xs : List Arg). prefixed row (arg_values e xs)) (opened args i x h q) ∙
      ap (λ (v : Option Value). prefixed row (prepend v (arg_values e (drop (i + 1) args)))) (sym is))

  pub args-on : (i : ℕ) (x : Arg) (row new : List Value) (o : Option Value) (v : Value) → i < length args → x ≡ get_or args i x → o ≡
      arg_value e x → o ≡ Some v → new ≡ row ++ v ∷ [] → ArgsRead i row → ArgsRead (i + 1) new
  args-on i x row new o v h q is some added so =
      at-arg i x row o h q is so
      ∙ (ap (λ (u : Option Value). prefixed row (prepend u (arg_values e (drop (i + 1) args)))) some
      ∙ (one-front row v (arg_values e (drop (i + 1) args)) ∙ ap (λ (r : List Value). prefixed r (arg_values e (drop (i + 1) args)))
      (sym added)))

  pub args-stop : (i : ℕ) (x : Arg) (row : List Value) (o : Option Value) → i < length args → x ≡ get_or args i x → o ≡ arg_value e x → o ≡
      None → ArgsRead i row → None ≡ arg_values e args
  args-stop i x row o h q is none so = sym (at-arg i x row o h q is so ∙
      ap (λ (u : Option Value). prefixed row (prepend u (arg_values e (drop (i + 1) args)))) none)

  pub args-end : (i : ℕ) (row : List Value) → length args ≤ i → ArgsRead i row → Some row ≡ arg_values e args
  args-end i row h so = ap (λ (r : List Value). Some r) (sym (append-nil row)) ∙
      sym (so ∙ ap (λ (xs : List Arg). prefixed row (arg_values e xs)) (past args i h))

module _ (e : Assignment) (terms : Terms) (items : List Term) (is_items : items ≡ terms.items.items) where
  abbrev pub TermsRead : ℕ → List Value → Type 0
  TermsRead i row = (w : World) → term_values w e (tree_of_terms terms) ≡
      prefixed row (term_values w e (terms_of_list (map tree_of_term (drop i items))))

  pub terms-begun : (row : List Value) → row ≡ [] → TermsRead 0 row
  terms-begun row q w =
      ap (term_values w e) (trees-Terms terms ∙ ap (λ (ts : List Term). terms_of_list (map tree_of_term ts)) (sym is_items))
      ∙ (no-front (term_values w e (terms_of_list (map tree_of_term items))) ∙
      ap (λ (r : List Value). prefixed r (term_values w e (terms_of_list (map tree_of_term items)))) (sym q))

  pub terms-on : (i : ℕ) (x : Term) (row new : List Value) (v : Value) → i < length items → x ≡ get_or items i x →
      ((w : World) → term_value w e (tree_of_term x) ≡ Some v) → new ≡ row ++ v ∷ [] → TermsRead i row → TermsRead (i + 1) new
  unfolding term_values
  terms-on i x row new v h q is added so w =
      let rest = term_values w e (terms_of_list (map tree_of_term (drop (i + 1) items))) in
      so w
      ∙ (ap (λ (ts : List Term). prefixed row (term_values w e (terms_of_list (map tree_of_term ts)))) (opened items i x h q)
      ∙ (ap (λ (u : Option Value). prefixed row (prepend u rest)) (is w) ∙
      (one-front row v rest ∙ ap (λ (r : List Value). prefixed r rest) (sym added))))

  pub terms-end : (i : ℕ) (row : List Value) → length items ≤ i → TermsRead i row → (w : World) → term_values w e (tree_of_terms terms) ≡
      Some row
  unfolding term_values
  terms-end i row h so w = so w ∙ (ap (λ (ts : List Term). prefixed row (term_values w e (terms_of_list (map tree_of_term ts))))
      (past items i h) ∙ ap (λ (r : List Value). Some r) (append-nil row))

-- ---- labels by histories

pub opened-at : (ws : List World) (i : ℕ) (w : World) → slice_get ws i ≡ Some w → drop i ws ≡ w ∷ drop (suc i) ws
opened-at [] i w h = absurd (let z : ⊥ = cc in z)
opened-at (v ∷ ws) zero w h = let q : v ≡ w = cc in ap (λ (u : World). u ∷ ws) q
opened-at (v ∷ ws) (suc i) w h = opened-at ws i w h

pub history-marks : (ws : List World) (h : History) (span : Span) (q : ℕ) (a : List Value) → IsWithin span (length ws) →
    IsFactHistory ws h → h.pred ≡ q → test_from (truth_from false (line_in h.lines (fact_with q a))) span.from (span.to - span.from) ≡
    marks_in (fact_ahead (q, a)) ws span
history-marks ws h span q a within so pred = test_from-marks (truth_from false (line_in h.lines (fact_with q a)))
    (fact_ahead (q, a)) ws span within (λ i l. (
    let v = there-is ws i l in
    ap (λ (k : ℕ). truth_from false (line_in h.lines (fact_with k a)) i) (sym pred)
    ∙ (so.tell a i v.0 l v.1 ∙ (ap (λ (k : ℕ). has_fact v.0 (k, a)) pred ∙ sym (ap (fact_ahead (q, a)) (opened-at ws i v.0 v.1))))
    ))

pub history-known : (along : Along) (h : History) → IsAlong along → Among h along.histories.now → IsFactHistory (states_along along) h
history-known along h is m = each-among (IsFactHistory (states_along along)) along.histories.now h is.histories m

pub marks_in-agree : (t u : Ahead) → ((s : List World) → t s ≡ u s) → (ws : List World) (span : Span) → marks_in t ws span ≡
    marks_in u ws span
marks_in-agree t u h ws span = ap (take (span.to - span.from)) (marks-agree_all t u h (drop span.from ws))

module _ (p : Course) (e : Assignment) (ws : List World) (span : Span) where
  pub atom-marks : (q : ℕ) (ts : TermTrees) (row : List Value) → ((w : World) → term_values w e ts ≡ Some row) →
      marks_in (fact_ahead (q, row)) ws span ≡ marks_in (true_ahead p e (atom q ts)) ws span
  unfolding true_ahead state_true situation_of
  atom-marks q ts row h = marks_in-agree (fact_ahead (q, row)) (true_ahead p e (atom q ts)) agree ws span
    where
      agree : (s : List World) → fact_ahead (q, row) s ≡ true_ahead p e (atom q ts) s
      agree [] = refl
      agree (w ∷ vs) = ap (fact_in w q) (sym (h w))

  pub fact_bound-marks : (q : ℕ) (xs : List Arg) (row : List Value) → Some row ≡ arg_values e xs → marks_in (fact_ahead (q, row)) ws span ≡
      marks_in (bound_ahead p.problem e (bound.Fact q xs)) ws span
  unfolding bound_true situation_of
  fact_bound-marks q xs row h = marks_in-agree (fact_ahead (q, row)) (bound_ahead p.problem e (bound.Fact q xs)) agree ws span
    where
      agree : (s : List World) → fact_ahead (q, row) s ≡ bound_ahead p.problem e (bound.Fact q xs) s
      agree [] = refl
      agree (w ∷ vs) = ap (fact_in w q) h

-- the same label everywhere
pub same-marks : (ws : List World) (span : Span) (t : Ahead) (b : Bool) → IsWithin span (length ws) →
    ((w : World) (vs : List World) → t (w ∷ vs) ≡ b) → replicate (span.to - span.from) b ≡ marks_in t ws span
same-marks ws span t b within h = marks_in-by t ws span within (replicate (span.to - span.from) b)
    (length-replicate (span.to - span.from) b) (λ k l. (
    let order = within.order in
    let room = within.within in
    let v = there-is ws (span.from + k) (omega arith) in
    get_or-replicate (span.to - span.from) k b false l ∙ sym (ap t (opened-at ws (span.from + k) v.0 v.1) ∙
    h v.0 (drop (suc (span.from + k)) ws))
    ))

-- what the goal list says is the same in every world
goal-same : (p : PlainProblem) (e : Assignment) (b : Bound) (w v : World) → IsOverGoal b → bound_true (situation_of p w) e b ≡
    bound_true (situation_of p v) e b
unfolding bound_true situation_of
goal-same p e (bound.Fact q xs) w v g = absurd g
goal-same p e (bound.Place f xs x) w v g = absurd g
goal-same p e (bound.GoalFact q xs) w v g = refl
goal-same p e (bound.GoalPlace f xs x) w v g = refl
goal-same p e (bound.GoalNot q xs) w v g = refl

pub goal-marks : (p : PlainProblem) (e : Assignment) (b : Bound) (ws : List World) (span : Span) (w : World) (truth : Bool) → IsOverGoal b →
    IsWithin span (length ws) → truth ≡ bound_true (situation_of p w) e b → replicate (span.to - span.from) truth ≡
    marks_in (bound_ahead p e b) ws span
goal-marks p e b ws span w truth g within q = same-marks ws span (bound_ahead p e b) truth within (λ v vs. goal-same p e b v w g ∙ sym q)

pub goal-guides : (p : PlainProblem) (ws : List World) (b : Bound) (w : World) → IsOverGoal b → Guides p ws b w
goal-guides p ws b w g = λ e v m h. goal-same p e b w v g ∙ h

pub fact-guides : (p : PlainProblem) (ws : List World) (q : ℕ) (xs : List Arg) (h : History) → IsFactHistory ws h → h.pred ≡ q →
    Guides p ws (bound.Fact q xs) h.ever
unfolding bound_true situation_of
fact-guides p ws q xs h so pred = λ e w m t. by (arg_values e xs) w m t
  where
    by : (o : Option (List Value)) (w : World) → Among w ws → fact_in w q o ≡ true → fact_in h.ever q o ≡ true
    by None w m t = t
    by (Some a) w m t = ap (λ (k : ℕ). has_fact h.ever (k, a)) (sym pred) ∙ so.ever a w m (ap (λ (k : ℕ). has_fact w (k, a)) pred ∙ t)

-- ---- labels that are added one after another

pub labels-end : (t : ℕ → Bool) (whole labels : List Bool) (i to : ℕ) → to ≤ i → labels ++ test_from t i (to - i) ≡ whole → labels ≡ whole
labels-end t whole labels i to h so = sym (append-nil labels) ∙ (ap (λ (n : ℕ). labels ++ test_from t i n)
    (let none : 0 ≡ to - i = omega arith in none) ∙ so)

-- the first world from a position on
pub world-here : (ws : List World) (i : ℕ) (w : World) → i < length ws → w ≡ get_or ws i w → drop i ws ≡ w ∷ drop (suc i) ws
world-here ws i w h q = opened-at ws i w (slice_get_read ws (length ws) i w refl h q)
