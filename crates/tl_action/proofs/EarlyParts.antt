-- Parts of a precondition that are tested before all parameters have values.
use Rattle.std.proofs.Common.{◌≡◌, ◌<◌, ℕ, zero, suc, List, [], ◌∷◌, ◌++◌, map, drop, take, length, get_or, Bool, true, false, true≢false}
use Rattle.std.proofs.Common.{◌==◌, Box, Global, Bor, Option, Some, None, IfSome, ◌&&◌, ◌||◌, ◌+◌, ◌≤◌, not, refl, sym, ap, ◌∙◌}
use Rattle.std.proofs.Common.{subst, arith, eqb-true}
use Rattle.std.specs.List.{list_all, list_any}
use Rattle.tl_action.specs.declared.arranged.Arranged.{Arranged}
use Rattle.tl_action.specs.Agreement.{Agree}
use Rattle.tl_action.specs.Early.{is_known_as, is_known_slot, is_known_term, AreKnown, IsConjunct, IsAmongParts}
use Rattle.tl_action.specs.Join.{arranged, stands_in_one, AgreeOnSeen, row_assignment, IsFound}
use Rattle.tl_action.proofs.Agreement.{state-agrees}
use Rattle.tl_action.proofs.Walks.{drop-opened, drop-past}
use Rattle.tl_syntax.specs.declared.bound.Bound.{Bound}
use Rattle.tl_syntax.specs.declared.formula.Formula.{Formula}
use Rattle.tl_syntax.specs.declared.formula.Formula.TheVariants as variant
use Rattle.tl_syntax.specs.declared.formula.Formulas.{Formulas}
use Rattle.tl_syntax.specs.declared.term.Term.{Term}
use Rattle.tl_syntax.specs.declared.term.Terms.{Terms}
use Rattle.tl_syntax.specs.declared.value.Value.{Value}
use Rattle.tl_syntax.specs.declared.value.Cmp.{Cmp}
use Rattle.tl_syntax.specs.declared.variable.Var.{Var}
use Rattle.tl_syntax.specs.Assignment.{Assignment}
use Rattle.tl_syntax.specs.FreeVariables.{term_slots, terms_slots, free_slots}
use Rattle.tl_syntax.specs.Lists.{Each}
use Rattle.tl_syntax.specs.TreeOfFormula.{tree_of_formula, tree_of_formulas}
use Rattle.tl_syntax.specs.TreeOfTerm.{tree_of_term, tree_of_terms, terms_of_list}
use Rattle.tl_syntax.specs.Trees.{TermTree, variable, value, place, arith as operation, formulas_of_list}
use Rattle.tl_syntax.proofs.FormulaTrees.{tree-Atom, tree-Compare, tree-Not, tree-And, trees-Formulas}
use Rattle.tl_syntax.proofs.ListLaws.{Each-append}
use Rattle.tl_syntax.proofs.TermTrees.{trees-Terms}
use Rattle.tl_terms.specs.Bounds.{fact_in}
use Rattle.tl_terms.specs.Definitions.{situation_of}
use Rattle.tl_terms.specs.Looked.{looks_of}
use Rattle.tl_terms.specs.Problem.{PlainProblem}
use Rattle.tl_terms.specs.ProblemMeaning.{plain_operator}
use Rattle.tl_terms.specs.Situation.{Situation}
use Rattle.tl_terms.specs.Terms.{term_values}
use Rattle.tl_terms.specs.Truth.{state_true, all_true}
use Rattle.tl_terms.specs.World.{World, has_fact}

-- ---- one of a list

module _ {A : Type 0} (test : A → Bool) (xs : List A) (i : ℕ) (b : Bool) where
  pub any-stop : (x : A) → i < length xs → x ≡ get_or xs i x → b ≡ list_any test (drop i xs) → test x ≡ true → true ≡ b
  any-stop x k n h z = sym (h ∙ ap (list_any test) (drop-opened xs i x k n) ∙ ap (λ (c : Bool). c || list_any test (drop (i + 1) xs)) z)

  pub any-on : (x : A) → i < length xs → x ≡ get_or xs i x → b ≡ list_any test (drop i xs) → test x ≡ false → b ≡
      list_any test (drop (i + 1) xs)
  any-on x k n h z = h ∙ ap (list_any test) (drop-opened xs i x k n) ∙ ap (λ (c : Bool). c || list_any test (drop (i + 1) xs)) z

  pub any-end : length xs ≤ i → b ≡ list_any test (drop i xs) → false ≡ b
  any-end k h = sym (h ∙ ap (list_any test) (drop-past xs i k))

-- ---- known slots

pub known-both : (a : Arranged) (j : ℕ) (xs ys : List ℕ) → AreKnown a j xs → AreKnown a j ys → AreKnown a j (xs ++ ys)
known-both a j [] ys h k = k
known-both a j (x ∷ xs) ys h k = (h.0, known-both a j xs ys h.1 k)

pub known-term : (a : Arranged) (j : ℕ) (t : TermTree) → is_known_term a j t ≡ true → AreKnown a j (term_slots t)
unfolding term_slots
known-term a j (variable s) h = (h, tt)
known-term a j (value v) h = tt
known-term a j (place f ts) h = absurd (true≢false (sym h))
known-term a j (operation op s t at) h = absurd (true≢false (sym h))

both-true : (a b : Bool) → (a && b) ≡ true → (a ≡ true) × (b ≡ true)
both-true true b h = (refl, h)
both-true false b h = absurd (true≢false (sym h))

known-list : (a : Arranged) (j : ℕ) (items : List Term) → list_all (λ t. is_known_term a j (tree_of_term t)) items ≡ true →
    AreKnown a j (terms_slots (terms_of_list (map tree_of_term items)))
unfolding terms_slots
known-list a j [] h = tt
known-list a j (t ∷ items) h =
    let k = both-true (is_known_term a j (tree_of_term t)) (list_all (λ u. is_known_term a j (tree_of_term u)) items) h in
    known-both a j (term_slots (tree_of_term t)) (terms_slots (terms_of_list (map tree_of_term items)))
    (known-term a j (tree_of_term t) k.0) (known-list a j items k.1)

pub known-terms : (a : Arranged) (j : ℕ) (ts : Terms) (items : List Term) → items ≡ ts.items.items →
    list_all (λ t. is_known_term a j (tree_of_term t)) items ≡ true → AreKnown a j (terms_slots (tree_of_terms ts))
known-terms a j ts items q h = subst (λ us. AreKnown a j (terms_slots us))
    (ap (λ (us : List Term). terms_of_list (map tree_of_term us)) q ∙ sym (trees-Terms ts)) (known-list a j items h)

-- ---- formulas of known terms

module _ (a : Arranged) (j : ℕ) (f : Formula) where
  pub known-Atom : (p : ℕ) (ts : Terms) → f ≡ variant.Atom p ts → AreKnown a j (terms_slots (tree_of_terms ts)) →
      AreKnown a j (free_slots (tree_of_formula f))
  unfolding free_slots
  known-Atom p ts q h = subst (λ g. AreKnown a j (free_slots g)) (sym (ap tree_of_formula q ∙ tree-Atom p ts)) h

  pub known-Compare : (c : Cmp) (s t : Term) → f ≡ variant.Compare c s t →
      (is_known_term a j (tree_of_term s) && is_known_term a j (tree_of_term t)) ≡ true → AreKnown a j (free_slots (tree_of_formula f))
  unfolding free_slots
  known-Compare c s t q h =
      let k = both-true (is_known_term a j (tree_of_term s)) (is_known_term a j (tree_of_term t)) h in
      subst (λ g. AreKnown a j (free_slots g)) (sym (ap tree_of_formula q ∙ tree-Compare c s t))
      (known-both a j (term_slots (tree_of_term s)) (term_slots (tree_of_term t)) (known-term a j (tree_of_term s) k.0)
      (known-term a j (tree_of_term t) k.1))

  pub known-Not : (g : Box Formula Global) (part : Formula) → f ≡ variant.Not g → part ≡ g.value →
      AreKnown a j (free_slots (tree_of_formula part)) → AreKnown a j (free_slots (tree_of_formula f))
  unfolding free_slots
  known-Not g part q z h = subst (λ x. AreKnown a j (free_slots x)) (sym (ap tree_of_formula q ∙ tree-Not g))
      (subst (λ x. AreKnown a j (free_slots (tree_of_formula x))) z h)

-- ---- their truth

pub truth-alone : (r : PlainProblem) (w : World) (e : Assignment) (f : Formula) (p : ℕ) (ts : Terms) (items : List Term) →
    f ≡ variant.Atom p ts → items ≡ ts.items.items → (length items == 0) ≡ true → has_fact w (p, []) ≡
    state_true (situation_of r w) e (tree_of_formula f)
unfolding state_true term_values situation_of
truth-alone r w e f p ts [] q z h = sym (ap (state_true (situation_of r w) e) (ap tree_of_formula q ∙ tree-Atom p ts) ∙
    ap (λ us. fact_in w p (term_values w e us)) (trees-Terms ts ∙
    ap (λ (us : List Term). terms_of_list (map tree_of_term us)) (sym z)))
truth-alone r w e f p ts (t ∷ items) q z h = absurd (omega (arith, eqb-true (suc (length items)) 0 h))

pub false-Not : (s : Situation) (e : Assignment) (f : Formula) (g : Box Formula Global) (part : Formula) → f ≡ variant.Not g →
    part ≡ g.value → true ≡ state_true s e (tree_of_formula part) → false ≡ state_true s e (tree_of_formula f)
unfolding state_true
false-Not s e f g part q z h = ap (λ (b : Bool). not b) (h ∙ ap (λ x. state_true s e (tree_of_formula x)) z) ∙
    sym (ap (state_true s e) (ap tree_of_formula q ∙ tree-Not g))

pub not-found : (b c : Bool) → b ≡ c → not b ≡ true → false ≡ c
not-found true c q h = absurd (true≢false (sym h))
not-found false c q h = q

-- ---- frames that agree on them

slot-agrees : (seen : List Bound) (ss : List Var) (q : ℕ) (d e : Assignment) → AgreeOnSeen seen ss d e →
    list_any (λ s. (s.slot == q) && stands_in_one seen s) ss ≡ true → d q ≡ e q
slot-agrees seen [] q d e k h = absurd (true≢false (sym h))
slot-agrees seen (s ∷ ss) q d e k h =
    let others = list_any (λ (u : Var). (u.slot == q) && stands_in_one seen u) ss in
    (elim (s.slot == q) as (λ b. (s.slot == q) ≡ b → ((b && stands_in_one seen s) || others) ≡ true → d q ≡ e q) [
      | true ↦ λ z m. (elim (stands_in_one seen s) as (λ c. stands_in_one seen s ≡ c → (c || others) ≡ true → d q ≡ e q) [
        | true ↦ λ y l. subst (λ (n : ℕ). d n ≡ e n) (eqb-true s.slot q z) (k.0 y)
        | false ↦ λ y l. slot-agrees seen ss q d e k.1 l
      ]) refl m
      | false ↦ λ z m. slot-agrees seen ss q d e k.1 m
    ]) refl h

slots-agree : (a : Arranged) (j : ℕ) (qs : List ℕ) (d e : Assignment) →
    AgreeOnSeen (take j (arranged a).bounds) a.operator.now.params d e → AreKnown a j qs → Agree qs d e
slots-agree a j [] d e k h = tt
slots-agree a j (q ∷ qs) d e k h = (
  slot-agrees (take j (arranged a).bounds) a.operator.now.params q d e k h.0,
  slots-agree a j qs d e k h.1,
)

-- a part that is false of the frame is false of each row that completes it
pub ruled-out : (p : PlainProblem) (w : World) (a : Arranged) (j : ℕ) (e : Assignment) (part : Formula) →
    IsConjunct a.operator.now.pre part → AreKnown a j (free_slots (tree_of_formula part)) →
    state_true (situation_of p w) e (tree_of_formula part) ≡ false → (t : List Value) →
    ¬ IsFound p w (plain_operator (arranged a)) (take j (arranged a).bounds) (drop j (arranged a).bounds) e t
ruled-out p w a j e part c k x t h =
    let row = row_assignment (plain_operator (arranged a)) t in
    let alike = state-agrees (looks_of p w) (situation_of p w) row e (tree_of_formula part)
    (slots-agree a j (free_slots (tree_of_formula part)) row e h.completes.agrees k) in
    let pre : state_true (situation_of p w) row (tree_of_formula a.operator.now.pre) ≡ false =
    c (situation_of p w) row (alike.truth ∙ x) in
    true≢false (sym (both-true (state_true (situation_of p w) row (tree_of_formula a.operator.now.pre)) _ h.prepared).0 ∙ pre)

-- ---- parts

one-false : (s : Situation) (e : Assignment) (items : List Formula) (i : ℕ) (f : Formula) → i < length items → f ≡ get_or items i f →
    state_true s e (tree_of_formula f) ≡ false → all_true s e (formulas_of_list (map tree_of_formula items)) ≡ false
unfolding state_true
one-false s e [] i f l q h = absurd (omega arith)
one-false s e (x ∷ items) zero f l q h =
    ap (λ (b : Bool). b && all_true s e (formulas_of_list (map tree_of_formula items)))
    (ap (λ g. state_true s e (tree_of_formula g)) (sym q) ∙ h)
one-false s e (x ∷ items) (suc i) f l q h =
    ap (λ (b : Bool). state_true s e (tree_of_formula x) && b) (one-false s e items i f (omega (arith, l)) q h) ∙
    and-false (state_true s e (tree_of_formula x))
  where
    and-false : (b : Bool) → (b && false) ≡ false
    and-false true = refl
    and-false false = refl

pub part-false : (s : Situation) (e : Assignment) (parts : Formulas) (items : List Formula) (i : ℕ) (f : Formula) →
    items ≡ parts.items.items → i < length items → f ≡ get_or items i f →
    state_true s e (tree_of_formula f) ≡ false → all_true s e (tree_of_formulas parts) ≡ false
part-false s e parts items i f z l q h =
    ap (all_true s e) (trees-Formulas parts ∙ ap (λ (gs : List Formula). formulas_of_list (map tree_of_formula gs)) (sym z)) ∙
    one-false s e items i f l q h

pub part-of-And : (pre : Formula) (parts : Formulas) (part : Formula) → pre ≡ variant.And parts → IsAmongParts parts part →
    IsConjunct pre part
unfolding state_true
part-of-And pre parts part q h s e x = ap (state_true s e) (ap tree_of_formula q ∙ tree-And parts) ∙ h s e x

pub each-part : (pre : Formula) (parts : Formulas) → pre ≡ variant.And parts → (o : Option (Bor Formula)) →
    IfSome o (λ part. IsAmongParts parts part.now) → IfSome o (λ part. IsConjunct pre part.now)
each-part pre parts q (Some part) h = part-of-And pre parts part.now q h
each-part pre parts q None h = tt
