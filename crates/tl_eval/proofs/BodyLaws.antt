-- The body of a definition that an atom names: it fits, and its rank is lower.
use Rattle.std.proofs.Common.{◌≡◌, ◌≤◌, ◌<◌, ◌+◌, ◌-◌, ◌==◌, ℕ, zero, suc, List, [], ◌∷◌, map, take, cond, length, get_or, sum_by}
use Rattle.std.proofs.Common.{slice_get, Bool, Option, Some, None, refl, sym, ap, ◌∙◌, subst, inl, inr, arith}
use borrow.Author.Tests.{eq-eqb, ne_eqb}
use Rattle.std.proofs.lemmas.List.{length-take, length-map}
use Rattle.std.proofs.lemmas.List.Sums.{sum_by-cons}
use Rattle.std.proofs.lemmas.Option.{slice_get_within, slice_get-map, slice_get_read}
use Rattle.std.specs.Option.{option_map}
use Rattle.tl_eval.specs.Reading.{rank}
use Rattle.tl_eval.specs.StateTruth.{FitsAt}
use Rattle.tl_eval.proofs.ArityLaws.{AreFew}
use Rattle.tl_eval.proofs.FormulaSizes.{formula_nodes, past_bodies}
use Rattle.tl_eval.proofs.ReadingLaws.{less-or-same, get-take, read_level}
use Rattle.tl_syntax.specs.declared.definition.Definition.{Definition}
use Rattle.tl_syntax.specs.declared.problem.Problem.{Problem}
use Rattle.tl_syntax.specs.declared.variable.Var.{Var}
use Rattle.tl_syntax.specs.FreeVariables.{slots_of}
use Rattle.tl_syntax.specs.Kept.{DefinitionKeeps}
use Rattle.tl_syntax.specs.Lists.{Each}
use Rattle.tl_syntax.specs.Signature.{Signature, signature_of, with_definitions_below, Takes}
use Rattle.tl_syntax.specs.TreeOfFormula.{tree_of_formula}
use Rattle.tl_terms.specs.Problem.{PlainDefinition, PlainProblem}
use Rattle.tl_terms.specs.ProblemMeaning.{plain_definition, plain_problem}

-- ---- sums

module _ {A : Type 0} (f : A → ℕ) where
  sum-one : (xs : List A) (i : ℕ) (x : A) → slice_get xs i ≡ Some x → f x ≤ sum_by f xs
  sum-one [] i x e = absurd (let z : ⊥ = cc in z)
  sum-one (y ∷ xs) zero x e = let same : y ≡ x = cc in let q : f y ≡ f x = ap f same in let all : sum_by f (y ∷ xs) ≡ f y + sum_by f xs =
      sum_by-cons f y xs in omega arith
  sum-one (y ∷ xs) (suc i) x e = let more = sum-one xs i x e in let all : sum_by f (y ∷ xs) ≡ f y + sum_by f xs = sum_by-cons f y xs in
      omega arith

  sum-next : (xs : List A) (i n : ℕ) (x : A) → slice_get xs i ≡ Some x → i < n → sum_by f (take i xs) + f x ≤ sum_by f (take n xs)
  sum-next [] i n x e h = absurd (let z : ⊥ = cc in z)
  sum-next (y ∷ xs) i zero x e h = absurd (omega arith)
  sum-next (y ∷ xs) zero (suc n) x e h = let same : y ≡ x = cc in let q : f y ≡ f x = ap f same in
      let all : sum_by f (take (suc n) (y ∷ xs)) ≡ f y + sum_by f (take n xs) = sum_by-cons f y (take n xs) in
      let none : sum_by f (take zero (y ∷ xs)) ≡ 0 = refl in omega arith
  sum-next (y ∷ xs) (suc i) (suc n) x e h = let more = sum-next xs i n x e (omega arith) in let all : sum_by f (take (suc n) (y ∷ xs)) ≡
      f y + sum_by f (take n xs) = sum_by-cons f y (take n xs) in let some : sum_by f (take (suc i) (y ∷ xs)) ≡ f y + sum_by f (take i xs) =
      sum_by-cons f y (take i xs) in omega arith

-- ---- the rank

pub rank-falls : (p : PlainProblem) (n k i j : ℕ) (d : PlainDefinition) → slice_get p.definitions i ≡ Some d → i ≤ n →
    read_level n k i d.levels ≡ suc j → suc (rank p i j) ≤ rank p n k
unfolding rank
rank-falls p n k i j d e h q = elim (less-or-same i n h) [
  | inl less ↦
      let level : d.levels ≡ suc j = sym (ap (λ (b : Bool). cond b k d.levels) (ne_eqb i n (omega arith))) ∙ q in
      let sums = sum-next (λ (x : PlainDefinition). x.levels) p.definitions i n d e less in
      omega arith
  | inr same ↦
      let level : k ≡ suc j = sym (ap (λ (b : Bool). cond b k d.levels) (eq-eqb i n same)) ∙ q in
      let sums : sum_by (λ (x : PlainDefinition). x.levels) (take i p.definitions) ≡
      sum_by (λ (x : PlainDefinition). x.levels) (take n p.definitions) =
      ap (λ (m : ℕ). sum_by (λ (x : PlainDefinition). x.levels) (take m p.definitions)) same in
      omega arith
]

pub body-nodes : (p : PlainProblem) (i : ℕ) (d : PlainDefinition) → slice_get p.definitions i ≡ Some d →
    formula_nodes d.body < past_bodies p
unfolding past_bodies
body-nodes p i d e = let sum = sum-one (λ (x : PlainDefinition). formula_nodes x.body) p.definitions i d e in omega arith

-- ---- the definition that an atom names

pub record Named (ds : List Definition) (n i count : ℕ) : Type 0 where
  pub below : i ≤ n
  pub within : i < length ds
  pub params : (d : Definition) → slice_get ds i ≡ Some d → length d.params ≡ count

pub named : (ds : List Definition) (n i count : ℕ) → Takes (take (n + 1) (map (λ x. length x.params) ds)) i count → Named ds n i count
named ds n i count h =
    let arities : List ℕ = map (λ (x : Definition). length x.params) ds in
    let short : i < length (take (n + 1) arities) = slice_get_within (take (n + 1) arities) i count h in
    let below : i < n + 1 = omega (arith, length-take (n + 1) arities) in
    let there : slice_get arities i ≡ Some count = sym (get-take (n + 1) i arities below) ∙ h in
    let inside : i < length arities = slice_get_within arities i count there in
    record {
      below = omega arith;
      within = omega (arith, length-map ds (λ (x : Definition). length x.params));
      params = λ d e. let q : Some (length d.params) ≡ Some count = sym
          (slice_get-map (λ (x : Definition). length x.params) ds i ∙ ap (option_map (λ (x : Definition). length x.params)) e) ∙ there in
          cc;
    }

pub definition-is : (ds : List Definition) (i : ℕ) (d : Definition) → i < length ds → d ≡ get_or ds i d → slice_get ds i ≡ Some d
definition-is ds i d h q = slice_get_read ds (length ds) i d refl h q

pub plain-is : (q : Problem) (i : ℕ) (d : Definition) → slice_get q.domain.definitions i ≡ Some d →
    slice_get (plain_problem q).definitions i ≡ Some (plain_definition d)
unfolding plain_problem
plain-is q i d e = slice_get-map plain_definition q.domain.definitions i ∙ ap (option_map plain_definition) e

-- definitions have few parameters
pub defined-few : (g : Signature) (m : ℕ) (ds : List Definition) → ((i : ℕ) (x : Definition) → slice_get ds i ≡ Some x →
    DefinitionKeeps g m i x) → AreFew (map (λ x. length x.params) ds)
defined-few g m ds keeps i count h = by (slice_get ds i) refl
  where
    by : (o : Option Definition) → slice_get ds i ≡ o → count ≤ 8
    by None e = absurd (let q : None ≡ Some count = sym (slice_get-map (λ (x : Definition). length x.params) ds i ∙
        ap (option_map (λ (x : Definition). length x.params)) e) ∙ h in let z : ⊥ = cc in z)
    by (Some d) e =
        let q : Some (length d.params) ≡ Some count = sym (slice_get-map (λ (x : Definition). length x.params) ds i ∙
        ap (option_map (λ (x : Definition). length x.params)) e) ∙ h in
        let same : length d.params ≡ count = cc in
        subst (λ (c : ℕ). c ≤ 8) same (keeps i d e).params.few

pub few-visible : (arities : List ℕ) (n : ℕ) → AreFew arities → AreFew (take n arities)
few-visible arities n few i count h =
    let short : i < length (take n arities) = slice_get_within (take n arities) i count h in
    few i count (sym (get-take n i arities (omega (arith, length-take n arities))) ∙ h)

counted-small : (ss : List Var) (o : ℕ) → ((k n : ℕ) → slice_get (slots_of ss) k ≡ Some n → n ≡ o + k) → o + length ss ≤ 32 →
    Each (λ s. s.slot < 32) ss
counted-small [] o counted h = tt
counted-small (s ∷ ss) o counted h =
    let first : s.slot ≡ o + zero = counted zero s.slot refl in
    (omega arith, counted-small ss (suc o) (λ k n e. let q = counted (suc k) n e in omega arith) (omega arith))

-- what is known of the body that an atom of a definition enters
pub record Body (q : Problem) (n k i j : ℕ) (d : Definition) : Type 0 where
  pub there : slice_get (plain_problem q).definitions i ≡ Some (plain_definition d)
  pub fits : FitsAt (signature_of q.domain) i (tree_of_formula d.body)
  pub in_frame : Each (λ s. s.slot < 32) d.params
  pub few : length d.params ≤ 9
  pub falls : suc (rank (plain_problem q) i j) ≤ rank (plain_problem q) n k
  pub smaller : formula_nodes (tree_of_formula d.body) < past_bodies (plain_problem q)

pub body-is : (q : Problem) (n k i j : ℕ) (d : Definition) → slice_get q.domain.definitions i ≡ Some d → i ≤ n → read_level n k i d.levels ≡
    suc j → Body q n k i j d
body-is q n k i j d e h z =
    let keeps = q.domain_keeps.definitions i d e in
    let there = plain-is q i d e in
    let falls = rank-falls (plain_problem q) n k i j (plain_definition d) there h z in
    let few = keeps.params.few in
    record {
      there = there;
      fits = record { around = slots_of d.params; fits = keeps.fits };
      in_frame = counted-small d.params 0 (λ m c a. let x = keeps.params.counted m c a in omega arith) (omega arith);
      few = omega arith;
      falls = falls;
      smaller = body-nodes (plain_problem q) i (plain_definition d) there;
    }

-- what is known of an atom's definition, which was read from the list
pub record AtDefinition (q : Problem) (n k i count l : ℕ) (d : Definition) : Type 0 where
  pub listed : slice_get q.domain.definitions i ≡ Some d
  pub there : slice_get (plain_problem q).definitions i ≡ Some (plain_definition d)
  pub below : i ≤ n
  pub params : length d.params ≡ count
  pub level : read_level n k i d.levels ≡ l

pub at_definition : (q : Problem) (n k i count level : ℕ) (items : List Definition) (d : Definition) → items ≡ q.domain.definitions →
    Takes (with_definitions_below (n + 1) (signature_of q.domain)).definitions i count
    → d ≡ get_or items i d → level ≡ cond (i == n) k d.levels → AtDefinition q n k i count level d
at_definition q n k i count level items d s h r l =
    let known = named q.domain.definitions n i count h in
    let listed : slice_get q.domain.definitions i ≡ Some d = definition-is q.domain.definitions i d known.within
    (r ∙ ap (λ (xs : List Definition). get_or xs i d) s) in
    record {
      listed = listed;
      there = plain-is q i d listed;
      below = known.below;
      params = known.params d listed;
      level = sym l;
    }

pub inside : (q : Problem) (n i count : ℕ) (items : List Definition) → items ≡ q.domain.definitions →
    Takes (with_definitions_below (n + 1) (signature_of q.domain)).definitions i count → i < length items
inside q n i count items s h = let known = named q.domain.definitions n i count h in let size =
    ap (λ (xs : List Definition). length xs) s in let within = known.within in omega arith

-- what is known of an atom's definition, once it is read at a level above 0 of its own
pub record AtOwnLevel (q : Problem) (n k i count l : ℕ) : Type 0 where
  pub takes : Takes (signature_of q.domain).definitions i count
  pub rank : rank (plain_problem q) i l ≤ rank (plain_problem q) n k

pub at_own_level : (q : Problem) (n k i count l : ℕ) (d : Definition) → AtDefinition q n k i count l d →
    Takes (with_definitions_below (n + 1) (signature_of q.domain)).definitions i count → 0 < l → AtOwnLevel q n k i count l
unfolding rank
at_own_level q n k i count l d at h above =
    let arities : List ℕ = map (λ (x : Definition). length x.params) q.domain.definitions in
    let below : i < n + 1 = let b = at.below in omega arith in
    let falls = rank-falls (plain_problem q) n k i (l - 1) (plain_definition d) at.there at.below
    (at.level ∙ (let e : l ≡ suc (l - 1) = omega arith in e)) in
    let less : rank (plain_problem q) i l ≤ rank (plain_problem q) n k = omega arith in
    record {
      takes = sym (get-take (n + 1) i arities below) ∙ h;
      rank = less;
    }

-- and of the definition that is read at that level
pub at_own : (q : Problem) (l i count : ℕ) (items : List Definition) (d : Definition) → items ≡ q.domain.definitions →
    Takes (signature_of q.domain).definitions i count → d ≡ get_or items i d → AtDefinition q i l i count l d
at_own q l i count items d s h r =
    let arities : List ℕ = map (λ (x : Definition). length x.params) q.domain.definitions in
    at_definition q i l i count l items d s (get-take (i + 1) i arities (omega arith) ∙ h) r
    (sym (ap (λ (b : Bool). cond b l d.levels) (eq-eqb i i refl)))

-- ---- outside of definitions

pub count-plain : (q : Problem) → length (plain_problem q).definitions ≡ length q.domain.definitions
unfolding plain_problem
count-plain q = length-map q.domain.definitions plain_definition
