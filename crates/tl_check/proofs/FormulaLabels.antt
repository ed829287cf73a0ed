-- The labels of a formula come from those of its parts.
use Rattle.std.proofs.Common.{◌≡◌, ◌≤◌, ◌<◌, ◌+◌, ◌-◌, ◌⊎◌, ◌++◌, ℕ, zero, suc, List, [], ◌∷◌, map, take, drop, length, get_or, Bool, false}
use Rattle.std.proofs.Common.{not, Ok, Err, Result, IsErrAnd, Box, Global, inl, inr, refl, sym, ap, ap₂, ◌∙◌, subst, arith, length-drop}
use Rattle.tl_check.proofs.AtomLaws.{marks_in-agree}
use Rattle.tl_check.proofs.LabelLaws.{marks-not, word-looks, word-first, round-on, made-here, until-here}
use Rattle.tl_check.proofs.LookedLaws.{comes-later, not-looked, word-looked, until-first-looked, until-second-looked, part-looked}
use Rattle.tl_check.proofs.SpanLaws.{marks_in-by, marks_in-at, marks_in-length, marks_in-rest}
use Rattle.tl_check.proofs.Sizes.{size, sizes}
use Rattle.tl_check.specs.Ahead.{Ahead, Course, true_ahead, marks, marks_on, first_of}
use Rattle.tl_check.specs.Labelled.{ComesAt, looked_at, AreLabels}
use Rattle.tl_check.specs.Later.{later_tree, later_labels}
use Rattle.tl_check.specs.Passes.{until_labels}
use Rattle.tl_check.specs.Spans.{IsWithin, marks_in}
use Rattle.tl_action.specs.declared.check_fault.CheckFault.{CheckFault}
use Rattle.tl_action.specs.declared.check_fault.CheckFault.TheVariants as fault
use Rattle.tl_check.specs.declared.later.Later.{Later}
use Rattle.tl_check.specs.declared.later.Later.TheVariants as later
use Rattle.tl_check.specs.declared.span.Span.{Span}
use Rattle.tl_eval.specs.Notes.{operation_of}
use Rattle.tl_syntax.specs.declared.junction.Junction.{Junction}
use Rattle.tl_syntax.specs.declared.junction.Junction.TheVariants.{All, Any}
use Rattle.tl_syntax.specs.Junctions.{joined, quantified}
use Rattle.tl_syntax.proofs.FormulaTrees.{tree-True, tree-False, tree-Atom, tree-Defined, tree-Compare, tree-GoalFact, tree-GoalPlace}
use Rattle.tl_syntax.proofs.FormulaTrees.{tree-GoalNot, tree-Not, tree-And, tree-Or, tree-ForAll, tree-Exists, tree-Next, tree-Always}
use Rattle.tl_syntax.proofs.FormulaTrees.{tree-Eventually, tree-Until, tree-Within, tree-During, trees-Formulas}
use Rattle.tl_syntax.specs.declared.bound.Bound.{Bound}
use Rattle.tl_syntax.specs.declared.formula.Formula.{Formula}
use Rattle.tl_syntax.specs.declared.formula.Formula.TheVariants as formula
use Rattle.tl_syntax.specs.declared.formula.Formulas.{Formulas}
use Rattle.tl_syntax.specs.declared.term.Term.{Term}
use Rattle.tl_syntax.specs.declared.term.Terms.{Terms}
use Rattle.tl_syntax.specs.declared.value.Cmp.{Cmp}
use Rattle.tl_syntax.specs.declared.variable.Arg.{Arg}
use Rattle.tl_syntax.specs.declared.variable.Var.{Var}
use Rattle.tl_syntax.specs.Assignment.{Assignment}
use Rattle.tl_syntax.specs.Fits.{Fits}
use Rattle.tl_syntax.specs.Lists.{Among}
use Rattle.tl_syntax.specs.Signature.{Signature}
use Rattle.tl_syntax.specs.StateFormulas.{IsState}
use Rattle.tl_syntax.specs.TreeOfFormula.{tree_of_formula, tree_of_formulas}
use Rattle.tl_syntax.specs.Trees.{FormulaTree, FormulaTrees, negation, conjunction, disjunction, for_all, for_some, next, until}
use Rattle.tl_syntax.specs.Trees.{formulas_of_list}
use Rattle.tl_terms.specs.Operations.{Operation}
use Rattle.tl_terms.specs.World.{World}

-- ---- formulas that have none below them

pub state-True : (f : Formula) → f ≡ formula.True → IsState (tree_of_formula f)
state-True f q = subst IsState (sym (ap tree_of_formula q ∙ tree-True)) tt

pub state-False : (f : Formula) → f ≡ formula.False → IsState (tree_of_formula f)
state-False f q = subst IsState (sym (ap tree_of_formula q ∙ tree-False)) tt

pub state-Atom : (f : Formula) (p : ℕ) (ts : Terms) → f ≡ formula.Atom p ts → IsState (tree_of_formula f)
state-Atom f p ts q = subst IsState (sym (ap tree_of_formula q ∙ tree-Atom p ts)) tt

pub state-Defined : (f : Formula) (p : ℕ) (ts : Terms) → f ≡ formula.Defined p ts → IsState (tree_of_formula f)
state-Defined f p ts q = subst IsState (sym (ap tree_of_formula q ∙ tree-Defined p ts)) tt

pub state-Compare : (f : Formula) (c : Cmp) (s t : Term) → f ≡ formula.Compare c s t → IsState (tree_of_formula f)
state-Compare f c s t q = subst IsState (sym (ap tree_of_formula q ∙ tree-Compare c s t)) tt

pub state-GoalFact : (f : Formula) (p : ℕ) (xs : List Arg) → f ≡ formula.GoalFact p xs → IsState (tree_of_formula f)
state-GoalFact f p xs q = subst IsState (sym (ap tree_of_formula q ∙ tree-GoalFact p xs)) tt

pub state-GoalPlace : (f : Formula) (k : ℕ) (xs : List Arg) (x : Arg) → f ≡ formula.GoalPlace k xs x → IsState (tree_of_formula f)
state-GoalPlace f k xs x q = subst IsState (sym (ap tree_of_formula q ∙ tree-GoalPlace k xs x)) tt

pub state-GoalNot : (f : Formula) (p : ℕ) (xs : List Arg) → f ≡ formula.GoalNot p xs → IsState (tree_of_formula f)
state-GoalNot f p xs q = subst IsState (sym (ap tree_of_formula q ∙ tree-GoalNot p xs)) tt

-- ---- a note of a part

-- a note of a part, in a span whose positions come at the first one here or after it, is one of the whole
pub noted-by : (p : Course) (ws : List World) (span inner : Span) (e d : Assignment) (whole part : FormulaTree) →
    ((k : ℕ) → ComesAt p ws inner.from k → ComesAt p ws span.from k) →
    ((o : Operation) (k : ℕ) → Among o (looked_at p ws k d part) → Among o (looked_at p ws k e whole)) → (x : CheckFault) →
    AreLabels p ws inner d part (Err x) → AreLabels p ws span e whole (Err x)
noted-by p ws span inner e d whole part comes step (fault.Range k n) h = (comes k h.0, (step (operation_of n) k h.1.0, h.1.1))
noted-by p ws span inner e d whole part comes step fault.NoMemory h = tt

take-map : {A B : Type 0} (f : A → B) (n : ℕ) (xs : List A) → take n (map f xs) ≡ map f (take n xs)
take-map f zero xs = refl
take-map f (suc n) [] = refl
take-map f (suc n) (x ∷ xs) = ap (λ (ys : List _). f x ∷ ys) (take-map f n xs)

next-at : (p : Course) (e : Assignment) (f : FormulaTree) (ws : List World) (i : ℕ) → suc i < length ws →
    true_ahead p e (next f) (drop i ws) ≡ true_ahead p e f (drop (suc i) ws)
unfolding true_ahead
next-at p e f [] i h = absurd (omega arith)
next-at p e f (w ∷ []) i h = absurd (omega arith)
next-at p e f (w ∷ v ∷ ws) zero h = refl
next-at p e f (w ∷ v ∷ ws) (suc i) h = next-at p e f (v ∷ ws) i (omega arith)

module _ (p : Course) (ws : List World) (span : Span) (within : IsWithin span (length ws)) (e : Assignment) (f : FormulaTree) where
  -- ---- negation

  pub not-made : (bs cs : List Bool) → bs ≡ marks_in (true_ahead p e f) ws span → cs ≡ map not bs → cs ≡
      marks_in (true_ahead p e (negation f)) ws span
  unfolding true_ahead
  not-made bs cs h q =
      let s = drop span.from ws in
      q ∙ (ap (map not) h ∙ (sym (take-map not (span.to - span.from) (marks (true_ahead p e f) s)) ∙
      ap (take (span.to - span.from)) (marks-not (true_ahead p e f) s)))

  pub not-noted : (x : CheckFault) → AreLabels p ws span e f (Err x) → AreLabels p ws span e (negation f) (Err x)
  not-noted x h = noted-by p ws span span e e (negation f) f (λ k c. c) (λ o k m. not-looked p ws o e f k m) x h

  -- ---- next

  -- the span of the next positions
  abbrev pub shifted : Span
  shifted = record { from = span.from + 1; to = span.to + 1 }

  pub shifted-within : span.to < length ws → IsWithin shifted (length ws)
  shifted-within h = record { order = (let order = within.order in omega arith); within = omega arith }

  pub next-inside : span.to < length ws → (bs : List Bool) → bs ≡ marks_in (true_ahead p e f) ws shifted → bs ≡
      marks_in (true_ahead p e (next f)) ws span
  next-inside h bs q = marks_in-by (true_ahead p e (next f)) ws span within bs
      (ap length q ∙ (marks_in-length (true_ahead p e f) ws shifted (shifted-within h) ∙ (let order = within.order in omega arith)))
      (λ k l. (
      let i : suc (span.from + k) < length ws = omega arith in
      let place : span.from + 1 + k ≡ suc (span.from + k) = omega arith in
      ap (λ (cs : List Bool). get_or cs k false) q
      ∙ (marks_in-at (true_ahead p e f) ws shifted (shifted-within h) k false (omega arith)
      ∙ (ap (λ (m : ℕ). true_ahead p e f (drop m ws)) place ∙ sym (next-at p e f ws (span.from + k) i)))
      ))

  pub next-noted : (inner : Span) → span.from ≤ inner.from → (x : CheckFault) → AreLabels p ws inner e f (Err x) →
      AreLabels p ws span e (next f) (Err x)
  next-noted inner from x h = noted-by p ws span inner e e (next f) f (λ k c. comes-later p ws span.from inner.from k from c)
      (λ o k m. word-looked p ws o later.Next e f k m) x h

  -- ---- words that ask for later positions

  -- the positions that come at the first one or after it, where those from n on come again
  module _ (n : ℕ) (again : p.again ≡ drop n ws) (loops : n < length ws) (ahead : Span) (here : ahead.from ≤ span.from)
      (before : ahead.from ≤ n) (one : (ahead.from ≡ span.from) ⊎ (ahead.from ≡ n)) (to : ahead.to ≡ length ws) where
    pub ahead-within : IsWithin ahead (length ws)
    ahead-within = record { order = omega arith; within = omega arith }

    comes-on : (k : ℕ) → ComesAt p ws ahead.from k → ComesAt p ws span.from k
    comes-on k c = elim one [
      | inl q ↦ subst (λ (i : ℕ). ComesAt p ws i k) q c
      | inr q ↦ elim c [ inl l ↦ inr (let size = ap length again ∙ length-drop n ws in omega arith) | inr l ↦ inr l ]
    ]

    from-length : span.from ≤ length ws
    from-length = let order = within.order in let room = within.within in omega arith

    count-few : span.to - span.from ≤ length ws - span.from
    count-few = let room = within.within in omega arith

    -- the labels of these positions, and then of those that come again
    pub round-labels : (d : Assignment) (g : FormulaTree) (bs cs : List Bool) → bs ≡ marks_in (true_ahead p d g) ws ahead → cs ≡ bs ++
        drop (n - ahead.from) bs → cs ≡ marks_on p (true_ahead p d g) (drop ahead.from ws)
    round-labels d g bs cs q r = r ∙ round-on p ws n again ahead.from span.from here before from-length (true_ahead p d g) bs
        (q ∙ marks_in-rest (true_ahead p d g) ws ahead ahead-within to)

    pub later-made : (word : Later) (bs cs ds new : List Bool) → bs ≡ marks_in (true_ahead p e f) ws ahead → cs ≡ bs ++
        drop (n - ahead.from) bs → ds ≡ later_labels word cs → new ≡ take (span.to - span.from) (drop (span.from - ahead.from) ds) → new ≡
        marks_in (true_ahead p e (later_tree word f)) ws span
    later-made word bs cs ds new q r s u =
        let t = true_ahead p e f in
        u ∙ (ap (λ (us : List Bool). take (span.to - span.from) (drop (span.from - ahead.from) us))
        (s ∙ ap (later_labels word) (round-labels e f bs cs q r))
        ∙ (made-here p ws n again ahead.from span.from here before from-length (span.to - span.from) count-few (later_labels word)
        (word-looks word) t
        ∙ sym (marks_in-agree (true_ahead p e (later_tree word f)) (λ vs. first_of (later_labels word (marks_on p t vs)))
        (word-first word p e f) ws span)))

    pub later-noted : (word : Later) (x : CheckFault) → AreLabels p ws ahead e f (Err x) → AreLabels p ws span e (later_tree word f) (Err x)
    later-noted word x h = noted-by p ws span ahead e e (later_tree word f) f comes-on (λ o k m. word-looked p ws o word e f k m) x h

    -- ---- until

    module _ (d : Assignment) (h : FormulaTree) where
      pub until-made : (bs cs bs2 cs2 ds new : List Bool) → d ≡ e → bs ≡ marks_in (true_ahead p e f) ws ahead → cs ≡
          marks_in (true_ahead p d h) ws ahead → bs2 ≡ bs ++ drop (n - ahead.from) bs → cs2 ≡ cs ++ drop (n - ahead.from) cs → ds ≡
          until_labels bs2 cs2
          → new ≡ take (span.to - span.from) (drop (span.from - ahead.from) ds) → new ≡ marks_in (true_ahead p e (until f h)) ws span
      unfolding true_ahead
      until-made bs cs bs2 cs2 ds new same q r b c s u =
          let t = true_ahead p e f in
          let v = true_ahead p e h in
          let other : cs2 ≡ marks_on p v (drop ahead.from ws) = round-labels d h cs cs2 r c ∙
          ap (λ (x : Assignment). marks_on p (true_ahead p x h) (drop ahead.from ws)) same in
          u ∙ (ap (λ (us : List Bool). take (span.to - span.from) (drop (span.from - ahead.from) us))
          (s ∙ ap₂ until_labels (round-labels e f bs bs2 q b) other)
          ∙ until-here p ws n again ahead.from span.from here before from-length (span.to - span.from) count-few t v)

      pub until-first-noted : (x : CheckFault) → AreLabels p ws ahead e f (Err x) → AreLabels p ws span e (until f h) (Err x)
      until-first-noted x k = noted-by p ws span ahead e e (until f h) f comes-on (λ o j m. until-first-looked p ws o e f h j m) x k

      pub until-second-noted : (x : CheckFault) → d ≡ e → AreLabels p ws ahead d h (Err x) → AreLabels p ws span e (until f h) (Err x)
      until-second-noted x q k = noted-by p ws span ahead e e (until f h) h comes-on (λ o j m. until-second-looked p ws o e f h j m) x
          (subst (λ (y : Assignment). AreLabels p ws ahead y h (Err x)) q k)

-- labels of one span are equally many
pub same-length : (ws : List World) (span : Span) → IsWithin span (length ws) → (t u : Ahead) (bs cs : List Bool) → bs ≡
    marks_in t ws span → cs ≡ marks_in u ws span → length bs ≡ length cs
same-length ws span inside t u bs cs r s = ap length r ∙ (marks_in-length t ws span inside ∙
    sym (ap length s ∙ marks_in-length u ws span inside))

-- ---- formulas with one or two formulas below them

-- the tree of a formula and what its part is
pub record OnePart (f : Formula) (whole part : FormulaTree) : Type 0 where
  pub tree : tree_of_formula f ≡ whole
  pub smaller : size part < size (tree_of_formula f)

pub fits-word : (g : Signature) (f : FormulaTree) (word : Later) → Fits g [] (later_tree word f) → Fits g [] f
unfolding Fits
fits-word g f later.Next h = h
fits-word g f later.Always h = h
fits-word g f later.Eventually h = h
fits-word g f (later.Within n) h = h
fits-word g f (later.During n) h = h

pub fits-not : (g : Signature) (f : FormulaTree) → Fits g [] (negation f) → Fits g [] f
unfolding Fits
fits-not g f h = h

pub fits-next : (g : Signature) (f : FormulaTree) → Fits g [] (next f) → Fits g [] f
unfolding Fits
fits-next g f h = h

pub until-parts : (g : Signature) (f h : FormulaTree) → Fits g [] (until f h) → Fits g [] f × Fits g [] h
unfolding Fits
until-parts g f h k = k

pub one-Not : (f g : Formula) (x : Box Formula Global) → f ≡ formula.Not x → g ≡ x.value →
    OnePart f (negation (tree_of_formula g)) (tree_of_formula g)
unfolding size
one-Not f g x q r =
    let tree : tree_of_formula f ≡ negation (tree_of_formula g) = ap tree_of_formula q ∙
    (tree-Not x ∙ ap (λ (y : Formula). negation (tree_of_formula y)) (sym r)) in
    let total : size (tree_of_formula f) ≡ 1 + size (tree_of_formula g) = ap size tree in
    record { tree = tree; smaller = omega arith }

pub one-Next : (f g : Formula) (x : Box Formula Global) → f ≡ formula.Next x → g ≡ x.value →
    OnePart f (next (tree_of_formula g)) (tree_of_formula g)
unfolding size
one-Next f g x q r =
    let tree : tree_of_formula f ≡ next (tree_of_formula g) = ap tree_of_formula q ∙
    (tree-Next x ∙ ap (λ (y : Formula). next (tree_of_formula y)) (sym r)) in
    let total : size (tree_of_formula f) ≡ 1 + size (tree_of_formula g) = ap size tree in
    record { tree = tree; smaller = omega arith }

pub one-Always : (f g : Formula) (x : Box Formula Global) → f ≡ formula.Always x → g ≡ x.value →
    OnePart f (later_tree later.Always (tree_of_formula g)) (tree_of_formula g)
unfolding size
one-Always f g x q r =
    let tree : tree_of_formula f ≡ later_tree later.Always (tree_of_formula g) = ap tree_of_formula q ∙
    (tree-Always x ∙ ap (λ (y : Formula). later_tree later.Always (tree_of_formula y)) (sym r)) in
    let total : size (tree_of_formula f) ≡ 1 + size (tree_of_formula g) = ap size tree in
    record { tree = tree; smaller = omega arith }

pub one-Eventually : (f g : Formula) (x : Box Formula Global) → f ≡ formula.Eventually x → g ≡ x.value →
    OnePart f (later_tree later.Eventually (tree_of_formula g)) (tree_of_formula g)
unfolding size
one-Eventually f g x q r =
    let tree : tree_of_formula f ≡ later_tree later.Eventually (tree_of_formula g) = ap tree_of_formula q ∙
    (tree-Eventually x ∙ ap (λ (y : Formula). later_tree later.Eventually (tree_of_formula y)) (sym r)) in
    let total : size (tree_of_formula f) ≡ 1 + size (tree_of_formula g) = ap size tree in
    record { tree = tree; smaller = omega arith }

pub one-Within : (f g : Formula) (n : ℕ) (x : Box Formula Global) → f ≡ formula.Within n x → g ≡ x.value →
    OnePart f (later_tree (later.Within n) (tree_of_formula g)) (tree_of_formula g)
unfolding size
one-Within f g n x q r =
    let tree : tree_of_formula f ≡ later_tree (later.Within n) (tree_of_formula g) = ap tree_of_formula q ∙
    (tree-Within n x ∙ ap (λ (y : Formula). later_tree (later.Within n) (tree_of_formula y)) (sym r)) in
    let total : size (tree_of_formula f) ≡ 1 + size (tree_of_formula g) = ap size tree in
    record { tree = tree; smaller = omega arith }

pub one-During : (f g : Formula) (n : ℕ) (x : Box Formula Global) → f ≡ formula.During n x → g ≡ x.value →
    OnePart f (later_tree (later.During n) (tree_of_formula g)) (tree_of_formula g)
unfolding size
one-During f g n x q r =
    let tree : tree_of_formula f ≡ later_tree (later.During n) (tree_of_formula g) = ap tree_of_formula q ∙
    (tree-During n x ∙ ap (λ (y : Formula). later_tree (later.During n) (tree_of_formula y)) (sym r)) in
    let total : size (tree_of_formula f) ≡ 1 + size (tree_of_formula g) = ap size tree in
    record { tree = tree; smaller = omega arith }

-- the whole tree
pub record TwoParts (f : Formula) (g h : Formula) : Type 0 where
  pub tree : tree_of_formula f ≡ until (tree_of_formula g) (tree_of_formula h)
  pub smaller : 1 + (size (tree_of_formula g) + size (tree_of_formula h)) < size (tree_of_formula f)

pub two-Until : (f g h : Formula) (x y : Box Formula Global) → f ≡ formula.Until x y → g ≡ x.value → h ≡ y.value → TwoParts f g h
unfolding size
two-Until f g h x y q r s =
    let tree : tree_of_formula f ≡ until (tree_of_formula g) (tree_of_formula h) = ap tree_of_formula q ∙
    (tree-Until x y ∙ ap₂ (λ (a b : Formula). until (tree_of_formula a) (tree_of_formula b)) (sym r) (sym s)) in
    let total : size (tree_of_formula f) ≡ 2 + (size (tree_of_formula g) + size (tree_of_formula h)) = ap size tree in
    record { tree = tree; smaller = omega arith }

-- ---- conjunctions and disjunctions

pub record AllParts (f : Formula) (junction : Junction) (fs : Formulas) : Type 0 where
  pub tree : tree_of_formula f ≡ joined junction (tree_of_formulas fs)
  pub smaller : sizes (tree_of_formulas fs) < size (tree_of_formula f)

pub all-And : (f : Formula) (fs : Formulas) → f ≡ formula.And fs → AllParts f All fs
unfolding size
all-And f fs q =
    let tree : tree_of_formula f ≡ conjunction (tree_of_formulas fs) = ap tree_of_formula q ∙ tree-And fs in
    let total : size (tree_of_formula f) ≡ 1 + sizes (tree_of_formulas fs) = ap size tree in
    record { tree = tree; smaller = omega arith }

pub all-Or : (f : Formula) (fs : Formulas) → f ≡ formula.Or fs → AllParts f Any fs
unfolding size
all-Or f fs q =
    let tree : tree_of_formula f ≡ disjunction (tree_of_formulas fs) = ap tree_of_formula q ∙ tree-Or fs in
    let total : size (tree_of_formula f) ≡ 1 + sizes (tree_of_formulas fs) = ap size tree in
    record { tree = tree; smaller = omega arith }

among-items : (xs : List Formula) (i : ℕ) (x : Formula) → i < length xs → x ≡ get_or xs i x →
    Among (tree_of_formula x) (map tree_of_formula xs)
among-items [] i x h r = absurd (omega arith)
among-items (y ∷ xs) zero x h r = inl (ap tree_of_formula (sym r))
among-items (y ∷ xs) (suc i) x h r = inr (among-items xs i x (omega arith) r)

pub item-noted : (p : Course) (ws : List World) (span : Span) (e d : Assignment) (junction : Junction) (fs : Formulas) (xs : List Formula)
    (i : ℕ) (x : Formula) → xs ≡ fs.items.items → i < length xs → x ≡ get_or xs i x → d ≡ e
    → (y : CheckFault) → AreLabels p ws span d (tree_of_formula x) (Err y) →
    AreLabels p ws span e (joined junction (tree_of_formulas fs)) (Err y)
item-noted p ws span e d junction fs xs i x q h r s y k =
    let whole : tree_of_formulas fs ≡ formulas_of_list (map tree_of_formula xs) = trees-Formulas fs ∙
    ap (λ (ys : List Formula). formulas_of_list (map tree_of_formula ys)) (sym q) in
    subst (λ (ts : FormulaTrees). AreLabels p ws span e (joined junction ts) (Err y)) (sym whole)
    (noted-by p ws span span e e (joined junction (formulas_of_list (map tree_of_formula xs))) (tree_of_formula x) (λ k c. c)
    (λ o j m. part-looked p ws o e junction (map tree_of_formula xs) (tree_of_formula x) j (among-items xs i x h r) m) y
    (subst (λ (z : Assignment). AreLabels p ws span z (tree_of_formula x) (Err y)) s k))

-- ---- quantifiers

pub record Body (f : Formula) (junction : Junction) (ss : List Var) (b : Bound) (g : Formula) : Type 0 where
  pub tree : tree_of_formula f ≡ quantified junction ss b (tree_of_formula g)
  pub smaller : 1 + size (tree_of_formula g) < size (tree_of_formula f)

pub body-ForAll : (f g : Formula) (ss : List Var) (b : Bound) (x : Box Formula Global) → f ≡ formula.ForAll ss b x → g ≡ x.value →
    Body f All ss b g
unfolding size
body-ForAll f g ss b x q r =
    let tree : tree_of_formula f ≡ for_all ss b (tree_of_formula g) = ap tree_of_formula q ∙
    (tree-ForAll ss b x ∙ ap (λ (y : Formula). for_all ss b (tree_of_formula y)) (sym r)) in
    let total : size (tree_of_formula f) ≡ 2 + size (tree_of_formula g) = ap size tree in
    record { tree = tree; smaller = omega arith }

pub body-Exists : (f g : Formula) (ss : List Var) (b : Bound) (x : Box Formula Global) → f ≡ formula.Exists ss b x → g ≡ x.value →
    Body f Any ss b g
unfolding size
body-Exists f g ss b x q r =
    let tree : tree_of_formula f ≡ for_some ss b (tree_of_formula g) = ap tree_of_formula q ∙
    (tree-Exists ss b x ∙ ap (λ (y : Formula). for_some ss b (tree_of_formula y)) (sym r)) in
    let total : size (tree_of_formula f) ≡ 2 + size (tree_of_formula g) = ap size tree in
    record { tree = tree; smaller = omega arith }

-- ---- the exit of a `?`

pub handed : {A : Type 0} (P : Result A CheckFault → Type 0) (r : Result A CheckFault) (x : CheckFault) → IsErrAnd r (λ y. y ≡ x) →
    P (Err x) → P r
handed P (Ok a) x same h = absurd same
handed P (Err y) x same h = subst (λ (z : CheckFault). P (Err z)) (sym same) h

-- the labels of the next positions
pub next-handed : (p : Course) (ws : List World) (span : Span) (within : IsWithin span (length ws)) (e : Assignment) (f : FormulaTree) →
    span.to < length ws → (r : Result (List Bool) CheckFault) → AreLabels p ws (shifted p ws span within e f) e f r →
    AreLabels p ws span e (next f) r
next-handed p ws span inside e f h (Ok bs) k = next-inside p ws span inside e f h bs k
next-handed p ws span inside e f h (Err x) k = next-noted p ws span inside e f (shifted p ws span inside e f) (omega arith) x k
