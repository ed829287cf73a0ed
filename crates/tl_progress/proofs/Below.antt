-- The parts of a node are below it.
use Rattle.std.proofs.Common.{◌≡◌, ◌<◌, ◌⊎◌, inl, inr, ℕ, zero, suc, length, get_or, List, [], ◌∷◌, map, Bool, true, false, cond, IsTrue}
use Rattle.std.proofs.Common.{nat_lt, Some, slice_get, refl, sym, ap, subst, arith}
use borrow.Author.Tests.{ltb-true}
use Rattle.tl_nodes.specs.declared.node.Node.{Node}
use Rattle.tl_nodes.specs.declared.node.Node.TheVariants as node
use Rattle.tl_nodes.specs.Fits.{all_below, fits}
use Rattle.tl_nodes.specs.Joins.{join_node}
use Rattle.tl_nodes.specs.NodeTrees.{tree_at, tree_of_node}
use Rattle.tl_nodes.proofs.TreesOfNodes.{at-is}
use Rattle.tl_syntax.specs.declared.junction.Junction.{Junction}
use Rattle.tl_syntax.specs.declared.junction.Junction.TheVariants.{All, Any}
use Rattle.tl_syntax.specs.Assignment.{Assignment}
use Rattle.tl_syntax.specs.Fits.{Fits, AllFit}
use Rattle.tl_syntax.specs.FreeVariables.{free_slots, all_free_slots, is_slot_in, InScope}
use Rattle.tl_syntax.specs.Lists.{Among}
use Rattle.tl_syntax.specs.Signature.{Signature}
use Rattle.tl_syntax.specs.Trees.{FormulaTree, conjunction, disjunction, formulas_of_list}
use Rattle.tl_syntax.proofs.ListLaws.{One-append, Each-append}
use Rattle.tl_syntax.proofs.Plain.{both}
use Rattle.tl_terms.specs.Looked.{LookedTable, looked_in_basics, looked_in_parts}
use Rattle.tl_terms.specs.Operations.{Operation}
use Rattle.tl_terms.specs.Situation.{Situation}
use Rattle.tl_progress.specs.Parts.{parts, IsBelow, join_parts, IsJoin}
use Rattle.tl_progress.specs.Sentences.{FitsSomewhere}

-- below, and smaller
pub record IsLower (n : Bool) (ts : List FormulaTree) (at q : ℕ) : Type 0 where
  pub less : q < at
  pub below : IsBelow n ts at q

-- how a part's tree stands in the whole tree
record Stands (n : Bool) (g : FormulaTree) (f : FormulaTree) : Type 0 where
  fits : (s : Signature) (around : List ℕ) → Fits s around f → Fits s around g
  scope : (slots : List ℕ) → InScope slots (free_slots f) → InScope slots (free_slots g)
  looked : (d : LookedTable) (bs : List Situation) (s : Situation) (e : Assignment) (o : Operation) →
      Among o (looked_in_basics n d bs s e g) → Among o (looked_in_basics n d bs s e f)

lower : (n : Bool) (ts : List FormulaTree) (at q : ℕ) (f g : FormulaTree) → q < at → tree_at ts at ≡ f → tree_at ts q ≡ g → Stands n g f →
    IsLower n ts at q
lower n ts at q f g less e k h = record {
  less = less;
  below = record {
    under = omega arith;
    fits = λ s a x. subst (Fits s a) (sym k) (h.fits s a (subst (Fits s a) e x));
    scope = λ q x. subst (λ t. InScope q (free_slots t)) (sym k) (h.scope q (subst (λ t. InScope q (free_slots t)) e x));
    looked = λ d bs s c o x. subst (λ t. Among o (looked_in_basics n d bs s c t)) (sym e)
        (h.looked d bs s c o (subst (λ t. Among o (looked_in_basics n d bs s c t)) k x));
  };
}

all-fit-at : (g : Signature) (around : List ℕ) (ts : List FormulaTree) (ids : List ℕ) (q : ℕ) → Among q ids →
    AllFit g around (formulas_of_list (map (tree_at ts) ids)) → Fits g around (tree_at ts q)
unfolding Fits
all-fit-at g around ts [] q h f = absurd h
all-fit-at g around ts (i ∷ ids) q h f = elim h [
  | inl e ↦ subst (λ k. Fits g around (tree_at ts k)) e f.0
  | inr k ↦ all-fit-at g around ts ids q k f.1
]

all-scope-at : (slots : List ℕ) (ts : List FormulaTree) (ids : List ℕ) (q : ℕ) → Among q ids →
    InScope slots (all_free_slots (formulas_of_list (map (tree_at ts) ids))) → InScope slots (free_slots (tree_at ts q))
unfolding free_slots
all-scope-at slots ts [] q h f = absurd h
all-scope-at slots ts (i ∷ ids) q h f =
    let both = (Each-append (λ k. IsTrue (is_slot_in slots k)) (free_slots (tree_at ts i))
    (all_free_slots (formulas_of_list (map (tree_at ts) ids)))).0 f in
    elim h [
      | inl e ↦ subst (λ k. InScope slots (free_slots (tree_at ts k))) e both.0
      | inr k ↦ all-scope-at slots ts ids q k both.1
    ]

looked-at : (n : Bool) (d : LookedTable) (bs : List Situation) (s : Situation) (e : Assignment) (o : Operation) (ts : List FormulaTree)
    (ids : List ℕ) (q : ℕ) → Among q ids
    → Among o (looked_in_basics n d bs s e (tree_at ts q)) → Among o (looked_in_parts n d bs s e (formulas_of_list (map (tree_at ts) ids)))
unfolding looked_in_basics
looked-at n d bs s e o ts [] q h f = absurd h
looked-at n d bs s e o ts (i ∷ ids) q h f =
    (One-append (λ y. y ≡ o) (looked_in_basics n d bs s e (tree_at ts i))
    (looked_in_parts n d bs s e (formulas_of_list (map (tree_at ts) ids)))).1
    (elim h [
      | inl k ↦ inl (subst (λ j. Among o (looked_in_basics n d bs s e (tree_at ts j))) (sym k) f)
      | inr k ↦ inr (looked-at n d bs s e o ts ids q k f)
    ])

pub less-at : (at : ℕ) (ids : List ℕ) (q : ℕ) → all_below at ids ≡ true → Among q ids → q < at
less-at at [] q b h = absurd h
less-at at (i ∷ ids) q b h =
    let p = both (nat_lt i at) (all_below at ids) b in
    elim h [
      | inl e ↦ subst (λ k. k < at) e (ltb-true i at p.0)
      | inr k ↦ less-at at ids q p.1 k
    ]

module _ (n : Bool) (ts : List FormulaTree) (at q : ℕ) where
  one : (i : ℕ) (f : FormulaTree) → nat_lt i at ≡ true → (i ≡ q) ⊎ ⊥ → tree_at ts at ≡ f → Stands n (tree_at ts i) f → IsLower n ts at q
  one i f less h is s = elim h [
    | inl e ↦ lower n ts at q f (tree_at ts i) (subst (λ k. k < at) e (ltb-true i at less)) is
        (sym (ap (tree_at ts) e)) s
    | inr b ↦ absurd b
  ]

  pub part-lower : (a : Node) → slice_get ts at ≡ Some (tree_of_node ts a) → fits at a ≡ true → Among q (parts n a) → IsLower n ts at q
  unfolding tree_of_node fits Fits free_slots looked_in_basics
  part-lower node.True is w h = absurd h
  part-lower node.False is w h = absurd h
  part-lower (node.Basic f) is w h = absurd h
  part-lower (node.Not i) is w h = one i _ w h (at-is ts at _ is) (record
      { fits = λ s a x. x; scope = λ q x. x; looked = λ d bs s e o x. x })
  part-lower (node.And ids) is w h = lower n ts at q _ (tree_at ts q) (less-at at ids q w h) (at-is ts at _ is) refl
      (record {
        fits = λ s a x. all-fit-at s a ts ids q h x;
        scope = λ k x. all-scope-at k ts ids q h x;
        looked = λ d bs s e o x.
            looked-at n d bs s e o ts ids q h x;
      })
  part-lower (node.Or ids) is w h = lower n ts at q _ (tree_at ts q) (less-at at ids q w h) (at-is ts at _ is) refl
      (record {
        fits = λ s a x. all-fit-at s a ts ids q h x;
        scope = λ k x. all-scope-at k ts ids q h x;
        looked = λ d bs s e o x.
            looked-at n d bs s e o ts ids q h x;
      })
  part-lower (node.Next i) is w h = by n refl h
    where
      by : (m : Bool) → n ≡ m → Among q (cond m (i ∷ []) []) → IsLower n ts at q
      by true k h = one i _ w h (at-is ts at _ is) (record {
        fits = λ s a x. x;
        scope = λ q x. x;
        looked = λ d bs s e o x.
            subst (λ b. Among o (cond b (looked_in_basics n d bs s e (tree_at ts i)) [])) (sym k) x;
      })
      by false k h = absurd h
  part-lower (node.Always i) is w h = one i _ w h (at-is ts at _ is) (record
      { fits = λ s a x. x; scope = λ q x. x; looked = λ d bs s e o x. x })
  part-lower (node.Eventually i) is w h = one i _ w h (at-is ts at _ is)
      (record { fits = λ s a x. x; scope = λ q x. x; looked = λ d bs s e o x. x })
  part-lower (node.Until i j) is w h = by n h
    where
      first : (i ≡ q) ⊎ ⊥ → IsLower n ts at q
      first k = one i _ (both (nat_lt i at) (nat_lt j at) w).0 k (at-is ts at _ is)
          (record {
            fits = λ s a x. x.0;
            scope = λ q x. ((Each-append (λ k. IsTrue (is_slot_in q k)) (free_slots (tree_at ts i))
                (free_slots (tree_at ts j))).0 x).0;
            looked = λ d bs s e o x.
                (One-append (λ y. y ≡ o) (looked_in_basics n d bs s e (tree_at ts i)) (looked_in_basics n d bs s e (tree_at ts j))).1
                (inl x);
          })

      second : (j ≡ q) ⊎ ⊥ → IsLower n ts at q
      second k = one j _ (both (nat_lt i at) (nat_lt j at) w).1 k (at-is ts at _ is)
          (record {
            fits = λ s a x. x.1;
            scope = λ q x. ((Each-append (λ k. IsTrue (is_slot_in q k)) (free_slots (tree_at ts i))
                (free_slots (tree_at ts j))).0 x).1;
            looked = λ d bs s e o x.
                (One-append (λ y. y ≡ o) (looked_in_basics n d bs s e (tree_at ts i)) (looked_in_basics n d bs s e (tree_at ts j))).1
                (inr x);
          })

      by : (m : Bool) → Among q (cond m (j ∷ []) (i ∷ j ∷ [])) → IsLower n ts at q
      by true h = second h
      by false h = elim h [ inl k ↦ first (inl k) | inr k ↦ second k ]
  part-lower (node.Within m i) is w h = one i _ w h (at-is ts at _ is)
      (record { fits = λ s a x. x; scope = λ q x. x; looked = λ d bs s e o x. x })
  part-lower (node.During m i) is w h = one i _ w h (at-is ts at _ is)
      (record { fits = λ s a x. x; scope = λ q x. x; looked = λ d bs s e o x. x })
  part-lower (node.ForAll vs b i) is w h = absurd h
  part-lower (node.Exists vs b i) is w h = absurd h

pub itself : (n : Bool) (ts : List FormulaTree) (id : ℕ) → IsBelow n ts id id
itself n ts id = record { under = omega arith; fits = λ g a x. x; scope = λ q x. x; looked = λ d bs s e o x. x }

pub further : (n : Bool) (ts : List FormulaTree) (id at q : ℕ) → IsBelow n ts id at → IsBelow n ts at q → IsBelow n ts id q
further n ts id at q a b =
    let u = a.under in let v = b.under in
    record {
      under = omega arith;
      fits = λ g r x. b.fits g r (a.fits g r x);
      scope = λ q x. b.scope q (a.scope q x);
      looked =
          λ d bs s e o x. a.looked d bs s e o (b.looked d bs s e o x);
    }

-- ---- the parts of a join

module _ (n : Bool) (ts : List FormulaTree) (junction : Junction) (ids : List ℕ) (q : ℕ) (h : Among q ids) where
  pub part-fits : (g : Signature) → FitsSomewhere g (tree_of_node ts (join_node junction ids)) → FitsSomewhere g (tree_at ts q)
  unfolding tree_of_node Fits
  part-fits g x = record { around = x.around; fits = all-fit-at g x.around ts ids q h (by junction x.fits) }
    where
      by : (b : Junction) → Fits g x.around (tree_of_node ts (join_node b ids)) →
          AllFit g x.around (formulas_of_list (map (tree_at ts) ids))
      by All y = y
      by Any y = y

  pub part-looked : (d : LookedTable) (bs : List Situation) (s : Situation) (e : Assignment) (o : Operation) →
      Among o (looked_in_basics n d bs s e (tree_at ts q)) → Among o (looked_in_basics n d bs s e
      (tree_of_node ts (join_node junction ids)))
  unfolding tree_of_node looked_in_basics
  part-looked d bs s e o x = by junction
    where
      by : (b : Junction) → Among o (looked_in_basics n d bs s e (tree_of_node ts (join_node b ids)))
      by All = looked-at n d bs s e o ts ids q h x
      by Any = looked-at n d bs s e o ts ids q h x

pub among-or : (ids : List ℕ) (i d : ℕ) → i < length ids → Among (get_or ids i d) ids
among-or [] i d h = absurd (omega arith)
among-or (j ∷ ids) zero d h = inl refl
among-or (j ∷ ids) (suc i) d h = inr (among-or ids i d (omega arith))

pub among-at : (ids : List ℕ) (i : ℕ) → i < length ids → Among (get_or ids i 0) ids
among-at ids i h = among-or ids i 0 h

-- ---- the parts of a join by their positions

all-fit-in : (g : Signature) (around : List ℕ) (fs : List FormulaTree) (i : ℕ) (f : FormulaTree) → slice_get fs i ≡ Some f →
    AllFit g around (formulas_of_list fs) → Fits g around f
unfolding Fits
all-fit-in g around [] i f k h = absurd (let z : ⊥ = cc in z)
all-fit-in g around (x ∷ fs) zero f k h = let e : x ≡ f = cc in subst (Fits g around) e h.0
all-fit-in g around (x ∷ fs) (suc i) f k h = all-fit-in g around fs i f k h.1

all-scope-in : (slots : List ℕ) (fs : List FormulaTree) (i : ℕ) (f : FormulaTree) → slice_get fs i ≡ Some f →
    InScope slots (all_free_slots (formulas_of_list fs)) → InScope slots (free_slots f)
unfolding free_slots
all-scope-in slots [] i f k h = absurd (let z : ⊥ = cc in z)
all-scope-in slots (x ∷ fs) zero f k h =
    let both = (Each-append (λ q. IsTrue (is_slot_in slots q)) (free_slots x) (all_free_slots (formulas_of_list fs))).0 h in
    let e : x ≡ f = cc in subst (λ g. InScope slots (free_slots g)) e both.0
all-scope-in slots (x ∷ fs) (suc i) f k h = all-scope-in slots fs i f k
    ((Each-append (λ q. IsTrue (is_slot_in slots q)) (free_slots x) (all_free_slots (formulas_of_list fs))).0 h).1

looked-in : (n : Bool) (d : LookedTable) (bs : List Situation) (s : Situation) (e : Assignment) (o : Operation) (fs : List FormulaTree)
    (i : ℕ) (f : FormulaTree) → slice_get fs i ≡ Some f
    → Among o (looked_in_basics n d bs s e f) → Among o (looked_in_parts n d bs s e (formulas_of_list fs))
unfolding looked_in_basics
looked-in n d bs s e o [] i f k h = absurd (let z : ⊥ = cc in z)
looked-in n d bs s e o (x ∷ fs) zero f k h =
    let q : f ≡ x = cc in
    (One-append (λ y. y ≡ o) (looked_in_basics n d bs s e x) (looked_in_parts n d bs s e (formulas_of_list fs))).1
    (inl (subst (λ g. Among o (looked_in_basics n d bs s e g)) q h))
looked-in n d bs s e o (x ∷ fs) (suc i) f k h =
    (One-append (λ y. y ≡ o) (looked_in_basics n d bs s e x) (looked_in_parts n d bs s e (formulas_of_list fs))).1
    (inr (looked-in n d bs s e o fs i f k h))

pub part-among : (n : Bool) (ts : List FormulaTree) (at : ℕ) (junction : Junction) → IsJoin junction (tree_at ts at) → (i q : ℕ) → q < at →
    slice_get (join_parts (tree_at ts at)) i ≡ Some (tree_at ts q) → IsBelow n ts at q
unfolding Fits free_slots looked_in_basics
part-among n ts at junction join i q less there = by junction join
  where
    by : (b : Junction) → IsJoin b (tree_at ts at) → IsBelow n ts at q
    by All e = (lower n ts at q (conjunction (formulas_of_list (join_parts (tree_at ts at)))) (tree_at ts q) less e refl (record {
      fits = λ g a x. all-fit-in g a (join_parts (tree_at ts at)) i (tree_at ts q) there x;
      scope = λ k x. all-scope-in k (join_parts (tree_at ts at)) i (tree_at ts q) there x;
      looked = λ d bs s c o x. looked-in n d bs s c o (join_parts (tree_at ts at)) i (tree_at ts q) there x;
    })).below
    by Any e = (lower n ts at q (disjunction (formulas_of_list (join_parts (tree_at ts at)))) (tree_at ts q) less e refl (record {
      fits = λ g a x. all-fit-in g a (join_parts (tree_at ts at)) i (tree_at ts q) there x;
      scope = λ k x. all-scope-in k (join_parts (tree_at ts at)) i (tree_at ts q) there x;
      looked = λ d bs s c o x. looked-in n d bs s c o (join_parts (tree_at ts at)) i (tree_at ts q) there x;
    })).below
