-- What is remembered of arrivals stays right.
use Rattle.std.proofs.Common.{◌≡◌, Bool, true, false, cond, List, [], ◌∷◌, ◌++◌, slice_get, Some, ◌⊎◌, inl, inr, refl, sym, ap, subst, ◌∙◌}
use Rattle.std.proofs.Common.{if◌then◌else◌}
use Rattle.std.proofs.lemmas.List.{map-append}
use Rattle.std.specs.Map.{lookup}
use Rattle.indexmap.specs.IndexMap.{insert_entry}
use Rattle.tl_syntax.proofs.Plain.{Tells}
use Rattle.tl_syntax.specs.Assignment.{no_values}
use Rattle.tl_syntax.specs.Lists.{Among, Each}
use Rattle.tl_syntax.specs.Trees.{FormulaTree}
use Rattle.tl_terms.specs.Definitions.{situation_of}
use Rattle.tl_terms.specs.Pairs.{Pair}
use Rattle.tl_terms.specs.Problem.{PlainProblem}
use Rattle.tl_terms.specs.Progression.{progressed}
use Rattle.tl_terms.specs.World.{World}
use Rattle.tl_search.specs.declared.arrival.Arrival.{Arrival}
use Rattle.tl_search.specs.declared.arrival.Arrival.TheVariants as arrival
use Rattle.tl_search.proofs.ListLaws.{get-old}
use Rattle.tl_space.specs.declared.numbers.Numbers.{Numbers}
use Rattle.tl_space.specs.Entries.{HasOneMore}
use Rattle.tl_space.specs.Kept.{node_at, nodes_at}
use Rattle.tl_known.specs.NumberedLists.{Stay}
use Rattle.tl_space.specs.Remembered.{pair_in_at, IsKnown, IsRemembered, AreRemembered}
use Rattle.tl_space.proofs.Growing.{stay-longer, world-stays, tree-stays, nodes-stay, IsGiven, AreGiven}

-- ---- worlds and trees that stay

-- the pair of an arrival stays the same
pub arriving-stays : (p : PlainProblem) (ws vs : List World) (ts us : List FormulaTree) (n : Numbers) → IsGiven ws ts n → Stay ws vs →
    Stay ts us → pair_in_at p vs us n ≡ pair_in_at p ws ts n
unfolding pair_in_at
arriving-stays p ws vs ts us n h s t =
    let w = world-stays ws vs n.world s h.0 in
    let f = tree-stays ts us n.label t h.1 in
    λ i. record { world = w i; formula = progressed (situation_of p (w i)) no_values (f i) }

remembered-stays : (p : PlainProblem) (ws vs : List World) (ts us : List FormulaTree) (ns : List Numbers) (e : Numbers × Arrival) →
    AreGiven ws ts ns → Stay ws vs → Stay ts us → IsRemembered p ws ts ns e → IsRemembered p vs us ns e
remembered-stays p ws vs ts us ns e given s t h = record {
  world = stay-longer ws vs e.0.world s h.world;
  label = stay-longer ts us e.0.label t h.label;
  known =
      subst (λ (xs : List Pair). IsKnown xs (pair_in_at p vs us e.0) e.1) (sym (nodes-stay ws vs ts us ns given s t))
      (subst (λ (x : Pair). IsKnown (nodes_at ws ts ns) x e.1) (sym (arriving-stays p ws vs ts us e.0 (h.world, h.label) s t)) h.known);
}

pub all-remembered-stay : (p : PlainProblem) (ws vs : List World) (ts us : List FormulaTree) (ns : List Numbers)
    (es : List (Numbers × Arrival)) → AreGiven ws ts ns → Stay ws vs → Stay ts us → AreRemembered p ws ts ns es →
    AreRemembered p vs us ns es
all-remembered-stay p ws vs ts us ns [] given s t h = tt
all-remembered-stay p ws vs ts us ns (e ∷ es) given s t h = (
  remembered-stays p ws vs ts us ns e given s t h.0,
  all-remembered-stay p ws vs ts us ns es given s t h.1,
)

-- ---- one more pair

known-more : (xs ys : List Pair) (x : Pair) (r : Arrival) → Stay xs ys → IsKnown xs x r → IsKnown ys x r
known-more xs ys x arrival.Pruned s h = h
known-more xs ys x (arrival.Seen k) s h = s k x h
known-more xs ys x (arrival.Fresh k) s h = h

pub nodes-more : (ws : List World) (ts : List FormulaTree) (ns : List Numbers) (n : Numbers) → nodes_at ws ts (ns ++ n ∷ []) ≡
    nodes_at ws ts ns ++ node_at ws ts n ∷ []
nodes-more ws ts ns n = map-append (node_at ws ts) ns (n ∷ [])

pub all-remembered-more : (p : PlainProblem) (ws : List World) (ts : List FormulaTree) (ns : List Numbers) (n : Numbers)
    (es : List (Numbers × Arrival)) → AreRemembered p ws ts ns es → AreRemembered p ws ts (ns ++ n ∷ []) es
all-remembered-more p ws ts ns n [] h = tt
all-remembered-more p ws ts ns n (e ∷ es) h = (
  record {
    world = h.0.world;
    label = h.0.label;
    known = known-more (nodes_at ws ts ns) (nodes_at ws ts (ns ++ n ∷ []))
        (pair_in_at p ws ts e.0) e.1 (λ i x g. subst (λ (xs : List Pair). slice_get xs i ≡ Some x) (sym (nodes-more ws ts ns n))
        (get-old (nodes_at ws ts ns) (node_at ws ts n ∷ []) i x g)) h.0.known;
  },
  all-remembered-more p ws ts ns n es h.1,
)

-- ---- one more entry

pub each-among : {A : Type 0} (P : A → Type 0) (xs : List A) (x : A) → Each P xs → Among x xs → P x
each-among P [] x h a = absurd a
each-among P (y ∷ ys) x h a = by a (each-among P ys x h.1)
  where
    by : (y ≡ x) ⊎ Among x ys → (Among x ys → P x) → P x
    by (inl e) rest = subst P e h.0
    by (inr b) rest = rest b

pub each-more : {A : Type 0} (P : A → Type 0) (xs : List A) (x : A) (ys : List A) → HasOneMore xs x ys → Each P xs → P x → Each P ys
each-more P xs x [] h e p = tt
each-more P xs x (y ∷ ys) h e p = (by h.0, each-more P xs x ys h.1 e p)
  where
    by : Among y xs ⊎ (y ≡ x) → P y
    by (inl a) = each-among P xs y e a
    by (inr q) = subst P (sym q) p

-- ---- the entries of a map

pub picked : {K X : Type 0} (P : K × X → Type 0) (eq : K → K → Bool) (tells : Tells eq) (k : K) (v : X) (es : List (K × X)) → Each P es →
    lookup (eq k) es ≡ Some v → P (k, v)
picked P eq tells k v [] h e = let b : ⊥ = cc in absurd b
picked P eq tells k v (x ∷ es) h e = by (eq k x.0) refl (picked P eq tells k v es h.1)
  where
    by : (b : Bool) → eq k x.0 ≡ b → (lookup (eq k) es ≡ Some v → P (k, v)) → P (k, v)
    by true q rest = let d : x.1 ≡ v = (let f : Some x.1 ≡ Some v = sym (ap (λ b. cond b (Some x.1) (lookup (eq k) es)) q) ∙ e in cc) in
        let c : k ≡ x.0 = (tells k x.0).0 q in subst P (λ i. (sym c i, d i)) h.0
    by false q rest = rest (sym (ap (λ b. cond b (Some x.1) (lookup (eq k) es)) q) ∙ e)

pub inserted-each : {K X : Type 0} (P : K × X → Type 0) (eq : K → K → Bool) → Tells eq → (k : K) (v : X) (es : List (K × X)) → Each P es →
    P (k, v) → Each P (insert_entry eq es k v)
inserted-each P eq tells k v [] h p = (p, tt)
inserted-each P eq tells k v (x ∷ es) h p = by (eq k x.0) refl (inserted-each P eq tells k v es h.1 p)
  where
    by : (b : Bool) → eq k x.0 ≡ b → Each P (insert_entry eq es k v) → Each P (if b then (x.0, v) ∷ es else x ∷ insert_entry eq es k v)
    by true q rest = let c : k ≡ x.0 = (tells k x.0).0 q in (subst (λ z. P (z, v)) c p, h.1)
    by false q rest = (h.0, rest)
