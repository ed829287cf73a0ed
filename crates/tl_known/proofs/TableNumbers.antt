-- What the numbers of tables tell of worlds.
use Rattle.std.proofs.Common.{◌≡◌, ◌⊎◌, ◌||◌, ◌&&◌, not, ℕ, zero, suc, ◌+◌, ◌<◌, ◌≤◌, Bool, true, false, true≢false, List, [], ◌∷◌, ◌++◌}
use Rattle.std.proofs.Common.{map, length, length-append, length-take, get_or, take, drop, slice_get, Option, Some, None, cond, refl, sym}
use Rattle.std.proofs.Common.{ap, ◌∙◌, subst, arith, inl, inr, eq-eqb}
use Rattle.std.proofs.lemmas.List.{take-append-le, take-take, take_all}
use Rattle.std.proofs.lemmas.Option.{slice_get_within, slice_get-get_or, slice_get_cases}
use Rattle.std.specs.FinMap as dict
use Rattle.std.specs.FinSet as set
use Rattle.std.specs.Ordering.{eq_by_cmp}
use Rattle.std.specs.Prelude.{nat_eq}
use Rattle.tl_syntax.specs.declared.fact.Fact.{Fact}
use Rattle.tl_syntax.specs.declared.place_value.PlaceValue.{PlaceValue}
use Rattle.tl_syntax.specs.declared.value.Value.{Value}
use Rattle.tl_syntax.specs.Keys.{Key, key_cmp, fact_key, place_entry}
use Rattle.tl_syntax.proofs.TotalOrders.{key_total}
use Rattle.tl_terms.specs.Step.{without_all}
use Rattle.tl_terms.specs.Acceptance.{is_value}
use Rattle.tl_terms.specs.World.{World}
use Rattle.tl_known.specs.declared.table_name.TableName.{TableName}
use Rattle.tl_known.specs.declared.table_name.TableName.TheVariants.{Pred, Fun}
use Rattle.tl_world.specs.Edits.{changed_facts, changed_places, lists_fact}
use Rattle.tl_known.specs.NumberedLists.{IsAdded}
use Rattle.tl_known.specs.TableNumbers.{changes_table, lists_pred, sets_fun, standing, tables_in, AreAlikeOf, AreNumbered, AreTableNumbers}
use Rattle.tl_known.specs.TableNumbers.{ComesFrom, IsTableNumber, LaterStandFrom, StandFrom, TellAlike, says}
use Rattle.tl_world.proofs.Orders.{contains-all, contains-without, key-is}
use Rattle.tl_known.proofs.TableNames.{get-left, get-dropped}

-- worlds that are alike in a table
alike-then : (t : TableName) (u v w : World) → AreAlikeOf t u v → AreAlikeOf t v w → AreAlikeOf t u w
alike-then t u v w h k = λ a x. h a x ∙ k a x

alike-same : (t : TableName) (v w : World) → v ≡ w → AreAlikeOf t v w
alike-same t v w e = λ a x. ap (λ (u : World). says t u a x) e

-- what stands at a place of the first items
get-first : {A : Type 0} (n : ℕ) (xs : List A) (i : ℕ) → i < n → slice_get (take n xs) i ≡ slice_get xs i
get-first zero xs i p = absurd (omega (arith, p))
get-first (suc n) [] i p = refl
get-first (suc n) (x ∷ xs) zero p = refl
get-first (suc n) (x ∷ xs) (suc i) p = get-first n xs i (omega (arith, p))

pub get-taken : {A : Type 0} (n : ℕ) (xs : List A) (i : ℕ) (x : A) → slice_get (take n xs) i ≡ Some x → (i < n) × (slice_get xs i ≡ Some x)
get-taken n xs i x e =
    let below : i < n = let q = slice_get_within (take n xs) i x e in let l = length-take n xs in omega (arith, q, l) in
    (below, sym (get-first n xs i below) ∙ e)

-- a number among the first worlds is one among all
number-of-all : (n : ℕ) (ws : List World) (t : TableName) (w : World) (k : ℕ) → IsTableNumber (take n ws) t w k → IsTableNumber ws t w k
number-of-all n ws t w k h =
    let below = h.0 in
    let l = length-take n ws in
    let first : k < n = omega (arith, below, l) in
    (omega (arith, below, l), λ v e. h.1 v (get-first n ws k first ∙ e))

-- without numbers nothing is told
pub tell-nothing : (w v : World) (ls : List ℕ) → TellAlike w [] v ls
tell-nothing w v ls i j t k _ _ e _ = let d : ⊥ = cc in absurd d

module _ (ws : List World) where
  -- two tables with one number
  pub numbers-tell : (w v : World) (ks ls : List ℕ) → AreTableNumbers ws w ks → AreTableNumbers ws v ls → TellAlike w ks v ls
  numbers-tell w v ks ls a b i j t k e f g h =
      let m = a i t k e g in
      let n = b j t k f h in
      let at = slice_get-get_or ws k w m.0 in
      let u = get_or ws k w in
      λ a x. sym (m.1 u at a x) ∙ n.1 u at a x

  pub numbers-at : (starts all : List ℕ) (n : ℕ) (w : World) → AreNumbered ws starts all → slice_get ws n ≡ Some w →
      AreTableNumbers ws w (standing all (slice_get starts n))
  numbers-at starts all n w h e = by (slice_get starts n) refl
    where
      by : (s : Option ℕ) → slice_get starts n ≡ s → AreTableNumbers ws w (standing all s)
      by None _ = λ i t k _ f. let d : ⊥ = cc in absurd d
      by (Some s) f = λ i t k g m. number-of-all (suc n) ws t w k ((h.1 n s w e f).0.1 i t k g m)

-- what stands at a place of a list with one item more
at-end : {A : Type 0} (xs : List A) (x y : A) (i : ℕ) → slice_get (xs ++ x ∷ []) i ≡ Some y → (slice_get xs i ≡ Some y) ⊎
    ((i ≡ length xs) × (x ≡ y))
at-end [] x y zero e = inr (refl, let d : x ≡ y = cc in d)
at-end [] x y (suc i) e = let d : ⊥ = cc in absurd d
at-end (z ∷ xs) x y zero e = inl e
at-end (z ∷ xs) x y (suc i) e = later (at-end xs x y i e)
  where
    later : (slice_get xs i ≡ Some y) ⊎ ((i ≡ length xs) × (x ≡ y)) → (slice_get xs i ≡ Some y) ⊎ ((suc i ≡ length (z ∷ xs)) × (x ≡ y))
    later (inl f) = inl f
    later (inr f) = inr (ap suc f.0, f.1)

-- one more of a world's numbers
pub numbers-more : (ws : List World) (w : World) (ks : List ℕ) (q : TableName) (one : ℕ) → AreTableNumbers ws w ks →
    slice_get (tables_in w) (length ks) ≡ Some q → IsTableNumber ws q w one → AreTableNumbers ws w (ks ++ one ∷ [])
numbers-more ws w ks q one are at number i t k e f = by (at-end ks one k i f)
  where
    by : (slice_get ks i ≡ Some k) ⊎ ((i ≡ length ks) × (one ≡ k)) → IsTableNumber ws t w k
    by (inl g) = are i t k e g
    by (inr g) =
        let same : q ≡ t = let both : Some q ≡ Some t = sym at ∙ (ap (slice_get (tables_in w)) (sym g.0) ∙ e) in cc in
        subst (λ m. IsTableNumber ws m w k) same (subst (IsTableNumber ws q w) g.1 number)

pub numbers-next : (ws : List World) (number : ℕ) (v w : World) (ks ls : List ℕ) (i : ℕ) (q : TableName) (one : ℕ) → slice_get ws number ≡
    Some v → slice_get ws number ≡ Some w → length ks ≡ i → slice_get (tables_in v) i ≡ Some q → ls ≡ ks ++ one ∷ []
    → AreTableNumbers ws w ks → IsTableNumber ws q w one → AreTableNumbers ws w ls
numbers-next ws number v w ks ls i q one e f size at is are one-is =
    let same : v ≡ w = let both : Some v ≡ Some w = sym e ∙ f in cc in
    subst (AreTableNumbers ws w) (sym is) (numbers-more ws w ks q one are
    (ap (slice_get (tables_in w)) size ∙ (ap (λ u. slice_get (tables_in u) i) (sym same) ∙ at)) one-is)

-- the world of a number that is looked at
pub number-of-one : (ws : List World) (k : ℕ) (v w : World) (t : TableName) → slice_get ws k ≡ Some v → AreAlikeOf t v w →
    IsTableNumber ws t w k
number-of-one ws k v w t e alike = (
  slice_get_within ws k v e,
  λ u f. let same : u ≡ v = let both : Some u ≡ Some v = sym f ∙ e in cc in
      alike-then t u v w (alike-same t u v same) alike,
)

-- numbers keep their place where others are put after them
stand-longer : (ws : List World) (all fresh : List ℕ) (s : ℕ) (w : World) → StandFrom ws all s w → StandFrom ws (all ++ fresh) s w
stand-longer ws all fresh s w h =
    let more : length (all ++ fresh) ≡ length all + length fresh = length-append all fresh in (
      omega (arith, h.0, more),
      λ i t k e f.
          let below : s + i < length all = let q = slice_get_within (tables_in w) i t e in omega (arith, h.0, q) in
          h.1 i t k e (get-dropped s all i ∙ (sym (get-left all fresh (s + i) below) ∙ (sym (get-dropped s (all ++ fresh) i) ∙ f))),
    )

pub numbered-longer : (ws : List World) (starts all fresh : List ℕ) → AreNumbered ws starts all → AreNumbered ws starts (all ++ fresh)
numbered-longer ws starts all fresh h = (
  h.0,
  λ n s w e f. let old = h.1 n s w e f in
      (stand-longer (take (suc n) ws) all fresh s w old.0, old.1),
)

drop-front : {A : Type 0} (xs ys : List A) → drop (length xs) (xs ++ ys) ≡ ys
drop-front [] ys = refl
drop-front (x ∷ xs) ys = drop-front xs ys

-- the numbers of the last world come after those of the others
pub numbered-more : (ws : List World) (starts all fresh : List ℕ) (w : World) → AreNumbered ws starts all → slice_get ws (length starts) ≡
    Some w → length starts + 1 ≡ length ws → length fresh ≡ length (tables_in w) → AreTableNumbers ws w fresh
    → AreNumbered ws (starts ++ length all ∷ []) (all ++ fresh)
numbered-more ws starts all fresh w h at last many are =
    let size : length (starts ++ length all ∷ []) ≡ length starts + 1 = length-append starts (length all ∷ []) in
    (omega (arith, size, last), λ n s v e f. by n s v e (at-end starts (length all) s n f))
  where
    own : StandFrom ws (all ++ fresh) (length all) w
    own =
        let more : length (all ++ fresh) ≡ length all + length fresh = length-append all fresh in
        (omega (arith, more, many), subst (AreTableNumbers ws w) (sym (drop-front all fresh)) are)

    later : (n s : ℕ) (v : World) → StandFrom (take (suc n) ws) all s v → LaterStandFrom starts n (s + length (tables_in v)) →
        LaterStandFrom (starts ++ length all ∷ []) n (s + length (tables_in v))
    later n s v here old m t p f = then (at-end starts (length all) t m f)
      where
        then : (slice_get starts m ≡ Some t) ⊎ ((m ≡ length starts) × (length all ≡ t)) → s + length (tables_in v) ≤ t
        then (inl g) = old m t p g
        then (inr g) = let low = here.0 in let is = g.1 in omega (arith, low, is)

    past : (n e : ℕ) → n ≡ length starts → LaterStandFrom (starts ++ length all ∷ []) n e
    past n e is m t p f =
        let size : length (starts ++ length all ∷ []) ≡ length starts + 1 = length-append starts (length all ∷ []) in
        let below = slice_get_within (starts ++ length all ∷ []) m t f in
        absurd (omega (arith, size, below, p, is))

    by : (n s : ℕ) (v : World) → slice_get ws n ≡ Some v → (slice_get starts n ≡ Some s) ⊎ ((n ≡ length starts) × (length all ≡ s)) →
        StandFrom (take (suc n) ws) (all ++ fresh) s v × LaterStandFrom (starts ++ length all ∷ []) n (s + length (tables_in v))
    by n s v e (inl f) = let old = h.1 n s v e f in (stand-longer (take (suc n) ws) all fresh s v old.0, later n s v old.0 old.1)
    by n s v e (inr f) =
        let same : w ≡ v = let both : Some w ≡ Some v = sym at ∙ (ap (slice_get ws) (sym f.0) ∙ e) in cc in
        let is = f.0 in
        let whole : take (suc n) ws ≡ ws = take_all (suc n) ws (let p : length ws ≤ suc n = omega (arith, is, last) in p) in (
          subst (λ us. StandFrom us (all ++ fresh) s v) (sym whole) (subst (λ u. StandFrom ws (all ++ fresh) s u) same
              (subst (λ i. StandFrom ws (all ++ fresh) i w) f.1 own)),
          past n (s + length (tables_in v)) is,
        )

-- so they do after a call that adds them
pub noted : (ws : List World) (s0 a0 s1 a1 s2 a2 part fresh : List ℕ) (number : ℕ) → AreNumbered ws s0 a0 → s1 ≡ s0 → a1 ≡ a0 → number ≡
    length s0 → number + 1 ≡ length ws
    → ((w : World) → slice_get ws number ≡ Some w → length fresh ≡ length (tables_in w)) →
    ((w : World) → slice_get ws number ≡ Some w → AreTableNumbers ws w fresh)
    → part ≡ fresh → s2 ≡ s1 ++ length a1 ∷ [] → a2 ≡ a1 ++ part → AreNumbered ws s2 a2
noted ws s0 a0 s1 a1 s2 a2 part fresh number h p q size last many are same r t = by (slice_get_cases ws number).1
  where
    begun : AreNumbered ws s1 a1
    begun = subst (λ s. AreNumbered ws s a1) (sym p) (subst (AreNumbered ws s0) (sym q) h)

    by : ((x : World) × (number < length ws) × (slice_get ws number ≡ Some x) × (get_or ws number x ≡ x)) ⊎
        ((length ws ≤ number) × (slice_get ws number ≡ None)) → AreNumbered ws s2 a2
    by (inl w) =
        let at : slice_get ws (length s1) ≡ Some w.0 = ap (slice_get ws) (ap length p ∙ sym size) ∙ w.2 in
        subst (λ s. AreNumbered ws s a2) (sym r) (subst (AreNumbered ws (s1 ++ length a1 ∷ [])) (sym t)
        (numbered-more ws s1 a1 part w.0 begun at (let l : length s1 ≡ length s0 = ap length p in omega (arith, l, size, last))
        (ap length same ∙ many w.0 w.2) (subst (AreTableNumbers ws w.0) (sym same) (are w.0 w.2))))
    by (inr past) = let over = past.0 in absurd (omega (arith, over, last))

-- and after one that does not
pub not-noted : (ws : List World) (s0 a0 s1 a1 s2 a2 part : List ℕ) → AreNumbered ws s0 a0 → s1 ≡ s0 → a1 ≡ a0 → s2 ≡ s1 → (a2 ≡ a1) ⊎
    (a2 ≡ a1 ++ part) → AreNumbered ws s2 a2
not-noted ws s0 a0 s1 a1 s2 a2 part h p q r t = subst (λ s. AreNumbered ws s a2) (sym (r ∙ p)) (by t)
  where
    by : (a2 ≡ a1) ⊎ (a2 ≡ a1 ++ part) → AreNumbered ws s0 a2
    by (inl e) = subst (AreNumbered ws s0) (sym (e ∙ q)) h
    by (inr e) = subst (AreNumbered ws s0) (sym (e ∙ ap (λ xs. xs ++ part) q)) (numbered-longer ws s0 a0 part h)

-- a world more leaves the numbers of tables as they are
pub numbered-later : (ws vs : List World) (x : World) (starts all : List ℕ) → IsAdded ws x vs → AreNumbered ws starts all →
    AreNumbered vs starts all
numbered-later ws vs x starts all (inl e) h = subst (λ us. AreNumbered us starts all) (sym e) h
numbered-later ws vs x starts all (inr e) h = subst (λ us. AreNumbered us starts all) (sym e) later
  where
    longer : length (ws ++ x ∷ []) ≡ length ws + 1
    longer = length-append ws (x ∷ [])

    later : AreNumbered (ws ++ x ∷ []) starts all
    later = (
      let few = h.0 in omega (arith, longer, few),
      λ n s w e f.
          let below : n < length ws = let few = h.0 in let q = slice_get_within starts n s f in omega (arith, few, q) in
          let old = h.1 n s w (sym (get-left ws (x ∷ []) n below) ∙ e) f in
          let first : take (suc n) (ws ++ x ∷ []) ≡ take (suc n) ws = take-append-le (suc n) ws (x ∷ [])
          (let p : suc n ≤ length ws = omega (arith, below) in p) in
          (subst (λ us. StandFrom us all s w) (sym first) old.0, old.1),
    )

-- the numbers of the first worlds, those of the others are let go
module _ (ws : List World) (starts all : List ℕ) (c : ℕ) (h : AreNumbered ws starts all) where
  few : length starts ≤ c → length starts ≤ length (take c ws)
  few p = let l = length-take c ws in let q = h.0 in omega (arith, l, p, q)

  first : (n : ℕ) → n < c → take (suc n) ws ≡ take (suc n) (take c ws)
  first n p = sym (take-take (suc n) c ws (let q : suc n ≤ c = omega (arith, p) in q))

  pub numbered-still : length starts ≤ c → AreNumbered (take c ws) starts all
  numbered-still p = (
    few p,
    λ n s w e f.
        let at = get-taken c ws n w e in
        let old = h.1 n s w at.1 f in
        (subst (λ us. StandFrom us all s w) (first n at.0) old.0, old.1),
  )

  -- numbers before a place
  stand-first : (us : List World) (s t : ℕ) (w : World) → StandFrom us all s w → s + length (tables_in w) ≤ t →
      StandFrom us (take t all) s w
  stand-first us s t w old p =
      let l = length-take t all in
      let q = old.0 in (
        omega (arith, l, p, q),
        λ i name k e f.
            let g = get-taken t all (s + i) k (sym (get-dropped s (take t all) i) ∙ f) in
            old.1 i name k e (get-dropped s all i ∙ g.1),
      )

  pub numbered-first : (start : ℕ) → slice_get starts c ≡ Some start → AreNumbered (take c ws) (take c starts) (take start all)
  numbered-first start is = (
    let within = slice_get_within starts c start is in
        let l = length-take c ws in
        let m = length-take c starts in
        let q = h.0 in
        omega (arith, within, l, m, q),
    λ n s w e f.
        let at = get-taken c ws n w e in
        let from = get-taken c starts n s f in
        let old = h.1 n s w at.1 from.1 in (
          stand-first (take (suc n) (take c ws)) s start w (subst (λ us. StandFrom us all s w) (first n at.0) old.0)
              (old.1 c start at.0 is),
          λ m t p g. old.1 m t p (get-taken c starts m t g).1,
        ),
  )

-- a world still comes from the same one
pub comes-later : (ws vs : List World) (from : ℕ) (dels adds : List Fact) (sets : List PlaceValue) (w : World) → IsAdded ws w vs →
    ComesFrom ws from dels adds sets w → ComesFrom vs from dels adds sets w
comes-later ws vs from dels adds sets w (inl e) h = λ v t f. h v t (ap (λ us. slice_get us from) (sym e) ∙ f)
comes-later ws vs from dels adds sets w (inr e) h = λ v t f free. by v t free
    (at-end ws w v from (ap (λ us. slice_get us from) (sym e) ∙ f))
  where
    by : (v : World) (t : TableName) → changes_table dels adds sets t ≡ false → (slice_get ws from ≡ Some v) ⊎
        ((from ≡ length ws) × (w ≡ v)) → AreAlikeOf t v w
    by v t free (inl g) = h v t g free
    by v t free (inr g) = alike-same t v w (sym g.1)

-- and so does the one that has its number
pub later-of : (ws vs : List World) (number from : ℕ) (dels adds : List Fact) (sets : List PlaceValue) (x w : World) → IsAdded ws x vs →
    slice_get vs number ≡ Some x → slice_get vs number ≡ Some w → ComesFrom ws from dels adds sets x → ComesFrom vs from dels adds sets w
later-of ws vs number from dels adds sets x w added at e h =
    let same : x ≡ w = let both : Some x ≡ Some w = sym at ∙ e in cc in
    subst (ComesFrom vs from dels adds sets) same (comes-later ws vs from dels adds sets x added h)

-- no world has the next number
pub comes-from-none : (ws : List World) (from : ℕ) (dels adds : List Fact) (sets : List PlaceValue) (w : World) → length ws ≤ from →
    ComesFrom ws from dels adds sets w
comes-from-none ws from dels adds sets w past v t e = let below = slice_get_within ws from v e in absurd (omega (arith, past, below))

or-first : (a b : Bool) → (a || b) ≡ false → a ≡ false
or-first true b h = h
or-first false b h = refl

or-second : (a b : Bool) → (a || b) ≡ false → b ≡ false
or-second true b h = absurd (true≢false h)
or-second false b h = h

key-apart : (q k : Key) → nat_eq k.0 q.0 ≡ false → eq_by_cmp key_cmp q k ≡ false
key-apart q k h = (elim (eq_by_cmp key_cmp q k) as (λ b. eq_by_cmp key_cmp q k ≡ b → b ≡ false) [
  | true ↦ λ e. absurd (true≢false (sym (eq-eqb k.0 q.0 (sym (ap (λ (x : Key). x.0) (key-is q k e)))) ∙ h))
  | false ↦ λ _. refl
]) refl

unlisted : (fs : List Fact) (p : ℕ) (a : List Value) → lists_pred fs p ≡ false → lists_fact fs (p, a) ≡ false
unlisted [] p a h = refl
unlisted (f ∷ fs) p a h =
    ap (λ b. b || lists_fact fs (p, a)) (key-apart (p, a) (fact_key f) (or-first (nat_eq f.pred p) (lists_pred fs p) h))
    ∙ unlisted fs p a (or-second (nat_eq f.pred p) (lists_pred fs p) h)

-- the values at the places of other functions than those of which places are set
unset : (m : dict.FinMap key_cmp Value) (ps : List PlaceValue) (f : ℕ) (a : List Value) → sets_fun ps f ≡ false →
    dict.get (changed_places m ps) (f, a) ≡ dict.get m (f, a)
unset m [] f a h = refl
unset m (p ∷ ps) f a h =
    dict.get-insert key_total (changed_places m ps) (place_entry p).0 (place_entry p).1 (f, a)
    ∙ (ap (λ b. cond b (Some (place_entry p).1) (dict.get (changed_places m ps) (f, a)))
    (key-apart (f, a) (place_entry p).0 (or-first (nat_eq p.fun f) (sets_fun ps f) h))
    ∙ unset m ps f a (or-second (nat_eq p.fun f) (sets_fun ps f) h))

-- changes leave other tables alone
pub comes-by-changes : (ws : List World) (from : ℕ) (before after : World) (dels adds : List Fact) (sets : List PlaceValue) →
    slice_get ws from ≡ Some before → after.facts ≡ changed_facts before.facts dels adds → after.places ≡ changed_places before.places sets
    → ComesFrom ws from dels adds sets after
comes-by-changes ws from before after dels adds sets at facts places v t e free =
    let same : v ≡ before = let both : Some v ≡ Some before = sym e ∙ at in cc in
    alike-then t v before after (alike-same t v before same) (by t free)
  where
    by : (t : TableName) → changes_table dels adds sets t ≡ false → AreAlikeOf t before after
    by (Pred p) free = λ x _.
        let s = without_all before.facts (map fact_key dels) in
        sym (ap (λ u. set.contains u (p, x)) facts
        ∙ (contains-all s adds (p, x)
        ∙ (ap (λ b. b || set.contains s (p, x)) (unlisted adds p x (or-second (lists_pred dels p) (lists_pred adds p) free))
        ∙ (contains-without before.facts dels (p, x)
        ∙ ap (λ b. not b && set.contains before.facts (p, x)) (unlisted dels p x
        (or-first (lists_pred dels p) (lists_pred adds p) free))))))
    by (Fun f) free = λ x u. ap (λ o. is_value o u) (sym (ap (λ m. dict.get m (f, x)) places ∙ unset before.places sets f x free))
