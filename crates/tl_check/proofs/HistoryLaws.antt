-- When the facts of a predicate hold along some worlds.
use Rattle.std.proofs.Common.{◌≡◌, ◌<◌, ◌+◌, ◌-◌, ◌||◌, ℕ, zero, suc, List, [], ◌∷◌, ◌++◌, map, length, get_or, Bool, true, false}
use Rattle.std.proofs.Common.{true≢false, Option, Some, None, IsSome, refl, sym, ap, ◌∙◌, subst, inl, inr, arith}
use Rattle.std.specs.Cmp.{Equal-is, tied_itself}
use Rattle.std.specs.FinSet as set
use Rattle.std.specs.Global.{Vec}
use Rattle.std.specs.HashMap.{get}
use Rattle.std.specs.List.{list_any}
use Rattle.std.specs.Ordering.{eq_by_cmp}
use Rattle.std.specs.Prelude.{slice_get}
use Rattle.std.proofs.lemmas.Option.{slice_get_within}
use native.Mathlib.Decide.{dec_lt}
use Rattle.tl_check.proofs.LineLaws.{truth-stays, before-more}
use Rattle.tl_check.specs.Histories.{AreTracksUpTo, IsFactHistory, TellUpTo}
use Rattle.tl_check.specs.Lines.{truth_from, AreBefore}
use Rattle.tl_check.specs.Told.{TellsNext}
use Rattle.tl_check.specs.Tracks.{changes_in, line_in, fact_with, HaveSeenAll}
use Rattle.tl_check.specs.declared.history.History.{History}
use Rattle.tl_check.specs.declared.line.Change.{Change}
use Rattle.tl_check.specs.declared.tracks.Tracks.{Tracks}
use Rattle.tl_syntax.specs.declared.fact.Fact.{Fact}
use Rattle.tl_syntax.specs.declared.value.Value.{Value}
use Rattle.tl_syntax.specs.DerivedTests.{fact_eq}
use Rattle.tl_syntax.specs.Keys.{Key, key_cmp, fact_key}
use Rattle.tl_syntax.specs.Lists.{Each, Among}
use Rattle.tl_syntax.proofs.TotalOrders.{key_total}
use Rattle.tl_terms.specs.ProblemMeaning.{world_of}
use Rattle.tl_terms.specs.World.{World, has_fact}

-- a world at each position
pub there-is : (ws : List World) (n : ℕ) → n < length ws → (v : World) × (slice_get ws n ≡ Some v)
there-is [] n h = absurd (omega arith)
there-is (w ∷ ws) zero h = (w, refl)
there-is (w ∷ ws) (suc n) h = there-is ws n (omega arith)

pub among-place : (ws : List World) (w : World) → Among w ws → (j : ℕ) × (j < length ws) × (slice_get ws j ≡ Some w)
among-place [] w m = absurd m
among-place (v ∷ ws) w m = elim m [
  | inl q ↦ (0, omega arith, ap (λ (x : World). Some x) q)
  | inr k ↦ (let at = among-place ws w k in (suc at.0, (let l = at.1 in omega arith), at.2))
]

pub among-item : {A : Type 0} (xs : List A) (i : ℕ) (x : A) → i < length xs → x ≡ get_or xs i x → Among x xs
among-item [] i x h q = absurd (omega arith)
among-item (y ∷ xs) zero x h q = inl (sym q)
among-item (y ∷ xs) (suc i) x h q = inr (among-item xs i x (omega arith) q)

pub each-added : {A : Type 0} (P : A → Type 0) (xs ys : List A) (x : A) → ys ≡ xs ++ x ∷ [] → Each P xs → P x → Each P ys
each-added P xs ys x q h k = subst (Each P) (sym q) (by xs h)
  where
    by : (zs : List _) → Each P zs → Each P (zs ++ x ∷ [])
    by [] h = (k, tt)
    by (z ∷ zs) h = (h.0, by zs h.1)

pub each-among : {A : Type 0} (P : A → Type 0) (xs : List A) (x : A) → Each P xs → Among x xs → P x
each-among P [] x h m = absurd m
each-among P (y ∷ xs) x h m = elim m [ inl q ↦ subst P q h.0 | inr n ↦ each-among P xs x h.1 n ]

no-change : (cs : List Change) → AreBefore 0 cs → cs ≡ []
no-change [] h = refl
no-change (c ∷ cs) h = absurd (let first = h.0 in omega arith)

-- the facts of the predicate in the world before the n-th
pub record AreBeforeIn (q : ℕ) (ws : List World) (n : ℕ) (before : List Value → Bool) : Type 0 where
  pub none : n ≡ 0 → (a : List Value) → before a ≡ false
  pub some : (w : World) → 0 < n → slice_get ws (n - 1) ≡ Some w → (a : List Value) → before a ≡ has_fact w (q, a)

module _ (q : ℕ) (ws : List World) where
  pub tracks-begun : (t : Tracks) → ((g : Fact) → line_in t.lines g ≡ []) → HaveSeenAll t → AreTracksUpTo 0 q ws t
  tracks-begun t none covered = record {
    tell = λ a j w h s. absurd (omega arith);
    bounded = λ a. subst (AreBefore 0) (sym (none (fact_with q a))) tt;
    covered = covered;
  }

  -- the changes of one more state
  pub tracks-on : (n : ℕ) (w : World) (before : List Value → Bool) (old new : Tracks) → slice_get ws n ≡ Some w →
      AreBeforeIn q ws n before → AreTracksUpTo n q ws old → TellsNext q n before w (line_in old.lines) (line_in new.lines) →
      HaveSeenAll new → AreTracksUpTo (n + 1) q ws new
  tracks-on n w before old new here known so next covered = record {
    tell = λ a j v h s. (elim (dec_lt j n) [
      | yes past ↦ next.earlier a j past ∙ so.tell a j v past s
      | no now ↦ (
          let same : j ≡ n = omega arith in
          let found : Some v ≡ Some w = sym s ∙ (ap (slice_get ws) same ∙ here) in
          let one : v ≡ w = cc in
          ap (truth_from false (line_in new.lines (fact_with q a))) same ∙
          (next.told a (more a) (was a n refl) ∙ ap (λ (u : World). has_fact u (q, a)) (sym one))
          )
    ]);
    bounded = λ a. next.bounded a (more a);
    covered = covered;
  }
    where
      more : (a : List Value) → AreBefore (n + 1) (line_in old.lines (fact_with q a))
      more a = before-more n (line_in old.lines (fact_with q a)) (so.bounded a)

      -- the truth that was told of the world before
      was : (a : List Value) (m : ℕ) → n ≡ m → truth_from false (line_in old.lines (fact_with q a)) n ≡ before a
      was a zero e =
          let none : line_in old.lines (fact_with q a) ≡ [] = no-change (line_in old.lines (fact_with q a))
          (subst (λ (k : ℕ). AreBefore k (line_in old.lines (fact_with q a))) e (so.bounded a)) in
          ap (λ (cs : List Change). truth_from false cs n) none ∙ sym (known.none e a)
      was a (suc m) e =
          let room = slice_get_within ws n w here in
          let v = there-is ws m (omega arith) in
          let after : n ≡ m + 1 = omega arith in
          ap (truth_from false (line_in old.lines (fact_with q a))) after
          ∙ (truth-stays false (line_in old.lines (fact_with q a)) m (subst
          (λ (k : ℕ). AreBefore k (line_in old.lines (fact_with q a))) after (so.bounded a))
          ∙ (so.tell a m v.0 (omega arith) v.1 ∙ sym (known.some v.0 (omega arith)
          (ap (slice_get ws) (let less : n - 1 ≡ m = omega arith in less) ∙ v.1) a)))

-- ---- the world of all facts that were seen

any-among : (k : Key) (fs : List Fact) → Among k (map fact_key fs) → list_any (eq_by_cmp key_cmp k) (map fact_key fs) ≡ true
any-among k [] m = absurd m
any-among k (f ∷ fs) m = elim m [
  | inl q ↦ ap (λ (b : Bool). b || list_any (eq_by_cmp key_cmp k) (map fact_key fs)) (same (fact_key f) q)
  | inr n ↦ later (eq_by_cmp key_cmp k (fact_key f)) (any-among k fs n)
]
  where
    same : (x : Key) → x ≡ k → eq_by_cmp key_cmp k x ≡ true
    same x q = (Equal-is (key_cmp k x)).1 (ap (key_cmp k) q ∙ tied_itself key_total k)

    later : (a : Bool) {b : Bool} → b ≡ true → (a || b) ≡ true
    later true h = refl
    later false h = h

fact-among : (g : Fact) (fs : List Fact) → Among g fs → Among (fact_key g) (map fact_key fs)
fact-among g [] m = absurd m
fact-among g (f ∷ fs) m = elim m [ inl q ↦ inl (ap fact_key q) | inr n ↦ inr (fact-among g fs n) ]

pub seen-holds : (q : ℕ) (a : List Value) (fs : List Fact) (w : World) → w ≡ world_of fs [] → Among (fact_with q a) fs → has_fact w (q, a) ≡
    true
unfolding world_of
seen-holds q a fs w e m = ap (λ (v : World). has_fact v (q, a)) e ∙ (set.contains-from_list key_total (map fact_key fs) (q, a) ∙
    any-among (q, a) fs (fact-among (fact_with q a) fs m))

some-changes : (o : Option (Vec Change)) (i : ℕ) → truth_from false (changes_in o) i ≡ true → IsSome o
some-changes None i h = absurd (true≢false (sym h))
some-changes (Some v) i h = refl

pub history-of : (q : ℕ) (ws : List World) (t : Tracks) (h : History) → AreTracksUpTo (length ws) q ws t → h.pred ≡ q → h.lines ≡ t.lines →
    h.ever ≡ world_of t.seen.items [] → IsFactHistory ws h
history-of q ws t h so pred lines ever = record {
  tell = subst (λ (k : ℕ). TellUpTo (length ws) k ws h.lines) (sym pred) (subst (TellUpTo (length ws) q ws) (sym lines) so.tell);
  ever = λ a w m holds. (
      let at = among-place ws w m in
      let same : has_fact w (q, a) ≡ true = ap (λ (k : ℕ). has_fact w (k, a)) (sym pred) ∙ holds in
      let known : IsSome (get fact_eq t.lines (fact_with q a)) = some-changes (get fact_eq t.lines (fact_with q a)) at.0
      (so.tell a at.0 w at.1 at.2 ∙ same) in
      ap (λ (k : ℕ). has_fact h.ever (k, a)) pred ∙ seen-holds q a t.seen.items h.ever ever (so.covered (fact_with q a) known)
      );
}
