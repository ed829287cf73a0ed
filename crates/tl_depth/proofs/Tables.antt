-- The tables of kept nodes and of the numbers with which they were met.
use Rattle.std.proofs.Common.{◌≡◌, ◌≢◌, ◌≤◌, ◌<◌, ◌+◌, ◌-◌, ◌*◌, ℕ, zero, suc, List, [], ◌∷◌, ◌++◌, length, set, Option, Some, None, refl}
use Rattle.std.proofs.Common.{sym, ap, ◌∙◌, arith, length-append, mul-le-mul_right, ◌^◌}
use Rattle.std.specs.List.{slice_get}
use Rattle.tl_syntax.specs.Lists.{Each}
use Rattle.tl_depth.specs.Search.{Memory, Frame, Reports, IsMet, gone, AreFrames, IsDepthFirst}
use Rattle.tl_depth.specs.ActionGraphs.{ActionGraph}
use Rattle.tl_depth.proofs.StackLaws.{gone-under}
use Rattle.tl_depth.specs.Tables.{where_same, met_in, AllDiffer, lacking, entries_left, height}

module _ {Node : Type 0} (same : Discrete Node) where
  here : (x y : Node) (A : Type 0) (a b : A) → x ≡ y → where_same (same x y) a b ≡ a
  here x y A a b e = by_case (same x y)
    where
      by_case : (d : Dec (x ≡ y)) → where_same d a b ≡ a
      by_case (yes h) = refl
      by_case (no h) = absurd (h e)

  there : (x y : Node) (A : Type 0) (a b : A) → x ≢ y → where_same (same x y) a b ≡ b
  there x y A a b n = by_case (same x y)
    where
      by_case : (d : Dec (x ≡ y)) → where_same d a b ≡ b
      by_case (yes h) = absurd (n h)
      by_case (no h) = refl

  off-at : (x q : Node) (kept : List Node) (k : ℕ) → Each (λ y. y ≢ x) kept → slice_get kept k ≡ Some q → x ≢ q
  off-at x q [] k d e = cc
  off-at x q (y ∷ kept) zero d e = λ i. d.0 (let j : y ≡ q = cc in j ∙ sym i)
  off-at x q (y ∷ kept) (suc k) d e = off-at x q kept k d.1 e

  -- the number at a node's place is the node's
  pub met_in-at : (kept : List Node) (most : List ℕ) (k : ℕ) (q : Node) (m : ℕ) → AllDiffer kept → slice_get kept k ≡ Some q →
      slice_get most k ≡ Some m → met_in same kept most q ≡ Some m
  unfolding met_in
  met_in-at [] most k q m d e f = cc
  met_in-at (x ∷ kept) [] k q m d e f = cc
  met_in-at (x ∷ kept) (l ∷ most) zero q m d e f = here x q (Option ℕ) (Some l) (met_in same kept most q) (let i : x ≡ q = cc in i) ∙ f
  met_in-at (x ∷ kept) (l ∷ most) (suc k) q m d e f = there x q (Option ℕ) (Some l) (met_in same kept most q) (off-at x q kept k d.0 e) ∙
      met_in-at kept most k q m d.1 e f

  -- a node that differs from the kept ones was not met
  pub met_in-fresh : (kept : List Node) (most : List ℕ) (q : Node) → Each (λ y. y ≢ q) kept → met_in same kept most q ≡ None
  unfolding met_in
  met_in-fresh [] most q d = refl
  met_in-fresh (x ∷ kept) [] q d = refl
  met_in-fresh (x ∷ kept) (m ∷ most) q d = there x q (Option ℕ) (Some m) (met_in same kept most q) d.0 ∙ met_in-fresh kept most q d.1

  -- a fresh node is put at the end
  pub met_in-pushed : (kept : List Node) (most : List ℕ) (q : Node) (r : ℕ) → length most ≡ length kept → Each (λ y. y ≢ q) kept →
      IsMet q r (met_in same kept most) (met_in same (kept ++ q ∷ []) (most ++ r ∷ []))
  unfolding met_in
  met_in-pushed kept most q r l d = record { this = at kept most l d; others = λ y n. other kept most y l n }
    where
      at : (ks : List Node) (ms : List ℕ) → length ms ≡ length ks → Each (λ y. y ≢ q) ks → met_in same (ks ++ q ∷ []) (ms ++ r ∷ []) q ≡
          Some r
      at [] [] s n = here q q (Option ℕ) (Some r) None refl
      at [] (m ∷ ms) s n = absurd (omega arith)
      at (x ∷ ks) [] s n = absurd (omega arith)
      at (x ∷ ks) (m ∷ ms) s n = there x q (Option ℕ) (Some m) (met_in same (ks ++ q ∷ []) (ms ++ r ∷ []) q) n.0 ∙
          at ks ms (omega arith) n.1

      other : (ks : List Node) (ms : List ℕ) (y : Node) → length ms ≡ length ks → y ≢ q → met_in same (ks ++ q ∷ []) (ms ++ r ∷ []) y ≡
          met_in same ks ms y
      other [] [] y s n = there q y (Option ℕ) (Some r) None (λ i. n (sym i))
      other [] (m ∷ ms) y s n = absurd (omega arith)
      other (x ∷ ks) [] y s n = absurd (omega arith)
      other (x ∷ ks) (m ∷ ms) y s n = ap (where_same (same x y) (Some m)) (other ks ms y (omega arith) n)

  -- a kept node gets another number
  pub met_in-set : (kept : List Node) (most : List ℕ) (k : ℕ) (q : Node) (r : ℕ) → AllDiffer kept → slice_get kept k ≡ Some q →
      k < length most → IsMet q r (met_in same kept most) (met_in same kept (set most k r))
  unfolding met_in
  met_in-set kept most k q r d e l = record { this = at kept most k d e l; others = λ y n. other kept most k y e n }
    where
      at : (ks : List Node) (ms : List ℕ) (j : ℕ) → AllDiffer ks → slice_get ks j ≡ Some q → j < length ms → met_in same ks (set ms j r) q ≡
          Some r
      at [] ms j d e l = cc
      at (x ∷ ks) [] j d e l = absurd (omega arith)
      at (x ∷ ks) (m ∷ ms) zero d e l = here x q (Option ℕ) (Some r) (met_in same ks ms q) (let i : x ≡ q = cc in i)
      at (x ∷ ks) (m ∷ ms) (suc j) d e l = there x q (Option ℕ) (Some m) (met_in same ks (set ms j r) q) (off-at x q ks j d.0 e) ∙
          at ks ms j d.1 e (omega arith)

      other : (ks : List Node) (ms : List ℕ) (j : ℕ) (y : Node) → slice_get ks j ≡ Some q → y ≢ q → met_in same ks (set ms j r) y ≡
          met_in same ks ms y
      other [] ms j y e n = refl
      other (x ∷ ks) [] j y e n = refl
      other (x ∷ ks) (m ∷ ms) zero y e n = let i : x ≡ q = cc in there x y (Option ℕ) (Some r) (met_in same ks ms y) (λ h. n (sym h ∙ i)) ∙
          sym (there x y (Option ℕ) (Some m) (met_in same ks ms y) (λ h. n (sym h ∙ i)))
      other (x ∷ ks) (m ∷ ms) (suc j) y e n = ap (where_same (same x y) (Some m)) (other ks ms j y e n)

  -- what was met is kept, with its number at its place
  pub met_in-kept : (kept : List Node) (most : List ℕ) (q : Node) (m : ℕ) → met_in same kept most q ≡ Some m → (k : ℕ) ×
      (slice_get kept k ≡ Some q) × (slice_get most k ≡ Some m)
  unfolding met_in
  met_in-kept [] most q m e = cc
  met_in-kept (x ∷ kept) [] q m e = cc
  met_in-kept (x ∷ kept) (l ∷ most) q m e = by_case (same x q) e (met_in-kept kept most q m)
    where
      by_case : (d : Dec (x ≡ q)) → where_same d (Some l) (met_in same kept most q) ≡ Some m →
          (met_in same kept most q ≡ Some m → (k : ℕ) × (slice_get kept k ≡ Some q) × (slice_get most k ≡ Some m)) → (k : ℕ) ×
          (slice_get (x ∷ kept) k ≡ Some q) × (slice_get (l ∷ most) k ≡ Some m)
      by_case (yes h) f ih = (0, ap Some h, f)
      by_case (no h) f ih = let w = ih f in (suc w.0, w.1, w.2)

-- ---- what is left to do

lacking-pushed : (n r : ℕ) (most : List ℕ) → lacking n (most ++ r ∷ []) ≡ lacking n most + (n - r)
lacking-pushed n r [] = omega arith
lacking-pushed n r (m ∷ most) = omega (arith, lacking-pushed n r most)

lacking-set : (n r m : ℕ) (most : List ℕ) (k : ℕ) → slice_get most k ≡ Some m → m < r → r ≤ n → lacking n (set most k r) < lacking n most
lacking-set n r m [] k e l b = cc
lacking-set n r m (x ∷ most) zero e l b = let i : x ≡ m = cc in omega (arith, i)
lacking-set n r m (x ∷ most) (suc k) e l b = omega (arith, lacking-set n r m most k e l b)

length-set-same : (most : List ℕ) (k r : ℕ) → length (set most k r) ≡ length most
length-set-same [] k r = refl
length-set-same (m ∷ most) zero r = refl
length-set-same (m ∷ most) (suc k) r = omega (arith, length-set-same most k r)

-- a fresh node leaves fewer entries
pub entries-pushed : (nodes n r : ℕ) (most : List ℕ) → length most ≤ nodes →
    entries_left nodes n (most ++ r ∷ []) < entries_left nodes n most
entries-pushed nodes n r most b =
    let l : length (most ++ r ∷ []) ≡ length most + 1 = length-append most (r ∷ []) in
    let j : suc nodes - length most ≡ suc (suc nodes - length (most ++ r ∷ [])) = omega arith in
    let k : (suc nodes - length most) * suc n ≡ suc (suc nodes - length (most ++ r ∷ [])) * suc n = ap (λ x. x * suc n) j in
    omega (arith, lacking-pushed n r most, k)

-- and so does a greater number
pub entries-set : (nodes n r m : ℕ) (most : List ℕ) (k : ℕ) → slice_get most k ≡ Some m → m < r → r ≤ n →
    entries_left nodes n (set most k r) < entries_left nodes n most
entries-set nodes n r m most k e l b =
    let j : (suc nodes - length (set most k r)) * suc n ≡ (suc nodes - length most) * suc n =
    ap (λ x. (suc nodes - x) * suc n) (length-set-same most k r) in
    omega (arith, lacking-set n r m most k e l b, j)

-- ---- the stack is not high

height-frames : {Node : Type 0} (stack : List (Frame Node)) → Each (λ f. length f.rest < 2 ^ 64) stack →
    height stack ≤ length stack * 2 ^ 64
height-frames [] s = omega arith
height-frames (f ∷ below) s = omega (arith, s.0, height-frames below s.1)

module _ {Node : Type 0} (g : ActionGraph Node) (n : ℕ) (reported : Reports Node) (met : Memory Node) where
  -- as many actions are under way as there are frames below the top
  pub stack-long : (f : Frame Node) (below : List (Frame Node)) → AreFrames g n reported met (f ∷ below) → length (gone below) ≡
      length below
  stack-long f [] s = refl
  stack-long f (h ∷ below) s = omega (
    arith,
    ap length (gone-under g n reported met h below s.2.0),
    length-append (gone below) (s.2.0.action ∷ []),
    stack-long h below s.3,
  )

  -- so the stack has at most n frames, and its height is bounded
  pub height-bounded : (stack : List (Frame Node)) → IsDepthFirst g n reported met stack → Each (λ f. length f.rest < 2 ^ 64) stack →
      height stack < suc n * 2 ^ 64
  height-bounded [] s l = omega arith
  height-bounded (f ∷ below) s l =
      let few : length (f ∷ below) ≤ n = omega (arith, stack-long f below s.frames, s.frames.0.budget, s.frames.0.some) in
      let b : length (f ∷ below) * 2 ^ 64 ≤ n * 2 ^ 64 = mul-le-mul_right (2 ^ 64) few in
      omega (arith, b, height-frames (f ∷ below) l)
