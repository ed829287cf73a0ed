-- Labels are what is true ahead at each position.
use Rattle.std.proofs.Common.{◌≡◌, ◌≤◌, ◌<◌, ◌+◌, ◌-◌, ℕ, zero, suc, List, [], ◌∷◌, ◌++◌, map, take, drop, length, replicate, get_or, Bool}
use Rattle.std.proofs.Common.{false, not, refl, sym, ap, ap₂, ◌∙◌, arith, drop-cons, add-one, append_assoc, append-nil, length-append}
use Rattle.std.proofs.Common.{length-drop}
use Rattle.tl_check.specs.Ahead.{Ahead, Course, marks, marks_on, first_of, true_ahead}
use Rattle.tl_check.specs.Later.{later_tree, later_labels}
use Rattle.tl_check.specs.Passes.{until_labels, joins, joined_labels}
use Rattle.tl_check.specs.declared.later.Later.{Later}
use Rattle.tl_check.specs.declared.later.Later.TheVariants as later
use Rattle.tl_syntax.specs.declared.junction.Junction.{Junction}
use Rattle.tl_syntax.specs.Assignment.{Assignment}
use Rattle.tl_syntax.specs.Trees.{FormulaTree}
use Rattle.tl_terms.specs.World.{World}

pub marks-length : (t : Ahead) (ws : List World) → length (marks t ws) ≡ length ws
marks-length t [] = refl
marks-length t (w ∷ ws) = ap suc (marks-length t ws)

-- the label at a position
pub marks-at : (t : Ahead) (ws : List World) (i : ℕ) (d : Bool) → i < length ws → get_or (marks t ws) i d ≡ t (drop i ws)
marks-at t [] i d h = absurd (omega arith)
marks-at t (w ∷ ws) zero d h = refl
marks-at t (w ∷ ws) (suc i) d h = marks-at t ws i d (omega arith)

pub marks-same : (d : Bool) (ws : List World) → replicate (length ws) d ≡ marks (λ s. d) ws
marks-same d [] = refl
marks-same d (w ∷ ws) = ap (λ (bs : List Bool). d ∷ bs) (marks-same d ws)

-- two tests that agree wherever there is a world
pub marks-agree : (t u : Ahead) → ((w : World) (ws : List World) → t (w ∷ ws) ≡ u (w ∷ ws)) → (ws : List World) → marks t ws ≡ marks u ws
marks-agree t u h [] = refl
marks-agree t u h (w ∷ ws) = ap₂ ◌∷◌ (h w ws) (marks-agree t u h ws)

pub marks-not : (t : Ahead) (ws : List World) → map not (marks t ws) ≡ marks (λ s. not (t s)) ws
marks-not t [] = refl
marks-not t (w ∷ ws) = ap (λ (bs : List Bool). not (t (w ∷ ws)) ∷ bs) (marks-not t ws)

pub marks-joined : (junction : Junction) (t u : Ahead) (ws : List World) → joined_labels junction (marks t ws) (marks u ws) ≡
    marks (λ s. joins junction (t s) (u s)) ws
marks-joined junction t u [] = refl
marks-joined junction t u (w ∷ ws) = ap (λ (bs : List Bool). joins junction (t (w ∷ ws)) (u (w ∷ ws)) ∷ bs) (marks-joined junction t u ws)

-- ---- labels of the worlds and of those that come again

pub marks-drop : (t : Ahead) (k : ℕ) (ws : List World) → drop k (marks t ws) ≡ marks t (drop k ws)
marks-drop t zero ws = refl
marks-drop t (suc k) [] = refl
marks-drop t (suc k) (w ∷ ws) = marks-drop t k ws

-- each label is made from those of its position and of later ones alone
abbrev pub LooksOn : (List Bool → List Bool) → Type 0
LooksOn make = (b : Bool) (bs : List Bool) → make (b ∷ bs) ≡ first_of (make (b ∷ bs)) ∷ make bs

pub word-looks : (word : Later) → LooksOn (later_labels word)
word-looks later.Next b bs = refl
word-looks later.Always b bs = refl
word-looks later.Eventually b bs = refl
word-looks (later.Within n) b bs = refl
word-looks (later.During n) b bs = refl

pub word-first : (word : Later) (c : Course) (e : Assignment) (f : FormulaTree) (ws : List World) → true_ahead c e (later_tree word f) ws ≡
    first_of (later_labels word (marks_on c (true_ahead c e f) ws))
unfolding true_ahead
word-first later.Next c e f ws = refl
word-first later.Always c e f ws = refl
word-first later.Eventually c e f ws = refl
word-first (later.Within n) c e f ws = refl
word-first (later.During n) c e f ws = refl

module _ (make : List Bool → List Bool) (looks : LooksOn make) where
  -- the first label that is made, at each world
  pub marks-made : (c : Course) (t : Ahead) (ws : List World) → marks (λ s. first_of (make (marks_on c t s))) ws ≡
      take (length ws) (make (marks_on c t ws))
  marks-made c t [] = refl
  marks-made c t (w ∷ ws) =
      ap (λ (bs : List Bool). first_of (make (marks_on c t (w ∷ ws))) ∷ bs) (marks-made c t ws)
      ∙ sym (ap (take (suc (length ws))) (looks (t (w ∷ ws)) (marks_on c t ws)))

  pub made-drop : (k : ℕ) (bs : List Bool) → k ≤ length bs → drop k (make bs) ≡ make (drop k bs)
  made-drop zero bs h = refl
  made-drop (suc k) [] h = absurd (omega arith)
  made-drop (suc k) (b ∷ bs) h = ap (drop (suc k)) (looks b bs) ∙ made-drop k bs (omega arith)

pub marks-until : (c : Course) (t u : Ahead) (ws : List World) → marks (λ s. first_of (until_labels (marks_on c t s) (marks_on c u s))) ws ≡
    take (length ws) (until_labels (marks_on c t ws) (marks_on c u ws))
marks-until c t u [] = refl
marks-until c t u (w ∷ ws) = ap (λ (bs : List Bool). first_of (until_labels (marks_on c t (w ∷ ws)) (marks_on c u (w ∷ ws))) ∷ bs)
    (marks-until c t u ws)

pub until-drop : (k : ℕ) (bs cs : List Bool) → k ≤ length bs → k ≤ length cs → drop k (until_labels bs cs) ≡
    until_labels (drop k bs) (drop k cs)
until-drop zero bs cs h l = refl
until-drop (suc k) [] cs h l = absurd (omega arith)
until-drop (suc k) (b ∷ bs) [] h l = absurd (omega arith)
until-drop (suc k) (b ∷ bs) (c ∷ cs) h l = until-drop k bs cs (omega arith) (omega arith)

drop-front : {A : Type 0} (k : ℕ) (xs ys : List A) → k ≤ length xs → drop k (xs ++ ys) ≡ drop k xs ++ ys
drop-front zero xs ys h = refl
drop-front (suc k) [] ys h = absurd (omega arith)
drop-front (suc k) (x ∷ xs) ys h = drop-front k xs ys (omega arith)

take-less : {A : Type 0} (k n : ℕ) (xs : List A) → k ≤ n → take k (take n xs) ≡ take k xs
take-less zero n xs h = refl
take-less (suc k) zero xs h = absurd (omega arith)
take-less (suc k) (suc n) [] h = refl
take-less (suc k) (suc n) (x ∷ xs) h = ap (λ (ys : List _). x ∷ ys) (take-less k n xs (omega arith))

-- ---- labels that are added one after another

pub label-on : (t : Ahead) (ws : List World) (all bs new : List Bool) (i : ℕ) (w : World) (b : Bool) → i < length ws → w ≡ get_or ws i w →
    b ≡ t (w ∷ drop (suc i) ws) → new ≡ bs ++ b ∷ []
    → bs ++ marks t (drop i ws) ≡ all → new ++ marks t (drop (i + 1) ws) ≡ all
label-on t ws all bs new i w b h q r added so =
    let opened : drop i ws ≡ w ∷ drop (suc i) ws = drop-cons ws i w h ∙ ap (λ (v : World). v ∷ drop (suc i) ws) (sym q) in
    ap (λ (cs : List Bool). cs ++ marks t (drop (i + 1) ws)) added
    ∙ (append_assoc bs (b ∷ []) (marks t (drop (i + 1) ws))
    ∙ (ap (λ (cs : List Bool). bs ++ cs) (ap₂ (λ (c : Bool) (k : ℕ). c ∷ marks t (drop k ws)) r (add-one i) ∙ ap (marks t) (sym opened)) ∙
    so))

pub label-end : (t : Ahead) (ws : List World) (all bs : List Bool) (i : ℕ) → length ws ≤ i → bs ++ marks t (drop i ws) ≡ all → bs ≡ all
label-end t ws all bs i h so = sym (append-nil bs) ∙ (ap (λ (vs : List World). bs ++ marks t vs) (sym (past ws i h)) ∙ so)
  where
    past : (vs : List World) (k : ℕ) → length vs ≤ k → drop k vs ≡ []
    past [] zero l = refl
    past [] (suc k) l = refl
    past (v ∷ vs) zero l = absurd (omega arith)
    past (v ∷ vs) (suc k) l = past vs k (omega arith)

-- ---- labels from a later position on

drop-none : {A : Type 0} (k : ℕ) → drop k (let none : List A = [] in none) ≡ []
drop-none zero = refl
drop-none (suc k) = refl

pub drop-twice : {A : Type 0} (at i : ℕ) (xs : List A) → at ≤ i → drop (i - at) (drop at xs) ≡ drop i xs
drop-twice zero i xs h = ap (λ (k : ℕ). drop k xs) (let e : i - 0 ≡ i = omega arith in e)
drop-twice (suc at) zero xs h = absurd (omega arith)
drop-twice (suc at) (suc i) [] h = drop-none (suc i - suc at)
drop-twice (suc at) (suc i) (x ∷ xs) h = ap (λ (k : ℕ). drop k (drop at xs)) (let e : suc i - suc at ≡ i - at = omega arith in e) ∙
    drop-twice at i xs (omega arith)

pub label-there : (t : Ahead) (ws : List World) (at i : ℕ) (w : World) (bs : List Bool) → bs ≡ marks t (drop at ws) → at ≤ i →
    i < length ws → w ≡ get_or ws i w → get_or bs (i - at) false ≡ t (w ∷ drop (suc i) ws)
label-there t ws at i w bs q h l s =
    ap (λ (cs : List Bool). get_or cs (i - at) false) q
    ∙ (marks-at t (drop at ws) (i - at) false (omega (arith, length-drop at ws))
    ∙ (ap t (drop-twice at i ws h) ∙ ap t (drop-cons ws i w l ∙ ap (λ (v : World). v ∷ drop (suc i) ws) (sym s))))

pub marks-agree_all : (t u : Ahead) → ((s : List World) → t s ≡ u s) → (ws : List World) → marks t ws ≡ marks u ws
marks-agree_all t u h ws = marks-agree t u (λ w vs. h (w ∷ vs)) ws

-- ---- the labels of the positions from one on, and then of those that come again

module _ (c : Course) (ws : List World) (n : ℕ) (again : c.again ≡ drop n ws) (low i : ℕ) (here : low ≤ i) (before : low ≤ n)
    (inside : i ≤ length ws) where
  pub room : (t : Ahead) → i - low ≤ length (marks t (drop low ws))
  room t = omega (arith, marks-length t (drop low ws), length-drop low ws)

  on-drop : (t : Ahead) → drop (i - low) (marks_on c t (drop low ws)) ≡ marks_on c t (drop i ws)
  on-drop t =
      drop-front (i - low) (marks t (drop low ws)) (marks t c.again) (room t)
      ∙ ap (λ (bs : List Bool). bs ++ marks t c.again) (marks-drop t (i - low) (drop low ws) ∙ ap (marks t) (drop-twice low i ws here))

  -- labels of the span with those of the loop behind them
  pub round-on : (t : Ahead) (bs : List Bool) → bs ≡ marks t (drop low ws) → bs ++ drop (n - low) bs ≡ marks_on c t (drop low ws)
  round-on t bs q =
      ap (λ (cs : List Bool). cs ++ drop (n - low) cs) q
      ∙ ap (λ (cs : List Bool). marks t (drop low ws) ++ cs) (marks-drop t (n - low) (drop low ws) ∙
      (ap (marks t) (drop-twice low n ws before) ∙ ap (marks t) (sym again)))

  on-room : (t : Ahead) → i - low ≤ length (marks_on c t (drop low ws))
  on-room t = omega (arith, room t, length-append (marks t (drop low ws)) (marks t c.again))

  module _ (count : ℕ) (few : count ≤ length ws - i) where
    few-here : count ≤ length (drop i ws)
    few-here = omega (arith, length-drop i ws)

    pub made-here : (make : List Bool → List Bool) → LooksOn make → (t : Ahead) →
        take count (drop (i - low) (make (marks_on c t (drop low ws)))) ≡
        take count (marks (λ s. first_of (make (marks_on c t s))) (drop i ws))
    made-here make looks t =
        ap (take count) (made-drop make looks (i - low) (marks_on c t (drop low ws)) (on-room t) ∙ ap make (on-drop t))
        ∙ sym (ap (take count) (marks-made make looks c t (drop i ws)) ∙
        take-less count (length (drop i ws)) (make (marks_on c t (drop i ws))) few-here)

    pub until-here : (t u : Ahead) → take count (drop (i - low) (until_labels (marks_on c t (drop low ws)) (marks_on c u (drop low ws)))) ≡
        take count (marks (λ s. first_of (until_labels (marks_on c t s) (marks_on c u s))) (drop i ws))
    until-here t u =
        ap (take count) (until-drop (i - low) (marks_on c t (drop low ws)) (marks_on c u (drop low ws)) (on-room t) (on-room u) ∙
        ap₂ until_labels (on-drop t) (on-drop u))
        ∙ sym (ap (take count) (marks-until c t u (drop i ws)) ∙ take-less count (length (drop i ws))
        (until_labels (marks_on c t (drop i ws)) (marks_on c u (drop i ws))) few-here)
