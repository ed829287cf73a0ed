-- Texts with parts in parentheses, written part by part.
use Rattle.std.proofs.Common.{◌≡◌, ℕ, List, [], ◌∷◌, ◌++◌, flat_map, refl, sym, ap, ◌∙◌, codes, append_assoc, ◌<◌, ◌≤◌, ◌+◌, length, map}
use Rattle.std.proofs.Common.{drop, get_or, add-one, drop-cons, arith}
use Rattle.std.proofs.lemmas.List.{append-nil, drop_all}
use Rattle.tl_label.specs.Lines.{Written, after}
use Rattle.tl_label.specs.Parts.{after_spaces, in_parentheses}
use Rattle.tl_label.specs.Terms.{not_text, goal_text}
use Rattle.tl_label.proofs.Lines.{after-nil, after-append}

-- no part
pub spaces-nil : (l : Written) → after l (after_spaces []) ≡ l
unfolding after_spaces
spaces-nil l = after-nil l

-- one part more
pub spaces-more : (l : Written) (part : List ℕ) (parts : List (List ℕ)) → after l (after_spaces (part ∷ parts)) ≡
    after (after (after l (codes " ")) part) (after_spaces parts)
unfolding after_spaces
spaces-more l part parts =
    after-append l (codes " " ++ part) (flat_map (λ x. codes " " ++ x) parts)
    ∙ ap (λ m. after m (flat_map (λ x. codes " " ++ x) parts)) (after-append l (codes " ") part)

-- the parts of a text in parentheses
pub parenthesized : (l : Written) (part : List ℕ) (parts : List (List ℕ)) → after l (in_parentheses (part ∷ parts)) ≡
    after (after (after (after l (codes "(")) part) (after_spaces parts)) (codes ")")
unfolding in_parentheses
parenthesized l part parts =
    after-append l (codes "(") (part ++ (after_spaces parts ++ codes ")"))
    ∙ after-append (after l (codes "(")) part (after_spaces parts ++ codes ")")
    ∙ after-append (after (after l (codes "(")) part) (after_spaces parts) (codes ")")

pub empty : in_parentheses [] ≡ codes "()"
unfolding in_parentheses
empty = refl

-- ---- texts that are written in fewer pieces

joined : (l : Written) (a b : List ℕ) → after (after l a) b ≡ after l (a ++ b)
joined l a b = sym (after-append l a b)

-- two parts behind a sign
pub two_parts : (l : Written) (sign s t : List ℕ) → after l (in_parentheses (sign ∷ s ∷ t ∷ [])) ≡
    after (after (after (after (after (after (after l (codes "(")) sign) (codes " ")) s) (codes " ")) t) (codes ")")
two_parts l sign s t =
    parenthesized l sign (s ∷ t ∷ [])
    ∙ ap (λ m. after m (codes ")")) (spaces-more (after (after l (codes "(")) sign) s (t ∷ [])
    ∙ spaces-more (after (after (after (after l (codes "(")) sign) (codes " ")) s) t []
    ∙ spaces-nil (after (after (after (after (after (after l (codes "(")) sign) (codes " ")) s) (codes " ")) t))

-- parts behind a word
pub one_behind : (l : Written) (word x : List ℕ) → after l (word ++ after_spaces (x ∷ [])) ≡ after (after (after l word) (codes " ")) x
one_behind l word x = after-append l word (after_spaces (x ∷ [])) ∙ spaces-more (after l word) x [] ∙
    spaces-nil (after (after (after l word) (codes " ")) x)

pub two_behind : (l : Written) (word x y : List ℕ) → after l (word ++ after_spaces (x ∷ y ∷ [])) ≡
    after (after (after (after (after l word) (codes " ")) x) (codes " ")) y
two_behind l word x y =
    after-append l word (after_spaces (x ∷ y ∷ []))
    ∙ spaces-more (after l word) x (y ∷ [])
    ∙ spaces-more (after (after (after l word) (codes " ")) x) y []
    ∙ spaces-nil (after (after (after (after (after l word) (codes " ")) x) (codes " ")) y)

-- an equality whose first part is in parentheses too
pub equality : (l : Written) (name : List ℕ) (args : List (List ℕ)) (x : List ℕ) →
    after l (in_parentheses (codes "=" ∷ in_parentheses (name ∷ args) ∷ x ∷ [])) ≡
    after (after (after (after (after (after l (codes "(= (")) name) (after_spaces args)) (codes ") ")) x) (codes ")")
unfolding in_parentheses after_spaces
equality l name args x = simp joined (ap (after l) (simp (append_assoc, append-nil)))

-- the goal modality
pub under_goal : (l : Written) (t : List ℕ) → after l (goal_text t) ≡ after (after (after l (codes "(goal ")) t) (codes ")")
unfolding in_parentheses after_spaces
under_goal l t = simp joined (ap (after l) (simp append_assoc))

pub under_goal_not : (l : Written) (t : List ℕ) → after l (goal_text (not_text t)) ≡
    after (after (after l (codes "(goal (not ")) t) (codes "))")
unfolding in_parentheses after_spaces
under_goal_not l t = simp joined (ap (after l) (simp append_assoc))

-- ---- a part for each item of a list

pub one-more : {A : Type 0} (f : A → List ℕ) (xs : List A) (i : ℕ) (d : A) (l m n : Written) → i < length xs → m ≡ after l (codes " ") → n ≡
    after m (f (get_or xs i d)) → after l (after_spaces (map f (drop i xs))) ≡ after n (after_spaces (map f (drop (i + 1) xs)))
one-more {A} f xs i d l m n h p q =
    let e : drop i xs ≡ get_or xs i d ∷ drop (i + 1) xs = rw add-one (drop-cons xs i d h) in
    ap (λ ys. after l (after_spaces (map f ys))) e
    ∙ spaces-more l (f (get_or xs i d)) (map f (drop (i + 1) xs))
    ∙ ap (λ k. after k (after_spaces (map f (drop (i + 1) xs)))) (sym (q ∙ ap (λ k. after k (f (get_or xs i d))) p))

pub none-left : {A : Type 0} (f : A → List ℕ) (xs : List A) (i : ℕ) (l : Written) → length xs ≤ i →
    after l (after_spaces (map f (drop i xs))) ≡ l
none-left {A} f xs i l h = ap (λ ys. after l (after_spaces (map f ys))) (drop_all i xs h) ∙ spaces-nil l

-- no item
pub nothing : {A : Type 0} (f : A → List ℕ) (xs : List A) → length xs ≡ 0 → in_parentheses (map f xs) ≡ codes "()"
nothing f [] h = empty
nothing f (x ∷ xs) h = absurd (omega arith)

pub ruleset written = (
  spaces-nil,
  spaces-more,
  parenthesized,
  empty,
  two_parts,
  equality,
  under_goal,
  under_goal_not,
  one_behind,
  two_behind,
)
