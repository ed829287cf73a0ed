-- The elements of heads and links.
use Rattle.std.proofs.Common.{◌≡◌, ℕ, Bool, true, false, Some, None, refl, sym, ap, ◌∙◌}
use Rattle.std.specs.Prelude.{ℤ, ◌&&◌, ◌==◌, if◌then◌else◌, codes}
use Rattle.tl_sexpr.specs.Tree.{FormTree, FormTrees, symbol, integer, list, no_form, more_forms}
use Rattle.tl_rules.specs.Parts.{count, is_call, is_word}
use Rattle.tl_cert.specs.ProofFiles.{bounded_head, head_in, link_of_three, link_in}

-- neither one element nor two are no head
pub head-neither : (fs : FormTrees) → (count fs == 1) ≡ false → (count fs == 2) ≡ false → head_in fs ≡ None
head-neither no_form one two = refl
head-neither (more_forms word no_form) one two = cc
head-neither (more_forms word (more_forms bound no_form)) one two = cc
head-neither (more_forms word (more_forms bound (more_forms f fs))) one two = refl

-- other than three elements are no link
pub link-not-three : (fs : FormTrees) → (count fs == 3) ≡ false → link_in fs ≡ None
link-not-three no_form e = refl
link-not-three (more_forms word no_form) e = refl
link-not-three (more_forms word (more_forms from no_form)) e = refl
link-not-three (more_forms word (more_forms from (more_forms action no_form))) e = cc
link-not-three (more_forms word (more_forms from (more_forms action (more_forms f fs)))) e = refl

pub ruleset head_elements = (head-neither)

pub ruleset link_elements = (link-not-three)

-- ---- the other way round

-- the elements are a word, an integer and a list that begins with a symbol
pub record IsLinkOf (fs : FormTrees) (parts : ℤ × ℕ × FormTree) : Type 0 where
  pub word : FormTree
  pub elements : fs ≡ more_forms word (more_forms (integer parts.0 parts.1) (more_forms parts.2 no_form))
  pub call : is_call parts.2 ≡ true

three-back : (word from action : FormTree) (parts : ℤ × ℕ × FormTree) → link_of_three word from action ≡ Some parts →
    (from ≡ integer parts.0 parts.1) × (action ≡ parts.2) × (is_call parts.2 ≡ true)
three-back word (symbol text at) action parts e = let b : ⊥ = cc in absurd b
three-back word (list fs at) action parts e = let b : ⊥ = cc in absurd b
three-back word (integer j at) action parts e = by_tests (is_word (codes "pair") word) (is_call action) refl e
  where
    by_tests : (v w : Bool) → is_call action ≡ w → (if v && w then Some (j, at, action) else None) ≡ Some parts →
        (integer j at ≡ integer parts.0 parts.1) × (action ≡ parts.2) × (is_call parts.2 ≡ true)
    by_tests true true c q = let d : (j, at, action) ≡ parts = cc in (
      ap (λ (x : ℤ × ℕ × FormTree). integer x.0 x.1) d,
      ap (λ (x : ℤ × ℕ × FormTree). x.2) d,
      ap (λ (x : ℤ × ℕ × FormTree). is_call x.2) (sym d) ∙ c,
    )
    by_tests true false c q = let b : ⊥ = cc in absurd b
    by_tests false w c q = let b : ⊥ = cc in absurd b

pub link-back : (fs : FormTrees) (parts : ℤ × ℕ × FormTree) → link_in fs ≡ Some parts → IsLinkOf fs parts
link-back no_form parts e = let b : ⊥ = cc in absurd b
link-back (more_forms word no_form) parts e = let b : ⊥ = cc in absurd b
link-back (more_forms word (more_forms from no_form)) parts e = let b : ⊥ = cc in absurd b
link-back (more_forms word (more_forms from (more_forms action no_form))) parts e =
    let h = three-back word from action parts e in
    record {
      word = word;
      elements = ap (λ f. more_forms word (more_forms f (more_forms action no_form))) h.0 ∙
          ap (λ f. more_forms word (more_forms (integer parts.0 parts.1) (more_forms f no_form))) h.1;
      call = h.2;
    }
link-back (more_forms word (more_forms from (more_forms action (more_forms f fs)))) parts e = let b : ⊥ = cc in absurd b

-- the elements are a word and an integer
pub record IsHeadOf (fs : FormTrees) (bound : ℤ × ℕ) : Type 0 where
  pub word : FormTree
  pub elements : fs ≡ more_forms word (more_forms (integer bound.0 bound.1) no_form)

bounded-back : (word f : FormTree) (bound : ℤ × ℕ) → bounded_head word f ≡ Some (Some bound) → f ≡ integer bound.0 bound.1
bounded-back word (symbol text at) bound e = let b : ⊥ = cc in absurd b
bounded-back word (list fs at) bound e = let b : ⊥ = cc in absurd b
bounded-back word (integer n at) bound e = by_test (is_word (codes "none-within") word) e
  where
    by_test : (v : Bool) → (if v then Some (Some (n, at)) else None) ≡ Some (Some bound) → integer n at ≡ integer bound.0 bound.1
    by_test true q = let d : (n, at) ≡ bound = cc in ap (λ (x : ℤ × ℕ). integer x.0 x.1) d
    by_test false q = let b : ⊥ = cc in absurd b

pub head-back : (fs : FormTrees) (bound : ℤ × ℕ) → head_in fs ≡ Some (Some bound) → IsHeadOf fs bound
head-back no_form bound e = let b : ⊥ = cc in absurd b
head-back (more_forms word no_form) bound e = absurd (by_test (is_word (codes "none") word) e)
  where
    by_test : (v : Bool) → (if v then Some None else None) ≡ Some (Some bound) → ⊥
    by_test true q = let b : ⊥ = cc in b
    by_test false q = let b : ⊥ = cc in b
head-back (more_forms word (more_forms f no_form)) bound e = record {
  word = word;
  elements =
      ap (λ g. more_forms word (more_forms g no_form)) (bounded-back word f bound e);
}
head-back (more_forms word (more_forms f (more_forms g fs))) bound e = let b : ⊥ = cc in absurd b
