-- Terms that fit the domain of a problem have few arguments.
use Rattle.std.proofs.Common.{◌≡◌, ◌≤◌, ℕ, zero, suc, List, [], ◌∷◌, map, Some, subst}
use Rattle.std.specs.Prelude.{slice_get}
use Rattle.tl_eval.specs.Small.{HasFewArguments, HaveFewArguments}
use Rattle.tl_syntax.specs.declared.declared.Declared.{Declared}
use Rattle.tl_syntax.specs.Fits.{TermFits, TermsFit, term_count}
use Rattle.tl_syntax.specs.Kept.{DeclarationKeeps}
use Rattle.tl_syntax.specs.Lists.{Each}
use Rattle.tl_syntax.specs.Signature.{Signature}
use Rattle.tl_syntax.specs.Trees.{TermTree, TermTrees, variable, value, place, arith, no_term, more_terms}

-- each number of arguments is at most 8
abbrev pub AreFew : List ℕ → Type 0
AreFew arities = (p n : ℕ) → slice_get arities p ≡ Some n → n ≤ 8

pub declared-few : (n : ℕ) (ds : List Declared) → Each (DeclarationKeeps n) ds → AreFew (map (λ d. d.arity) ds)
declared-few n [] h p m q = absurd (let z : ⊥ = cc in z)
declared-few n (d ∷ ds) h zero m q = let e : d.arity ≡ m = cc in subst (λ (k : ℕ). k ≤ 8) e h.0.few
declared-few n (d ∷ ds) h (suc p) m q = declared-few n ds h.1 p m q

mutual
  unfolding TermFits HasFewArguments

  pub term-few : (g : Signature) → AreFew g.functions → (t : TermTree) → TermFits g t → HasFewArguments t
  term-few g k (variable s) h = tt
  term-few g k (value v) h = tt
  term-few g k (place f ts) h = (k f (term_count ts) h.0, terms-few g k ts h.1)
  term-few g k (arith op s t at) h = (term-few g k s h.0, term-few g k t h.1)

  pub terms-few : (g : Signature) → AreFew g.functions → (ts : TermTrees) → TermsFit g ts → HaveFewArguments ts
  terms-few g k no_term h = tt
  terms-few g k (more_terms t ts) h = (term-few g k t h.0, terms-few g k ts h.1)
