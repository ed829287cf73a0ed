-- Variables that are given values again.
use Rattle.std.proofs.Common.{◌≡◌, ℕ, List, [], ◌∷◌, cond, ◌==◌, Bool, true, false, Some, None, refl, ap, ◌∙◌}
use mathlib.Core.Path.{fun_ext}
use Rattle.tl_syntax.specs.declared.value.Value.{Value}
use Rattle.tl_syntax.specs.declared.variable.Var.{Var}
use Rattle.tl_syntax.specs.Assignment.{Assignment, bind}
use Rattle.tl_syntax.specs.Lists.{Each}

-- the slot is of none of the variables
abbrev pub Outside : ℕ → List Var → Type 0
Outside q ss = Each (λ s. (q == s.slot) ≡ false) ss

pub bind-outside : (ss : List Var) (u : List Value) (e : Assignment) (q : ℕ) → Outside q ss → bind ss u e q ≡ e q
bind-outside [] u e q h = refl
bind-outside (s ∷ ss) [] e q h = ap (λ (b : Bool). cond b None (bind ss [] e q)) h.0 ∙ bind-outside ss [] e q h.1
bind-outside (s ∷ ss) (v ∷ u) e q h = ap (λ (b : Bool). cond b (Some v) (bind ss u e q)) h.0 ∙ bind-outside ss u e q h.1

bind-agree : (ss : List Var) (t : List Value) (d e : Assignment) (q : ℕ) → (Outside q ss → d q ≡ e q) → bind ss t d q ≡ bind ss t e q
bind-agree [] t d e q h = h tt
bind-agree (s ∷ ss) [] d e q h = (elim (q == s.slot) as (λ b. (q == s.slot) ≡ b → cond b None (bind ss [] d q) ≡
    cond b None (bind ss [] e q)) [ true ↦ λ x. refl | false ↦ λ x. bind-agree ss [] d e q (λ o. h (x, o)) ]) refl
bind-agree (s ∷ ss) (v ∷ t) d e q h = (elim (q == s.slot) as (λ b. (q == s.slot) ≡ b → cond b (Some v) (bind ss t d q) ≡
    cond b (Some v) (bind ss t e q)) [ true ↦ λ x. refl | false ↦ λ x. bind-agree ss t d e q (λ o. h (x, o)) ]) refl

-- the later values count
pub bind-again : (ss : List Var) (t u : List Value) (e : Assignment) → bind ss t (bind ss u e) ≡ bind ss t e
bind-again ss t u e = fun_ext (λ q. bind-agree ss t (bind ss u e) e q (bind-outside ss u e q))

-- what a frame gives the variables once they were given values
pub bind-through : (ss : List Var) (t u : List Value) (d e : Assignment) → d ≡ bind ss u e → bind ss t d ≡ bind ss t e
bind-through ss t u d e q = ap (bind ss t) q ∙ bind-again ss t u e
