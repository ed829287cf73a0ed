-- Proof files mean something exactly where they break no rule.
use Rattle.std.proofs.Common.{◌≡◌, ℕ, ℤ, ◌+◌, List, ◌∷◌, ◌++◌, refl, ap, ◌∙◌}
use Rattle.std.specs.Prelude.{Bool, true, false, ◌&&◌, not, nat_lt, Option, Some, None, if◌then◌else◌, codes}
use Rattle.std.specs.Option.{option_map}
use Rattle.tl_sexpr.specs.Tree.{FormTree, FormTrees, symbol, integer, list, no_form, more_forms}
use Rattle.tl_syntax.specs.declared.action.Action.{Action}
use Rattle.tl_syntax.specs.declared.operator.Operator.{Operator}
use Rattle.tl_rules.specs.declared.rule.Rule.TheVariants.{Limit, NoPair}
use Rattle.tl_rules.specs.Both.{option_both}
use Rattle.tl_rules.specs.Parts.{is_call, is_within, is_word, natural}
use Rattle.tl_rules.specs.Rules.{breaks_if}
use Rattle.tl_rules.specs.Unbroken.{where_unbroken}
use Rattle.tl_rules.proofs.Unbroken.{both-unbroken, map-unbroken}
use Rattle.tl_line.specs.Actions.{action_breaks}
use Rattle.tl_line.specs.MeaningOfActions.{action_meant}
use Rattle.tl_line.specs.PartialActions.{action_meaning}
use Rattle.tl_line.proofs.MeanActions.{action-mean, uncalled-mean}
use Rattle.tl_cert.specs.MeaningOfProofs.{length_bound_meant, length_bound_meant_by, link_meant, link_meant_by, links_meant, proof_meant}
use Rattle.tl_cert.specs.PartialProofs.{head_meaning, link_meaning, links_meaning, proof_meaning}
use Rattle.tl_cert.specs.ProofFiles.{proof_head_breaks, proof_head_breaks_at, link_breaks, link_breaks_at, links_breaks, proof_breaks}
use Rattle.tl_cert.specs.declared.proof.Link.{Link}
use Rattle.tl_cert.specs.declared.proof.Proof.{Proof}

head-mean : (f : FormTree) → head_meaning f ≡ where_unbroken (proof_head_breaks f) (length_bound_meant f)
head-mean (symbol text at) = refl
head-mean (integer z at) = refl
head-mean (list no_form at) = refl
head-mean (list (more_forms word no_form) at) = cases (is_word (codes "none") word)
  where
    cases : (w : Bool) → (if w then Some None else None) ≡ where_unbroken (proof_head_breaks_at at (if w then Some None else None))
        (length_bound_meant_by (if w then Some None else None))
    cases true = refl
    cases false = refl
head-mean (list (more_forms word (more_forms (symbol text _) no_form)) at) = refl
head-mean (list (more_forms word (more_forms (integer n m) no_form)) at) = cases (is_word (codes "none-within") word)
  where
    x : Option ℕ
    x = Some (natural n)

    bounded : (i : Bool) → (if i then Some x else None) ≡ where_unbroken (breaks_if (not i) Limit m) x
    bounded true = refl
    bounded false = refl

    cases : (w : Bool) → (if w && is_within 0 100000 n then Some x else None) ≡
        where_unbroken (proof_head_breaks_at at (if w then Some (Some (n, m)) else None))
        (length_bound_meant_by (if w then Some (Some (n, m)) else None))
    cases true = bounded (is_within 0 100000 n)
    cases false = refl
head-mean (list (more_forms word (more_forms (list fs _) no_form)) at) = refl
head-mean (list (more_forms word (more_forms (symbol text _) (more_forms h hs))) at) = refl
head-mean (list (more_forms word (more_forms (integer n _) (more_forms h hs))) at) = refl
head-mean (list (more_forms word (more_forms (list fs _) (more_forms h hs))) at) = refl

link-mean : (names : List (List ℕ)) (operators : List Operator) (before : ℕ) (f : FormTree) → link_meaning names operators before f ≡
    where_unbroken (link_breaks names operators before f) (link_meant names operators f)
link-mean names operators before (symbol text at) = refl
link-mean names operators before (integer z at) = refl
link-mean names operators before (list no_form at) = refl
link-mean names operators before (list (more_forms word no_form) at) = refl
link-mean names operators before (list (more_forms word (more_forms (symbol text _) no_form)) at) = refl
link-mean names operators before (list (more_forms word (more_forms (symbol text _) (more_forms action no_form))) at) = refl
link-mean names operators before (list (more_forms word (more_forms (symbol text _) (more_forms action (more_forms h hs)))) at) = refl
link-mean names operators before (list (more_forms word (more_forms (list fs _) no_form)) at) = refl
link-mean names operators before (list (more_forms word (more_forms (list fs _) (more_forms action no_form))) at) = refl
link-mean names operators before (list (more_forms word (more_forms (list fs _) (more_forms action (more_forms h hs)))) at) = refl
link-mean names operators before (list (more_forms word (more_forms (integer from _) no_form)) at) = refl
link-mean names operators before (list (more_forms word (more_forms (integer from _) (more_forms action (more_forms h hs)))) at) = refl
link-mean names operators before (list (more_forms word (more_forms (integer from m) (more_forms action no_form))) at) =
    shaped (is_word (codes "pair") word) (is_call action) refl
  where
    made : Action → Link
    made a = record { from = natural from; action = a }

    meant : Option Action
    meant = action_meaning names operators action

    parts : Bool → Option (ℤ × ℕ × FormTree)
    parts b = if b then Some (from, m, action) else None

    called : (t i : Bool) → (if t && i then option_map made meant else None) ≡
        where_unbroken (breaks_if (not t) Limit at ++ (breaks_if (not i) NoPair m ++ action_breaks names operators action))
        (made (action_meant names operators action))
    called true true = ap (λ (o : Option Action). option_map made o) (action-mean names operators action) ∙
        map-unbroken made (action_breaks names operators action) _
    called true false = refl
    called false i = refl

    never : (b : Bool) → (if b then option_map made None else None) ≡ None
    never true = refl
    never false = refl

    shaped : (w c : Bool) → is_call action ≡ c → (if w && nat_lt before 100000 && is_within 0 before from then option_map made meant else
        None) ≡ where_unbroken (link_breaks_at names operators before at (parts (w && c))) (link_meant_by names operators (parts (w && c)))
    shaped false c e = refl
    shaped true true e = called (nat_lt before 100000) (is_within 0 before from)
    shaped true false e =
        ap (λ (o : Option Action). if nat_lt before 100000 && is_within 0 before from then option_map made o else None)
        (uncalled-mean names operators action e)
        ∙ never (nat_lt before 100000 && is_within 0 before from)

links-mean : (names : List (List ℕ)) (operators : List Operator) (before : ℕ) (fs : FormTrees) → links_meaning names operators before fs ≡
    where_unbroken (links_breaks names operators before fs) (links_meant names operators fs)
links-mean names operators before no_form = refl
links-mean names operators before (more_forms f fs) =
    (λ i. option_both (λ x xs. x ∷ xs) (link-mean names operators before f i) (links-mean names operators (before + 1) fs i))
    ∙ both-unbroken (λ x xs. x ∷ xs) (link_breaks names operators before f) (links_breaks names operators (before + 1) fs) _ _

pub proof-mean : (names : List (List ℕ)) (operators : List Operator) (fs : FormTrees) → proof_meaning names operators fs ≡
    where_unbroken (proof_breaks names operators fs) (proof_meant names operators fs)
proof-mean names operators no_form = refl
proof-mean names operators (more_forms f fs) =
    (λ i. option_both made (head-mean f i) (links-mean names operators 0 fs i))
    ∙ both-unbroken made (proof_head_breaks f) (links_breaks names operators 0 fs) _ _
  where
    made : Option ℕ → List Link → Proof
    made bound links = record { bound = bound; links = links }
