-- The proof that forms mean, where they mean one.
use Rattle.std.specs.Prelude.{ℕ, ◌+◌, List, [], ◌∷◌, ◌&&◌, nat_lt, Option, Some, None, if◌then◌else◌, codes}
use Rattle.std.specs.Option.{option_map}
use Rattle.tl_sexpr.specs.Tree.{FormTree, FormTrees, integer, list, no_form, more_forms}
use Rattle.tl_syntax.specs.declared.operator.Operator.{Operator}
use Rattle.tl_rules.specs.Both.{option_both}
use Rattle.tl_rules.specs.Parts.{is_within, is_word, natural}
use Rattle.tl_line.specs.PartialActions.{action_meaning}
use Rattle.tl_cert.specs.declared.proof.Link.{Link}
use Rattle.tl_cert.specs.declared.proof.Proof.{Proof}

-- the bound of a head: `(none)` has none, `(none-within N)` has N, which is at most 100000
abbrev pub head_meaning : FormTree → Option (Option ℕ)
head_meaning (list (more_forms word no_form) at) = if is_word (codes "none") word then Some None else None
head_meaning (list (more_forms word (more_forms (integer n _) no_form)) at) =
    if is_word (codes "none-within") word && is_within 0 100000 n then Some (Some (natural n)) else None
head_meaning _ = None

-- a link `(pair J ACTION)` with so many before it, of which there may be fewer than 100000; J is at most their number
abbrev pub link_meaning : List (List ℕ) → List Operator → ℕ → FormTree → Option Link
link_meaning names operators before (list (more_forms word (more_forms (integer from _) (more_forms action no_form))) at) =
    if is_word (codes "pair") word && nat_lt before 100000 && is_within 0 before from
    then option_map (λ a. record { from = natural from; action = a }) (action_meaning names operators action) else None
link_meaning names operators before _ = None

-- links with so many before them
abbrev pub links_meaning : List (List ℕ) → List Operator → ℕ → FormTrees → Option (List Link)
links_meaning names operators before no_form = Some []
links_meaning names operators before (more_forms f fs) =
    option_both (λ x xs. x ∷ xs) (link_meaning names operators before f) (links_meaning names operators (before + 1) fs)

-- what a proof file means: a head, and then links
abbrev pub proof_meaning : List (List ℕ) → List Operator → FormTrees → Option Proof
proof_meaning names operators no_form = None
proof_meaning names operators (more_forms f fs) =
    option_both (λ bound links. record { bound = bound; links = links }) (head_meaning f) (links_meaning names operators 0 fs)
