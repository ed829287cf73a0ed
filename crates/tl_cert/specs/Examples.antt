-- Worked examples of proofs, and of what the forms of a proof file break and stand for.
use Rattle.std.proofs.Common.{◌≡◌, ◌≢◌, ◌≤◌, ℕ, List, [], ◌∷◌, ◌++◌, ◌+◌, length, length-append, true≢false, Some, None, refl, sym, ap, ◌∙◌}
use Rattle.std.proofs.Common.{inl, arith}
use Rattle.std.specs.Prelude.{pos, codes}
use Rattle.std.specs.FinSet as set
use Rattle.tl_sexpr.specs.Tree.{FormTree, symbol, integer, list, no_form, more_forms}
use Rattle.tl_syntax.specs.declared.operator.Operator.{Operator}
use Rattle.tl_syntax.proofs.TotalOrders.{key_total}
use Rattle.tl_syntax.specs.Trees.{falsum}
use Rattle.tl_rules.specs.declared.rule.Rule.TheVariants.{Shape, Limit, NoPair}
use Rattle.tl_rules.specs.Rules.{first_break}
use Rattle.tl_terms.specs.Acceptance.{states_from}
use Rattle.tl_terms.specs.Examples.{nothing, has_fact-world}
use Rattle.tl_terms.specs.Pairs.{residual, Pair, pair_of}
use Rattle.tl_terms.specs.Problem.{PlainProblem}
use Rattle.tl_terms.specs.Progression.{progressed}
use Rattle.tl_terms.specs.Step.{effect_instances, changed, applied, step}
use Rattle.tl_terms.specs.Terms.{term_value}
use Rattle.tl_terms.specs.Truth.{state_true}
use Rattle.tl_terms.specs.World.{has_fact}
use Rattle.tl_search.specs.Examples.{button, press, lit, unlit_pair, lit_pair}
use Rattle.tl_search.specs.KeptPairs.{KeptPair}
use Rattle.tl_search.specs.PairGraph.{pair_in, next_pair}
use Rattle.tl_search.proofs.ListLaws.{get-single}
use Rattle.tl_cert.specs.Covers.{Covers, IsNoFarther, MustBeClosed}
use Rattle.tl_cert.specs.Links.{IsGood, ListsRoot}
use Rattle.tl_cert.specs.MeaningOfProofs.{length_bound_meant}
use Rattle.tl_cert.specs.ProofFiles.{proof_head_breaks, proof_breaks}
use Rattle.tl_cert.specs.Verdicts.{IsFirstBad}
use Rattle.tl_cert.specs.declared.proof.Link.{Link}

-- ---- a problem whose control formula is FALSE

abbrev pub hopeless : PlainProblem
hopeless = record { first = nothing; goal = nothing; avoid = nothing; definitions = []; operators = []; control = falsum }

false_root : pair_of hopeless [] ≡ Some (record { world = nothing; formula = falsum })
unfolding states_from residual progressed
false_root = refl

-- nothing is listed
false_lists : ListsRoot hopeless []
false_lists = (record { world = nothing; formula = falsum }, false_root, inl (refl, refl))

-- the proof without links covers its search space
false_is_covered : Covers hopeless (record { bound = None; links = [] })
false_is_covered = record { listed = []; lists = ([], false_lists, refl); right = λ k x e. (let b : ⊥ = cc in absurd b) }

-- a link from the root is bad, since the root is not there
false_has_no_link : (l : Link) → IsFirstBad hopeless None (l ∷ []) 1
false_has_no_link l = record {
  before = 0;
  number = refl;
  link = l;
  is_link = refl;
  listed = [];
  good = ([], false_lists, refl);
  bad =
      λ next g. (let e = g.is_from in let b : ⊥ = cc in b);
}

-- ---- a good link

-- the only action, from the root
abbrev pub first_link : Link
first_link = record { from = 0; action = press }

abbrev pub root_node : KeptPair
root_node = record { node = unlit_pair; path = [] }

abbrev pub lit_node : KeptPair
lit_node = record { node = lit_pair; path = press ∷ [] }

press_leads : next_pair button unlit_pair press ≡ Some lit_pair
unfolding pair_in progressed step applied effect_instances term_value state_true
press_leads = refl

-- the worlds before and after it differ
worlds_differ : nothing ≢ lit
unfolding changed
worlds_differ e = true≢false (sym (set.contains-insert key_total (set.from_list []) (0, []) (0, [])) ∙
    (ap (λ w. has_fact w (0, [])) (sym e) ∙ has_fact-world [] [] (0, [])))

first_link_is_good : IsGood button None (root_node ∷ []) first_link lit_node
first_link_is_good = record {
  from = root_node;
  is_from = refl;
  leads = press_leads;
  unpruned = λ e. cc;
  new = λ i x e same. worlds_differ (ap (λ (y : KeptPair). y.node.world) (get-single root_node i x e).1 ∙ ap (λ (y : Pair). y.world) same);
  path = refl;
  near = tt;
}

-- within no action it is not good
first_link_is_far : (next : KeptPair) → IsGood button (Some 0) (root_node ∷ []) first_link next → ⊥
first_link_is_far next g =
    let e : length next.path ≡ length (g.from.path ++ press ∷ []) = ap length g.path in
    let f : length (g.from.path ++ press ∷ []) ≡ length g.from.path + 1 = length-append g.from.path (press ∷ []) in
    let n : length next.path ≤ 0 = g.near in
    let b : ⊥ = omega arith in
    b

-- with the bound 1 the root has to be closed, and the node after one action has not
root_must_be_closed : MustBeClosed (Some 1) []
root_must_be_closed = omega arith

last_need_not : MustBeClosed (Some 1) (press ∷ []) → ⊥
last_need_not h = let b : ⊥ = omega arith in b

-- one action farther is near enough, and two are not
one_is_near : IsNoFarther (Some 2) [] (press ∷ [])
one_is_near = omega arith

two_are_far : IsNoFarther (Some 2) [] (press ∷ press ∷ []) → ⊥
two_are_far h = let b : ⊥ = omega arith in b

-- ---- proof files

-- `(none)`
abbrev pub none_head : FormTree
none_head = list (more_forms (symbol (codes "none") 1) no_form) 0

-- `(none-within 5)`
abbrev pub within_head : FormTree
within_head = list (more_forms (symbol (codes "none-within") 1) (more_forms (integer (pos 5) 13) no_form)) 0

-- `(press)` at this offset
abbrev pub press_form : ℕ → FormTree
press_form at = list (more_forms (symbol (codes "press") (at + 1)) no_form) at

-- `(pair J (press))` at this offset, J with one digit
abbrev pub pair_form : ℕ → ℕ → FormTree
pair_form j at = list (more_forms (symbol (codes "pair") (at + 1)) (more_forms (integer (pos j) (at + 6))
    (more_forms (press_form (at + 8)) no_form))) at

heads_are_lawful : (names : List (List ℕ)) (operators : List Operator) →
    (proof_breaks names operators (more_forms none_head no_form) ≡ []) ×
    (proof_breaks names operators (more_forms within_head no_form) ≡ [])
heads_are_lawful names operators = (refl, refl)

heads_have_bounds : (length_bound_meant none_head ≡ None) × (length_bound_meant within_head ≡ Some 5)
heads_have_bounds = (refl, refl)

-- a file without any form, and one that begins with a link
no_head : (names : List (List ℕ)) (operators : List Operator) → (first_break (proof_breaks names operators no_form) ≡ Some (Shape, 0)) ×
    (first_break (proof_breaks names operators (more_forms (pair_form 0 0) no_form)) ≡ Some (Shape, 0))
no_head names operators = (refl, refl)

-- `(none) (pair 1 (press))`: pair 1 is not there yet
no_pair : (names : List (List ℕ)) (operators : List Operator) → first_break
    (proof_breaks names operators (more_forms none_head (more_forms (pair_form 1 7) no_form))) ≡ Some (NoPair, 13)
no_pair names operators = refl

-- `(none-within 100001)`
far_bound : first_break (proof_head_breaks (list (more_forms (symbol (codes "none-within") 1)
    (more_forms (integer (pos 100001) 13) no_form)) 0)) ≡ Some (Limit, 13)
far_bound = refl
