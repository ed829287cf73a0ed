-- The proofs that forms stand for. Where a form breaks a rule, what is said of it here does not
-- matter.
use Rattle.std.specs.Prelude.{ℕ, ℤ, List, [], ◌∷◌, Option, Some, None}
use Rattle.tl_sexpr.specs.Tree.{FormTree, FormTrees, no_form, more_forms}
use Rattle.tl_syntax.specs.declared.operator.Operator.{Operator}
use Rattle.tl_rules.specs.Parts.{natural}
use Rattle.tl_line.specs.MeaningOfActions.{action_meant}
use Rattle.tl_cert.specs.ProofFiles.{head_parts, link_parts}
use Rattle.tl_cert.specs.declared.proof.Link.{Link}
use Rattle.tl_cert.specs.declared.proof.Proof.{Proof}

-- the bound, by the parts of the head
abbrev pub length_bound_meant_by : Option (Option (ℤ × ℕ)) → Option ℕ
length_bound_meant_by None = None
length_bound_meant_by (Some None) = None
length_bound_meant_by (Some (Some n)) = Some (natural n.0)

-- the bound of the head
abbrev pub length_bound_meant : FormTree → Option ℕ
length_bound_meant f = length_bound_meant_by (head_parts f)

-- a link, by its parts
abbrev pub link_meant_by : List (List ℕ) → List Operator → Option (ℤ × ℕ × FormTree) → Link
link_meant_by names operators None = record { from = 0; action = record { op = 0; args = [] } }
link_meant_by names operators (Some parts) = record { from = natural parts.0; action = action_meant names operators parts.2 }

-- a link
abbrev pub link_meant : List (List ℕ) → List Operator → FormTree → Link
link_meant names operators f = link_meant_by names operators (link_parts f)

-- one link for each form, in their order
abbrev pub links_meant : List (List ℕ) → List Operator → FormTrees → List Link
links_meant names operators no_form = []
links_meant names operators (more_forms f fs) = link_meant names operators f ∷ links_meant names operators fs

-- the proof: its bound, and its links
abbrev pub proof_meant : List (List ℕ) → List Operator → FormTrees → Proof
proof_meant names operators no_form = record { bound = None; links = [] }
proof_meant names operators (more_forms f fs) = record { bound = length_bound_meant f; links = links_meant names operators fs }
