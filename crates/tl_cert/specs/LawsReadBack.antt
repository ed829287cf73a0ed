-- Laws of the texts of proofs.
use Rattle.std.specs.Prelude.{◌≡◌, ℕ, ◌+◌, ◌≤◌, List, [], ◌∷◌, length, map, Option, Some, None}
use Rattle.tl_sexpr.specs.Spelling.{Spells}
use Rattle.tl_sexpr.specs.Tree.{FormTrees}
use Rattle.tl_syntax.specs.declared.operator.Operator.{Operator}
use Rattle.tl_syntax.specs.Lists.{Each}
use Rattle.tl_syntax.specs.Settled.{Differ}
use Rattle.tl_syntax.specs.Texts.{AreDistinct}
use Rattle.tl_line.specs.WritableActions.{IsWritable}
use Rattle.tl_cert.specs.MeaningOfProofs.{proof_meant}
use Rattle.tl_cert.specs.ProofFiles.{proof_breaks}
use Rattle.tl_cert.specs.ProofTexts.{proof_text}
use Rattle.tl_cert.specs.declared.proof.Link.{Link}
use Rattle.tl_cert.specs.declared.proof.Proof.{Proof}

-- the actions of the links can be written
abbrev pub AreWritable : List (List ℕ) → List Operator → List Link → Type 0
AreWritable names operators links = Each (λ link. IsWritable names operators link.action) links

-- with so many links before them, each starts from a node of a link before it, or from that of the
-- empty path
abbrev pub StartBefore : ℕ → List Link → Type 0
StartBefore before [] = Unit {0}
StartBefore before (link ∷ links) = (link.from ≤ before) × StartBefore (before + 1) links

-- the bound is at most the greatest that a file may write
abbrev pub IsBoundWritable : Option ℕ → Type 0
IsBoundWritable None = Unit {0}
IsBoundWritable (Some n) = n ≤ 100000

-- the bytes spell forms that break no rule of proof files and stand for this proof
pub record AreReadAsProof (names : List (List ℕ)) (operators : List Operator) (bytes : List ℕ) (proof : Proof) : Type 0 where
  pub forms : FormTrees
  pub spelled : Spells bytes forms
  pub unbroken : proof_breaks names operators forms ≡ []
  pub meant : proof_meant names operators forms ≡ proof

-- where operators have different names, the lines of a proof with at most 100000 links that can be
-- written are a proof file of it
abbrev pub ProofsAreReadBack : Type 0
ProofsAreReadBack =
    (names : List (List ℕ)) (operators : List Operator) (proof : Proof) →
    AreDistinct names → Differ (map (λ o. o.name) operators) → AreWritable names operators proof.links → StartBefore 0 proof.links →
    length proof.links ≤ 100000 → IsBoundWritable proof.bound →
    AreReadAsProof names operators (proof_text names operators proof) proof
