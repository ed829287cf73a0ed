-- The text of a proof, which is how a proof file writes it, and the line of a verdict.
use Rattle.std.specs.Prelude.{ℕ, List, ◌++◌, flat_map, codes, Option, Some, None}
use Rattle.std.specs.Fmt.{decimal}
use Rattle.tl_syntax.specs.declared.action.Action.{Action}
use Rattle.tl_syntax.specs.declared.operator.Operator.{Operator}
use Rattle.tl_syntax.specs.Lists.{Each}
use Rattle.tl_line.specs.ActionTexts.{action_text}
use Rattle.tl_line.specs.NamedActions.{ActionIsNamed}
use Rattle.tl_line.specs.WritableActions.{ArgumentsFit}
use Rattle.tl_cert.specs.declared.proof.Link.{Link}
use Rattle.tl_cert.specs.declared.proof.Proof.{Proof}
use Rattle.tl_cert.specs.declared.verdict.NoneVerdict.{NoneVerdict}
use Rattle.tl_cert.specs.declared.verdict.NoneVerdict.TheVariants.{Proved, BadLink, Accepts, Open}

-- the line of the head
abbrev pub head_line : Option ℕ → List ℕ
head_line None = codes "(none)\n"
head_line (Some n) = codes "(none-within " ++ (decimal n ++ codes ")\n")

-- the line of a link
abbrev pub link_line : List (List ℕ) → List Operator → Link → List ℕ
link_line names operators link = codes "(pair " ++ (decimal link.from ++
    (codes " " ++ (action_text names operators link.action ++ codes ")\n")))

-- a line for each link
abbrev pub link_lines : List (List ℕ) → List Operator → List Link → List ℕ
link_lines names operators links = flat_map (link_line names operators) links

-- the lines of a proof
abbrev pub proof_text : List (List ℕ) → List Operator → Proof → List ℕ
proof_text names operators proof = head_line proof.bound ++ link_lines names operators proof.links

-- the actions of the links are of these operators and name only these names
abbrev pub LinksAreNamed : List (List ℕ) → List Operator → List Link → Type 0
LinksAreNamed names operators links = Each (λ link. ActionIsNamed names operators link.action) links

-- the line that says that there is no plan, or none of at most so many actions
abbrev pub proved_line : Option ℕ → List ℕ
proved_line None = codes "; proved none\n"
proved_line (Some n) = codes "; proved none within " ++ (decimal n ++ codes "\n")

-- the line that says that the action leads out at the node of this number
abbrev pub open_line : List (List ℕ) → List Operator → ℕ → Action → List ℕ
open_line names operators k a = codes "; open " ++ (decimal k ++ (codes " " ++ (action_text names operators a ++ codes "\n")))

-- the line of a verdict on a proof with this bound
abbrev pub proof_verdict_text : List (List ℕ) → List Operator → Option ℕ → NoneVerdict → List ℕ
proof_verdict_text names operators bound Proved = proved_line bound
proof_verdict_text names operators bound (BadLink k) =
    codes "; bad link " ++ (decimal k ++ codes "\n")
proof_verdict_text names operators bound (Accepts k) =
    codes "; accepts " ++ (decimal k ++ codes "\n")
proof_verdict_text names operators bound (Open k a) = open_line names operators k a

-- the action of the verdict is of these operators and names only these names, where there is one
abbrev pub HasNamedAction : List (List ℕ) → List Operator → NoneVerdict → Type 0
HasNamedAction names operators Proved = Unit {0}
HasNamedAction names operators (BadLink k) = Unit {0}
HasNamedAction names operators (Accepts k) = Unit {0}
HasNamedAction names operators (Open k a) = ActionIsNamed names operators a

-- the actions of links have integers of 64 bits
abbrev pub LinksFit : List Link → Type 0
LinksFit links = Each (λ link. ArgumentsFit link.action) links
