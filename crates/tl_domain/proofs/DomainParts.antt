-- The elements of a domain form.
use Rattle.std.proofs.Common.{◌≡◌, ℕ, Bool, false, refl, ap, ◌∙◌}
use Rattle.std.proofs.Math.Bool.{and-false}
use Rattle.std.specs.Prelude.{◌&&◌, codes}
use Rattle.tl_sexpr.specs.Tree.{FormTree, FormTrees, list, more_forms}
use Rattle.tl_rules.specs.Parts.{is_name, is_word}
use Rattle.tl_rules.specs.Reads.{IsFirst}
use Rattle.tl_rules.specs.declared.rule.FormFault.TheVariants.{Breaks}
use Rattle.tl_rules.specs.declared.rule.Rule.TheVariants.{Shape}
use Rattle.tl_domain.specs.DomainFiles.{has_domain_shape, domain_form_breaks}

-- a domain form has a name after its first element
pub shape-nameless : (word name : FormTree) (items : FormTrees) → is_name name ≡ false →
    has_domain_shape (more_forms word (more_forms name items)) ≡ false
shape-nameless word name items is = ap (λ (b : Bool). is_word (codes "domain") word && b) is ∙ and-false (is_word (codes "domain") word)

-- where the shape is another, that is the first rule that is broken
pub shapeless : (fs : FormTrees) (at : ℕ) → has_domain_shape fs ≡ false → IsFirst (domain_form_breaks (list fs at)) (Breaks Shape at)
shapeless fs at other = rw other refl

pub ruleset domain_parts = (shape-nameless, shapeless)
