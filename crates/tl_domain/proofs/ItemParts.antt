-- The elements of items.
use Rattle.std.proofs.Common.{◌≡◌, ◌==◌, false, refl}
use Rattle.std.proofs.lemmas.Bool.{true≢false}
use Rattle.tl_sexpr.specs.Tree.{FormTrees, no_form, more_forms}
use Rattle.tl_rules.specs.Parts.{count}
use Rattle.tl_domain.specs.Items.{has_declaration_shape, has_define_shape, has_defined_shape}

-- a declaration has two elements after its first
pub declaration-count : (fs : FormTrees) → (count fs == 2) ≡ false → has_declaration_shape fs ≡ false
declaration-count no_form other = refl
declaration-count (more_forms a no_form) other = refl
declaration-count (more_forms a (more_forms b no_form)) other = absurd (true≢false other)
declaration-count (more_forms a (more_forms b (more_forms c fs))) other = refl

-- a definition has two elements after its first, or three with the levels, and an operator has one at least
pub define-count : (fs : FormTrees) → (count fs == 2) ≡ false → has_define_shape fs ≡ false
define-count no_form other = refl
define-count (more_forms a no_form) other = refl
define-count (more_forms a (more_forms b no_form)) other = absurd (true≢false other)
define-count (more_forms a (more_forms b (more_forms c fs))) other = refl

pub defined-count : (fs : FormTrees) → (count fs == 3) ≡ false → has_defined_shape fs ≡ false
defined-count no_form other = refl
defined-count (more_forms a no_form) other = refl
defined-count (more_forms a (more_forms b no_form)) other = refl
defined-count (more_forms a (more_forms b (more_forms c no_form))) other = absurd (true≢false other)
defined-count (more_forms a (more_forms b (more_forms c (more_forms d fs)))) other = refl

pub ruleset shapes = (declaration-count, define-count, defined-count)

pub ruleset declaration_counts = (declaration-count)
