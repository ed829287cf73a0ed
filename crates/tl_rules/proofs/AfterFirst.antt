-- The elements of lists after the first.
use Rattle.std.proofs.Common.{◌≡◌, refl}
use Rattle.tl_sexpr.specs.Tree.{FormTree, FormTrees, symbol, integer, list, no_form, more_forms}
use Rattle.tl_rules.specs.Parts.{elements_of, rest_of}

pub rest-none : (f : FormTree) → elements_of f ≡ no_form → rest_of f ≡ no_form
rest-none (symbol text at) none = refl
rest-none (integer z at) none = refl
rest-none (list no_form at) none = refl
rest-none (list (more_forms g fs) at) none = cc

pub rest-some : (f g : FormTree) (fs : FormTrees) → elements_of f ≡ more_forms g fs → rest_of f ≡ fs
rest-some (symbol text at) g fs is = cc
rest-some (integer z at) g fs is = cc
rest-some (list no_form at) g fs is = cc
rest-some (list (more_forms h hs) at) g fs is = cc

pub ruleset after_first = (rest-none, rest-some)
