-- What a reader answers for a form.
use Rattle.std.specs.Prelude.{◌≡◌, List, [], Result, Ok, Err, Some, ⊤, map}
use Rattle.tl_sexpr.specs.declared.form.Form.{Form}
use Rattle.tl_sexpr.specs.Tree.{FormTrees, tree_of, trees_of_list}
use Rattle.tl_rules.specs.declared.rule.FormFault.{FormFault}
use Rattle.tl_rules.specs.declared.rule.FormFault.TheVariants.{Breaks, NoMemory}
use Rattle.tl_rules.specs.Rules.{Break, first_break, IsLeastBreak}

-- the fault is the first of these breaks; want of memory says nothing
abbrev pub IsFirst : List Break → FormFault → Type 0
IsFirst breaks (Breaks broken at) = first_break breaks ≡ Some (broken, at)
IsFirst breaks NoMemory = ⊤

-- the fault is the least of these breaks; want of memory says nothing
abbrev pub IsLeastFault : List Break → FormFault → Type 0
IsLeastFault breaks (Breaks broken at) = IsLeastBreak breaks (broken, at)
IsLeastFault breaks NoMemory = ⊤

-- the fault is a rule that a form breaks, and not want of memory
abbrev pub IsBreak : FormFault → Type 0
IsBreak (Breaks broken at) = Unit {0}
IsBreak NoMemory = ⊥

-- what is read, seen by view, is what the form stands for, and breaks nothing; or the fault is the
-- first of the breaks
abbrev pub Reads : {X Y : Type 0} → (X → Y) → Result X FormFault → List Break → Y → Type 0
Reads view (Ok x) breaks meant = (breaks ≡ []) × (view x ≡ meant)
Reads view (Err fault) breaks meant = IsFirst breaks fault

-- the check passes, and nothing is broken; or the fault is the first of the breaks
abbrev pub Checks : Result (Unit {0}) FormFault → List Break → Type 0
Checks (Ok _) breaks = breaks ≡ []
Checks (Err fault) breaks = IsFirst breaks fault

-- the plain trees of a slice of forms
abbrev pub trees_in : List Form → FormTrees
trees_in forms = trees_of_list (map tree_of forms)
