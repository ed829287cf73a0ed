-- What the readers of this crate answer, which keep what is said in tables.
use Rattle.std.specs.Prelude.{◌++◌, List, Result}
use Rattle.tl_sexpr.specs.Tree.{FormTree, FormTrees}
use Rattle.tl_syntax.specs.declared.domain.Domain.{Domain}
use Rattle.tl_rules.specs.declared.rule.FormFault.{FormFault}
use Rattle.tl_rules.specs.Reads.{Reads}
use Rattle.tl_rules.specs.Rules.{Break}
use Rattle.tl_problem.specs.declared.elements.Section.{Section}
use Rattle.tl_problem.specs.declared.elements.Section.TheVariants as section
use Rattle.tl_problem.specs.declared.literals.LiteralTables.{LiteralTables}
use Rattle.tl_problem.specs.declared.sections.SectionTables.{SectionTables}
use Rattle.tl_rules.specs.declared.vocabulary.Vocabulary.{Vocabulary}
use Rattle.tl_rules.specs.Calls.{CallTree}
use Rattle.tl_problem.specs.ElementWords.{ElementWord}
use Rattle.tl_problem.specs.Elements.{element_call_breaks, with_element_call, element_breaks, with_element, elements_breaks}
use Rattle.tl_problem.specs.Elements.{with_elements}
use Rattle.tl_problem.specs.Literals.{Literals}
use Rattle.tl_problem.specs.ProblemFiles.{section_breaks, section_meant, problem_form_breaks, problem_form_meant}
use Rattle.tl_problem.specs.ProblemFiles.{problem_file_breaks, problem_file_meant}
use Rattle.tl_problem.specs.Sections.{Sections}

-- what tables of literals say
abbrev pub literals_in : LiteralTables → Literals
literals_in t = record { facts = t.facts; values = t.values; nots = t.nots }

abbrev pub sections_in : SectionTables → Sections
sections_in t = record { init = literals_in t.init; goal = literals_in t.goal }

-- the tables say what is meant, and nothing is broken; or the fault is the first of the breaks
abbrev pub AddsMeant : Result (Unit {0}) FormFault → LiteralTables → List Break → Literals → Type 0
AddsMeant result tables breaks meant = Reads (λ (x : Unit {0}). literals_in tables) result breaks meant

-- an element of this word joins the tables, or an element, or elements
abbrev pub AddsCall : Result (Unit {0}) FormFault → Vocabulary Domain → ElementWord → CallTree → LiteralTables → LiteralTables → Type 0
AddsCall result v w c before after =
    AddsMeant result after (element_call_breaks v.names.now v.declared.now (literals_in before) w c)
    (with_element_call v.names.now v.declared.now (literals_in before) w c)

abbrev pub AddsElement : Result (Unit {0}) FormFault → Vocabulary Domain → Section → FormTree → LiteralTables → LiteralTables → Type 0
AddsElement result v s f before after =
    AddsMeant result after (element_breaks v.names.now v.declared.now s (literals_in before) f)
    (with_element v.names.now v.declared.now s (literals_in before) f)

abbrev pub AddsElements : Result (Unit {0}) FormFault → Vocabulary Domain → Section → FormTrees → LiteralTables → LiteralTables → Type 0
AddsElements result v s fs before after =
    AddsMeant result after (elements_breaks v.names.now v.declared.now s (literals_in before) fs)
    (with_elements v.names.now v.declared.now s (literals_in before) fs)

-- a section is read, or both
abbrev pub ReadsSection : Result LiteralTables FormFault → Vocabulary Domain → Section → FormTree → Type 0
ReadsSection result v s f =
    Reads literals_in result (section_breaks v.names.now v.declared.now s f) (section_meant v.names.now v.declared.now s f)

abbrev pub ReadsSections : Result SectionTables FormFault → Vocabulary Domain → FormTree → FormTree → Type 0
ReadsSections result v init goal =
    let names = v.names.now in
    let d = v.declared.now in
    Reads sections_in result
    (section_breaks names d section.Init init ++ section_breaks names d section.Goal goal)
    (record { init = section_meant names d section.Init init; goal = section_meant names d section.Goal goal })

-- the problem form is read, or the file
abbrev pub ReadsProblemForm : Result SectionTables FormFault → Vocabulary Domain → FormTree → Type 0
ReadsProblemForm result v f =
    Reads sections_in result (problem_form_breaks v.names.now v.declared.now f) (problem_form_meant v.names.now v.declared.now f)

abbrev pub ReadsProblemFile : Result SectionTables FormFault → Vocabulary Domain → FormTrees → Type 0
ReadsProblemFile result v fs =
    Reads sections_in result (problem_file_breaks v.names.now v.declared.now fs) (problem_file_meant v.names.now v.declared.now fs)
