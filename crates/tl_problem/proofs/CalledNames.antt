-- What a list calls, by the number of its name and of its arguments.
use Rattle.std.proofs.Common.{◌≡◌, ◌==◌, ℕ, List, Result, subst, unwrap_or}
use Rattle.std.specs.List.{position}
use Rattle.tl_syntax.specs.declared.declared.Declared.{Declared}
use Rattle.tl_rules.specs.declared.rule.FormFault.{FormFault}
use Rattle.tl_rules.specs.Calls.{CallTree}
use Rattle.tl_rules.specs.Parts.{count}
use Rattle.tl_rules.specs.Reads.{Reads}
use Rattle.tl_rules.specs.Symbols.{number_in}
use Rattle.tl_problem.specs.Declarations.{declared_call_breaks_at, declared_call_breaks, position_meant}

-- the position of what a list calls is that of its name's number
pub called-reads : (names : List (List ℕ)) (declared : List Declared) (c : CallTree) (name n : ℕ) (r : Result ℕ FormFault) → name ≡
    number_in names c.word → n ≡ count c.rest → Reads (λ (x : ℕ). x) r
    (declared_call_breaks_at declared (position (λ d. d.name == name) declared) n c.at)
    (unwrap_or (position (λ d. d.name == name) declared) 0) → Reads (λ (x : ℕ). x) r (declared_call_breaks names declared c)
    (position_meant names declared c.word)
called-reads names declared c name n r named counted h =
    let P : ℕ → ℕ → Type 0 = λ m k. Reads (λ (x : ℕ). x) r (declared_call_breaks_at declared (position (λ d. d.name == m) declared) k c.at)
    (unwrap_or (position (λ d. d.name == m) declared) 0) in
    subst (P (number_in names c.word)) counted (subst (λ m. P m n) named h)
