use Rattle.std.proofs.Common.{◌∙◌, sym, refl, inr, w64, to_z-of_z, FitsSigned}
use Rattle.std.proofs.lemmas.Str.{IsUtf8-from_ascii}
use Rattle.tl_sexpr.proofs.TokenBytes.{token_is_ascii}
use Rattle.tl_sexpr.proofs.TreeOf.{tree-Sym, tree-Int}
use Rattle.tl_sexpr.proofs.Integers.{integer_form, integer_too_large}
use Rattle.tl_sexpr.proofs.token.form_of_token.Goals as goal

pub unreachable-requires : goal.unreachable-requires
unreachable-requires c = c.in_default.ensures.cases.0 (IsUtf8-from_ascii c.args.text.now (token_is_ascii c.args.text.now c.requires.token))

pub returns-in-Ok-parse-clause-form : goal.returns-in-Ok-parse-clause-form
returns-in-Ok-parse-clause-form c =
    let h = rw c.in-Ok.ensures.cases.0 at c.in-Ok-parse.ensures.value.0 in
    let form = integer_form c.args.text.now c.args.at c.in-Ok-parse.value (sym c.if-is_integer.ensures) h in
    let fits : FitsSigned w64 c.in-Ok-parse.value = form.3 in
    rw (to_z-of_z fits, tree-Int) form

pub returns-in-Err-clause-fault : goal.returns-in-Err-clause-fault
returns-in-Err-clause-fault c =
    let h = rw c.in-Ok.ensures.cases.0 at c.in-Err.ensures.value.0 in
    inr (refl, integer_too_large c.args.text.now (sym c.if-is_integer.ensures) h)

pub returns-in_ok-of-clause-form : goal.returns-in_ok-of-clause-form
returns-in_ok-of-clause-form c = rw (tree-Sym) (refl, c.in_ok-of.ensures ∙ c.in-Ok.ensures.cases.0, sym c.if-is_integer.ensures)
