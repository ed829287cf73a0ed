use Rattle.std.proofs.Common.{◌≡◌, rules, tests, ◌∙◌}
use Rattle.std.proofs.lemmas.Iterator.{YieldsList-from_slice}
use Rattle.std.proofs.lemmas.Iterator.Search.{all_from_yields_List}
use Rattle.std.specs.Char.{is_ascii_digit}
use Rattle.std.specs.List.{list_all}
use Rattle.tl_run.proofs.Numbers.{digits_all}
use Rattle.tl_run.proofs.search.is_digits.Goals as goal

pub returns : goal.returns
returns c =
    let text = c.args.word.now in
    let all : c.all.result ≡ list_all is_ascii_digit text = all_from_yields_List is_ascii_digit _ _ c.all.result c.all.ensures.ran
    (YieldsList-from_slice text cc) (λ x b q k. search (rules, tests)) in
    all ∙ digits_all text
