use Rattle.std.proofs.Common.{arith}
use Rattle.std.proofs.lemmas.Bool.Decides.{nat_tests}
use Rattle.std.specs.String.{string_bytes}
use Rattle.tl_run.proofs.CommandWords.{few_words, three_words, many_words}
use Rattle.tl_run.proofs.words.command_of.Goals as goal
use Rattle.tl_run.proofs.words.command_of.Goals.{in_default-via-then-words-lt2, in_default-via-else-words-lt2+else-words-lt3+then-words-lt4}
use Rattle.tl_run.proofs.words.command_of.Goals.{in_default-via-else-words-lt2+else-words-lt3+else-words-lt4+else-words-lt5+else-words-lt6+else-words-lt7}

pub returns-in_default-clause-command : goal.returns-in_default-clause-command
returns-in_default-clause-command c =
    let words = c.args.words.now in
    elim c.in_default.branch [
      | in_default-via-then-words-lt2 w ↦ few_words string_bytes words (grind (arith, nat_tests))
      | in_default-via-else-words-lt2+else-words-lt3+then-words-lt4 w ↦ three_words string_bytes words (grind (arith, nat_tests))
          (grind (arith, nat_tests))
      | in_default-via-else-words-lt2+else-words-lt3+else-words-lt4+else-words-lt5+else-words-lt6+else-words-lt7 w ↦ many_words string_bytes
          words (grind (arith, nat_tests))
    ]
