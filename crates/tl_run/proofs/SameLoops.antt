-- What a plan file with a repeated part breaks and means depends on the names and the numbers of parameters of the operators alone.
use Rattle.std.proofs.Common.{◌≡◌, ℕ, List, ◌++◌, map, Option, Some, None, refl}
use Rattle.tl_sexpr.specs.Tree.{FormTree, FormTrees}
use Rattle.tl_syntax.specs.declared.operator.Operator.{Operator}
use Rattle.tl_rules.specs.Parts.{count, offset_of}
use Rattle.tl_lasso.specs.LoopFiles.{front_of, last_form, loop_breaks, loop_breaks_by, repeat_breaks_at, repeated}
use Rattle.tl_lasso.specs.MeaningOfLoops.{loop_meant, loop_meant_by, repeated_meant}
use Rattle.tl_run.proofs.SameOperators.{head_of, same_actions, same_actions_meant}

module _ (names : List (List ℕ)) (os us : List Operator) (alike : map head_of os ≡ map head_of us) where
  same_repeat_at : (before at : ℕ) (found : Option FormTrees) → repeat_breaks_at names os before at found ≡
      repeat_breaks_at names us before at found
  same_repeat_at before at None = refl
  same_repeat_at before at (Some fs) = same_actions names os us alike before fs

  same_breaks_by : (front : FormTrees) (last : Option FormTree) → loop_breaks_by names os front last ≡ loop_breaks_by names us front last
  same_breaks_by front None = refl
  same_breaks_by front (Some f) =
      let first = same_actions names os us alike 0 front in
      let part = same_repeat_at (count front) (offset_of f) (repeated f) in
      λ i. first i ++ part i

  -- the same rules are broken
  pub same_loop_breaks : (fs : FormTrees) → loop_breaks names os fs ≡ loop_breaks names us fs
  same_loop_breaks fs = same_breaks_by (front_of fs) (last_form fs)

  same_repeated_meant : (found : Option FormTrees) → repeated_meant names os found ≡ repeated_meant names us found
  same_repeated_meant None = refl
  same_repeated_meant (Some fs) = same_actions_meant names os us alike fs

  same_meant_by : (front : FormTrees) (last : Option FormTree) → loop_meant_by names os front last ≡ loop_meant_by names us front last
  same_meant_by front None = refl
  same_meant_by front (Some f) =
      let stem = same_actions_meant names os us alike front in
      let cycle = same_repeated_meant (repeated f) in
      λ i. record { stem = stem i; cycle = cycle i }

  -- and the same plan is meant
  pub same_loop_meant : (fs : FormTrees) → loop_meant names os fs ≡ loop_meant names us fs
  same_loop_meant fs = same_meant_by (front_of fs) (last_form fs)
