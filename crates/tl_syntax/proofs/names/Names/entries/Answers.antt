use Rattle.std.proofs.Common.{◌≡◌, ◌+◌, ◌++◌, ◌∷◌, [], ℕ, Global, sym, map, take, arith}
use Rattle.std.proofs.lemmas.Grind.{common_steps}
use Rattle.std.specs.Rc.{rc_str_bytes}
use Rattle.std.specs.declared.rc.RcStr.{RcStr}
use Rattle.tl_syntax.specs.Settled.{AreTheirPlaces, texts_in, numbers_in}
use Rattle.tl_syntax.proofs.Places.{images-more}
use Rattle.tl_syntax.proofs.SettledTexts.{counted-more}
use Rattle.tl_syntax.proofs.names.Names.entries.Goals as goal

pub loop-number-preserved : goal.loop-number-preserved
loop-number-preserved c =
    let k = c.loop-number.number in
    let old = c.loop-number.entries.items in
    let entry : RcStr Global × ℕ = (c.in_ok-clone.field-0, k) in
    let pushed : c.push.new.self.items ≡ old ++ entry ∷ [] = c.in_ok-push.ensures.items in
    let texts : texts_in (old ++ entry ∷ []) ≡ take (k + 1) (map rc_str_bytes c.deref-text-items.result.now) =
    images-more rc_str_bytes (λ e. rc_str_bytes e.0) c.deref-text-items.result.now old k c.text-item.result entry c.loop-number-test.true
    c.text-item.is c.loop-number.invariant.texts c.in_ok-clone.ensures.cases in
    let numbers : AreTheirPlaces (numbers_in (old ++ entry ∷ [])) = counted-more (λ e. e.1) old entry c.loop-number.invariant.numbers
    (sym c.loop-number.invariant.count) in
    record {
      count = grind (arith, common_steps);
      texts = rw pushed texts;
      numbers = rw pushed numbers;
    }
