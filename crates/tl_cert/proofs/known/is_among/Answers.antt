use Rattle.std.proofs.Common.{take, refl, sym, ◌∙◌, true≢false, subst, inl, inr}
use Rattle.std.proofs.lemmas.Option.{slice_get_read}
use Rattle.tl_syntax.specs.Lists.{Among}
use Rattle.tl_syntax.proofs.PartsSame.{action-tells}
use Rattle.tl_search.proofs.ListLaws.{among-at, among-new, take-next}
use Rattle.tl_cert.proofs.known.is_among.Goals as goal

pub returns-then-eq : goal.returns-then-eq
returns-then-eq c = (
  λ _. subst (λ a. Among a c.args.actions.now) ((action-tells c.other-item.result c.args.a.now).0 (sym c.eq.ensures ∙ c.if-eq.true))
      (among-at c.args.actions.now c.loop-other.other-index c.other-item.result
      (slice_get_read _ _ c.loop-other.other-index c.other-item.result refl c.loop-other-test.true c.other-item.is)),
  λ _. refl,
)

pub loop-other-preserved : goal.loop-other-preserved
loop-other-preserved c m =
    let at = slice_get_read _ _ c.loop-other.other-index c.other-item.result refl c.loop-other-test.true c.other-item.is in
    elim (among-new c.args.a.now c.other-item.result (take c.loop-other.other-index c.args.actions.now)
    (subst (Among c.args.a.now) (take-next c.args.actions.now c.loop-other.other-index c.other-item.result at) m)) [
      | inl h ↦ c.loop-other.invariant h
      | inr e ↦ true≢false (sym ((action-tells c.other-item.result c.args.a.now).1 e) ∙ (sym c.eq.ensures ∙ c.if-eq.false))
    ]
