use Rattle.std.proofs.Common.{◌≡◌, ◌∙◌, List, Bool, not, length, sym, ap, ap₂, subst}
use Rattle.tl_check.proofs.PickedLaws.{joins-where, joined-length, picked-length}
use Rattle.tl_check.specs.Cuts.{lefts, rights}
use Rattle.tl_check.specs.Passes.{joined_labels}
use Rattle.tl_check.specs.Picked.{picked_labels}
use Rattle.tl_check.specs.Runs.{spread}
use Rattle.tl_check.specs.Spans.{JoinsWhere}
use Rattle.tl_check.specs.declared.run.Cut.{Cut}
use Rattle.tl_syntax.specs.Junctions.{deciding_truth}
use Rattle.tl_check.proofs.labels.Labels.join_where.Goals as goal

pub cuts_of-requires : goal.cuts_of-requires
cuts_of-requires c =
    let j = c.args.junction in
    let e = not (deciding_truth j) in
    let pick : picked_labels (spread c.as_slice.result.now) (spread c.as_slice-2.result.now) c.args.at
    (not c.deciding_truth-elsewhere.result) ≡ picked_labels c.args.there.now c.args.other.now c.args.at e =
    ap₂ (λ (x y : List Bool). picked_labels x y c.args.at (not c.deciding_truth-elsewhere.result))
    (ap spread c.as_slice.ensures.value ∙ c.there.view_is) (ap spread c.as_slice-2.ensures.value ∙ c.other.view_is)
    ∙ ap (λ (d : Bool). picked_labels c.args.there.now c.args.other.now c.args.at (not d)) c.deciding_truth-elsewhere.ensures in
    ap length (ap spread c.as_slice-3.ensures.value ∙ c.self.view_is)
    ∙ (c.requires.size ∙ sym (ap length (ap spread c.as_slice-4.ensures.value ∙ (c.in_ok-labels.ensures ∙ pick)) ∙
    picked-length c.args.there.now c.args.other.now c.args.at e c.requires.within))

pub returns-clause-size : goal.returns-clause-size
returns-clause-size c =
    let j = c.args.junction in
    let e = not (deciding_truth j) in
    let pick : picked_labels (spread c.as_slice.result.now) (spread c.as_slice-2.result.now) c.args.at
    (not c.deciding_truth-elsewhere.result) ≡ picked_labels c.args.there.now c.args.other.now c.args.at e =
    ap₂ (λ (x y : List Bool). picked_labels x y c.args.at (not c.deciding_truth-elsewhere.result))
    (ap spread c.as_slice.ensures.value ∙ c.there.view_is) (ap spread c.as_slice-2.ensures.value ∙ c.other.view_is)
    ∙ ap (λ (d : Bool). picked_labels c.args.there.now c.args.other.now c.args.at (not d)) c.deciding_truth-elsewhere.ensures in
    let made : spread c.in_ok-self-inside.field-0.items ≡ joined_labels j c.args.self.now
    (picked_labels c.args.there.now c.args.other.now c.args.at e) =
    c.in_ok-self-inside.ensures
    ∙ (ap (λ (cs : List Cut). joined_labels j (lefts cs) (rights cs)) c.as_slice-5.ensures.value
    ∙ ap₂ (joined_labels j) (c.in_ok-cuts.ensures.left ∙ (ap spread c.as_slice-3.ensures.value ∙ c.self.view_is))
    (c.in_ok-cuts.ensures.right ∙ (ap spread c.as_slice-4.ensures.value ∙ (c.in_ok-labels.ensures ∙ pick)))) in
    ap length made ∙ joined-length j c.args.self.now (picked_labels c.args.there.now c.args.other.now c.args.at e)
    (c.requires.size ∙ sym (picked-length c.args.there.now c.args.other.now c.args.at e c.requires.within))

pub returns-clause-joined : goal.returns-clause-joined
returns-clause-joined c =
    let j = c.args.junction in
    let e = not (deciding_truth j) in
    let pick : picked_labels (spread c.as_slice.result.now) (spread c.as_slice-2.result.now) c.args.at
    (not c.deciding_truth-elsewhere.result) ≡ picked_labels c.args.there.now c.args.other.now c.args.at e =
    ap₂ (λ (x y : List Bool). picked_labels x y c.args.at (not c.deciding_truth-elsewhere.result))
    (ap spread c.as_slice.ensures.value ∙ c.there.view_is) (ap spread c.as_slice-2.ensures.value ∙ c.other.view_is)
    ∙ ap (λ (d : Bool). picked_labels c.args.there.now c.args.other.now c.args.at (not d)) c.deciding_truth-elsewhere.ensures in
    let made : spread c.in_ok-self-inside.field-0.items ≡ joined_labels j c.args.self.now
    (picked_labels c.args.there.now c.args.other.now c.args.at e) =
    c.in_ok-self-inside.ensures
    ∙ (ap (λ (cs : List Cut). joined_labels j (lefts cs) (rights cs)) c.as_slice-5.ensures.value
    ∙ ap₂ (joined_labels j) (c.in_ok-cuts.ensures.left ∙ (ap spread c.as_slice-3.ensures.value ∙ c.self.view_is))
    (c.in_ok-cuts.ensures.right ∙ (ap spread c.as_slice-4.ensures.value ∙ (c.in_ok-labels.ensures ∙ pick)))) in
    subst (λ (bs : List Bool). JoinsWhere j c.args.there.now c.args.other.now c.args.at c.args.self.now bs) (sym made)
    (joins-where j c.args.self.now c.args.there.now c.args.other.now c.args.at c.requires.size c.requires.within)
