-- Plans and proofs that are printed can be written, and so are read back from their lines.
use Rattle.std.proofs.Common.{◌≡◌, ◌⊎◌, inl, inr, ℕ, ℤ, zero, suc, ◌<◌, ◌≤◌, List, [], ◌∷◌, ◌++◌, length, map, slice_get, true, false}
use Rattle.std.proofs.Common.{true≢false, not, Option, Some, None, IsTrue, Less, Equal, refl, sym, ap, ◌∙◌, subst, arith}
use Rattle.std.specs.Prelude.{◌≢◌, get_or, unwrap_or}
use Rattle.std.specs.Option.{option_map, option_map_or}
use Rattle.std.specs.Ordering.{nat_cmp}
use Rattle.std.specs.Cmp.{nat_cmp_total, tied_itself}
use Rattle.std.specs.Cmp.Lexicographic.{slice_cmp, lists_total}
use Rattle.std.proofs.lemmas.Bool.{not-true}
use Rattle.std.proofs.lemmas.Option.{slice_get-get_or, slice_get_within, same_Some, none-some}
use Rattle.tl_cert.specs.Covers.{Covers}
use Rattle.tl_cert.specs.LawsReadBack as proof
use Rattle.tl_cert.specs.Links.{AreGood, IsGood}
use Rattle.tl_cert.specs.MeaningOfProofs.{proof_meant}
use Rattle.tl_cert.specs.ProofFiles.{proof_breaks}
use Rattle.tl_cert.specs.ProofTexts.{LinksFit, proof_text}
use Rattle.tl_cert.specs.declared.proof.Link.{Link}
use Rattle.tl_cert.specs.declared.proof.Proof.{Proof}
use Rattle.tl_cert.proofs.ProofReadBack.{proof-read-back}
use Rattle.tl_domain.specs.LawsNames.{HasWritableNames, is_constant}
use Rattle.tl_domain.proofs.WritableNames.{lawful-names-writable}
use Rattle.tl_line.specs.WritableActions.{ArgumentsFit, IsSymbolText, IsWritable, IsWritableName, IsWritableValue, ValueFits}
use Rattle.tl_outside.specs.Told.{Files, IsContent}
use Rattle.tl_search.specs.KeptPairs.{KeptPair}
use Rattle.tl_search.specs.PairGraph.{pair_in}
use Rattle.tl_search.specs.declared.outcome.Outcome.{Outcome}
use Rattle.tl_search.specs.declared.outcome.Outcome.TheVariants as outcome
use Rattle.tl_rules.specs.Parts.{is_variable}
use Rattle.tl_sexpr.specs.Spelling.{Spells}
use Rattle.tl_sexpr.proofs.SymbolTexts.{spelled_texts}
use Rattle.tl_syntax.specs.declared.action.Action.{Action}
use Rattle.tl_syntax.specs.declared.operator.Operator.{Operator}
use Rattle.tl_syntax.specs.declared.problem.Problem.{Problem}
use Rattle.tl_syntax.specs.declared.value.Value.{Value}
use Rattle.tl_syntax.specs.declared.value.Value.TheVariants.{Int, Sym}
use Rattle.tl_syntax.specs.Kept.{OperatorKeeps}
use Rattle.tl_syntax.specs.Lists.{Each}
use Rattle.tl_syntax.specs.Settled.{IsInOrder}
use Rattle.tl_syntax.specs.Signature.{Takes, signature_of}
use Rattle.tl_syntax.specs.Texts.{AreDistinct}
use Rattle.tl_syntax.specs.Trees.{falsum}
use Rattle.tl_syntax.specs.ValueTests.{ValuesPass}
use Rattle.tl_terms.specs.Acceptance.{states, states_from}
use Rattle.tl_terms.specs.Pairs.{Pair, pair_of}
use Rattle.tl_terms.specs.ProblemMeaning.{plain_problem}
use Rattle.tl_terms.specs.Step.{step}
use Rattle.tl_terms.specs.World.{World}
use Rattle.tl_terms.proofs.PassingSteps.{arguments-of-executed-pass, step-arguments, step-passes}
use Rattle.tl_terms.proofs.PassingWorlds.{WorldPasses, first-passes}
use Rattle.tl_terms.proofs.StepLaws.{step-exactly}
use Rattle.tl_text.specs.MeaningOfPlans.{plan_meant}
use Rattle.tl_text.specs.Outcomes.{PlanFits, outcome_text, plan_text}
use Rattle.tl_text.specs.Plans.{plan_breaks}
use Rattle.tl_text.proofs.PlanReadBack.{plan-read-back}
use Rattle.tl_run.specs.declared.search.Search.{Search}
use Rattle.tl_run.specs.declared.status.Status.TheVariants.{Yes, No, Refused, Range}
use Rattle.tl_run.specs.Answers.{outcome_status}
use Rattle.tl_run.specs.Commands.{prove_none, search}
use Rattle.tl_run.specs.Files.{SpellShortly}
use Rattle.tl_run.specs.Over.{HoldProblem, HoldThird, StandForProblem}
use Rattle.tl_run.specs.Plan.{IsOutcome}
use Rattle.tl_run.specs.Promises.{IsAnswer}
use Rattle.tl_run.specs.ProveNone.{IsBoundOf, IsCertificate, LeavesNoProof, unproved_status}
use Rattle.tl_run.specs.ReadBack.{AreBytesOf, ExecutedPlansAreReadBack, IsProofFile, IsValidFile, PrintedPlansAreValid}
use Rattle.tl_run.specs.ReadBack.{PrintedProofsAreProved}
use Rattle.tl_run.specs.Turns.{CallsTold}
use Rattle.tl_run.proofs.NamedPlans.{IsOfOperator, states_take, step_takes}
use Rattle.tl_run.proofs.OneOutcome.{plan_within}
use Rattle.tl_run.proofs.Replied.{counts_seen}

-- ---- names in order differ

names-differ : (names : List (List ℕ)) → IsInOrder names → AreDistinct names
names-differ names order = λ i j x at_i at_j. elim (cases i j) [
  | inl before ↦ absurd (not-before i j x before at_i at_j)
  | inr other ↦ elim other [ inl same ↦ same | inr after ↦ absurd (not-before j i x after at_j at_i) ]
]
  where
    cases : (i j : ℕ) → (i < j) ⊎ ((i ≡ j) ⊎ (j < i))
    cases i j = grind arith

    not-before : (i j : ℕ) (x : List ℕ) → i < j → slice_get names i ≡ Some x → slice_get names j ≡ Some x → ⊥
    not-before i j x before at_i at_j =
        let less : slice_cmp nat_cmp x x ≡ Less = order i j x x before at_i at_j in
        let tie : slice_cmp nat_cmp x x ≡ Equal = tied_itself (lists_total nat_cmp_total) x in
        cc

each-at : {A : Type 0} (P : A → Type 0) (xs : List A) (i : ℕ) (x : A) → Each P xs → slice_get xs i ≡ Some x → P x
each-at P [] i x h q = absurd (none-some x q)
each-at P (y ∷ xs) zero x h q = subst P (same_Some y x q) h.0
each-at P (y ∷ xs) (suc i) x h q = each-at P xs i x h.1 q

-- ---- names, values and actions that can be written

text-writable : (names : List (List ℕ)) (n : ℕ) (text : List ℕ) → Each IsSymbolText names → slice_get names n ≡ Some text →
    IsWritableName names n
text-writable names n text texts at = record {
  within = slice_get_within names n text at;
  symbol = subst IsSymbolText (ap (λ (o : Option (List ℕ)). unwrap_or o []) (sym at)) (each-at IsSymbolText names n text texts at);
}

value-writable : (names : List (List ℕ)) (v : Value) → Each IsSymbolText names → is_constant names v ≡ true → ValueFits v →
    IsWritableValue names v
value-writable names (Int z) texts constant fits = fits
value-writable names (Sym n) texts constant fits = by-text (slice_get names n) refl constant
  where
    by-text : (found : Option (List ℕ)) → slice_get names n ≡ found → option_map_or (λ text. not (is_variable text)) found false ≡ true →
        IsWritableValue names (Sym n)
    by-text None at test = absurd (true≢false (sym test))
    by-text (Some text) at test = (
      text-writable names n text texts at,
      ap (λ (o : Option (List ℕ)). is_variable (unwrap_or o [])) at ∙
          not-true (is_variable text) test,
    )

values-writable : (names : List (List ℕ)) (vs : List Value) → Each IsSymbolText names → ValuesPass (is_constant names) vs →
    Each ValueFits vs → Each (IsWritableValue names) vs
values-writable names [] texts constants fit = tt
values-writable names (v ∷ vs) texts constants fit = (
  value-writable names v texts constants.0 fit.0,
  values-writable names vs texts constants.1 fit.1,
)

module _ (p : Problem) (can : HasWritableNames p) where
  abbrev Keeps : Operator → Type 0
  Keeps o = OperatorKeeps (signature_of p.domain) (length p.names) o

  taken : (os : List Operator) (i n : ℕ) → Each Keeps os → Takes (map (λ o. length o.params) os) i n → (o : Operator) ×
      (slice_get os i ≡ Some o) × Keeps o × (length o.params ≡ n)
  taken [] i n k q = absurd (none-some n q)
  taken (o ∷ os) zero n k q = (o, refl, k.0, same_Some (length o.params) n q)
  taken (o ∷ os) (suc i) n k q = taken os i n k.1 q

  action-writable : (a : Action) → IsOfOperator (plain_problem p) a → ValuesPass (is_constant p.names) a.args → ArgumentsFit a →
      IsWritable p.names p.domain.operators a
  action-writable a takes constants fit =
      let at = taken p.domain.operators a.op (length a.args) p.domain_keeps.operators
      (subst (λ (counts : List ℕ). Takes counts a.op (length a.args)) (counts_seen p) takes) in
      let keeps = at.2 in
      record {
        operator = at.0;
        is = at.1;
        name = text-writable p.names at.0.name (get_or p.names at.0.name []) can.names (slice_get-get_or p.names at.0.name [] keeps.name);
        counted = sym at.3;
        args = values-writable p.names a.args can.names constants fit;
      }

  actions-writable : (plan : List Action) → Each (IsOfOperator (plain_problem p)) plan →
      Each (λ a. ValuesPass (is_constant p.names) a.args) plan → Each ArgumentsFit plan → Each (IsWritable p.names p.domain.operators) plan
  actions-writable [] takes constants fit = tt
  actions-writable (a ∷ plan) takes constants fit = (
    action-writable a takes.0 constants.0 fit.0,
    actions-writable plan takes.1 constants.1 fit.1,
  )

  plan-writable : (plan : List Action) (ws : List World) → states (plain_problem p) plan ≡ Some ws → Each ArgumentsFit plan →
      Each (IsWritable p.names p.domain.operators) plan
  plan-writable plan ws e fit = actions-writable plan (states_take step-exactly (plain_problem p) (plain_problem p).first plan ws e)
      (arguments-of-executed-pass p (is_constant p.names) plan ws (λ z. refl) can.values e) fit

  -- ---- the links of a proof: each action has a step in the world of a listed node

  abbrev NodePasses : KeptPair → Type 0
  NodePasses x = WorldPasses (is_constant p.names) x.node.world

  stepped : (f : World → Pair) (o : Option World) (y : Pair) → option_map f o ≡ Some y → (v : World) × (o ≡ Some v) × (f v ≡ y)
  stepped f None y q = absurd (none-some y q)
  stepped f (Some v) y q = (v, refl, same_Some (f v) y q)

  world-in : (x : Pair) (v : World) (y : Pair) → pair_in (plain_problem p) x.formula v ≡ y → v ≡ y.world
  unfolding pair_in
  world-in x v y q = ap (λ (z : Pair). z.world) q

  -- the action of a good link can be written, and the world that it leads to passes
  link-writable : (bound : Option ℕ) (listed : List KeptPair) (link : Link) (next : KeptPair) → Each NodePasses listed →
      IsGood (plain_problem p) bound listed link next → ArgumentsFit link.action → IsWritable p.names p.domain.operators link.action ×
      NodePasses next
  link-writable bound listed link next pass good fit =
      let test = is_constant p.names in
      let whole : (z : ℤ) → IsTrue (is_constant p.names (Int z)) = λ z. refl in
      let from = each-at NodePasses listed link.from good.from pass good.is_from in
      let led = stepped (pair_in (plain_problem p) good.from.node.formula)
      (step (plain_problem p) good.from.node.world link.action) next.node good.leads in
      let world = world-in good.from.node led.0 next.node led.2 in (
        action-writable link.action (step_takes step-exactly (plain_problem p) good.from.node.world led.0 link.action led.1)
            (step-arguments test whole p can.values good.from.node.world led.0 link.action from led.1) fit,
        subst (WorldPasses test) world (step-passes test whole p can.values good.from.node.world led.0 link.action from led.1),
      )

  each-last : {A : Type 0} (P : A → Type 0) (xs : List A) (y : A) → Each P xs → P y → Each P (xs ++ y ∷ [])
  each-last P [] y h q = (q, tt)
  each-last P (x ∷ xs) y h q = (h.0, each-last P xs y h.1 q)

  links-writable : (bound : Option ℕ) (old : List KeptPair) (links : List Link) (new : List KeptPair) → Each NodePasses old →
      AreGood (plain_problem p) bound old links new → Each (λ link. ArgumentsFit link.action) links →
      proof.AreWritable p.names p.domain.operators links
  links-writable bound old [] new pass good fit = tt
  links-writable bound old (link ∷ links) new pass good fit =
      let here = link-writable bound old link good.0 pass good.1 fit.0 in
      (here.0, links-writable bound (old ++ good.0 ∷ []) links new (each-last NodePasses old good.0 pass here.1) good.2 fit.1)

  root-world : (x : Pair) → pair_of (plain_problem p) [] ≡ Some x → (plain_problem p).first ≡ x.world
  unfolding states_from
  root-world x q = ap (λ (y : Pair). y.world) (same_Some _ x q)

  root-passes : (first : List KeptPair) (x : Pair) → pair_of (plain_problem p) [] ≡ Some x → ((x.formula ≡ falsum) × (first ≡ [])) ⊎
      ((x.formula ≢ falsum) × (first ≡ record { node = x; path = [] } ∷ [])) → Each NodePasses first
  root-passes first x q (inl h) = subst (Each NodePasses) (sym h.1) tt
  root-passes first x q (inr h) = subst (Each NodePasses) (sym h.1) (
    subst (WorldPasses (is_constant p.names)) (root-world x q)
        (first-passes (is_constant p.names) p can.values),
    tt,
  )

  proof-writable : (certificate : Proof) → Covers (plain_problem p) certificate →
      Each (λ link. ArgumentsFit link.action) certificate.links → proof.AreWritable p.names p.domain.operators certificate.links
  proof-writable certificate covers fit =
      let lists = covers.lists in
      links-writable certificate.bound lists.0 certificate.links covers.listed
      (root-passes lists.0 lists.1.0 lists.1.1 lists.1.2) lists.2 fit

-- ---- the files

writable-names : (domain problem : List ℕ) (p : Problem) → AreBytesOf domain problem p → HasWritableNames p
writable-names domain problem p are = lawful-names-writable are.first are.second p (spelled_texts domain are.first are.first_spelled)
    (spelled_texts problem are.second are.second_spelled) are.files

pub executed-plans-read-back : ExecutedPlansAreReadBack
executed-plans-read-back domain problem p actions ws are e fit few =
    let can = writable-names domain problem p are in
    plan-read-back p.names p.domain.operators actions (names-differ p.names p.settled) can.operators
    (plan-writable p can actions ws e fit) few

-- the bytes of the files of a problem
bytes_of : (domain problem : List ℕ) (m : Problem) → StandForProblem domain problem m → AreBytesOf domain problem m
bytes_of domain problem m both =
    let first : SpellShortly domain both.first = both.first_spelled in
    let second : SpellShortly problem both.second = both.second_spelled in
    record { first = both.first; second = both.second; first_spelled = first.spelled; second_spelled = second.spelled; files = both.files }

-- the files allow a plan of them that is accepted, from its lines
plan-valid : (files : Option Files) (d p q text : List ℕ) (s : Search) (m : Problem) (actions : List Action) → HoldProblem files d p m →
    IsOutcome s (plain_problem m) (outcome.Plan actions) → Each ArgumentsFit actions → text ≡ plan_text m.names m.domain.operators actions →
    s.within ≤ 100000 → length text ≤ 4194304 → IsContent files q text → IsValidFile files d p q text
plan-valid files d p q text s m actions stand right fit lines limit short content =
    let within = plan_within s.mode s.within s.nodes (plain_problem m) actions right in
    let few : length actions ≤ s.within = within.short in
    let accepted = within.accepted in
    let are = bytes_of stand.domain stand.problem m stand.stand in
    let back = executed-plans-read-back stand.domain stand.problem m actions (accepted.from ∷ accepted.after) are accepted.executes fit
    (omega (arith, few, limit)) in
    let spelled = subst (λ (bytes : List ℕ). Spells bytes back.forms) (sym lines) back.spelled in
    let third : HoldThird files q (plan_breaks m.names m.domain.operators) (plan_meant m.names m.domain.operators) actions = record {
      bytes = text;
      content = content;
      forms = back.forms;
      spelled = record { short = short; spelled = spelled };
      lawful = back.unbroken;
      means = sym back.meant;
    } in
    (m, actions, (stand, third), (lines, accepted))

module _ (files : Option Files) (s : Search) (d p q text : List ℕ) (told : CallsTold) (limit : s.within ≤ 100000)
    (short : length text ≤ 4194304) (content : IsContent files q text) where
  outcome-valid : (m : Problem) (o : Outcome) → Yes ≡ outcome_status o → HoldProblem files d p m → IsOutcome s (plain_problem m) o →
      PlanFits o → text ≡ outcome_text m.names m.domain.operators s.within s.nodes o → IsValidFile files d p q text
  outcome-valid m (outcome.Plan actions) done stand right fit lines = plan-valid files d p q text s m actions stand right fit lines limit
      short content
  outcome-valid m outcome.NoPlan done stand right fit lines = absurd (let k : ⊥ = cc in k)
  outcome-valid m outcome.NoneWithin done stand right fit lines = absurd (let k : ⊥ = cc in k)
  outcome-valid m outcome.Spent done stand right fit lines = absurd (let k : ⊥ = cc in k)

  answer-valid : IsAnswer files (search s d p) told Yes text → IsValidFile files d p q text
  answer-valid (inl (m, stand, inl h)) = outcome-valid m h.what h.status_is stand h.right.0 (h.right.1 refl) h.text_is
  answer-valid (inl (m, stand, inr h)) = absurd (let e : Yes ≡ Range = h.3 in let k : ⊥ = cc in k)
  answer-valid (inr h) = let refuses = h.2 in absurd (let e : Yes ≡ Refused = refuses.1 in let k : ⊥ = cc in k)

  unproved-valid : (m : Problem) (o : Outcome) → No ≡ unproved_status o → HoldProblem files d p m → IsOutcome s (plain_problem m) o →
      LeavesNoProof o → PlanFits o → text ≡ outcome_text m.names m.domain.operators s.within s.nodes o → IsValidFile files d p q text
  unproved-valid m (outcome.Plan actions) done stand right leaves fit lines =
      plan-valid files d p q text s m actions stand right fit lines limit short content
  unproved-valid m outcome.NoPlan done stand right leaves fit lines = absurd leaves
  unproved-valid m outcome.NoneWithin done stand right leaves fit lines = absurd leaves
  unproved-valid m outcome.Spent done stand right leaves fit lines = absurd (let k : ⊥ = cc in k)

  in-place-valid : IsAnswer files (prove_none s d p) told No text → IsValidFile files d p q text
  in-place-valid (inl (m, stand, inl h)) = absurd (let e : No ≡ Yes = h.status_is in let k : ⊥ = cc in k)
  in-place-valid (inl (m, stand, inr (inl h))) = unproved-valid m h.what h.status_is stand h.right.0 h.right.1 (h.right.2 refl) h.text_is
  in-place-valid (inl (m, stand, inr (inr h))) = absurd (let e : No ≡ Range = h.3 in let k : ⊥ = cc in k)
  in-place-valid (inr h) = let refuses = h.2 in absurd (let e : No ≡ Refused = refuses.1 in let k : ⊥ = cc in k)

  bound-writable : (o : Outcome) (bound : Option ℕ) → IsBoundOf s.within o bound → proof.IsBoundWritable bound
  bound-writable (outcome.Plan actions) bound h = absurd h
  bound-writable outcome.NoPlan bound h = subst proof.IsBoundWritable (sym h) tt
  bound-writable outcome.NoneWithin bound h = subst proof.IsBoundWritable (sym h) limit
  bound-writable outcome.Spent bound h = absurd h

  certificate-proved : (m : Problem) (certificate : Proof) → HoldProblem files d p m → IsCertificate s (plain_problem m) certificate →
      LinksFit certificate.links → text ≡ proof_text m.names m.domain.operators certificate → IsProofFile files d p q text
  certificate-proved m certificate stand right fit lines =
      let can = writable-names stand.domain stand.problem m (bytes_of stand.domain stand.problem m stand.stand) in
      let back = proof-read-back m.names m.domain.operators certificate (names-differ m.names m.settled) can.operators
      (proof-writable m can certificate right.covers fit) right.order right.few
      (bound-writable right.ended certificate.bound right.bound) in
      let spelled = subst (λ (bytes : List ℕ). Spells bytes back.forms) (sym lines) back.spelled in
      let third : HoldThird files q (proof_breaks m.names m.domain.operators) (proof_meant m.names m.domain.operators) certificate =
      record {
        bytes = text;
        content = content;
        forms = back.forms;
        spelled = record { short = short; spelled = spelled };
        lawful = back.unbroken;
        means = sym back.meant;
      } in
      (m, certificate, (stand, third), (lines, right.covers))

  no-proof : (o : Outcome) → Yes ≡ unproved_status o → ⊥
  no-proof (outcome.Plan actions) done = let k : ⊥ = cc in k
  no-proof outcome.NoPlan done = let k : ⊥ = cc in k
  no-proof outcome.NoneWithin done = let k : ⊥ = cc in k
  no-proof outcome.Spent done = let k : ⊥ = cc in k

  answer-proved : IsAnswer files (prove_none s d p) told Yes text → IsProofFile files d p q text
  answer-proved (inl (m, stand, inl h)) = certificate-proved m h.what stand h.right.0 (h.right.1 refl) h.text_is
  answer-proved (inl (m, stand, inr (inl h))) = absurd (no-proof h.what h.status_is)
  answer-proved (inl (m, stand, inr (inr h))) = absurd (let e : Yes ≡ Range = h.3 in let k : ⊥ = cc in k)
  answer-proved (inr h) = let refuses = h.2 in absurd (let e : Yes ≡ Refused = refuses.1 in let k : ⊥ = cc in k)

pub printed-plans-valid : PrintedPlansAreValid
printed-plans-valid files s d p q text told (inl h) limit short content = answer-valid files s d p q text told limit short content h
printed-plans-valid files s d p q text told (inr h) limit short content = in-place-valid files s d p q text told limit short content h

pub printed-proofs-proved : PrintedProofsAreProved
printed-proofs-proved files s d p q text told h limit short content = answer-proved files s d p q text told limit short content h
