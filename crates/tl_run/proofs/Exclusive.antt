-- A file breaks at most one rule as the least one, and passes only where it breaks none.
use Rattle.std.proofs.Common.{◌≡◌, ℕ, ◌<◌, ◌≤◌, ◌⊎◌, List, length, refl, sym, ap, ◌∙◌, subst, inl, inr, arith}
use Rattle.tl_sexpr.specs.Faults.{IsFaultOf}
use Rattle.tl_sexpr.specs.Tree.{FormTrees}
use Rattle.tl_sexpr.specs.declared.fault.TextFault.{TextFault}
use Rattle.tl_sexpr.specs.declared.fault.TextFault.TheVariants as text
use Rattle.tl_sexpr.proofs.OneFault.{one_fault, no_fault_if_spelled}
use Rattle.tl_rules.specs.Rules.{Break, IsLeastBreak}
use Rattle.tl_run.specs.declared.stop.Broken.{Broken}
use Rattle.tl_run.specs.declared.stop.Broken.TheVariants.{BadByte, StrayClose, Unclosed, TooDeep, BigInteger, TooLong, Form}
use Rattle.tl_run.specs.declared.stop.Stop.TheVariants.{Refused}
use Rattle.tl_run.specs.declared.words.Role.{Role}
use Rattle.tl_run.specs.Files.{SpellShortly}
use Rattle.tl_run.specs.Inputs.{Input, breaks_of, StandsFor, FormsBreak, IsBroken}
use Rattle.tl_run.specs.Stops.{stop_of_text}
use Rattle.tl_run.proofs.LeastBreaks.{one_least, no_least}
use Rattle.tl_run.proofs.SameInputs.{SameInput, one_text, one_breaks}

-- a text that spells no forms, with its fault
record TextBreaks (bytes : List ℕ) (broken : Broken) : Type 0 where
  told : TextFault
  is : stop_of_text 0 told ≡ Refused 0 broken
  short : length bytes ≤ 4194304
  faulty : IsFaultOf bytes told

-- a text that spells forms which break a rule
record RuleBreaks (r : Role) (before : Input) (bytes : List ℕ) (broken : Broken) : Type 0 where
  rule : Break
  is : broken ≡ Form rule.0 rule.1
  breaks : FormsBreak r before bytes rule

-- a text that is too long
record LengthBreaks (bytes : List ℕ) (broken : Broken) : Type 0 where
  is : broken ≡ TooLong
  long : 4194304 < length bytes

abbrev Kinds : Role → Input → List ℕ → Broken → Type 0
Kinds r before bytes broken = LengthBreaks bytes broken ⊎ (TextBreaks bytes broken ⊎ RuleBreaks r before bytes broken)

kinds : (r : Role) (before : Input) (bytes : List ℕ) (broken : Broken) → IsBroken r before bytes broken → Kinds r before bytes broken
kinds r before bytes (BadByte at) h = inr (inl (record { told = text.BadByte at; is = refl; short = h.0; faulty = h.1 }))
kinds r before bytes (StrayClose at) h = inr (inl (record { told = text.StrayClose at; is = refl; short = h.0; faulty = h.1 }))
kinds r before bytes (Unclosed at) h = inr (inl (record { told = text.Unclosed at; is = refl; short = h.0; faulty = h.1 }))
kinds r before bytes (TooDeep at) h = inr (inl (record { told = text.TooDeep at; is = refl; short = h.0; faulty = h.1 }))
kinds r before bytes (BigInteger at) h = inr (inl (record { told = text.BigInteger at; is = refl; short = h.0; faulty = h.1 }))
kinds r before bytes TooLong h = inl (record { is = refl; long = h })
kinds r before bytes (Form rule at) h = inr (inr (record { rule = (rule, at); is = refl; breaks = h }))

too_long : (bytes : List ℕ) (b : Broken) (forms : FormTrees) → LengthBreaks bytes b → SpellShortly bytes forms → ⊥
too_long bytes b forms h s = omega (arith, h.long, s.short)

faulty : (bytes : List ℕ) (b : Broken) (forms : FormTrees) → TextBreaks bytes b → SpellShortly bytes forms → ⊥
faulty bytes b forms h s = no_fault_if_spelled bytes forms s.spelled h.told h.faulty

-- the least rule that forms break is one
rule_one : (r : Role) (a b : Input) (bytes : List ℕ) (m n : Break) → SameInput a b → FormsBreak r a bytes m → FormsBreak r b bytes n → m ≡ n
rule_one r a b bytes m n same h k =
    let forms = one_text bytes h.forms k.forms h.spelled k.spelled in
    let breaks = one_breaks r a b h.forms k.forms same forms in
    one_least (breaks_of r a h.forms) m n h.least (subst (λ (bs : List Break). IsLeastBreak bs n) (sym breaks) k.least)

-- forms that pass break no rule
lawful : (r : Role) (a b x : Input) (bytes : List ℕ) (m : Break) → SameInput a b → StandsFor r a bytes x → FormsBreak r b bytes m → ⊥
lawful r a b x bytes m same h k =
    let forms = one_text bytes h.forms k.forms h.spelled k.spelled in
    let breaks = one_breaks r a b h.forms k.forms same forms in
    no_least (breaks_of r b k.forms) m (sym breaks ∙ h.lawful) k.least

no_kind : (r : Role) (a b x : Input) (bytes : List ℕ) (m : Broken) → SameInput a b → StandsFor r a bytes x → Kinds r b bytes m → ⊥
no_kind r a b x bytes m same passes (inl h) = too_long bytes m passes.forms h passes.spelled
no_kind r a b x bytes m same passes (inr (inl h)) = faulty bytes m passes.forms h passes.spelled
no_kind r a b x bytes m same passes (inr (inr h)) = lawful r a b x bytes h.rule same passes h.breaks

-- a file that passes breaks no rule
pub passes_or_breaks : (r : Role) (a b x : Input) (bytes : List ℕ) (m : Broken) → SameInput a b → StandsFor r a bytes x →
    IsBroken r b bytes m → ⊥
passes_or_breaks r a b x bytes m same passes h = no_kind r a b x bytes m same passes (kinds r b bytes m h)

same_fault : (bytes : List ℕ) (m n : Broken) → TextBreaks bytes m → TextBreaks bytes n → m ≡ n
same_fault bytes m n h k =
    let e : Refused 0 m ≡ Refused 0 n = sym h.is ∙ ap (stop_of_text 0) (one_fault bytes h.told k.told h.faulty k.faulty) ∙ k.is in cc

same_kind : (r : Role) (a b : Input) (bytes : List ℕ) (m n : Broken) → SameInput a b → Kinds r a bytes m → Kinds r b bytes n → m ≡ n
same_kind r a b bytes m n same (inl h) (inl k) = h.is ∙ sym k.is
same_kind r a b bytes m n same (inl h) (inr (inl k)) = absurd (omega (arith, h.long, k.short))
same_kind r a b bytes m n same (inl h) (inr (inr k)) = let f = k.breaks in absurd (too_long bytes m f.forms h f.spelled)
same_kind r a b bytes m n same (inr (inl h)) (inl k) = absurd (omega (arith, k.long, h.short))
same_kind r a b bytes m n same (inr (inl h)) (inr (inl k)) = same_fault bytes m n h k
same_kind r a b bytes m n same (inr (inl h)) (inr (inr k)) = let f = k.breaks in absurd (faulty bytes m f.forms h f.spelled)
same_kind r a b bytes m n same (inr (inr h)) (inl k) = let f = h.breaks in absurd (too_long bytes n f.forms k f.spelled)
same_kind r a b bytes m n same (inr (inr h)) (inr (inl k)) = let f = h.breaks in absurd (faulty bytes n f.forms k f.spelled)
same_kind r a b bytes m n same (inr (inr h)) (inr (inr k)) =
    h.is ∙ ap (λ (x : Break). Form x.0 x.1) (rule_one r a b bytes h.rule k.rule same h.breaks k.breaks) ∙ sym k.is

-- a file breaks one rule as the least
pub broken_one : (r : Role) (a b : Input) (bytes : List ℕ) (m n : Broken) → SameInput a b → IsBroken r a bytes m → IsBroken r b bytes n →
    m ≡ n
broken_one r a b bytes m n same h k = same_kind r a b bytes m n same (kinds r a bytes m h) (kinds r b bytes n k)
