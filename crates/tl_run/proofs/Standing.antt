-- What the program holds of files that were read, and the stops at one file.
use Rattle.std.proofs.Common.{◌≡◌, ◌⊎◌, inl, inr, ℕ, ◌≤◌, List, [], length, Bool, true, false, None, refl, sym, ap, subst, arith}
use Rattle.std.specs.Prelude.{Option, Result, Ok, Err, IfErr}
use Rattle.std.specs.Result.{IsErrAnd, IsErrOf}
use Rattle.tl_sexpr.specs.Faults.{IsFaultOf}
use Rattle.tl_sexpr.specs.Tree.{FormTrees, trees_of}
use Rattle.tl_sexpr.specs.declared.fault.TextFault.{TextFault}
use Rattle.tl_sexpr.specs.declared.fault.TextFault.TheVariants as text
use Rattle.tl_sexpr.specs.declared.form.Forms.{Forms}
use Rattle.tl_syntax.specs.declared.problem.Problem.{Problem}
use Rattle.tl_rules.specs.declared.rule.FormFault.{FormFault}
use Rattle.tl_rules.specs.declared.rule.FormFault.TheVariants as form
use Rattle.tl_rules.specs.Reads.{IsLeastFault}
use Rattle.tl_rules.specs.Rules.{Break}
use Rattle.tl_outside.specs.Calls.{has_failed}
use Rattle.tl_outside.specs.Causes.{Rose}
use Rattle.tl_outside.specs.Told.{Files, IsContent, IsLonger, Lacks}
use Rattle.tl_outside.specs.declared.reading.ReadFault.{ReadFault as Fault}
use Rattle.tl_outside.specs.declared.reading.ReadFault.TheVariants as reading
use Rattle.tl_run.specs.declared.stop.Broken.{Broken}
use Rattle.tl_run.specs.declared.stop.Stop.{Stop}
use Rattle.tl_run.specs.declared.stop.Stop.TheVariants.{ReadFault, NoMemory, Refused}
use Rattle.tl_run.specs.declared.turn.Input.{Input as Held}
use Rattle.tl_run.specs.declared.turn.Input.TheVariants as held
use Rattle.tl_run.specs.declared.words.Role.{Role}
use Rattle.tl_run.specs.Files.{SpellShortly}
use Rattle.tl_run.specs.Held.{IsHeld, last_role}
use Rattle.tl_run.specs.Inputs.{Input, nothing, a_domain, a_problem, breaks_of, IsBroken}
use Rattle.tl_run.specs.Stops.{stop_of_forms, stop_of_reading, stop_of_text, IsFileStop, IsFormsStop, IsSampleStop, IsTurnStop}
use Rattle.tl_run.specs.Stops.{has_read_fault, is_fault}

-- what the reader of forms tells is a stop at the file
pub text_stop : (number : ℕ) (r : Role) (before : Input) (bytes : List ℕ) (told : TextFault) → length bytes ≤ 4194304 →
    (told ≡ text.NoMemory) ⊎ IsFaultOf bytes told → IsFileStop number (IsBroken r before bytes) (stop_of_text number told)
text_stop number r before bytes text.NoMemory short h = tt
text_stop number r before bytes (text.BadByte at) short (inl e) = absurd (let k : ⊥ = cc in k)
text_stop number r before bytes (text.StrayClose at) short (inl e) = absurd (let k : ⊥ = cc in k)
text_stop number r before bytes (text.Unclosed at) short (inl e) = absurd (let k : ⊥ = cc in k)
text_stop number r before bytes (text.TooDeep at) short (inl e) = absurd (let k : ⊥ = cc in k)
text_stop number r before bytes (text.BigInteger at) short (inl e) = absurd (let k : ⊥ = cc in k)
text_stop number r before bytes (text.BadByte at) short (inr h) = (refl, (short, h))
text_stop number r before bytes (text.StrayClose at) short (inr h) = (refl, (short, h))
text_stop number r before bytes (text.Unclosed at) short (inr h) = (refl, (short, h))
text_stop number r before bytes (text.TooDeep at) short (inr h) = (refl, (short, h))
text_stop number r before bytes (text.BigInteger at) short (inr h) = (refl, (short, h))

-- the least rule that forms break is a stop at the file
pub forms_stop : (number : ℕ) (breaks : List Break) (told : FormFault) → IsLeastFault breaks told →
    IsFormsStop number breaks (stop_of_forms number told)
forms_stop number breaks (form.Breaks rule at) h = (refl, record { rule = (rule, at); is = refl; least = h })
forms_stop number breaks form.NoMemory h = tt

-- so it is for the bytes of the file
pub file_stop : (number : ℕ) (r : Role) (before : Input) (bytes : List ℕ) (forms : FormTrees) (stop : Stop) → SpellShortly bytes forms →
    IsFormsStop number (breaks_of r before forms) stop → IsFileStop number (IsBroken r before bytes) stop
file_stop number r before bytes forms ReadFault spelled h = absurd h
file_stop number r before bytes forms NoMemory spelled h = tt
file_stop number r before bytes forms (Refused k m) spelled h =
    let l = h.1 in
    let rule = l.rule in
    (h.0, subst (λ (b : Broken). IsBroken r before bytes b) (sym l.is) (record { forms = forms; spelled = spelled; least = l.least }))

-- what is held of no file, of a domain and of a problem

pub nothing_held : (P : Input → Type 0) (x : Input) → IsHeld held.Nothing x → P nothing → P x
nothing_held P nothing h p = p
nothing_held P x h p = absurd h

pub domain_held : (P : Input → Type 0) (forms : Forms) (x : Input) → IsHeld (held.Domain forms) x → P (a_domain (trees_of forms)) → P x
domain_held P forms (a_domain first) h p = subst (λ (fs : FormTrees). P (a_domain fs)) (sym h) p
domain_held P forms x h p = absurd h

pub problem_held : (P : Input → Type 0) (q : Problem) (x : Input) → IsHeld (held.Problem q) x → P (a_problem q) → P x
problem_held P q (a_problem p) h k = subst (λ (u : Problem). P (a_problem u)) (sym h) k
problem_held P q x h k = absurd h

-- before the first file nothing is held
pub nothing_before : (P : Input → Type 0) (h : Held) (x : Input) → None ≡ last_role h → IsHeld h x → P nothing → P x
nothing_before P held.Nothing x e is p = nothing_held P x is p
nothing_before P (held.Domain forms) x e is p = absurd (let k : ⊥ = cc in k)
nothing_before P (held.Problem q) x e is p = absurd (let k : ⊥ = cc in k)
nothing_before P (held.Plan q plan) x e is p = absurd (let k : ⊥ = cc in k)
nothing_before P (held.Proof q proof) x e is p = absurd (let k : ⊥ = cc in k)
nothing_before P (held.Costs q costs) x e is p = absurd (let k : ⊥ = cc in k)
nothing_before P (held.Loop q plan) x e is p = absurd (let k : ⊥ = cc in k)

-- a fault of reading is a stop at the file
pub read_stop : {T : Type 0} (files : Option Files) (r : Role) (name : List ℕ) (x : Input) (number : ℕ) (before now : ℕ) (told : Fault) →
    (IsErrOf {T = T} (Err told) reading.Failed → Lacks files name ⊎ Rose before now) →
    (IsErrOf {T = T} (Err told) reading.TooLong → IsLonger files name 4194304) →
    IsTurnStop files r name x number before now (stop_of_reading number told)
read_stop files r name x number before now reading.Failed failed long = failed refl
read_stop files r name x number before now reading.TooLong failed long =
    let l = long refl in
    (refl, (l.0, l.1, l.2))
read_stop files r name x number before now reading.NoMemory failed long = tt

-- so is a stop over its bytes
pub turn_stop : (files : Option Files) (r : Role) (name : List ℕ) (x : Input) (number : ℕ) (bytes : List ℕ) (before now : ℕ) (stop : Stop) →
    IsContent files name bytes → IsFileStop number (IsBroken r x bytes) stop → IsTurnStop files r name x number before now stop
turn_stop files r name x number bytes before now ReadFault content h = absurd h
turn_stop files r name x number bytes before now NoMemory content h = tt
turn_stop files r name x number bytes before now (Refused k m) content h = (h.0, (bytes, content, h.1))

-- a stop over the bytes of a file is no fault of the store
pub no_fault : {T : Type 0} (result : Result T Stop) (number : ℕ) (Breaks : Broken → Type 0) → IfErr result (IsFileStop number Breaks) →
    has_read_fault result ≡ false
no_fault (Ok t) number Breaks h = refl
no_fault (Err ReadFault) number Breaks h = absurd h
no_fault (Err NoMemory) number Breaks h = refl
no_fault (Err (Refused k m)) number Breaks h = refl

-- neither is a stop over the texts of a sample
pub no_sample_fault : {T : Type 0} (result : Result T Stop) (balls : ℕ) → IfErr result (IsSampleStop balls) → has_read_fault result ≡ false
no_sample_fault (Ok t) balls h = refl
no_sample_fault (Err ReadFault) balls h = absurd h
no_sample_fault (Err NoMemory) balls h = refl
no_sample_fault (Err (Refused number m)) balls h = refl

-- a call of the store failed exactly where the stop says so
pub same_fault : (T : Type 0) (number : ℕ) (told : Fault) → has_failed {T = T} (Err told) ≡ is_fault (stop_of_reading number told)
same_fault T number reading.Failed = refl
same_fault T number reading.TooLong = refl
same_fault T number reading.NoMemory = refl

-- the stop that `?` hands on is no other
pub handed_fault : {A : Type 0} (result : Result A Stop) (stop : Stop) → IsErrAnd result (λ told. told ≡ stop) → is_fault stop ≡
    has_read_fault result
handed_fault (Ok x) stop same = absurd same
handed_fault (Err told) stop same = ap is_fault (sym same)

-- what holds of the stop that `?` hands on
pub handed_on : {A : Type 0} (result : Result A Stop) (stop : Stop) (P : Stop → Type 0) → IsErrAnd result (λ told. told ≡ stop) → P stop →
    IfErr result P
handed_on (Ok x) stop P same h = absurd same
handed_on (Err told) stop P same h = subst P (sym same) h
