-- Why files are not read on.
use Rattle.std.specs.Prelude.{◌≡◌, ◌⊎◌, ℕ, Bool, true, false, List, Option, Result, Ok, Err, ⊤}
use Rattle.tl_outside.specs.Causes.{Rose}
use Rattle.tl_outside.specs.Told.{Files, IsContent, Lacks}
use Rattle.tl_outside.specs.declared.reading.ReadFault.{ReadFault as Fault}
use Rattle.tl_outside.specs.declared.reading.ReadFault.TheVariants as reading
use Rattle.tl_sexpr.specs.declared.fault.TextFault.{TextFault}
use Rattle.tl_sexpr.specs.declared.fault.TextFault.TheVariants as text
use Rattle.tl_rules.specs.declared.rule.FormFault.{FormFault}
use Rattle.tl_rules.specs.declared.rule.FormFault.TheVariants as form
use Rattle.tl_rules.specs.Rules.{Break, IsLeastBreak}
use Rattle.tl_run.specs.declared.status.Status.{Status}
use Rattle.tl_run.specs.declared.status.Status.TheVariants as status
use Rattle.tl_run.specs.declared.stop.Broken.{Broken}
use Rattle.tl_run.specs.declared.stop.Broken.TheVariants as broken
use Rattle.tl_run.specs.declared.stop.Stop.{Stop}
use Rattle.tl_run.specs.declared.stop.Stop.TheVariants.{ReadFault, NoMemory, Refused}
use Rattle.tl_run.specs.declared.words.Role.{Role}
use Rattle.tl_run.specs.Commands.{Command, sample}
use Rattle.tl_run.specs.Inputs.{Input, IsBroken}
use Rattle.tl_run.specs.SampleTexts.{BreaksSample}
use Rattle.tl_run.specs.Turns.{BeginsFirst, CallsTold, IsRefused, LacksFile}

-- the stop at the file of this number, whose text has this fault
abbrev pub stop_of_text : ℕ → TextFault → Stop
stop_of_text number (text.BadByte at) = Refused number (broken.BadByte at)
stop_of_text number (text.StrayClose at) = Refused number (broken.StrayClose at)
stop_of_text number (text.Unclosed at) = Refused number (broken.Unclosed at)
stop_of_text number (text.TooDeep at) = Refused number (broken.TooDeep at)
stop_of_text number (text.BigInteger at) = Refused number (broken.BigInteger at)
stop_of_text number text.NoMemory = NoMemory

-- the stop at the file of this number, whose forms have this fault
abbrev pub stop_of_forms : ℕ → FormFault → Stop
stop_of_forms number (form.Breaks rule at) = Refused number (broken.Form rule at)
stop_of_forms number form.NoMemory = NoMemory

-- the stop at the file of this number, which could not be read by this fault
abbrev pub stop_of_reading : ℕ → Fault → Stop
stop_of_reading number reading.Failed = ReadFault
stop_of_reading number reading.TooLong = Refused number broken.TooLong
stop_of_reading number reading.NoMemory = NoMemory

-- why a file of this role, of this name and this number, adds nothing to what was read before
abbrev pub IsTurnStop : Option Files → Role → List ℕ → Input → ℕ → ℕ → ℕ → Stop → Type 0
IsTurnStop files r name x number before now ReadFault = Lacks files name ⊎ Rose before now
IsTurnStop files r name x number before now NoMemory = ⊤
IsTurnStop files r name x number before now (Refused k m) = (k ≡ number) ×
    ((bytes : List ℕ) × IsContent files name bytes × IsBroken r x bytes m)

-- of the rules that forms break, this is the least one
pub record IsLeastBroken (breaks : List Break) (b : Broken) : Type 0 where
  pub rule : Break
  pub is : b ≡ broken.Form rule.0 rule.1
  pub least : IsLeastBreak breaks rule

-- why the forms of the file of this number stand for nothing, where these are the rules that they
-- break
abbrev pub IsFormsStop : ℕ → List Break → Stop → Type 0
IsFormsStop number breaks ReadFault = ⊥
IsFormsStop number breaks NoMemory = ⊤
IsFormsStop number breaks (Refused k b) = (k ≡ number) × IsLeastBroken breaks b

-- why the bytes of the file of this number stand for nothing
abbrev pub IsFileStop : ℕ → (Broken → Type 0) → Stop → Type 0
IsFileStop number Breaks ReadFault = ⊥
IsFileStop number Breaks NoMemory = ⊤
IsFileStop number Breaks (Refused k b) = (k ≡ number) × Breaks b

-- the command reads files
abbrev pub ReadsFiles : Command → Type 0
ReadsFiles (sample balls) = ⊥
ReadsFiles c = ⊤

-- why a text of the sample of so many balls stands for nothing
abbrev pub IsSampleStop : ℕ → Stop → Type 0
IsSampleStop balls ReadFault = ⊥
IsSampleStop balls NoMemory = ⊤
IsSampleStop balls (Refused number b) = BreaksSample balls number b

-- why the files of a command were not read to their ends
abbrev pub IsStop : Option Files → Command → CallsTold → ℕ → ℕ → Stop → Type 0
IsStop files c told before now ReadFault = LacksFile files c ⊎ Rose before now
IsStop files c told before now NoMemory = ⊤
IsStop files c told before now (Refused number b) = IsRefused files c number b × BeginsFirst c told number false

-- whether a call of the store failed
abbrev pub is_fault : Stop → Bool
is_fault ReadFault = true
is_fault stop = false

-- whether reading stopped because a call of the store failed
abbrev pub has_read_fault : {T : Type 0} → Result T Stop → Bool
has_read_fault (Ok t) = false
has_read_fault (Err stop) = is_fault stop

-- whether a run that ends so stopped because a call of the store failed
abbrev pub is_read_fault : Status → Bool
is_read_fault status.ReadFault = true
is_read_fault s = false

-- the same, where it may have gone on
abbrev pub ends_by_read_fault : {T : Type 0} → Result T Status → Bool
ends_by_read_fault (Ok t) = false
ends_by_read_fault (Err s) = is_read_fault s

-- why a command is answered with this status alone, and no line
abbrev pub IsBareStatus : Option Files → Command → ℕ → ℕ → Status → Type 0
IsBareStatus files c before now status.ReadFault = LacksFile files c ⊎ Rose before now
IsBareStatus files c before now status.NoMemory = ⊤
IsBareStatus files c before now s = ⊥
