-- What a run has written at its end.
use Rattle.std.proofs.Common.{◌≡◌, ◌⊎◌, inl, inr, ℕ, List, false, refl, sym, ◌∙◌, subst}
use Rattle.std.specs.Prelude.{Option, Some, None}
use Rattle.tl_outside.specs.Causes.{Rose}
use Rattle.tl_outside.specs.Told.{Files}
use Rattle.tl_run.specs.declared.status.Status.{Status}
use Rattle.tl_run.specs.declared.status.Status.TheVariants.{Yes, No, Spent, Refused, Range, ReadFault, WriteFault, NoMemory, Usage}
use Rattle.tl_run.specs.Commands.{Command}
use Rattle.tl_run.specs.Promises.{Writes}
use Rattle.tl_run.specs.Replies.{HasLines, Sends}
use Rattle.tl_run.specs.Sent.{SendsAll, SinkTold}
use Rattle.tl_run.specs.Stops.{IsBareStatus, is_read_fault}
use Rattle.tl_run.specs.Turns.{LacksFile}

writes_all : (P : Status → List ℕ → Type 0) (old new : SinkTold) (status : Status) (text : List ℕ) → HasLines status → P status text →
    SendsAll old new text → Writes P old new status
writes_all P old new Yes text lines p e = (text, p, e)
writes_all P old new No text lines p e = (text, p, e)
writes_all P old new Spent text lines p e = (text, p, e)
writes_all P old new Refused text lines p e = (text, p, e)
writes_all P old new Range text lines p e = (text, p, e)
writes_all P old new status text lines p e = absurd lines

-- what is sent is written
pub sent_writes : (P : Status → List ℕ → Type 0) (old new : SinkTold) (status result : Status) (text : List ℕ) → HasLines status →
    P status text → Sends old new status text result → Writes P old new result
sent_writes P old new status result text lines p (inl s) = subst (λ (r : Status). Writes P old new r) (sym s.0)
    (writes_all P old new status text lines p s.1)
sent_writes P old new status result text lines p (inr s) = subst (λ (r : Status). Writes P old new r) (sym s.0) (status, text, p, s.1)

-- without lines nothing is written
pub bare_writes : (P : Status → List ℕ → Type 0) (files : Option Files) (c : Command) (before now : ℕ) (old new : SinkTold)
    (status : Status) → IsBareStatus files c before now status → new ≡ old → Writes P old new status
bare_writes P files c before now old new ReadFault bare e = e
bare_writes P files c before now old new NoMemory bare e = e
bare_writes P files c before now old new status bare e = absurd bare

-- the statuses with which sending ends
abbrev IsSent : Status → Type 0
IsSent Yes = Unit {0}
IsSent No = Unit {0}
IsSent Spent = Unit {0}
IsSent Refused = Unit {0}
IsSent Range = Unit {0}
IsSent WriteFault = Unit {0}
IsSent status = ⊥

lines_sent : (status : Status) → HasLines status → IsSent status
lines_sent Yes lines = tt
lines_sent No lines = tt
lines_sent Spent lines = tt
lines_sent Refused lines = tt
lines_sent Range lines = tt
lines_sent status lines = absurd lines

sent : (old new : SinkTold) (status result : Status) (text : List ℕ) → HasLines status → Sends old new status text result → IsSent result
sent old new status result text lines (inl s) = subst IsSent (sym s.0) (lines_sent status lines)
sent old new status result text lines (inr s) = subst IsSent (sym s.0) tt

-- sending ends neither as wrong words do nor as reading does
pub sent_no_usage : (old new : SinkTold) (status result : Status) (text : List ℕ) → HasLines status → Sends old new status text result →
    result ≡ Usage → ⊥
sent_no_usage old new status result text lines s e = subst IsSent e (sent old new status result text lines s)

pub sent_no_read_fault : (old new : SinkTold) (status result : Status) (text : List ℕ) → HasLines status →
    Sends old new status text result → result ≡ ReadFault → ⊥
sent_no_read_fault old new status result text lines s e = subst IsSent e (sent old new status result text lines s)

-- a status with lines is no read fault, and neither is what sending it ends with
sent_is_no_fault : (status : Status) → IsSent status → is_read_fault status ≡ false
sent_is_no_fault Yes is = refl
sent_is_no_fault No is = refl
sent_is_no_fault Spent is = refl
sent_is_no_fault Refused is = refl
sent_is_no_fault Range is = refl
sent_is_no_fault WriteFault is = refl
sent_is_no_fault status is = absurd is

pub sent_without_fault : (old new : SinkTold) (status result : Status) (text : List ℕ) → HasLines status →
    Sends old new status text result → false ≡ is_read_fault result
sent_without_fault old new status result text lines s = sym (sent_is_no_fault result (sent old new status result text lines s))

-- a bare status is ReadFault by its cause, or want of memory
pub bare_read_fault : (files : Option Files) (c : Command) (before now : ℕ) (status : Status) → IsBareStatus files c before now status →
    status ≡ ReadFault → LacksFile files c ⊎ Rose before now
bare_read_fault files c before now ReadFault bare e = bare
bare_read_fault files c before now NoMemory bare e = absurd (let k : ⊥ = cc in k)
bare_read_fault files c before now status bare e = absurd bare

pub bare_no_usage : (files : Option Files) (c : Command) (before now : ℕ) (status : Status) → IsBareStatus files c before now status →
    status ≡ Usage → ⊥
bare_no_usage files c before now ReadFault bare e = let k : ⊥ = cc in k
bare_no_usage files c before now NoMemory bare e = let k : ⊥ = cc in k
bare_no_usage files c before now status bare e = absurd bare

pub bare_no_write_fault : (files : Option Files) (c : Command) (before now : ℕ) (status : Status) → IsBareStatus files c before now status →
    status ≡ WriteFault → ⊥
bare_no_write_fault files c before now ReadFault bare e = let k : ⊥ = cc in k
bare_no_write_fault files c before now NoMemory bare e = let k : ⊥ = cc in k
bare_no_write_fault files c before now status bare e = absurd bare

-- the command of words is one
pub same_command : (m : Option Command) (a c : Command) → Some a ≡ m → m ≡ Some c → a ≡ c
same_command m a c p q = let e : Some a ≡ Some c = p ∙ q in cc

-- words of a command are not wrong
pub no_words : (m : Option Command) (a : Command) → Some a ≡ m → m ≡ None → ⊥
no_words m a p q = let e : Some a ≡ None = p ∙ q in cc
