-- The faults that the reader tells, and that it tells nothing else.
use Rattle.std.proofs.Common.{◌≡◌, ◌≢◌, ℕ, ◌+◌, ◌<◌, ◌≤◌, ◌⊎◌, List, [], ◌∷◌, length, slice_index, slice_range, IsTrue, false, inl, inr}
use Rattle.std.proofs.Common.{refl, sym, ap, subst, arith, Result, Ok, Err, IfOk, IfErr, IsErrAnd, MatchResult}
use Rattle.tl_sexpr.specs.declared.fault.TextFault.{TextFault}
use Rattle.tl_sexpr.specs.declared.fault.TextFault.TheVariants.{BadByte, StrayClose, TooDeep, BigInteger, NoMemory}
use Rattle.tl_sexpr.specs.declared.form.Forms.{Forms}
use Rattle.tl_sexpr.specs.declared.reader.Reader.{Reader}
use Rattle.tl_sexpr.specs.Bytes.{is_blank, is_token_byte}
use Rattle.tl_sexpr.specs.Faults.{IsDepth, IsTooBig, NoFaultBefore, IsFaultOf}
use Rattle.tl_sexpr.specs.Reading.{IsRead, Nested, IsOpenSince}
use Rattle.tl_sexpr.specs.Spelling.{Spells}
use Rattle.tl_sexpr.specs.Tree.{FormTrees, trees_of}
use Rattle.tl_sexpr.proofs.Clean.{IsClean, clean_nested}
use Rattle.tl_sexpr.proofs.Depths.{depth_at_start}
use Rattle.tl_sexpr.proofs.Once.{spelled_once}
use Rattle.tl_sexpr.proofs.OneFault.{one_fault, no_fault_if_spelled, unclosed}
use Rattle.tl_sexpr.proofs.Starts.{outside_at_start, token_here}
use Rattle.tl_sexpr.proofs.Steps.{stands_here}
use Rattle.tl_sexpr.proofs.TokenBytes.{open_is_plain, close_is_plain}

-- what was read has no fault, and its depth is the number of open lists
clean : (bytes : List ℕ) (r : Reader) (at : ℕ) → IsRead bytes r at → IsClean bytes 0 0 at (0 + length r.open.items)
clean bytes r at read = clean_nested bytes 0 0 at r.open.items (trees_of r.forms) read.nested (depth_at_start bytes)

faultless : (bytes : List ℕ) (r : Reader) (at : ℕ) → IsRead bytes r at → NoFaultBefore bytes at
faultless bytes r at read k high = (clean bytes r at read).faultless k (omega arith) high

depth_is : (bytes : List ℕ) (r : Reader) (at d : ℕ) → IsRead bytes r at → length r.open.items ≡ d → IsDepth bytes at d
depth_is bytes r at d read e = let same : 0 + length r.open.items ≡ d = omega (arith, e) in
    subst (IsDepth bytes at) same (clean bytes r at read).at_end

pub refuses_byte : (bytes : List ℕ) (r : Reader) (at : ℕ) → IsRead bytes r at → at < length bytes → is_blank (slice_index bytes at) ≡
    false → is_token_byte (slice_index bytes at) ≡ false → slice_index bytes at ≢ 59 → slice_index bytes at ≢ 40 →
    slice_index bytes at ≢ 41 → IsFaultOf bytes (BadByte at)
refuses_byte bytes r at read within no_blank no_token_byte no_comment no_open no_close = (
  record {
    within = within;
    outside = outside_at_start bytes at read.start within no_comment;
    no_blank = no_blank;
    no_token_byte = no_token_byte;
    no_open = no_open;
    no_close = no_close;
  },
  faultless bytes r at read,
)

refuses_close : (bytes : List ℕ) (r : Reader) (at : ℕ) → IsRead bytes r at → at < length bytes → slice_index bytes at ≡ 41 → r.open.items ≡
    [] → IsFaultOf bytes (StrayClose at)
refuses_close bytes r at read within is none_open = (
  record {
    close = stands_here bytes at 41 read.start within is (close_is_plain 41 refl);
    depth = depth_is bytes r at 0 read (ap length none_open);
  },
  faultless bytes r at read,
)

pub refuses_open : (bytes : List ℕ) (r : Reader) (at : ℕ) → IsRead bytes r at → at < length bytes → slice_index bytes at ≡ 40 →
    100 ≤ length r.open.items → IsFaultOf bytes (TooDeep at)
refuses_open bytes r at read within is many = (
  record {
    open_list = stands_here bytes at 40 read.start within is (open_is_plain 40 refl);
    depth = depth_is bytes r at 100 read (omega (arith, read.few, many));
  },
  faultless bytes r at read,
)

refuses_integer : (bytes : List ℕ) (r : Reader) (at end : ℕ) → IsRead bytes r at → at < end → end ≤ length bytes →
    ((k : ℕ) → at ≤ k → k < end → IsTrue (is_token_byte (slice_index bytes k))) →
    (end < length bytes → is_token_byte (slice_index bytes end) ≡ false) → IsTooBig (slice_range bytes at end) →
    IsFaultOf bytes (BigInteger at)
refuses_integer bytes r at end read some bounded each longest big = (
  record {
    end = end;
    token = token_here bytes at end read.start some bounded each longest;
    big = big;
  },
  faultless bytes r at read,
)

-- memory ran out, or it is the fault of the bytes
abbrev pub IsTold : List ℕ → TextFault → Type 0
IsTold bytes fault = (fault ≡ NoMemory) ⊎ IsFaultOf bytes fault

pub refused_close : (bytes : List ℕ) (r : Reader) (at : ℕ) (fault : TextFault) → IsRead bytes r at → at < length bytes →
    slice_index bytes at ≡ 41 → (fault ≡ NoMemory) ⊎ ((fault ≡ StrayClose at) × (r.open.items ≡ [])) → IsTold bytes fault
refused_close bytes r at fault read within is (inl e) = inl e
refused_close bytes r at fault read within is (inr told) = inr (subst (IsFaultOf bytes) (sym told.0)
    (refuses_close bytes r at read within is told.1))

pub refused_integer : (bytes : List ℕ) (r : Reader) (at end : ℕ) (fault : TextFault) → IsRead bytes r at → at < end → end ≤ length bytes →
    ((k : ℕ) → at ≤ k → k < end → IsTrue (is_token_byte (slice_index bytes k))) →
    (end < length bytes → is_token_byte (slice_index bytes end) ≡ false) → (fault ≡ NoMemory) ⊎
    ((fault ≡ BigInteger at) × IsTooBig (slice_range bytes at end)) → IsTold bytes fault
refused_integer bytes r at end fault read some bounded each longest (inl e) = inl e
refused_integer bytes r at end fault read some bounded each longest (inr told) =
    inr (subst (IsFaultOf bytes) (sym told.0) (refuses_integer bytes r at end read some bounded each longest told.1))

refuses_end : (bytes : List ℕ) (r : Reader) (at : ℕ) (fault : TextFault) → IsRead bytes r at → length bytes ≤ at → IsOpenSince r fault →
    IsFaultOf bytes fault
refuses_end bytes r at fault read end since =
    let same : at ≡ length bytes = omega (arith, read.start.within) in
    let nested = rw since.stack at read.nested in
    rw since.told (unclosed bytes since.outermost since.rest (trees_of r.forms)
    (subst (λ n. Nested bytes 0 0 (since.outermost ∷ since.rest) (trees_of r.forms) n) same nested))

pub fault_at_end : (bytes : List ℕ) (r : Reader) (at : ℕ) (result : Result Forms TextFault) → IsRead bytes r at → length bytes ≤ at →
    IfErr result (IsOpenSince r) → IfErr result (IsTold bytes)
fault_at_end bytes r at (Ok forms) read end since = tt
fault_at_end bytes r at (Err fault) read end since = inr (refuses_end bytes r at fault read end since)

-- what a reader answers that tells only forms that are spelled and only the fault of the bytes
module _ (bytes : List ℕ) where
  pub reads_all : (result : Result Forms TextFault) → IfOk result (λ forms. Spells bytes (trees_of forms)) → IfErr result (IsTold bytes) →
      (forms : FormTrees) → Spells bytes forms → MatchResult result (λ read. trees_of read ≡ forms) (λ fault. fault ≡ NoMemory)
  reads_all (Ok read) spelled told forms spells = spelled_once bytes (trees_of read) forms spelled spells
  reads_all (Err fault) spelled (inl e) forms spells = e
  reads_all (Err fault) spelled (inr is) forms spells = absurd (no_fault_if_spelled bytes forms spells fault is)

  pub refuses_all : (result : Result Forms TextFault) → IfOk result (λ forms. Spells bytes (trees_of forms)) → IfErr result (IsTold bytes) →
      (fault : TextFault) → IsFaultOf bytes fault → IsErrAnd result (λ told. (told ≡ fault) ⊎ (told ≡ NoMemory))
  refuses_all (Ok read) spelled told fault is = absurd (no_fault_if_spelled bytes (trees_of read) spelled fault is)
  refuses_all (Err f) spelled (inl e) fault is = inr e
  refuses_all (Err f) spelled (inr its) fault is = inl (one_fault bytes f fault its is)

-- what holds of the fault that `?` hands on
pub handed_on : {A : Type 0} (result : Result A TextFault) (fault : TextFault) (P : TextFault → Type 0) →
    IsErrAnd result (λ told. told ≡ fault) → P fault → IfErr result P
handed_on (Ok x) fault P same h = absurd same
handed_on (Err told) fault P same h = subst P (sym same) h

no_ok : {A : Type 0} (result : Result A TextFault) (Q : TextFault → Type 0) (P : A → Type 0) → IsErrAnd result Q → IfOk result P
no_ok (Ok x) Q P is = absurd is
no_ok (Err told) Q P is = tt

-- the same of a reader that hands a fault on
module _ (bytes : List ℕ) (result : Result Forms TextFault) (fault : TextFault) (same : IsErrAnd result (λ told. told ≡ fault))
    (told : IsTold bytes fault) where
  pub reads_on : (forms : FormTrees) → Spells bytes forms → MatchResult result (λ read. trees_of read ≡ forms) (λ fault. fault ≡ NoMemory)
  reads_on = reads_all bytes result (no_ok result (λ f. f ≡ fault) (λ forms. Spells bytes (trees_of forms)) same)
      (handed_on result fault (IsTold bytes) same told)

  pub refuses_on : (other : TextFault) → IsFaultOf bytes other → IsErrAnd result (λ f. (f ≡ other) ⊎ (f ≡ NoMemory))
  refuses_on = refuses_all bytes result (no_ok result (λ f. f ≡ fault) (λ forms. Spells bytes (trees_of forms)) same)
      (handed_on result fault (IsTold bytes) same told)
