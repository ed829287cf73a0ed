-- Where bytes spell no forms.
use Rattle.std.specs.Prelude.{◌≡◌, ◌≢◌, ℕ, zero, suc, ◌+◌, ◌<◌, ◌⊎◌, List, length, true, false, slice_index, slice_range, FitsSigned}
use Rattle.std.specs.Int.{w64}
use Rattle.tl_sexpr.specs.declared.fault.TextFault.{TextFault}
use Rattle.tl_sexpr.specs.declared.fault.TextFault.TheVariants.{BadByte, StrayClose, Unclosed, TooDeep, BigInteger, NoMemory}
use Rattle.tl_sexpr.specs.Bytes.{is_blank, is_token_byte, IsInComment, StandsAt}
use Rattle.tl_sexpr.specs.Spelling.{IsToken, spells_integer, integer_value}

-- before this offset the byte stands so many times outside comments
unfoldable pub IsCount : List ℕ → ℕ → ℕ → ℕ → Type 0
IsCount bytes c zero count = count ≡ 0
IsCount bytes c (suc k) count =
    (StandsAt bytes k c × ((less : ℕ) × (count ≡ less + 1) × IsCount bytes c k less)) ⊎ ((¬ StandsAt bytes k c) × IsCount bytes c k count)

-- the depth at an offset: how many more `(` than `)` stand before it outside comments
pub record IsDepth (bytes : List ℕ) (k depth : ℕ) : Type 0 where
  pub opens : ℕ
  pub closes : ℕ
  pub opened : IsCount bytes 40 k opens
  pub closed : IsCount bytes 41 k closes
  pub more : opens ≡ closes + depth

-- byte k is outside comments, and no blank, no byte of a token and no parenthesis
pub record IsBadByte (bytes : List ℕ) (k : ℕ) : Type 0 where
  pub within : k < length bytes
  pub outside : ¬ IsInComment bytes k
  pub no_blank : is_blank (slice_index bytes k) ≡ false
  pub no_token_byte : is_token_byte (slice_index bytes k) ≡ false
  pub no_open : slice_index bytes k ≢ 40
  pub no_close : slice_index bytes k ≢ 41

-- a `)` where no list is open
pub record IsStrayClose (bytes : List ℕ) (k : ℕ) : Type 0 where
  pub close : StandsAt bytes k 41
  pub depth : IsDepth bytes k 0

-- a `(` where 100 lists are open
pub record IsTooDeep (bytes : List ℕ) (k : ℕ) : Type 0 where
  pub open_list : StandsAt bytes k 40
  pub depth : IsDepth bytes k 100

-- the text is an integer that 64 bits with a sign do not hold
pub record IsTooBig (text : List ℕ) : Type 0 where
  pub whole_number : spells_integer text ≡ true
  pub too_big : ¬ FitsSigned w64 (integer_value text)

-- the first byte of a token that is such an integer
pub record IsBigInteger (bytes : List ℕ) (k : ℕ) : Type 0 where
  pub end : ℕ
  pub token : IsToken bytes k end
  pub big : IsTooBig (slice_range bytes k end)

-- one of these faults stands at an offset
pub data FaultAt (bytes : List ℕ) (k : ℕ) : Type 0 where
  bad_byte : IsBadByte bytes k → FaultAt bytes k
  stray_close : IsStrayClose bytes k → FaultAt bytes k
  too_deep : IsTooDeep bytes k → FaultAt bytes k
  big_integer : IsBigInteger bytes k → FaultAt bytes k

-- none of them stands before an offset
abbrev pub NoFaultBefore : List ℕ → ℕ → Type 0
NoFaultBefore bytes n = (k : ℕ) → k < n → ¬ FaultAt bytes k

-- none of them stands anywhere, lists are open at the end, and this is the last `(` where no list
-- was open
pub record IsUnclosed (bytes : List ℕ) (k : ℕ) : Type 0 where
  pub faultless : NoFaultBefore bytes (length bytes)
  pub depth : ℕ
  pub at_end : IsDepth bytes (length bytes) depth
  pub some : 0 < depth
  pub open_list : StandsAt bytes k 40
  pub outermost : IsDepth bytes k 0
  pub last : (j : ℕ) → k < j → StandsAt bytes j 40 → ¬ IsDepth bytes j 0

-- the fault of the bytes: of the first four the one with the least offset, and else that lists are
-- open at the end
abbrev pub IsFaultOf : List ℕ → TextFault → Type 0
IsFaultOf bytes (BadByte k) = IsBadByte bytes k × NoFaultBefore bytes k
IsFaultOf bytes (StrayClose k) = IsStrayClose bytes k × NoFaultBefore bytes k
IsFaultOf bytes (Unclosed k) = IsUnclosed bytes k
IsFaultOf bytes (TooDeep k) = IsTooDeep bytes k × NoFaultBefore bytes k
IsFaultOf bytes (BigInteger k) = IsBigInteger bytes k × NoFaultBefore bytes k
IsFaultOf bytes NoMemory = ⊥
