-- Texts that are numbered anew, in the order of their bytes.
use Rattle.std.specs.Prelude.{◌≡◌, ◌<◌, ℕ, List, Some, map, slice_get}
use Rattle.std.specs.Cmp.Lexicographic.{slice_cmp}
use Rattle.std.specs.Ordering.{nat_cmp, ordering_then}
use Rattle.std.specs.Rc.{rc_str_bytes}
use Rattle.std.specs.declared.rc.RcStr.{RcStr}
use Rattle.std.specs.declared.cmp.Ordering.{Ordering}
use Rattle.std.specs.declared.cmp.Ordering.TheVariants.{Less}

-- each text is below all after it, by its bytes
abbrev pub IsInOrder : List (List ℕ) → Type 0
IsInOrder names = (i j : ℕ) (x y : List ℕ) → i < j → slice_get names i ≡ Some x → slice_get names j ≡ Some y → slice_cmp nat_cmp x y ≡ Less

-- each old text stands among the new ones at the number that the list gives for its old number
abbrev pub Renumbers : List ℕ → List (List ℕ) → List (List ℕ) → Type 0
Renumbers numbers old new = (i : ℕ) (text : List ℕ) → slice_get old i ≡ Some text → (n : ℕ) × (slice_get numbers i ≡ Some n) ×
    (slice_get new n ≡ Some text)

-- no item stands at two places
abbrev pub Differ : {A : Type 0} → List A → Type 0
Differ {A} xs = (i j : ℕ) (x : A) → slice_get xs i ≡ Some x → slice_get xs j ≡ Some x → i ≡ j

-- each number is its own place
abbrev pub AreTheirPlaces : List ℕ → Type 0
AreTheirPlaces numbers = (k n : ℕ) → slice_get numbers k ≡ Some n → n ≡ k

-- each number is a place of a list of this length
abbrev pub AreBelow : ℕ → List ℕ → Type 0
AreBelow limit numbers = (k n : ℕ) → slice_get numbers k ≡ Some n → n < limit

-- the list gives each of the first `upto` numbers its place
abbrev pub GivesPlaces : List ℕ → List ℕ → ℕ → Type 0
GivesPlaces places numbers upto = (k n : ℕ) → k < upto → slice_get numbers k ≡ Some n → slice_get places n ≡ Some k

-- the texts of a list of texts with numbers
abbrev pub texts_in : {Z : Type 0} → List (RcStr Z × ℕ) → List (List ℕ)
texts_in entries = map (λ e. rc_str_bytes e.0) entries

-- the numbers of a list of texts with numbers
abbrev pub numbers_in : {Z : Type 0} → List (RcStr Z × ℕ) → List ℕ
numbers_in entries = map (λ e. e.1) entries

-- the order of texts with numbers: by the bytes of the texts, and then by the numbers
abbrev pub numbered_text_cmp : {Z : Type 0} → RcStr Z × ℕ → RcStr Z × ℕ → Ordering
numbered_text_cmp x y = ordering_then (slice_cmp nat_cmp (rc_str_bytes x.0) (rc_str_bytes y.0)) (nat_cmp x.1 y.1)
