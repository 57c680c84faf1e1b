-- What every rule uses: a refusal, an answer or a refusal, tests on lists, numbers in bytes.
use Rattle.std.specs.Prelude.{◌≡◌, List, [], ◌∷◌, Bool, true, false, ◌&&◌, ◌↔◌, ℕ, zero, suc, ◌+◌, ◌*◌, get_or, leb, eqb}
use Rattle.std.specs.Prelude.{Option, None, Some}
use Rattle.std.specs.List.{list_all, list_any}

-- "Each carries two place numbers": a number of document 01's list with its two places
pub record Refusal : Type 0 where
  pub number : ℕ
  pub first : ℕ
  pub second : ℕ

abbrev pub refusal : ℕ → ℕ → ℕ → Refusal
refusal n p q = record { number = n; first = p; second = q }

-- something found, or a refusal
pub data Tried (A : Type 0) : Type 0 where
  found : A → Tried A
  refused : Refusal → Tried A

-- one after the other: the first refusal counts
infixl 20 ◌>>=◌
abbrev pub ◌>>=◌ : {A B : Type 0} → Tried A → (A → Tried B) → Tried B
found a >>= f = f a
refused r >>= f = refused r

-- a rule that holds, or its refusal
abbrev pub Check : Type 0
Check = Tried (Unit {0})

abbrev pub passed : Check
passed = found tt

-- a check passes just where the one holds, and refuses with r just where the other holds of r
abbrev pub Decides : Check → Type 0 → (Refusal → Type 0) → Type 0
Decides t R F = (t ≡ passed ↔ R) × ((r : Refusal) → t ≡ refused r ↔ F r)

abbrev pub require : Bool → Refusal → Check
require true r = passed
require false r = refused r

abbrev pub or_refuse : {A : Type 0} → Option A → Refusal → Tried A
or_refuse None r = refused r
or_refuse (Some a) r = found a

-- what was found is forgotten
abbrev pub only : {A : Type 0} → Tried A → Check
only (found a) = passed
only (refused r) = refused r

---- Numbered things

-- f k, f (k + 1), .., n of them
unfoldable pub numbered : {A : Type 0} → (ℕ → A) → ℕ → ℕ → List A
numbered f k zero = []
numbered f k (suc n) = f k ∷ numbered f (suc k) n

-- a rule for each of n numbers from k on: the first refusal
unfoldable pub for_each : (ℕ → Check) → ℕ → ℕ → Check
for_each rule k zero = passed
for_each rule k (suc n) = do
  _ ← rule k
  for_each rule (suc k) n

-- a rule for each element of a list, numbered from k on: the first refusal
unfoldable pub each : {A : Type 0} → (ℕ → A → Check) → ℕ → List A → Check
each rule k [] = passed
each rule k (x ∷ xs) = do
  _ ← rule k x
  each rule (suc k) xs

---- Tests

-- lo ≤ n ≤ hi
abbrev pub within : ℕ → ℕ → ℕ → Bool
within lo hi n = leb lo n && leb n hi

abbrev pub is_zero : ℕ → Bool
is_zero n = eqb n 0

abbrev pub all : {A : Type 0} → (A → Bool) → List A → Bool
all p xs = list_all p xs

abbrev pub any : {A : Type 0} → (A → Bool) → List A → Bool
any p xs = list_any p xs

---- "numbers are little-endian"

-- the byte at a place, and the numbers of two and four bytes there
abbrev pub byte_at : List ℕ → ℕ → ℕ
byte_at bytes i = get_or bytes i 0

abbrev pub word_at : List ℕ → ℕ → ℕ
word_at bytes i = byte_at bytes i + 256 * byte_at bytes (i + 1)

abbrev pub long_at : List ℕ → ℕ → ℕ
long_at bytes i = word_at bytes i + 65536 * word_at bytes (i + 2)
