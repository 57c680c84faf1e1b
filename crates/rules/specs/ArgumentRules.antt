-- The rule of 12 as document 01 words it: which argument bytes are right, and where wrong ones first go wrong.
-- `argument_exact` of proofs/ArgumentExact.antt shows that the argument check answers just so.
use Rattle.std.specs.Prelude.{◌≡◌, List, [], ◌∷◌, ◌++◌, ℕ, ◌≤◌, ◌<◌, length, take, None, Some, slice_get}
use Rattle.rules.specs.Base.{Refusal, refusal, Decides}
use Rattle.rules.specs.Program.{Constructor, Function, Program, constructor}
use Rattle.rules.specs.Tree.{from_list}
use Rattle.rules.specs.Machine.{Value}
use Rattle.rules.specs.Values.{Typed}
use Rattle.rules.specs.Prefix.{arguments_right, written_all}

module _ (s : Program) where
  -- "constructor numbers in prefix order, one byte each": values of the first types are to be read, these bytes come, and values of the
  -- last types are still to be read behind them. A byte is the constructor of the next value, whose arguments are then to be read first
  pub data Reads : List ℕ → List ℕ → List ℕ → Type 0 where
    no_byte : {ts : List ℕ} → Reads ts [] ts
    byte : {c : ℕ} {k : Constructor} {ts bytes left : List ℕ} → constructor s c ≡ Some k → Reads (k.arguments ++ ts) bytes left
        → Reads (k.result ∷ ts) (c ∷ bytes) left

  -- "Values still to be read, remaining arguments included, never exceed 256": after each of the first o bytes
  abbrev pub FewPending : List ℕ → List ℕ → ℕ → Type 0
  FewPending ts bytes o = (j : ℕ) (pending : List ℕ) → 1 ≤ j → j ≤ o → Reads ts (take j bytes) pending → length pending ≤ 256

  -- up to offset o all is right, and values of the pending types are still to be read there
  abbrev pub RightTo : List ℕ → List ℕ → ℕ → List ℕ → Type 0
  RightTo ts bytes o pending = Reads ts (take o bytes) pending × FewPending ts bytes o

  -- "unknown constructor, wrong type, cut short, left over, over 256 pending after that byte": what is wrong at an offset, where all is
  -- right up to it. Bytes that are cut short are wrong behind the last one
  pub data WrongAt (ts bytes : List ℕ) (o : ℕ) : Type 0 where
    unknown : {c t : ℕ} {pending : List ℕ} → RightTo ts bytes o (t ∷ pending) → slice_get bytes o ≡ Some c → constructor s c ≡ None
        → WrongAt ts bytes o
    wrong_type : {c t : ℕ} {k : Constructor} {pending : List ℕ} → RightTo ts bytes o (t ∷ pending) → slice_get bytes o ≡ Some c
        → constructor s c ≡ Some k → (k.result ≡ t → ⊥) → WrongAt ts bytes o
    cut_short : {t : ℕ} {pending : List ℕ} → RightTo ts bytes o (t ∷ pending) → o ≡ length bytes → WrongAt ts bytes o
    left_over : RightTo ts bytes o [] → o < length bytes → WrongAt ts bytes o
    too_many : {c t : ℕ} {k : Constructor} {pending : List ℕ} → RightTo ts bytes o (t ∷ pending) → slice_get bytes o ≡ Some c
        → constructor s c ≡ Some k → k.result ≡ t → 256 < length (k.arguments ++ pending) → WrongAt ts bytes o

-- "Arguments are constructor numbers in prefix order, one byte each, at most 65,535": the bytes are what is written of values of the
-- parameters' types, first parameter first
pub record ArgumentsHold (s : Program) (f : Function) (bytes : List ℕ) : Type 0 where
  pub short : length bytes ≤ 65535
  pub arguments : List Value
  pub typed : Typed s arguments f.parameters
  pub as_written : written_all (from_list arguments) ≡ bytes
  pub few_pending : FewPending s f.parameters bytes (length bytes)

-- 12: "first, arguments too long (65,535, 0); then" what is wrong "(offset, 0)"
pub data ArgumentsFail (s : Program) (f : Function) (bytes : List ℕ) : Refusal → Type 0 where
  too_long : 65535 < length bytes → ArgumentsFail s f bytes (refusal 12 65535 0)
  wrong : {o : ℕ} → length bytes ≤ 65535 → WrongAt s f.parameters bytes o → ArgumentsFail s f bytes (refusal 12 o 0)

-- the argument check passes just where the arguments are right, and its refusal is just that of what goes wrong first
abbrev pub ArgumentExact : Type 0
ArgumentExact =
    (s : Program) (f : Function) (bytes : List ℕ) → Decides (arguments_right s f bytes) (ArgumentsHold s f bytes) (ArgumentsFail s f bytes)
