-- The argument check: the types still to be read stand in an array of 256, from a place on, the next one first.
use Rattle.std.specs.Prelude.{◌≡◌, List, ℕ, ◌+◌, ◌≤◌, length, drop}
use Rattle.std.specs.Prelude.{Option, None, Some, IfSome}
use Rattle.rules.specs.Base.{refusal, Tried, found, refused, byte_at}
use Rattle.rules.specs.Program.{Program}
use Rattle.rules.specs.Prefix.{read_byte}

-- a function head at an offset of a payload
pub record HeadThere (bytes : List ℕ) (at : ℕ) : Type 0 where
  pub whole : at + 10 ≤ length bytes
  pub few : byte_at bytes (at + 1) ≤ 4

-- what a byte at an offset leaves to be read: the types from a place on, or none where the byte is wrong
abbrev pub told_read : ℕ → List ℕ → Option ℕ → Tried (List ℕ)
told_read offset types None = refused (refusal 12 offset 0)
told_read offset types (Some next) = found (drop next types)

pub record ReadsByte (s : Program) (c at : ℕ) (types types' : List ℕ) (r : Option ℕ) : Type 0 where
  pub says : (offset : ℕ) → told_read offset types' r ≡ read_byte s offset c (drop at types)
  pub inside : IfSome r (λ next. next ≤ 256)
