-- Records that follow each other.
use Rattle.std.specs.Prelude.{List, Bool, ℕ, ◌+◌, ◌*◌}
use Rattle.rules.specs.Base.{Check}
use Rattle.rules.specs.Records.{record_right}

-- whether the k-th of the records from an offset on, each of so many bytes, is all there, and right
abbrev pub nth_right : {R : Type 0} → ℕ → (List ℕ → ℕ → R) → (R → Bool) → List ℕ → ℕ → ℕ → Check
nth_right size record_at right bytes first k =
    record_right size bytes (first + size * k) (right (record_at bytes (first + size * k)))
