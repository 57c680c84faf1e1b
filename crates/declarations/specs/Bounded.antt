-- What 6 finds in the alternatives of a function.
use Rattle.std.specs.Prelude.{Bool, List, ℕ, get_or, ltb}
use Rattle.rules.specs.Base.{numbered, any}
use Rattle.rules.specs.Records.{alternative_at, alternative_offset}

-- whether argument j, from 0, has a coefficient of 1 or more in one of n alternatives, from k on, of the function at an offset
unfoldable pub positive_in : List ℕ → ℕ → ℕ → ℕ → ℕ → Bool
positive_in bytes at k n j = any (λ a. ltb 0 (get_or a.coefficients j 0))
    (numbered (λ i. alternative_at bytes (alternative_offset at i)) k n)
