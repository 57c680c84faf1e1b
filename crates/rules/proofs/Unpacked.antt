-- What unpack leaves begins with the payload, so a record of the payload is the record there.
use mathlib.Core.Path.{◌≡◌, sym, ap, ◌∙◌}
use mathlib.Core.List.{List}
use Prim.Native.Nat.{ℕ, ◌+◌, ◌≤◌}
use native.Mathlib.Omega.{arith}
use lib.ListN.{length, drop, get_or-append}
use borrow.Author.Tests.{le-leb}
use Rattle.rules.specs.Base.{byte_at}
use Rattle.rules.specs.Container.{payload, verified, unpack}
use Rattle.rules.specs.Established.{Verified}
use Rattle.rules.specs.Memory.{front_written, copied_into, unpack_leaves}
use Rattle.rules.specs.Unpacked.{ReadsUnpacked}
use Rattle.rules.proofs.SameLaws.{Same, long_same, header_same, declaration_same, alternative_same, instruction_same}
use Rattle.rules.proofs.SameLaws.{constructor_same, head_same}

module _ (file out : List ℕ) (v : Verified file) (room : length (payload file) ≤ length out) where
  unpacked : unpack_leaves file out ≡ front_written (payload file) out
  unfolding copied_into unpack verified
  unpacked = rw (v.blocks, le-leb (length (payload file)) (length out) room)

  -- the bytes of a record of the payload
  left_same : (at n : ℕ) → at + n ≤ length (payload file) → Same (payload file) at (unpack_leaves file out) at n
  left_same at n h = record {
    at = λ j l.
        let k : ℕ = at + j in
        let rest = drop (length (payload file)) out in
        sym (ap (λ (b : List ℕ). byte_at b k) unpacked ∙ get_or-append (payload file) rest 0 k (omega arith));
  }

pub reads_unpacked : ReadsUnpacked
reads_unpacked file out v room = record {
  header = λ r h e. e ∙ header_same (same 0 4 h);
  declaration = λ at r h e. e ∙ declaration_same (same at 6 h);
  constructor = λ at r h e. e ∙ constructor_same (same at 8 h);
  head = λ at r h e. e ∙ head_same (same at 10 h);
  alternative = λ at r h e. e ∙ alternative_same (same at 6 h);
  instruction = λ at r h e. e ∙ instruction_same (same at 4 h);
  number = λ at r h e. e ∙ long_same (same at 4 h);
  arity = λ at r h e. e ∙ (same at 2 h).at 1 (omega arith);
}
  where
    same : (at n : ℕ) → at + n ≤ length (payload file) → Same (payload file) at (unpack_leaves file out) at n
    same = left_same file out v room
