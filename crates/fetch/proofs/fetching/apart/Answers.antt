-- The four bytes are the record's.
use native.Mathlib.Omega.{arith}
use Rattle.fetch.proofs.WordLaws.{word_there}
use Rattle.fetch.proofs.fetching.apart.Goals as goal

pub returns : goal.returns
returns c =
    word_there _ _ _ _ _ _ _ c.payload_byte.ensures c.payload_byte-2.ensures c.payload_byte-3.ensures
    c.payload_byte-4.ensures (omega arith) (omega arith) c.from_le_bytes.ensures
