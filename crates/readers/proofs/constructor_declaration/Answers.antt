-- In the first block the place follows from the number.
use Rattle.std.proofs.Common.{refl, ap, ◌∙◌, List, ℕ, ◌+◌, ◌*◌, ◌-◌, ◌%◌, ◌≤◌, ◌<◌, length, arith}
use Rattle.rules.specs.Container.{payload}
use Rattle.rules.specs.Established.{Verified}
use Rattle.rules.specs.Records.{constructor_offset, declaration_at}
use Rattle.rules.proofs.SameLaws.{declaration_same}
use Rattle.fields.proofs.SpotLaws.{Spot, near_reaches, near_same, payload_spot}
use Rattle.readers.proofs.constructor_declaration.Goals as goal

-- constructor c of the first 62
first : {file : List ℕ} {c : ℕ} → Verified file × (constructor_offset c + 6 ≤ length (payload file)) → c < 62
    → Spot file (payload file) (constructor_offset c) 6 (8 + 8 * c) (504 - constructor_offset c % 504)
first p l = payload_spot p (omega arith) (omega arith) (omega arith) refl

pub read-requires : goal.read-requires
read-requires c = near_reaches (first c.requires c.if-c-lt62.true) (omega arith) refl

pub returns-then-c-lt62 : goal.returns-then-c-lt62
returns-then-c-lt62 c = c.read.ensures ∙ declaration_same (near_same (first c.requires c.if-c-lt62.true) (omega arith) refl)

pub returns : goal.returns
returns c = c.declaration.ensures ∙ ap (declaration_at (payload c.args.file.now)) c.constructor_offset.ensures
