-- Of right blocks a record is found in the payload, and is there the record of what unpack leaves.
use Rattle.std.proofs.Common.{refl, ap, ◌∙◌, Some}
use Rattle.rules.specs.Records.{header_at, constructor_at, head_at, alternative_at, instruction_at}
use Rattle.rules.proofs.Unpacked.{reads_unpacked}
use Rattle.standing.specs.Unpacked.{FoundUnpacked}
use Rattle.standing.proofs.StandingLaws.{found_payload}

pub found_unpacked : FoundUnpacked
found_unpacked file out v room =
    let same = reads_unpacked file out v room in
    record {
      header = λ h. found_payload v 4 header_at 0 h ∙ ap Some (same.header _ h refl);
      constructor = λ at h. found_payload v 8 constructor_at at h ∙ ap Some (same.constructor at _ h refl);
      head = λ at h. found_payload v 10 head_at at h ∙ ap Some (same.head at _ h refl);
      alternative = λ at h. found_payload v 6 alternative_at at h ∙ ap Some (same.alternative at _ h refl);
      instruction = λ at h. found_payload v 4 instruction_at at h ∙ ap Some (same.instruction at _ h refl);
    }
