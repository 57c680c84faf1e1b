-- The bytes are put at the front.
use mathlib.Core.Path.{◌∙◌}
use Rattle.result.specs.Result.{bytes_of}
use Rattle.result.proofs.ResultLaws.{sets_front}
use Rattle.result.proofs.write.Goals as goal

pub returns : goal.returns
returns c =
    let x = c.args in
    c.write_value.ensures.1
    ∙ sets_front (bytes_of x.file.now x.cells.now x.k) x.out.now c.requires.k_in_bounds
