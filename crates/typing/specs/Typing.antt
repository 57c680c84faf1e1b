-- The signatures that instructions name.
use Rattle.std.specs.Prelude.{Option, None, Some}
use Rattle.rules.specs.Program.{Constructor, Function}
use Rattle.operands.specs.Operands.{Signature}

abbrev pub constructor_signature : Option Constructor → Option Signature
constructor_signature None = None
constructor_signature (Some k) = Some (k.arguments, k.result)

abbrev pub function_signature : Option Function → Option Signature
function_signature None = None
function_signature (Some k) = Some (k.parameters, k.result)
