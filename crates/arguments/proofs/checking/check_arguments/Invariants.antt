-- What is left of the check reads the bytes that follow, for the types still to be read.
use Rattle.rules.specs.Container.{payload}
use Rattle.rules.specs.Records.{arguments_of, declaration_at, program_in}
use Rattle.arguments.proofs.ReadingLaws.{Reading}
use Rattle.arguments.proofs.checking.check_arguments.Given as goal

abbrev pub invariant-loop-i : goal.invariant-loop-i
invariant-loop-i l = Reading (program_in l.file) l.bytes (arguments_of (declaration_at (payload l.file) l.head)) l.i l.types l.at
