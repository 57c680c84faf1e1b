-- What the numbers of a refusal say.
use Rattle.rules.specs.Base.{Refusal, refusal}
use Rattle.report.specs.declared.Numbers.{Numbers}

abbrev pub said : Numbers → Refusal
said x = refusal x.number x.first x.second
