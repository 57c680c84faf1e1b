-- One type after the other, as many as there are.
use native.Mathlib.Omega.{arith}
use Rattle.arguments.proofs.ReadingLaws.{put_none, put_one, put_two, put_three, put_four}
use Rattle.arguments.proofs.checking.put_few.Goals as goal

pub returns-then-n-eq0 : goal.returns-then-n-eq0
returns-then-n-eq0 c = let a = c.args in put_none a.types.now a.to a.few.now (omega arith) (omega arith)

pub returns-then-n-eq1 : goal.returns-then-n-eq1
returns-then-n-eq1 c = let a = c.args in put_one a.types.now a.to a.few.now (omega arith) (omega arith)

pub returns-then-n-eq2 : goal.returns-then-n-eq2
returns-then-n-eq2 c = let a = c.args in put_two a.types.now a.to a.few.now (omega arith) (omega arith)

pub returns-then-n-eq3 : goal.returns-then-n-eq3
returns-then-n-eq3 c = let a = c.args in put_three a.types.now a.to a.few.now (omega arith) (omega arith)

pub returns : goal.returns
returns c = let a = c.args in put_four a.types.now a.to a.few.now (omega arith) (omega arith)
