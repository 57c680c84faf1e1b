-- Slot a is copied on top, or the stack is full.
use native.Mathlib.Omega.{arith}
use Rattle.steps.specs.Steps.{load_full, load_goes}
use Rattle.steps.proofs.steps.load.Goals as goal

pub returns-then-top-m : goal.returns-then-top-m
returns-then-top-m c = load_full (omega arith)

pub returns : goal.returns
returns c = load_goes (omega arith)
