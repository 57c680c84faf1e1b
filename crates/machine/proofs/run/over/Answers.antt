use Rattle.machine.specs.Turns.{closes_result, closes_stops, closes_spent, closes_full}
use Rattle.machine.proofs.run.over.Goals as goal

pub returns-in-Returns : goal.returns-in-Returns
returns-in-Returns c = rw c.in-Returns.is closes_result

pub returns-in-Stops : goal.returns-in-Stops
returns-in-Stops c = rw c.in-Stops.is closes_stops

pub returns-in-Spent : goal.returns-in-Spent
returns-in-Spent c = rw c.in-Spent.is (closes_spent c.settled.ensures)

pub returns-in-OutOf : goal.returns-in-OutOf
returns-in-OutOf c = rw c.in-OutOf.is closes_full
