-- Demand 3 for the code, from run's contract and the tally promise over the machine.
use Rattle.rules.specs.Run.{run}
use Rattle.rules.proofs.Promise.{tally_promise}
use Rattle.start.specs.Runs.{lent_of}
use Rattle.interpreter.specs.Promise.{RunPromise}

pub run_promise : RunPromise
run_promise file entry arguments budget cells stack frames out cells' stack' frames' out' r runs s e =
    let p = tally_promise file s e in
    record {
      outcome = run file entry arguments budget (lent_of cells stack frames out);
      promised = p;
      answers = p.runs entry arguments budget (lent_of cells stack frames out);
      says = runs.says;
      left = runs.of_output;
    }
