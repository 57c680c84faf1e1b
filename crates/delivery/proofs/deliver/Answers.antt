-- `deliver` meets its contract: the result, a stop, or what was spent at an instruction.
use Rattle.delivery.proofs.FinishLaws.{result_readable, result_short, says_result, delivers_stop}
use Rattle.delivery.proofs.FinishLaws.{delivers_spent, delivers_full}
use Rattle.delivery.proofs.deliver.Goals as goal

pub deliver_result-requires : goal.deliver_result-requires
deliver_result-requires c =
    let (_, _, _, _, e) = rw c.in-Result.is at c.requires in
    rw c.from-last.ensures (record { readable = result_readable e; k_len_bound = result_short e })

pub returns-in-Result : goal.returns-in-Result
returns-in-Result c m says i ws e =
    let ended = rw c.in-Result.is at e in
    rw (c.from-last.ensures, says_result ended) at c.deliver_result.ensures

pub returns-in-Stops : goal.returns-in-Stops
returns-in-Stops c m says i ws e = delivers_stop (rw c.in-Stops.is at e) _

pub returns-in-Spent : goal.returns-in-Spent
returns-in-Spent c m says i ws e = delivers_spent (rw c.in-Spent.is at e) _ c.place_of.ensures

pub returns-in-OutOf : goal.returns-in-OutOf
returns-in-OutOf c m says i ws e = delivers_full (rw c.in-OutOf.is at e) _ c.place_of-in-OutOf.ensures c.out_of.ensures
