use Rattle.delivery.proofs.finish.Goals as goal

pub returns : goal.returns
returns c =
    (λ says i ws e. c.deliver-answer.ensures _ says i ws e, c.wipe.ensures)
