-- The front is filled with zeros, and the rest stays.
use Rattle.store.proofs.FrameLaws.{of_zeros}
use Rattle.store.proofs.LimitLaws.{filled}
use Rattle.store.proofs.frames.clear_frames.Goals as goal

pub returns : goal.returns
returns c =
    let e = c.default.ensures in
    filled _ _ _ _ c.requires (rw (of_zeros e.0 e.1.0 e.1.1) at c.fill.ensures.after (λ y e. e))
