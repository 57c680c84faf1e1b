-- A run that has begun, whatever frames and output are lent.
use mathlib.Core.List.{List, []}
use Prim.Native.Nat.{ℕ}
use lib.ListN.{replicate, length-replicate}
use Rattle.store.specs.Frames.{no_frame}
use Rattle.store.specs.declared.limits.Limits.{Limits}
use Rattle.fetch.specs.declared.index.Index.{Index}
use Rattle.start.specs.Begins.{Beginning, Fitting}

-- the start fits the tables, with some frames and no output
pub fits_some : {file : List ℕ} {index : Index} {m : Limits} {entry n : ℕ} {arguments : List ℕ} {budget : ℕ} {cells stack : List ℕ}
    {count : ℕ}
    → Fitting file index m entry n arguments budget cells stack count
    → Beginning file index m entry n arguments budget cells stack (replicate count no_frame) []
fits_some {count = count} h = h (replicate count no_frame) [] (length-replicate count no_frame)
