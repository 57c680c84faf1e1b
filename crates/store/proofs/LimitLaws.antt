-- Laws of what is usable of the lent tables, and of tables whose usable entries are made zero.
use Prim.Native.Nat.{ℕ, ◌+◌, ◌-◌, ◌*◌, ◌/◌, ◌≤◌, min}
use mathlib.Core.Path.{◌≡◌, sym, ap, ◌∙◌}
use mathlib.Core.List.{List, ◌++◌}
use mathlib.Core.Bool.{true}
use native.Mathlib.Omega.{arith}
use lib.ListN.{length, get_or, take, drop, replicate}
use lib.ListN.{length-take, length-drop}
use lib.Seq.{ext_get_or, get_or-drop}
use Rattle.rules.specs.Memory.{table_after}
use Rattle.store.specs.Cells.{CellRoom, KeptFrom, CellsKept}
use Rattle.store.specs.Frames.{no_frame, frame_in, FrameRoom, FramesKept}
use Rattle.store.specs.Limits.{LimitsOf, Wiped}
use Rattle.store.specs.declared.frames.Frame.{Frame}
use Rattle.store.specs.declared.limits.Limits.{Limits}
use Rattle.store.proofs.CellLaws.{room_kept}
use Rattle.store.proofs.FrameLaws.{frame_room_kept}

pub limits_of : (m : Limits) (cells stack : List ℕ) (frames : List Frame) → m.cells ≡ min 65471 (length cells / 5)
    → m.stack ≡ min 65535 (length stack) → m.frames ≡ min 65535 (length frames) → LimitsOf m cells stack frames
unfolding CellRoom FrameRoom
limits_of m cells stack frames a b c = record {
  cell_room = omega arith;
  few_cells = omega arith;
  stack_room = omega arith;
  few_places = omega arith;
  frame_room = omega arith;
  few_frames = omega arith;
}

pub limits_kept : (m : Limits) (cells stack : List ℕ) (frames : List Frame) (cells' stack' : List ℕ) (frames' : List Frame)
    → LimitsOf m cells stack frames → length cells' ≡ length cells → length stack' ≡ length stack → length frames' ≡ length frames
    → LimitsOf m cells' stack' frames'
limits_kept m cells stack frames cells' stack' frames' l a b c = record {
  cell_room = room_kept cells cells' m.cells a l.cell_room;
  few_cells = l.few_cells;
  stack_room = omega (arith, l.stack_room);
  few_places = l.few_places;
  frame_room = frame_room_kept frames frames' m.frames c l.frame_room;
  few_frames = l.few_frames;
}

---- The usable entries made zero

-- a front filled with one value before the rest
pub filled : {A : Type 0} (blank : A) (n : ℕ) (l l' : List A) → n ≤ length l → l' ≡ replicate (length (take n l)) blank
    → l' ++ drop n l ≡ table_after true blank n l
unfolding table_after
filled blank n l l' h e = let len : length (take n l) ≡ n = omega (arith, length-take n l) in rw (e, len)

-- entries that are not usable were kept before: the same as if the table had been wiped at once
wiped_kept : {A : Type 0} (d : A) (n : ℕ) (l l₁ : List A) → length l₁ ≡ length l → ((i : ℕ) → n ≤ i → get_or l₁ i d ≡ get_or l i d)
    → table_after true d n l₁ ≡ table_after true d n l
unfolding table_after
wiped_kept {A} d n l l₁ len high =
    ap (λ (r : List A). replicate n d ++ r) (ext_get_or d (drop n l₁) (drop n l)
    (length-drop n l₁ ∙ ap (λ (x : ℕ). x - n) len ∙ sym (length-drop n l)) (λ i m.
    get_or-drop n l₁ i d ∙ high (n + i) (omega arith) ∙ sym (get_or-drop n l i d)))

pub wiped_since : (m : Limits) (a b a' b' a'' b'' : List ℕ) → CellsKept m.cells a a' → KeptFrom m.stack b b'
    → Wiped m a' b' a'' b'' → Wiped m a b a'' b''
unfolding CellsKept
wiped_since m a b a' b' a'' b'' p q w = record {
  of_cells = w.of_cells ∙ wiped_kept 0 (5 * m.cells) a a' p.len p.high;
  of_stack = w.of_stack ∙ wiped_kept 0 m.stack b b' q.len q.high;
}

pub frames_since : (n : ℕ) (a b : List Frame) → FramesKept n a b → table_after true no_frame n b ≡ table_after true no_frame n a
unfolding frame_in
frames_since n a b k = wiped_kept no_frame n a b k.len k.high
