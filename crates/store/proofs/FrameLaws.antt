-- Laws of the frames that wait in the lent table, and of a frame stored.
use Prim.Native.Nat.{ℕ, zero, suc, ◌≤◌, ◌<◌}
use mathlib.Core.Path.{◌≡◌, refl, ap, ap₂, ◌∙◌}
use mathlib.Core.List.{List, ◌∷◌}
use native.Mathlib.Omega.{arith}
use lib.ListN.{length, length-set}
use lib.Seq.{get_or-set_same, get_or-set_other}
use Rattle.store.specs.Frames.{no_frame, frame_in, frames_in, FrameRoom, FramePut, FramesKept}
use Rattle.store.specs.declared.frames.Frame.{Frame}

pub frames_length : (frames : List Frame) (k : ℕ) → length (frames_in frames k) ≡ k
unfolding frames_in
frames_length frames zero = refl
frames_length frames (suc k) = ap suc (frames_length frames k)

-- a frame of zeros is that of a cleared place
pub of_zeros : {w : Frame} → w.function ≡ 0 → w.instruction ≡ 0 → w.height ≡ 0 → w ≡ no_frame
of_zeros {w} a b c =
    ap₂ (λ (x y : ℕ). record w { function = x; instruction = y }) a b ∙ ap (λ (z : ℕ). record no_frame { height = z }) c

---- What a frame stored leaves

put_length : (k : ℕ) (w : Frame) (frames frames' : List Frame) → FramePut k w frames frames' → length frames' ≡ length frames
unfolding FramePut
put_length k w frames frames' p = ap length p ∙ length-set frames k w

put_same : (k : ℕ) (w : Frame) (frames frames' : List Frame) → k < length frames → FramePut k w frames frames' → frame_in frames' k ≡ w
unfolding FramePut frame_in
put_same k w frames frames' room p = ap (λ (l : List Frame). frame_in l k) p ∙ get_or-set_same frames k w no_frame room

put_other : (k : ℕ) (w : Frame) (frames frames' : List Frame) → FramePut k w frames frames' → (i : ℕ) → (i ≡ k → ⊥)
    → frame_in frames' i ≡ frame_in frames i
unfolding FramePut frame_in
put_other k w frames frames' p i other = ap (λ (l : List Frame). frame_in l i) p ∙ get_or-set_other frames k i w no_frame other

-- the frames before a place are those of another table that agrees before it
frames_low : (frames frames' : List Frame) (k : ℕ) → ((i : ℕ) → i < k → frame_in frames' i ≡ frame_in frames i)
    → frames_in frames' k ≡ frames_in frames k
unfolding frames_in
frames_low frames frames' zero same = refl
frames_low frames frames' (suc k) same =
    ap₂ ◌∷◌ (same k (omega arith)) (frames_low frames frames' k (λ i h. same i (omega arith)))

-- the frames below it are as they were
pub frames_below : (k : ℕ) (w : Frame) (frames frames' : List Frame) → FramePut k w frames frames'
    → frames_in frames' k ≡ frames_in frames k
frames_below k w frames frames' p = frames_low frames frames' k (λ i h. put_other k w frames frames' p i (λ e. omega arith))

pub frames_put : (k : ℕ) (w : Frame) (frames frames' : List Frame) → FrameRoom frames (suc k) → FramePut k w frames frames'
    → frames_in frames' (suc k) ≡ w ∷ frames_in frames k
unfolding frames_in FrameRoom
frames_put k w frames frames' room p = ap₂ ◌∷◌ (put_same k w frames frames' room p) (frames_below k w frames frames' p)

pub frames_top : (frames : List Frame) (k : ℕ) → frames_in frames (suc k) ≡ frame_in frames k ∷ frames_in frames k
unfolding frames_in
frames_top frames k = refl

---- Frames that are kept

pub frame_put_kept : (k : ℕ) (w : Frame) (frames frames' : List Frame) → FramePut k w frames frames' → (n : ℕ) → k < n
    → FramesKept n frames frames'
frame_put_kept k w frames frames' p n h = record {
  len = put_length k w frames frames' p;
  high = λ i m. put_other k w frames frames' p i (λ e. omega arith);
}

pub frames_kept_refl : (n : ℕ) (l : List Frame) → FramesKept n l l
frames_kept_refl n l = record { len = refl; high = λ i h. refl }

pub frames_kept_trans : (n : ℕ) (a b c : List Frame) → FramesKept n a b → FramesKept n b c → FramesKept n a c
frames_kept_trans n a b c p q = record { len = q.len ∙ p.len; high = λ i h. q.high i h ∙ p.high i h }

pub frames_kept_length : (n : ℕ) (a b : List Frame) → FramesKept n a b → length b ≡ length a
frames_kept_length n a b p = p.len

---- Room for frames

pub frame_room_less : (frames : List Frame) (n k : ℕ) → FrameRoom frames n → k ≤ n → FrameRoom frames k
unfolding FrameRoom
frame_room_less frames n k r h = omega arith

pub frame_room_kept : (frames frames' : List Frame) (n : ℕ) → length frames' ≡ length frames → FrameRoom frames n → FrameRoom frames' n
unfolding FrameRoom
frame_room_kept frames frames' n e r = omega arith

-- as clear_frames asks for it
pub frame_room_length : (frames : List Frame) (n : ℕ) → FrameRoom frames n → n ≤ length frames
unfolding FrameRoom
frame_room_length frames n r = r
