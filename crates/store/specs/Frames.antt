-- How waiting frames stand in the lent table, one record to a frame.
use Rattle.std.specs.Prelude.{◌≡◌, List, [], ◌∷◌, ℕ, zero, suc, ◌≤◌, length, get_or, set}
use Rattle.store.specs.declared.frames.Frame.{Frame}

-- the record of a cleared place
abbrev pub no_frame : Frame
no_frame = record { function = 0; instruction = 0; height = 0 }

-- frame k of the table
unfoldable pub frame_in : List Frame → ℕ → Frame
frame_in frames k = get_or frames k no_frame

-- there are n frames
unfoldable pub FrameRoom : List Frame → ℕ → Type 0
FrameRoom frames n = n ≤ length frames

-- the first frames of the table, the last of them first
unfoldable pub frames_in : List Frame → ℕ → List Frame
frames_in frames zero = []
frames_in frames (suc k) = frame_in frames k ∷ frames_in frames k

-- a frame stored
unfoldable pub FramePut : ℕ → Frame → List Frame → List Frame → Type 0
FramePut k w frames frames' = frames' ≡ set frames k w

-- frames that are not usable are kept
pub record FramesKept (n : ℕ) (frames frames' : List Frame) : Type 0 where
  pub len : length frames' ≡ length frames
  pub high : (i : ℕ) → n ≤ i → frame_in frames' i ≡ frame_in frames i
