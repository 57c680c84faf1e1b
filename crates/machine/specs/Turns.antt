-- Call and return, and the last look at an instruction.
use Rattle.std.specs.Prelude.{◌≡◌, List, ℕ, ◌+◌, ◌-◌, ◌%◌, ◌≤◌, ◌<◌, get_or, set, length}
use Rattle.std.specs.Prelude.{Some, Result, Ok, Err, IfOk}
use Rattle.rules.specs.Machine.{current}
use Rattle.rules.specs.Records.{program_in}
use Rattle.rules.specs.declared.records.Instruction.TheVariants.{Return, Stop}
use Rattle.store.specs.Cells.{refs, RefsPut, KeptFrom}
use Rattle.store.specs.Frames.{frames_in, FramesKept}
use Rattle.store.specs.Limits.{LimitsOf}
use Rattle.store.specs.declared.frames.Frame.{Frame}
use Rattle.store.specs.declared.limits.Limits.{Limits}
use Rattle.fetch.specs.Arities.{place}
use Rattle.fetch.specs.Indexed.{Indexed}
use Rattle.fetch.specs.Places.{offset_at, Behind}
use Rattle.fetch.specs.Words.{WordThere}
use Rattle.fetch.specs.declared.index.Index.{Index}
use Rattle.steps.specs.Stands.{Standing, LeadsTo}
use Rattle.steps.specs.Steps.{number_for, Refuses, Rests}
use Rattle.steps.specs.declared.state.Registers.{Registers}
use Rattle.steps.specs.declared.state.Rest.{Rest}
use Rattle.steps.specs.declared.state.Rest.TheVariants.{Returns, Stops, Spent, OutOf}
use Rattle.steps.specs.declared.state.Table.{Table}
use Rattle.steps.specs.declared.state.Table.TheVariants.{Stack, Frames}
use Rattle.machine.specs.declared.run.End.{End}
use Rattle.machine.specs.declared.run.End.TheVariants as ends

---- Call and return

-- the frame that waits while another is above it, at instruction i
abbrev pub waiting_for : Registers → ℕ → Frame
waiting_for r i = record { function = r.function; instruction = i; height = r.top - r.base }

-- the top frame is function g's, with n arguments and its code at a place
abbrev pub entered : Registers → ℕ → ℕ → ℕ → Registers
entered r g n code = record {
  function = g;
  code = code;
  at = code;
  base = r.top;
  top = r.top + n;
  used = r.used;
  depth = r.depth + 1;
  left = r.left - 1;
}

pub data Enters (m : Limits) (stack : List ℕ) (r : Registers) (g n code : ℕ) : List ℕ → Result Registers Table → Type 0 where
  enter_deep : m.frames ≤ r.depth + 1 → Enters m stack r g n code stack (Err Frames)
  enter_full : r.depth + 1 < m.frames → m.stack < r.top + n → Enters m stack r g n code stack (Err Stack)
  enter_goes : {stack' : List ℕ} → r.depth + 1 < m.frames → r.top + n ≤ m.stack
      → RefsPut r.top (refs stack (r.top - n) n) stack stack' → Enters m stack r g n code stack' (Ok (entered r g n code))

-- the top frame is the one that waited, behind its call, with the value that n arguments give way to
abbrev pub left : Registers → Frame → ℕ → ℕ → ℕ → Registers
left r w n code at = record {
  function = w.function;
  code = code;
  at = at;
  base = r.base - w.height;
  top = r.base - n + 1;
  used = r.used;
  depth = r.depth - 1;
  left = r.left - 1;
}

pub data Leaves (stack : List ℕ) (r : Registers) (w : Frame) (n code : ℕ) : List ℕ → Registers → Type 0 where
  leave_goes : {at : ℕ} → Behind code w.instruction at → at ≤ 40000
      → Leaves stack r w n code (set stack (r.base - n) (get_or stack (r.top - 1) 0)) (left r w n code at)

---- What a frame that rests gives way to

-- a frame that rests, above the frames of the table
pub record Rested (file : List ℕ) (index : Index) (m : Limits) (cells stack : List ℕ) (frames : List Frame) (r : Registers)
    (why : Rest) : Type 0
  where
    pub indexed : Indexed file index
    pub limits : LimitsOf m cells stack frames
    pub budget : ℕ
    pub instruction : ℕ
    pub standing : Standing file m cells stack r instruction (frames_in frames r.depth)
    pub rests : Rests file m budget cells stack r instruction (frames_in frames r.depth) why

-- how the run ends at a frame: a return that no frame waits for is the result
abbrev pub Over : List ℕ → Limits → ℕ → List ℕ → List ℕ → Registers → ℕ → List Frame → End → Type 0
Over file m budget cells stack r i ws ends.Result =
    (length ws ≡ 0) × (current (program_in file) (place r.function i) ≡ Some Return)
Over file m budget cells stack r i ws ends.Stops =
    (0 < r.left) × (current (program_in file) (place r.function i) ≡ Some Stop)
Over file m budget cells stack r i ws ends.Spent = Refuses file m budget cells stack r i ws 14
Over file m budget cells stack r i ws (ends.OutOf table) = Refuses file m budget cells stack r i ws (number_for table)

-- it gives way to another frame, or the run ends at it
abbrev pub Gives : List ℕ → Limits → ℕ → List ℕ → List ℕ → Registers → ℕ → List Frame → List ℕ → List Frame → Result Registers End
    → Type 0
Gives file m budget cells stack r i ws stack' frames' (Ok t) =
    (i' : ℕ) × LeadsTo file m budget cells stack r i ws cells stack' t i' (frames_in frames' t.depth)
Gives file m budget cells stack r i ws stack' frames' (Err end) =
    LeadsTo file m budget cells stack r i ws cells stack' r i (frames_in frames' r.depth)
    × Over file m budget cells stack' r i (frames_in frames' r.depth) end

pub record Turned (file : List ℕ) (m : Limits) (cells stack : List ℕ) (frames : List Frame) (r : Registers) (why : Rest)
    (stack' : List ℕ) (frames' : List Frame) (t : Result Registers End) : Type 0 where
  pub spared_stack : KeptFrom m.stack stack stack'
  pub spared_frames : FramesKept m.frames frames frames'
  pub less : IfOk t (λ next. next.left < r.left)
  pub gives : (budget i : ℕ) → r.left ≤ budget → Standing file m cells stack r i (frames_in frames r.depth)
      → Rests file m budget cells stack r i (frames_in frames r.depth) why
      → Gives file m budget cells stack r i (frames_in frames r.depth) stack' frames' t

-- a return in the only frame is still the result where no step is left
pub data Settles (bytes : List ℕ) (r : Registers) : End → Type 0 where
  settles_above : (r.depth ≡ 0 → ⊥) → Settles bytes r ends.Spent
  settles_spent : {w : ℕ} → WordThere bytes (offset_at r.at) w → (w % 256 ≡ 5 → ⊥) → Settles bytes r ends.Spent
  settles_result : {w : ℕ} → r.depth ≡ 0 → WordThere bytes (offset_at r.at) w → w % 256 ≡ 5 → Settles bytes r ends.Result

-- how the run ends at a frame that rests and gives way to no other
pub data Closes (bytes : List ℕ) (r : Registers) : Rest → End → Type 0 where
  closes_result : Closes bytes r Returns ends.Result
  closes_stops : Closes bytes r Stops ends.Stops
  closes_spent : {end : End} → Settles bytes r end → Closes bytes r Spent end
  closes_full : {table : Table} → Closes bytes r (OutOf table) (ends.OutOf table)
