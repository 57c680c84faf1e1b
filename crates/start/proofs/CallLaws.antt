-- An accepted program called: no such entry, arguments that are not right, no room for the start, or the run begins.
use mathlib.Core.Path.{◌≡◌, sym, ap, ◌∙◌}
use mathlib.Core.List.{List}
use Rattle.std.specs.Prelude.{None, Some}
use Prim.Native.Nat.{ℕ, ◌/◌, ◌≤◌, ◌<◌, min}
use native.Mathlib.Omega.{arith}
use lib.ListN.{length, get_or}
use Rattle.rules.specs.declared.records.Header.{Header}
use Rattle.rules.specs.declared.answers.Reason.{Reason}
use Rattle.rules.specs.declared.answers.Reason.TheVariants as reason
use Rattle.rules.specs.declared.answers.Ending.TheVariants as ends
use Rattle.rules.specs.declared.answers.Place.{Place}
use Rattle.rules.specs.Base.{byte_at, refused, passed}
use Rattle.rules.specs.Container.{payload}
use Rattle.rules.specs.Program.{function}
use Rattle.rules.specs.Records.{function_of, program_of, program_in, function_in}
use Rattle.rules.specs.Established.{Accepted, LaidOut}
use Rattle.rules.specs.Prefix.{arguments_right, values}
use Rattle.rules.specs.Run.{usable, cells_loaded, with_arguments}
use Rattle.rules.specs.Answers.{refusal_of}
use Rattle.rules.proofs.NumberedLaws.{numbered_past}
use Rattle.rules.proofs.RunLaws.{load_no_entry, load_bad_arguments, load_no_room}
use Rattle.rules.proofs.ListLaws.{at_less}
use Rattle.rules.proofs.CheckLaws.{accepted_checked}
use Rattle.program.proofs.LayoutLaws.{functions_count, head_placed, function_placed}
use Rattle.store.specs.declared.frames.Frame.{Frame}
use Rattle.store.specs.declared.limits.Limits.{Limits}
use Rattle.fetch.specs.Indexed.{Indexed, function_arity}
use Rattle.fetch.proofs.ArityLaws.{inputs_is}
use Rattle.fetch.proofs.IndexLaws.{function_is, function_read}
use Rattle.fetch.specs.declared.index.Index.{Index}
use Rattle.arguments.specs.Reading.{HeadThere}
use Rattle.start.specs.Begins.{Callable, Fitting}
use Rattle.start.specs.Runs.{lent_of, Runs}
use Rattle.start.proofs.BeginLaws.{said, values_length, no_frame_lem, no_slots, no_cells, not_loaded}

-- "before the start (entry, 1)"
abbrev first : ℕ → Place
first entry = record { function = entry; instruction = 1 }

-- the run is refused before the start: no step, and every slice as found
abbrev RefusedRun : List ℕ → ℕ → List ℕ → ℕ → List ℕ → List ℕ → List Frame → List ℕ → Reason → Type 0
RefusedRun file entry arguments budget cells stack frames out r =
    Runs file entry arguments budget cells stack frames out cells stack frames out (said (ends.Refused r) 0)

module _ {file : List ℕ} {index : Index} {entry : ℕ} {arguments : List ℕ} (k : Callable file index entry arguments) where
  pub known_entry : entry < length (program_in file).functions
  known_entry = at_less (program_in file).functions entry k.known

  pub few_functions : entry < 32
  few_functions = (function_read k.indexed.parsed entry known_entry).3

  -- it is one of the file's
  pub entry_there : entry < byte_at (payload file) 3
  entry_there = (function_read k.indexed.parsed entry known_entry).0

  pub inputs_are : {n : ℕ} → n ≡ function_arity file entry → n ≡ length k.f.parameters
  inputs_are e = e ∙ (function_read k.indexed.parsed entry known_entry).1 ∙ inputs_is (program_in file) entry k.known

  -- at most four arguments
  pub few_inputs : length k.f.parameters ≤ 4
  few_inputs =
      omega (arith, inputs_is (program_in file) entry k.known, (function_read k.indexed.parsed entry known_entry).2)

  vs_length : length (values (program_in file) arguments) ≡ length k.f.parameters
  vs_length = values_length (program_in file) k.f arguments k.right

  module _ (budget : ℕ) (cells stack : List ℕ) (frames : List Frame) (out : List ℕ) where
    pub out_of_frames : min 65535 (length frames) ≡ 0
        → RefusedRun file entry arguments budget cells stack frames out (reason.OutOfFrames (first entry))
    out_of_frames h =
        not_loaded file entry arguments budget cells stack frames out (accepted_checked k.accepted) _
        (load_no_room with_arguments (program_in file) (usable (lent_of cells stack frames out)) entry arguments k.f k.known k.right
        (no_frame_lem (usable (lent_of cells stack frames out)) entry (values (program_in file) arguments)
        (cells_loaded (program_in file) arguments) h))

    module _ (frame : 0 < min 65535 (length frames)) where
      pub out_of_stack : min 65535 (length stack) < length k.f.parameters
          → RefusedRun file entry arguments budget cells stack frames out (reason.OutOfStack (first entry))
      out_of_stack h =
          not_loaded file entry arguments budget cells stack frames out (accepted_checked k.accepted) _
          (load_no_room with_arguments (program_in file) (usable (lent_of cells stack frames out)) entry arguments k.f k.known k.right
          (no_slots (usable (lent_of cells stack frames out)) entry (values (program_in file) arguments)
          (cells_loaded (program_in file) arguments) frame (omega (arith, vs_length))))

      pub out_of_cells : length k.f.parameters ≤ min 65535 (length stack)
          → min 65471 (length cells / 5) < cells_loaded (program_in file) arguments
          → RefusedRun file entry arguments budget cells stack frames out (reason.OutOfCells (first entry))
      out_of_cells slots h =
          not_loaded file entry arguments budget cells stack frames out (accepted_checked k.accepted) _
          (load_no_room with_arguments (program_in file) (usable (lent_of cells stack frames out)) entry arguments k.f k.known k.right
          (no_cells (usable (lent_of cells stack frames out)) entry (values (program_in file) arguments)
          (cells_loaded (program_in file) arguments) frame (omega (arith, vs_length)) h))

  pub fitting : (budget : ℕ) (cells stack : List ℕ) (count : ℕ) {m : Limits} {n : ℕ} → budget < 4294967296
      → (m.cells ≡ min 65471 (length cells / 5)) × (m.stack ≡ min 65535 (length stack)) × (m.frames ≡ min 65535 count)
      → n ≡ function_arity file entry → 0 < m.frames → n ≤ m.stack → cells_loaded (program_in file) arguments ≤ m.cells
      → Fitting file index m entry n arguments budget cells stack count
  fitting budget cells stack count few (c, s, f) e frame slots room frames out l = record {
    callable = k;
    few = few;
    limited = λ i. record { cells = c i; stack = s i; frames = (f ∙ ap (min 65535) (sym l)) i };
    inputs = inputs_are e;
    frame = frame;
    slots = slots;
    room = room;
  }

---- An accepted program

module _ {file : List ℕ} {header : Header} {heads : List ℕ} (laid : LaidOut file header heads) {entry : ℕ} where
  no_function : header.functions ≤ entry → function (program_in file) entry ≡ None
  unfolding program_of
  no_function h = numbered_past (function_in file) (byte_at (payload file) 3) 0 entry (omega (arith, h, functions_count laid.headed))

  module _ (h : entry < header.functions) {head : ℕ} (at : head ≡ get_or heads entry 0) where
    pub head_there : HeadThere (payload file) head
    head_there = rw at (record { whole = (function_placed laid entry h).head; few = (function_placed laid entry h).arity })

    known : function (program_in file) entry ≡ Some (function_of (payload file) head)
    known =
        function_is (payload file) entry (omega (arith, h, functions_count laid.headed))
        ∙ ap (λ (o : ℕ). Some (function_of (payload file) o)) (sym (head_placed laid entry h) ∙ sym at)

module _ {file : List ℕ} (a : Accepted file) {header : Header} {heads : List ℕ} (laid : LaidOut file header heads) {entry : ℕ}
    {arguments : List ℕ} where
  module _ (budget : ℕ) (cells stack : List ℕ) (frames : List Frame) (out : List ℕ) where
    pub no_entry : header.functions ≤ entry → RefusedRun file entry arguments budget cells stack frames out (reason.NoEntry entry)
    no_entry h =
        not_loaded file entry arguments budget cells stack frames out (accepted_checked a) _
        (load_no_entry with_arguments (program_in file) (usable (lent_of cells stack frames out)) entry arguments (no_function laid h))

    pub bad_arguments : entry < header.functions → {head : ℕ} → head ≡ get_or heads entry 0
        → {r : Reason} → refused (refusal_of r) ≡ arguments_right (program_in file) (function_of (payload file) head) arguments
        → RefusedRun file entry arguments budget cells stack frames out r
    bad_arguments h {head} at {r} says =
        not_loaded file entry arguments budget cells stack frames out (accepted_checked a) r
        (load_bad_arguments with_arguments (program_in file) (usable (lent_of cells stack frames out)) entry arguments
        (function_of (payload file) head) (known laid h at) (sym says))

  pub callable : entry < header.functions → {head : ℕ} → head ≡ get_or heads entry 0
      → passed ≡ arguments_right (program_in file) (function_of (payload file) head) arguments → {index : Index} → Indexed file index
      → Callable file index entry arguments
  callable h {head} at says i = record {
    accepted = a;
    indexed = i;
    f = function_of (payload file) head;
    known = known laid h at;
    right = sym says;
  }
