-- The arguments loaded: the pending references that are left are those to the values, one for each parameter, and go to the stack's bottom.
use mathlib.Core.Path.{◌≡◌, sym, ap, ◌∙◌, subst}
use mathlib.Core.List.{List}
use Prim.Native.Nat.{ℕ, ◌+◌, ◌-◌, ◌/◌, ◌≤◌, min}
use native.Mathlib.Omega.{arith}
use lib.ListN.{length}
use lib.Dec.{leb}
use Rattle.rules.specs.Heap.{allocated_for}
use Rattle.rules.specs.Prefix.{arguments_right, arity, read_bytes}
use Rattle.rules.specs.Program.{Program, Function}
use Rattle.rules.specs.Records.{program_in}
use Rattle.rules.specs.Run.{Tables, cells_loaded}
use Rattle.rules.specs.Base.{passed}
use Rattle.rules.specs.Established.{Parsed}
use Rattle.rules.proofs.HeapRun.{references_length}
use Rattle.rules.proofs.TriedLaws.{after_required}
use Rattle.store.specs.Cells.{refs, RefsPut, heap_in}
use Rattle.store.specs.Limits.{LimitsOf}
use Rattle.store.specs.declared.frames.Frame.{Frame}
use Rattle.store.specs.declared.limits.Limits.{Limits}
use Rattle.store.proofs.CellLaws.{room_less}
use Rattle.store.proofs.LimitLaws.{limits_of}
use Rattle.store.proofs.RefLaws.{length_refs, put_kept}
use Rattle.fetch.specs.declared.index.Index.{Index}
use Rattle.arguments.specs.Loading as arguments
use Rattle.start.specs.Begins.{Beginning, Loading, Loaded, Callable}
use Rattle.start.proofs.CallLaws.{few_inputs}

pub bytes_right : (s : Program) (f : Function) (bytes : List ℕ) → arguments_right s f bytes ≡ passed
    → read_bytes s 0 bytes f.parameters ≡ passed
unfolding arguments_right
bytes_right s f bytes right = (after_required (leb (length bytes) 65535) _ _ right).1

-- what the arguments' crate asks of bytes that are right for a function
arguments_loading : {file bytes : List ℕ} (f : Function) → Parsed file → arguments_right (program_in file) f bytes ≡ passed
    → length f.parameters ≤ 4 → arguments.Loading file bytes
arguments_loading {file} {bytes} f parsed right few = record {
  parsed = parsed;
  pending = f.parameters;
  right = bytes_right (program_in file) f bytes right;
  few = omega (arith, few);
}

pub callable_loading : {file : List ℕ} {index : Index} {entry : ℕ} {bytes : List ℕ} → Callable file index entry bytes
    → arguments.Loading file bytes
callable_loading k = arguments_loading k.f k.indexed.parsed k.right (few_inputs k)

module _ {file bytes cells stack : List ℕ} {n : ℕ} (l : Loading file bytes cells stack n) where
  abbrev s : Program
  s = program_in file

  pub loading_arguments : arguments.Roomy file bytes cells
  loading_arguments = record {
    loading = arguments_loading l.f l.parsed l.right (omega (arith, l.inputs, l.few));
    room = l.room;
    few = l.few_cells;
  }

  -- as many references as parameters
  references : length (allocated_for (program_in file) bytes).1 ≡ n
  references = references_length s 0 bytes l.f.parameters (bytes_right s l.f bytes l.right) ∙ sym l.inputs

  module _ {cells' numbers : List ℕ} {at used : ℕ} (h : arguments.MadeFor (program_in file) bytes cells cells' numbers at used) where
    pub pending_end : at + n ≡ 256
    pending_end = omega (arith, length_refs numbers at (256 - at), ap length h.values, references, h.low)

    pub loaded : {stack' : List ℕ} → RefsPut 0 (refs numbers at n) stack stack' → Loaded (program_in file) bytes n cells stack cells' stack'
    loaded {stack'} p =
        let few : 256 - at ≡ n = omega (arith, pending_end) in
        let long = length_refs numbers at n in
        record {
          heap = subst (λ (k : ℕ). heap_in (arity s) cells' k ≡ (allocated_for s bytes).0) h.taken h.heap;
          values = rw long at p.put ∙ ap (refs numbers at) (sym few) ∙ h.values;
          known = λ k b. h.known k (omega (arith, b, h.taken));
          kept_cells = h.kept;
          kept_stack = put_kept 0 (refs numbers at n) stack stack' p n (omega (arith, long));
        }

---- What loading asks

module _ {file : List ℕ} {index : Index} {m : Limits} {entry n : ℕ} {arguments : List ℕ} {budget : ℕ}
    {cells stack : List ℕ} {frames : List Frame}
    {out : List ℕ} (b : Beginning file index m entry n arguments budget cells stack frames out) where
  pub cells_are : m.cells ≡ min 65471 (length cells / 5)
  cells_are = ap (λ (t : Tables). t.cells) b.limited

  pub stack_is : m.stack ≡ min 65535 (length stack)
  stack_is = ap (λ (t : Tables). t.stack) b.limited

  pub frames_are : m.frames ≡ min 65535 (length frames)
  frames_are = ap (λ (t : Tables). t.frames) b.limited

  pub limits : LimitsOf m cells stack frames
  limits = limits_of m cells stack frames cells_are stack_is frames_are

  pub loading : Loading file arguments cells stack n
  loading = record {
    parsed = b.callable.indexed.parsed;
    f = b.callable.f;
    right = b.callable.right;
    inputs = b.inputs;
    few = omega (arith, b.inputs, few_inputs b.callable);
    slots = omega (arith, b.slots, limits.stack_room);
    room = room_less cells m.cells (cells_loaded (program_in file) arguments) limits.cell_room b.room;
    few_cells = omega (arith, b.room, limits.few_cells);
  }
