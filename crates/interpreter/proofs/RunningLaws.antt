-- From what each part of a run ensures to what the next asks, and to the answer.
use mathlib.Core.Path.{◌≡◌, refl, sym, ap, ap₂, ◌∙◌, subst}
use mathlib.Core.List.{List, [], ◌∷◌}
use mathlib.Core.Bool.{true}
use Prim.Native.Nat.{ℕ, ◌*◌, ◌-◌, ◌≤◌}
use native.Mathlib.Omega.{arith}
use lib.ListN.{length}
use Rattle.rules.specs.declared.answers.Answer.{Answer}
use Rattle.rules.specs.Base.{found}
use Rattle.rules.specs.Heap.{Heap, HeapState, heap_state, entered, state_of, heap_start, Valid}
use Rattle.rules.specs.HeapRun.{continued_on}
use Rattle.rules.specs.Lists.{l[], ◌l∷◌, Bytes}
use Rattle.rules.specs.Machine.{State, start}
use Rattle.rules.specs.Memory.{table_after}
use Rattle.rules.specs.Prefix.{values}
use Rattle.rules.specs.Program.{Function, Program}
use Rattle.rules.specs.Records.{program_in}
use Rattle.rules.specs.Run.{Tables, with_arguments, usable, cells_loaded, Outcome, loaded}
use Rattle.rules.proofs.CheckLaws.{accepted_checked}
use Rattle.rules.proofs.HeapRun.{Allocated, allocated_all}
use Rattle.rules.proofs.WordsSmall.{few_constructors}
use Rattle.rules.proofs.RunLaws.{load_begins}
use Rattle.store.specs.Frames.{no_frame, frames_in}
use Rattle.store.specs.Limits.{tables, LimitsOf, Wiped}
use Rattle.store.specs.declared.frames.Frame.{Frame}
use Rattle.store.specs.declared.limits.Limits.{Limits}
use Rattle.store.proofs.CellLaws.{cells_kept_length, cells_kept_trans, cells_kept_later}
use Rattle.store.proofs.FrameLaws.{frames_kept_length}
use Rattle.store.proofs.LimitLaws.{limits_kept, wiped_since, frames_since}
use Rattle.store.proofs.RefLaws.{kept_trans, kept_later}
use Rattle.fetch.specs.Indexed.{code_at}
use Rattle.fetch.proofs.IndexLaws.{code_stands}
use Rattle.fetch.specs.declared.index.Index.{Index}
use Rattle.steps.specs.Stands.{waiting_on, state_in, Linked, SoundFrom, Laid, Standing, answers_on}
use Rattle.machine.specs.Runs.{Begun, Ends, EndsAs}
use Rattle.machine.specs.declared.run.End.{End}
use Rattle.steps.specs.declared.state.Registers.{Registers}
use Rattle.start.specs.Begins.{Beginning, first, Loaded}
use Rattle.start.specs.Runs.{lent_of, Runs}
use Rattle.start.proofs.BeginLaws.{values_length, all_fit}
use Rattle.start.proofs.CallLaws.{known_entry}
use Rattle.start.proofs.LoadLaws.{bytes_right, cells_are, stack_is, frames_are, limits}
use Rattle.delivery.specs.Delivers.{Ended, Delivers}
use Rattle.interpreter.proofs.SoundLaws.{has_begun, start_sound}

module _ {file : List ℕ} {index : Index} {m : Limits} {entry n : ℕ} {arguments : List ℕ} {budget : ℕ}
    {cells stack : List ℕ} {frames : List Frame}
    {out : List ℕ} (b : Beginning file index m entry n arguments budget cells stack frames out) where
  abbrev s : Program
  s = program_in file

  abbrev f : Function
  f = b.callable.f

  -- the start fits the tables
  begins : loaded s (usable (lent_of cells stack frames out)) entry arguments ≡ found (start entry (values s arguments))
  begins =
      let k = values_length s f arguments b.callable.right in
      load_begins with_arguments s (usable (lent_of cells stack frames out)) entry arguments f b.callable.known b.callable.right
      (all_fit (usable (lent_of cells stack frames out))
      entry (values s arguments) (cells_loaded s arguments) (omega (arith, b.frame, frames_are b))
      (omega (arith, b.slots, b.inputs, k, stack_is b)) (omega (arith, b.room, cells_are b)))

  -- what the run answers
  abbrev pub says : Outcome
  says = continued_on (program_in file) (tables m) budget 0 (heap_start (program_in file) entry arguments)

  module _ (small : Bytes file) {cells₁ stack₁ : List ℕ} (l : Loaded (program_in file) arguments n cells stack cells₁ stack₁) where
    -- the start, as the registers and tables have it
    abbrev r : Registers
    r = first entry (code_at index entry) n (cells_loaded (program_in file) arguments) budget

    state_is : state_in (program_in file) cells₁ stack₁ r 1 [] ≡ heap_start (program_in file) entry arguments
    unfolding waiting_on
    state_is =
        let z : n - 0 ≡ n = omega arith in
        rw z (ap₂ (λ (heap : Heap) (refs : List ℕ). heap_state heap (entered entry refs ∷ [])) l.heap l.values)

    laid : Laid file m cells₁ r 1 []
    unfolding Linked
    laid =
        let c = code_stands file index b.callable.indexed entry (known_entry b.callable) in record {
          code = c.0;
          code_near = c.1;
          at = c.0;
          at_near = omega (arith, c.1);
          known = l.known;
          bottom = omega arith;
          places = b.slots;
          taken = b.room;
          linked = refl;
          depth = refl;
          deep = b.frame;
        }

    few : length (program_in file).constructors ≤ 64
    few = few_constructors file s (accepted_checked b.callable.accepted)

    all : Allocated (program_in file) arguments
    all = allocated_all s few 0 arguments f.parameters (bytes_right s f arguments b.callable.right)

    values_are : state_of (heap_start s entry arguments) ≡ start entry (values s arguments)
    values_are = ap (start entry) all.stand

    standing : Standing file m cells₁ stack₁ r 1 []
    standing = record {
      few = few;
      laid = laid;
      valid = subst (λ (h : HeapState). Valid h) (sym state_is) (record { earlier = all.earlier; refer = all.there l∷ l[] });
      sound =
          subst (λ (st : State). SoundFrom s st) (sym (ap (λ (h : HeapState). state_of h) state_is ∙ values_are))
          (start_sound file s small (accepted_checked b.callable.accepted) entry f b.callable.known arguments
          b.callable.right);
    }

    limits₁ : LimitsOf m cells₁ stack₁ frames
    limits₁ =
        limits_kept m cells stack frames cells₁ stack₁ frames (limits b) (cells_kept_length _ _ _ l.kept_cells) l.kept_stack.len refl

    module _ {t : Registers} (q : t ≡ r) where
      pub begun : Begun file index m cells₁ stack₁ frames t
      unfolding frames_in
      begun = rw q (record { indexed = b.callable.indexed; limits = limits₁; instruction = 1; standing = standing })

      module _ {cells₂ stack₂ : List ℕ} {frames₂ : List Frame} {u : Registers} {end : End}
          (e : Ends file m cells₁ stack₁ frames t cells₂ stack₂ frames₂ u end) where
        ends : (i : ℕ) × (ws : List Frame) × EndsAs file m budget says cells₂ stack₂ u i ws end
        unfolding frames_in
        ends =
            let z : budget - budget ≡ 0 = omega arith in
            let answer : answers_on s m budget cells₁ stack₁ r 1 [] ≡ says = rw (z, state_is) in
            rw answer at ((rw q at e.ends) budget 1 (omega arith) standing)

        -- what wiping asks
        pub wiping : LimitsOf m cells₂ stack₂ frames₂
        wiping =
            limits_kept m cells₁ stack₁ frames cells₂ stack₂ frames₂ limits₁ (cells_kept_length _ _ _ e.spared.of_cells)
            e.spared.of_stack.len (frames_kept_length _ _ _ e.spared_frames)

        -- what delivering asks
        pub ended : (i : ℕ) × (ws : List Frame) × Ended file m budget says cells₂ stack₂ u i ws end
        ended =
            let (i, ws, x) = ends in (
              i,
              ws,
              record {
                parsed = b.callable.indexed.parsed;
                lent = record {
                  cell_room = wiping.cell_room;
                  few_cells = wiping.few_cells;
                  stack_room = wiping.stack_room;
                  few_places = wiping.few_places;
                };
                few = b.few;
                fewer = omega (arith, e.fewer, ap (λ (x : Registers). x.left) q);
                ends = x;
              },
            )

        module _ {cells₃ stack₃ : List ℕ} {frames₃ : List Frame} (w : Wiped m cells₂ stack₂ cells₃ stack₃)
            (wf : frames₃ ≡ table_after true no_frame m.frames frames₂) where
          since : Wiped m cells stack cells₃ stack₃
          since =
              wiped_since m cells stack cells₂ stack₂ cells₃ stack₃
              (cells_kept_trans m.cells cells cells₁ cells₂ (cells_kept_later _ _ _ _ b.room l.kept_cells) e.spared.of_cells)
              (kept_trans m.stack stack stack₁ stack₂ (kept_later b.slots l.kept_stack) e.spared.of_stack) w

          pub runs : {out' : List ℕ} {a : Answer} → Delivers says out out' a
              → Runs file entry arguments budget cells stack frames out cells₃ stack₃ frames₃ out' a
          runs d =
              has_begun file entry arguments budget cells stack frames out (accepted_checked b.callable.accepted) begins
              (ap (λ (x : Tables). continued_on s x budget 0 (heap_start s entry arguments)) (sym b.limited)) d
              (since.of_cells ∙ ap (λ (k : ℕ). table_after true 0 (5 * k) cells) (cells_are b))
              (since.of_stack ∙ ap (λ (k : ℕ). table_after true 0 k stack) (stack_is b))
              (wf ∙ frames_since m.frames frames frames₂ e.spared_frames
              ∙ ap (λ (k : ℕ). table_after true no_frame k frames) (frames_are b))
