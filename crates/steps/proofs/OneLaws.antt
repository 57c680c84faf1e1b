-- One step of the top frame: what is fetched, and what each operation comes to.
use Prim.Native.Nat.{ℕ, ◌+◌, ◌/◌, ◌%◌, ◌≤◌, ◌<◌, ◌-◌}
use mathlib.Core.Path.{◌≡◌, refl, ap, ◌∙◌}
use mathlib.Core.List.{List, map}
use Rattle.std.specs.Prelude.{Some, Result, Err, IfOk}
use mathlib.Core.Bool.{true, false}
use native.Mathlib.Omega.{arith}
use lib.ListN.{length, set}
use Rattle.rules.specs.Base.{byte_at}
use Rattle.rules.specs.Container.{payload}
use Rattle.rules.specs.Established.{Verified, Parsed}
use Rattle.rules.specs.Heap.{frame_of, number_of, is_constant}
use Rattle.rules.specs.Machine.{current}
use Rattle.rules.specs.Records.{program_in, instruction_at, operation, instruction_of, is_some}
use Rattle.rules.specs.declared.records.Instruction.{Instruction}
use Rattle.rules.specs.declared.records.Instruction.TheVariants.{Load, Build, Call, Branch, Return, Stop}
use Rattle.store.specs.Cells.{KeptFrom, label_in, cell_of}
use Rattle.store.specs.declared.frames.Frame.{Frame}
use Rattle.store.specs.declared.limits.Limits.{Limits}
use Rattle.store.proofs.RefLaws.{put_one, put_kept, kept_refl}
use Rattle.store.proofs.CellLaws.{cell_put_kept, cells_kept_refl, arguments_length}
use Rattle.rules.specs.Prefix.{arity}
use Rattle.fetch.specs.Arities.{place}
use Rattle.fetch.specs.Indexed.{constructor_arity}
use Rattle.fetch.specs.Places.{offset_at, Inside, Behind}
use Rattle.fetch.specs.Words.{WordThere}
use Rattle.fetch.proofs.IndexLaws.{in_range, constructor_read}
use Rattle.fetch.proofs.InstructionLaws.{instruction_there, word_load, word_build, word_call, word_branch, word_return, word_stop}
use Rattle.steps.specs.Stands.{top_on, waiting_on, state_in, Standing, Spared}
use Rattle.steps.specs.Steps.{top_reference, Loads, load_full, load_goes, Builds, build_full, build_constant, build_short, build_goes}
use Rattle.steps.specs.Steps.{branch_constant, Branches, branch_passes, branch_full, branch_takes, Rests, Stepped}
use Rattle.steps.specs.Pauses.{Ready}
use Rattle.steps.specs.declared.state.Registers.{Registers}
use Rattle.steps.specs.declared.state.Rest.{Rest}
use Rattle.steps.specs.declared.state.Rest.TheVariants.{Calls, Returns, Stops}
use Rattle.steps.proofs.StandLaws.{sound_current, current_first}
use Rattle.steps.proofs.StepLaws.{same_place}
use Rattle.steps.proofs.LoadLaws.{load_slot, load_comes}
use Rattle.steps.proofs.BuildLaws.{build_known, build_deep, build_comes}
use Rattle.steps.proofs.BranchLaws.{branch_deep, branch_old, branch_known, branch_target, branch_comes}

---- The instruction of a standing frame

module _ (file : List ℕ) (parsed : Parsed file) (m : Limits) (cells stack : List ℕ) (r : Registers) (i : ℕ) (ws : List Frame)
    (ok : Standing file m cells stack r i ws) where
  abbrev At : Instruction → Type 0
  At ins = current (program_in file) (place r.function i) ≡ Some ins

  pub there_is : (ins : Instruction) × (current (program_in file) (place r.function i) ≡ Some ins)
  unfolding current
  there_is =
      sound_current (program_in file) (map (frame_of (state_in (program_in file) cells stack r i ws).heap) (waiting_on stack ws r.base))
      (frame_of (state_in (program_in file) cells stack r i ws).heap (top_on stack r i)) ok.sound

  facts : (offset_at r.at + 4 ≤ length (payload file)) × (r.function < length (program_in file).functions) × (i ≤ 256)
      × (is_some (operation (instruction_at (payload file) (offset_at r.at))) ≡ true)
      × (there_is.0 ≡ instruction_of (instruction_at (payload file) (offset_at r.at)))
  facts = instruction_there parsed r.function i r.at there_is.0 ok.laid.at there_is.1

  pub fetch_there : Verified file × Inside r.at × (offset_at r.at + 4 ≤ length (payload file))
  fetch_there = (parsed.verified, ok.laid.at.inside, facts.0)

  pub function_there : r.function < length (program_in file).functions
  function_there = facts.1

  module _ {w : ℕ} (word : WordThere (payload file) (offset_at r.at) w) where
    pub at_load : w % 256 ≡ 1 → At (Load (w / 256 % 256))
    at_load e = there_is.1 ∙ ap Some (word_load word facts.3 facts.4 e)

    pub at_build : w % 256 ≡ 2 → At (Build (w / 256 % 256))
    at_build e = there_is.1 ∙ ap Some (word_build word facts.3 facts.4 e)

    pub at_call : w % 256 ≡ 3 → At (Call (w / 256 % 256))
    at_call e = there_is.1 ∙ ap Some (word_call word facts.3 facts.4 e)

    pub at_branch : w % 256 ≡ 4 → At (Branch (w / 256 % 256) (w / 65536))
    at_branch e = there_is.1 ∙ ap Some (word_branch word facts.3 facts.4 e)

    pub at_return : w % 256 ≡ 5 → At Return
    at_return e = there_is.1 ∙ ap Some (word_return word facts.3 facts.4 e)

    pub at_stop : (w % 256 ≡ 1 → ⊥) → (w % 256 ≡ 2 → ⊥) → (w % 256 ≡ 3 → ⊥) → (w % 256 ≡ 4 → ⊥) → (w % 256 ≡ 5 → ⊥) → At Stop
    at_stop n₁ n₂ n₃ n₄ n₅ = there_is.1 ∙ ap Some (word_stop word facts.3 facts.4 n₁ n₂ n₃ n₄ n₅)

---- Each operation

spared_none : (m : Limits) (cells stack : List ℕ) → Spared m cells stack cells stack
spared_none m cells stack = record { of_cells = cells_kept_refl m.cells cells; of_stack = kept_refl m.stack stack }

module _ (file : List ℕ) (m : Limits) (cells stack : List ℕ) (r : Registers) (ready : Ready file m cells stack r)
    (left : 0 < r.left) {w : ℕ} (word : WordThere (payload file) (offset_at r.at) w) where
  abbrev i : ℕ
  i = ready.instruction

  abbrev ws : List Frame
  ws = ready.waiting

  abbrev ok : Standing file m cells stack r ready.instruction ready.waiting
  ok = ready.standing

  abbrev a : ℕ
  a = w / 256 % 256

  ---- Load

  pub load_ready : w % 256 ≡ 1 → (0 < w / 256 % 256) × (r.base + w / 256 % 256 ≤ r.top)
  load_ready e = load_slot file m cells stack r i ws ok a (at_load file ready.parsed m cells stack r i ws ok word e)

  pub load_stepped : w % 256 ≡ 1 → (next : ℕ) → Behind r.at 1 next → next ≤ 40000 → {stack' : List ℕ} {t : Result Registers Rest}
      → Loads m stack r next (w / 256 % 256) stack' t → Stepped file m cells stack r cells stack' t
  load_stepped e next behind near x = record {
    spared = record { of_cells = cells_kept_refl m.cells cells; of_stack = kept x };
    left = same x;
    comes = λ budget j vs fits on.
        load_comes file m cells stack r j vs on a (at_load file ready.parsed m cells stack r j vs on word e)
        budget fits left ready.lent.stack_room next behind near x;
  }
    where
      same : {stack' : List ℕ} {t : Result Registers Rest} → Loads m stack r next (w / 256 % 256) stack' t
          → IfOk t (λ goes. goes.left ≡ r.left)
      same (load_full f) = tt
      same (load_goes f) = refl

      kept : {stack' : List ℕ} {t : Result Registers Rest} → Loads m stack r next (w / 256 % 256) stack' t
          → KeptFrom m.stack stack stack'
      kept (load_full f) = kept_refl m.stack stack
      kept (load_goes f) = put_kept r.top _ stack _ (put_one stack r.top _ (omega (arith, ready.lent.stack_room))) m.stack
          (omega arith)

  ---- Build

  pub build_ready : w % 256 ≡ 2 → (w / 256 % 256 < byte_at (payload file) 2) × (constructor_arity file (w / 256 % 256) ≤ r.top)
  build_ready e =
      let cur = at_build file ready.parsed m cells stack r i ws ok word e in
      let x = constructor_read ready.parsed a (build_known file m cells stack r i ws ok a cur) in
      (x.0, omega (arith, x.1, build_deep file m cells stack r i ws ok a cur))

  pub build_stepped : w % 256 ≡ 2 → (next : ℕ) → Behind r.at 1 next → next ≤ 40000 → {cells' stack' : List ℕ}
      {t : Result Registers Rest}
      → Builds m cells stack r next (w / 256 % 256) (constructor_arity file (w / 256 % 256)) cells' stack' t
      → Stepped file m cells stack r cells' stack' t
  build_stepped e next behind near x = record {
    spared = kept x;
    left = same x;
    comes = λ budget j vs fits on.
        build_comes file m cells stack r j vs on a (at_build file ready.parsed m cells stack r j vs on word e)
        (in_range ready.parsed) budget fits left ready.lent.stack_room next behind near _ is x;
  }
    where
      cur : current (program_in file) (place r.function i) ≡ Some (Build (w / 256 % 256))
      cur = at_build file ready.parsed m cells stack r i ws ok word e

      is : constructor_arity file (w / 256 % 256) ≡ arity (program_in file) (w / 256 % 256)
      is = (constructor_read ready.parsed a (build_known file m cells stack r i ws ok a cur)).1

      same : {cells' stack' : List ℕ} {t : Result Registers Rest}
          → Builds m cells stack r next (w / 256 % 256) (constructor_arity file (w / 256 % 256)) cells' stack' t
          → IfOk t (λ goes. goes.left ≡ r.left)
      same (build_full f) = tt
      same (build_constant f z) = refl
      same (build_short f z g) = tt
      same (build_goes f z g p) = refl

      put : (number : ℕ) → r.top - constructor_arity file (w / 256 % 256) < m.stack
          → KeptFrom m.stack stack (set stack (r.top - constructor_arity file (w / 256 % 256)) number)
      put number f =
          put_kept _ _ stack _ (put_one stack _ number (omega (arith, f, ready.lent.stack_room))) m.stack (omega arith)

      kept : {cells' stack' : List ℕ} {t : Result Registers Rest}
          → Builds m cells stack r next (w / 256 % 256) (constructor_arity file (w / 256 % 256)) cells' stack' t
          → Spared m cells stack cells' stack'
      kept (build_full f) = spared_none m cells stack
      kept (build_constant f z) = record { of_cells = cells_kept_refl m.cells cells; of_stack = put a f }
      kept (build_short f z g) = spared_none m cells stack
      kept (build_goes f z g p) = record {
        of_cells = cell_put_kept r.used a _ cells _ p m.cells g;
        of_stack = put (number_of r.used) f;
      }

  ---- Branch

  pub branch_ready : w % 256 ≡ 4 → (0 < r.top) × (top_reference stack r < number_of m.cells)
  branch_ready e =
      let cur = at_branch file ready.parsed m cells stack r i ws ok word e in (
        omega (arith, branch_deep file m cells stack r i ws ok a (w / 65536) cur),
        omega (arith, branch_old file m cells stack r i ws ok a (w / 65536) cur, ok.laid.taken),
      )

  pub branch_ready_same : w % 256 ≡ 4 → label_in cells (top_reference stack r) ≡ w / 256 % 256
      → is_constant (top_reference stack r) ≡ false → Parsed file × (w / 256 % 256 < byte_at (payload file) 2)
  branch_ready_same e y z =
      let cur = at_branch file ready.parsed m cells stack r i ws ok word e in
      (ready.parsed, (constructor_read ready.parsed a (branch_known file m cells stack r i ws ok a (w / 65536) cur y z)).0)

  pub branch_ready_other : w % 256 ≡ 4 → (label_in cells (top_reference stack r) ≡ w / 256 % 256 → ⊥)
      → (0 < w / 65536) × (w / 65536 ≤ 256) × Inside r.code × (r.code ≤ 33000)
  branch_ready_other e n =
      let cur = at_branch file ready.parsed m cells stack r i ws ok word e in
      let t = branch_target file m cells stack r i ws ok a (w / 65536) cur n in
      let range = (in_range ready.parsed).at r.function (w / 65536) t.0 t.1 in
      (current_first (program_in file) r.function (w / 65536) t.1, range.1, ok.laid.code.inside, ok.laid.code_near)

  pub branch_stepped : w % 256 ≡ 4 → (next : ℕ) → Behind r.at 1 next → next ≤ 40000 → {stack' : List ℕ} {t : Result Registers Rest}
      → Branches m cells stack r next (w / 256 % 256) (w / 65536) (constructor_arity file (w / 256 % 256)) stack' t
      → Stepped file m cells stack r cells stack' t
  branch_stepped e next behind near x = record {
    spared = record { of_cells = cells_kept_refl m.cells cells; of_stack = kept x };
    left = same x;
    comes = λ budget j vs fits on.
        branch_comes file m cells stack r j vs on a (w / 65536) (cur j vs on) budget fits left next behind near
        (λ n. (branch_ready_other e n).0) _ is x;
  }
    where
      same : {stack' : List ℕ} {t : Result Registers Rest}
          → Branches m cells stack r next (w / 256 % 256) (w / 65536) (constructor_arity file (w / 256 % 256)) stack' t
          → IfOk t (λ goes. goes.left ≡ r.left)
      same (branch_passes n p q) = refl
      same (branch_constant y z) = refl
      same (branch_full y z f) = tt
      same (branch_takes y z f p) = refl

      kept : {stack' : List ℕ} {t : Result Registers Rest}
          → Branches m cells stack r next (w / 256 % 256) (w / 65536) (constructor_arity file (w / 256 % 256)) stack' t
          → KeptFrom m.stack stack stack'
      kept (branch_passes n p q) = kept_refl m.stack stack
      kept (branch_constant y z) = kept_refl m.stack stack
      kept (branch_full y z f) = kept_refl m.stack stack
      kept (branch_takes y z f p) = put_kept _ _ stack _ p m.stack
          (omega (arith, arguments_length cells (cell_of (top_reference stack r)) (constructor_arity file (w / 256 % 256))))

      cur : (j : ℕ) (vs : List Frame) → Standing file m cells stack r j vs
          → current (program_in file) (place r.function j) ≡ Some (Branch (w / 256 % 256) (w / 65536))
      cur j vs on = at_branch file ready.parsed m cells stack r j vs on word e

      is : label_in cells (top_reference stack r) ≡ w / 256 % 256 → is_constant (top_reference stack r) ≡ false
          → constructor_arity file (w / 256 % 256) ≡ arity (program_in file) (w / 256 % 256)
      is y z = (constructor_read ready.parsed a (branch_known file m cells stack r i ws ok a (w / 65536) (cur i ws ok) y z)).1

  ---- Call, return and stop: the frame rests

  resting_stepped : (why : Rest)
      → ((budget j : ℕ) (vs : List Frame) → Standing file m cells stack r j vs → Rests file m budget cells stack r j vs why)
      → Stepped file m cells stack r cells stack (Err why)
  resting_stepped why rests = record {
    spared = spared_none m cells stack;
    left = tt;
    comes = λ budget j vs fits on. (same_place file m budget cells stack r j vs fits on, rests budget j vs on);
  }

  pub call_stepped : w % 256 ≡ 3 → Stepped file m cells stack r cells stack (Err (Calls (w / 256 % 256)))
  call_stepped e = resting_stepped (Calls a) (λ budget j vs on. (left, at_call file ready.parsed m cells stack r j vs on word e))

  pub return_stepped : w % 256 ≡ 5 → Stepped file m cells stack r cells stack (Err Returns)
  return_stepped e = resting_stepped Returns (λ budget j vs on. (left, at_return file ready.parsed m cells stack r j vs on word e))

  pub stop_stepped : (w % 256 ≡ 1 → ⊥) → (w % 256 ≡ 2 → ⊥) → (w % 256 ≡ 3 → ⊥) → (w % 256 ≡ 4 → ⊥) → (w % 256 ≡ 5 → ⊥)
      → Stepped file m cells stack r cells stack (Err Stops)
  stop_stepped n₁ n₂ n₃ n₄ n₅ =
      resting_stepped Stops (λ budget j vs on. (left, at_stop file ready.parsed m cells stack r j vs on word n₁ n₂ n₃ n₄ n₅))
