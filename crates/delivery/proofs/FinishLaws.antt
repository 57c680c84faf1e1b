-- An outcome delivered: the result where there is room for it, else 13; anything else as it is.
use mathlib.Core.Path.{◌≡◌, refl, sym, ap, ◌∙◌, subst}
use mathlib.Core.List.{List, ◌∷◌}
use Prim.Native.Nat.{ℕ, suc, ◌+◌, ◌-◌, ◌/◌, ◌≤◌, ◌<◌}
use native.Mathlib.Omega.{arith}
use lib.ListN.{length}
use Rattle.rules.specs.declared.answers.Place.{Place}
use Rattle.rules.specs.declared.answers.Reason.{Reason}
use Rattle.rules.specs.declared.answers.Reason.TheVariants as reason
use Rattle.rules.specs.declared.answers.Ending.TheVariants as said
use Rattle.rules.specs.Base.{refusal}
use Rattle.rules.specs.Heap.{Heap, NamesEarlier, Refers, value_of, number_of}
use Rattle.rules.specs.Lists.{All, ◌l∷◌}
use Rattle.rules.specs.Prefix.{arity, written}
use Rattle.rules.specs.Program.{Program}
use Rattle.rules.specs.Records.{program_in}
use Rattle.rules.specs.Run.{finished, aborted, refused_with, Outcome, answer}
use Rattle.rules.specs.Memory.{front_written, result_into}
use Rattle.rules.specs.Answers.{refusal_of, at_place}
use Rattle.rules.proofs.RunLaws.{deliver_result, deliver_short, deliver_aborted, deliver_refused}
use Rattle.store.specs.Cells.{constructor_in, heap_in}
use Rattle.store.specs.declared.frames.Frame.{Frame}
use Rattle.store.specs.declared.limits.Limits.{Limits}
use Rattle.store.proofs.CellLaws.{heap_length, heap_same, room_less}
use Rattle.store.proofs.RefLaws.{refs_all}
use Rattle.fetch.specs.Indexed.{constructor_arity}
use Rattle.fetch.specs.Places.{offset_at, Inside}
use Rattle.fetch.proofs.IndexLaws.{constructor_read}
use Rattle.fetch.proofs.PlaceLaws.{stands_number}
use Rattle.result.specs.Result.{bytes_of, Readable}
use Rattle.result.proofs.ValueLaws.{bytes_in, readable}
use Rattle.steps.specs.Steps.{top_reference, number_for}
use Rattle.steps.specs.declared.state.Registers.{Registers}
use Rattle.steps.specs.declared.state.Table.{Table}
use Rattle.machine.specs.declared.run.End.{End}
use Rattle.machine.specs.declared.run.End.TheVariants as ends
use Rattle.delivery.specs.Delivers.{Ended, Delivers}

module _ (steps : ℕ) (out : List ℕ) where
  pub delivers_result : (bytes : List ℕ) {out' : List ℕ} {n : ℕ} → n ≡ length bytes → length bytes ≤ length out
      → out' ≡ front_written bytes out → Delivers (answer (finished bytes) steps) out out'
      (record { ending = said.Result n; steps = steps })
  unfolding result_into
  delivers_result bytes e h o =
      record { says = rw (deliver_result (length out) steps bytes h, e); left = rw (deliver_result (length out) steps bytes h) o }

  pub delivers_short : (bytes : List ℕ) {n : ℕ} → n ≡ length bytes → length out < length bytes
      → Delivers (answer (finished bytes) steps) out out (record { ending = said.Refused (reason.OutputTooShort n); steps = steps })
  unfolding result_into
  delivers_short bytes e h =
      record { says = rw (deliver_short (length out) steps bytes h, e); left = rw (deliver_short (length out) steps bytes h) }

  pub delivers_aborted : Delivers (answer aborted steps) out out (record { ending = said.Aborted; steps = steps })
  unfolding result_into
  delivers_aborted = record { says = rw (deliver_aborted (length out) steps); left = rw (deliver_aborted (length out) steps) }

  pub delivers_refused : (r : Reason)
      → Delivers (answer (refused_with (refusal_of r)) steps) out out (record { ending = said.Refused r; steps = steps })
  unfolding result_into
  delivers_refused r =
      record {
        says = rw (deliver_refused (length out) steps (refusal_of r));
        left =
            rw (deliver_refused (length out) steps (refusal_of r));
      }

---- How a run has ended

all_first : {A : Type 0} {P : A → Type 0} {x : A} {xs : List A} → All P (x ∷ xs) → P x
all_first (p l∷ ps) = p

module _ {file : List ℕ} {m : Limits} {budget : ℕ} {says : Outcome} {cells stack : List ℕ} {r : Registers} {i : ℕ} {ws : List Frame}
    {end : End} (e : Ended file m budget says cells stack r i ws end) where
  abbrev s : Program
  s = program_in file

  abbrev reference : ℕ
  reference = top_reference stack r

  -- the cells are of constructors of the program, whose arities are read in the blocks
  known : (k : ℕ) → k < r.used → constructor_in cells k < length (program_in file).constructors
  known = e.ends.standing.laid.known

  heap_is : heap_in (arity (program_in file)) cells r.used ≡ heap_in (constructor_arity file) cells r.used
  heap_is =
      heap_same (arity s) (constructor_arity file) cells r.used
      (λ k h. sym (constructor_read e.parsed (constructor_in cells k) (known k h)).1)

  earlier : NamesEarlier (heap_in (constructor_arity file) cells r.used)
  earlier = subst (λ (h : Heap). NamesEarlier h) heap_is e.ends.standing.valid.earlier

  -- the number of the instruction at which the run was refused
  pub numbered : Inside r.code × Inside r.at × (r.code ≤ 40000) × (r.at ≤ 40000) × (offset_at r.code ≤ offset_at r.at)
  numbered =
      let l = e.ends.standing.laid in
      let n = stands_number file r.function i r.code r.at l.code l.at in
      (l.code.inside, l.at.inside, omega (arith, l.code_near), l.at_near, n.0)

  number_is : {n : ℕ} → n ≡ (offset_at r.at - offset_at r.code) / 4 + 1 → n ≡ i
  number_is q = q ∙ (stands_number file r.function i r.code r.at e.ends.standing.laid.code e.ends.standing.laid.at).1

---- A result

module _ {file : List ℕ} {m : Limits} {budget : ℕ} {says : Outcome} {cells stack : List ℕ} {r : Registers} {i : ℕ} {ws : List Frame}
    (e : Ended file m budget says cells stack r i ws ends.Result) where
  -- a result is on the stack
  pub result_place : (0 < r.top) × (r.top - 1 < length stack)
  result_place =
      let h = e.ends.answers.0 in
      (omega (arith, h), omega (arith, h, e.ends.standing.laid.places, e.lent.stack_room))

  result_refers : top_reference stack r < number_of r.used
  result_refers =
      let n : r.base + (r.top - r.base - 1) ≡ r.top - 1 = omega (arith, e.ends.answers.0) in
      let heap : Heap = heap_in (arity (program_in file)) cells r.used in
      let l = refs_all {P = Refers heap} stack r.base (r.top - r.base) (all_first e.ends.standing.valid.refer)
      (r.top - r.base - 1) (omega (arith, e.ends.answers.0)) in
      omega (arith, rw n at l, heap_length (arity (program_in file)) cells r.used)

  pub result_readable : Readable file cells (top_reference stack r)
  result_readable =
      readable file cells r.used (top_reference stack r) e.parsed result_refers
      (omega (arith, e.ends.standing.laid.taken, e.lent.few_cells))
      (room_less cells m.cells r.used e.lent.cell_room e.ends.standing.laid.taken)
      (λ k h. (constructor_read e.parsed (constructor_in cells k) (known e k h)).0) (earlier e)

  result_bytes : bytes_of file cells (top_reference stack r)
      ≡ written (value_of (heap_in (arity (program_in file)) cells r.used) (top_reference stack r))
  result_bytes =
      bytes_in file cells r.used (top_reference stack r) result_refers (earlier e)
      ∙ ap (λ (h : Heap). written (value_of h (top_reference stack r))) (sym (heap_is e))

  pub result_short : length (bytes_of file cells (top_reference stack r)) < 4294967296
  result_short = rw result_bytes e.ends.answers.1

  pub says_result : answer (finished (bytes_of file cells (top_reference stack r))) (budget - r.left) ≡ says
  says_result = rw result_bytes (sym e.ends.answers.2)

---- No result

module _ {file : List ℕ} {m : Limits} {budget : ℕ} {says : Outcome} {cells stack : List ℕ} {r : Registers} {i : ℕ} {ws : List Frame} where
  -- a stop is counted as a step
  pub stops_within : Ended file m budget says cells stack r i ws ends.Stops → budget - r.left + 1 < 4294967296
  stops_within e = omega (arith, e.ends.answers.0, e.few, e.fewer)

  pub delivers_stop : Ended file m budget says cells stack r i ws ends.Stops → (out : List ℕ)
      → Delivers says out out (record { ending = said.Aborted; steps = budget - r.left + 1 })
  delivers_stop e out =
      let n : suc (budget - r.left) ≡ budget - r.left + 1 = omega arith in
      rw (e.ends.answers.1, n) (delivers_aborted (budget - r.left + 1) out)

  refused_at : {end : End} → Ended file m budget says cells stack r i ws end → (number : ℕ)
      → says ≡ answer (refused_with (refusal number r.function i)) (budget - r.left) → (out : List ℕ) {p : Place} {why : Reason}
      → p ≡ record { function = r.function; instruction = (offset_at r.at - offset_at r.code) / 4 + 1 }
      → refusal_of why ≡ at_place number p
      → Delivers says out out (record { ending = said.Refused why; steps = budget - r.left })
  refused_at e number answers out {p} {why} at told =
      let n = number_is e refl in
      let t : refusal number r.function i ≡ refusal_of why =
      ap (refusal number r.function) (sym n) ∙ sym (rw at at told) in
      rw (answers, t) (delivers_refused (budget - r.left) out why)

  pub delivers_spent : Ended file m budget says cells stack r i ws ends.Spent → (out : List ℕ) {p : Place}
      → p ≡ record { function = r.function; instruction = (offset_at r.at - offset_at r.code) / 4 + 1 }
      → Delivers says out out (record { ending = said.Refused (reason.BudgetSpent p); steps = budget - r.left })
  delivers_spent e out at = refused_at e 14 e.ends.answers out at refl

  pub delivers_full : {table : Table} → Ended file m budget says cells stack r i ws (ends.OutOf table) → (out : List ℕ) {p : Place}
      {why : Reason} → p ≡ record { function = r.function; instruction = (offset_at r.at - offset_at r.code) / 4 + 1 }
      → refusal_of why ≡ at_place (number_for table) p
      → Delivers says out out (record { ending = said.Refused why; steps = budget - r.left })
  delivers_full {table} e out at told = refused_at e (number_for table) e.ends.answers out at told
