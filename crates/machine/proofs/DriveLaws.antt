-- The run's loop: it goes from one frame that rests to the next, until the run is at its end.
use Prim.Native.Nat.{ℕ, ◌≤◌, ◌<◌}
use mathlib.Core.Path.{◌≡◌, refl, sym, ap, ◌∙◌, subst}
use mathlib.Core.List.{List}
use Rattle.std.specs.Prelude.{Result, Ok, Err}
use native.Mathlib.Omega.{arith}
use Rattle.store.specs.Frames.{frames_in, FramesKept}
use Rattle.store.specs.Limits.{LimitsOf}
use Rattle.store.specs.declared.frames.Frame.{Frame}
use Rattle.store.specs.declared.limits.Limits.{Limits}
use Rattle.store.proofs.RefLaws.{kept_refl}
use Rattle.store.proofs.CellLaws.{cells_kept_refl, cells_kept_length}
use Rattle.store.proofs.FrameLaws.{frames_length, frames_kept_refl, frames_kept_trans, frames_kept_length}
use Rattle.store.proofs.LimitLaws.{limits_kept}
use Rattle.fetch.specs.declared.index.Index.{Index}
use Rattle.steps.specs.Stands.{Lent, Standing, Spared, LeadsTo}
use Rattle.steps.specs.Steps.{Rests}
use Rattle.steps.specs.Pauses.{Ready, Pauses}
use Rattle.machine.specs.Turns.{Rested, Gives, Turned}
use Rattle.machine.specs.declared.run.End.{End}
use Rattle.machine.specs.Runs.{Begun, Ends}
use Rattle.steps.specs.declared.state.Registers.{Registers}
use Rattle.steps.specs.declared.state.Rest.{Rest}
use Rattle.machine.proofs.EndLaws.{answered}
use Rattle.steps.proofs.LoopLaws.{spared_trans, leads_trans}

-- what the tables lend the top frame
lent_of : (m : Limits) (cells stack : List ℕ) (frames : List Frame) → LimitsOf m cells stack frames → Lent m cells stack
lent_of m cells stack frames l =
    record { cell_room = l.cell_room; few_cells = l.few_cells; stack_room = l.stack_room; few_places = l.few_places }

-- the run has come so far
pub record Drove (file : List ℕ) (m : Limits) (cells stack : List ℕ) (frames : List Frame) (r : Registers) (cells' stack' : List ℕ)
    (frames' : List Frame) (t : Registers) : Type 0 where
  pub spared : Spared m cells stack cells' stack'
  pub spared_frames : FramesKept m.frames frames frames'
  pub fewer : t.left ≤ r.left
  pub leads : (budget i : ℕ) → r.left ≤ budget → Standing file m cells stack r i (frames_in frames r.depth)
      → (i' : ℕ) × LeadsTo file m budget cells stack r i (frames_in frames r.depth) cells' stack' t i' (frames_in frames' t.depth)

module _ (file : List ℕ) (index : Index) (m : Limits) (cells stack : List ℕ) (frames : List Frame) (r : Registers)
    (begun : Begun file index m cells stack frames r) where
  pub drove_none : Drove file m cells stack frames r cells stack frames r
  drove_none = record {
    spared = record { of_cells = cells_kept_refl m.cells cells; of_stack = kept_refl m.stack stack };
    spared_frames = frames_kept_refl m.frames frames;
    fewer = omega arith;
    leads = λ budget i fits ok. (i, record { standing = ok; fewer = omega arith; same = refl });
  }

  module _ (cells₁ stack₁ : List ℕ) (frames₁ : List Frame) (r₁ : Registers)
      (drove : Drove file m cells stack frames r cells₁ stack₁ frames₁ r₁) where
    limits₁ : LimitsOf m cells₁ stack₁ frames₁
    limits₁ =
        limits_kept m cells stack frames cells₁ stack₁ frames₁ begun.limits
        (cells_kept_length m.cells cells cells₁ drove.spared.of_cells) drove.spared.of_stack.len
        (frames_kept_length m.frames frames frames₁ drove.spared_frames)

    -- where the run stands now
    abbrev at₁ : ℕ
    at₁ = (drove.leads r.left begun.instruction (omega arith) begun.standing).0

    stands₁ : Standing file m cells₁ stack₁ r₁ (drove.leads r.left begun.instruction (omega arith) begun.standing).0
        (frames_in frames₁ r₁.depth)
    stands₁ = (drove.leads r.left begun.instruction (omega arith) begun.standing).1.standing

    pub ready_now : Ready file m cells₁ stack₁ r₁
    ready_now = record {
      parsed = begun.indexed.parsed;
      lent = lent_of m cells₁ stack₁ frames₁ limits₁;
      instruction = at₁;
      waiting = frames_in frames₁ r₁.depth;
      standing = stands₁;
    }

    module _ (cells₂ stack₂ : List ℕ) (t : Registers) (why : Rest)
        (pauses : Pauses file m cells₁ stack₁ r₁ cells₂ stack₂ t why) where
      limits₂ : LimitsOf m cells₂ stack₂ frames₁
      limits₂ =
          limits_kept m cells₁ stack₁ frames₁ cells₂ stack₂ frames₁ limits₁
          (cells_kept_length m.cells cells₁ cells₂ pauses.spared.of_cells) pauses.spared.of_stack.len refl

      -- where its top frame rests, the frames that wait are those of the table
      rests_there : (budget i : ℕ) → r₁.left ≤ budget → Standing file m cells₁ stack₁ r₁ i (frames_in frames₁ r₁.depth)
          → (i' : ℕ)
          × LeadsTo file m budget cells₁ stack₁ r₁ i (frames_in frames₁ r₁.depth) cells₂ stack₂ t i' (frames_in frames₁ t.depth)
          × Rests file m budget cells₂ stack₂ t i' (frames_in frames₁ t.depth) why
      rests_there budget i fits ok =
          let x = pauses.leads budget i (frames_in frames₁ r₁.depth) fits ok in
          let same : frames_in frames₁ r₁.depth ≡ frames_in frames₁ t.depth =
          ap (frames_in frames₁) (sym (frames_length frames₁ r₁.depth) ∙ x.1.standing.laid.depth) in (
            x.0,
            subst (λ (vs : List Frame). LeadsTo file m budget cells₁ stack₁ r₁ i (frames_in frames₁ r₁.depth) cells₂ stack₂ t x.0 vs)
                same x.1,
            subst (λ (vs : List Frame). Rests file m budget cells₂ stack₂ t x.0 vs why) same x.2,
          )

      pub rested_now : Rested file index m cells₂ stack₂ frames₁ t why
      rested_now =
          let x = rests_there r₁.left at₁ (omega arith) stands₁ in
          record {
            indexed = begun.indexed;
            limits = limits₂;
            budget = r₁.left;
            instruction = x.0;
            standing = x.1.standing;
            rests = x.2;
          }

      module _ (stack₃ : List ℕ) (frames₃ : List Frame) (next : Result Registers End)
          (turns_to : (cs : List ℕ) → Rested file index m cs stack₂ frames₁ t why
          → Turned file m cs stack₂ frames₁ t why stack₃ frames₃ next) where
        turned : Turned file m cells₂ stack₂ frames₁ t why stack₃ frames₃ next
        turned = turns_to cells₂ rested_now

        spared₃ : Spared m cells stack cells₂ stack₃
        spared₃ =
            spared_trans m cells stack cells₂ stack₂ cells₂ stack₃
            (spared_trans m cells stack cells₁ stack₁ cells₂ stack₂ drove.spared pauses.spared)
            (record { of_cells = cells_kept_refl m.cells cells₂; of_stack = turned.spared_stack })

        spared_frames₃ : FramesKept m.frames frames frames₃
        spared_frames₃ = frames_kept_trans m.frames frames frames₁ frames₃ drove.spared_frames turned.spared_frames

        -- the run up to the rest, and what the rest gives way to
        gives_there : (budget i : ℕ) → r.left ≤ budget → Standing file m cells stack r i (frames_in frames r.depth)
            → (i' : ℕ)
            × LeadsTo file m budget cells stack r i (frames_in frames r.depth) cells₂ stack₂ t i' (frames_in frames₁ t.depth)
            × Gives file m budget cells₂ stack₂ t i' (frames_in frames₁ t.depth) stack₃ frames₃ next
        gives_there budget i fits ok =
            let x = drove.leads budget i fits ok in
            let y = rests_there budget x.0 (omega (arith, drove.fewer)) x.1.standing in (
              y.0,
              leads_trans x.1 y.1,
              turned.gives budget y.0 (omega (arith, drove.fewer, pauses.fewer)) y.1.standing y.2,
            )

      module _ (stack₃ : List ℕ) (frames₃ : List Frame) where
        -- another frame is on top
        pub turn_less : (next : Registers)
            → ((cs : List ℕ) → Rested file index m cs stack₂ frames₁ t why
            → Turned file m cs stack₂ frames₁ t why stack₃ frames₃ (Ok next))
            → next.left < r₁.left
        turn_less next turns_to = omega (arith, (turned stack₃ frames₃ (Ok next) turns_to).less, pauses.fewer)

        pub drove_more : (next : Registers)
            → ((cs : List ℕ) → Rested file index m cs stack₂ frames₁ t why
            → Turned file m cs stack₂ frames₁ t why stack₃ frames₃ (Ok next))
            → Drove file m cells stack frames r cells₂ stack₃ frames₃ next
        drove_more next turns_to = record {
          spared = spared₃ stack₃ frames₃ (Ok next) turns_to;
          spared_frames = spared_frames₃ stack₃ frames₃ (Ok next) turns_to;
          fewer = omega (arith, drove.fewer, turn_less next turns_to);
          leads = λ budget i fits ok.
              let x = gives_there stack₃ frames₃ (Ok next) turns_to budget i fits ok in
              (x.2.0, leads_trans x.1 x.2.1);
        }

        -- the run is at its end
        pub drove_ends : (end : End)
            → ((cs : List ℕ) → Rested file index m cs stack₂ frames₁ t why
            → Turned file m cs stack₂ frames₁ t why stack₃ frames₃ (Err end))
            → Ends file m cells stack frames r cells₂ stack₃ frames₃ t end
        drove_ends end turns_to = record {
          spared = spared₃ stack₃ frames₃ (Err end) turns_to;
          spared_frames = spared_frames₃ stack₃ frames₃ (Err end) turns_to;
          fewer = omega (arith, drove.fewer, pauses.fewer);
          ends = λ budget i fits ok.
              let x = gives_there stack₃ frames₃ (Err end) turns_to budget i fits ok in
              let y = leads_trans x.1 x.2.0 in (
                x.0,
                frames_in frames₃ t.depth,
                record {
                  standing = y.standing;
                  answers = answered file m budget _ cells₂ stack₃ t x.0 (frames_in frames₃ t.depth) y.standing y.same end x.2.1;
                },
              );
        }
