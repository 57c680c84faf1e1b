-- The loop over the top frame's steps.
use Prim.Native.Nat.{ℕ, ◌≤◌}
use mathlib.Core.Path.{refl, ◌∙◌}
use mathlib.Core.List.{List}
use Rattle.std.specs.Prelude.{Ok, Err}
use native.Mathlib.Omega.{arith}
use Rattle.store.specs.declared.frames.Frame.{Frame}
use Rattle.store.specs.declared.limits.Limits.{Limits}
use Rattle.store.proofs.RefLaws.{kept_refl, kept_trans}
use Rattle.store.proofs.CellLaws.{cells_kept_refl, cells_kept_trans, cells_kept_length, room_kept}
use Rattle.steps.specs.Stands.{Lent, Standing, Spared, LeadsTo}
use Rattle.steps.specs.Steps.{counted, Stepped}
use Rattle.steps.specs.Pauses.{Ready, Pauses}
use Rattle.steps.specs.declared.state.Registers.{Registers}
use Rattle.steps.specs.declared.state.Rest.{Rest}
use Rattle.steps.specs.declared.state.Rest.TheVariants.{Spent}

pub spared_trans : (m : Limits) (a b a₁ b₁ a₂ b₂ : List ℕ) → Spared m a b a₁ b₁ → Spared m a₁ b₁ a₂ b₂ → Spared m a b a₂ b₂
spared_trans m a b a₁ b₁ a₂ b₂ x y = record {
  of_cells = cells_kept_trans m.cells a a₁ a₂ x.of_cells y.of_cells;
  of_stack = kept_trans m.stack b b₁ b₂ x.of_stack y.of_stack;
}

spared_lent : (m : Limits) (a b a₁ b₁ : List ℕ) → Spared m a b a₁ b₁ → Lent m a b → Lent m a₁ b₁
spared_lent m a b a₁ b₁ x l = record {
  cell_room = room_kept a a₁ m.cells (cells_kept_length m.cells a a₁ x.of_cells) l.cell_room;
  few_cells = l.few_cells;
  stack_room = omega (arith, x.of_stack.len, l.stack_room);
  few_places = l.few_places;
}

module _ {file : List ℕ} {m : Limits} {budget : ℕ} {a b a₁ b₁ a₂ b₂ : List ℕ} {r r₁ r₂ : Registers} {i i₁ i₂ : ℕ} {ws ws₁ ws₂ : List Frame}
  where
    pub leads_trans : LeadsTo file m budget a b r i ws a₁ b₁ r₁ i₁ ws₁ → LeadsTo file m budget a₁ b₁ r₁ i₁ ws₁ a₂ b₂ r₂ i₂ ws₂
        → LeadsTo file m budget a b r i ws a₂ b₂ r₂ i₂ ws₂
    leads_trans x y = record { standing = y.standing; fewer = omega (arith, x.fewer, y.fewer); same = x.same ∙ y.same }

-- some steps of the top frame were taken, whatever frames wait below it
pub record Went (file : List ℕ) (m : Limits) (cells stack : List ℕ) (r : Registers) (cells' stack' : List ℕ) (t : Registers) : Type 0 where
  pub spared : Spared m cells stack cells' stack'
  pub fewer : t.left ≤ r.left
  pub leads : (budget i : ℕ) (ws : List Frame) → r.left ≤ budget → Standing file m cells stack r i ws
      → (i' : ℕ) × LeadsTo file m budget cells stack r i ws cells' stack' t i' ws

module _ (file : List ℕ) (m : Limits) (cells stack : List ℕ) (r : Registers) where
  pub went_none : Went file m cells stack r cells stack r
  went_none = record {
    spared = record { of_cells = cells_kept_refl m.cells cells; of_stack = kept_refl m.stack stack };
    fewer = omega arith;
    leads = λ budget i ws fits ok. (i, record { standing = ok; fewer = omega arith; same = refl });
  }

  module _ (cells₁ stack₁ : List ℕ) (r₁ : Registers) (went : Went file m cells stack r cells₁ stack₁ r₁) where
    pub ready_again : Ready file m cells stack r → Ready file m cells₁ stack₁ r₁
    ready_again ready =
        let x = went.leads r.left ready.instruction ready.waiting (omega arith) ready.standing in
        record {
          parsed = ready.parsed;
          lent = spared_lent m cells stack cells₁ stack₁ went.spared ready.lent;
          instruction = x.0;
          waiting = ready.waiting;
          standing = x.1.standing;
        }

    pub pauses_spent : r₁.left ≤ 0 → Pauses file m cells stack r cells₁ stack₁ r₁ Spent
    pauses_spent none_left = record {
      spared = went.spared;
      fewer = went.fewer;
      leads = λ budget i ws fits ok. let x = went.leads budget i ws fits ok in (x.0, x.1, omega arith);
    }

    module _ (cells₂ stack₂ : List ℕ) where
      pub went_more : (t : Registers) → Stepped file m cells₁ stack₁ r₁ cells₂ stack₂ (Ok t)
          → Went file m cells stack r cells₂ stack₂ (counted t)
      went_more t step = record {
        spared = spared_trans m cells stack cells₁ stack₁ cells₂ stack₂ went.spared step.spared;
        fewer = omega (arith, went.fewer, step.left);
        leads = λ budget i ws fits ok.
            let x = went.leads budget i ws fits ok in
            let y = step.comes budget x.0 ws (omega (arith, went.fewer)) x.1.standing in
            (y.0, leads_trans x.1 y.1);
      }

      pub pauses_rest : (why : Rest) → Stepped file m cells₁ stack₁ r₁ cells₂ stack₂ (Err why)
          → Pauses file m cells stack r cells₂ stack₂ r₁ why
      pauses_rest why step = record {
        spared = spared_trans m cells stack cells₁ stack₁ cells₂ stack₂ went.spared step.spared;
        fewer = went.fewer;
        leads = λ budget i ws fits ok.
            let x = went.leads budget i ws fits ok in
            let y = step.comes budget x.0 ws (omega (arith, went.fewer)) x.1.standing in
            (x.0, leads_trans x.1 y.0, y.1);
      }
