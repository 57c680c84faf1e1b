-- A build and a call are read by their operand; nothing else makes an entry.
use Rattle.std.proofs.Common.{◌≡◌, ℕ, ◌<◌, List, Some, None, refl, ap, ◌∙◌, arith}
use Rattle.rules.specs.declared.records.Instruction.{Instruction}
use Rattle.rules.specs.declared.records.Instruction.TheVariants.{Load, Build, Call, Branch, Return, Stop}
use Rattle.rules.specs.Base.{byte_at}
use Rattle.rules.specs.Container.{payload}
use Rattle.sizing.specs.Routines.{maker_in, built_maker}
use Rattle.sizing.proofs.routines.maker_of.Goals.{After-from-in-Call}
use Rattle.sizing.proofs.routines.maker_of.Goals as goal

no_maker : (bytes : List ℕ) (ins : Instruction) → ((x : ℕ) → ins ≡ Build x → ⊥) → ((x : ℕ) → ins ≡ Call x → ⊥) → None ≡ maker_in bytes ins
no_maker bytes (Load a) k h = refl
no_maker bytes (Build c) k h = absurd (k c refl)
no_maker bytes (Call g) k h = absurd (h g refl)
no_maker bytes (Branch c b) k h = refl
no_maker bytes Return k h = refl
no_maker bytes Stop k h = refl

-- the function that is called
called : (c : After-from-in-Call) → c.from-in-Call.result < byte_at (payload c.args.file.now) 3
called c = rw c.from-in-Call.ensures (rw c.in-Call.is at c.requires.1)

pub build_maker-requires : goal.build_maker-requires
build_maker-requires c =
    let h : c.in-Build.c < byte_at (payload c.args.file.now) 2 = rw c.in-Build.is at c.requires.1 in
    (c.requires.0.verified, rw c.from.ensures (c.requires.0.there.constructor _ h).0)

pub bounds-heads-from : goal.bounds-heads-from
bounds-heads-from c = omega (arith, called (goal.at.bounds-heads-from c).After-from-in-Call, c.requires.0.few)

pub routine_at-f-requires : goal.routine_at-f-requires
routine_at-f-requires c =
    let r = c.requires.0 in
    let h = called (goal.at.routine_at-f-requires c).After-from-in-Call in
    (r.verified, rw (r.placed _ h) (r.there.function _ h))

pub returns-in-Build : goal.returns-in-Build
returns-in-Build c = rw c.in-Build.is (ap Some (c.build_maker.ensures ∙ ap (built_maker (payload c.args.file.now)) c.from.ensures))

pub returns-in-Call : goal.returns-in-Call
returns-in-Call c =
    let r = rw (c.requires.0.placed _ (called (goal.at.returns-in-Call c).After-from-in-Call)) at c.routine_at-f.ensures in
    rw (c.in-Call.is, ← c.from-in-Call.ensures, r.arity, r.bound) refl

pub returns-in_default : goal.returns-in_default
returns-in_default c = no_maker (payload c.args.file.now) c.args.ins c.in_default.not-Build c.in_default.not-Call
