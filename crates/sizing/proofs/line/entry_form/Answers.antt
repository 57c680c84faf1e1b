-- A variable alone, taken through the splits.
use Rattle.sizing.proofs.line.entry_form.Goals as goal

pub carry-requires : goal.carry-requires
carry-requires c =
    (c.requires.0, rw (c.unit.ensures, c.from-v.ensures) c.requires.1.carrying)

pub returns : goal.returns
returns c = rw (c.carry.ensures, c.unit.ensures, c.from-v.ensures) at c.single.ensures
