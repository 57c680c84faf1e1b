-- It is the entry above with all of the tables.
use Rattle.panel.proofs.bedrafoly_run.Goals as goal

pub returns : goal.returns
returns c = c.bedrafoly_run_within.ensures
