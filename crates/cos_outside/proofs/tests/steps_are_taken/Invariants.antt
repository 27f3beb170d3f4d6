use Rattle.cos_outside.proofs.tests.steps_are_taken.Given as goal

-- the ledger is the one that the blank stands for
abbrev pub ghosts-take_steps : goal.ghosts-take_steps
ghosts-take_steps a = record { name = a.blank.name; parts = a.blank.parts }
