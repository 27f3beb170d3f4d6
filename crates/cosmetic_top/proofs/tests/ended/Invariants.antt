use Rattle.cosmetic_top.proofs.tests.ended.Given as goal

-- each count's ledger is the one that its blank stands for
abbrev pub ghosts-ended_on-L-Ledger : goal.ghosts-ended_on-L-Ledger
ghosts-ended_on-L-Ledger a = record { name = a.checks.name; parts = a.checks.parts }

abbrev pub ghosts-ended_on-P-Ledger : goal.ghosts-ended_on-P-Ledger
ghosts-ended_on-P-Ledger a = record { name = a.parts.name; parts = a.parts.parts }
