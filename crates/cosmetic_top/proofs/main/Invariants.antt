use Rattle.cosmetic_top.proofs.main.Given as goal

-- each count's ledger is the one that its blank stands for
abbrev pub ghosts-run_outside-L-Ledger : goal.ghosts-run_outside-L-Ledger
ghosts-run_outside-L-Ledger a = record { name = a.checks.name; parts = a.checks.parts }

abbrev pub ghosts-run_outside-P-Ledger : goal.ghosts-run_outside-P-Ledger
ghosts-run_outside-P-Ledger a = record { name = a.parts.name; parts = a.parts.parts }
