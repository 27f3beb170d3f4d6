use Rattle.matching_tests.proofs.bad_input.walks_down_and_on_are_answered.Given as goal

-- each ledger is the one that its blank stands for
abbrev pub ghosts-is_selected-L-Ledger : goal.ghosts-is_selected-L-Ledger
ghosts-is_selected-L-Ledger g a = record { name = a.checks.name; parts = a.checks.parts }

abbrev pub ghosts-is_selected-P-Ledger : goal.ghosts-is_selected-P-Ledger
ghosts-is_selected-P-Ledger g a = record { name = a.parts.name; parts = a.parts.parts }
