use Rattle.matching_tests.proofs.small_page.siblings_share_what_is_found_out.Given as goal

-- each ledger is the one that its blank stands for
abbrev pub ghosts-all_selected-L-Ledger : goal.ghosts-all_selected-L-Ledger
ghosts-all_selected-L-Ledger g a = record { name = a.checks.name; parts = a.checks.parts }

abbrev pub ghosts-all_selected-P-Ledger : goal.ghosts-all_selected-P-Ledger
ghosts-all_selected-P-Ledger g a = record { name = a.parts.name; parts = a.parts.parts }
