use Rattle.std.proofs.Common.{◌≡◌, drop}
use Rattle.std.specs.Cmp.Lexicographic.{slice_cmp}
use Rattle.std.specs.Ordering.{nat_cmp}
use Rattle.std.specs.Str.{str_to_ascii_lowercase}
use Rattle.html_tree.proofs.spelled.compare.Given as goal

abbrev pub invariant-loop-i : goal.invariant-loop-i
invariant-loop-i l =
    slice_cmp nat_cmp (drop l.i (str_to_ascii_lowercase l.a)) (drop l.i (str_to_ascii_lowercase l.b))
    ≡ slice_cmp nat_cmp (str_to_ascii_lowercase l.a) (str_to_ascii_lowercase l.b)
