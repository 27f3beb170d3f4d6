-- The page and the script of small drills.
use Rattle.std.specs.Prelude.{◌≡◌, codes, refl}
use Rattle.std.specs.Fmt.{digits}
use Rattle.command_meaning.specs.Generator.{drill_page, drill_script}

-- the third link is the first ad
three_blocks : drill_page 3
    ≡ codes "<div class=\"row\" id=\"r1\"><a class=\"ok\">t1</a><p>text 1</p></div><div class=\"row\" id=\"r2\"><a class=\"ok\">t2</a><p>text 2</p></div><div class=\"row\" id=\"r3\"><a class=\"ad\">t3</a><p>text 3</p></div>"
unfolding digits
three_blocks = refl

four_lines : drill_script 4 ≡ codes "attr 2 class hit\nmove 6 0 0\nattr 12 class gone\ntext 20 text 7\n"
unfolding digits
four_lines = refl
