-- The page, the list and the script of a drill, by its size.
use Rattle.std.specs.Prelude.{ℕ, zero, suc, ◌-◌, ◌*◌, ◌%◌, ◌==◌, List, [], ◌++◌, codes, if◌then◌else◌}
use Rattle.std.specs.Fmt.{decimal}

-- every third link is an ad
abbrev pub class_of : ℕ → List ℕ
class_of i = if i % 3 == 0 then codes "ad" else codes "ok"

-- the i-th block: a row with a link and a text. Its nodes are numbered 5i-4 (div), 5i-3 (a), 5i-2 (text), 5i-1 (p) and 5i (text).
abbrev pub block : ℕ → List ℕ
block i = codes "<div class=\"row\" id=\"r" ++ decimal i ++ codes "\"><a class=\"" ++ class_of i ++ codes "\">t" ++ decimal i
    ++ codes "</a><p>text " ++ decimal i ++ codes "</p></div>"

-- the page: the blocks 1 to n, without anything between them
abbrev pub drill_page : ℕ → List ℕ
drill_page zero = []
drill_page (suc n) = drill_page n ++ block (suc n)

abbrev pub drill_list : List ℕ
drill_list = codes "##.ad\n##.row:has(> .ad)\n##p:has-text(text 7)\n##.gone:remove()\n##.hit + p\n"

-- line i of the script, by the rest of i divided by 4
abbrev pub drill_line : ℕ → List ℕ
drill_line i =
    if i % 4 == 1 then codes "attr " ++ decimal (5 * i - 3) ++ codes " class hit"
    else if i % 4 == 2 then codes "move " ++ decimal (5 * i - 4) ++ codes " 0 0"
    else if i % 4 == 3 then codes "attr " ++ decimal (5 * i - 3) ++ codes " class gone"
    else codes "text " ++ decimal (5 * i) ++ codes " text 7"

-- the lines 1 to n
abbrev pub drill_script : ℕ → List ℕ
drill_script zero = []
drill_script (suc n) = drill_script n ++ drill_line (suc n) ++ codes "\n"
