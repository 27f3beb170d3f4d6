-- Entries of a kind, list by list.
use Rattle.std.proofs.Common.{◌≡◌, ◌+◌, ◌<◌, ◌∙◌, ℕ, Bool, List, length, take, get_or, ap, sym}
use Rattle.std.specs.Prelude.{count_by}
use Rattle.std.proofs.lemmas.List.Sums.{sum_by_more}
use Rattle.list_entries.specs.declared.entry.Entry.{Entry}
use Rattle.list_entries.specs.declared.entry.ListRead.{ListRead}
use Rattle.hide_report.specs.Texts.{count_of}

-- those of one more list
pub count_of_more : (p : Entry → Bool) (lists : List ListRead) (i : ℕ) (list : ListRead) (entries : List Entry) (count : ℕ) →
    i < length lists → list ≡ get_or lists i list → entries ≡ list.entries → count ≡ count_by p entries →
    count_of p (take i lists) + count ≡ count_of p (take (i + 1) lists)
count_of_more p lists i list entries count within is same counted =
    ap (λ n. count_of p (take i lists) + n) (counted ∙ ap (count_by p) same ∙ ap (λ (l : ListRead). count_by p l.entries) is)
    ∙ sym (sum_by_more (λ (l : ListRead). count_by p l.entries) lists i list within)
