use Rattle.std.proofs.Common.{◌∙◌, ◌&&◌, List, map, ap}
use Rattle.page_tree.proofs.Members.{is_in-filter}
use Rattle.generic_tables.specs.declared.filters.Entry.{Entry}
use Rattle.generic_tables.specs.Carried.{key_in}
use Rattle.generic_tables.specs.FilterTables.{chains_at, fits, has_number, stands_at}
use Rattle.generic_tables.proofs.Filing.{found}
use Rattle.generic_tables.proofs.filters.FilterTable.filters_for.Goals as goal

pub returns : goal.returns
returns c = λ f.
    let filters = c.args.active.now in
    let k = key_in c.args.key in
    is_in-filter (fits filters k) (map (λ (e : Entry). e.filter) c.at_number.result.now) f
    ∙ ap (λ b. b && fits filters k f)
    (c.at_number.ensures f ∙ ap (λ (es : List Entry). stands_at es c.number_of.result f) c.as_slice.ensures.value ∙ c.requires.stands c.number_of.result f
    ∙ ap (has_number (chains_at filters f)) c.number_of.ensures)
    ∙ found filters k f
