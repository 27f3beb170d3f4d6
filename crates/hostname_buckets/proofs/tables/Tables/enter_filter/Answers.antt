use Rattle.std.proofs.Common.{◌∙◌, ap, sym, take}
use Rattle.std.proofs.lemmas.List.Folds.{list_all_more}
use Rattle.hostname_buckets.specs.Held.{item_stands}
use Rattle.hostname_buckets.proofs.Entering.{and_both, grows_through, items_stay}
use Rattle.hostname_buckets.proofs.tables.Tables.enter_filter.Goals as goal

pub items-preserved : goal.items-preserved
items-preserved c =
    let old = c.items.self in
    let new = c.enter_item.new.self in
    let n = c.args.number in
    let items = c.items-item-items.result.now in
    let grows = c.in_ok-enter_item.ensures.grows in
    record {
      entered = list_all_more (item_stands new n) items c.items.item-index c.item-item.result c.items-test.true
          ∙ and_both _ _ (items_stay old new grows n (take c.items.item-index items) c.items.invariant.entered)
          (ap (item_stands new n) (sym c.item-item.is) ∙ c.in_ok-enter_item.ensures.stands);
      rest = λ generic. grows.rest n (c.items.invariant.rest generic);
      grows = grows_through _ old new c.items.invariant.grows grows;
    }
