use Rattle.std.proofs.Common.{◌≡◌, true, take}
use Rattle.std.specs.List.{list_all}
use Rattle.filter_scope.specs.Scopes.{is_generic}
use Rattle.hostname_buckets.specs.Held.{Grows, has, item_stands}
use Rattle.hostname_buckets.proofs.tables.Tables.enter_filter.Given as goal

abbrev pub invariant-items : goal.invariant-items
invariant-items l = record {
  entered : list_all (item_stands l.self l.number) (take l.item-index l.item-items) ≡ true;
  rest : is_generic l.scope ≡ true → has l.self.rest l.number ≡ true;
  grows : Grows l.fn.self l.self;
}
