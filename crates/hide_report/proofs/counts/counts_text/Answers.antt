use Rattle.std.proofs.Common.{◌+◌, ◌∙◌, ap}
use Rattle.hide_report.specs.Texts.{is_filter, is_exception, is_page_option}
use Rattle.hide_report.proofs.Counting.{count_of_more}
use Rattle.hide_report.proofs.counts.counts_text.Goals as goal

-- the entries of one more list
pub lists-preserved : goal.lists-preserved
lists-preserved c = record {
  filters = c.in_ok-filters.ensures ∙ ap (λ n. n + c.count_filters.result) c.lists.invariant.filters
      ∙ count_of_more is_filter c.args.lists.now c.lists.list-index c.list-item.result c.as_slice-entries.result.now c.count_filters.result
      c.lists-test.true c.list-item.is c.as_slice-entries.ensures c.count_filters.ensures;
  exceptions = c.in_ok-exceptions.ensures ∙ ap (λ n. n + c.count_exceptions.result) c.lists.invariant.exceptions
      ∙ count_of_more is_exception c.args.lists.now c.lists.list-index c.list-item.result c.as_slice-entries.result.now c.count_exceptions.result
      c.lists-test.true c.list-item.is c.as_slice-entries.ensures c.count_exceptions.ensures;
  options = c.in_ok-options.ensures ∙ ap (λ n. n + c.count_options.result) c.lists.invariant.options
      ∙ count_of_more is_page_option c.args.lists.now c.lists.list-index c.list-item.result c.as_slice-entries.result.now c.count_options.result
      c.lists-test.true c.list-item.is c.as_slice-entries.ensures c.count_options.ensures;
}
