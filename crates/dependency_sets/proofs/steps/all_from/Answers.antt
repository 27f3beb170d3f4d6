use Rattle.dependency_sets.specs.Reaching.{one_step}
use Rattle.dependency_sets.proofs.Closing.{all_from}
use Rattle.dependency_sets.proofs.Leading.{led_places}
use Rattle.dependency_sets.proofs.steps.all_from.Goals as goal

pub close-requires : goal.close-requires
close-requires c = led_places c.args.dom.now (one_step c.args.near) c.args.from.now c.in_ok-to.to c.in_ok-to.ensures

pub returns : goal.returns
returns c =
    all_from c.args.dom.now c.is_tree.ensures c.args.near c.args.from.now c.in_ok-to.to c.close.new.found c.requires c.in_ok-to.ensures c.in_ok-close.ensures
