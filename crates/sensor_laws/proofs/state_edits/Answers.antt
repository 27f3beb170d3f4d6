-- Each kind, proved in `FromEdits`.
use Rattle.sensor_laws.proofs.FromEdits.{attr_set, attr_dropped, text_set, taken_out, fragment_came, node_moved, path_set}
use Rattle.sensor_laws.proofs.state_edits.Goals as goal

pub returns : goal.returns
returns c = record {
  attr_set = attr_set;
  attr_dropped = attr_dropped;
  text_set = text_set;
  taken_out = taken_out;
  fragment_came = fragment_came;
  node_moved = node_moved;
  path_set = path_set;
}
