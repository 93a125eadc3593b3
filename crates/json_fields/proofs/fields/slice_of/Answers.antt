-- Proof obligations of `fields::slice_of`.
use Rattle.std.proofs.Common.{◌∙◌, ap, map, sym}
use Rattle.serde_json.specs.View.{view}
use Rattle.json_fields.proofs.Items.{listed}
use Rattle.json_fields.proofs.fields.slice_of.Goals as goal

pub returns : goal.returns
returns c = ap (map view) c.as_slice.ensures.value ∙ sym (listed (map view c.args.items.now.items))
