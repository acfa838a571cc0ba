use Rattle.elab_nodes.specs.Built.{no_memory0}
use Rattle.elab_nodes.proofs.Parts.{path_next_at}
use Rattle.elab_nodes.proofs.uses.path.Goals as goal

pub loop-name-preserved : goal.loop-name-preserved
loop-name-preserved c = path_next_at c.args.at _ c.args.fields.now c.loop-name.name-index _ _ _ c.loop-name-test.true c.loop-name.invariant c.field-made.ensures

pub returns-then-fields-gt-MOST_FIELDS : goal.returns-then-fields-gt-MOST_FIELDS
returns-then-fields-gt-MOST_FIELDS c = no_memory0
