use Rattle.type_infer.proofs.Layers.{made_fixed, made_general}
use Rattle.type_infer.proofs.types.general_type_at.Goals as goal

pub returns-then-root-eq0-clause-made : goal.returns-then-root-eq0-clause-made
returns-then-root-eq0-clause-made c = made_fixed c.args.inference.now.nodes c.args.node c.root_of-root.result c.root_of-root.ensures.root c.if-root-eq0.true c.with_default.result c.with_default.ensures

pub returns-else-root-eq0-clause-made : goal.returns-else-root-eq0-clause-made
returns-else-root-eq0-clause-made c = made_general c.args.inference.now.nodes c.args.node c.root_of-root.result c.root_of-root.ensures.root c.if-root-eq0.false
