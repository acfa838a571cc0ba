use Rattle.std.proofs.Common.{length}
use Rattle.type_infer.specs.Inferring.{Told_by}
use Rattle.typed_programs.specs.Typed.{Nodes_tell, Typed_by}
use Rattle.typed_programs.proofs.Reading.{if_ok}
use Rattle.typed_programs.proofs.TypedLaws.{program_typed}
use Rattle.typed_programs.proofs.integers.integer_types.Goals as goal

pub returns-clause-ok : goal.returns-clause-ok
returns-clause-ok c = if_ok (λ integers. Nodes_tell c.args.inference.now.nodes integers (length c.args.inference.now.nodes)) (λ integers. Told_by (Typed_by c.args.flat.now c.args.inference.now integers) c.args.inference.now) c.integers_of.result
    (λ integers h. program_typed c.args.flat.now c.args.inference.now integers c.requires.built c.requires.infers h) c.integers_of.ensures.ok
