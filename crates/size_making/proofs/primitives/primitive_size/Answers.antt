use Rattle.fut_primitives.specs.Written.{written_of}
use Rattle.size_making.proofs.PrimitiveForms.{whole_size}
use Rattle.size_making.proofs.primitives.primitive_size.Goals as goal

pub returns : goal.returns
returns c =
    whole_size c.sized_type.result c.in-Ok.outside.now (written_of c.line_of.result.written.now) c.scalars_of.result.own c.scalars_of.result.from c.args.primitive
    c.in-Ok.ensures c.line_of.ensures.written c.scalars_of.ensures.own c.scalars_of.ensures.from c.sized_type.ensures
