use Rattle.typed_programs.proofs.FormLaws.{definitions_formed, definitions_were}
use Rattle.typed_programs.proofs.built.is_built.Goals as goal

pub returns-then-are_built : goal.returns-then-are_built
returns-then-are_built c = record {
  built = λ r. record {
    formed = definitions_formed c.args.flat.now.definitions.now (c.are_built.ensures.built c.if-are_built.true);
    rising = c.numbers_rise.ensures.built r;
  };
  unbuilt = λ r h. c.numbers_rise.ensures.unbuilt r h.rising;
}

pub returns-else-are_built-clause-unbuilt : goal.returns-else-are_built-clause-unbuilt
returns-else-are_built-clause-unbuilt c r h = c.are_built.ensures.unbuilt c.if-are_built.false (definitions_were c.args.flat.now.definitions.now h.formed)
