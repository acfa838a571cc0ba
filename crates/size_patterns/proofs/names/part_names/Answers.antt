use Rattle.std.proofs.Common.{◌∙◌, map}
use Rattle.fut_flat.specs.Erased.{pattern_of, patterns}
use Rattle.fut_sizes.specs.Sizing.{all_part_names}
use Rattle.size_patterns.proofs.NameForms.{part_names_more, part_names_end}
use Rattle.size_patterns.proofs.names.part_names.Goals as goal

pub loop-parameter-preserved : goal.loop-parameter-preserved
loop-parameter-preserved c = part_names_more pattern_of c.args.parameters.now c.loop-parameter.parameter-index _ (all_part_names (patterns (map pattern_of c.args.parameters.now))) c.loop-parameter.made.items c.put_part_names.new.made.items c.loop-parameter-test.true c.loop-parameter.invariant c.in_ok-put_part_names.ensures

pub returns : goal.returns
returns c = c.into_bump_slice.ensures ∙ part_names_end pattern_of c.args.parameters.now c.loop-parameter.parameter-index (all_part_names (patterns (map pattern_of c.args.parameters.now))) c.loop-parameter.made.items c.loop-parameter-test.false c.loop-parameter.invariant
