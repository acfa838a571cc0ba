use Rattle.std.proofs.Common.{ap, sym, ◌∙◌}
use Rattle.fut_blocks.proofs.Layers.{extent_of-Worth, extent_of-Nowhere}
use Rattle.unfold.proofs.Mirror.{known_scalar, known_tuple, known_record, known_function, known_primitive}
use Rattle.unfold.specs.Telling.{known_worth}
use Rattle.told_rows.proofs.knowns.known_worth.Goals as goal

pub returns-in-Scalar : goal.returns-in-Scalar
returns-in-Scalar c = extent_of-Worth _ ∙ sym (ap known_worth (known_scalar c.args.known.now _ c.in-Scalar.is))

pub returns-in-Tuple : goal.returns-in-Tuple
returns-in-Tuple c = extent_of-Nowhere ∙ sym (ap known_worth (known_tuple c.args.known.now _ c.in-Tuple.is))

pub returns-in-Record : goal.returns-in-Record
returns-in-Record c = extent_of-Nowhere ∙ sym (ap known_worth (known_record c.args.known.now _ c.in-Record.is))

pub returns-in-Function : goal.returns-in-Function
returns-in-Function c = extent_of-Nowhere ∙ sym (ap known_worth (known_function c.args.known.now _ c.in-Function.is))

pub returns-in-Primitive : goal.returns-in-Primitive
returns-in-Primitive c = extent_of-Nowhere ∙ sym (ap known_worth (known_primitive c.args.known.now _ _ _ c.in-Primitive.is))
