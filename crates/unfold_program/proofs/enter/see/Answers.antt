use Rattle.std.proofs.Common.{ap}
use Rattle.unfold.proofs.Mirror.{known_function, known_primitive}
use Rattle.unfold.specs.Telling.{is_function}
use Rattle.unfold_parts.proofs.Forms.{form_data}
use Rattle.unfold_program.proofs.Entering.{functions_pass, data_enters}
use Rattle.unfold_program.proofs.enter.see.Goals as goal

pub returns-in-Function-clause-ok : goal.returns-in-Function-clause-ok
returns-in-Function-clause-ok c = functions_pass _ _ c.args.known.now c.args.seen (ap is_function (known_function c.args.known.now _ c.in-Function.is))

pub returns-in-Primitive-clause-ok : goal.returns-in-Primitive-clause-ok
returns-in-Primitive-clause-ok c = functions_pass _ _ c.args.known.now c.args.seen (ap is_function (known_primitive c.args.known.now _ _ _ c.in-Primitive.is))

pub returns-in-Ok-clause-ok : goal.returns-in-Ok-clause-ok
returns-in-Ok-clause-ok c = data_enters _ _ c.args.known.now c.args.seen c.in-Ok.next (form_data c.args.known.now c.in_default.not-Function c.in_default.not-Primitive) c.in-Ok.ensures
