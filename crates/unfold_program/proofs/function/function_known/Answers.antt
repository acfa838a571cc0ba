use Rattle.std.proofs.Common.{map, ap, ◌∙◌, refl, slice_index_or}
use Rattle.fut_flat.specs.Erased.{pattern_of, patterns, term_of}
use Rattle.unfold.specs.Knowns.{Function_known}
use Rattle.unfold.specs.declared.known.Function.{Function}
use Rattle.unfold.proofs.Mirror.{known_function}
use Rattle.unfold_program.specs.Answers.{scope_in}
use Rattle.unfold_program.proofs.function.function_known.Goals as goal

pub returns-in-Ok-clause-ok : goal.returns-in-Ok-clause-ok
returns-in-Ok-clause-ok c = known_function _ _ refl ∙ ap (λ (f : Function). Function_known (patterns (map pattern_of f.parameters.now)) (term_of f.body.now) f.first (scope_in f)) (c.index-cells-0.is ∙ ap (λ z. slice_index_or z 0 c.index-cells-0.result) c.in-Ok.ensures)
