use Rattle.std.proofs.Common.{◌≡◌, Some, subst}
use Rattle.fut_flat.specs.Erased.{pattern_of}
use Rattle.fut_sizes.specs.Sizing.{entered, own_sizes}
use Rattle.size_arena.specs.Trees.{size_of}
use Rattle.size_program.specs.Answers.{Answers, no_memory}
use Rattle.size_program.specs.Program.{sub_of}
use Rattle.size_patterns.specs.Bound.{Entered_one}
use Rattle.size_patterns.proofs.EnterForms.{rest_open}
use Rattle.size_patterns.proofs.entering.enter_open.Goals as goal

pub returns-in-Ok : goal.returns-in-Ok
returns-in-Ok c = λ N σ E k known. subst (λ z. Answers (Entered_one (λ τ. τ ≡ σ) E.parameters) (entered N (sub_of c.args.program.now.types.now) (pattern_of c.args.pattern.now) c.args.node (own_sizes N (sub_of c.args.program.now.types.now) c.args.node) (Some z) σ E) c.enter_own.result)
    (rest_open (pattern_of c.args.pattern.now) c.args.node c.args.arrow c.value_name.result c.value_name.ensures (size_of c.in-Ok.rest.now) c.in-Ok.ensures) (c.enter_own.ensures N σ E k known)

pub returns-in-Err : goal.returns-in-Err
returns-in-Err c = λ N σ E k known. no_memory
