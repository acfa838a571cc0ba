use Rattle.std.proofs.Common.{[]}
use Rattle.std.proofs.lemmas.Result.{err_from_is_err_and}
use Rattle.fut_aliases.specs.Values.{of_type}
use Rattle.uniqueness.specs.Answers.{no_memory}
use Rattle.uniqueness.specs.Held.{here_of}
use Rattle.alias_program.specs.Program.{sub_of}
use Rattle.alias_types.specs.Kinds.{kinds_of}
use Rattle.alias_operations.proofs.OperateForms.{not_empty, updated_done, updated_stop}
use Rattle.alias_operations.proofs.operations.updated.Goals as goal

pub returns-in_default : goal.returns-in_default
returns-in_default c = λ N scope. no_memory

pub returns-then-is_empty : goal.returns-then-is_empty
returns-then-is_empty c = λ N scope. no_memory

pub returns-in_err-update : goal.returns-in_err-update
returns-in_err-update c =
    let p = err_from_is_err_and c.from_residual.result c.from_residual.ensures.1 in
    rw (p.1, p.2) (λ N scope. updated_stop N (kinds_of c.args.program.now.kinds.now) (sub_of c.args.program.now.types.now) (here_of scope c.args.here.now) c.args.node c.args.mark c.args.held.now c.split_at.result.1.now _ (not_empty c.args.held.now _ c.is_empty.ensures c.if-is_empty.false) c.split_at.ensures.back c.args.losses.now c.update.new.losses _
    (c.in_err-update.ensures scope (of_type (kinds_of c.args.program.now.kinds.now) [] (sub_of c.args.program.now.types.now c.args.node))))

pub returns : goal.returns
returns c = λ N scope. updated_done N (kinds_of c.args.program.now.kinds.now) (sub_of c.args.program.now.types.now) (here_of scope c.args.here.now) c.args.node c.args.mark c.args.held.now c.split_at.result.1.now _ (not_empty c.args.held.now _ c.is_empty.ensures c.if-is_empty.false) c.split_at.ensures.back c.args.losses.now c.update.new.losses c.in-Ok.made c.in-Ok.ensures
    (c.in_ok-update.ensures scope (of_type (kinds_of c.args.program.now.kinds.now) [] (sub_of c.args.program.now.types.now c.args.node)))
