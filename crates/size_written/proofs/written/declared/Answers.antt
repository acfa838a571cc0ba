use Rattle.std.proofs.Common.{refl}
use Rattle.std.proofs.lemmas.Result.{err_from_is_err_and}
use Rattle.fut_flat.specs.Erased.{type_of}
use Rattle.size_arena.specs.Answers.{no_memory}
use Rattle.size_arena.specs.Trees.{size_of}
use Rattle.size_written.proofs.AnswerForms.{declares, declares_not}
use Rattle.size_written.proofs.written.declared.Goals as goal

pub returns-in_err-has_sizes : goal.returns-in_err-has_sizes
returns-in_err-has_sizes c =
    let p = err_from_is_err_and c.from_residual.result c.from_residual.ensures.1 in
    rw (p.1, p.2) (λ N k. declares_not N (type_of c.args.written.now) (size_of c.args.tree.now) c.args.at _ (c.in_err-has_sizes.ensures N k) c.args.node _ refl)

pub returns-in_err-made : goal.returns-in_err-made
returns-in_err-made c =
    let p = err_from_is_err_and c.from_residual-in_err-made.result c.from_residual-in_err-made.ensures.1 in
    rw (p.1, p.2) (λ N k. no_memory)

pub returns : goal.returns
returns c = λ N k. declares N (type_of c.args.written.now) (size_of c.args.tree.now) c.args.at _ (c.in_ok-has_sizes.ensures N k) c.args.node _ c.in_ok-made.made refl (c.in_ok-made.ensures N k)
