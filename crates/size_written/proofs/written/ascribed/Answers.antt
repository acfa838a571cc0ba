use Rattle.std.proofs.Common.{refl}
use Rattle.std.proofs.lemmas.Result.{err_from_is_err_and}
use Rattle.fut_flat.specs.Erased.{type_of}
use Rattle.size_arena.specs.Trees.{size_of}
use Rattle.size_written.proofs.AnswerForms.{ascribes, ascribes_not}
use Rattle.size_written.proofs.written.ascribed.Goals as goal

pub returns-in_err-has_sizes : goal.returns-in_err-has_sizes
returns-in_err-has_sizes c =
    let p = err_from_is_err_and c.from_residual.result c.from_residual.ensures.1 in
    rw (p.1, p.2) (λ N k. ascribes_not N (type_of c.args.written.now) (size_of c.args.tree.now) c.args.at _ (c.in_err-has_sizes.ensures N k) _ refl)

pub returns : goal.returns
returns c = λ N k. ascribes N (type_of c.args.written.now) (size_of c.args.tree.now) c.args.at _ (c.in_ok-has_sizes.ensures N k) _ c.args.tree refl refl
