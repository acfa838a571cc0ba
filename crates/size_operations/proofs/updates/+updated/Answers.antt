use Rattle.std.proofs.Common.{refl}
use Rattle.std.proofs.lemmas.List.{take_rest}
use Rattle.std.proofs.lemmas.Result.{err_from_is_err_and}
use Rattle.size_arena.specs.Trees.{size_of}
use Rattle.size_program.specs.Answers.{answers, no_memory}
use Rattle.size_operations.proofs.IndexForms.{hole_level, open_level, built_level, fun_level}
use Rattle.size_operations.proofs.UpdateForms.{updated_none, updated_last, updated_more, updated_other}
use Rattle.size_operations.proofs.updates.+updated.Goals as goal

pub returns-then-sizes-eq0 : goal.returns-then-sizes-eq0
returns-then-sizes-eq0 t c = answers (updated_none c.args.at c.args.parts.now c.args.sizes.now (size_of c.args.tree.now) c.requires.same c.if-sizes-eq0.true) refl

pub returns-then-sizes-eq1 : goal.returns-then-sizes-eq1
returns-then-sizes-eq1 t c = rw (updated_last c.args.at c.args.parts.now c.args.sizes.now c.index-sizes-0.result (size_of c.args.tree.now) c.requires.same c.if-sizes-eq1.true, ← c.index-sizes-0.is) c.agrees.ensures

pub returns-in_err-next-in-Level : goal.returns-in_err-next-in-Level
returns-in_err-next-in-Level t c = let p = err_from_is_err_and c.from_residual.result c.from_residual.ensures.1 in rw (p.1, p.2) no_memory

pub returns-in_ok-next-in-Level : goal.returns-in_ok-next-in-Level
returns-in_ok-next-in-Level t c = rw (
  updated_more c.args.at c.args.parts.now c.args.sizes.now _ c.args.tree.now c.in-Level.height c.in-Level.size c.in-Level.row c.in_ok-next-in-Level.next c.in-Level.is c.requires.same c.if-sizes-eq0.false c.if-sizes-eq1.false c.in_ok-next-in-Level.ensures,
  ← take_rest c.args.parts.now 1,
  ← take_rest c.args.sizes.now 1,
) c.updated.ensures

pub returns-in-Hole : goal.returns-in-Hole
returns-in-Hole t c = answers (updated_other c.args.at c.args.parts.now c.args.sizes.now _ c.requires.same c.if-sizes-eq0.false c.if-sizes-eq1.false (hole_level c.args.tree.now _ c.in-Hole.is)) refl

pub returns-in-Open : goal.returns-in-Open
returns-in-Open t c = answers (updated_other c.args.at c.args.parts.now c.args.sizes.now _ c.requires.same c.if-sizes-eq0.false c.if-sizes-eq1.false (open_level c.args.tree.now _ _ _ c.in-Open.is)) refl

pub returns-in-Built : goal.returns-in-Built
returns-in-Built t c = answers (updated_other c.args.at c.args.parts.now c.args.sizes.now _ c.requires.same c.if-sizes-eq0.false c.if-sizes-eq1.false (built_level c.args.tree.now _ _ _ c.in-Built.is)) refl

pub returns-in-Fun : goal.returns-in-Fun
returns-in-Fun t c = answers (updated_other c.args.at c.args.parts.now c.args.sizes.now _ c.requires.same c.if-sizes-eq0.false c.if-sizes-eq1.false (fun_level c.args.tree.now _ _ _ _ c.in-Fun.is)) refl
