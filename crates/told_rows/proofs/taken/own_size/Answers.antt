use Rattle.std.proofs.Common.{ap, sym, ◌∙◌}
use Rattle.size_arena.specs.Trees.{dim_of, size_of}
use Rattle.told_rows.proofs.TakenForms.{no_parameter, hole_own, open_own, level_own, built_own, fun_own}
use Rattle.told_rows.proofs.taken.own_size.Goals as goal

pub returns-then-function-eq0 : goal.returns-then-function-eq0
returns-then-function-eq0 c = λ Z w. no_parameter Z (dim_of c.args.wanted) c.args.tree.now c.args.function.now.parameters.now _ c.if-function-eq0.true

pub returns-in_ok-own-in-Fun : goal.returns-in_ok-own-in-Fun
returns-in_ok-own-in-Fun c = λ Z w. fun_own Z (dim_of c.args.wanted) c.args.tree.now c.args.function.now.parameters.now _ _ _ _ _ _ (size_of c.in_ok-own-in-Fun.own.now) c.beside.result c.in-Fun.is c.if-function-eq0.false c.in_ok-node-in-Fun.ensures (c.in_ok-own-in-Fun.ensures ∙ sym (w.nodes c.in_ok-node-in-Fun.node)) c.beside.ensures

pub returns-in-Hole : goal.returns-in-Hole
returns-in-Hole c = λ Z w. hole_own Z (dim_of c.args.wanted) c.args.tree.now c.args.function.now.parameters.now _ _ c.in-Hole.is

pub returns-in-Open : goal.returns-in-Open
returns-in-Open c = λ Z w. open_own Z (dim_of c.args.wanted) c.args.tree.now c.args.function.now.parameters.now _ _ _ _ c.in-Open.is

pub returns-in-Level : goal.returns-in-Level
returns-in-Level c = λ Z w. level_own Z (dim_of c.args.wanted) c.args.tree.now c.args.function.now.parameters.now _ _ _ _ c.in-Level.is

pub returns-in-Built : goal.returns-in-Built
returns-in-Built c = λ Z w. built_own Z (dim_of c.args.wanted) c.args.tree.now c.args.function.now.parameters.now _ _ _ _ c.in-Built.is
