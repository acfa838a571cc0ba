use Rattle.size_arena.specs.Trees.{free_of}
use Rattle.told_rows.proofs.TakenForms.{hole_takes, open_takes, level_takes, built_takes, fun_takes_it, fun_takes_none}
use Rattle.told_rows.proofs.taken.is_taken_there.Goals as goal

pub returns-in-Some : goal.returns-in-Some
returns-in-Some c = λ Z w. fun_takes_it Z.fields (free_of c.args.size) c.args.tree.now _ _ _ _ c.in-Fun.is c.in_ok-_place-in-Fun.field-0 (c.in_ok-_place-in-Fun.ensures Z w) _ c.in-Some.is

pub returns-in-None : goal.returns-in-None
returns-in-None c = λ Z w. fun_takes_none Z.fields (free_of c.args.size) c.args.tree.now _ _ _ _ c.in-Fun.is c.in_ok-_place-in-Fun.field-0 (c.in_ok-_place-in-Fun.ensures Z w) c.in-None.is

pub returns-in-Hole : goal.returns-in-Hole
returns-in-Hole c = λ Z w. hole_takes Z.fields (free_of c.args.size) c.args.tree.now _ c.in-Hole.is

pub returns-in-Open : goal.returns-in-Open
returns-in-Open c = λ Z w. open_takes Z.fields (free_of c.args.size) c.args.tree.now _ _ _ c.in-Open.is

pub returns-in-Level : goal.returns-in-Level
returns-in-Level c = λ Z w. level_takes Z.fields (free_of c.args.size) c.args.tree.now _ _ _ c.in-Level.is

pub returns-in-Built : goal.returns-in-Built
returns-in-Built c = λ Z w. built_takes Z.fields (free_of c.args.size) c.args.tree.now _ _ _ c.in-Built.is
