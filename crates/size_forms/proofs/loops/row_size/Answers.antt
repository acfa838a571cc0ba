use Rattle.size_forms.proofs.LoopForms.{row_level, row_hole, row_open, row_built, row_fun}
use Rattle.size_forms.proofs.loops.row_size.Goals as goal

pub returns-in-Level : goal.returns-in-Level
returns-in-Level c = λ N types. row_level c.args.tree N types c.in-Level.height c.in-Level.size c.in-Level.row c.in-Level.is

pub returns-in-Hole : goal.returns-in-Hole
returns-in-Hole c = λ N types. row_hole c.args.tree N types c.in-Hole.field-0 c.in-Hole.is

pub returns-in-Open : goal.returns-in-Open
returns-in-Open c = λ N types. row_open c.args.tree N types c.in-Open.node c.in-Open.variable c.in-Open.ty c.in-Open.is

pub returns-in-Built : goal.returns-in-Built
returns-in-Built c = λ N types. row_built c.args.tree N types c.in-Built.height c.in-Built.head c.in-Built.parts c.in-Built.is

pub returns-in-Fun : goal.returns-in-Fun
returns-in-Fun c = λ N types. row_fun c.args.tree N types c.in-Fun.height c.in-Fun.chosen c.in-Fun.from c.in-Fun.to c.in-Fun.is
