use Rattle.sizing_tables.proofs.Heads.{size_head, type_head}
use Rattle.sizing_tables.proofs.terms.note_head.Goals as goal

pub returns-in-Size : goal.returns-in-Size
returns-in-Size c = size_head c.args.head.now _ c.in-Size.is c.size.ensures

pub returns-in-Var : goal.returns-in-Var
returns-in-Var c = type_head _ c.args.head.now _ _ c.in-Var.is
