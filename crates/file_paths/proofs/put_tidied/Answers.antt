use Rattle.std.proofs.Common.{sym, ◌∙◌}
use Rattle.file_paths.specs.Segments.{newest}
use Rattle.file_paths.proofs.Tidying.{a_dot, behind_name, behind_up}
use Rattle.file_paths.proofs.put_tidied.Goals as goal

pub returns-then-is_here : goal.returns-then-is_here
returns-then-is_here c = a_dot c.args.segment.now (newest c.args.path.now.items) (sym c.is_here.ensures ∙ c.if-is_here.true)

pub returns-then-is_up : goal.returns-then-is_up
returns-then-is_up c = behind_up c.go_up.result c.args.segment.now c.args.path.now.items c.go_up.new.path.items (sym c.is_here.ensures ∙ c.if-is_here.false) (sym c.is_up.ensures ∙ c.if-is_up.true) c.go_up.ensures

pub returns : goal.returns
returns c = behind_name c.put.result c.args.segment c.args.path.now.items c.put.new.path.items (sym c.is_here.ensures ∙ c.if-is_here.false) (sym c.is_up.ensures ∙ c.if-is_up.false) c.put.ensures
