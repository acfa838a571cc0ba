use Rattle.std.proofs.Common.{ap, sym, ◌∙◌}
use Rattle.fut_ast.specs.declared.module.Program.{Program}
use Rattle.module_state.specs.declared.written.SourceFile.{SourceFile}
use Rattle.module_walk.proofs.FileLaws.{decs_past, decs_there}
use Rattle.module_walk.proofs.files.file_decs.Goals as goal

pub returns-then-at-files : goal.returns-then-at-files
returns-then-at-files c = ap (λ (p : Program). p.decs) c.program.view_is ∙ ap (λ (f : SourceFile). f.program.now.decs) (sym c.index-files-at.is) ∙ decs_there c.args.files.now c.args.number c.index-files-at.result c.if-at-files.true c.index-files-at.is

pub returns : goal.returns
returns c = decs_past c.args.files.now c.args.number c.if-at-files.false
