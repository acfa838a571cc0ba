use Rattle.std.proofs.Common.{◌++◌, ap, ◌∙◌, arith}
use Rattle.fut_tree.specs.Names.{names}
use Rattle.elab_scopes.specs.Imports.{segments}
use Rattle.file_paths.proofs.Splitting.{in_folder}
use Rattle.file_paths.proofs.in_folder.Goals as goal

pub returns : goal.returns
returns c =
    let first = c.in_ok-put_segments.ensures ∙ ap (λ l. names l ++ segments c.args.from.now) c.requires in
    in_folder c.put_segments-2.result c.args.from.now c.args.path.now c.put_segments.new.behind.items c.pop.new.self.items c.put_segments-2.new.behind.items c.put_segments.new.behind.len
    (omega (arith, c.put_segments.new.behind.ok.0)) first c.pop.ensures.rest c.put_segments-2.ensures
