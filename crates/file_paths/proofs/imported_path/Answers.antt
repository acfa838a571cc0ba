use Rattle.std.proofs.Common.{[], ap, ◌∙◌}
use Rattle.fut_tree.specs.Names.{names}
use Rattle.elab_scopes.specs.Imports.{tidied}
use Rattle.file_paths.proofs.Joining.{whole}
use Rattle.file_paths.proofs.imported_path.Goals as goal

pub returns : goal.returns
returns c =
    let made = c.in_ok-in_folder.ensures in
    let tidy = ap names c.as_slice-2.ensures.value ∙ c.in_ok-put_all_tidied.ensures ∙ ap (λ l. tidied [] (names l)) c.as_slice.ensures.value in
    whole c.slashed.result c.args.from.now c.args.text.now c.in_ok-file.file.now c.in_folder.new.put.items c.as_slice-2.result.now c.in_ok-file.ensures made tidy c.slashed.ensures
