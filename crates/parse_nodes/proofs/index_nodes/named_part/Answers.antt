-- The names and the part.
use Rattle.std.proofs.Common.{◌≡◌, ◌++◌, ap, ◌∙◌}
use Rattle.fut_tree.specs.Exps.{binds_of, ix_of}
use Rattle.parse_nodes.specs.Parts.{section_part, written_of}
use Rattle.parse_nodes.proofs.index_nodes.named_part.Goals as goal

pub returns-in-Ok : goal.returns-in-Ok
returns-in-Ok c =
    let section = section_part (written_of c.args.part) in
    let names : binds_of c.into_bump_slice.result.now ≡ section.0 = ap binds_of c.into_bump_slice.ensures ∙ c.in-Ok.ensures.row ∙ ap (λ row. binds_of row ++ section.0) c.new-row.ensures.items in
    let part : ix_of c.in-Ok.part ≡ section.1 = c.in-Ok.ensures.part in
    λ i. (names i, part i)
