use Rattle.std.proofs.Common.{refl, subst, sym, ◌<◌}
use Rattle.fut_types.specs.Shapes.{IsTable}
use Rattle.unique_programs.proofs.Typings.{shows}
use Rattle.unique_programs.proofs.checking.shown.Goals as goal

pub returns : goal.returns
returns c =
    shows c.args.accepted.now c.requires.known _ (subst IsTable (sym c.part_table.ensures) c.requires.known.infers.typing.labels.is_table) refl c.part_numbers.ensures c.part_table.ensures
    (λ n l t comes. c.in_ok-types.ensures n (subst (λ m. n < m) (sym c.in_ok-count.ensures) l) t comes)
