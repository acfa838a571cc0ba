use Rattle.std.proofs.Common.{subst, sym, ◌<◌}
use Rattle.fut_types.specs.Shapes.{IsTable}
use Rattle.fut_typing.specs.Program.{program_of}
use Rattle.sized_programs.proofs.Typings.{prepares}
use Rattle.sized_programs.proofs.checking.prepared.Goals as goal

pub returns : goal.returns
returns c =
    prepares (program_of c.args.flat.now) c.args.inference.now c.requires _ (subst IsTable (sym c.part_table.ensures) c.requires.typing.labels.is_table) c.part_numbers.ensures c.part_table.ensures
    (λ n l t comes. c.in_ok-types.ensures n (subst (λ m. n < m) (sym c.in_ok-count.ensures) l) t comes)
