use Rattle.std.proofs.Common.{map, sym, ◌∙◌}
use Rattle.fut_tree.specs.ModTypes.{label_of}
use Rattle.module_state.specs.Standing.{given_of, here_of}
use Rattle.module_members.proofs.TypeLaws.{shown_kept}
use Rattle.module_members.proofs.types.kept_type.Goals as goal

pub returns-else-hides : goal.returns-else-hides
returns-else-hides c = shown_kept c.args.hides (here_of c.args.here) (map given_of c.args.given.now) c.args.label c.args.inner c.args.state.now c.if-hides.false (sym c.given_for.ensures ∙ c.in-None.is)
