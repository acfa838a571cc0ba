use Rattle.std.proofs.Common.{false, ap, ◌∙◌}
use Rattle.fut_flat.specs.Erased.{type_of as written_type}
use Rattle.fut_aliases.specs.Stars.{written_stars}
use Rattle.alias_patterns.proofs.written.stars_at.Goals as goal

pub returns : goal.returns
returns c = λ N k. c.in_ok-made.ensures N k ∙ ap (written_stars N false (written_type c.args.written.now)) c.in_ok-ty.ensures
