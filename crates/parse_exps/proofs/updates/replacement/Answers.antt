-- By the sign behind the name.
use Rattle.std.proofs.Common.{sym, ap, ◌∙◌}
use Rattle.fut_token.specs.declared.token.Fixed.TheVariants as fixed
use Rattle.fut_ast.specs.Tokens.{starts}
use Rattle.parse_exps.proofs.updates.replacement.Goals as goal

pub returns-then-starts_with : goal.returns-then-starts_with
returns-then-starts_with g c =
    record { exact = rw (ap (starts fixed.Dot) (sym c.rest_of.ensures) ∙ sym c.starts_with.ensures ∙ c.if-starts_with.true) c.replaced_inside.ensures.exact; low = c.replaced_inside.ensures.low }

pub returns-else-starts_with : goal.returns-else-starts_with
returns-else-starts_with g c =
    record { exact = rw (ap (starts fixed.Dot) (sym c.rest_of.ensures) ∙ sym c.starts_with.ensures ∙ c.if-starts_with.false) c.replaced_here.ensures.exact; low = c.replaced_here.ensures.low }
