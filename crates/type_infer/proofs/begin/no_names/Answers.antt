use Rattle.std.proofs.Common.{◌≡◌, sym, subst, arith}
use Rattle.type_scopes.specs.Table.{known_at}
use Rattle.type_scopes.specs.declared.names.Known.TheVariants as known
use Rattle.type_infer.proofs.Tables.{nothing_none, nothing_more}
use Rattle.type_infer.proofs.begin.no_names.Goals as goal

pub loop-at-init : goal.loop-at-init
loop-at-init c = record { within = omega arith; none = subst (λ names. (b : _) → known_at names b ≡ known.Nothing) (sym c.new-names.ensures) nothing_none }

pub loop-at-preserved : goal.loop-at-preserved
loop-at-preserved c = record { within = omega (arith, c.loop-at-test.true); none = subst (λ names. (b : _) → known_at names b ≡ known.Nothing) (sym c.in-Ok.ensures.ok) (nothing_more c.loop-at.names c.loop-at.invariant.none) }
