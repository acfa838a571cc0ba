use Rattle.std.proofs.Common.{subst}
use Rattle.fut_typing.specs.Homes.{env_sizes}
use Rattle.type_scopes.specs.Scopes.{Binds}
use Rattle.type_scopes.proofs.Binding.{sized_none, sized_more, take_all}
use Rattle.type_scopes.proofs.patterns.enter_sizes.Goals as goal

pub loop-size-init : goal.loop-size-init
loop-size-init c = sized_none c.args.base c.args.inference.now c.requires.safe

pub loop-size-preserved : goal.loop-size-preserved
loop-size-preserved c = sized_more c.args.base c.args.sizes.now c.loop-size.size-index _ c.args.inference.now c.loop-size.inference c.enter.new.inference c.loop-size-test.true c.loop-size.invariant c.in-Ok.ensures.within c.in-Ok.ensures.fresh c.in-Ok.ensures.ok

pub returns-clause-ok : goal.returns-clause-ok
returns-clause-ok c lo = subst (λ l. Binds c.args.base lo 0 (env_sizes l) c.args.inference.now c.loop-size.inference) (take_all c.args.sizes.now c.loop-size.size-index c.loop-size-test.false) (c.loop-size.invariant.binds lo)
