use Rattle.std.proofs.Common.{◌-◌, refl}
use Rattle.size_arena.proofs.FrameLaws.{at_nearest, at_outer}
use Rattle.size_arena.proofs.opened.+opened_at.Goals as goal

pub returns-then-between-eq0 : goal.returns-then-between-eq0
returns-then-between-eq0 t c = at_nearest c.args.frames.now c.args.between c.args.position c.in-Inside.frame c.in-Inside.outer c.position_of.result c.in-Inside.is c.if-between-eq0.true c.position_of.ensures

pub returns-else-between-eq0 : goal.returns-else-between-eq0
returns-else-between-eq0 t c = at_outer c.args.frames.now c.args.between c.args.position c.in-Inside.frame c.in-Inside.outer c.opened_at.result c.in-Inside.is (c.args.between - 1) c.if-between-eq0.false refl c.opened_at.ensures
