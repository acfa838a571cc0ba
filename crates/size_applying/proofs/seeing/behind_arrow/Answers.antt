use Rattle.std.proofs.Common.{◌-◌, arith, refl}
use Rattle.size_applying.proofs.SeeingForms.{to_seen}
use Rattle.size_applying.proofs.seeing.behind_arrow.Goals as goal

pub returns-in-Fun : goal.returns-in-Fun
returns-in-Fun c = (
  c.args.before.now,
  refl,
  refl,
  to_seen c.args.before.now record { size = c.in-Fun.to; apart = c.args.before.now.apart - 1; no_slots = c.args.before.now.no_slots } c.in-Fun.height c.in-Fun.chosen (c.args.before.now.apart - 1) c.in-Fun.from c.in-Fun.to c.in-Fun.is refl (omega (arith, c.if-before-eq0.false)) refl refl,
)
