use Rattle.std.proofs.Common.{refl}
use Rattle.array_data.specs.Held.{held, built_rows}
use Rattle.array_primitives.proofs.Scattering.{put_below, put_past, put_within}
use Rattle.array_primitives.proofs.writes.put_at.Goals as goal

pub returns-then-place-n : goal.returns-then-place-n
returns-then-place-n c = put_past c.args.index (held c.args.value) (built_rows c.args.rows.now) (built_rows c.args.rows.now) c.in-Natural.place c.args.n c.in-Natural.is c.requires c.if-place-n.true refl

pub returns-in-Below : goal.returns-in-Below
returns-in-Below c = put_below c.args.index (held c.args.value) (built_rows c.args.rows.now) (built_rows c.args.rows.now) c.in-Below.field-0 c.in-Below.is refl

pub returns-in-Ok : goal.returns-in-Ok
returns-in-Ok c = put_within c.args.index (held c.args.value) (built_rows c.args.rows.now) (built_rows c.set.new.self) c.in-Natural.place c.args.n c.in-Natural.is c.requires c.if-place-n.false c.in-Ok.ensures
