use Rattle.std.proofs.Common.{refl}
use Rattle.unfold_parts.proofs.Fielding.{put_there, put_nowhere}
use Rattle.unfold_parts.proofs.records.replaced.Goals as goal

pub returns-in-Some-clause-ok : goal.returns-in-Some-clause-ok
returns-in-Some-clause-ok c = put_there _ _ c.args.fields.now _ _ _ _ c.in-Some.ensures.place c.in-Ok.ensures c.in-Some.ensures.few refl refl

pub returns-in-None-clause-ok : goal.returns-in-None-clause-ok
returns-in-None-clause-ok c = put_nowhere _ _ c.args.fields.now _ c.in-None.ensures.place c.in-Ok.ensures
