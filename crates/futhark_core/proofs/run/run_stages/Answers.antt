use Rattle.command_words.specs.Held.{command_in}
use Rattle.futhark_core.proofs.RowLaws.{after_source}
use Rattle.futhark_core.proofs.run.run_stages.Goals as goal

pub returns : goal.returns
returns g c = after_source c.args.words.now (command_in c.in-Ok.command) _ _ c.in-Ok.ensures _ c.run_source.ensures
