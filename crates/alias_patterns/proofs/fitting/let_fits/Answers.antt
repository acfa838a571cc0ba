use Rattle.fut_aliases.specs.Aliases.{first_name_alone}
use Rattle.alias_program.specs.Program.{sub_of}
use Rattle.alias_types.specs.Kinds.{kinds_of}
use Rattle.fut_flat.specs.Erased.{pattern_of}
use Rattle.uniqueness.specs.Answers.{no_memory}
use Rattle.uniqueness.specs.Held.{held_of, here_of}
use Rattle.alias_patterns.proofs.FitForms.{fits_not_asked, fits_refused, fits_done}
use Rattle.alias_patterns.proofs.fitting.let_fits.Goals as goal

pub returns-then-not-here : goal.returns-then-not-here
returns-then-not-here c = λ N k scope losses. fits_not_asked first_name_alone N (kinds_of c.args.program.now.kinds.now) (sub_of c.args.program.now.types.now) (here_of scope c.args.here.now) (pattern_of c.args.pattern.now) c.args.node (held_of c.args.held.now) losses c.if-not-here.true

pub returns-in_default : goal.returns-in_default
returns-in_default c = λ N k scope losses. no_memory

pub returns-in_default-misfit : goal.returns-in_default-misfit
returns-in_default-misfit c = λ N k scope losses. no_memory

pub returns-in-Some : goal.returns-in-Some
returns-in-Some c = λ N k scope losses. fits_refused first_name_alone N (kinds_of c.args.program.now.kinds.now) (sub_of c.args.program.now.types.now) (here_of scope c.args.here.now) (pattern_of c.args.pattern.now) c.args.node (held_of c.args.held.now) losses c.in-Ok.hungry c.in-Ok-misfit.shared (c.in-Ok.ensures N k) (c.in-Ok-misfit.ensures N k) c.if-not-here.false c.in-Some.broken c.in-Some.ensures

pub returns-in-None : goal.returns-in-None
returns-in-None c = λ N k scope losses. fits_done first_name_alone N (kinds_of c.args.program.now.kinds.now) (sub_of c.args.program.now.types.now) (here_of scope c.args.here.now) (pattern_of c.args.pattern.now) c.args.node (held_of c.args.held.now) losses c.in-Ok.hungry c.in-Ok-misfit.shared (c.in-Ok.ensures N k) (c.in-Ok-misfit.ensures N k) c.if-not-here.false c.in-None.ensures
