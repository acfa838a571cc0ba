use Rattle.std.proofs.Common.{◌∙◌, ap}
use Rattle.fut_flat.specs.Erased.{pattern_of}
use Rattle.fut_sizes.specs.Sizing.{in_pattern}
use Rattle.size_program.specs.Program.{sub_of}
use Rattle.size_patterns.proofs.Results.{if_ok}
use Rattle.size_patterns.proofs.entering.own_sizes.Goals as goal

pub returns : goal.returns
returns c = λ N k. if_ok c.in_pattern.result (λ m h. h ∙ ap (in_pattern N (sub_of c.args.program.now.types.now) (pattern_of c.args.pattern.now)) c.in_ok-own.ensures) (c.in_pattern.ensures N (sub_of c.args.program.now.types.now) k)
