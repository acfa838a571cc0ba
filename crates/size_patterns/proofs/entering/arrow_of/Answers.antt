use Rattle.size_patterns.proofs.ArrowForms.{fun_arrow}
use Rattle.size_patterns.proofs.entering.arrow_of.Goals as goal

pub returns-in-Fun : goal.returns-in-Fun
returns-in-Fun c = fun_arrow c.args.wanted c.in-Some.tree c.in-Some.is c.in-Fun.height (record { chosen = c.in-Fun.chosen; from = c.in-Fun.from; to = c.in-Fun.to }) c.in-Fun.is
