use Rattle.std.proofs.Common.{subst, sym}
use Rattle.std.specs.Prelude.{Some}
use Rattle.unique_programs.specs.Layers.{Are_made}
use Rattle.unique_programs.proofs.Rows.{popped, set_inside, set_types}
use Rattle.unique_programs.proofs.trees.step.Goals as goal

pub returns-clause-made : goal.returns-clause-made
returns-clause-made c = subst (Are_made c.args.nodes.now) (sym c.set.ensures) (set_types c.args.nodes.now c.args.made.now c.args.at c.in_ok-sized.sized c.requires.made c.requires.at c.in_ok-sized.ensures)

pub returns-clause-inside : goal.returns-clause-inside
returns-clause-inside c = set_inside c.args.made.now c.set.new.self c.args.at (Some c.in_ok-sized.sized) c.set.ensures c.pop.new.self (popped c.args.made.now c.pop.result c.wait_for_parts.new.waiting c.pop.new.self c.in_ok-wait_for_parts.ensures c.pop.ensures)
