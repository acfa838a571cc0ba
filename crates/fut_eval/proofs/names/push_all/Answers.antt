use Rattle.std.proofs.Common.{rules, arith}
use Rattle.fut_blocks.specs.declared.block.Atom.TheVariants as atom
use Rattle.fut_eval.proofs.Reading.{half_stop, half_full}
use Rattle.array_data.specs.Held.{held_all}
use Rattle.fut_eval.proofs.names.push_all.Goals as goal

pub returns-in_err-value-in-None : goal.returns-in_err-value-in-None
returns-in_err-value-in-None c = grind (arith, half_stop (held_all c.args.table.now) c.args.atoms.now c.loop-atom.atom-index (atom.Name 0) (held_all c.args.stack.now.items) (held_all c.loop-atom.stack.items) c.loop-atom-test.true c.loop-atom.invariant)

pub returns-in_err-push-in-None : goal.returns-in_err-push-in-None
returns-in_err-push-in-None c = search (rules, half_full (held_all c.args.table.now) c.args.atoms.now c.loop-atom.atom-index (atom.Name 0) (held_all c.args.stack.now.items) (held_all c.loop-atom.stack.items) c.loop-atom-test.true c.loop-atom.invariant)

pub returns-in_err-push-in-Some : goal.returns-in_err-push-in-Some
returns-in_err-push-in-Some c = search (rules, half_full (held_all c.args.table.now) c.args.atoms.now c.loop-atom.atom-index (atom.Name 0) (held_all c.args.stack.now.items) (held_all c.loop-atom.stack.items) c.loop-atom-test.true c.loop-atom.invariant)
