use Rattle.fut_eval.proofs.Reading.{Half_read}
use Rattle.array_data.specs.Held.{held_all}
use Rattle.fut_eval.proofs.names.push_all.Given as goal

abbrev pub invariant-loop-atom : goal.invariant-loop-atom
invariant-loop-atom l = Half_read (held_all l.table) l.atoms l.atom-index (held_all l.initial.stack.items) (held_all l.stack.items)
