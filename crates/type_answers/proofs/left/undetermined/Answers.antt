use Rattle.std.proofs.Common.{arith}
use Rattle.type_answers.proofs.LeftLaws.{decided}
use Rattle.type_answers.proofs.left.undetermined.Goals as goal

pub returns-clause-none : goal.returns-clause-none
returns-clause-none c n lt T home base st D sb v s u = decided c.args.nodes.now c.loop-at.seen c.requires.graph T home base st D sb (c.loop-at.invariant.seen st.top st.tops) n (omega (arith, c.requires.base)) (c.loop-at.invariant.done n (omega (arith, c.loop-at-test.false)) st.top st.tops) v s u
