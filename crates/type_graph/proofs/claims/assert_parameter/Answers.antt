use Rattle.type_graph.proofs.Ends.{on_ok, if_err, told_grows}
use Rattle.type_graph.proofs.Adding.{parameter_within, parameter_adds, parameter_nowhere}
use Rattle.type_graph.proofs.claims.assert_parameter.Goals as goal

pub settle-requires-clause-within : goal.settle-requires-clause-within
settle-requires-clause-within c = parameter_within c.args.table.now c.args.base c.args.number c.args.at c.args.nodes.now c.requires.base c.requires.number c.requires.at

pub returns-clause-ok : goal.returns-clause-ok
returns-clause-ok c = on_ok c.settle.result (λ so T told n k st. parameter_adds c.args.table.now T c.args.base c.args.number c.args.at n k c.args.nodes.now c.settle.new.nodes c.args.entries.now c.requires.sound (told_grows _ _ c.args.entries.now c.settle.new.entries T c.settle.ensures.grows told) c.requires.base c.requires.number st (so T told)) c.settle.ensures.ok

pub returns-clause-err : goal.returns-clause-err
returns-clause-err c = if_err c.settle.result (λ un T told n k st. parameter_nowhere c.args.table.now T c.args.base c.args.number c.args.at n k c.args.nodes.now c.settle.new.nodes c.args.entries.now c.requires.sound (told_grows _ _ c.args.entries.now c.settle.new.entries T c.settle.ensures.grows told) c.requires.base c.requires.number st (un T told)) c.settle.ensures.err
