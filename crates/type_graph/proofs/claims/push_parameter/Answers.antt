use Rattle.std.proofs.Common.{arith}
use Rattle.type_graph.proofs.Grown.{sound_inside}
use Rattle.type_graph.proofs.Adding.{bears, bears_extends}
use Rattle.type_graph.proofs.claims.push_parameter.Goals as goal

pub returns-in-Ok-clause-extends : goal.returns-in-Ok-clause-extends
returns-in-Ok-clause-extends c = bears_extends c.args.table.now c.args.base c.args.nodes.now c.args.entries.now c.args.parameter c.args.kind c.args.depth c.requires.sound c.requires.base (omega (arith, c.ranges.depth.fits)) (omega (arith, c.len-at.ensures, c.if-at-ge-MOST_NODES.false)) c.push.new.self c.in-Ok.ensures.ok

pub returns-in-Ok-clause-bears : goal.returns-in-Ok-clause-bears
returns-in-Ok-clause-bears c T told seat = bears c.args.table.now c.args.base c.args.nodes.now c.args.entries.now c.args.parameter c.args.kind c.args.depth c.requires.sound c.requires.base (omega (arith, c.ranges.depth.fits)) (omega (arith, c.len-at.ensures, c.if-at-ge-MOST_NODES.false)) T (sound_inside c.args.table.now c.args.nodes.now c.args.entries.now T c.requires.sound told) seat c.push.new.self c.in-Ok.ensures.ok
