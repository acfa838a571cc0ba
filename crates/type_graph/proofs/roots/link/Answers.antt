use Rattle.std.proofs.Common.{◌≤◌, arith}
use Rattle.type_graph.proofs.GraphLaws.{linked_down, linked_up, length_with}
use Rattle.type_graph.proofs.roots.link.Goals as goal

pub put-requires-else-winner-loser-2 : goal.put-requires-else-winner-loser-2
put-requires-else-winner-loser-2 c = rw (c.put-else-winner-loser.ensures, length_with) c.requires.winner

pub returns-then-winner-loser : goal.returns-then-winner-loser
returns-then-winner-loser c = rw c.put.ensures (linked_down c.args.nodes.now c.args.winner c.args.loser c.requires.graph c.requires.loser_root c.if-winner-loser.true c.requires.loser)

pub returns-else-winner-loser : goal.returns-else-winner-loser
returns-else-winner-loser c = rw (c.put-else-winner-loser-2.ensures, c.put-else-winner-loser.ensures, c.node_of-kept.ensures)
    (linked_up c.args.nodes.now c.args.winner c.args.loser c.requires.graph c.requires.root c.requires.loser_root
    (let le : c.args.loser ≤ c.args.winner = c.if-winner-loser.false in grind (arith, c.requires.differ)) c.requires.winner)
