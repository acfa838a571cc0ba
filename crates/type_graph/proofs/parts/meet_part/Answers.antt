use Rattle.std.proofs.Common.{length, subst, arith}
use Rattle.fut_types.specs.Shapes.{place, Tells_position}
use Rattle.type_graph.proofs.Ends.{on_ok, grows_either, end_known, end_part, end_lacks, end_past, open_within}
use Rattle.type_graph.proofs.Chains.{lacks_none}
use Rattle.type_graph.proofs.parts.meet_part.Goals as goal

pub returns-in-Some-clause-ok : goal.returns-in-Some-clause-ok
returns-in-Some-clause-ok c = on_ok c.push.result (λ p T told. end_known c.args.table.now c.args.nodes.now c.args.root c.args.label c.args.child c.node_of.result c.requires.graph c.requires.within c.requires.child c.node_of.ensures
    c.args.entries.now T c.args.tasks.now c.push.new.tasks c.in-Open.start c.in-Open.count c.in-Some.known told c.requires.entries c.in-Open.is c.in-Some.ensures.named c.in-Some.ensures.entry p) c.push.ensures.ok

pub returns-then-place-count-clause-ok : goal.returns-then-place-count-clause-ok
returns-then-place-count-clause-ok c = on_ok c.push-then-place-count.result (λ p T told. end_part c.args.table.now c.args.nodes.now c.args.root c.args.label c.args.child c.node_of.result c.requires.graph c.requires.within c.requires.child c.node_of.ensures
    c.in-Made.head c.in-Made.first c.in-Made.count c.in-Made.is c.args.entries.now T c.args.tasks.now c.push-then-place-count.new.tasks c.in-Some-place_of.place (subst (λ o. Tells_position o (place T.shapes c.args.label c.in-Made.head)) c.in-Some-place_of.is (c.place_of.ensures T.shapes told.shapes)) c.if-place-count.true p) c.push-then-place-count.ensures.ok

pub returns-in-Free-clause-entries : goal.returns-in-Free-clause-entries
returns-in-Free-clause-entries c = grows_either c.args.table.now (length c.args.nodes.now) c.args.entries.now c.open_root.new.entries _ c.requires.entries (c.requires.child, c.requires.label, omega arith) c.open_root.ensures.entries

pub returns-in_default-clause-entries : goal.returns-in_default-clause-entries
returns-in_default-clause-entries c = grows_either c.args.table.now (length c.args.nodes.now) c.args.entries.now c.open_root-in-Open.new.entries _ c.requires.entries
    (c.requires.child, c.requires.label, open_within c.args.table.now c.args.entries.now c.args.nodes.now c.args.root c.node_of.result c.in-Open.start c.in-Open.count c.requires.bound c.requires.within c.node_of.ensures c.in-Open.is) c.open_root-in-Open.ensures.entries

pub returns-else-place-count-clause-err : goal.returns-else-place-count-clause-err
returns-else-place-count-clause-err c T told = end_past c.args.table.now c.args.nodes.now c.args.root c.args.label c.args.child c.node_of.result c.requires.graph c.requires.within c.requires.child c.node_of.ensures
    c.in-Made.head c.in-Made.first c.in-Made.count c.in-Made.is T c.in-Some-place_of.place (subst (λ o. Tells_position o (place T.shapes c.args.label c.in-Made.head)) c.in-Some-place_of.is (c.place_of.ensures T.shapes told.shapes)) c.if-place-count.false

pub returns-in_default-place_of-clause-err : goal.returns-in_default-place_of-clause-err
returns-in_default-place_of-clause-err c T told = end_lacks c.args.table.now c.args.nodes.now c.args.root c.args.label c.args.child c.node_of.result c.requires.graph c.requires.within c.requires.child c.node_of.ensures
    c.in-Made.head c.in-Made.first c.in-Made.count c.in-Made.is T (subst (λ o. Tells_position o (place T.shapes c.args.label c.in-Made.head)) c.in_default-place_of.is (c.place_of.ensures T.shapes told.shapes))

pub open_root-requires-clause-lacks : goal.open_root-requires-clause-lacks
open_root-requires-clause-lacks c T t = lacks_none T c.args.label 0 0 (omega arith)
