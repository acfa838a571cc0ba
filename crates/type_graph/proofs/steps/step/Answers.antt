use Rattle.std.proofs.Common.{◌<◌, length, sym, subst}
use Rattle.type_graph.specs.declared.Task.TheVariants as task
use Rattle.type_graph.specs.Graph.{IsTask, AreEntries}
use Rattle.type_graph.proofs.Reducing.{turns_roots, turns_root, turns_part, refuses_turned}
use Rattle.type_graph.proofs.Ends.{on_ok, if_err, has_within, same_within, part_within, step_same, does_turned}
use Rattle.type_graph.proofs.Short.{like_then, found_like, does_like, refuses_like}
use Rattle.type_graph.proofs.steps.step.Goals as goal

pub find_short-root-requires-clause-start : goal.find_short-root-requires-clause-start
find_short-root-requires-clause-start c = has_within c.args.table.now _ _ c.in-Has.kind c.in-Has.depth (subst (IsTask c.args.table.now (length c.args.nodes.now)) c.in-Has.is c.requires.within)

pub find_short-one-requires-clause-start : goal.find_short-one-requires-clause-start
find_short-one-requires-clause-start c = (same_within c.args.table.now _ _ c.in-Same.right (subst (IsTask c.args.table.now (length c.args.nodes.now)) c.in-Same.is c.requires.within)).0

pub find_short-other-requires-clause-start : goal.find_short-other-requires-clause-start
find_short-other-requires-clause-start c = subst (λ n. c.in-Same.right < n) (sym c.find_short-one.ensures.like.long) (same_within c.args.table.now _ c.in-Same.left _ (subst (IsTask c.args.table.now (length c.args.nodes.now)) c.in-Same.is c.requires.within)).1

pub returns-then-one-other-clause-ok : goal.returns-then-one-other-clause-ok
returns-then-one-other-clause-ok c T told = rw c.in-Same.is (does_like _ _ T _ c.find_short-other.new.nodes _ _ _ _ (like_then _ c.find_short-one.new.nodes _ c.find_short-one.ensures.like c.find_short-other.ensures.like)
    (step_same _ _ T _ _ c.in-Same.left c.in-Same.right c.find_short-one.result c.find_short-other.result c.find_short-other.ensures.like.graph (found_like c.find_short-one.new.nodes _ _ _ c.find_short-other.ensures.like c.find_short-one.ensures.found) c.find_short-other.ensures.found c.if-one-other.true))

pub find_short-root-requires-in-Part-clause-start : goal.find_short-root-requires-in-Part-clause-start
find_short-root-requires-in-Part-clause-start c = (part_within c.args.table.now _ _ c.in-Part.label c.in-Part.child (subst (IsTask c.args.table.now (length c.args.nodes.now)) c.in-Part.is c.requires.within)).0

pub meet_part-requires-clause-child : goal.meet_part-requires-clause-child
meet_part-requires-clause-child c = subst (λ n. c.in-Part.child < n) (sym c.find_short-root-in-Part.ensures.like.long) (part_within c.args.table.now _ c.in-Part.at c.in-Part.label _ (subst (IsTask c.args.table.now (length c.args.nodes.now)) c.in-Part.is c.requires.within)).1

pub meet_part-requires-clause-label : goal.meet_part-requires-clause-label
meet_part-requires-clause-label c = (part_within c.args.table.now _ c.in-Part.at _ c.in-Part.child (subst (IsTask c.args.table.now (length c.args.nodes.now)) c.in-Part.is c.requires.within)).2

pub returns-in-Has-clause-ok : goal.returns-in-Has-clause-ok
returns-in-Has-clause-ok c = rw c.in-Has.is (on_ok c.impose.result (λ d T told. does_like _ _ T _ c.find_short-root.new.nodes _ _ _ _ c.find_short-root.ensures.like
    (does_turned _ _ (task.Has c.in-Has.at c.in-Has.kind c.in-Has.depth) _ _ _ (turns_root _ c.in-Has.at c.find_short-root.result c.in-Has.kind c.in-Has.depth c.find_short-root.ensures.found) (d c.args.table.now T told (subst (λ n. AreEntries c.args.table.now n c.args.entries.now) (sym c.find_short-root.ensures.like.long) c.requires.entries)))) c.impose.ensures.ok)

pub returns-in-Has-clause-err : goal.returns-in-Has-clause-err
returns-in-Has-clause-err c = rw c.in-Has.is (if_err c.impose.result (λ d T told. refuses_like T _ c.find_short-root.new.nodes _ c.find_short-root.ensures.like
    (refuses_turned (task.Has c.in-Has.at c.in-Has.kind c.in-Has.depth) _ (turns_root _ c.in-Has.at c.find_short-root.result c.in-Has.kind c.in-Has.depth c.find_short-root.ensures.found) (d T))) c.impose.ensures.err)

pub returns-else-one-other-clause-ok : goal.returns-else-one-other-clause-ok
returns-else-one-other-clause-ok c = rw c.in-Same.is (on_ok c.unite.result (λ d T told. does_like _ _ T _ c.find_short-other.new.nodes _ _ _ _ (like_then _ c.find_short-one.new.nodes _ c.find_short-one.ensures.like c.find_short-other.ensures.like)
    (does_turned _ _ (task.Same c.in-Same.left c.in-Same.right) _ _ _ (turns_roots _ c.in-Same.left c.in-Same.right c.find_short-one.result c.find_short-other.result (found_like c.find_short-one.new.nodes _ _ _ c.find_short-other.ensures.like c.find_short-one.ensures.found) c.find_short-other.ensures.found)
    (d c.args.table.now T told (subst (λ n. AreEntries c.args.table.now n c.args.entries.now) (sym (like_then _ c.find_short-one.new.nodes _ c.find_short-one.ensures.like c.find_short-other.ensures.like).long) c.requires.entries)))) c.unite.ensures.ok)

pub returns-else-one-other-clause-err : goal.returns-else-one-other-clause-err
returns-else-one-other-clause-err c = rw c.in-Same.is (if_err c.unite.result (λ d T told. refuses_like T _ c.find_short-other.new.nodes _ (like_then _ c.find_short-one.new.nodes _ c.find_short-one.ensures.like c.find_short-other.ensures.like)
    (refuses_turned (task.Same c.in-Same.left c.in-Same.right) _ (turns_roots _ c.in-Same.left c.in-Same.right c.find_short-one.result c.find_short-other.result (found_like c.find_short-one.new.nodes _ _ _ c.find_short-other.ensures.like c.find_short-one.ensures.found) c.find_short-other.ensures.found) (d T))) c.unite.ensures.err)

pub returns-in-Part-clause-ok : goal.returns-in-Part-clause-ok
returns-in-Part-clause-ok c = rw c.in-Part.is (on_ok c.meet_part.result (λ d T told. does_like _ _ T _ c.find_short-root-in-Part.new.nodes _ _ _ _ c.find_short-root-in-Part.ensures.like
    (does_turned _ _ (task.Part c.in-Part.at c.in-Part.label c.in-Part.child) _ _ _ (turns_part _ c.in-Part.at c.find_short-root-in-Part.result c.in-Part.label c.in-Part.child c.find_short-root-in-Part.ensures.found) (d T told))) c.meet_part.ensures.ok)

pub returns-in-Part-clause-err : goal.returns-in-Part-clause-err
returns-in-Part-clause-err c = rw c.in-Part.is (if_err c.meet_part.result (λ d T told. refuses_like T _ c.find_short-root-in-Part.new.nodes _ c.find_short-root-in-Part.ensures.like
    (refuses_turned (task.Part c.in-Part.at c.in-Part.label c.in-Part.child) _ (turns_part _ c.in-Part.at c.find_short-root-in-Part.result c.in-Part.label c.in-Part.child c.find_short-root-in-Part.ensures.found) (d T told))) c.meet_part.ensures.err)
