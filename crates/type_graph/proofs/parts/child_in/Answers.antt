use Rattle.std.proofs.Common.{◌<◌, length, ap, subst, sym}
use Rattle.fut_types.specs.Shapes.{HasPart}
use Rattle.type_graph.proofs.Chains.{names_step, lacks_step, lacks_none}
use Rattle.type_graph.proofs.parts.child_in.Goals as goal

pub returns-then-entry-label-clause-named : goal.returns-then-entry-label-clause-named
returns-then-entry-label-clause-named c T t a u n = subst (λ l. HasPart T.shapes l u (a c.entry_of-entry.result.child)) c.if-entry-label.true
    (names_step c.args.entries.now T t c.loop-rest.at c.entry_of-entry.result c.loop-rest.invariant.within c.entry_of-entry.ensures a u c.loop-rest.rest c.loop-rest-test.true (c.loop-rest.invariant.named T t a u n)).0

pub returns-then-entry-label-clause-entry : goal.returns-then-entry-label-clause-entry
returns-then-entry-label-clause-entry c = (c.loop-rest.at, c.loop-rest.invariant.within, ap (λ y. y.child) c.entry_of-entry.ensures)

pub loop-rest-preserved : goal.loop-rest-preserved
loop-rest-preserved c = record {
  within = subst (λ y. y.next < length c.args.entries.now) (sym c.entry_of-entry.ensures) (c.requires.closed c.loop-rest.at c.loop-rest.invariant.within);
  lacks = λ T t l. c.loop-rest.invariant.lacks T t (lacks_step c.args.entries.now T t c.loop-rest.at c.entry_of-entry.result c.loop-rest.invariant.within c.entry_of-entry.ensures c.args.label c.loop-rest.rest c.loop-rest-test.true c.if-entry-label.false l);
  named = λ T t a u n. (names_step c.args.entries.now T t c.loop-rest.at c.entry_of-entry.result c.loop-rest.invariant.within c.entry_of-entry.ensures a u c.loop-rest.rest c.loop-rest-test.true (c.loop-rest.invariant.named T t a u n)).1;
}

pub returns-clause-none : goal.returns-clause-none
returns-clause-none c T t = c.loop-rest.invariant.lacks T t (lacks_none T c.args.label c.loop-rest.at c.loop-rest.rest c.loop-rest-test.false)
