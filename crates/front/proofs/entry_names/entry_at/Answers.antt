use Rattle.std.proofs.Common.{rules, ◌≤◌, length}
use Rattle.front.proofs.Searching.{ended, found, passed}
use Rattle.front.proofs.entry_names.entry_at.Goals as goal

pub returns-then-begins-clause-found : goal.returns-then-begins-clause-found
returns-then-begins-clause-found c = found c.args.flat.now c.args.name.now c.loop-at.at _ c.begins.result c.loop-at-test.true c.begins.ensures c.if-begins.true c.loop-at.invariant

pub loop-at-preserved : goal.loop-at-preserved
loop-at-preserved c = passed c.args.flat.now c.args.name.now c.loop-at.at _ c.begins.result c.begins.ensures c.if-begins.false c.loop-at.invariant

pub returns-clause-none : goal.returns-clause-none
returns-clause-none c =
    let past : length c.args.flat.now.definitions.now ≤ c.loop-at.at = search rules in
    λ none. ended c.args.flat.now c.args.name.now c.loop-at.at past c.loop-at.invariant
