-- The turns of each loop are those of the reading.
use Rattle.std.proofs.Common.{sym, ◌∙◌, length, map, [], ◌∷◌, arith}
use Rattle.std.proofs.lemmas.List.{map-append}
use Rattle.fut_grammar.specs.Reading.{many_at}
use Rattle.fut_grammar.specs.Phrases.{phrases, read_at}
use Rattle.fut_grammar.proofs.Loops.{many_go_on, many_end_here, many_fail, many_spent}
use Rattle.parse_types.proofs.lists.many.Goals as goal

pub returns-then-not-begins-clause-exact : goal.returns-then-not-begins-clause-exact
returns-then-not-begins-clause-exact g c = rw c.into_bump_slice.ensures (many_end_here (phrases (read_at c.args.inner)) g.R.ReadItem.sort (map g.R.ReadItem.seen c.items.made.items) c.items.height (length c.args.tokens.now) c.items._turn c.items.rest.now (many_at (phrases (read_at c.args.inner)) (length c.args.tokens.now) g.R.ReadItem.sort c.args.first_height c.args.tokens.now) c.items.invariant.0 (sym c.begins.ensures ∙ c.if-not-begins.true))

pub returns-in-Err-clause-exact : goal.returns-in-Err-clause-exact
returns-in-Err-clause-exact g c =
    many_fail (phrases (read_at c.args.inner)) g.R.ReadItem.sort (map g.R.ReadItem.seen c.items.made.items) c.items.height (length c.args.tokens.now) c.items._turn c.items.rest.now (many_at (phrases (read_at c.args.inner)) (length c.args.tokens.now) g.R.ReadItem.sort c.args.first_height c.args.tokens.now) c.items.invariant.0 c.in-Err.stop c.items-test.true (sym c.begins.ensures ∙ c.if-not-begins.false) c.in-Err.ensures.exact

pub items-preserved : goal.items-preserved
items-preserved g c =
    let r = many_go_on (phrases (read_at c.args.inner)) g.R.ReadItem.sort (map g.R.ReadItem.seen c.items.made.items) c.items.height (length c.args.tokens.now) c.items._turn c.items.rest.now (many_at (phrases (read_at c.args.inner)) (length c.args.tokens.now) g.R.ReadItem.sort c.args.first_height c.args.tokens.now) c.items.invariant.0 (g.R.ReadItem.seen c.in-Ok.item.tree) c.in-Ok.item.height c.in-Ok.item.rest.now c.items-test.true (sym c.begins.ensures ∙ c.if-not-begins.false) c.in-Ok.ensures.exact in
    (rw (c.in-Ok-push.ensures.items, map-append g.R.ReadItem.seen c.items.made.items (c.in-Ok.item.tree ∷ []), c.greater-height.ensures) r, omega (arith, c.in-Ok.ensures.low))

pub returns-then-begins-clause-exact : goal.returns-then-begins-clause-exact
returns-then-begins-clause-exact g c = rw c.refused.ensures (many_spent (phrases (read_at c.args.inner)) g.R.ReadItem.sort (map g.R.ReadItem.seen c.items.made.items) c.items.height (length c.args.tokens.now) c.items._turn c.items.rest.now (many_at (phrases (read_at c.args.inner)) (length c.args.tokens.now) g.R.ReadItem.sort c.args.first_height c.args.tokens.now) c.items.invariant.0 c.items-test.false (sym c.begins-2.ensures ∙ c.if-begins.true))

pub returns-clause-exact : goal.returns-clause-exact
returns-clause-exact g c = rw c.into_bump_slice-2.ensures (many_end_here (phrases (read_at c.args.inner)) g.R.ReadItem.sort (map g.R.ReadItem.seen c.items.made.items) c.items.height (length c.args.tokens.now) c.items._turn c.items.rest.now (many_at (phrases (read_at c.args.inner)) (length c.args.tokens.now) g.R.ReadItem.sort c.args.first_height c.args.tokens.now) c.items.invariant.0 (sym c.begins-2.ensures ∙ c.if-begins.false))

pub returns-then-not-begins-clause-low : goal.returns-then-not-begins-clause-low
returns-then-not-begins-clause-low g c = c.items.invariant.1

pub returns-clause-low : goal.returns-clause-low
returns-clause-low g c = c.items.invariant.1

pub returns-then-begins-clause-low : goal.returns-then-begins-clause-low
returns-then-begins-clause-low g c = tt
