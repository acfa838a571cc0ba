-- The turns of each loop are those of the reading.
use Rattle.std.proofs.Common.{sym, ◌∙◌, length, map, [], ◌∷◌, arith}
use Rattle.std.proofs.lemmas.List.{map-append}
use Rattle.fut_grammar.specs.Reading.{commas_at}
use Rattle.fut_grammar.specs.Phrases.{phrases, read_at}
use Rattle.fut_grammar.proofs.Loops.{commas_go_on, commas_end_here, commas_fail, commas_spent}
use Rattle.parse_types.proofs.lists.commas_from.Goals as goal

pub returns-in-Err-clause-exact : goal.returns-in-Err-clause-exact
returns-in-Err-clause-exact g c =
    commas_fail (phrases (read_at c.args.inner)) g.R.ReadItem.sort (map g.R.ReadItem.seen c.items.made.items) c.items.height (length c.args.tokens.now) c.items._turn c.items.rest.now (commas_at (phrases (read_at c.args.inner)) (length c.args.tokens.now) g.R.ReadItem.sort c.args.first_height c.args.tokens.now) c.items.invariant.0 c.in-Err.stop c.items-test.true c.in-Err.ensures.exact

pub returns-then-not-starts_with-clause-exact : goal.returns-then-not-starts_with-clause-exact
returns-then-not-starts_with-clause-exact g c =
    let r = commas_end_here (phrases (read_at c.args.inner)) g.R.ReadItem.sort (map g.R.ReadItem.seen c.items.made.items) c.items.height (length c.args.tokens.now) c.items._turn c.items.rest.now (commas_at (phrases (read_at c.args.inner)) (length c.args.tokens.now) g.R.ReadItem.sort c.args.first_height c.args.tokens.now) c.items.invariant.0 (g.R.ReadItem.seen c.in-Ok.item.tree) c.in-Ok.item.height c.in-Ok.item.rest.now c.items-test.true c.in-Ok.ensures.exact (sym c.starts_with.ensures ∙ c.if-not-starts_with.true) in
    rw (c.into_bump_slice.ensures, c.in-Ok-push.ensures.items, map-append g.R.ReadItem.seen c.items.made.items (c.in-Ok.item.tree ∷ []), c.greater-height.ensures) r

pub items-preserved : goal.items-preserved
items-preserved g c =
    let r = commas_go_on (phrases (read_at c.args.inner)) g.R.ReadItem.sort (map g.R.ReadItem.seen c.items.made.items) c.items.height (length c.args.tokens.now) c.items._turn c.items.rest.now (commas_at (phrases (read_at c.args.inner)) (length c.args.tokens.now) g.R.ReadItem.sort c.args.first_height c.args.tokens.now) c.items.invariant.0 (g.R.ReadItem.seen c.in-Ok.item.tree) c.in-Ok.item.height c.in-Ok.item.rest.now c.items-test.true c.in-Ok.ensures.exact (sym c.starts_with.ensures ∙ c.if-not-starts_with.false) in
    (rw (c.in-Ok-push.ensures.items, map-append g.R.ReadItem.seen c.items.made.items (c.in-Ok.item.tree ∷ []), c.greater-height.ensures, c.rest_of-rest.ensures) r, omega (arith, c.in-Ok.ensures.low))

pub returns-clause-exact : goal.returns-clause-exact
returns-clause-exact g c = rw c.refused.ensures (commas_spent (phrases (read_at c.args.inner)) g.R.ReadItem.sort (map g.R.ReadItem.seen c.items.made.items) c.items.height (length c.args.tokens.now) c.items._turn c.items.rest.now (commas_at (phrases (read_at c.args.inner)) (length c.args.tokens.now) g.R.ReadItem.sort c.args.first_height c.args.tokens.now) c.items.invariant.0 c.items-test.false)

pub returns-then-not-starts_with-clause-low : goal.returns-then-not-starts_with-clause-low
returns-then-not-starts_with-clause-low g c = omega (arith, c.greater-height.ensures, c.in-Ok.ensures.low, c.items.invariant.1)
