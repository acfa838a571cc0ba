-- A pattern must begin here, and no colon may stand behind any pattern.
use Rattle.std.proofs.Common.{sym, ◌∙◌}
use Rattle.fut_ast.specs.Sorts.{Whole_pat}
use Rattle.parse_types.proofs.SortLaws.{no_pat, whole_pat_read, atomic_pat_read}
use Rattle.parse_types.proofs.patterns.pattern_node.Goals as goal

pub returns-then-not-begins_pattern : goal.returns-then-not-begins_pattern
returns-then-not-begins_pattern g c = no_pat c.args.sort c.args.inner c.args.tokens.now c.refused.result (sym c.begins_pattern.ensures ∙ c.if-not-begins_pattern.true) c.refused.ensures

pub returns-in-Whole : goal.returns-in-Whole
returns-in-Whole g c =
    rw c.in-Whole.is (whole_pat_read c.args.inner c.args.tokens.now c.not_before.result (sym c.begins_pattern.ensures ∙ c.if-not-begins_pattern.false) c.next_spot.result c.next_spot.ensures (c.not_before.ensures.exact Whole_pat (λ p. p.now) _ (c.type_behind-typed.ensures.exact _ c.atomic_below-pattern.ensures.exact)) (c.not_before.ensures.low _ c.type_behind-typed.ensures.low))

pub returns-in-Atomic : goal.returns-in-Atomic
returns-in-Atomic g c =
    rw c.in-Atomic.is (atomic_pat_read c.args.inner c.args.tokens.now c.atomic_below-pattern.result (sym c.begins_pattern.ensures ∙ c.if-not-begins_pattern.false) c.atomic_below-pattern.ensures.exact c.atomic_below-pattern.ensures.low)
