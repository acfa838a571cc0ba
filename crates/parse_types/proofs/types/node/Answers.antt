-- A type must begin here, and no arrow may stand behind any type.
use Rattle.std.proofs.Common.{suc, sym, ap, ◌∙◌}
use Rattle.fut_ast.specs.Behind.{begins}
use Rattle.fut_ast.specs.Sorts.{Whole_type}
use Rattle.fut_grammar.specs.Phrases.{phrases, read_at, whole_type_at}
use Rattle.parse_types.specs.Handed.{sort_of}
use Rattle.parse_types.proofs.SortLaws.{no_type, whole_type_read, applied_type_read, atomic_type_read}
use Rattle.parse_types.proofs.types.node.Goals as goal

pub returns-then-not-begins_sort : goal.returns-then-not-begins_sort
returns-then-not-begins_sort g c = no_type c.args.sort c.args.inner c.args.tokens.now c.refused_type.result (sym c.begins_sort.ensures ∙ c.if-not-begins_sort.true) c.refused_type.ensures.whole c.refused_type.ensures.applied c.refused_type.ensures.atomic

pub returns-in-Whole : goal.returns-in-Whole
returns-in-Whole g c =
    let begun = sym (ap (λ n. begins (sort_of n) c.args.tokens.now) c.in-Whole.is) ∙ sym c.begins_sort.ensures ∙ c.if-not-begins_sort.false in
    rw c.in-Whole.is (whole_type_read c.args.inner c.args.tokens.now c.not_before.result begun (c.not_before.ensures.exact Whole_type (λ t. t.now) (whole_type_at (phrases (read_at c.args.inner)) (suc c.args.inner) c.args.tokens.now) c.whole_type_below-ty.ensures.exact) (c.not_before.ensures.low _ c.whole_type_below-ty.ensures.low))

pub returns-in-Applied : goal.returns-in-Applied
returns-in-Applied g c =
    let begun = sym (ap (λ n. begins (sort_of n) c.args.tokens.now) c.in-Applied.is) ∙ sym c.begins_sort.ensures ∙ c.if-not-begins_sort.false in
    rw c.in-Applied.is (applied_type_read c.args.inner c.args.tokens.now c.applied_type_below.result begun c.applied_type_below.ensures.exact c.applied_type_below.ensures.low)

pub returns-in-Atomic : goal.returns-in-Atomic
returns-in-Atomic g c =
    let begun = sym (ap (λ n. begins (sort_of n) c.args.tokens.now) c.in-Atomic.is) ∙ sym c.begins_sort.ensures ∙ c.if-not-begins_sort.false in
    rw c.in-Atomic.is (atomic_type_read c.args.inner c.args.tokens.now c.bracket_type_below.result begun c.bracket_type_below.ensures.exact c.bracket_type_below.ensures.low)
