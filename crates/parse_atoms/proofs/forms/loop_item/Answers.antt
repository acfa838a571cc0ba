-- By the tokens that stand next.
use Rattle.std.proofs.Common.{◌&&◌, not, sym, ap, ◌∙◌, refl}
use Rattle.fut_token.specs.declared.token.Fixed.TheVariants as fixed
use Rattle.fut_ast.specs.Tokens.{is_word, starts, tail}
use Rattle.fut_grammar.specs.Phrases.{read_at}
use Rattle.parse_atoms.proofs.LoopLaws.{loop_item_as}
use Rattle.parse_atoms.proofs.forms.loop_item.Goals as goal

pub as_long-requires : goal.as_long-requires
as_long-requires g c = λ k. ((refl, tt), (sym c.starts_with.ensures ∙ c.if-starts_with.true, (c.requires.law, c.requires.room)))

pub returns-then-starts_with : goal.returns-then-starts_with
returns-then-starts_with g c = record { exact = rw (loop_item_as (read_at c.args.inner) c.args.tokens.now, sym c.starts_with.ensures ∙ c.if-starts_with.true) c.as_long.ensures.exact; low = c.as_long.ensures.low }

pub returns-then-not-starts_with : goal.returns-then-not-starts_with
returns-then-not-starts_with g c = record { exact = rw (loop_item_as (read_at c.args.inner) c.args.tokens.now, sym c.starts_with.ensures ∙ c.if-starts_with.false, sym c.starts_with-else-starts_with.ensures ∙ c.if-not-starts_with.true, c.refused.ensures) refl; low = tt }

pub counted-requires : goal.counted-requires
counted-requires g c =
    let counts = ap (λ ts. is_word ts && starts fixed.Less (tail ts)) (sym c.rest_of.ensures) ∙ sym c.begins_count.ensures ∙ c.if-begins_count.true in
    λ k. ((refl, tt), (sym c.starts_with-else-starts_with.ensures ∙ c.if-not-starts_with.false, (counts, (c.requires.law, c.requires.room))))

pub returns-then-begins_count : goal.returns-then-begins_count
returns-then-begins_count g c =
    let counts = ap (λ ts. is_word ts && starts fixed.Less (tail ts)) (sym c.rest_of.ensures) ∙ sym c.begins_count.ensures ∙ c.if-begins_count.true in
    record { exact = rw (loop_item_as (read_at c.args.inner) c.args.tokens.now, sym c.starts_with.ensures ∙ c.if-starts_with.false, sym c.starts_with-else-starts_with.ensures ∙ c.if-not-starts_with.false, counts) c.counted.ensures.exact; low = c.counted.ensures.low }

pub over_elements-requires : goal.over_elements-requires
over_elements-requires g c =
    let counts = ap (λ ts. is_word ts && starts fixed.Less (tail ts)) (sym c.rest_of.ensures) ∙ sym c.begins_count.ensures ∙ c.if-begins_count.false in
    λ k. ((refl, tt), (sym c.starts_with-else-starts_with.ensures ∙ c.if-not-starts_with.false, (ap not counts, (c.requires.law, c.requires.room))))

pub returns-else-begins_count : goal.returns-else-begins_count
returns-else-begins_count g c =
    let counts = ap (λ ts. is_word ts && starts fixed.Less (tail ts)) (sym c.rest_of.ensures) ∙ sym c.begins_count.ensures ∙ c.if-begins_count.false in
    record { exact = rw (loop_item_as (read_at c.args.inner) c.args.tokens.now, sym c.starts_with.ensures ∙ c.if-starts_with.false, sym c.starts_with-else-starts_with.ensures ∙ c.if-not-starts_with.false, counts) c.over_elements.ensures.exact; low = c.over_elements.ensures.low }
