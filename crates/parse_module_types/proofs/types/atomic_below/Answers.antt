-- The token that stands first tells which production it is.
use Rattle.std.proofs.Common.{◌≡◌, ◌||◌, false, sym, ap, ◌∙◌, refl}
use Rattle.fut_token.specs.declared.token.Fixed.TheVariants as fixed
use Rattle.fut_ast.specs.Behind.{begins_named}
use Rattle.fut_ast.specs.Tokens.{is_word, starts}
use Rattle.fut_grammar.specs.Phrases.{atomic_mtype_at}
use Rattle.fut_grammar.proofs.Bools.{drop_left}
use Rattle.parse_module_types.proofs.types.atomic_below.Goals as goal

pub returns-then-starts_with_word : goal.returns-then-starts_with_word
unfolding atomic_mtype_at
returns-then-starts_with_word g c = record { exact = rw (sym c.starts_with_word.ensures ∙ c.if-starts_with_word.true) c.path.ensures.exact; low = c.path.ensures.low }

pub returns-then-starts_with : goal.returns-then-starts_with
unfolding atomic_mtype_at
returns-then-starts_with g c = record { exact = rw (sym c.starts_with_word.ensures ∙ c.if-starts_with_word.false, sym c.starts_with.ensures ∙ c.if-starts_with.true) c.members_in_braces.ensures.exact; low = c.members_in_braces.ensures.low }

pub returns-then-begins_name_and_colon : goal.returns-then-begins_name_and_colon
unfolding atomic_mtype_at
returns-then-begins_name_and_colon g c =
    let named = ap (λ ts. begins_named ts) (sym c.rest_of.ensures) ∙ sym c.begins_name_and_colon.ensures ∙ c.if-begins_name_and_colon.true in
    record { exact = rw (sym c.starts_with_word.ensures ∙ c.if-starts_with_word.false, sym c.starts_with.ensures ∙ c.if-starts_with.false, named) c.far_arrow.ensures.exact; low = c.far_arrow.ensures.low }

pub returns-else-begins_name_and_colon : goal.returns-else-begins_name_and_colon
unfolding atomic_mtype_at
returns-else-begins_name_and_colon g c =
    let named = ap (λ ts. begins_named ts) (sym c.rest_of.ensures) ∙ sym c.begins_name_and_colon.ensures ∙ c.if-begins_name_and_colon.false in
    record { exact = rw (sym c.starts_with_word.ensures ∙ c.if-starts_with_word.false, sym c.starts_with.ensures ∙ c.if-starts_with.false, named) c.round.ensures.exact; low = c.round.ensures.low }

pub round-requires : goal.round-requires
round-requires g c =
    let word = sym c.starts_with_word.ensures ∙ c.if-starts_with_word.false in
    let brace = sym c.starts_with.ensures ∙ c.if-starts_with.false in
    let neither : (is_word c.args.tokens.now || starts fixed.OpenBrace c.args.tokens.now) ≡ false = rw word brace in
    let paren = drop_left (is_word c.args.tokens.now || starts fixed.OpenBrace c.args.tokens.now) (starts fixed.OpenParen c.args.tokens.now) c.requires.begun neither in
    let unnamed = ap (λ ts. begins_named ts) (sym c.rest_of.ensures) ∙ sym c.begins_name_and_colon.ensures ∙ c.if-begins_name_and_colon.false in
    λ k. ((refl, tt), (c.requires.law, (paren, (unnamed, c.requires.room))))

pub members_in_braces-requires : goal.members_in_braces-requires
members_in_braces-requires g c = λ k. ((refl, tt), (c.requires.member_law, (sym c.starts_with.ensures ∙ c.if-starts_with.true, c.requires.room)))
