-- The word that stands first tells which production it is, and behind `module` the next one.
use Rattle.std.proofs.Common.{sym, ap, ◌∙◌, refl}
use Rattle.fut_token.specs.declared.token.Fixed.TheVariants as fixed
use Rattle.fut_ast.specs.Tokens.{starts}
use Rattle.fut_grammar.specs.Phrases.{module_at, other_dec_at}
use Rattle.fut_parser.proofs.declarations.other_declared.Goals as goal

pub returns-then-starts_with : goal.returns-then-starts_with
unfolding other_dec_at
returns-then-starts_with g c = record { exact = rw (sym c.starts_with.ensures ∙ c.if-starts_with.true) c.type_name.ensures.exact; low = c.type_name.ensures.low }

pub returns-then-starts_with-3 : goal.returns-then-starts_with-3
unfolding other_dec_at module_at
returns-then-starts_with-3 g c =
    let second = ap (starts fixed.KeyType) (sym c.rest_of.ensures) ∙ sym c.starts_with-then-starts_with-2.ensures ∙ c.if-starts_with-3.true in
    record { exact = rw (sym c.starts_with.ensures ∙ c.if-starts_with.false, sym c.starts_with-else-starts_with.ensures ∙ c.if-starts_with-2.true, second) c.module_type_name.ensures.exact; low = c.module_type_name.ensures.low }

pub returns-else-starts_with-3 : goal.returns-else-starts_with-3
unfolding other_dec_at module_at
returns-else-starts_with-3 g c =
    let second = ap (starts fixed.KeyType) (sym c.rest_of.ensures) ∙ sym c.starts_with-then-starts_with-2.ensures ∙ c.if-starts_with-3.false in
    record { exact = rw (sym c.starts_with.ensures ∙ c.if-starts_with.false, sym c.starts_with-else-starts_with.ensures ∙ c.if-starts_with-2.true, second) c.module_name.ensures.exact; low = c.module_name.ensures.low }

pub returns-then-starts_with-4 : goal.returns-then-starts_with-4
unfolding other_dec_at
returns-then-starts_with-4 g c = record { exact = rw (sym c.starts_with.ensures ∙ c.if-starts_with.false, sym c.starts_with-else-starts_with.ensures ∙ c.if-starts_with-2.false, sym c.starts_with-else-starts_with-2.ensures ∙ c.if-starts_with-4.true) c.opened.ensures.exact; low = c.opened.ensures.low }

pub returns-else-starts_with-4 : goal.returns-else-starts_with-4
unfolding other_dec_at
returns-else-starts_with-4 g c = record { exact = rw (sym c.starts_with.ensures ∙ c.if-starts_with.false, sym c.starts_with-else-starts_with.ensures ∙ c.if-starts_with-2.false, sym c.starts_with-else-starts_with-2.ensures ∙ c.if-starts_with-4.false) c.imported.ensures.exact; low = c.imported.ensures.low }

pub module_name-requires : goal.module_name-requires
module_name-requires g c = λ k. ((refl, tt), (c.requires.law, (sym c.starts_with-else-starts_with.ensures ∙ c.if-starts_with-2.true, c.requires.room)))

pub opened-requires : goal.opened-requires
opened-requires g c = λ k. ((refl, tt), (c.requires.law, (sym c.starts_with-else-starts_with-2.ensures ∙ c.if-starts_with-4.true, c.requires.room)))
