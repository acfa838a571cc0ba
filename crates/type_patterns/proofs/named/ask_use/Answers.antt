use Rattle.std.proofs.Common.{length, sym, ◌∙◌, subst, arith}
use Rattle.fut_scalar.specs.declared.scalar.ScalarType.TheVariants as scalar
use Rattle.fut_scalar.specs.declared.scalar.IntType.TheVariants as int
use Rattle.type_rules.proofs.Adding.{on_ok, if_err}
use Rattle.type_scopes.specs.declared.names.Known.{Known}
use Rattle.type_scopes.specs.Scopes.{Stored}
use Rattle.type_scopes.proofs.Claiming.{ok_both}
use Rattle.type_patterns.proofs.Asking.{err_both}
use Rattle.type_patterns.proofs.Using.{nothing_err, not_used, number_ok, number_err, size_ok, size_err, definition_ok, definition_err, same_within, is_within}
use Rattle.type_patterns.proofs.named.ask_use.Goals as goal

pub ask-requires-clause-within : goal.ask-requires-clause-within
ask-requires-clause-within c = same_within c.args.inference.now.table c.args.base c.args.node c.in-Number.number c.requires.node (subst (λ (k : Known). Stored c.args.base (length c.args.inference.now.nodes) c.args.inference.now.table c.args.inference.now.store k) (sym c.known_of.ensures ∙ c.in-Number.is) (c.requires.safe.stored c.args.name (omega (arith, c.if-name-len.false, c.len.ensures))))

pub ask-requires-in-Size-clause-within : goal.ask-requires-in-Size-clause-within
ask-requires-in-Size-clause-within c = is_within c.args.inference.now.table c.args.base c.args.node (scalar.Int int.I64) c.requires.node

pub returns-in-Nothing-clause-err : goal.returns-in-Nothing-clause-err
returns-in-Nothing-clause-err c places = nothing_err places c.args.base c.args.name c.args.node c.args.inference.now c.args.inference.now (omega (arith, c.if-name-len.false, c.len.ensures)) c.requires.node c.requires.safe (sym c.known_of.ensures ∙ c.in-Nothing.is)

pub returns-in-Number-clause-ok : goal.returns-in-Number-clause-ok
returns-in-Number-clause-ok c = on_ok c.ask.result (λ f places. number_ok places c.args.base c.args.name c.args.node c.args.inference.now c.ask.new.inference (omega (arith, c.if-name-len.false, c.len.ensures)) c.requires.node c.in-Number.number (subst (λ (k : Known). Stored c.args.base (length c.args.inference.now.nodes) c.args.inference.now.table c.args.inference.now.store k) (sym c.known_of.ensures ∙ c.in-Number.is) (c.requires.safe.stored c.args.name (omega (arith, c.if-name-len.false, c.len.ensures)))) (sym c.known_of.ensures ∙ c.in-Number.is) (f places)) c.ask.ensures.ok

pub returns-in-Number-clause-err : goal.returns-in-Number-clause-err
returns-in-Number-clause-err c = if_err c.ask.result (λ f places. number_err places c.args.base c.args.name c.args.node c.args.inference.now c.ask.new.inference (omega (arith, c.if-name-len.false, c.len.ensures)) c.requires.node c.in-Number.number (subst (λ (k : Known). Stored c.args.base (length c.args.inference.now.nodes) c.args.inference.now.table c.args.inference.now.store k) (sym c.known_of.ensures ∙ c.in-Number.is) (c.requires.safe.stored c.args.name (omega (arith, c.if-name-len.false, c.len.ensures)))) (sym c.known_of.ensures ∙ c.in-Number.is) (f places)) c.ask.ensures.err

pub returns-in-Size-clause-ok : goal.returns-in-Size-clause-ok
returns-in-Size-clause-ok c = on_ok c.ask-in-Size.result (λ f places. size_ok places c.args.base c.args.name c.args.node c.args.inference.now c.ask-in-Size.new.inference (omega (arith, c.if-name-len.false, c.len.ensures)) c.requires.node (sym c.known_of.ensures ∙ c.in-Size.is) (f places)) c.ask-in-Size.ensures.ok

pub returns-in-Size-clause-err : goal.returns-in-Size-clause-err
returns-in-Size-clause-err c = if_err c.ask-in-Size.result (λ f places. size_err places c.args.base c.args.name c.args.node c.args.inference.now c.ask-in-Size.new.inference (omega (arith, c.if-name-len.false, c.len.ensures)) c.requires.node (sym c.known_of.ensures ∙ c.in-Size.is) (f places)) c.ask-in-Size.ensures.err

pub returns-in-Definition-clause-ok : goal.returns-in-Definition-clause-ok
returns-in-Definition-clause-ok c = ok_both c.instance.result (λ x f places. definition_ok places c.args.base c.args.name c.args.node c.args.inference.now c.args.inference.now (omega (arith, c.if-name-len.false, c.len.ensures)) c.requires.node c.in-Definition.first c.in-Definition.count (sym c.known_of.ensures ∙ c.in-Definition.is) c.instance.new.nodes c.instance.new.entries c.requires.safe x f) c.instance.ensures.extends c.instance.ensures.ok

pub returns-in-Definition-clause-err : goal.returns-in-Definition-clause-err
returns-in-Definition-clause-err c = err_both c.instance.result (λ un before places. definition_err places c.args.base c.args.name c.args.node c.args.inference.now c.args.inference.now (omega (arith, c.if-name-len.false, c.len.ensures)) c.requires.node c.requires.safe c.in-Definition.first c.in-Definition.count (sym c.known_of.ensures ∙ c.in-Definition.is) c.instance.new.nodes c.instance.new.entries un before) c.instance.ensures.err c.instance.ensures.before

pub returns-in-Type-clause-err : goal.returns-in-Type-clause-err
returns-in-Type-clause-err c places = not_used places c.args.base c.args.name c.args.node c.args.inference.now c.args.inference.now (omega (arith, c.if-name-len.false, c.len.ensures)) c.requires.node c.requires.safe c.in-Type.field-0 (sym c.known_of.ensures ∙ c.in-Type.is)
