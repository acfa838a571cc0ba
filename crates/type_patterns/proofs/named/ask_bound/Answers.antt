use Rattle.std.proofs.Common.{length, sym, ◌∙◌, ◌<◌, subst, arith}
use Rattle.type_rules.proofs.Adding.{on_ok, if_err}
use Rattle.type_scopes.specs.declared.names.Known.{Known}
use Rattle.type_scopes.specs.declared.names.Known.TheVariants as known
use Rattle.type_scopes.specs.Scopes.{Stored}
use Rattle.type_patterns.proofs.Own.{high}
use Rattle.type_patterns.proofs.Using.{no_type_err, type_ok, type_err, same_within}
use Rattle.type_patterns.proofs.named.ask_bound.Goals as goal

pub ask-requires-clause-safe : goal.ask-requires-clause-safe
ask-requires-clause-safe c = high c.args.base c.args.inference.now c.requires.safe c.len-all.result c.len-all.ensures

pub ask-requires-clause-within : goal.ask-requires-clause-within
ask-requires-clause-within c = let own : c.in-Type.own < length c.args.inference.now.nodes = subst (λ (k : Known). Stored c.args.base (length c.args.inference.now.nodes) c.args.inference.now.table c.args.inference.now.store k) (sym c.known_of.ensures ∙ c.in-Type.is) (c.requires.safe.stored c.args.bind.0 (omega (arith, c.if-bind-len.false, c.len.ensures))) in
    same_within c.args.inference.now.table c.len-all.result c.args.node c.in-Type.own (omega (arith, c.requires.node, c.requires.safe.inside, c.len-all.ensures)) (omega (arith, own, c.len-all.ensures))

pub returns-in-Nothing-clause-err : goal.returns-in-Nothing-clause-err
returns-in-Nothing-clause-err c places = no_type_err places c.args.base c.args.bind c.args.node c.args.inference.now c.args.inference.now (omega (arith, c.if-bind-len.false, c.len.ensures)) c.requires.node c.requires.safe known.Nothing (λ full t h. h) (sym c.known_of.ensures ∙ c.in-Nothing.is)

pub returns-in-Number-clause-err : goal.returns-in-Number-clause-err
returns-in-Number-clause-err c places = no_type_err places c.args.base c.args.bind c.args.node c.args.inference.now c.args.inference.now (omega (arith, c.if-bind-len.false, c.len.ensures)) c.requires.node c.requires.safe (known.Number c.in-Number.field-0) (λ full t h. h) (sym c.known_of.ensures ∙ c.in-Number.is)

pub returns-in-Size-clause-err : goal.returns-in-Size-clause-err
returns-in-Size-clause-err c places = no_type_err places c.args.base c.args.bind c.args.node c.args.inference.now c.args.inference.now (omega (arith, c.if-bind-len.false, c.len.ensures)) c.requires.node c.requires.safe known.Size (λ full t h. h) (sym c.known_of.ensures ∙ c.in-Size.is)

pub returns-in-Definition-clause-err : goal.returns-in-Definition-clause-err
returns-in-Definition-clause-err c places = no_type_err places c.args.base c.args.bind c.args.node c.args.inference.now c.args.inference.now (omega (arith, c.if-bind-len.false, c.len.ensures)) c.requires.node c.requires.safe (known.Definition c.in-Definition.field-0 c.in-Definition.field-1) (λ full t h. h) (sym c.known_of.ensures ∙ c.in-Definition.is)

pub returns-in-Type-clause-ok : goal.returns-in-Type-clause-ok
returns-in-Type-clause-ok c = on_ok c.ask.result (λ f places. type_ok places c.args.base c.args.bind c.args.node c.args.inference.now c.ask.new.inference (omega (arith, c.if-bind-len.false, c.len.ensures)) c.requires.node c.requires.safe c.in-Type.own (sym c.known_of.ensures ∙ c.in-Type.is) c.len-all.result c.len-all.ensures (f places)) c.ask.ensures.ok

pub returns-in-Type-clause-err : goal.returns-in-Type-clause-err
returns-in-Type-clause-err c = if_err c.ask.result (λ f places. type_err places c.args.base c.args.bind c.args.node c.args.inference.now c.ask.new.inference (omega (arith, c.if-bind-len.false, c.len.ensures)) c.requires.node c.requires.safe c.in-Type.own (sym c.known_of.ensures ∙ c.in-Type.is) c.len-all.result c.len-all.ensures (f places)) c.ask.ensures.err
