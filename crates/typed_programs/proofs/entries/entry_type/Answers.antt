use Rattle.std.proofs.Common.{◌<◌, length, sym, subst}
use Rattle.type_infer.specs.Reading.{Generally}
use Rattle.typed_programs.specs.Entries.{Because, Is_outside, Is_unwritten, May_be_used, No_entry_type, Type_is}
use Rattle.typed_programs.proofs.EntryTypes.{because}
use Rattle.typed_programs.proofs.Reading.{if_ok, if_err}
use Rattle.typed_programs.proofs.Using.{may_be_used, none_outside, not_outside, number_within, outside_heads, plain_heads}
use Rattle.typed_programs.proofs.Names.{once_each}
use Rattle.typed_programs.proofs.entries.entry_type.Goals as goal

pub returns-then-has_types-clause-outside : goal.returns-then-has_types-clause-outside
returns-then-has_types-clause-outside c = outside_heads c.args.flat.now c.args.inference.now c.args.at _ c.has_types.result c.requires.at c.has_types.ensures c.if-has_types.true

pub entry_type_of-requires-clause-number : goal.entry_type_of-requires-clause-number
entry_type_of-requires-clause-number c = subst (λ n. n < length c.args.inference.now.nodes) (sym c.in-Ok.ensures.ok) (number_within c.args.flat.now c.args.inference.now.nodes c.args.at c.requires.at c.requires.infers.long)

pub returns-in-Ok-clause-ok : goal.returns-in-Ok-clause-ok
returns-in-Ok-clause-ok c = if_ok (λ entry. Type_is (Generally c.args.inference.now.nodes) c.in-Ok.number entry.params entry.tuple entry.results) (λ entry. May_be_used c.args.flat.now c.args.inference.now c.args.at entry.params entry.tuple entry.results) c.entry_type_of.result
    (λ entry is. may_be_used c.args.flat.now c.args.inference.now c.args.at c.requires.at c.requires.infers (once_each c.args.flat.now.definitions.now c.requires.built.rising) (plain_heads c.args.flat.now.definitions.now c.args.at _ c.has_types.result c.requires.at c.has_types.ensures c.if-has_types.false) entry.params entry.tuple entry.results
    (subst (λ n. Type_is (Generally c.args.inference.now.nodes) n entry.params entry.tuple entry.results) c.in-Ok.ensures.ok is)) c.entry_type_of.ensures.ok

pub returns-in-Ok-clause-unwritten : goal.returns-in-Ok-clause-unwritten
returns-in-Ok-clause-unwritten c = if_ok (λ entry. Type_is (Generally c.args.inference.now.nodes) c.in-Ok.number entry.params entry.tuple entry.results) (λ entry. Is_unwritten c.args.flat.now c.args.at) c.entry_type_of.result
    (λ entry is. plain_heads c.args.flat.now.definitions.now c.args.at _ c.has_types.result c.requires.at c.has_types.ensures c.if-has_types.false) c.entry_type_of.ensures.ok

pub returns-in-Ok-clause-outside : goal.returns-in-Ok-clause-outside
returns-in-Ok-clause-outside c = if_err (Because (No_entry_type (Generally c.args.inference.now.nodes) c.in-Ok.number)) (Because (Is_outside c.args.flat.now c.args.inference.now c.args.at)) c.entry_type_of.result
    (λ e h. because e (λ none. none_outside c.args.flat.now c.args.inference.now c.args.at c.requires.at c.requires.infers (once_each c.args.flat.now.definitions.now c.requires.built.rising) (plain_heads c.args.flat.now.definitions.now c.args.at _ c.has_types.result c.requires.at c.has_types.ensures c.if-has_types.false)
    (subst (No_entry_type (Generally c.args.inference.now.nodes)) c.in-Ok.ensures.ok none)) h) c.entry_type_of.ensures.err

pub returns-in-Err-clause-outside : goal.returns-in-Err-clause-outside
returns-in-Err-clause-outside c = because c.in-Err.error (λ z. absurd z) c.in-Err.ensures.err

pub returns-in-Ok-clause-within : goal.returns-in-Ok-clause-within
returns-in-Ok-clause-within c = if_ok (λ entry. Type_is (Generally c.args.inference.now.nodes) c.in-Ok.number entry.params entry.tuple entry.results) (λ entry. Is_outside c.args.flat.now c.args.inference.now c.args.at → ⊥) c.entry_type_of.result
    (λ entry is. not_outside c.args.flat.now c.args.inference.now c.args.at c.requires.at c.requires.infers (once_each c.args.flat.now.definitions.now c.requires.built.rising) (plain_heads c.args.flat.now.definitions.now c.args.at _ c.has_types.result c.requires.at c.has_types.ensures c.if-has_types.false) entry.params entry.tuple entry.results
    (subst (λ n. Type_is (Generally c.args.inference.now.nodes) n entry.params entry.tuple entry.results) c.in-Ok.ensures.ok is)) c.entry_type_of.ensures.ok
