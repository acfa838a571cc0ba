use Rattle.std.proofs.Common.{◌<◌, length, ap, ◌∙◌, sym, subst}
use Rattle.type_graph.specs.declared.Node.{Node}
use Rattle.type_schemes.specs.declared.Part.{Part}
use Rattle.type_schemes.specs.Schemes.{definition, with_part, form_copy, FormWithin}
use Rattle.type_schemes.proofs.Parts.{filled, filled_other, form_within}
use Rattle.type_schemes.proofs.fill.Goals as goal

pub node_of-form-requires : goal.node_of-form-requires
node_of-form-requires c = subst (λ (p : Part). p.source < length c.args.nodes.now) (sym c.part_of-part.ensures) (c.requires.parts.within c.args.at c.requires.first c.requires.at)

pub enter_parts-requires-clause-form : goal.enter_parts-requires-clause-form
enter_parts-requires-clause-form c = subst (λ (n : Node). FormWithin (length c.args.nodes.now) (length c.args.entries.now) n.form) (sym c.node_of-form.ensures)
    (form_within c.requires.placed.table (length c.args.entries.now) c.args.nodes.now c.requires.placed.graph c.requires.placed.bound c.part_of-part.result.source (subst (λ (p : Part). p.source < length c.args.nodes.now) (sym c.part_of-part.ensures) (c.requires.parts.within c.args.at c.requires.first c.requires.at)))

pub returns-in-Ok-clause-ok : goal.returns-in-Ok-clause-ok
returns-in-Ok-clause-ok c = filled (definition c.args.nodes.now c.args.entries.now c.args.own.now c.args.depth) c.args.store.now c.args.memo.now c.args.first c.args.at c.requires.first c.requires.at c.requires.short c.requires.parts
    c.enter_parts.new.store c.enter_parts.new.memo c.node_of-form.result.form c.in-Ok.ensures.ok c.part_of-part.result c.part_of-part.ensures c.in-Free.is (ap (λ (n : Node). n.form) (sym c.node_of-form.ensures))
    (subst (λ (n : Node). FormWithin (length c.args.nodes.now) (length c.args.entries.now) n.form) (sym c.node_of-form.ensures)
    (form_within c.requires.placed.table (length c.args.entries.now) c.args.nodes.now c.requires.placed.graph c.requires.placed.bound c.part_of-part.result.source (subst (λ (p : Part). p.source < length c.args.nodes.now) (sym c.part_of-part.ensures) (c.requires.parts.within c.args.at c.requires.first c.requires.at))))
    c.set_part.new.store
    (c.set_part.ensures ∙ ap (λ f. with_part c.enter_parts.new.store c.args.at (record { kind = c.part_of-part.result.kind; source = c.part_of-part.result.source; label = c.part_of-part.result.label; form = f })) (c.copy_of.ensures ∙ ap (form_copy c.node_of-form.result.form) c.len-parts.ensures))

pub returns-in_default : goal.returns-in_default
returns-in_default c = record {
  ok = filled_other (definition c.args.nodes.now c.args.entries.now c.args.own.now c.args.depth) c.args.store.now c.args.memo.now c.args.first c.args.at c.requires.first c.requires.at c.requires.short c.requires.parts c.part_of-part.result c.part_of-part.ensures c.in_default.not-Free;
  err = tt;
}
