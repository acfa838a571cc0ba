use Rattle.std.proofs.Common.{refl, sym, ◌∙◌, ap, length, Some, None}
use Rattle.std.proofs.lemmas.Map.Text.{hash_map_updates_str}
use Rattle.type_rules.proofs.Numbering.{goes_nowhere, number_found, numbers_after, new_number, named_on, named_is, same_record}
use Rattle.type_rules.proofs.labels.label.Goals as goal

pub returns-in-Some-clause-on : goal.returns-in-Some-clause-on
returns-in-Some-clause-on c = goes_nowhere c.args.labels.now c.args.table.now

pub returns-in-Some-clause-number : goal.returns-in-Some-clause-number
returns-in-Some-clause-number c = number_found c.args.labels.now c.args.text.now _ (sym c.get.ensures.value ∙ sym c.copied.ensures ∙ c.in-Some.is)

pub returns-in-Ok-insert-clause-is : goal.returns-in-Ok-insert-clause-is
returns-in-Ok-insert-clause-is c = named_is c.args.labels.now (record { numbers = c.insert.new.self; rows = c.args.labels.now.rows }) c.args.table.now (record { records = c.args.table.now.records; labels = c.args.table.now.labels; positions = c.push.new.self }) c.args.text.now c.position.result
    (number_found c.args.labels.now c.args.text.now None (sym c.get.ensures.value ∙ sym c.copied.ensures ∙ c.in-None.is)) c.position.ensures
    (numbers_after c.args.labels.now (record { numbers = c.insert.new.self; rows = c.args.labels.now.rows }) c.args.text.now c.len-number.result (length c.args.table.now.positions) c.len-number.ensures (hash_map_updates_str c.args.text.now c.args.labels.now.numbers c.insert.new.self (Some c.len-number.result) c.in-Ok-insert.ensures.updates))
    refl refl c.in-Ok.ensures.ok (λ ls. same_record c.args.labels.now (record { numbers = c.insert.new.self; rows = c.args.labels.now.rows }) ls refl) c.requires

pub returns-in-Ok-insert-clause-on : goal.returns-in-Ok-insert-clause-on
returns-in-Ok-insert-clause-on c = named_on c.args.labels.now (record { numbers = c.insert.new.self; rows = c.args.labels.now.rows }) c.args.table.now (record { records = c.args.table.now.records; labels = c.args.table.now.labels; positions = c.push.new.self }) c.args.text.now c.position.result
    (number_found c.args.labels.now c.args.text.now None (sym c.get.ensures.value ∙ sym c.copied.ensures ∙ c.in-None.is)) c.position.ensures
    (numbers_after c.args.labels.now (record { numbers = c.insert.new.self; rows = c.args.labels.now.rows }) c.args.text.now c.len-number.result (length c.args.table.now.positions) c.len-number.ensures (hash_map_updates_str c.args.text.now c.args.labels.now.numbers c.insert.new.self (Some c.len-number.result) c.in-Ok-insert.ensures.updates))
    refl refl c.in-Ok.ensures.ok (λ ls. same_record c.args.labels.now (record { numbers = c.insert.new.self; rows = c.args.labels.now.rows }) ls refl) c.requires

pub returns-in-Ok-insert-clause-number : goal.returns-in-Ok-insert-clause-number
returns-in-Ok-insert-clause-number c = new_number c.args.labels.now (record { numbers = c.insert.new.self; rows = c.args.labels.now.rows }) c.args.table.now (record { records = c.args.table.now.records; labels = c.args.table.now.labels; positions = c.push.new.self }) c.args.text.now c.position.result
    (number_found c.args.labels.now c.args.text.now None (sym c.get.ensures.value ∙ sym c.copied.ensures ∙ c.in-None.is)) c.position.ensures
    (numbers_after c.args.labels.now (record { numbers = c.insert.new.self; rows = c.args.labels.now.rows }) c.args.text.now c.len-number.result (length c.args.table.now.positions) c.len-number.ensures (hash_map_updates_str c.args.text.now c.args.labels.now.numbers c.insert.new.self (Some c.len-number.result) c.in-Ok-insert.ensures.updates))
    refl refl c.in-Ok.ensures.ok (λ ls. same_record c.args.labels.now (record { numbers = c.insert.new.self; rows = c.args.labels.now.rows }) ls refl) c.requires ∙ ap Some (sym c.len-number.ensures)
