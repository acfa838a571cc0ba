use Rattle.std.proofs.Common.{◌≡◌, ℕ, cond, List, Option, Some, None, length, refl, sym, ◌∙◌}
use Rattle.std.specs.Str.{bytes_eq}
use Rattle.type_rules.specs.Labels.{row_in}
use Rattle.type_rules.proofs.Keys.{row_found}
use Rattle.type_rules.proofs.Numbering.{goes_nowhere, numbers_same, recorded_on, recorded_is}
use Rattle.type_rules.proofs.records.record.Goals as goal

-- the same row and number by other names
rekeyed : (key row : List ℕ) (n m : ℕ) (ls : List ℕ) (other : Option ℕ) → key ≡ row → n ≡ m → cond (bytes_eq key ls) (Some n) other ≡ cond (bytes_eq row ls) (Some m) other
rekeyed key row n m ls other e f = λ i. cond (bytes_eq (e i) ls) (Some (f i)) other

pub returns-in-Some-clause-on : goal.returns-in-Some-clause-on
returns-in-Some-clause-on c = goes_nowhere c.args.labels.now c.args.table.now

pub returns-in-Some-clause-number : goal.returns-in-Some-clause-number
returns-in-Some-clause-number c = row_found c.args.labels.now.rows c.args.row.now _ (sym c.get.ensures.value ∙ sym c.copied.ensures ∙ c.in-Some.is)

pub returns-in-Ok-enter-clause-is : goal.returns-in-Ok-enter-clause-is
returns-in-Ok-enter-clause-is c = recorded_is c.args.labels.now (record { numbers = c.args.labels.now.numbers; rows = c.enter.new.rows }) c.args.table.now c.push_record.new.table c.args.row.now (row_found c.args.labels.now.rows c.args.row.now None (sym c.get.ensures.value ∙ sym c.copied.ensures ∙ c.in-None.is)) (numbers_same c.args.labels.now (record { numbers = c.args.labels.now.numbers; rows = c.enter.new.rows }) refl) (λ ls. c.in-Ok-enter.ensures ls ∙ rekeyed c.into_vec.result.items c.args.row.now c.in-Ok-push_record.number (length c.args.table.now.records) ls (row_in c.args.labels.now.rows ls) (c.into_vec.ensures ∙ c.in-Ok.ensures) c.in-Ok-push_record.ensures.number) c.in-Ok-push_record.ensures.ok c.requires.is c.requires.rising

pub returns-in-Ok-enter-clause-on : goal.returns-in-Ok-enter-clause-on
returns-in-Ok-enter-clause-on c = recorded_on c.args.labels.now (record { numbers = c.args.labels.now.numbers; rows = c.enter.new.rows }) c.args.table.now c.push_record.new.table c.args.row.now (row_found c.args.labels.now.rows c.args.row.now None (sym c.get.ensures.value ∙ sym c.copied.ensures ∙ c.in-None.is)) (numbers_same c.args.labels.now (record { numbers = c.args.labels.now.numbers; rows = c.enter.new.rows }) refl) (λ ls. c.in-Ok-enter.ensures ls ∙ rekeyed c.into_vec.result.items c.args.row.now c.in-Ok-push_record.number (length c.args.table.now.records) ls (row_in c.args.labels.now.rows ls) (c.into_vec.ensures ∙ c.in-Ok.ensures) c.in-Ok-push_record.ensures.number) c.in-Ok-push_record.ensures.ok c.requires.is c.requires.rising
