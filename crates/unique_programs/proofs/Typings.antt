-- What the checker is told, and what it answers, of the typing of a program.
use Rattle.std.proofs.Common.{◌≡◌, ℕ, ◌<◌, List, sym, ◌∙◌, ap, subst}
use Rattle.std.specs.Prelude.{Option, Some}
use Rattle.std.specs.HashMap.{get_by}
use Rattle.std.specs.Str.{bytes_eq}
use Rattle.fut_ast.specs.Sorts.{Text}
use Rattle.fut_scalar.specs.declared.place.Place.{Place}
use Rattle.fut_types.specs.Shapes.{IsTable, Tells as Table_tells}
use Rattle.fut_types.specs.Types.{Ty, Sub}
use Rattle.fut_typing.specs.Names.{Names}
use Rattle.fut_typing.specs.Program.{Defined, program_numbers, program_of}
use Rattle.fut_typing.specs.Answers.{Typing_is}
use Rattle.fut_aliases.specs.Aliases.{first_name_alone}
use Rattle.fut_aliases.specs.Programs.{first_broken}
use Rattle.fut_aliases.specs.declared.refusals.Broken.{Broken}
use Rattle.type_infer.specs.Inferring.{Has_typing, Infers, Numbers, Told_by}
use Rattle.type_infer.specs.Reading.{Comes_to}
use Rattle.type_rules.specs.Labels.{number_of}
use Rattle.type_scopes.specs.declared.Inference.{Inference}
use Rattle.alias_parts.specs.Known.{Knows}
use Rattle.alias_parts.specs.declared.names.PartNames.{PartNames}
use Rattle.alias_program.specs.Program.{sub_of}
use Rattle.alias_program.specs.declared.program.Program.{Program}
use Rattle.alias_types.specs.Kinds.{kinds_of}
use Rattle.typed_programs.specs.Known.{Is_known}
use Rattle.typed_programs.specs.Ordered.{Some_order}
use Rattle.typed_programs.proofs.Ordering.{Numbers_in_order, numbers_in_order}
use Rattle.typed_programs.specs.declared.typed.Accepted.{Accepted}
use Rattle.alias_laws.proofs.Law.{kept_names_answer_the_same}
use Rattle.unique_programs.specs.Rules.{First_broken, any_kinds}
use Rattle.unique_programs.specs.Misuses.{Is_broken, Misused, Tells, Told}
use Rattle.unique_programs.specs.Shown.{Shows}
use Rattle.unique_programs.specs.declared.misuse.Misuse.{Misuse}
use Rattle.unique_programs.specs.declared.misuse.Misuse.TheVariants as misuse

-- types that agree with a typing on a program's numbers are one
pub same_typing : (N : Names) (ds : List Defined) (a b : Sub) → Typing_is N ds a → ((n : ℕ) → n < program_numbers ds → b n ≡ a n) → Typing_is N ds b
same_typing N ds a b t h = record {
  principal = t.principal;
  closed = t.closed;
  settled = t.settled;
  is = λ n l. h n l ∙ t.is n l;
}

pub shown_typing : (ds : List Defined) (i : Inference) → Infers ds i → (b : Sub) → ((n : ℕ) → n < program_numbers ds → (t : Ty) → Comes_to i.nodes n t → b n ≡ t) → (N : Names) → Numbers i N → Typing_is N ds b
shown_typing ds i inf b h N num = let w : Has_typing ds i N = inf.typing.holds N num in same_typing N ds w.types b w.typing (λ n l. h n l (w.types n) (w.comes n l))

pub shown_names : (i : Inference) (names : PartNames) → names.numbers.now ≡ i.labels.numbers → names.table.now ≡ i.table → (N : Names) → Numbers i N → Knows names N
unfolding number_of
shown_names i names e f N num = record {
  label = λ s n is. num.labelled.label s n (sym (ap (get_by (λ k. bytes_eq s k.now)) e) ∙ is);
  shapes = subst (λ t. Table_tells t N.shapes) (sym f) num.labelled.shapes;
}

module _ (accepted : Accepted) (known : Is_known accepted) (program : Program) where
  pub shows : IsTable program.names.table.now → kinds_of program.kinds.now ≡ any_kinds → program.names.numbers.now ≡ accepted.inference.labels.numbers → program.names.table.now ≡ accepted.inference.table
      → ((n : ℕ) → n < program_numbers (program_of accepted.flat) → (t : Ty) → Comes_to accepted.inference.nodes n t → sub_of program.types.now n ≡ t) → Shows accepted program
  shows table kinds numbers same types = record {
    table = table;
    kinds = kinds;
    names = shown_names accepted.inference program.names numbers same;
    typing = shown_typing (program_of accepted.flat) accepted.inference known.infers (sub_of program.types.now) types;
  }

  -- what the checker answers of it
  module _ (is : Shows accepted program) (answer : Option Broken) (first : (N : Names) → Knows program.names N → first_broken first_name_alone N (kinds_of program.kinds.now) (sub_of program.types.now) (program_of accepted.flat) ≡ answer) where
    pub first_is : (N : Names) → Numbers accepted.inference N → First_broken (program_of accepted.flat) answer N
    first_is N num = record {
      types = sub_of program.types.now;
      typing = is.typing N num;
      is = sym (kept_names_answer_the_same N any_kinds (sub_of program.types.now) (program_of accepted.flat)) ∙ ap (λ K. first_broken first_name_alone N K (sub_of program.types.now) (program_of accepted.flat)) (sym is.kinds) ∙ first N (is.names N num);
    }

    pub told_by : Told_by (First_broken (program_of accepted.flat) answer) accepted.inference
    told_by = record { labels = known.infers.typing.labels; some = known.infers.typing.some; holds = first_is }

    pub in_order : (P : Names → Type 0) → ((N : Names) → First_broken (program_of accepted.flat) answer N → P N) → Some_order P
    in_order P h = let w : Numbers_in_order accepted.inference = numbers_in_order accepted.inference known.infers.typing.labels known.ordered known.infers.typing.some in (w.names, w.numbers.names, w.order, h w.names (first_is w.names w.numbers))

module _ (accepted : Accepted) (known : Is_known accepted) (program : Program) (is : Shows accepted program) (rule : Broken) (first : (N : Names) → Knows program.names N → first_broken first_name_alone N (kinds_of program.kinds.now) (sub_of program.types.now) (program_of accepted.flat) ≡ Some rule)
    (names : List Text) (places : List Place) where
  broken_by : (m : Misuse) → Tells names places rule m → Some_order (Is_broken (program_of accepted.flat) names places m)
  broken_by m told = in_order accepted known program is (Some rule) first (Is_broken (program_of accepted.flat) names places m) (λ N w. record { rule = rule; first = w; told = told })

  pub misused : (m : Misuse) → Told names places rule m → Misused (program_of accepted.flat) names places m
  misused misuse.Memory told = tt
  misused (misuse.Consumed name at used) told = broken_by (misuse.Consumed name at used) told
  misused (misuse.NotConsumable name at) told = broken_by (misuse.NotConsumable name at) told
  misused (misuse.Captured name at) told = broken_by (misuse.Captured name at) told
  misused (misuse.ResultAliases name at) told = broken_by (misuse.ResultAliases name at) told
