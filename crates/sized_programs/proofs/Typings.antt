-- What the pass over sizes takes, and what it answers, of the typing of a program.
use Rattle.std.proofs.Common.{◌≡◌, ℕ, ◌<◌, List, sym, ◌∙◌, ap}
use Rattle.std.specs.Prelude.{Result, Ok, Err}
use Rattle.fut_ast.specs.Sorts.{Text}
use Rattle.fut_scalar.specs.declared.place.Place.{Place}
use Rattle.fut_types.specs.Shapes.{IsTable}
use Rattle.fut_types.specs.Types.{Ty}
use Rattle.fut_typing.specs.Names.{Names}
use Rattle.fut_typing.specs.Program.{Defined, program_numbers}
use Rattle.sized_types.specs.Sizes.{Size}
use Rattle.fut_sizes.specs.Agreeing.{Answer}
use Rattle.fut_sizes.specs.Programs.{sizing}
use Rattle.type_infer.specs.Inferring.{Infers, Numbers, Told_by}
use Rattle.type_infer.specs.Reading.{Comes_to}
use Rattle.type_scopes.specs.declared.Inference.{Inference}
use Rattle.alias_parts.specs.Known.{Knows}
use Rattle.size_arena.specs.declared.agreeing.Refusal.{Refusal}
use Rattle.size_arena.specs.declared.agreeing.SizeErr.{SizeErr}
use Rattle.size_arena.specs.declared.agreeing.SizeErr.TheVariants as size_err
use Rattle.size_arena.specs.Answers.{refusal_of}
use Rattle.size_program.proofs.StepLaws.{answered}
use Rattle.size_program.specs.Answers.{Answers, answers, refuses, no_memory}
use Rattle.size_program.specs.Program.{sub_of}
use Rattle.size_program.specs.Tables.{node_at}
use Rattle.size_program.specs.declared.program.Program.{Program}
use Rattle.size_program.specs.declared.tables.Tables.{Tables}
use Rattle.typed_programs.specs.Ordered.{Is_ordered, Some_order}
use Rattle.typed_programs.proofs.Ordering.{in_some_order}
use Rattle.unique_programs.proofs.Typings.{shown_names, shown_typing}
use Rattle.sized_programs.specs.Sizings.{Has_sizing, Is_sized}
use Rattle.sized_programs.specs.Misfits.{Is_refused, Misfits, Tells, Told}
use Rattle.sized_programs.specs.Prepared.{Is_prepared}
use Rattle.sized_programs.specs.declared.checking.Sizing.{Sizing}
use Rattle.sized_programs.specs.declared.misfit.Misfit.{Misfit}
use Rattle.sized_programs.specs.declared.misfit.Misfit.TheVariants as misfit

-- what the tables hold of the definition's nodes
abbrev pub Holds_nodes : Tables → (ℕ → Size) → Type 0
Holds_nodes t nodes = (n : ℕ) → nodes n ≡ node_at t.nodes n

-- the refusal is that of the definition
pub refused_by : {A B : Type 0} (R : B → A → Type 0) (a : Answer A) (k : Result B SizeErr) → Answers R a k → (e : Refusal) → k ≡ Err (size_err.Refused e) → a ≡ Err (refusal_of e)
refused_by {A = A} {B = B} R a k first e is = by_first first is
  where
    ok : (x : B) → Result B SizeErr
    ok x = Ok x

    err : (x : SizeErr) → Result B SizeErr
    err x = Err x

    never : (x : B) → ok x ≡ err (size_err.Refused e) → ⊥
    never x p = cc

    no : err size_err.Memory ≡ err (size_err.Refused e) → ⊥
    no p = cc

    same : (d : Refusal) → err (size_err.Refused d) ≡ err (size_err.Refused e) → d ≡ e
    same d p = cc

    by_first : {k : Result B SizeErr} → Answers R a k → k ≡ err (size_err.Refused e) → a ≡ Err (refusal_of e)
    by_first (answers {x = x} p h) is = elim (never x is) [ ]
    by_first (refuses {e = d} p) is = p ∙ ap (λ (r : Refusal). Err (refusal_of r)) (same d is)
    by_first no_memory is = elim (no is) [ ]

module _ (ds : List Defined) (inference : Inference) (infers : Infers ds inference) where
  -- what holds of each numbering holds of one, and of one in order
  pub told_by : (P : Names → Type 0) → ((N : Names) → Numbers inference N → P N) → Told_by P inference
  told_by P h = record { labels = infers.typing.labels; some = infers.typing.some; holds = h }

  pub in_order : (P : Names → Type 0) → Is_ordered inference → ((N : Names) → Numbers inference N → P N) → Some_order P
  in_order P ordered h = in_some_order P inference (told_by P h) ordered

  module _ (program : Program) where
    pub prepares : IsTable program.names.table.now → program.names.numbers.now ≡ inference.labels.numbers → program.names.table.now ≡ inference.table
        → ((n : ℕ) → n < program_numbers ds → (t : Ty) → Comes_to inference.nodes n t → sub_of program.types.now n ≡ t) → Is_prepared ds inference program
    prepares table numbers same types = record {
      table = table;
      names = shown_names inference program.names numbers same;
      typing = shown_typing ds inference infers (sub_of program.types.now) types;
    }

    module _ (is : Is_prepared ds inference program) (k : Result Tables SizeErr) (first : (N : Names) → Knows program.names N → Answers Holds_nodes (sizing N (sub_of program.types.now) ds) k) where
      is_sized : (answer : Answer (ℕ → Size)) (N : Names) → Numbers inference N → sizing N (sub_of program.types.now) ds ≡ answer → Is_sized ds answer N
      is_sized answer N num e = record { types = sub_of program.types.now; typing = is.typing N num; is = e }

      -- the sizing
      pub has_sizing : (t : Tables) → k ≡ Ok t → (found : Sizing) → found.nodes ≡ t.nodes → (N : Names) → Numbers inference N → Has_sizing ds found N
      has_sizing t e found same N num =
          let d = answered Holds_nodes (sizing N (sub_of program.types.now) ds) k (first N (is.names N num)) t e in record {
            sizes = d.result;
            sized = is_sized (Ok d.result) N num d.is;
            nodes = λ n. d.related n ∙ ap (λ nodes. node_at nodes n) (sym same);
          }

      -- a refusal
      module _ (e : Refusal) (ordered : Is_ordered inference) (refused : k ≡ Err (size_err.Refused e)) (names : List Text) (places : List Place) where
        refused_as : (m : Misfit) → Tells names places (refusal_of e) m → Some_order (Is_refused ds names places m)
        refused_as m told = in_order (Is_refused ds names places m) ordered (λ N num. record {
          refusal = refusal_of e;
          first = is_sized (Err (refusal_of e)) N num (refused_by Holds_nodes (sizing N (sub_of program.types.now) ds) k (first N (is.names N num)) e refused);
          told = told;
        })

        pub misfits : (m : Misfit) → Told names places (refusal_of e) m → Misfits ds names places m
        misfits misfit.Memory told = tt
        misfits (misfit.SizesDiffer left right at) told = refused_as (misfit.SizesDiffer left right at) told
        misfits (misfit.Escapes at) told = refused_as (misfit.Escapes at) told
        misfits (misfit.Irregular at) told = refused_as (misfit.Irregular at) told
