-- What operations make, form by form.
use Rattle.std.proofs.Common.{◌≡◌, ℕ, ◌+◌, List, length, get_or, Option, Bool, true, false, Result, Ok, Err, refl, sym, ap, ◌∙◌, subst, arith}
use Rattle.std.specs.Borrow.{Bor}
use Rattle.fut_ast.specs.Sorts.{Text}
use Rattle.fut_ast.specs.declared.node.End.{End}
use Rattle.fut_scalar.specs.declared.operator.BinOp.{BinOp}
use Rattle.fut_scalar.specs.declared.place.BindId.{BindId}
use Rattle.fut_scalar.specs.declared.scalar.IntType.{IntType}
use Rattle.fut_flat.specs.declared.act.Act.{Act}
use Rattle.fut_flat.specs.declared.act.Act.TheVariants as act
use Rattle.fut_flat.specs.declared.prim.Ref.{Ref}
use Rattle.fut_flat.specs.Erased.{operation_of}
use Rattle.fut_flat.specs.Terms.{Operation, Integer, Truth, Tuple_of, Record_of, Binary, Negate, Complement, Project, Assert, Range, Terms}
use Rattle.fut_types.specs.declared.Head.TheVariants as head
use Rattle.fut_types.specs.Types.{Sub}
use Rattle.fut_typing.specs.Names.{Names}
use Rattle.sized_types.specs.Sizes.{At, Size, Level, Built, Sizes, no_size, size_and}
use Rattle.fut_sizes.specs.Agreeing.{Answer, no_size_of, of_type, then_do}
use Rattle.fut_sizes.specs.Operations.{element_ty, is_i64, operation, range_of, record_of}
use Rattle.fut_sizes.specs.Sizing.{second_noted}
use Rattle.fut_sizes.specs.Steps.{State, Done, note, give}
use Rattle.size_arena.specs.declared.agreeing.SizeErr.{SizeErr}
use Rattle.size_arena.specs.declared.agreeing.SizeErr.TheVariants as size_err
use Rattle.size_arena.specs.declared.trees.SizeTree.{SizeTree}
use Rattle.size_arena.specs.Trees.{size_of, sizes_of}
use Rattle.size_arena.proofs.Parts.{parts_at, parts_end}
use Rattle.size_program.specs.declared.tables.Tables.{Tables}
use Rattle.size_program.specs.Answers.{Runs, runs, refused, no_memory_left, Steps}
use Rattle.size_program.proofs.StepLaws.{given}
use Rattle.size_operations.specs.Plain.{Holds_none, operand_noted}

-- ---- what holds no array

pub plain_integer : (c : ℕ) (t : Option IntType) → Holds_none (Integer c t) true
unfolding operation
plain_integer c t = record { plain = λ so N types n at es ts. refl }

pub plain_truth : (b : Bool) → Holds_none (Truth b) true
unfolding operation
plain_truth b = record { plain = λ so N types n at es ts. refl }

pub plain_binary : (op : BinOp) → Holds_none (Binary op) true
unfolding operation
plain_binary op = record { plain = λ so N types n at es ts. refl }

pub plain_negate : Holds_none Negate true
unfolding operation
plain_negate = record { plain = λ so N types n at es ts. refl }

pub plain_complement : Holds_none Complement true
unfolding operation
plain_complement = record { plain = λ so N types n at es ts. refl }

pub plain_assert : Holds_none Assert true
unfolding operation
plain_assert = record { plain = λ so N types n at es ts. refl }

pub plain_not : (o : Operation Ref BindId) → Holds_none o false
plain_not o = record { plain = λ so N types n at es ts. never so }
  where
    never : {A : Type 0} → false ≡ true → A
    never so = cc

pub ruleset plain_forms = (plain_integer, plain_truth, plain_binary, plain_negate, plain_complement, plain_assert, plain_not)

-- ---- a second node

abbrev pub Noted : Unit {0} → Unit {0} → Type 0
Noted u y = y ≡ u

abbrev then_nothing : Answer (Done Size) → Answer (Done (Unit {0}))
then_nothing a = then_do a (λ d. Ok (record { result = tt {0}; state = d.state }))

noted_then : (t : Size) (a : Answer (Done Size)) (g : Tables) (r : Result (Unit {0}) SizeErr) → Runs (λ (u : Unit {0}) (y : Size). y ≡ t) a g r → Runs Noted (then_nothing a) g r
noted_then t a g (Ok u) (runs s p h stands) = runs s (ap then_nothing p) refl stands
noted_then t a g (Err (size_err.Refused e)) (refused p) = refused (ap then_nothing p)
noted_then t a g (Err size_err.Memory) no_memory_left = no_memory_left

module _ (f g : Tables) (n : ℕ) (ts : List SizeTree) where
  pub no_operand : length ts ≡ 0 → Steps Noted (operand_noted n (sizes_of ts)) f f (Ok tt)
  no_operand e = record { steps = λ s stands. runs s (ap (λ z. operand_noted n z s) (parts_end ts 0 (omega (arith, e)))) refl stands }

  pub operand_known : (t : SizeTree) (m : ℕ) (r : Result (Unit {0}) SizeErr) → (length ts ≡ 0 → ⊥) → m ≡ n + 1 → Steps (λ (u : Unit {0}) (y : Size). y ≡ size_of (get_or ts 0 t)) (note m (size_of (get_or ts 0 t))) f g r → Steps Noted (operand_noted n (sizes_of ts)) f g r
  operand_known t m r l e h = record { steps = λ s stands. subst (λ z. Runs Noted z g r) (sym (operand_at s)) (noted_then (size_of (get_or ts 0 t)) (note m (size_of (get_or ts 0 t)) s) g r (h.steps s stands)) }
    where
      behind : 1 + n ≡ m
      behind = omega (arith, e)

      operand_at : (s : State) → operand_noted n (sizes_of ts) s ≡ then_nothing (note m (size_of (get_or ts 0 t)) s)
      operand_at s = ap (λ z. operand_noted n z s) (parts_at ts 0 t (grind (arith, l))) ∙ ap (λ z. then_nothing (note z (size_of (get_or ts 0 t)) s)) behind

pub ruleset operands = (no_operand, operand_known)

module _ (N : Names) (types : Sub) (f g : Tables) (n : ℕ) where
  pub second_binary : (op : BinOp) (ts : Sizes) (r : Result (Unit {0}) SizeErr) → Steps Noted (operand_noted n ts) f g r → Steps Noted (second_noted N types (Binary op) n ts) f g r
  second_binary op no_size r h = record { steps = h.steps }
  second_binary op (size_and t ts) r h = record { steps = h.steps }

  pub second_project : (x : Text) (ts : Sizes) (r : Result (Unit {0}) SizeErr) → Steps Noted (operand_noted n ts) f g r → Steps Noted (second_noted N types (Project x) n ts) f g r
  second_project x no_size r h = record { steps = h.steps }
  second_project x (size_and t ts) r h = record { steps = h.steps }

  stays : Steps Noted (give (tt {0})) f f (Ok (tt {0}))
  stays = given Noted tt tt f refl

  pub second_other : (a : Act) (ts : Sizes) → ((op : BinOp) → a ≡ act.Binary op → ⊥) → ((x : Bor Text) → a ≡ act.Project x → ⊥) → Steps Noted (second_noted N types (operation_of a) n ts) f f (Ok (tt {0}))
  second_other (act.Int c t) ts b p = record { steps = stays.steps }
  second_other (act.Truth c) ts b p = record { steps = stays.steps }
  second_other act.Tuple ts b p = record { steps = stays.steps }
  second_other (act.Record fs) ts b p = record { steps = stays.steps }
  second_other act.Array ts b p = record { steps = stays.steps }
  second_other (act.Binary op) ts b p = elim (b op refl) [ ]
  second_other act.Negate ts b p = record { steps = stays.steps }
  second_other act.Complement ts b p = record { steps = stays.steps }
  second_other (act.Index ps) ts b p = record { steps = stays.steps }
  second_other (act.Project x) ts b p = elim (p x refl) [ ]
  second_other act.Update ts b p = record { steps = stays.steps }
  second_other (act.Replace x) ts b p = record { steps = stays.steps }
  second_other (act.Ascribe t) ts b p = record { steps = stays.steps }
  second_other (act.Coerce t) ts b p = record { steps = stays.steps }
  second_other (act.Declared t) ts b p = record { steps = stays.steps }
  second_other act.Assert ts b p = record { steps = stays.steps }
  second_other (act.Range stepped e) ts b p = record { steps = stays.steps }

pub ruleset seconds = (second_binary, second_project, second_other)

-- ---- operations one by one

module _ (N : Names) (types : Sub) (n at : ℕ) (es : Terms Ref BindId) (ts : Sizes) where
  pub tuple_is : operation N types Tuple_of n at es ts ≡ Ok (Built head.Tuple ts)
  unfolding operation
  tuple_is = refl

  pub record_is : (fs : List Text) → operation N types (Record_of fs) n at es ts ≡ Ok (record_of N fs (types n) ts)
  unfolding operation
  record_is fs = refl

  pub range_is : (stepped : Bool) (e : End) → operation N types (Range stepped e) n at es ts ≡ Ok (Level (At (range_of (is_i64 (element_ty (types n))) n stepped e es)) (of_type (no_size_of n) 0 (element_ty (types n))))
  unfolding operation
  range_is stepped e = refl
