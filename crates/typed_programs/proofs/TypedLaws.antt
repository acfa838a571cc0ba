-- A program that has been inferred is one of which the laws of its meaning and of its walk speak.
use Rattle.std.proofs.Common.{◌≡◌, ℕ, zero, suc, ◌+◌, ◌^◌, ◌≤◌, ◌<◌, List, [], ◌∷◌, ◌++◌, length, refl, sym, ◌∙◌, ap, subst, arith}
use Rattle.std.specs.List.{All}
use native.Mathlib.Decide.{ℕ_discrete}
use Rattle.fut_scalar.specs.declared.scalar.IntType.{IntType}
use Rattle.fut_scalar.specs.declared.scalar.IntType.TheVariants as int
use Rattle.fut_scalar.specs.declared.scalar.ScalarType.TheVariants as scalar
use Rattle.fut_flat.specs.declared.program.Flat.{Flat}
use Rattle.fut_flat.specs.Numbers.{pattern_numbers, numbers}
use Rattle.fut_types.specs.declared.Kind.{Kind}
use Rattle.fut_types.specs.declared.Kind.TheVariants as kind
use Rattle.fut_types.specs.declared.Head.TheVariants as head
use Rattle.fut_types.specs.Types.{Ty, Var, Made, Tys, none, Sub, Kinds, HasKind, level, applied, scalar_ty}
use Rattle.fut_types.proofs.TyLaws.{rank_var}
use Rattle.fut_typing.specs.Names.{Names}
use Rattle.fut_typing.specs.Scopes.{Scope, nothing}
use Rattle.fut_typing.specs.Patterns.{with_pattern, with_parameters}
use Rattle.fut_typing.specs.Generalised.{own_types, Reused}
use Rattle.fut_typing.specs.Program.{Defined, program_of, program_numbers, definition_scheme, Definitions_typed, Program_typed}
use Rattle.fut_typing.specs.Answers.{Met, default_at, default, Typing_is}
use Rattle.fut_typing.proofs.Programs.{default_suits, program_same}
use Rattle.type_graph.specs.declared.Node.{Node}
use Rattle.type_scopes.specs.declared.Inference.{Inference}
use Rattle.type_infer.specs.Inferring.{Told_by, Has_typing, Infers}
use Rattle.type_infer.specs.Reading.{Comes_to}
use Rattle.type_soundness.specs.Fits.{widest}
use Rattle.fut_meaning.specs.Found.{Told}
use Rattle.fut_meaning.specs.Uses.{is_size_in}
use Rattle.type_soundness.specs.Formed.{Definitions_apart}
use Rattle.type_soundness.specs.Programs.{Definitions_told, Is_sized}
use Rattle.type_soundness.specs.Walks.{Is_sized_walkable}
use Rattle.type_soundness.proofs.Literals.{literal_kept}
use Rattle.typed_programs.specs.Built.{Is_built}
use Rattle.typed_programs.specs.Typed.{integer_at, Is_well_typed, Typed_by, Is_integer, Nodes_tell}
use Rattle.typed_programs.proofs.Integral.{integral}
use Rattle.typed_programs.proofs.Names.{once_each}

-- ---- where defaults are put in, no variable is of integers
same_variable : (v w : ℕ) → Var v ≡ Var w → v ≡ w
same_variable v w e = cc

made_variable : (h : _) (ts : Tys) (v : ℕ) → Made h ts ≡ Var v → ⊥
made_variable h ts v e = cc

integer_level : (k : Kind) → 4 ≤ level k → k ≡ kind.Integer
integer_level kind.Any le = absurd (let z : 4 ≤ 0 = le in omega arith)
integer_level kind.Data le = absurd (let z : 4 ≤ 1 = le in omega arith)
integer_level kind.Equal le = absurd (let z : 4 ≤ 2 = le in omega arith)
integer_level kind.Scalar le = absurd (let z : 4 ≤ 3 = le in omega arith)
integer_level kind.Integer le = refl

default_variable : (v w : ℕ) (k : Kind) → default_at v k ≡ Var w → (v ≡ w) × (k ≡ kind.Integer → ⊥)
default_variable v w kind.Any e = (same_variable v w e, λ i. cc)
default_variable v w kind.Data e = (same_variable v w e, λ i. cc)
default_variable v w kind.Equal e = (same_variable v w e, λ i. cc)
default_variable v w kind.Scalar e = (same_variable v w e, λ i. cc)
default_variable v w kind.Integer e = absurd (made_variable (head.Scalar (scalar.Int int.I32)) none w e)

no_variable : (K : Kinds) (t : Ty) (v : ℕ) → applied (default K) t ≡ Var v → HasKind K kind.Integer (Var v) → ⊥
unfolding applied
no_variable K (Var w) v e k = let d = default_variable w v (K w) e in d.1 (ap K d.0 ∙ integer_level (K v) (subst (λ n. 4 ≤ n) (rank_var K v) k))
no_variable K (Made h ts) v e k = made_variable h _ v e

-- ---- the integer types of nodes, of which one more is read
kept : (xs : List IntType) (x : IntType) (n : ℕ) → n < length xs → integer_at (xs ++ x ∷ []) n ≡ integer_at xs n
unfolding integer_at
kept [] x n lt = absurd (let z : n < 0 = lt in omega arith)
kept (y ∷ xs) x zero lt = refl
kept (y ∷ xs) x (suc n) lt = kept xs x n (let z : suc n < suc (length xs) = lt in omega arith)

newest : (xs : List IntType) (x : IntType) → integer_at (xs ++ x ∷ []) (length xs) ≡ x
unfolding integer_at
newest [] x = refl
newest (y ∷ xs) x = newest xs x

pub nodes_more : (nodes : List Node) (xs ys : List IntType) (x : IntType) (k : ℕ) → length xs ≡ k → ys ≡ xs ++ x ∷ [] → Nodes_tell nodes xs k → ((t : Ty) → Comes_to nodes k t → Is_integer x t) → Nodes_tell nodes ys (k + 1)
nodes_more nodes xs ys x k long is told at n lt t c = subst (λ (l : List IntType). Is_integer (integer_at l n) t) (sym is) (elim (ℕ_discrete n k) as (λ d. Is_integer (integer_at (xs ++ x ∷ []) n) t) [
  | yes e ↦ subst (λ i. Is_integer i t) (sym (ap (integer_at (xs ++ x ∷ [])) (e ∙ sym long) ∙ newest xs x)) (at t (subst (λ m. Comes_to nodes m t) e c))
  | no ne ↦ let below : n < k = omega (arith, ne) in subst (λ i. Is_integer i t) (sym (kept xs x n (omega (arith, below, long)))) (told n below t c)
])

-- the answer is a typing in which variables have the kinds of the principal one
pub typing_holds : (N : Names) (ds : List Defined) (types : Sub) (t : Typing_is N ds types) → Program_typed N kind.Data ds t.principal.kinds types
typing_holds N ds types t = let K : Kinds = t.principal.kinds in
    program_same N kind.Data ds K (λ n. applied (default K) (t.principal.types n)) types (λ n lt. sym (t.is n lt))
    (t.principal.typing K (default K) (λ v. default_suits K v) (subst (All (Met N.shapes (default K))) (sym t.closed) (λ k d h. absurd (omega arith))))

-- ---- the literals of definitions
module _ (N : Names) (K : Kinds) (a : Sub) (integers : List IntType) where
  definitions_told : (many : ℕ) → ((n : ℕ) → n < many → HasKind K kind.Integer (a n) → a n ≡ scalar_ty (scalar.Int (integer_at integers n)))
      → (ds : List Defined) (lo : ℕ) (scope : Scope) → lo + program_numbers ds ≤ many → Definitions_typed N kind.Data ds lo scope K a → Definitions_told (integer_at integers) a ds lo
  definitions_told many tells [] lo scope le h = tt
  definitions_told many tells (d ∷ ds) lo scope le h = (
    λ m l. let inside = literal_kept d.value (lo + pattern_numbers d.name) m l in let up : m < lo + pattern_numbers d.name + numbers d.value = inside.0.1 in
        tells m (omega arith) (integral N kind.Data K a d.value (lo + pattern_numbers d.name) (with_parameters d.parameters (own_types kind.Data d.parameters) scope) h.0.0.0.1 m l),
    definitions_told many tells ds (lo + (pattern_numbers d.name + numbers d.value)) (with_pattern (Reused kind.Data (definition_scheme N kind.Data d lo scope)) d.name lo scope) (omega arith) h.1,
  )

module _ (flat : Flat) (inference : Inference) (integers : List IntType) (built : Is_built flat) where
  typed_so : (N : Names) → program_numbers (program_of flat) ≤ length inference.nodes → length inference.nodes < 2 ^ 32 → Nodes_tell inference.nodes integers (length inference.nodes)
      → Has_typing (program_of flat) inference N → Typed_by flat inference integers N
  typed_so N long short tell has =
      let ds : List Defined = program_of flat in
      let K : Kinds = has.typing.principal.kinds in
      let typed : Program_typed N kind.Data ds K has.types = typing_holds N ds has.types has.typing in
      let small : program_numbers ds < widest = omega arith in
      let tells : (n : ℕ) → n < program_numbers ds → HasKind K kind.Integer (has.types n) → has.types n ≡ scalar_ty (scalar.Int (integer_at integers n))
      = λ n lt k. tell n (omega arith) (has.types n) (has.comes n lt) K k
      (λ v e. no_variable K (has.typing.principal.types n) v (sym (has.typing.is n lt) ∙ e) (subst (HasKind K kind.Integer) e k)) in
      record {
        kinds = K;
        types = has.types;
        typing = has.typing;
        comes = has.comes;
        typed = record { typed = typed; formed = built.formed; told = definitions_told N K has.types integers (program_numbers ds) tells ds 0 nothing (omega arith) typed; once = once_each flat.definitions.now built.rising; small = small };
      }

  pub program_typed : Infers (program_of flat) inference → Nodes_tell inference.nodes integers (length inference.nodes) → Told_by (Typed_by flat inference integers) inference
  program_typed infers tell = record {
    labels = infers.typing.labels;
    some = infers.typing.some;
    holds = λ N numbered. typed_so N infers.long infers.graph.short tell (infers.typing.holds N numbered);
  }

-- ---- of which the laws of the meaning and of the walk speak

module _ {N : Names} {K : Kinds} {a : Sub} {flat : Flat} (T : Told) (w : Is_well_typed N K a T.integer_at flat) where
  -- where a sizing tells its sizes
  pub sized_so : Definitions_apart (is_size_in T.sizes) (program_of flat) → Is_sized N kind.Data K a T flat
  sized_so apart = record { holds_data = omega arith; typed = w.typed; formed = w.formed; apart = apart; told = w.told; once = w.once; small = w.small }

  pub walkable_so : Definitions_apart (is_size_in T.sizes) (program_of flat) → Is_sized_walkable N K a (is_size_in T.sizes) flat
  walkable_so apart = record { typed = w.typed; formed = w.formed; apart = apart; once = w.once; small = w.small }
