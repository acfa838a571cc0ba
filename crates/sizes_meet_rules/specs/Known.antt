-- What is known of the names in scope: those that a typing uses have sized types of which only some sizes and type variables
-- are said, and what is said of them can be found when the program runs.
use Rattle.std.specs.Prelude.{◌≡◌, ◌⊎◌, ℕ, ◌<◌, Bool, true, false, Option, Some}
use Rattle.fut_scalar.specs.declared.scalar.ScalarType.TheVariants as scalar
use Rattle.fut_scalar.specs.declared.scalar.IntType.TheVariants as int
use Rattle.fut_types.specs.declared.Head.{Head}
use Rattle.fut_types.specs.declared.Head.TheVariants as head
use Rattle.fut_types.specs.Types.{Ty, Sub, Kinds, fun_ty}
use Rattle.fut_typing.specs.Names.{Names}
use Rattle.fut_typing.specs.Primitives.{i64_ty}
use Rattle.fut_typing.specs.Scopes.{Scope as TypeScope}
use Rattle.sized_types.specs.Sizes.{Free, Const, Name, Variable, Inferred, Size, Hole, Open, Level, Built, Fun, Sizes, no_size, size_and, erased}
use Rattle.fut_sizes.specs.Functions.{is_slot}
use Rattle.fut_sizes.specs.Rules.{Each_hole, Outside}
use Rattle.fut_sizes.specs.Scopes.{Scope}
use Rattle.fut_sizes.specs.Scoping.{Context}
use Rattle.fut_sizes.specs.Suiting.{Each, Scoped, Of_positions}

-- what data is made by beside arrays and type variables
abbrev pub Is_made : Head → Type 0
Is_made head.Array = ⊥
Is_made head.Fun = ⊥
Is_made (head.Rigid n k) = ⊥
Is_made h = Unit {0}

-- of type i64: such a value is a size
abbrev pub head_i64 : Head → Bool
head_i64 (head.Scalar (scalar.Int int.I64)) = true
head_i64 h = false

abbrev pub is_i64_size : Size → Bool
is_i64_size (Built h no_size) = head_i64 h
is_i64_size t = false

-- nothing is open; what a function takes names the sizes that its caller chooses, and no others of its frame; what it gives names
-- the argument only where that is of type i64; each size that its caller chooses stands in what it takes
unfoldable mutual
  pub Formed : Size → Type 0
  Formed (Hole v) = Unit {0}
  Formed (Open n v u) = ⊥
  Formed (Level d t) = Formed t
  Formed (Built h ts) = Is_made h × All_formed ts
  Formed (Fun k p r) = Formed p × Formed r × Each (Of_positions (λ i. i < k)) 1 p × (is_i64_size p ≡ false → Each (Of_positions (λ i. i ≡ k → ⊥)) 1 r) × ((i : ℕ) → i < k → Each (Of_positions (λ m. m ≡ i → ⊥)) 1 p → ⊥)

  pub All_formed : Sizes → Type 0
  All_formed no_size = Unit {0}
  All_formed (size_and t ts) = Formed t × All_formed ts

-- only these sizes and these type variables stand in it, and nothing that is still open
pub record Says (In : Free → Type 0) (Vars : Variable → Type 0) (t : Size) : Type 0 where
  pub sizes : Each (Scoped In) 0 t
  pub variables : Each_hole Vars t
  pub formed : Formed t

-- of a name that is used at a type. A general one is a function without type variables, used at the type of the pattern that
-- binds it, or a definition that is a number of type i64, or one all of whose uses have its type.
pub record Known_name (In : Free → Type 0) (Vars : Variable → Type 0) (types : Sub) (home : ℕ → ℕ) (scope : Scope) (b : ℕ) (t : Ty) : Type 0 where
  pub size : Size
  pub is_general : Bool
  pub known : scope b ≡ Some (record { size = size; is_general = is_general })
  pub says : Says In Vars size
  pub closed : is_general ≡ true → Each_hole (λ v. ⊥) size
  pub function : is_general ≡ true → ((p : Ty) × (r : Ty) × (t ≡ fun_ty p r)) ⊎ ((types (home b) ≡ i64_ty) ⊎ (t ≡ types (home b)))
  pub typed : (is_general ≡ true → t ≡ types (home b)) → erased size ≡ t
  pub number : is_i64_size size ≡ true → In (Name b)

abbrev pub Known_names : (Free → Type 0) → (Variable → Type 0) → (ℕ → ℕ) → Scope → Kinds → Sub → TypeScope → Type 0
Known_names In Vars home scope K types T = (b : ℕ) (t : Ty) → T.uses b K types t → Known_name In Vars types home scope b t

abbrev pub Is_const : Free → Type 0
Is_const (Const c) = Unit {0}
Is_const d = ⊥

-- no name's sized type is still open
abbrev pub All_names : (Size → Type 0) → (ℕ → Option Size) → Type 0
All_names P names = (b : ℕ) (t : Size) → names b ≡ Some t → P t

abbrev pub None_open : Context → Type 0
None_open G = All_names (Each_hole (λ v. Unit {0})) G.sizes × All_names (Each_hole (λ v. Unit {0})) G.schemes

-- the rules know the same of the names in scope
pub record Judged (In : Free → Type 0) (Vars : Variable → Type 0) (scope : Scope) (G : Context) : Type 0 where
  pub sizes : (b : ℕ) (t : Size) → scope b ≡ Some (record { size = t; is_general = false }) → G.sizes b ≡ Some t
  pub schemes : (b : ℕ) (t : Size) → scope b ≡ Some (record { size = t; is_general = true }) → G.schemes b ≡ Some t
  pub none_open : None_open G
  pub finds : (d : Free) → In d → (G.finds d ≡ true) ⊎ Is_const d
  pub finds_types : (v : Variable) → Vars v → G.finds_types v ≡ true

-- these sizes are no slots, and are made and bound at none of these nodes
pub record Elsewhere (N : Names) (types : Sub) (home : ℕ → ℕ) (lo hi : ℕ) (In : Free → Type 0) : Type 0 where
  pub no_slot : (d : Free) → In d → is_slot d ≡ false
  pub outside : (d : Free) → In d → Outside N types (λ n. Hole (Inferred n)) home lo hi d
