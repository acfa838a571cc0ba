-- The types of the names of blocks, and when a step is typed: its operands are of types on which it is defined. Names are bound
-- once, so a name has each type that its step may have, as where the value of a `let` is typed anew for each use (Wright and
-- Felleisen, "A syntactic approach to type soundness"). That is one type, but for what comes of an array without rows: a
-- definition such as `def e = []` is one name, which is used at several types.
use Rattle.std.specs.Prelude.{◌≡◌, ◌⊎◌, ◌≤◌, ◌<◌, ℕ, zero, suc, true, false, List, [], ◌∷◌, length}
use Rattle.std.specs.List.{AllByRecursion}
use Rattle.fut_scalar.specs.declared.operator.UnOp.{UnOp}
use Rattle.fut_scalar.specs.declared.operator.UnOp.TheVariants as unary
use Rattle.fut_scalar.specs.declared.place.BindId.{BindId}
use Rattle.fut_arithmetic.specs.Types.{type_of}
use Rattle.fut_ast.specs.Sorts.{Text}
use Rattle.fut_flat.specs.declared.prim.Primitive.{Primitive}
use Rattle.fut_flat.specs.declared.prim.Ref.{Ref}
use Rattle.fut_flat.specs.Terms as terms
use Rattle.fut_types.specs.declared.Kind.TheVariants as kind
use Rattle.fut_types.specs.declared.Head.TheVariants as head
use Rattle.fut_types.specs.Shapes.{HasPart}
use Rattle.fut_types.specs.Types.{Ty, Made, Tys, none, more, Sub, Kinds, HasKind, scalar_ty, applied}
use Rattle.fut_typing.specs.Names.{Names, IsRecord, Spells, count}
use Rattle.fut_typing.specs.Patterns.{arrows}
use Rattle.fut_typing.specs.Primitives.{array_ty, bool_ty, i32_ty, i64_ty, prim_type}
use Rattle.fut_typing.specs.Rules.{Operator, Rule}
use Rattle.fut_meaning.specs.Arrays.{Making, Make_array, Make_index, Make_update, Make_range}
use Rattle.fut_meaning.specs.Datums.{takes}
use Rattle.fut_meaning.specs.Operations.{parameters_of, arity, is_of_scalars}
use Rattle.fut_meaning.specs.Values.{is_before}
use Rattle.type_soundness.specs.Fits.{widest}
use Rattle.type_soundness.specs.Meant.{Operation_meant}
use Rattle.fut_blocks.specs.declared.block.Atom.{Atom}
use Rattle.fut_blocks.specs.declared.block.Atom.TheVariants as atom
use Rattle.fut_blocks.specs.declared.block.Operation.{Operation}
use Rattle.fut_blocks.specs.declared.block.Operation.TheVariants as operation
use Rattle.unfold.specs.Unfolding.{names}
use Rattle.unfold_laws.specs.Standing.{All_in_row, All_in_extent, All_in_test}
use Rattle.fut_blocks.specs.Plain.{Reading, Record_with, Part_at, Replace_at, Fields_at, Action, Operate, Tuple, Make, Read, Size_of, Coerce, Job, If, For, Over, While, Body, Give, Let}

-- ---- atoms

-- the types that each atom has
abbrev pub Types : Type 1
Types = Atom → Ty → Type 0

-- where there is no name
abbrev pub of_constants : Types
of_constants (atom.Name x) t = ⊥
of_constants (atom.Constant s) t = t ≡ scalar_ty (type_of s)

abbrev pub Are : Types → List Atom → Tys → Type 0
Are G [] none = Unit {0}
Are G [] (more t ts) = ⊥
Are G (u ∷ us) none = ⊥
Are G (u ∷ us) (more t ts) = G u t × Are G us ts

-- of a row of types that of the place where the atom stands
abbrev pub Stands_at : List Atom → Tys → Atom → Ty → Type 0
Stands_at [] ts u t = ⊥
Stands_at (w ∷ ws) none u t = ⊥
Stands_at (w ∷ ws) (more v vs) u t = ((w ≡ u) × (v ≡ t)) ⊎ Stands_at ws vs u t

-- with atoms of these types
abbrev pub with_atoms : List Atom → Tys → Types → Types
with_atoms us ts G u t = Stands_at us ts u t ⊎ G u t

abbrev pub with_names : List ℕ → Tys → Types → Types
with_names xs ts G = with_atoms (names xs) ts G

abbrev pub with_name : ℕ → Ty → Types → Types
with_name x t G = with_names (x ∷ []) (more t none) G

-- with new names, of each row of types that there may be
abbrev pub with_each : List ℕ → (Tys → Type 0) → Types → Types
with_each xs P G u t = ((ts : Tys) × P ts × Stands_at (names xs) ts u t) ⊎ G u t

-- it stands for data of some type
abbrev pub Stands : Types → Atom → Type 0
Stands G u = (t : Ty) × G u t

-- ---- acts

-- of an operation on one scalar: its operand and its result
abbrev pub One : Kinds → UnOp → Ty → Ty → Type 0
One K unary.Neg u t = (t ≡ u) × HasKind K kind.Integer u
One K unary.Not u t = (t ≡ u) × HasKind K kind.Scalar u
One K unary.Abs u t = (t ≡ u) × HasKind K kind.Integer u
One K unary.Popc u t = (t ≡ i32_ty) × HasKind K kind.Integer u

abbrev pub Operation_typed : Kinds → Types → Operation → Tys → Type 0
Operation_typed K G (operation.Binary op at a b) ts = (t : Ty) × (u : Ty) × Operator op K t u × G a u × G b u × (ts ≡ more t none)
Operation_typed K G (operation.Unary op a) ts = (t : Ty) × (u : Ty) × One K op u t × G a u × (ts ≡ more t none)
Operation_typed K G (operation.Convert to a) ts = (u : Ty) × HasKind K kind.Scalar u × G a u × (ts ≡ more (scalar_ty to) none)
Operation_typed K G (operation.Assert at a) ts = G a bool_ty × (ts ≡ none)
Operation_typed K G (operation.Parts a) ts = G a (Made head.Tuple ts)

-- what is made of parts has the type that the language's rule gives to its operation; an index has an index, and an update a place and a value
abbrev pub operation_of : Making → terms.Operation Ref BindId
operation_of Make_array = terms.Array_of
operation_of (Make_index ps) = terms.Index ps
operation_of Make_update = terms.Update
operation_of (Make_range stepped end) = terms.Range stepped end

abbrev pub Makes : Names → Kinds → Making → Tys → Ty → Type 0
Makes N K m us t = Operation_meant (operation_of m) (count us) × ((u : Ty) × Rule N kind.Data K (operation_of m) t u us)

-- the names of fields as they stand in data
abbrev pub In_name_order : List Text → Type 0
In_name_order [] = Unit {0}
In_name_order (f ∷ fs) = AllByRecursion (λ g. is_before f g ≡ true) fs × In_name_order fs

-- A tuple's part is never replaced: its name would be a number.
abbrev pub Reads : Names → Reading → Tys → Tys → Type 0
Reads N (Record_with fs) us ts = (t : Ty) × IsRecord N fs t us × In_name_order fs × (ts ≡ more t none)
Reads N (Part_at f) (more u none) ts = (t : Ty) × HasPart N.shapes (N.label f) u t × (ts ≡ more t none)
Reads N (Replace_at f) (more u (more v none)) ts = ((n : ℕ) → Spells f n → ⊥) × HasPart N.shapes (N.label f) u v × (ts ≡ more u none)
Reads N (Fields_at fs) (more u none) ts = IsRecord N fs u ts
Reads N k us ts = ⊥

-- of the parameters of a primitive those that are data, and the one that is a function; where there is none, a tuple without parts
abbrev pub data_types : List ℕ → Tys → Tys
data_types [] ts = none
data_types (k ∷ ks) none = none
data_types (zero ∷ ks) (more t ts) = more t (data_types ks ts)
data_types (suc k ∷ ks) (more t ts) = data_types ks ts

abbrev pub function_type : List ℕ → Tys → Ty
function_type [] ts = Made head.Tuple none
function_type (k ∷ ks) none = Made head.Tuple none
function_type (zero ∷ ks) (more t ts) = function_type ks ts
function_type (suc k ∷ ks) (more t ts) = t

-- A primitive on data of the types `us`, with a function from `fs` to `r`, gives data of `t`: so the table of primitives has it, for
-- some types of what arrays may hold.
pub record Primitive_typed (K : Kinds) (p : Primitive) (us fs : Tys) (r t : Ty) : Type 0 where
  pub on_arrays : is_of_scalars p ≡ false
  pub some : 1 ≤ arity p
  pub given : Sub
  pub kinds : (n : ℕ) → HasKind K kind.Data (given n)
  pub parameters : Tys
  pub is : applied given (prim_type p) ≡ arrows parameters t
  pub all : count parameters ≡ arity p
  pub taken : us ≡ data_types (parameters_of p) parameters
  pub function : function_type (parameters_of p) parameters ≡ arrows fs r
  pub of_function : count fs ≡ takes (parameters_of p)

-- ---- blocks

-- New names may have each row of types of which `May` holds. Of the shapes of rows that are missing nothing is asked but that their
-- atoms stand for data: no row shows whether it has that shape.
module _ (N : Names) (K : Kinds) (May : Tys → Type 0) where
  unfoldable mutual
    pub Act_typed : Action → Types → Tys → Type 0
    Act_typed (Operate o) G ts = Operation_typed K G o ts
    Act_typed (Tuple us) G ts = (parts : Tys) × Are G us parts × (count parts < widest) × (ts ≡ more (Made head.Tuple parts) none)
    Act_typed (Make row m at us) G ts = (parts : Tys) × (t : Ty) × All_in_row (Stands G) row × Are G us parts × Makes N K m parts t × (ts ≡ more t none)
    Act_typed (Read k us) G ts = (parts : Tys) × Are G us parts × Reads N k parts ts
    Act_typed (Size_of e) G ts = All_in_extent (Stands G) e × (ts ≡ more i64_ty none)
    Act_typed (Coerce at test row) G ts = All_in_test (Stands G) test × All_in_row (Stands G) row × (ts ≡ none)
    Act_typed (Job row p at us xs b) G ts =
        (taken : Tys) × (fs : Tys) × (r : Ty) × (t : Ty) × All_in_row (Stands G) row × Are G us taken × Primitive_typed K p taken fs r t × May fs × Body_typed b (with_names xs fs G) (more r none) × (length xs ≡ count fs) × (ts ≡ more t none)
    Act_typed (If c a b) G ts = G c bool_ty × Body_typed a G ts × Body_typed b G ts
    Act_typed (For xs us i n b) G ts = Are G us ts × (length xs ≡ count ts) × (t : Ty) × May (more t ts) × HasKind K kind.Integer t × G n t × Body_typed b (with_name i t (with_names xs ts G)) ts
    Act_typed (Over xs us x rows b) G ts = Are G us ts × (length xs ≡ count ts) × (t : Ty) × May (more t ts) × G rows (array_ty t) × Body_typed b (with_name x t (with_names xs ts G)) ts
    Act_typed (While at xs us c b) G ts = Are G us ts × (length xs ≡ count ts) × May ts × Body_typed c (with_names xs ts G) (more bool_ty none) × Body_typed b (with_names xs ts G) ts

    -- each step has some types, and its names have all of them
    pub Body_typed : Body → Types → Tys → Type 0
    Body_typed (Give us) G ts = Are G us ts
    Body_typed (Let xs a b) G ts = ((ss : Tys) × (May ss × Act_typed a G ss) × (length xs ≡ count ss)) × Body_typed b (with_each xs (λ us. May us × Act_typed a G us) G) ts

-- the rows of types of names for what an act gives
abbrev pub Names_typed : Names → Kinds → (Tys → Type 0) → Action → Types → Tys → Type 0
Names_typed N K May a G ts = May ts × Act_typed N K May a G ts

-- where names may have any types
abbrev pub any_types : Tys → Type 0
any_types ts = Unit {0}
