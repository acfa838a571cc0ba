-- What the parts of a run answer, whatever names stand, in words of the meaning. Want of memory may come anywhere.
use Rattle.std.specs.Prelude.{◌≡◌, ℕ, ◌&&◌, int_le, ◌<◌, ◌≤◌, ◌+◌, ◌^◌, List, [], ◌∷◌, ◌++◌, length, map, get_or, slice_get, slice_set, Bool, Some, None, Option, ℤ, pos, negsuc, Result, Ok, Err}
use Rattle.fut_scalar.specs.Integers.{width_of}
use Rattle.fut_scalar.specs.declared.operator.BinOp.{BinOp}
use Rattle.fut_scalar.specs.declared.operator.UnOp.{UnOp}
use Rattle.fut_scalar.specs.declared.place.Place.{Place}
use Rattle.fut_scalar.specs.declared.report.Report.{Report}
use Rattle.fut_scalar.specs.declared.scalar.IntType.{IntType}
use Rattle.fut_scalar.specs.declared.scalar.IntType.TheVariants.{I64}
use Rattle.fut_scalar.specs.declared.scalar.Scalar.{Scalar}
use Rattle.fut_scalar.specs.declared.scalar.Scalar.TheVariants as scalar
use Rattle.fut_scalar.specs.declared.scalar.ScalarType.{ScalarType}
use Rattle.fut_scalar.specs.declared.scalar.ScalarType.TheVariants as sort
use Rattle.fut_arithmetic.specs.Types.{type_of, IsDefined, IsDefinedOfOne, IsOf, result_type, result_type_of_one}
use Rattle.fut_arithmetic.specs.Conversions.{converted}
use Rattle.fut_arithmetic.specs.Words.{word_of}
use Rattle.fut_meaning.specs.Accessors.{or_wrong, truth_of_scalar, turns_of_scalar}
use Rattle.fut_meaning.specs.Operations.{reported}
use Rattle.fut_meaning.specs.Operators.{binary_result, unary_result}
use Rattle.fut_meaning.specs.Outcomes.{Out, Val, Fail, and_then, Rel}
use Rattle.fut_blocks.specs.Meaning.{bound}
use Rattle.fut_blocks.specs.Numbered.{Upward}
use Rattle.core_arrays.specs.Arenas.{Array, Arena}
use Rattle.core_ir.specs.declared.block.Var.{Var}
use Rattle.core_ir.specs.declared.block.Atom.{Atom}
use Rattle.core_ir.specs.declared.block.Operation.{Operation}
use Rattle.core_ir.specs.Arrays.{exact_in}
use Rattle.core_ir.specs.Bundles.{Component, One, Row}
use Rattle.core_ir.specs.Meaning.{Env, Results, value_of, values_of, scalar_at, truth_at, holds, number, operated}
use Rattle.core_ir.specs.Typed.{Sort, Sorts, sort_of, scalar_sort, truth_sort, with_vars, Atom_is, Atoms_are, Operation_gives, Integer}
use Rattle.core_code.specs.Registers.{State, Shows, AllShow, Stands, Kept}
use Rattle.core_code.specs.declared.stop.Stop.{Stop}
use Rattle.core_code.specs.declared.stop.Stop.TheVariants.{Failed, Memory}

-- of a call that gives nothing
abbrev pub Answer : Type 0
Answer = Result (Unit {0}) Stop

-- an error that only says that memory ran out
abbrev pub OnlyMemory : {X : Type 0} → Result X Stop → Type 0
OnlyMemory (Ok x) = Unit {0}
OnlyMemory (Err e) = e ≡ Memory

-- ---- scalars

-- the word of the scalar that an outcome has
pub data WordTold (t : ScalarType) (o : Out Scalar) : Result ℕ Stop → Type 0 where
  word_told : {s : Scalar} {w : ℕ} → o ≡ Val s → IsOf t s → w ≡ word_of s → WordTold t o (Ok w)
  word_failed : {r : Report} → o ≡ Fail r → WordTold t o (Err (Failed r))
  no_word : WordTold t o (Err Memory)

unfoldable pub Binary_told : BinOp → Place → ScalarType → ℕ → ℕ → Result ℕ Stop → Type 0
Binary_told op at t a b r = (x y : Scalar) → IsOf t x → IsOf t y → IsDefined op t → a ≡ word_of x → b ≡ word_of y → WordTold (result_type op t) (reported at (binary_result op x y)) r

unfoldable pub Unary_told : UnOp → ScalarType → ℕ → Result ℕ Stop → Type 0
Unary_told op t a r = (x : Scalar) → IsOf t x → IsDefinedOfOne op t → a ≡ word_of x → WordTold (result_type_of_one op t) (or_wrong (unary_result op x)) r

-- a word of one type as a word of another
unfoldable pub Converts : ScalarType → ScalarType → ℕ → ℕ → Type 0
Converts to t a w = (x : Scalar) → IsOf t x → a ≡ word_of x → IsOf to (converted to x) × (w ≡ word_of (converted to x))

-- a size that an integer asks for; one below 0 asks for none
abbrev pub asked : ℤ → Option ℕ
asked (pos n) = Some n
asked (negsuc n) = None

-- the first size of an array
pub data FirstTold (sizes : List ℕ) : Result ℕ Stop → Type 0 where
  first_told : {n : ℕ} {ds : List ℕ} → sizes ≡ n ∷ ds → n < 2 ^ 64 → FirstTold sizes (Ok n)
  no_first : FirstTold sizes (Err Memory)

unfoldable pub First_size : List Array → ℕ → Result ℕ Stop → Type 0
First_size rs at r = (a : Array) → slice_get rs at ≡ Some a → FirstTold a.sizes r

-- one of the sizes of an array
pub data DimensionTold (sizes : List ℕ) (k : ℕ) : Result ℕ Stop → Type 0 where
  dimension_told : {n : ℕ} → slice_get sizes k ≡ Some n → n < 2 ^ 64 → DimensionTold sizes k (Ok n)
  no_dimension : DimensionTold sizes k (Err Memory)

unfoldable pub Dimension_read : List Array → ℕ → ℕ → Result ℕ Stop → Type 0
Dimension_read rs at k r = (a : Array) → slice_get rs at ≡ Some a → DimensionTold a.sizes k r

-- ---- operands

-- a word that stands for the component that an outcome has
pub data Read (o : Out Component) (rs : List Array) (s : Sort) : Result ℕ Stop → Type 0 where
  read : {c : Component} {w : ℕ} → o ≡ Val c → Shows rs s c w → Read o rs s (Ok w)
  no_memory_read : Read o rs s (Err Memory)

unfoldable pub Reads : List ℕ → Atom → Result ℕ Stop → Type 0
Reads t u r = (G : Sorts) (env : Env) (n : ℕ) (rs : List Array) (s : Sort) → Stands G env n rs t → Atom_is G u s → Read (value_of env u) rs s r

-- words for the components that an outcome has, above others
pub data ReadAll (o : Out Row) (rs : List Array) (ss : List Sort) (stack stack' : List ℕ) : Answer → Type 0 where
  read_all : {cs : Row} {ws : List ℕ} → o ≡ Val cs → AllShow rs ss cs ws → stack' ≡ stack ++ ws → ReadAll o rs ss stack stack' (Ok tt)
  no_memory_read_all : ReadAll o rs ss stack stack' (Err Memory)

unfoldable pub Reads_all : List ℕ → List Atom → List ℕ → List ℕ → Answer → Type 0
Reads_all t us stack stack' r = (G : Sorts) (env : Env) (n : ℕ) (rs : List Array) (ss : List Sort) → Stands G env n rs t → Atoms_are G us ss → ReadAll (values_of env us) rs ss stack stack' r

pub data TruthTold (o : Out Bool) : Result Bool Stop → Type 0 where
  truth_told : {b : Bool} → o ≡ Val b → TruthTold o (Ok b)
  no_truth : TruthTold o (Err Memory)

-- whether the integers of two operands are the same
abbrev pub sizes_same : Env → Atom → Atom → Out Bool
sizes_same env a b = and_then (value_of env a) (λ c. and_then (value_of env b) (λ d. and_then (exact_in c) (λ z. and_then (exact_in d) (λ w. Val (int_le z w && int_le w z)))))

unfoldable pub Truth_reads : List ℕ → Atom → Result Bool Stop → Type 0
Truth_reads t u r = (G : Sorts) (env : Env) (n : ℕ) (rs : List Array) → Stands G env n rs t → Atom_is G u truth_sort → TruthTold (truth_at env u) r

-- how many turns an integer of a type says
pub data TurnsTold (t : IntType) (o : Out (IntType × ℕ)) : Result ℕ Stop → Type 0 where
  turns_told : {k : ℕ} → o ≡ Val (t, k) → k < 2 ^ width_of t → TurnsTold t o (Ok k)
  no_turns : TurnsTold t o (Err Memory)

unfoldable pub Turns_read : List ℕ → IntType → Atom → Result ℕ Stop → Type 0
Turns_read table t u r = (G : Sorts) (env : Env) (n : ℕ) (rs : List Array) → Stands G env n rs table → Atom_is G u (sort.Int t, 0) → TurnsTold t (and_then (scalar_at env u) turns_of_scalar) r

-- whether two sizes are the same integer
unfoldable pub Sizes_told : List ℕ → Atom → Atom → Result Bool Stop → Type 0
Sizes_told t a b r = (G : Sorts) (env : Env) (n : ℕ) (rs : List Array) (s s' : Sort) → Stands G env n rs t → Integer s → Integer s' → Atom_is G a s → Atom_is G b s' → TruthTold (sizes_same env a b) r

-- one word more
pub data Pushed (w : ℕ) (stack stack' : List ℕ) : Answer → Type 0 where
  pushed : stack' ≡ stack ++ w ∷ [] → Pushed w stack stack' (Ok tt)
  not_pushed : Pushed w stack stack' (Err Memory)

-- ---- names

-- a register has another word
pub data Set (x w : ℕ) (t t' : List ℕ) : Answer → Type 0 where
  set : x < length t → t' ≡ slice_set t x w → Set x w t t' (Ok tt)
  not_set : Set x w t t' (Err Memory)

-- the registers with a word for each name
unfoldable pub stored : List ℕ → List ℕ → List ℕ → List ℕ
stored [] ws t = t
stored (x ∷ xs) [] t = t
stored (x ∷ xs) (w ∷ ws) t = stored xs ws (slice_set t x w)

-- each name has its word
pub data Stored (xs : List Var) (ws t t' : List ℕ) : Answer → Type 0 where
  is_stored : length xs ≡ length ws → t' ≡ stored (map number xs) ws t → ((i : ℕ) → i < length xs → get_or (map number xs) i 0 < length t) → Stored xs ws t t' (Ok tt)
  no_room : Stored xs ws t t' (Err Memory)

-- new names stand, and the words of others are as before
pub data Taken (G : Sorts) (env : Env) (n last : ℕ) (xs : List Var) (cs : Row) (rs : List Array) (t t' : List ℕ) : Answer → Type 0 where
  taken : {e : Env} → bound (map number xs) cs env ≡ Some e → Stands (with_vars xs G) e last rs t' → ((x : ℕ) → x < n → slice_get t' x ≡ slice_get t x) → Taken G env n last xs cs rs t t' (Ok tt)
  not_taken : Taken G env n last xs cs rs t t' (Err Memory)

-- a fact of an answer that is no error
pub data IfDone (P : Type 0) : Answer → Type 0 where
  done : P → IfDone P (Ok tt)
  not_done : {e : Stop} → IfDone P (Err e)

pub data IfTold (P : Type 0) : Result Bool Stop → Type 0 where
  is_told : {b : Bool} → P → IfTold P (Ok b)
  not_told : {e : Stop} → IfTold P (Err e)

-- names get the words that lie on the stack from a mark on
unfoldable pub Binds : List Var → ℕ → List ℕ → List ℕ → List ℕ → Answer → Type 0
Binds xs mark t t' stack r =
    (G : Sorts) (env : Env) (n last : ℕ) (rs : List Array) (below ws : List ℕ) (cs : Row)
    → Stands G env n rs t → Upward n (map number xs) last → stack ≡ below ++ ws → length below ≡ mark → AllShow rs (map sort_of xs) cs ws → Taken G env n last xs cs rs t t' r

-- and these are taken off
unfoldable pub Takes : List Var → ℕ → List ℕ → List ℕ → List ℕ → List ℕ → Answer → Type 0
Takes xs mark t t' stack stack' r =
    (G : Sorts) (env : Env) (n last : ℕ) (rs : List Array) (below ws : List ℕ) (cs : Row)
    → Stands G env n rs t → Upward n (map number xs) last → stack ≡ below ++ ws → length below ≡ mark → AllShow rs (map sort_of xs) cs ws → Taken G env n last xs cs rs t t' r × IfDone (stack' ≡ below) r

-- the one word that lies above others
unfoldable pub Pops : ℕ → List ℕ → List ℕ → Result Bool Stop → Type 0
Pops mark stack stack' r =
    (rs : List Array) (below ws : List ℕ) (cs : Row) → stack ≡ below ++ ws → length below ≡ mark → AllShow rs (truth_sort ∷ []) cs ws → TruthTold (holds cs) r × IfTold (stack' ≡ below) r

-- ---- operations

-- the one scalar of an operation, as a word
pub data OneTold (ss : List Sort) (o : Out Row) : Result ℕ Stop → Type 0 where
  one_told : {t : ScalarType} {x : Scalar} {w : ℕ} → ss ≡ scalar_sort t ∷ [] → o ≡ Val (One x ∷ []) → IsOf t x → w ≡ word_of x → OneTold ss o (Ok w)
  one_failed : {r : Report} → o ≡ Fail r → OneTold ss o (Err (Failed r))
  no_one : OneTold ss o (Err Memory)

unfoldable pub Operation_told : Arena → List ℕ → Operation → Place → Result ℕ Stop → Type 0
Operation_told a t o at r = (G : Sorts) (env : Env) (n : ℕ) (ss : List Sort) → Stands G env n a.arrays t → Operation_gives G o ss → OneTold ss (operated env o at) r

-- an operation that gives nothing
pub data NoneTold (ss : List Sort) (o : Out Row) : Answer → Type 0 where
  none_told : ss ≡ [] → o ≡ Val [] → NoneTold ss o (Ok tt)
  none_failed : {r : Report} → o ≡ Fail r → NoneTold ss o (Err (Failed r))
  no_none : NoneTold ss o (Err Memory)

unfoldable pub Check_told : List ℕ → Operation → Place → Answer → Type 0
Check_told t o at r = (G : Sorts) (env : Env) (n : ℕ) (rs : List Array) (ss : List Sort) → Stands G env n rs t → Operation_gives G o ss → NoneTold ss (operated env o at) r

-- ---- whole steps

-- results that the meaning allows, as words above others, or a report that it allows
pub data Runs (m : Results) (ss : List Sort) (next : ℕ) (S S' : State) : Answer → Type 0 where
  ran : (cs : Row) (ws : List ℕ) (f : ℕ) → S'.stack ≡ S.stack ++ ws → AllShow S'.arena.arrays ss cs ws → Kept next S S' f → m (Val cs) f → Runs m ss next S S' (Ok tt)
  failed : {r : Report} (f : ℕ) → m (Fail r) f → Runs m ss next S S' (Err (Failed r))
  no_memory : Runs m ss next S S' (Err Memory)

-- new names with values that the meaning allows
pub data Stepped (m : Rel Env) (G : Sorts) (next last : ℕ) (S S' : State) : Answer → Type 0 where
  stepped : (e : Env) (f : ℕ) → Stands G e last S'.arena.arrays S'.words → Kept next S S' f → S'.stack ≡ S.stack → m (Val e) f → Stepped m G next last S S' (Ok tt)
  step_failed : {r : Report} (f : ℕ) → m (Fail r) f → Stepped m G next last S S' (Err (Failed r))
  no_memory_stepped : Stepped m G next last S S' (Err Memory)
