-- When sizes agree, what is refused, and what becomes of sizes where control meets or a name goes out of scope (Futhark
-- Language Reference, "Size Types", "Causality restriction").
use Rattle.std.specs.Prelude.{ℕ, suc, ◌+◌, ◌^◌, Bool, true, false, cond, nat_eq, nat_lt, List, [], ◌∷◌, Result, Ok, Err}
use Rattle.fut_types.specs.declared.Head.TheVariants as head
use Rattle.fut_types.specs.Types.{Ty, Var, Made, Tys, none, more}
use Rattle.sized_types.specs.Sizes.{Free, Name, Unknown, Dim, At, Bound, Inferred, Written, Size, Hole, Level, Built, Fun, Sizes, no_size, size_and, is_dim, levels, renamed, takes}

-- the first that is met, at a node
pub data Refusal : Type 0 where
  -- the size that is wanted, and the one that is found
  Mismatch : ℕ → Dim → Dim → Refusal
  -- a size would leave its scope in what a function takes
  Escapes : ℕ → Refusal
  -- rows that no name and no constant gives a size
  Irregular : ℕ → Refusal

abbrev pub Answer : Type 0 → Type 0
Answer A = Result A Refusal

abbrev pub then_do : {A B : Type 0} → Answer A → (A → Answer B) → Answer B
then_do (Ok a) more_of = more_of a
then_do (Err e) more_of = Err e

-- ---- constants

-- a size is a number of type i64, so that no literal from 2^63 on is one
abbrev pub fits_i64 : ℕ → Bool
fits_i64 c = nat_lt c (2 ^ 63)

-- ---- agreement

abbrev pub compare : ℕ → Dim → Dim → Answer (Unit {0})
compare at d e = cond (is_dim d e) (Ok tt) (Err (Mismatch at d e))

-- what is found at a node has the sizes that are wanted, at all levels
unfoldable mutual
  pub agree : ℕ → Size → Size → Answer (Unit {0})
  agree at (Level d t) (Level e u) = then_do (compare at d e) (λ z. agree at t u)
  agree at (Built h ts) (Built g us) = all_agree at ts us
  agree at (Fun k p r) (Fun l q s) = then_do (agree at p q) (λ z. agree at r s)
  agree at t u = Ok tt

  pub all_agree : ℕ → Sizes → Sizes → Answer (Unit {0})
  all_agree at (size_and t ts) (size_and u us) = then_do (agree at t u) (λ z. all_agree at ts us)
  all_agree at ts us = Ok tt

-- ---- branches: a node keeps the sizes that both have, and every other is unknown, numbered by its level

abbrev pub kept_dim : ℕ → ℕ → Dim → Dim → Dim
kept_dim n i d e = cond (is_dim d e) d (At (Unknown n i))

unfoldable mutual
  pub kept : ℕ → ℕ → Size → Size → Size
  kept n i (Level d t) (Level e u) = Level (kept_dim n i d e) (kept n (suc i) t u)
  kept n i (Built h ts) (Built g us) = Built h (all_kept n i ts us)
  kept n i t u = t

  pub all_kept : ℕ → ℕ → Sizes → Sizes → Sizes
  all_kept n i (size_and t ts) (size_and u us) = size_and (kept n i t u) (all_kept n (levels t + i) ts us)
  all_kept n i ts us = ts

-- the levels that a node makes unknown
abbrev pub no_size_of : ℕ → ℕ → Dim
no_size_of n i = At (Unknown n i)

-- ---- scope: at the node that ends it, each name becomes one unknown, numbered by its place in the pattern

abbrev pub left : ℕ → ℕ → List ℕ → ℕ → Free
left n i [] b = Name b
left n i (x ∷ xs) b = cond (nat_eq b x) (Unknown n i) (left n (suc i) xs b)

abbrev pub leave : ℕ → List ℕ → Free → Free
leave n xs (Name b) = left n 0 xs b
leave n xs d = d

abbrev pub is_among : List ℕ → ℕ → Bool
is_among [] b = false
is_among (x ∷ xs) b = cond (nat_eq b x) true (is_among xs b)

abbrev pub names_one : List ℕ → Dim → Bool
names_one xs (At (Name b)) = is_among xs b
names_one xs d = false

-- nothing that a function takes may name it
unfoldable pub leaving : ℕ → List ℕ → Size → Answer Size
leaving n xs t = cond (takes (names_one xs) t) (Err (Escapes n)) (Ok (renamed (leave n xs) t))

-- ---- the sized type that a type has by itself, with these sizes at its levels: in a function type each level of a parameter
-- is chosen by the caller, and each of the last result is met

unfoldable mutual
  pub type_levels : Ty → ℕ
  type_levels (Var v) = 0
  type_levels (Made head.Array ts) = suc (all_type_levels ts)
  type_levels (Made head.Fun ts) = 0
  type_levels (Made h ts) = all_type_levels ts

  pub all_type_levels : Tys → ℕ
  all_type_levels none = 0
  all_type_levels (more t ts) = type_levels t + all_type_levels ts

abbrev pub in_frame : ℕ → ℕ → Dim
in_frame from i = Bound 0 (from + i)

-- an array of its element, a function of its parameter and its result, any other by its parts
abbrev pub element_of : Sizes → Size
element_of no_size = Built head.Tuple no_size
element_of (size_and t ts) = t

unfoldable mutual
  pub of_type : (ℕ → Dim) → ℕ → Ty → Size
  of_type dims i (Var v) = Hole (Inferred v)
  of_type dims i (Made (head.Rigid b k) ts) = Hole (Written b k)
  of_type dims i (Made head.Array ts) = Level (dims i) (element_of (of_types dims (suc i) ts))
  of_type dims i (Made head.Fun (more p (more r none))) = Fun (type_levels p) (of_type (in_frame 0) 0 p) (of_type (in_frame (suc (type_levels p))) 0 r)
  of_type dims i (Made h ts) = Built h (of_types dims i ts)

  pub of_types : (ℕ → Dim) → ℕ → Tys → Sizes
  of_types dims i none = no_size
  of_types dims i (more t ts) = size_and (of_type dims i t) (of_types dims (type_levels t + i) ts)
