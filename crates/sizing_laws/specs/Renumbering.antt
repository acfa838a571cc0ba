-- Two numberings of names in which each record has its parts in one order: each record of the one is a record of the other, with
-- the same names in the same places. Types and sized types by the one become types and sized types by the other, where the
-- numbers of records alone are changed; or types with other names for their variables too.
use Rattle.std.specs.Prelude.{◌≡◌, ◌↔◌, ℕ, List, [], ◌∷◌, Ok, Err}
use Rattle.std.specs.List.{Contains}
use Rattle.fut_ast.specs.Sorts.{Text}
use Rattle.fut_types.specs.declared.Head.{Head}
use Rattle.fut_types.specs.declared.Head.TheVariants as head
use Rattle.fut_types.specs.Types.{Ty, Var, Made, Tys, none, more}
use Rattle.fut_typing.specs.Names.{Names}
use Rattle.sized_types.specs.Sizes.{Size, Hole, Open, Level, Built, Fun, Sizes, no_size, size_and}
use Rattle.fut_sizes.specs.Agreeing.{Answer}

-- ---- orders of parts

-- these are labels of the same names, one after the other
abbrev pub Same_names : Names → Names → List ℕ → List ℕ → Type 0
Same_names M N [] [] = Unit {0}
Same_names M N (k ∷ ks) (l ∷ ls) = ((s : Text) × (k ≡ M.label s) × (l ≡ N.label s)) × Same_names M N ks ls
Same_names M N ks ls = ⊥

-- the records have the same names
abbrev pub One_record : Names → Names → ℕ → ℕ → Type 0
One_record M N r q = (s : Text) → Contains (M.shapes.fields r) (M.label s) ↔ Contains (N.shapes.fields q) (N.label s)

-- records of the same names have them in one order
abbrev pub One_order : Names → Names → Type 0
One_order M N = (r q : ℕ) → One_record M N r q → Same_names M N (M.shapes.fields r) (N.shapes.fields q)

-- each record of the one is a record of the other, with the same names in the same places
abbrev pub Renumbers : Names → Names → (ℕ → ℕ) → Type 0
Renumbers M N number = (r : ℕ) → Same_names M N (M.shapes.fields r) (N.shapes.fields (number r))

-- ---- with other numbers of records

module _ (number : ℕ → ℕ) where
  abbrev pub renumbered_head : Head → Head
  renumbered_head (head.Record r) = head.Record (number r)
  renumbered_head (head.Scalar s) = head.Scalar s
  renumbered_head head.Array = head.Array
  renumbered_head head.Tuple = head.Tuple
  renumbered_head head.Fun = head.Fun
  renumbered_head (head.Rigid n k) = head.Rigid n k
  renumbered_head (head.Abstract n d) = head.Abstract n d

-- ---- and with other names for variables

module _ (number variable : ℕ → ℕ) where
  abbrev mutual
    pub renamed_type : Ty → Ty
    renamed_type (Var v) = Var (variable v)
    renamed_type (Made h ts) = Made (renumbered_head number h) (renamed_types ts)

    pub renamed_types : Tys → Tys
    renamed_types none = none
    renamed_types (more t ts) = more (renamed_type t) (renamed_types ts)

module _ (number : ℕ → ℕ) where
  abbrev pub renumbered_type : Ty → Ty
  renumbered_type = renamed_type number (λ v. v)

  abbrev pub renumbered_types : Tys → Tys
  renumbered_types = renamed_types number (λ v. v)

  abbrev mutual
    pub renumbered : Size → Size
    renumbered (Hole v) = Hole v
    renumbered (Open n v u) = Open n v (renumbered_type u)
    renumbered (Level d t) = Level d (renumbered t)
    renumbered (Built h ts) = Built (renumbered_head number h) (all_renumbered ts)
    renumbered (Fun k p r) = Fun k (renumbered p) (renumbered r)

    pub all_renumbered : Sizes → Sizes
    all_renumbered no_size = no_size
    all_renumbered (size_and t ts) = size_and (renumbered t) (all_renumbered ts)

  -- the same refusal, or renumbered sizes
  abbrev pub renumbered_answer : Answer (ℕ → Size) → Answer (ℕ → Size)
  renumbered_answer (Ok sizes) = Ok (λ n. renumbered (sizes n))
  renumbered_answer (Err refusal) = Err refusal
