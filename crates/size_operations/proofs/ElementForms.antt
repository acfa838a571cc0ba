-- Types of arrays' elements, form by form.
use Rattle.std.proofs.Common.{◌≡◌, ℕ, List, [], ◌∷◌, length, get_or, Option, Some, None, Bool, false, Ok, refl, sym, ap, ◌∙◌, arith}
use Rattle.std.specs.Borrow.{Bor}
use Rattle.fut_scalar.specs.declared.scalar.ScalarType.{ScalarType}
use Rattle.fut_types.specs.declared.Head.{Head}
use Rattle.fut_types.specs.declared.Head.TheVariants as head
use Rattle.fut_types.specs.Types.{Ty, Var, Made, Tys, none, more}
use Rattle.sized_types.specs.Sizes.{Size}
use Rattle.fut_sizes.specs.Agreeing.{Answer, no_size_of, of_type}
use Rattle.fut_sizes.specs.Operations.{element_ty, empty_of, is_i64}
use Rattle.size_arena.specs.declared.types.TypeTree.{TypeTree}
use Rattle.size_arena.specs.declared.types.TypeTree.TheVariants as type
use Rattle.size_arena.specs.Trees.{type_of, tys, tys_of}
use Rattle.size_arena.proofs.Forms.{type_made, type_var}
use Rattle.size_operations.specs.Elements.{element, empty_row, type_held}

module _ (t : TypeTree) where
  pub element_var : (v : ℕ) → t ≡ type.Var v → None ≡ element (type_of t)
  element_var v is = sym (ap (λ z. element (type_of z)) is ∙ ap element (type_var v))

  module _ (height : ℕ) (h : Head) (ts : Bor (List TypeTree)) (is : t ≡ type.Made height h ts) where
    made : element (type_of t) ≡ element (Made h (tys_of ts.now))
    made = ap (λ z. element (type_of z)) is ∙ ap element (type_made height h ts)

    pub element_one : (d : TypeTree) → h ≡ head.Array → length ts.now ≡ 1 → Some (type_of (get_or ts.now 0 d)) ≡ element (type_of t)
    unfolding tys_of tys
    element_one d array one = sym (made ∙ ap (λ z. element (Made z (tys_of ts.now))) array ∙ by_parts ts.now one)
      where
        by_parts : (xs : List TypeTree) → length xs ≡ 1 → element (Made head.Array (tys_of xs)) ≡ Some (type_of (get_or xs 0 d))
        by_parts [] q = absurd (omega (arith, q))
        by_parts (x ∷ []) q = refl
        by_parts (x ∷ y ∷ xs) q = absurd (omega (arith, q))

    pub element_not_one : h ≡ head.Array → (length ts.now ≡ 1 → ⊥) → None ≡ element (type_of t)
    unfolding tys_of tys
    element_not_one array other = sym (made ∙ ap (λ z. element (Made z (tys_of ts.now))) array ∙ by_parts ts.now other)
      where
        by_parts : (xs : List TypeTree) → (length xs ≡ 1 → ⊥) → element (Made head.Array (tys_of xs)) ≡ None
        by_parts [] q = refl
        by_parts (x ∷ []) q = elim (q refl) [ ]
        by_parts (x ∷ y ∷ xs) q = refl

    pub element_other : (h ≡ head.Array → ⊥) → None ≡ element (type_of t)
    element_other never = sym (made ∙ by_head h never)
      where
        by_head : (g : Head) → (g ≡ head.Array → ⊥) → element (Made g (tys_of ts.now)) ≡ None
        by_head (head.Scalar s) q = refl
        by_head head.Array q = elim (q refl) [ ]
        by_head head.Tuple q = refl
        by_head (head.Record n) q = refl
        by_head head.Fun q = refl
        by_head (head.Rigid b k) q = refl
        by_head (head.Abstract b d) q = refl

  -- `i64`

  pub integer_var : (v : ℕ) → t ≡ type.Var v → false ≡ is_i64 (type_of t)
  integer_var v is = sym (ap (λ z. is_i64 (type_of z)) is ∙ ap is_i64 (type_var v))

  module _ (height : ℕ) (h : Head) (ts : Bor (List TypeTree)) (is : t ≡ type.Made height h ts) where
    made_so : is_i64 (type_of t) ≡ is_i64 (Made h (tys_of ts.now))
    made_so = ap (λ z. is_i64 (type_of z)) is ∙ ap is_i64 (type_made height h ts)

    pub integer_scalar : (s : ScalarType) (b : Bool) → h ≡ head.Scalar s → ((us : Tys) → b ≡ is_i64 (Made (head.Scalar s) us)) → b ≡ is_i64 (type_of t)
    integer_scalar s b so g = g (tys_of ts.now) ∙ sym (made_so ∙ ap (λ z. is_i64 (Made z (tys_of ts.now))) so)

    pub integer_other : ((s : ScalarType) → h ≡ head.Scalar s → ⊥) → false ≡ is_i64 (type_of t)
    integer_other never = sym (made_so ∙ by_head h never)
      where
        by_head : (g : Head) → ((s : ScalarType) → g ≡ head.Scalar s → ⊥) → is_i64 (Made g (tys_of ts.now)) ≡ false
        by_head (head.Scalar s) q = elim (q s refl) [ ]
        by_head head.Array q = refl
        by_head head.Tuple q = refl
        by_head (head.Record n) q = refl
        by_head head.Fun q = refl
        by_head (head.Rigid b k) q = refl
        by_head (head.Abstract b d) q = refl

pub ruleset integers = (integer_var, integer_scalar, integer_other)

pub ruleset elements = (element_var, element_one, element_not_one, element_other)

-- ---- what else the type of elements says

abbrev or_own : Ty → Option Ty → Ty
or_own t (Some e) = e
or_own t None = t

abbrev or_plain : ℕ → Ty → Option Ty → Answer Size
or_plain n t (Some e) = empty_row n e
or_plain n t None = Ok (of_type (no_size_of n) 0 t)

record Known (n : ℕ) (t : Ty) : Type 0 where
  own : element_ty t ≡ or_own t (element t)
  empty : empty_of n t ≡ or_plain n t (element t)

known : (n : ℕ) (t : Ty) → Known n t
known n (Var v) = record { own = refl; empty = refl }
known n (Made (head.Scalar s) ts) = record { own = refl; empty = refl }
known n (Made head.Array none) = record { own = refl; empty = refl }
known n (Made head.Array (more e none)) = record { own = refl; empty = refl }
known n (Made head.Array (more e (more f ts))) = record { own = refl; empty = refl }
known n (Made head.Tuple ts) = record { own = refl; empty = refl }
known n (Made (head.Record r) ts) = record { own = refl; empty = refl }
known n (Made head.Fun ts) = record { own = refl; empty = refl }
known n (Made (head.Rigid b k) ts) = record { own = refl; empty = refl }
known n (Made (head.Abstract b d) ts) = record { own = refl; empty = refl }

module _ (t : Ty) (x : Option (Bor TypeTree)) (h : type_held x ≡ element t) where
  pub own_element : (e : Bor TypeTree) → x ≡ Some e → type_of e.now ≡ element_ty t
  own_element e is = sym ((known 0 t).own ∙ ap (or_own t) (sym h ∙ ap type_held is))

  pub own_type : (u : TypeTree) → type_of u ≡ t → x ≡ None → type_of u ≡ element_ty t
  own_type u same is = same ∙ sym ((known 0 t).own ∙ ap (or_own t) (sym h ∙ ap type_held is))

  pub empty_some : (n : ℕ) (e : Bor TypeTree) → x ≡ Some e → empty_of n t ≡ empty_row n (type_of e.now)
  empty_some n e is = (known n t).empty ∙ ap (or_plain n t) (sym h ∙ ap type_held is)

  pub empty_none : (n : ℕ) → x ≡ None → empty_of n t ≡ Ok (of_type (no_size_of n) 0 t)
  empty_none n is = (known n t).empty ∙ ap (or_plain n t) (sym h ∙ ap type_held is)

pub ruleset element_types = (own_element, own_type)
