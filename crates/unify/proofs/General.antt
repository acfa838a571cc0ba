-- What meets a solved substitution is an instance of its types.
use Rattle.std.proofs.Common.{◌≡◌, ◌≢◌, ℕ, zero, suc, ◌≤◌, ◌<◌, List, [], ◌∷◌, length, slice_index_or, All, refl, sym, ◌∙◌, ap, subst, arith}
use mathlib.Core.Logic.{◌⊎◌, inl, inr}
use native.Mathlib.Decide.{ℕ_discrete}
use Rattle.fut_types.specs.declared.shapes.ShapeTable.{ShapeTable}
use Rattle.fut_types.specs.Shapes.{Shapes}
use Rattle.fut_types.specs.Types.{Ty, Var, Made, Tys, none, more, Sub, Kinds, level, rank, applied, all_applied}
use Rattle.fut_types.proofs.TyLaws.{applied_var, rank_var}
use Rattle.unify.specs.declared.Ty.{Ty as Tree}
use Rattle.unify.specs.declared.Ty.TheVariants as tree
use Rattle.unify.specs.declared.Subst.{Subst}
use Rattle.unify.specs.Substitutions.{type_of, known_at, kinds_of, Has_parts, Meets, Each_variable, All_variables, IsSolved, General, Generals}

-- types that are instances, put in for the variables
mutual
  unfolding applied Each_variable

  instance_of : (a types : Sub) (P : ℕ → Type 0) → ((v : ℕ) → P v → a v ≡ applied a (types v)) → (t : Ty) → Each_variable P t → applied a t ≡ applied a (applied types t)
  instance_of a types P h (Var n) p = h n p
  instance_of a types P h (Made hd ts) p = ap (Made hd) (instances_of a types P h ts p)

  instances_of : (a types : Sub) (P : ℕ → Type 0) → ((v : ℕ) → P v → a v ≡ applied a (types v)) → (ts : Tys) → All_variables P ts → all_applied a ts ≡ all_applied a (all_applied types ts)
  instances_of a types P h none p = refl
  instances_of a types P h (more t ts) p = λ i. more (instance_of a types P h t p.0 i) (instances_of a types P h ts p.1 i)

abbrev some_bind : ℕ × Tree
some_bind = (0, tree.Var 0)

-- a variable is bound, or it is not
record IsBoundTo (binds : List (ℕ × Tree)) (v : ℕ) : Type 0 where
  at : ℕ
  below : at < length binds
  is : (slice_index_or binds at some_bind).0 ≡ v

bound_or_free : (binds : List (ℕ × Tree)) (v : ℕ) → IsBoundTo binds v ⊎ All (λ b. b.0 ≢ v) binds
bound_or_free [] v = inr (λ k d lt. absurd (omega arith))
bound_or_free (b ∷ bs) v = elim (ℕ_discrete b.0 v) as (λ x. IsBoundTo (b ∷ bs) v ⊎ All (λ c. c.0 ≢ v) (b ∷ bs)) [
  | yes e ↦ inl (record { at = 0; below = omega arith; is = e })
  | no ne ↦ elim (bound_or_free bs v) as (λ x. IsBoundTo (b ∷ bs) v ⊎ All (λ c. c.0 ≢ v) (b ∷ bs)) [
    | inl i ↦ inl (record { at = suc i.at; below = (let l : i.at < length bs = i.below in omega arith); is = i.is })
    | inr h ↦ inr (one_more ne h)
  ]
]
  where
    one_more : b.0 ≢ v → All (λ c. c.0 ≢ v) bs → All (λ c. c.0 ≢ v) (b ∷ bs)
    one_more ne h zero d lt = ne
    one_more ne h (suc k) d lt = h k d (omega arith)

module _ (table : ShapeTable) (S : Shapes) (s : Subst) (so : IsSolved table s) where
  below : (K : Kinds) (a : Sub) → Meets S s K a → (m v : ℕ) → so.order v < m → a v ≡ applied a (so.types v)
  below K a meets zero v lt = absurd (omega arith)
  below K a meets (suc m) v lt = elim (bound_or_free s.binds v) as (λ x. a v ≡ applied a (so.types v)) [
    | inl i ↦ subst (λ w. a w ≡ applied a (so.types w)) i.is
        (meets.binds i.at some_bind i.below
        ∙ instance_of a so.types (λ w. so.order w < so.order (slice_index_or s.binds i.at some_bind).0) (λ w p. below K a meets m w (let q : so.order (slice_index_or s.binds i.at some_bind).0 < suc m = subst (λ u. so.order u < suc m) (sym i.is) lt in omega arith)) (type_of (slice_index_or s.binds i.at some_bind).1) (so.inside i.at some_bind i.below)
        ∙ ap (applied a) (sym (so.bound i.at some_bind i.below)))
    | inr free ↦ sym (ap (applied a) (so.free v free) ∙ applied_var a v)
  ]

  of_kind : (v : ℕ) → level (known_at s v).kind ≤ rank (kinds_of s) (so.types v)
  of_kind v = elim (bound_or_free s.binds v) as (λ x. level (known_at s v).kind ≤ rank (kinds_of s) (so.types v)) [
    | inl i ↦ subst (λ w. level (known_at s w).kind ≤ rank (kinds_of s) (so.types w)) i.is (so.kinds i.at some_bind i.below)
    | inr free ↦ subst (λ t. level (known_at s v).kind ≤ rank (kinds_of s) t) (sym (so.free v free)) (subst (λ n. level (known_at s v).kind ≤ n) (sym (rank_var (kinds_of s) v)) (omega arith))
  ]

  pub general : General S s so.types
  general = record {
    instances = λ K a meets v. below K a meets (suc (so.order v)) v (omega arith);
    itself = λ closed. record {
      suits = λ v lt. record { kind = of_kind v; parts = subst (λ ps. Has_parts S so.types (so.types v) ps) (sym (closed v lt)) (λ k d l. absurd (omega arith)) };
      binds = so.bound;
    };
  }

pub generals : Generals
generals table S s so = general table S s so
