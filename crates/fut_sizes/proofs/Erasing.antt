-- Without its sizes, the sized type of a primitive is its type.
use Rattle.std.proofs.Common.{◌≡◌, ℕ, suc, ◌+◌, [], ◌∷◌, ◌++◌, length, refl, ap, ◌∙◌}
use Rattle.fut_scalar.specs.declared.scalar.ScalarType.{ScalarType}
use Rattle.fut_flat.specs.declared.prim.Primitive.{Primitive}
use Rattle.fut_primitives.specs.Written.{Written, Variable, Scalar, Own, From, Array, Unique, Pair, Triple, Named, Function}
use Rattle.fut_primitives.specs.Table.{written, own_of, from_of}
use Rattle.fut_types.specs.Types.{fun_ty}
use Rattle.fut_typing.specs.Primitives.{array_ty, pair_ty, triple_ty, plain_type, prim_type}
use Rattle.sized_types.specs.Sizes.{levels, erased, all_erased}
use Rattle.fut_sizes.specs.Primitives.{Frames, chosen, argument, sized_type, prim_size}

pub erased_type : (own from : ScalarType) (φ : Frames) (i : ℕ) (w : Written) → erased (sized_type own from φ i w) ≡ plain_type own from w
unfolding sized_type erased all_erased
erased_type own from φ i (Variable x) = refl
erased_type own from φ i (Scalar s) = refl
erased_type own from φ i Own = refl
erased_type own from φ i From = refl
erased_type own from φ i (Array n t) = ap array_ty (erased_type own from φ (suc i) t)
erased_type own from φ i (Unique t) = erased_type own from φ i t
erased_type own from φ i (Pair t u) = ap (λ x. pair_ty x (erased (sized_type own from φ (levels (sized_type own from φ i t) + i) u))) (erased_type own from φ i t)
    ∙ ap (λ x. pair_ty (plain_type own from t) x) (erased_type own from φ (levels (sized_type own from φ i t) + i) u)
erased_type own from φ i (Triple t u v) = ap (λ x. triple_ty x (erased (sized_type own from φ i u)) (erased (sized_type own from φ i v))) (erased_type own from φ i t)
    ∙ ap (λ x. triple_ty (plain_type own from t) x (erased (sized_type own from φ i v))) (erased_type own from φ i u)
    ∙ ap (λ x. triple_ty (plain_type own from t) (plain_type own from u) x) (erased_type own from φ i v)
erased_type own from φ i (Named n t) = erased_type own from φ i t
erased_type own from φ i (Function t u) = ap (λ x. fun_ty x (erased (sized_type own from ((chosen φ t ++ argument t) ∷ φ) (suc (length (chosen φ t))) u))) (erased_type own from (chosen φ t ∷ φ) 0 t)
    ∙ ap (λ x. fun_ty (plain_type own from t) x) (erased_type own from ((chosen φ t ++ argument t) ∷ φ) (suc (length (chosen φ t))) u)

pub primitive_erased : (p : Primitive) → erased (prim_size p) ≡ prim_type p
unfolding prim_size
primitive_erased p = erased_type (own_of p) (from_of p) [] 0 (written p)
