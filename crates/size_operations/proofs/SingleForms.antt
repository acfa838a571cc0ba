-- Operations on one part or two, form by form.
use Rattle.std.proofs.Common.{◌≡◌, ℕ, List, [], ◌∷◌, length, get_or, Option, Some, None, Ok, refl, sym, ap, ◌∙◌, arith}
use Rattle.std.specs.Borrow.{Bor}
use Rattle.fut_ast.specs.Sorts.{Text}
use Rattle.fut_scalar.specs.declared.place.BindId.{BindId}
use Rattle.fut_flat.specs.declared.prim.Ref.{Ref}
use Rattle.fut_flat.specs.Terms.{Ascribe, Coerce, Declared, Project, Replace, Terms}
use Rattle.fut_flat.specs.Erased.{FlatType}
use Rattle.fut_types.specs.Types.{Sub}
use Rattle.fut_typing.specs.Names.{Names}
use Rattle.sized_types.specs.Sizes.{no_size, size_and}
use Rattle.fut_sizes.specs.Operations.{operation, part_or, plain}
use Rattle.fut_sizes.specs.WrittenSizes.{ascribed, changed_part, coercion, declared, part_of}
use Rattle.size_arena.specs.declared.trees.SizeTree.{SizeTree}
use Rattle.size_arena.specs.Trees.{size_of, sizes, sizes_of}
use Rattle.size_written.specs.Answers.{held}

one_size : (ss : List SizeTree) (d : SizeTree) → length ss ≡ 1 → sizes_of ss ≡ size_and (size_of (get_or ss 0 d)) no_size
unfolding sizes_of sizes
one_size [] d l = absurd (omega (arith, l))
one_size (s ∷ []) d l = refl
one_size (s ∷ r ∷ ss) d l = absurd (omega (arith, l))

two_sizes : (ss : List SizeTree) (d e : SizeTree) → length ss ≡ 2 → sizes_of ss ≡ size_and (size_of (get_or ss 0 d)) (size_and (size_of (get_or ss 1 e)) no_size)
unfolding sizes_of sizes
two_sizes [] d e l = absurd (omega (arith, l))
two_sizes (s ∷ []) d e l = absurd (omega (arith, l))
two_sizes (s ∷ r ∷ []) d e l = refl
two_sizes (s ∷ r ∷ q ∷ ss) d e l = absurd (omega (arith, l))

module _ (N : Names) (types : Sub) (n at : ℕ) (es : Terms Ref BindId) (ss : List SizeTree) (d : SizeTree) where
  pub replace_is : (x : Text) (e : SizeTree) → length ss ≡ 2 → operation N types (Replace x) n at es (sizes_of ss) ≡ Ok (changed_part N x (λ u. size_of (get_or ss 1 e)) (size_of (get_or ss 0 d)))
  unfolding operation
  replace_is x e l = ap (operation N types (Replace x) n at es) (two_sizes ss d e l)

  module _ (l : length ss ≡ 1) where
    pub project_is : (x : Text) → operation N types (Project x) n at es (sizes_of ss) ≡ Ok (part_or (part_of N x (size_of (get_or ss 0 d))) (plain N types n))
    unfolding operation
    project_is x = ap (operation N types (Project x) n at es) (one_size ss d l)

    module _ (x : Text) (found : Option (Bor SizeTree)) (h : held found ≡ part_of N x (size_of (get_or ss 0 d))) where
      pub project_some : (t : Bor SizeTree) → found ≡ Some t → operation N types (Project x) n at es (sizes_of ss) ≡ Ok (size_of t.now)
      project_some t is = project_is x ∙ ap (λ z. Ok (part_or z (plain N types n))) (sym h ∙ ap held is)

      pub project_none : found ≡ None → operation N types (Project x) n at es (sizes_of ss) ≡ Ok (plain N types n)
      project_none is = project_is x ∙ ap (λ z. Ok (part_or z (plain N types n))) (sym h ∙ ap held is)

    pub ascribe_is : (e : FlatType) → operation N types (Ascribe e) n at es (sizes_of ss) ≡ ascribed N at e (size_of (get_or ss 0 d))
    unfolding operation
    ascribe_is e = ap (operation N types (Ascribe e) n at es) (one_size ss d l)

    pub coerce_is : (e : FlatType) → operation N types (Coerce e) n at es (sizes_of ss) ≡ coercion N at e (size_of (get_or ss 0 d))
    unfolding operation
    coerce_is e = ap (operation N types (Coerce e) n at es) (one_size ss d l)

    pub declare_is : (e : FlatType) → operation N types (Declared e) n at es (sizes_of ss) ≡ declared N n at e (size_of (get_or ss 0 d))
    unfolding operation
    declare_is e = ap (operation N types (Declared e) n at es) (one_size ss d l)
