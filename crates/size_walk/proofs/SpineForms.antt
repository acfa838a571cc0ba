-- Applications as a function and its arguments, form by form.
use Rattle.std.proofs.Common.{◌≡◌, ℕ, Bool, List, [], ◌∷◌, ◌++◌, refl, sym, ap, ◌∙◌, subst}
use Rattle.std.specs.Borrow.{Bor}
use Rattle.fut_flat.specs.declared.exp.Exp.{Exp}
use Rattle.fut_flat.specs.declared.exp.Form.TheVariants as form
use Rattle.fut_flat.specs.Terms.{Apply}
use Rattle.fut_flat.specs.Erased.{FlatTerm, term_of}
use Rattle.fut_flat.proofs.ErasedForms.{term_apply}
use Rattle.fut_types.specs.Types.{Sub}
use Rattle.fut_typing.specs.Names.{Names}
use Rattle.fut_sizes.specs.Applications.{Part, Applied}
use Rattle.size_arena.specs.declared.trees.SizeTree.{SizeTree}
use Rattle.size_arena.specs.Trees.{size_of}
use Rattle.size_program.specs.declared.maps.NumberMap.{NumberMap}
use Rattle.size_applying.specs.declared.arguments.Argument as arguments
use Rattle.size_applying.specs.declared.arguments.Part as parts
use Rattle.size_applying.specs.declared.arguments.Part.TheVariants as part
use Rattle.size_applying.specs.Wanted.{Are_arguments, Is_part, is_applied, is_waiting}
use Rattle.size_walk.specs.Walked.{Has_arguments, applied_to, has_applied, has_waiting, terms_of}

more_terms : (xs : List (Bor Exp)) (x : Bor Exp) → terms_of (xs ++ x ∷ []) ≡ terms_of xs ++ term_of x.now ∷ []
more_terms [] x = refl
more_terms (y ∷ ys) x = ap (λ z. term_of y.now ∷ z) (more_terms ys x)

applied_more : (f e : FlatTerm) (es : List FlatTerm) → applied_to f (es ++ e ∷ []) ≡ applied_to (Apply f e) es
applied_more f e [] = refl
applied_more f e (x ∷ es) = ap (λ z. Apply z x) (applied_more f e es)

pub spine_begins : (e : Exp) (xs : List (Bor Exp)) → xs ≡ [] → term_of e ≡ applied_to (term_of e) (terms_of xs)
spine_begins e xs none = ap (λ z. applied_to (term_of e) (terms_of z)) (sym none)

pub spine_more : (whole left : Exp) (f x : Bor Exp) (xs ys : List (Bor Exp)) → term_of whole ≡ applied_to (term_of left) (terms_of xs) → left.form ≡ form.Apply f x → ys ≡ xs ++ x ∷ [] → term_of whole ≡ applied_to (term_of f.now) (terms_of ys)
spine_more whole left f x xs ys so is more = so ∙ ap (λ z. applied_to z (terms_of xs)) (term_apply left f x is) ∙ sym (ap (λ z. applied_to (term_of f.now) (terms_of z)) more ∙ ap (applied_to (term_of f.now)) (more_terms xs x) ∙ applied_more (term_of f.now) (term_of x.now) (terms_of xs))

pub ruleset spines = (spine_begins, spine_more)

module _ (N : Names) (types : Sub) (q : parts.Part) (more : List arguments.Argument) (p : Part) (has : Has_arguments N types q more p) where
  pub applied_gathers : (t : Bor SizeTree) (regular : Bool) (xs ys : Bor (List arguments.Argument)) → q ≡ part.Applied t regular xs → ys.now ≡ xs.now ++ more → Is_part N types (part.Applied t regular ys) p
  applied_gathers t regular xs ys is all = by_has has is all
    where
      by_has : {q : parts.Part} {more : List arguments.Argument} {p : Part} → Has_arguments N types q more p → q ≡ part.Applied t regular xs → ys.now ≡ xs.now ++ more → Is_part N types (part.Applied t regular ys) p
      by_has (has_applied {t = u} {regular = r} {xs = zs} {more = os} {given = gs} each) is all = subst (λ (z : parts.Part). Is_part N types (with_list z) (of_part z)) is (is_applied (subst (λ z. Are_arguments N types z gs) (ap (λ (z : parts.Part). list_of z ++ os) is ∙ sym all) each))
        where
          list_of : parts.Part → List arguments.Argument
          list_of (part.Applied t regular xs) = xs.now
          list_of (part.Waiting e n names bs) = []

          with_list : parts.Part → parts.Part
          with_list (part.Applied t regular xs) = part.Applied t regular ys
          with_list (part.Waiting e n names bs) = part.Waiting e n names bs

          of_part : parts.Part → Part
          of_part z = Applied (size_of u.now) r gs
      by_has (has_waiting waits) is all = cc

  pub waiting_gathers : (e : Bor Exp) (n : ℕ) (names : Bor NumberMap) (bs : Bor (List ℕ)) → q ≡ part.Waiting e n names bs → Is_part N types q p
  waiting_gathers e n names bs is = by_has has is
    where
      by_has : {q : parts.Part} {more : List arguments.Argument} {p : Part} → Has_arguments N types q more p → q ≡ part.Waiting e n names bs → Is_part N types q p
      by_has (has_applied each) is = cc
      by_has (has_waiting waits) is = is_waiting waits

pub ruleset gathers = (applied_gathers, waiting_gathers)
