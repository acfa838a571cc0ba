-- Arrays of parts, one part after another.
use Rattle.std.proofs.Common.{◌≡◌, ℕ, suc, ◌+◌, ◌<◌, ◌≤◌, List, [], ◌∷◌, length, get_or, drop, map, cond, Result, Ok, Err, refl, sym, ap, ◌∙◌, subst, arith, ne_eqb}
use Rattle.std.proofs.lemmas.Bool.{eq-eqb}
use Rattle.std.specs.Borrow.{Bor}
use Rattle.fut_scalar.specs.declared.place.BindId.{BindId}
use Rattle.fut_flat.specs.declared.exp.Exp.{Exp}
use Rattle.fut_flat.specs.declared.prim.Ref.{Ref}
use Rattle.fut_flat.specs.Numbers.{numbers}
use Rattle.fut_flat.specs.Terms.{Array_of, Terms, no_term, term_and}
use Rattle.fut_flat.specs.Erased.{term_of, terms}
use Rattle.fut_types.specs.Types.{Ty, Sub}
use Rattle.fut_typing.specs.Names.{Names}
use Rattle.sized_types.specs.Sizes.{Const, At, Size, Level, no_size}
use Rattle.fut_sizes.specs.Agreeing.{Irregular, Answer, agree, no_size_of, of_type, then_do, type_levels}
use Rattle.fut_sizes.specs.Operations.{elements_agree, empty_of, many, operation}
use Rattle.size_arena.specs.declared.agreeing.Refusal.TheVariants as refusal
use Rattle.size_arena.specs.declared.agreeing.SizeErr.{SizeErr}
use Rattle.size_arena.specs.declared.agreeing.SizeErr.TheVariants as size_err
use Rattle.size_arena.specs.declared.trees.SizeTree.{SizeTree}
use Rattle.size_arena.specs.Trees.{size_of, sizes, sizes_of}
use Rattle.size_arena.proofs.Parts.{parts_at, parts_end}
use Rattle.size_program.specs.Answers.{refuses}
use Rattle.size_operations.specs.Answers.{Agrees, Sized}
use Rattle.size_operations.specs.Elements.{empty_row}
use Rattle.size_operations.proofs.AnswerForms.{agreed, agreed_not}
use Rattle.size_operations.proofs.TermForms.{terms_at, terms_end}

abbrev es_of : List Exp → Terms Ref BindId
es_of es = terms (map term_of es)

-- ---- elements, each by the first

one_of : (es : List Exp) (i : ℕ) → i < length es → Exp
one_of [] i l = absurd (omega (arith, l))
one_of (e ∷ es) i l = e

module _ (t : Size) (at : ℕ) where
  pub elements_none : (es : Terms Ref BindId) → elements_agree t es at no_size ≡ Ok tt
  unfolding elements_agree
  elements_none no_term = refl
  elements_none (term_and e es) = refl

  module _ (es : List Exp) (ss : List SizeTree) (i : ℕ) where
    pub elements_end : length ss ≤ i → elements_agree t (es_of (drop i es)) at (sizes_of (drop i ss)) ≡ Ok tt
    elements_end l = ap (λ z. elements_agree t (es_of (drop i es)) at z) (parts_end ss i l) ∙ elements_none (es_of (drop i es))

    pub elements_past : length es ≤ i → elements_agree t (es_of (drop i es)) at (sizes_of (drop i ss)) ≡ Ok tt
    unfolding elements_agree
    elements_past l = ap (λ z. elements_agree t z at (sizes_of (drop i ss))) (terms_end es i l)

    pub elements_here : (e : Exp) (d : SizeTree) → i < length es → i < length ss → elements_agree t (es_of (drop i es)) at (sizes_of (drop i ss))
        ≡ then_do (agree at t (size_of (get_or ss i d))) (λ z. elements_agree t (es_of (drop (i + 1) es)) (at + numbers (term_of (get_or es i e))) (sizes_of (drop (i + 1) ss)))
    unfolding elements_agree
    elements_here e d l k = ap (λ z. elements_agree t z at (sizes_of (drop i ss))) (terms_at es i e l) ∙ ap (λ z. elements_agree t (term_and (term_of (get_or es i e)) (es_of (drop (i + 1) es))) at z) (parts_at ss i d k)

    module _ (w : Answer (Unit {0})) (from : w ≡ elements_agree t (es_of (drop i es)) at (sizes_of (drop i ss))) (d : SizeTree) (l : i < length es) (k : i < length ss) (r : Result (Unit {0}) SizeErr) (h : Agrees (agree at t (size_of (get_or ss i d))) r) where
      pub elements_more : (e : Exp) (u : Unit {0}) → r ≡ Ok u → (next : ℕ) → next ≡ at + numbers (term_of (get_or es i e)) → w ≡ elements_agree t (es_of (drop (i + 1) es)) next (sizes_of (drop (i + 1) ss))
      elements_more e u is next step = from ∙ elements_here e d l k ∙ agreed (agree at t (size_of (get_or ss i d))) r h _ u is ∙ ap (λ z. elements_agree t (es_of (drop (i + 1) es)) z (sizes_of (drop (i + 1) ss))) (sym step)

      pub elements_stop : (x : SizeErr) → r ≡ Err x → Agrees w (Err x)
      elements_stop x is = subst (λ z. Agrees z (Err x)) (sym (from ∙ elements_here (one_of es i l) d l k)) (agreed_not (agree at t (size_of (get_or ss i d))) r h (λ (u v : Unit {0}). v ≡ u) _ x is)

-- ---- arrays

pub row_empty : (n levels : ℕ) (e : Ty) (r : Result (Bor SizeTree) SizeErr) → levels ≡ 0 + type_levels e → levels ≡ 0 → Sized (Ok (Level (At (Const 0)) (of_type (no_size_of n) 0 e))) r → Sized (empty_row n e) r
row_empty n levels e r h z s = subst (λ b. Sized (cond b (Ok (Level (At (Const 0)) (of_type (no_size_of n) 0 e))) (Err (Irregular n))) r) (sym (eq-eqb (type_levels e) 0 (omega (arith, h, z)))) s

pub row_full : (n levels : ℕ) (e : Ty) → levels ≡ 0 + type_levels e → (levels ≡ 0 → ⊥) → Sized (empty_row n e) (Err (size_err.Refused (refusal.Irregular n)))
row_full n levels e h z = refuses (ap (λ b. cond b (Ok (Level (At (Const 0)) (of_type (no_size_of n) 0 e))) (Err (Irregular n))) (ne_eqb (type_levels e) 0 (λ q. z (omega (arith, h, q)))))

pub ruleset rows = (row_empty, row_full)

pub many_is : (ss : List SizeTree) → many (sizes_of ss) ≡ length ss
unfolding sizes_of sizes
many_is [] = refl
many_is (s ∷ ss) = ap suc (many_is ss)

module _ (N : Names) (types : Sub) (n at : ℕ) where
  pub array_none : (es : List Exp) (ss : List SizeTree) → length es ≡ length ss → length ss ≡ 0 → operation N types Array_of n at (es_of es) (sizes_of ss) ≡ empty_of n (types n)
  unfolding terms sizes_of sizes operation
  array_none [] [] same l = refl
  array_none [] (s ∷ ss) same l = absurd (omega (arith, l))
  array_none (e ∷ es) [] same l = absurd (omega (arith, same))
  array_none (e ∷ es) (s ∷ ss) same l = absurd (omega (arith, l))

  module _ (es : List Exp) (ss : List SizeTree) (d : SizeTree) (same : length es ≡ length ss) (l : length ss ≡ 0 → ⊥) where
    some : (e : Exp) (next : ℕ) → next ≡ at + numbers (term_of (get_or es 0 e))
        → operation N types Array_of n at (es_of es) (sizes_of ss) ≡ then_do (elements_agree (size_of (get_or ss 0 d)) (es_of (drop 1 es)) next (sizes_of (drop 1 ss))) (λ z. Ok (Level (At (Const (length ss))) (size_of (get_or ss 0 d))))
    unfolding terms sizes_of sizes operation
    some e next step = by_parts es ss same l step
      where
        by_parts : (xs : List Exp) (ys : List SizeTree) → length xs ≡ length ys → (length ys ≡ 0 → ⊥) → next ≡ at + numbers (term_of (get_or xs 0 e))
            → operation N types Array_of n at (es_of xs) (sizes_of ys) ≡ then_do (elements_agree (size_of (get_or ys 0 d)) (es_of (drop 1 xs)) next (sizes_of (drop 1 ys))) (λ z. Ok (Level (At (Const (length ys))) (size_of (get_or ys 0 d))))
        by_parts xs [] q k h = elim (k refl) [ ]
        by_parts [] (y ∷ ys) q k h = absurd (omega (arith, q))
        by_parts (x ∷ xs) (y ∷ ys) q k h =
            ap (λ z. then_do (elements_agree (size_of y) (es_of xs) z (sizes_of ys)) (λ z. Ok (Level (At (Const (suc (many (sizes_of ys))))) (size_of y)))) (sym h)
            ∙ ap (λ c. then_do (elements_agree (size_of y) (es_of xs) next (sizes_of ys)) (λ z. Ok (Level (At (Const (suc c))) (size_of y)))) (many_is ys)

    module _ (e : Exp) (next : ℕ) (step : next ≡ at + numbers (term_of (get_or es 0 e))) (k : Result (Unit {0}) SizeErr) (h : Agrees (elements_agree (size_of (get_or ss 0 d)) (es_of (drop 1 es)) next (sizes_of (drop 1 ss))) k) where
      pub array_made : (u : Unit {0}) → k ≡ Ok u → operation N types Array_of n at (es_of es) (sizes_of ss) ≡ Ok (Level (At (Const (length ss))) (size_of (get_or ss 0 d)))
      array_made u is = some e next step ∙ agreed (elements_agree (size_of (get_or ss 0 d)) (es_of (drop 1 es)) next (sizes_of (drop 1 ss))) k h _ u is

      pub array_stop : (x : SizeErr) → k ≡ Err x → Sized (operation N types Array_of n at (es_of es) (sizes_of ss)) (Err x)
      array_stop x is = subst (λ z. Sized z (Err x)) (sym (some e next step)) (agreed_not (elements_agree (size_of (get_or ss 0 d)) (es_of (drop 1 es)) next (sizes_of (drop 1 ss))) k h (λ (t : Bor SizeTree) (y : Size). y ≡ size_of t.now) _ x is)
