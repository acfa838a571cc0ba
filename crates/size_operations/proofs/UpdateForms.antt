-- New elements, form by form.
use Rattle.std.proofs.Common.{◌≡◌, ℕ, ◌+◌, List, [], ◌∷◌, length, get_or, drop, map, false, Result, Ok, Err, refl, sym, ap, ◌∙◌, subst, arith}
use Rattle.std.specs.Borrow.{Bor}
use Rattle.fut_scalar.specs.declared.place.BindId.{BindId}
use Rattle.fut_flat.specs.declared.exp.Exp.{Exp}
use Rattle.fut_flat.specs.declared.prim.Ref.{Ref}
use Rattle.fut_flat.specs.Numbers.{numbers}
use Rattle.fut_flat.specs.Terms.{Update, Terms}
use Rattle.fut_flat.specs.Erased.{term_of, terms}
use Rattle.fut_types.specs.Types.{Sub}
use Rattle.fut_typing.specs.Names.{Names}
use Rattle.sized_types.specs.Sizes.{Dim, Size, Hole, Open, Level, Built, Fun}
use Rattle.fut_sizes.specs.Agreeing.{agree, then_do}
use Rattle.fut_sizes.specs.Operations.{operation, updated}
use Rattle.size_arena.specs.declared.dims.Dim as dims
use Rattle.size_arena.specs.declared.trees.SizeTree.{SizeTree}
use Rattle.size_arena.specs.declared.trees.SizeTree.TheVariants as form
use Rattle.size_arena.specs.Trees.{size_of, sizes, sizes_of}
use Rattle.size_arena.proofs.Forms.{size_level}
use Rattle.size_arena.specs.declared.agreeing.SizeErr.{SizeErr}
use Rattle.size_operations.specs.Answers.{Agrees, Sized}
use Rattle.size_operations.proofs.AnswerForms.{agreed, agreed_not}
use Rattle.size_operations.proofs.IndexForms.{has_level}

abbrev es_of : List Exp → Terms Ref BindId
es_of es = terms (map term_of es)

module _ (at : ℕ) where
  pub updated_none : (es : List Exp) (ss : List SizeTree) (t : Size) → length es ≡ length ss → length ss ≡ 0 → updated (es_of es) at (sizes_of ss) t ≡ Ok tt
  unfolding terms sizes_of sizes updated
  updated_none [] [] t same l = refl
  updated_none [] (s ∷ ss) t same l = absurd (omega (arith, l))
  updated_none (e ∷ es) [] t same l = absurd (omega (arith, same))
  updated_none (e ∷ es) (s ∷ ss) t same l = absurd (omega (arith, l))

  pub updated_last : (es : List Exp) (ss : List SizeTree) (d : SizeTree) (t : Size) → length es ≡ length ss → length ss ≡ 1 → updated (es_of es) at (sizes_of ss) t ≡ agree at t (size_of (get_or ss 0 d))
  unfolding terms sizes_of sizes updated
  updated_last [] ss d t same l = absurd (omega (arith, same, l))
  updated_last (e ∷ []) [] d t same l = absurd (omega (arith, l))
  updated_last (e ∷ []) (s ∷ []) d t same l = refl
  updated_last (e ∷ []) (s ∷ r ∷ ss) d t same l = absurd (omega (arith, l))
  updated_last (e ∷ f ∷ es) ss d t same l = absurd (omega (arith, same, l))

  more : (es : List Exp) (ss : List SizeTree) (e : Exp) (d : Dim) (t : Size) → length es ≡ length ss → (length ss ≡ 0 → ⊥) → (length ss ≡ 1 → ⊥) → updated (es_of es) at (sizes_of ss) (Level d t) ≡ updated (es_of (drop 1 es)) (at + numbers (term_of (get_or es 0 e))) (sizes_of (drop 1 ss)) t
  unfolding terms sizes_of sizes updated
  more es [] e d t same l k = elim (l refl) [ ]
  more es (s ∷ []) e d t same l k = elim (k refl) [ ]
  more [] (s ∷ r ∷ ss) e d t same l k = absurd (omega (arith, same))
  more (x ∷ []) (s ∷ r ∷ ss) e d t same l k = absurd (omega (arith, same))
  more (x ∷ y ∷ es) (s ∷ r ∷ ss) e d t same l k = refl

  pub updated_more : (es : List Exp) (ss : List SizeTree) (e : Exp) (t : SizeTree) (height : ℕ) (d : dims.Dim) (row : Bor SizeTree) (next : ℕ) → t ≡ form.Level height d row → length es ≡ length ss → (length ss ≡ 0 → ⊥) → (length ss ≡ 1 → ⊥) → next ≡ at + numbers (term_of (get_or es 0 e))
      → updated (es_of es) at (sizes_of ss) (size_of t) ≡ updated (es_of (drop 1 es)) next (sizes_of (drop 1 ss)) (size_of row.now)
  updated_more es ss e t height d row next is same l k step = ap (λ z. updated (es_of es) at (sizes_of ss) z) (ap size_of is ∙ size_level height d row) ∙ more es ss e _ (size_of row.now) same l k ∙ ap (λ z. updated (es_of (drop 1 es)) z (sizes_of (drop 1 ss)) (size_of row.now)) (sym step)

  pub updated_other : (es : List Exp) (ss : List SizeTree) (t : Size) → length es ≡ length ss → (length ss ≡ 0 → ⊥) → (length ss ≡ 1 → ⊥) → has_level t ≡ false → updated (es_of es) at (sizes_of ss) t ≡ Ok tt
  unfolding terms sizes_of sizes updated
  updated_other es [] t same l k q = elim (l refl) [ ]
  updated_other es (s ∷ []) t same l k q = elim (k refl) [ ]
  updated_other [] (s ∷ r ∷ ss) t same l k q = absurd (omega (arith, same))
  updated_other (x ∷ []) (s ∷ r ∷ ss) t same l k q = absurd (omega (arith, same))
  updated_other (x ∷ y ∷ es) (s ∷ r ∷ ss) (Hole v) same l k q = refl
  updated_other (x ∷ y ∷ es) (s ∷ r ∷ ss) (Open n v u) same l k q = refl
  updated_other (x ∷ y ∷ es) (s ∷ r ∷ ss) (Level d t) same l k q = cc
  updated_other (x ∷ y ∷ es) (s ∷ r ∷ ss) (Built h ts) same l k q = refl
  updated_other (x ∷ y ∷ es) (s ∷ r ∷ ss) (Fun n p r') same l k q = refl

module _ (N : Names) (types : Sub) (n at : ℕ) where
  update_is : (es : List Exp) (ss : List SizeTree) (e : Exp) (d : SizeTree) → length es ≡ length ss → (length ss ≡ 0 → ⊥) → (next : ℕ) → next ≡ at + numbers (term_of (get_or es 0 e))
      → operation N types Update n at (es_of es) (sizes_of ss) ≡ then_do (updated (es_of (drop 1 es)) next (sizes_of (drop 1 ss)) (size_of (get_or ss 0 d))) (λ z. Ok (size_of (get_or ss 0 d)))
  unfolding terms sizes_of sizes operation
  update_is es [] e d same l next step = elim (l refl) [ ]
  update_is [] (s ∷ ss) e d same l next step = absurd (omega (arith, same))
  update_is (x ∷ es) (s ∷ ss) e d same l next step = ap (λ z. then_do (updated (es_of es) z (sizes_of ss) (size_of s)) (λ z. Ok (size_of s))) (sym step)

  module _ (es : List Exp) (ss : List SizeTree) (e : Exp) (d : SizeTree) (same : length es ≡ length ss) (l : length ss ≡ 0 → ⊥) (next : ℕ) (step : next ≡ at + numbers (term_of (get_or es 0 e))) (k : Result (Unit {0}) SizeErr) (h : Agrees (updated (es_of (drop 1 es)) next (sizes_of (drop 1 ss)) (size_of (get_or ss 0 d))) k) where
    pub update_made : (u : Unit {0}) → k ≡ Ok u → operation N types Update n at (es_of es) (sizes_of ss) ≡ Ok (size_of (get_or ss 0 d))
    update_made u is = update_is es ss e d same l next step ∙ agreed (updated (es_of (drop 1 es)) next (sizes_of (drop 1 ss)) (size_of (get_or ss 0 d))) k h _ u is

    pub update_stop : (x : SizeErr) → k ≡ Err x → Sized (operation N types Update n at (es_of es) (sizes_of ss)) (Err x)
    update_stop x is = subst (λ z. Sized z (Err x)) (sym (update_is es ss e d same l next step)) (agreed_not (updated (es_of (drop 1 es)) next (sizes_of (drop 1 ss)) (size_of (get_or ss 0 d))) k h (λ (t : Bor SizeTree) (y : Size). y ≡ size_of t.now) _ x is)
