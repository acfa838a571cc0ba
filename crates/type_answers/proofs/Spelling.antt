-- A number is written in one way.
use Rattle.std.proofs.Common.{◌≡◌, ◌≢◌, ℕ, zero, suc, ◌+◌, ◌*◌, ◌≤◌, ◌<◌, [], ◌∷◌, length, refl, sym, ◌∙◌, ap, arith}
use mathlib.Core.Logic.{◌⊎◌, inl, inr}
use native.Mathlib.Decide.{ℕ_discrete}
use Rattle.fut_ast.specs.Sorts.{Text}
use Rattle.fut_typing.specs.Names.{Digits, Spells}
use Rattle.type_answers.specs.Richness.{Names_are_apart}

same_length : (b b' n : ℕ) (s t : Text) → length s ≡ length t → Digits b s n → Digits b' t n → (b ≡ b') × (s ≡ t)
same_length b b' n [] [] e p q = (p ∙ sym q, refl)
same_length b b' n [] (d ∷ ds) e p q = absurd (omega arith)
same_length b b' n (c ∷ cs) [] e p q = absurd (omega arith)
same_length b b' n (c ∷ cs) (d ∷ ds) e p q =
    let r = same_length (10 * b + p.0) (10 * b' + q.0) n cs ds (omega arith) p.3 q.3 in
    let x9 : p.0 ≤ 9 = p.1 in let y9 : q.0 ≤ 9 = q.1 in let eq : 10 * b + p.0 ≡ 10 * b' + q.0 = r.0 in
    let xy : p.0 ≡ q.0 = omega arith in
    (omega arith, (λ i. (p.2 ∙ ap (λ x. 48 + x) xy ∙ sym q.2) i ∷ r.1 i))

no_less : (b b' n : ℕ) (s t : Text) → length s ≤ length t → Digits b s n → Digits b' t n → b' ≤ b
no_less b b' n s [] le p q = let r : b ≡ b' = (same_length b b' n s [] (omega arith) p q).0 in omega arith
no_less b b' n s (d ∷ ds) le p q = elim (ℕ_discrete (length s) (length (d ∷ ds))) as (λ x. b' ≤ b) [
  | yes e ↦ let r : b ≡ b' = (same_length b b' n s (d ∷ ds) e p q).0 in omega arith
  | no ne ↦ let r : 10 * b' + q.0 ≤ b = no_less b (10 * b' + q.0) n s ds (shorter (length s) (length ds) le ne) p q.3 in omega arith
]
  where
    shorter : (k m : ℕ) → k ≤ suc m → k ≢ suc m → k ≤ m
    shorter k m h ne = grind (arith, ne)

digits_of : (n : ℕ) (s : Text) → Spells s n → Digits 0 s n
digits_of n [] p = absurd p
digits_of n (c ∷ []) p = p
digits_of n (c ∷ d ∷ cs) p = p.1

longer : (n : ℕ) (s t : Text) → length s < length t → Spells s n → Spells t n → ⊥
longer n s [] h p q = q
longer n [] (c ∷ []) h p q = p
longer n (x ∷ xs) (c ∷ []) h p q = absurd (omega arith)
longer n s (c ∷ d ∷ cs) h p q =
    let g = q.1 in
    let r : 10 * 0 + g.0 ≤ 0 = no_less 0 (10 * 0 + g.0) n s (d ∷ cs) (omega arith) (digits_of n s p) g.3 in
    q.0 (g.2 ∙ (let z : 48 + g.0 ≡ 48 = omega arith in z))

compare : (k m : ℕ) → (k ≡ m) ⊎ ((k < m) ⊎ (m < k))
compare zero zero = inl refl
compare zero (suc m) = inr (inl (omega arith))
compare (suc k) zero = inr (inr (omega arith))
compare (suc k) (suc m) = elim (compare k m) as (λ d. (suc k ≡ suc m) ⊎ ((suc k < suc m) ⊎ (suc m < suc k))) [ inl e ↦ inl (ap suc e) | inr o ↦ elim o as (λ d. (suc k ≡ suc m) ⊎ ((suc k < suc m) ⊎ (suc m < suc k))) [ inl l ↦ inr (inl (omega arith)) | inr l ↦ inr (inr (omega arith)) ] ]

pub one_text : (n : ℕ) (s t : Text) → Spells s n → Spells t n → s ≡ t
one_text n s t p q = elim (compare (length s) (length t)) as (λ d. s ≡ t) [
  | inl e ↦ (same_length 0 0 n s t e (digits_of n s p) (digits_of n t q)).1
  | inr o ↦ elim o as (λ d. s ≡ t) [ inl l ↦ absurd (longer n s t l p q) | inr l ↦ absurd (longer n t s l q p) ]
]

pub apart : Names_are_apart
apart N m are texts = record {
  positions = λ x y p lx ly e f.
      let s = texts x lx in let t = texts y ly in
      s.1 ∙ ap N.label (one_text p s.0 t.0 ((are.position s.0 p).0 (ap N.shapes.position (sym s.1) ∙ e)) ((are.position t.0 p).0 (ap N.shapes.position (sym t.1) ∙ f))) ∙ sym t.1;
}
