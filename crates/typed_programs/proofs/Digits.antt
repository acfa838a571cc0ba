-- Digits, and the numbers that they spell.
use Rattle.std.proofs.Common.{◌≡◌, ℕ, zero, suc, ◌+◌, ◌-◌, ◌*◌, ◌<◌, ◌≤◌, [], ◌∷◌, length, take, slice_index_or, refl, sym, ap, ◌∙◌, subst, arith}
use mathlib.Core.Logic.{◌⊎◌, inl, inr}
use Rattle.std.specs.List.{All}
use Rattle.fut_ast.specs.Sorts.{Text}
use Rattle.fut_typing.specs.Names.{Digits, Spells}
use Rattle.typed_programs.specs.Trees.{Is_digit}
use Rattle.typed_programs.proofs.FormLaws.{first_of, others, all_more}

digits_spell : (before : ℕ) (cs : Text) → All Is_digit cs → (n : ℕ) × Digits before cs n
unfolding Is_digit
digits_spell before [] h = (before, refl)
digits_spell before (c ∷ cs) h =
    let d = first_of Is_digit c cs h in
    let r = digits_spell (10 * before + (c - 48)) cs (others Is_digit c cs h) in
    let low : 48 ≤ c = d.0 in
    let high : c ≤ 57 = d.1 in
    (r.0, (c - 48, omega arith, omega arith, r.1))

spelled_by_digits : (before : ℕ) (cs : Text) (n : ℕ) → Digits before cs n → All Is_digit cs
unfolding Is_digit
spelled_by_digits before [] n h = λ k d lt. absurd (omega arith)
spelled_by_digits before (c ∷ cs) n h =
    let is : c ≡ 48 + h.0 = h.2 in
    let few : h.0 ≤ 9 = h.1 in
    all_more Is_digit c cs (omega arith, omega arith) (spelled_by_digits (10 * before + h.0) cs n h.3)

pub digits_more : (bs : Text) (i : ℕ) → i < length bs → All Is_digit (take i bs) → 48 ≤ slice_index_or bs i 0 → slice_index_or bs i 0 ≤ 57 → All Is_digit (take (suc i) bs)
unfolding Is_digit
digits_more [] i lt h low high = absurd (omega arith)
digits_more (b ∷ bs) zero lt h low high = all_more Is_digit b [] (low, high) h
digits_more (b ∷ bs) (suc i) lt h low high = all_more Is_digit b (take (suc i) bs) (first_of Is_digit b (take i bs) h) (digits_more bs i (omega arith) (others Is_digit b (take i bs) h) low high)

pub no_digit : (bs : Text) (i : ℕ) → i < length bs → (slice_index_or bs i 0 < 48) ⊎ (57 < slice_index_or bs i 0) → All Is_digit bs → ⊥
unfolding Is_digit
no_digit bs i lt (inl l) h = let d : 48 ≤ slice_index_or bs i 0 = (h i 0 lt).0 in omega arith
no_digit bs i lt (inr l) h = let d : slice_index_or bs i 0 ≤ 57 = (h i 0 lt).1 in omega arith

pub spells_nothing : (text bytes : Text) → bytes ≡ text → length bytes ≡ 0 → (n : ℕ) → Spells text n → ⊥
spells_nothing [] bytes e none n h = h
spells_nothing (c ∷ cs) bytes e none n h = let l : length bytes ≡ suc (length cs) = ap length e in omega arith

pub spells_one : (text bytes : Text) → bytes ≡ text → length bytes ≡ 1 → All Is_digit bytes → (n : ℕ) × Spells text n
spells_one [] bytes e one h = absurd (let l : length bytes ≡ 0 = ap length e in omega arith)
spells_one (c ∷ []) bytes e one h = digits_spell 0 (c ∷ []) (subst (All Is_digit) e h)
spells_one (c ∷ d ∷ cs) bytes e one h = absurd (let l : length bytes ≡ suc (suc (length cs)) = ap length e in omega arith)

pub no_zero_in_front : (text bytes : Text) → bytes ≡ text → (length bytes ≡ 1 → ⊥) → slice_index_or bytes 0 0 ≡ 48 → (n : ℕ) → Spells text n → ⊥
no_zero_in_front [] bytes e more is n h = h
no_zero_in_front (c ∷ []) bytes e more is n h = more (ap length e)
no_zero_in_front (c ∷ d ∷ cs) bytes e more is n h = h.0 (sym (ap (λ bs. slice_index_or bs 0 0) e) ∙ is)

pub spells_more : (text bytes : Text) → bytes ≡ text → (length bytes ≡ 0 → ⊥) → (length bytes ≡ 1 → ⊥) → (slice_index_or bytes 0 0 ≡ 48 → ⊥) → All Is_digit bytes → (n : ℕ) × Spells text n
spells_more [] bytes e some one first h = absurd (some (ap length e))
spells_more (c ∷ []) bytes e some one first h = absurd (one (ap length e))
spells_more (c ∷ d ∷ cs) bytes e some one first h = let r = digits_spell 0 (c ∷ d ∷ cs) (subst (All Is_digit) e h) in (r.0, ((λ z. first (ap (λ bs. slice_index_or bs 0 0) e ∙ z)), r.1))

pub digits_alone : (text bytes : Text) → bytes ≡ text → (All Is_digit bytes → ⊥) → (n : ℕ) → Spells text n → ⊥
digits_alone [] bytes e not n h = h
digits_alone (c ∷ []) bytes e not n h = not (subst (All Is_digit) (sym e) (spelled_by_digits 0 (c ∷ []) n h))
digits_alone (c ∷ d ∷ cs) bytes e not n h = not (subst (All Is_digit) (sym e) (spelled_by_digits 0 (c ∷ d ∷ cs) n h.1))
