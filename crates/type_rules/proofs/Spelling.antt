-- Numbers, digit by digit.
use Rattle.std.proofs.Common.{◌≡◌, ◌↔◌, ℕ, zero, suc, ◌+◌, ◌-◌, ◌*◌, ◌≤◌, ◌<◌, List, [], ◌∷◌, length, drop, slice_index_or, Option, Some, None, refl, sym, ◌∙◌, ap, subst, arith}
use Rattle.fut_ast.specs.Sorts.{Text}
use Rattle.fut_types.specs.Shapes.{most_parts}
use Rattle.fut_typing.specs.Names.{Digits, Spells}
use Rattle.type_rules.specs.Labels.{Tells_number}

pub drop_next : {X : Type 0} (xs : List X) (at : ℕ) (d : X) → at < length xs → drop at xs ≡ slice_index_or xs at d ∷ drop (at + 1) xs
drop_next xs at d h = go xs at h ∙ ap (λ n. slice_index_or xs at d ∷ drop n xs) (let e : suc at ≡ at + 1 = omega arith in e)
  where
    go : (ys : List _) (i : ℕ) → i < length ys → drop i ys ≡ slice_index_or ys i d ∷ drop (suc i) ys
    go [] i h = absurd (omega arith)
    go (y ∷ ys) zero h = refl
    go (y ∷ ys) (suc i) h = go ys i (omega arith)

pub drop_all : {X : Type 0} (xs : List X) (at : ℕ) → length xs ≤ at → drop at xs ≡ []
drop_all [] zero h = refl
drop_all [] (suc at) h = refl
drop_all (x ∷ xs) zero h = absurd (omega arith)
drop_all (x ∷ xs) (suc at) h = drop_all xs at (omega arith)

-- a name without digits, or with a zero in front, spells nothing
pub spells_none : (text bytes : List ℕ) → bytes ≡ text → length bytes ≡ 0 → (m : ℕ) → Spells text m → ⊥
spells_none [] bytes e z m h = h
spells_none (c ∷ cs) bytes e z m h = let l : length bytes ≡ suc (length cs) = ap length e in omega arith

pub spells_zero : (text bytes : List ℕ) → bytes ≡ text → (length bytes ≡ 1 → ⊥) → slice_index_or bytes 0 0 ≡ 48 → (m : ℕ) → Spells text m → ⊥
spells_zero [] bytes e l z m h = h
spells_zero (c ∷ []) bytes e l z m h = l (ap length e)
spells_zero (c ∷ d ∷ cs) bytes e l z m h = h.0 (sym (ap (λ bs. slice_index_or bs 0 0) e) ∙ z)

-- other texts spell what their digits say
pub tells_one : (text bytes : List ℕ) → bytes ≡ text → length bytes ≡ 1 → (r : Option ℕ) → Tells_number (Digits 0 bytes) r → Tells_number (Spells text) r
tells_one [] bytes e l r h = absurd (let k : length bytes ≡ 0 = ap length e in omega arith)
tells_one (c ∷ []) bytes e l (Some m) h = subst (λ bs. Digits 0 bs m) e h
tells_one (c ∷ []) bytes e l None h = λ m d. h m (subst (λ bs. Digits 0 bs m) (sym e) d)
tells_one (c ∷ x ∷ cs) bytes e l r h = absurd (let k : length bytes ≡ suc (suc (length cs)) = ap length e in omega arith)

pub tells_more : (text bytes : List ℕ) → bytes ≡ text → (length bytes ≡ 0 → ⊥) → (length bytes ≡ 1 → ⊥) → (slice_index_or bytes 0 0 ≡ 48 → ⊥) → (r : Option ℕ) → Tells_number (Digits 0 bytes) r → Tells_number (Spells text) r
tells_more [] bytes e some one first r h = absurd (some (ap length e))
tells_more (c ∷ []) bytes e some one first r h = absurd (one (ap length e))
tells_more (c ∷ x ∷ cs) bytes e some one first (Some m) h = ((λ z. first (ap (λ bs. slice_index_or bs 0 0) e ∙ z)), subst (λ bs. Digits 0 bs m) e h)
tells_more (c ∷ x ∷ cs) bytes e some one first None h = λ m d. h m (subst (λ bs. Digits 0 bs m) (sym e) d.1)

-- digits say no less than the first of them
no_less : (before : ℕ) (cs : Text) (m : ℕ) → Digits before cs m → before ≤ m
no_less before [] m h = omega (arith, h)
no_less before (c ∷ cs) m h = let l : 10 * before + h.0 ≤ m = no_less (10 * before + h.0) cs m h.3 in omega arith

not_digit : (before c m : ℕ) (cs : List ℕ) → (c < 48) → Digits before (c ∷ cs) m → ⊥
not_digit before c m cs lt h = let e : c ≡ 48 + h.0 = h.2 in omega arith

high_digit : (before c m : ℕ) (cs : List ℕ) → (57 < c) → Digits before (c ∷ cs) m → ⊥
high_digit before c m cs lt h = let e : c ≡ 48 + h.0 = h.2 in let l : h.0 ≤ 9 = h.1 in omega arith

module _ (text : Text) (bytes : List ℕ) (value at : ℕ) (lt : at < length bytes) (so : (m : ℕ) → Digits 0 text m ↔ Digits value (drop at bytes) m) where
  here : (m : ℕ) → Digits 0 text m → Digits value (slice_index_or bytes at 0 ∷ drop (at + 1) bytes) m
  here m h = subst (λ l. Digits value l m) (drop_next bytes at 0 lt) ((so m).0 h)

  back : (m : ℕ) → Digits value (slice_index_or bytes at 0 ∷ drop (at + 1) bytes) m → Digits 0 text m
  back m h = (so m).1 (subst (λ l. Digits value l m) (sym (drop_next bytes at 0 lt)) h)

  pub digit_low : slice_index_or bytes at 0 < 48 → (m : ℕ) → Digits 0 text m → ⊥
  digit_low l m h = not_digit value (slice_index_or bytes at 0) m (drop (at + 1) bytes) l (here m h)

  pub digit_high : 57 < slice_index_or bytes at 0 → (m : ℕ) → Digits 0 text m → ⊥
  digit_high l m h = high_digit value (slice_index_or bytes at 0) m (drop (at + 1) bytes) l (here m h)

  pub digit_next : 48 ≤ slice_index_or bytes at 0 → slice_index_or bytes at 0 ≤ 57 → (m : ℕ) → Digits 0 text m ↔ Digits (10 * value + (slice_index_or bytes at 0 - 48)) (drop (at + 1) bytes) m
  digit_next l h m = (
    (λ d. let p = here m d in subst (λ n. Digits (10 * value + n) (drop (at + 1) bytes) m) (let e : slice_index_or bytes at 0 ≡ 48 + p.0 = p.2 in let r : p.0 ≡ slice_index_or bytes at 0 - 48 = omega arith in r) p.3),
    (λ d. back m (slice_index_or bytes at 0 - 48, omega arith, omega arith, d)),
  )

digits_end : (text : Text) (bytes : List ℕ) (value at : ℕ) → length bytes ≤ at → ((m : ℕ) → Digits 0 text m ↔ Digits value (drop at bytes) m) → (m : ℕ) → Digits 0 text m ↔ (value ≡ m)
digits_end text bytes value at le so m = subst (λ l. Digits 0 text m ↔ Digits value l m) (drop_all bytes at le) (so m)

-- a number that is past all parts stays so, whatever digits follow
pub digits_past : (text : Text) (bytes : List ℕ) (value at : ℕ) → most_parts ≤ value → ((m : ℕ) → Digits 0 text m ↔ Digits value (drop at bytes) m) → (m : ℕ) → Digits 0 text m → most_parts ≤ m
digits_past text bytes value at le so m h = let l : value ≤ m = no_less value (drop at bytes) m ((so m).0 h) in omega arith

pub digits_all : (text : Text) (bytes : List ℕ) (value at : ℕ) → length bytes ≤ at → ((m : ℕ) → Digits 0 text m ↔ Digits value (drop at bytes) m) → Digits 0 text value
digits_all text bytes value at le so = (digits_end text bytes value at le so value).1 refl
