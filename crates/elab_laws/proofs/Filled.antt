-- Binders that are the numbers from one up to another, each once.
use Rattle.std.proofs.Common.{◌≡◌, ℕ, zero, suc, ◌+◌, ◌++◌, List, [], ◌∷◌, Result, Ok, sym, ap, ◌∙◌, subst, arith, IsPermutation}
use Rattle.std.specs.List.{range_with_len}
use Rattle.std.proofs.lemmas.List.Sorted.{IsPermutation-refl, IsPermutation-trans, IsPermutation-append, IsPermutation-append_comm}
use Rattle.elab_scopes.specs.Names.{Refusal}
use Rattle.elab_laws.proofs.Grown.{ok_part, ok_rest}

pub record Filled (lo hi : ℕ) (xs : List ℕ) : Type 0 where
  pub many : ℕ
  pub upto : hi ≡ lo + many
  pub each : IsPermutation (range_with_len lo many) xs

range-append : (a m n b : ℕ) → a + m ≡ b → range_with_len a (m + n) ≡ range_with_len a m ++ range_with_len b n
range-append a zero n b e = let on : 0 + n ≡ n = omega arith in let same : a ≡ b = omega (arith, e) in ap (range_with_len a) on ∙ ap (λ k. range_with_len k n) same
range-append a (suc m) n b e = let on : suc m + n ≡ suc (m + n) = omega arith in ap (range_with_len a) on ∙ ap (λ l. a ∷ l) (range-append (a + 1) m n b (omega (arith, e)))

pub fill_none : {lo hi : ℕ} → lo ≡ hi → Filled lo hi []
fill_none e = record { many = 0; upto = omega (arith, e); each = IsPermutation-refl [] }

pub fill_one : {lo hi : ℕ} → hi ≡ suc lo → Filled lo hi (lo ∷ [])
fill_one {lo} e = record { many = 1; upto = omega (arith, e); each = IsPermutation-refl (lo ∷ []) }

pub fill_both : {lo mid hi : ℕ} {xs ys : List ℕ} → Filled lo mid xs → Filled mid hi ys → Filled lo hi (xs ++ ys)
fill_both {lo} {mid} {hi} {xs} {ys} f g = record {
  many = f.many + g.many;
  upto = omega (arith, f.upto, g.upto);
  each = subst (λ l. IsPermutation l (xs ++ ys)) (sym (range-append lo f.many g.many mid (sym f.upto))) (IsPermutation-append _ _ _ _ f.each g.each);
}

-- what is numbered first stands last
pub fill_back : {lo mid hi : ℕ} {xs ys : List ℕ} → Filled lo mid xs → Filled mid hi ys → Filled lo hi (ys ++ xs)
fill_back {xs = xs} {ys = ys} f g = let both = fill_both f g in record { many = both.many; upto = both.upto; each = IsPermutation-trans _ _ _ both.each (IsPermutation-append_comm xs ys) }

-- the end of a form: what it gives, and how much was numbered behind it
pub fill_end : {A S : Type 0} (binds : A → List ℕ) (count : S → ℕ) {lo : ℕ} {a b : A} {s t : S} → Filled lo (count s) (binds a) → ◌≡◌ {A = Result (A × S) Refusal} (Ok (a, s)) (Ok (b, t)) → Filled lo (count t) (binds b)
fill_end binds count {lo} {a} {b} {s} {t} f e = subst (λ z. Filled lo (count t) (binds z)) (ok_part e) (subst (λ z. Filled lo (count z) (binds a)) (ok_rest e) f)
