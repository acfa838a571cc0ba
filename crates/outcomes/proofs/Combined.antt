-- A fold from the left is a tree.
use Rattle.std.proofs.Common.{◌≡◌, ℕ, zero, suc, ◌+◌, ◌<◌, ◌≤◌, ◌++◌, List, [], ◌∷◌, length, fold, flat_map, slice_index, nat_eq, Bool, true, false, if◌then◌else◌, IsPermutation, sym, refl, ap, ◌∙◌, subst, arith, append_assoc}
use Rattle.phase_model.proofs.Words.{combined_law}
use Rattle.fut_meaning.specs.Outcomes.{Val, exact, gives, Rel, Tree, element, node, elements, neutrals, tree_gives, both, Bracket, bracket}
use Rattle.outcomes.specs.Combined.{CombinedIsAReduction}

module _ (op : ℕ → ℕ → ℕ) (ne : ℕ) where
  abbrev R : ℕ → ℕ → Rel ℕ
  R a b = gives 0 (op a b)

  comb : Tree ℕ → List ℕ → Tree ℕ
  comb t [] = t
  comb t (x ∷ xs) = comb (node t (element x)) xs

  comb_elements : (t : Tree ℕ) (xs : List ℕ) → elements (comb t xs) ≡ elements t ++ xs
  unfolding comb
  comb_elements t [] = sym (Rattle.std.proofs.Common.append-nil (elements t))
  comb_elements t (x ∷ xs) = comb_elements (node t (element x)) xs ∙ append_assoc (elements t) (x ∷ []) xs

  comb_neutrals : (t : Tree ℕ) (xs : List ℕ) → neutrals (comb t xs) ≡ neutrals t
  unfolding comb
  comb_neutrals t [] = refl
  comb_neutrals t (x ∷ xs) = comb_neutrals (node t (element x)) xs ∙ (let z : neutrals t + 0 ≡ neutrals t = omega arith in z)

  comb_gives : (t : Tree ℕ) (v : ℕ) (xs : List ℕ) → tree_gives R ne t (Val v) 0 → tree_gives R ne (comb t xs) (Val (fold op v xs)) 0
  unfolding comb
  comb_gives t v [] h = h
  comb_gives t v (x ∷ xs) h = comb_gives (node t (element x)) (op v x) xs (both {a = v} {b = x} {f = 0} {g = 0} {h = 0} h exact exact)

  fold_is_a_bracket : (v : ℕ) (xs : List ℕ) → Bracket true R ne (v ∷ xs) (Val (fold op v xs)) 0
  fold_is_a_bracket v xs = bracket (comb (element v) xs) (comb_elements (element v) xs) (let z = comb_neutrals (element v) xs in omega arith) (comb_gives (element v) v xs exact)

pub combined_is_a_reduction : CombinedIsAReduction
combined_is_a_reduction op ne old words pairs d i lt =
    let c = combined_law op old words pairs d i lt in
    (c.0, c.1, subst (λ v. Bracket true (λ a b. gives 0 (op a b)) ne (slice_index old i ∷ c.0) (Val v) 0) (sym c.2) (fold_is_a_bracket op ne (slice_index old i) c.0))
