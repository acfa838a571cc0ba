-- Tables that have nothing of any node.
use Rattle.std.proofs.Common.{◌≡◌, ℕ, zero, suc, ◌+◌, List, [], ◌∷◌, ◌++◌, get_or, replicate, Option, None, refl, sym, ap, ◌∙◌, add-one}
use Rattle.fut_sizes.specs.Programs.{no_state}
use Rattle.size_program.specs.declared.tables.Tables.{Tables}
use Rattle.size_program.specs.Tables.{Stands, noted, levels_or_none}

module _ {A : Type 0} where
  none_at : (count i : ℕ) → get_or (replicate {A = Option A} count None) i None ≡ None
  none_at zero i = refl
  none_at (suc n) zero = refl
  none_at (suc n) (suc i) = none_at n i

  pub nothing_more : (xs ys : List (Option A)) (n : ℕ) → xs ≡ replicate n None → ys ≡ xs ++ None ∷ [] → ys ≡ replicate (n + 1) None
  nothing_more xs ys n is more = more ∙ ap (λ z. z ++ None ∷ []) is ∙ one_more n ∙ ap (λ k. replicate k None) (sym (add-one n))
    where
      one_more : (n : ℕ) → replicate {A = Option A} n None ++ None ∷ [] ≡ replicate (suc n) None
      one_more zero = refl
      one_more (suc n) = ap (λ z. None ∷ z) (one_more n)

pub nothing_known : (t : Tables) (n m : ℕ) → t.nodes ≡ replicate n None → t.dropped ≡ replicate m None → Stands t no_state
nothing_known t n m nodes dropped = record {
  nodes = λ i. sym (ap (noted i) (ap (λ z. get_or z i None) nodes ∙ none_at n i));
  dropped = λ i. sym (ap levels_or_none (ap (λ z. get_or z i None) dropped ∙ none_at m i));
}

pub ruleset tables = (nothing_known)
