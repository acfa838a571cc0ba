-- A row is searched by name from its beginning.
use Rattle.std.proofs.Common.{◌≡◌, ℕ, zero, suc, ◌+◌, ◌≤◌, ◌<◌, Bool, true, false, cond, List, [], ◌∷◌, Option, Some, None, length, drop, slice_index_or, refl, sym, ◌∙◌, ap, arith}
use Rattle.std.proofs.lemmas.List.{at_drop_more}
use Rattle.std.specs.Str.{bytes_eq}
use Rattle.fut_primitives.specs.Names.{first_named}

module _ {A : Type 0} (word : A → List ℕ) (x : List ℕ) where
  none_left : (ps : List A) (i : ℕ) → length ps ≤ i → first_named word (drop i ps) x ≡ None
  none_left [] zero le = refl
  none_left [] (suc i) le = refl
  none_left (q ∷ ps) zero le = absurd (omega arith)
  none_left (q ∷ ps) (suc i) le = none_left ps i (omega arith)

  module _ (ps : List A) (i : ℕ) (d : A) (lt : i < length ps) where
    first_of : (b : Bool) → bytes_eq (word (slice_index_or ps i d)) x ≡ b → first_named word (drop i ps) x ≡ cond b (Some (slice_index_or ps i d)) (first_named word (drop (i + 1) ps) x)
    first_of b e = at_drop_more (λ l. first_named word l x) ps i d lt ∙ ap (λ b. cond b (Some (slice_index_or ps i d)) (first_named word (drop (i + 1) ps) x)) e

    pub found : (r : Option A) → bytes_eq (word (slice_index_or ps i d)) x ≡ true → first_named word (drop i ps) x ≡ r → Some (slice_index_or ps i d) ≡ r
    found r e h = sym (first_of true e) ∙ h

    pub passed : (r : Option A) → bytes_eq (word (slice_index_or ps i d)) x ≡ false → first_named word (drop i ps) x ≡ r → first_named word (drop (i + 1) ps) x ≡ r
    passed r e h = sym (first_of false e) ∙ h

  pub missing : (ps : List A) (i : ℕ) (r : Option A) → length ps ≤ i → first_named word (drop i ps) x ≡ r → None ≡ r
  missing ps i r le h = sym (none_left ps i le) ∙ h
