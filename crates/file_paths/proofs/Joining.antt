-- Segments with slashes between them, one after the other.
use Rattle.std.proofs.Common.{slice_index_or, get_or, ◌≡◌, ℕ, zero, suc, ◌+◌, ◌<◌, List, [], ◌∷◌, ◌++◌, length, take, refl, sym, ap, ◌∙◌, codes, Result, IfOk}
use Rattle.std.specs.Borrow.{Bor}
use Rattle.std.proofs.lemmas.List.{append_assoc, map-append, take_more}
use Rattle.std.proofs.lemmas.Result.{IfOk-weaker}
use Rattle.fut_ast.specs.Sorts.{Text}
use Rattle.fut_tree.specs.Names.{names}
use Rattle.elab_scopes.specs.Imports.{folder, imported_path, segments, slashed, tidied}

one_more : (x : Text) (ys : List Text) (y : Text) → slashed (x ∷ (ys ++ y ∷ [])) ≡ slashed (x ∷ ys) ++ 47 ∷ y
one_more x [] y = refl
one_more x (z ∷ zs) y = ap (λ l. x ++ 47 ∷ l) (one_more z zs y) ∙ sym (append_assoc x (47 ∷ slashed (z ∷ zs)) (47 ∷ y))

same_at : {A : Type 0} (xs : List A) (i : ℕ) (d : A) → get_or xs i d ≡ slice_index_or xs i d
same_at [] i d = refl
same_at (x ∷ xs) zero d = refl
same_at (x ∷ xs) (suc i) d = same_at xs i d

names_to : (ps : List (Bor Text)) (i : ℕ) (d : Bor Text) → i < length ps → names (take (i + 1) ps) ≡ names (take i ps) ++ (slice_index_or ps i d).now ∷ []
names_to ps i d lt = ap names (take_more ps i d lt ∙ ap (λ y. take i ps ++ y ∷ []) (same_at ps i d)) ∙ map-append (λ (b : Bor Text). b.now) (take i ps) (slice_index_or ps i d ∷ [])

module _ (x : Text) (ps : List (Bor Text)) where
  pub text_begins : (t : Text) → t ≡ x → t ≡ slashed (x ∷ names (take 0 ps))
  text_begins t e = e

  pub text_grows : (i : ℕ) (t u v : Text) (d : Bor Text) → t ≡ slashed (x ∷ names (take i ps)) → i < length ps → u ≡ t ++ 47 ∷ [] → v ≡ u ++ (slice_index_or ps i d).now → v ≡ slashed (x ∷ names (take (i + 1) ps))
  text_grows i t u v d e lt slash is = is ∙ ap (λ l. l ++ (slice_index_or ps i d).now) slash ∙ append_assoc t (47 ∷ []) (slice_index_or ps i d).now
      ∙ ap (λ l. l ++ 47 ∷ (slice_index_or ps i d).now) e ∙ sym (one_more x (names (take i ps)) (slice_index_or ps i d).now) ∙ ap (λ l. slashed (x ∷ l)) (sym (names_to ps i d lt))

-- the path of an import, by what it is made of
pub whole : {E : Type 0} (r : Result (Bor Text) E) (from text file : Text) (put path : List (Bor Text)) → file ≡ text ++ codes ".fut" → names put ≡ folder (segments from) ++ segments file → names path ≡ tidied [] (names put)
    → IfOk r (λ p. p.now ≡ slashed (names path)) → IfOk r (λ p. p.now ≡ imported_path from text)
unfolding imported_path
whole r from text file put path f s t = IfOk-weaker r (λ p. p.now ≡ slashed (names path)) (λ p. p.now ≡ imported_path from text) (λ p e. e ∙ ap slashed (t ∙ ap (tidied []) (s ∙ ap (λ x. folder (segments from) ++ segments x) f)))
