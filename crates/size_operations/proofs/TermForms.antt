-- The terms of expressions, one after another.
use Rattle.std.proofs.Common.{◌≡◌, ℕ, suc, ◌+◌, ◌<◌, ◌≤◌, List, ◌∷◌, length, get_or, drop, map, refl, sym, ap, ◌∙◌, add-one}
use Rattle.std.proofs.Math.Seq.{drop-cons}
use Rattle.fut_flat.specs.declared.exp.Exp.{Exp}
use Rattle.fut_flat.specs.Terms.{no_term, term_and}
use Rattle.fut_flat.specs.Erased.{term_of, terms}
use Rattle.size_arena.proofs.Parts.{drop_past}

pub terms_and : (e : Exp) (es : List Exp) → terms (map term_of (e ∷ es)) ≡ term_and (term_of e) (terms (map term_of es))
unfolding terms
terms_and e es = refl

module _ (es : List Exp) (i : ℕ) where
  pub terms_at : (e : Exp) → i < length es → terms (map term_of (drop i es)) ≡ term_and (term_of (get_or es i e)) (terms (map term_of (drop (i + 1) es)))
  terms_at e l = ap (λ z. terms (map term_of z)) (drop-cons es i e l) ∙ terms_and (get_or es i e) (drop (suc i) es) ∙ ap (λ j. term_and (term_of (get_or es i e)) (terms (map term_of (drop j es)))) (sym (add-one i))

  pub terms_end : length es ≤ i → terms (map term_of (drop i es)) ≡ no_term
  unfolding terms
  terms_end l = ap (λ z. terms (map term_of z)) (drop_past es i l)
