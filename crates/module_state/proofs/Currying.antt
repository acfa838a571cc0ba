-- Parameters of modules, the last one first.
use Rattle.std.proofs.Common.{◌≡◌, ℕ, zero, suc, get_or, ◌+◌, ◌<◌, ◌≤◌, List, [], ◌∷◌, length, drop, slice_index_or, Option, None, refl, sym, ap, ◌∙◌, arith}
use Rattle.std.proofs.lemmas.List.{drop_more}
use Rattle.std.proofs.Math.ListN.{drop_of_length-le}
use Rattle.fut_scalar.specs.declared.place.Place.{Place}
use Rattle.fut_ast.specs.ModRows.{mod_at}
use Rattle.fut_ast.specs.declared.module.ModExp.{ModExp}
use Rattle.fut_ast.specs.declared.module.ModForm.TheVariants as form
use Rattle.fut_ast.specs.declared.module.ModType.{ModType}
use Rattle.fut_ast.specs.declared.module.Param.{Param as PlainParam}
use Rattle.fut_tree.specs.declared.module.Param.{Param}
use Rattle.fut_tree.specs.ModTypes.{label_of, param_of, params_of}
use Rattle.module_state.specs.Steps.{with_parameters}

same_at : {A : Type 0} (xs : List A) (i : ℕ) (d : A) → get_or xs i d ≡ slice_index_or xs i d
same_at [] i d = refl
same_at (x ∷ xs) zero d = refl
same_at (x ∷ xs) (suc i) d = same_at xs i d

from_index : {A : Type 0} (xs : List A) (i : ℕ) (d : A) → i < length xs → drop i xs ≡ slice_index_or xs i d ∷ drop (i + 1) xs
from_index xs i d lt = drop_more xs i d lt ∙ ap (λ y. y ∷ drop (i + 1) xs) (same_at xs i d)

-- the module type of what is behind these parameters
unfoldable pub behind_these : List PlainParam → Option ModType → Option ModType
behind_these [] t = t
behind_these (p ∷ ps) t = None

one_curried : (at : Place) (p : PlainParam) (ps : List PlainParam) (t : Option ModType) (m : ModExp) → mod_at at (form.Lambda p.label p.bound (behind_these ps t) (with_parameters at ps t m)) ≡ with_parameters at (p ∷ ps) t m
unfolding behind_these
one_curried at p [] t m = refl
one_curried at p (q ∷ ps) t m = refl

module _ (at : Place) (ps : List Param) (t : Option ModType) (m : ModExp) where
  abbrev pub body_at : ℕ → ModExp
  body_at left = with_parameters at (params_of (drop left ps)) t m

  abbrev pub seal_at : ℕ → Option ModType
  seal_at left = behind_these (params_of (drop left ps)) t

  pub none_behind : (left : ℕ) → left ≡ length ps → (m ≡ body_at left) × (t ≡ seal_at left)
  unfolding behind_these
  none_behind left e = (ap (λ l. with_parameters at (params_of l) t m) (sym (drop_of_length-le ps (omega (arith, e)))), ap (λ l. behind_these (params_of l) t) (sym (drop_of_length-le ps (omega (arith, e)))))

  pub one_behind : (left less : ℕ) (d : Param) (seal : Option ModType) (body more : ModExp) → less + 1 ≡ left → left ≤ length ps → body ≡ body_at left → seal ≡ seal_at left
      → more ≡ mod_at at (form.Lambda (label_of (slice_index_or ps less d).label) (slice_index_or ps less d).bound.now seal body) → (more ≡ body_at less) × (None ≡ seal_at less)
  unfolding behind_these
  one_behind left less d seal body more one le bodies seals is = (
    is ∙ (λ i. mod_at at (form.Lambda (label_of (slice_index_or ps less d).label) (slice_index_or ps less d).bound.now (seals i) (bodies i)))
        ∙ ap (λ n. mod_at at (form.Lambda (label_of (slice_index_or ps less d).label) (slice_index_or ps less d).bound.now (seal_at n) (body_at n))) (sym one)
        ∙ one_curried at (param_of (slice_index_or ps less d)) (params_of (drop (less + 1) ps)) t m
        ∙ ap (λ l. with_parameters at (params_of l) t m) (sym (from_index ps less d (omega (arith, one, le)))),
    ap (λ l. behind_these (params_of l) t) (sym (from_index ps less d (omega (arith, one, le)))),
  )

pub ruleset currying = (none_behind, one_behind)
