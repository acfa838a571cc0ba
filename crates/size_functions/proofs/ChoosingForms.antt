-- What each parameter chooses, one after another.
use Rattle.std.proofs.Common.{◌≡◌, ℕ, ◌+◌, ◌<◌, ◌≤◌, List, [], ◌∷◌, ◌++◌, length, get_or, drop, true, false, cond, refl, sym, ap, ◌∙◌, add-one, append-nil, append_assoc}
use Rattle.std.proofs.Math.Seq.{drop-cons}
use Rattle.sized_types.specs.Sizes.{Free, Name}
use Rattle.fut_sizes.specs.Functions.{stands_among, without, chosen_by, unchosen}
use Rattle.size_arena.proofs.Parts.{drop_past}
use Rattle.size_functions.specs.declared.arrows.Arrow as arrows
use Rattle.size_functions.specs.declared.takings.Taking.{Taking}
use Rattle.size_functions.specs.Arrows.{arrow_of, arrows_of, arrow_for, arrows_for}
use Rattle.size_functions.specs.Takings.{taking_of, takings_of}

-- ---- names that are left

module _ (ds : List Free) (bs rest : List ℕ) (i : ℕ) (o : without ds bs ≡ rest ++ without ds (drop i bs)) where
  abbrev after : ℕ → List ℕ
  after j = without ds (drop j bs)

  at : (b : ℕ) → i < length bs → after i ≡ cond (stands_among ds (Name (get_or bs i b))) (after (i + 1)) (get_or bs i b ∷ after (i + 1))
  at b l = ap (without ds) (drop-cons bs i b l) ∙ ap (λ j. cond (stands_among ds (Name (get_or bs i b))) (after j) (get_or bs i b ∷ after j)) (sym (add-one i))

  pub left_out : (b : ℕ) → i < length bs → true ≡ stands_among ds (Name (get_or bs i b)) → without ds bs ≡ rest ++ without ds (drop (i + 1) bs)
  left_out b l h = o ∙ ap (λ z. rest ++ z) (at b l ∙ ap (λ z. cond z (after (i + 1)) (get_or bs i b ∷ after (i + 1))) (sym h))

  pub left_in : (b : ℕ) (more : List ℕ) → i < length bs → false ≡ stands_among ds (Name (get_or bs i b)) → more ≡ rest ++ get_or bs i b ∷ [] → without ds bs ≡ more ++ without ds (drop (i + 1) bs)
  left_in b more l h m =
      o ∙ ap (λ z. rest ++ z) (at b l ∙ ap (λ z. cond z (after (i + 1)) (get_or bs i b ∷ after (i + 1))) (sym h))
      ∙ sym (append_assoc rest (get_or bs i b ∷ []) (after (i + 1))) ∙ ap (λ z. z ++ after (i + 1)) (sym m)

  pub left_end : length bs ≤ i → rest ≡ without ds bs
  left_end l = sym (o ∙ ap (λ z. rest ++ without ds z) (drop_past bs i l) ∙ append-nil rest)

pub ruleset left = (left_out, left_in, left_end)

-- ---- parameters

takings_at : (ps : List Taking) (i : ℕ) (p : Taking) → i < length ps → takings_of (drop i ps) ≡ taking_of (get_or ps i p) ∷ takings_of (drop (i + 1) ps)
takings_at ps i p l = ap takings_of (drop-cons ps i p l) ∙ ap (λ j. taking_of (get_or ps i p) ∷ takings_of (drop j ps)) (sym (add-one i))

takings_end : (ps : List Taking) (i : ℕ) → length ps ≤ i → takings_of (drop i ps) ≡ []
takings_end ps i l = ap takings_of (drop_past ps i l)

module _ (ps : List Taking) (i : ℕ) (bs cs : List ℕ) (o : unchosen bs (takings_of ps) ≡ unchosen cs (takings_of (drop i ps))) where
  pub unchosen_more : (p : Taking) (ds : List ℕ) → i < length ps → ds ≡ without (chosen_by cs (taking_of (get_or ps i p))) cs → unchosen bs (takings_of ps) ≡ unchosen ds (takings_of (drop (i + 1) ps))
  unchosen_more p ds l e = o ∙ ap (unchosen cs) (takings_at ps i p l) ∙ ap (λ z. unchosen z (takings_of (drop (i + 1) ps))) (sym e)

  pub unchosen_end : length ps ≤ i → cs ≡ unchosen bs (takings_of ps)
  unchosen_end l = sym (o ∙ ap (unchosen cs) (takings_end ps i l))

pub ruleset unchosens = (unchosen_more, unchosen_end)

-- ---- arrows

arrows_push : (made : List arrows.Arrow) (a : arrows.Arrow) → arrows_of (made ++ a ∷ []) ≡ arrows_of made ++ arrow_of a ∷ []
arrows_push [] a = refl
arrows_push (b ∷ made) a = ap (λ z. arrow_of b ∷ z) (arrows_push made a)

module _ (ps : List Taking) (i : ℕ) (bs cs : List ℕ) (made : List arrows.Arrow) (o : arrows_for bs (takings_of ps) ≡ arrows_of made ++ arrows_for cs (takings_of (drop i ps))) where
  pub arrows_more : (p : Taking) (a : arrows.Arrow) (more : List arrows.Arrow) (ds : List ℕ) → i < length ps → arrow_of a ≡ arrow_for cs (taking_of (get_or ps i p)) → ds ≡ without (chosen_by cs (taking_of (get_or ps i p))) cs → more ≡ made ++ a ∷ []
      → arrows_for bs (takings_of ps) ≡ arrows_of more ++ arrows_for ds (takings_of (drop (i + 1) ps))
  arrows_more p a more ds l h e m =
      o ∙ ap (λ z. arrows_of made ++ z) (ap (arrows_for cs) (takings_at ps i p l) ∙ ap (λ z. arrow_for cs (taking_of (get_or ps i p)) ∷ arrows_for z (takings_of (drop (i + 1) ps))) (sym e)
      ∙ ap (λ z. z ∷ arrows_for ds (takings_of (drop (i + 1) ps))) (sym h))
      ∙ sym (append_assoc (arrows_of made) (arrow_of a ∷ []) (arrows_for ds (takings_of (drop (i + 1) ps))))
      ∙ ap (λ z. z ++ arrows_for ds (takings_of (drop (i + 1) ps))) (sym (ap arrows_of m ∙ arrows_push made a))

  pub arrows_end : length ps ≤ i → arrows_of made ≡ arrows_for bs (takings_of ps)
  arrows_end l = sym (o ∙ ap (λ z. arrows_of made ++ arrows_for cs z) (takings_end ps i l) ∙ append-nil (arrows_of made))

pub ruleset all_arrows = (arrows_more, arrows_end)
