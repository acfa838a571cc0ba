-- The sized types of functions by two numberings.
use Rattle.std.proofs.Common.{◌≡◌, ℕ, suc, ◌+◌, Bool, true, false, List, [], ◌∷◌, length, refl, ap, ◌∙◌}
use Rattle.sized_types.specs.Sizes.{Free, Dim, Size, Hole, Open, Level, Built, Fun, Sizes, no_size, size_and, replaced, renaming, binding}
use Rattle.fut_sizes.specs.Functions.{with_free, collected, all_collected, sizes_in, is_own, without, Taking, chosen_by, is_met, frame_of, arrow, function_size, unchosen, is_slot, unknown_slot, behind, chosen_in, quantified, closed}
use Rattle.sizing_laws.specs.Renumbering.{renumbered, all_renumbered}
use Rattle.sizing_laws.proofs.Agreeing.{replaced_to}

module _ (number : ℕ → ℕ) where
  abbrev to : Size → Size
  to = renumbered number

  mutual
    unfolding collected

    collected_same : (q : Free → Bool) (t : Size) (ds : List Free) → collected q (to t) ds ≡ collected q t ds
    collected_same q (Hole v) ds = refl
    collected_same q (Open n v u) ds = refl
    collected_same q (Level d t) ds = collected_same q t (with_free q d ds)
    collected_same q (Built h ts) ds = all_collected_same q ts ds
    collected_same q (Fun k p r) ds = ap (collected q (to r)) (collected_same q p ds) ∙ collected_same q r (collected q p ds)

    all_collected_same : (q : Free → Bool) (ts : Sizes) (ds : List Free) → all_collected q (all_renumbered number ts) ds ≡ all_collected q ts ds
    all_collected_same q no_size ds = refl
    all_collected_same q (size_and t ts) ds = ap (all_collected q (all_renumbered number ts)) (collected_same q t ds) ∙ all_collected_same q ts (collected q t ds)

  sizes_in_same : (q : Free → Bool) (t : Size) → sizes_in q (to t) ≡ sizes_in q t
  unfolding sizes_in
  sizes_in_same q t = collected_same q t []

  -- ---- parameters

  abbrev pub taking_to : Taking → Taking
  taking_to p = record { pattern = p.pattern; node = p.node; size = to p.size }

  abbrev pub takings_to : List Taking → List Taking
  takings_to [] = []
  takings_to (p ∷ ps) = taking_to p ∷ takings_to ps

  chosen_same : (bs : List ℕ) (p : Taking) → chosen_by bs (taking_to p) ≡ chosen_by bs p
  chosen_same bs p = sizes_in_same (is_own bs p.node) p.size

  pub unchosen_same : (bs : List ℕ) (ps : List Taking) → unchosen bs (takings_to ps) ≡ unchosen bs ps
  unchosen_same bs [] = refl
  unchosen_same bs (p ∷ ps) = ap (λ ds. unchosen (without ds bs) (takings_to ps)) (chosen_same bs p) ∙ unchosen_same (without (chosen_by bs p) bs) ps

  arrow_to : (chosen : List Free) (p : Taking) (met : List Free) (r : Size) → arrow chosen (taking_to p) met (to r) ≡ to (arrow chosen p met r)
  arrow_to chosen p met r = λ i. Fun (length chosen) (replaced_to number (binding (frame_of chosen p met)) 0 p.size i) (replaced_to number (binding (frame_of chosen p met)) 0 r i)

  pub function_size_to : (bs : List ℕ) (from til : ℕ) (ps : List Taking) (r : Size) → function_size bs from til (takings_to ps) (to r) ≡ to (function_size bs from til ps r)
  unfolding function_size
  function_size_to bs from til [] r = refl
  function_size_to bs from til (p ∷ []) r = (λ i. arrow (chosen_same bs p i) (taking_to p) (sizes_in_same (is_met from til) r i) (to r)) ∙ arrow_to (chosen_by bs p) p (sizes_in (is_met from til) r) r
  function_size_to bs from til (p ∷ q ∷ ps) r = (λ i. arrow (chosen_same bs p i) (taking_to p) [] (function_size (without (chosen_same bs p i) bs) from til (takings_to (q ∷ ps)) (to r)))
      ∙ ap (arrow (chosen_by bs p) (taking_to p) []) (function_size_to (without (chosen_by bs p) bs) from til (q ∷ ps) r) ∙ arrow_to (chosen_by bs p) p [] (function_size (without (chosen_by bs p) bs) from til (q ∷ ps) r)

  -- ---- what is still open

  module _ (maker : ℕ → ℕ) where
    abbrev with_slots : (ℕ → Dim → Dim) → ℕ → ℕ → Size → Size → List Free → Size
    with_slots outer j k p r ds = Fun (length ds + k) (replaced (behind k j ds outer) (suc j) p) (chosen_in maker (behind k j ds outer) (suc j) r)

    pub chosen_in_to : (outer : ℕ → Dim → Dim) (j : ℕ) (t : Size) → chosen_in maker outer j (to t) ≡ to (chosen_in maker outer j t)
    unfolding chosen_in
    chosen_in_to outer j (Fun k p r) = ap (with_slots outer j k (to p) (to r)) (ap (sizes_in is_slot) (replaced_to number outer (suc j) p) ∙ sizes_in_same is_slot (replaced outer (suc j) p))
        ∙ (λ i. Fun (length (sizes_in is_slot (replaced outer (suc j) p)) + k) (replaced_to number (behind k j (sizes_in is_slot (replaced outer (suc j) p)) outer) (suc j) p i) (chosen_in_to (behind k j (sizes_in is_slot (replaced outer (suc j) p)) outer) (suc j) r i))
    chosen_in_to outer j t = ap (replaced (renaming (unknown_slot maker)) 0) (replaced_to number outer j t) ∙ replaced_to number (renaming (unknown_slot maker)) 0 (replaced outer j t)

    pub quantified_to : (t : Size) → quantified maker (to t) ≡ to (quantified maker t)
    unfolding quantified
    quantified_to t = chosen_in_to (λ j d. d) 0 t

    pub closed_to : (again : Bool) (t : Size) → closed again maker (to t) ≡ to (closed again maker t)
    unfolding closed
    closed_to true t = quantified_to t
    closed_to false t = replaced_to number (renaming (unknown_slot maker)) 0 t
