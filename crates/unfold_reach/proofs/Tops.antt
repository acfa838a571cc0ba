-- Definitions of the top level, and the numbers of their nodes.
use Rattle.std.proofs.Common.{◌≡◌, ℕ, zero, suc, ◌+◌, ◌<◌, List, [], ◌∷◌, map, length, get_or, drop, Bool, refl, sym, ap, ◌∙◌, arith}
use Rattle.std.specs.Prelude.{Option}
use Rattle.fut_flat.specs.declared.program.Definition.{Definition}
use Rattle.fut_flat.specs.Numbers.{numbers}
use Rattle.fut_flat.specs.Erased.{term_of}
use Rattle.fut_meaning.specs.Flats.{FlatTop, flat_tops, is_flat_use}
use Rattle.fut_meaning.specs.Found.{Sizing}
use Rattle.fut_meaning.specs.Programs.{is_reached}
use Rattle.unfold_reach.specs.Reach.{is_set, name_at, named_term, Reached, reached}
use Rattle.unfold_reach.proofs.Lists.{one_more}

-- how many numbers a definition has, with that of its name
abbrev pub own_count : Definition → ℕ
own_count d = 1 + numbers (term_of d.value.now)

pub name_more : (lo : ℕ) (ds : List Definition) (i : ℕ) (d : Definition) → i < length ds → name_at lo ds (i + 1) ≡ name_at lo ds i + own_count (get_or ds i d)
name_more lo [] i d lt = absurd (omega (arith, lt))
name_more lo (x ∷ ds) zero d lt = refl
name_more lo (x ∷ ds) (suc i) d lt = let e : suc i + 1 ≡ suc (i + 1) = omega arith in ap (name_at lo (x ∷ ds)) e ∙ name_more (lo + own_count x) ds i d (omega (arith, lt))

-- those from one on are numbered from its name on
pub tops_from : (lo : ℕ) (ds : List Definition) (i : ℕ) → drop i (flat_tops lo (map named_term ds)) ≡ flat_tops (name_at lo ds i) (map named_term (drop i ds))
unfolding flat_tops
tops_from lo ds zero = refl
tops_from lo [] (suc i) = refl
tops_from lo (d ∷ ds) (suc i) = tops_from (lo + own_count d) ds i

module _ (ds : List Definition) (i : ℕ) (d : Definition) (lt : i < length ds) where
  abbrev pub top_here : FlatTop
  top_here = record { number = (get_or ds i d).bind.0; first = 1 + name_at 0 ds i; sees = tt; value = term_of (get_or ds i d).value.now }

  -- one, and those behind it
  pub tops_more : drop i (flat_tops 0 (map named_term ds)) ≡ top_here ∷ drop (i + 1) (flat_tops 0 (map named_term ds))
  unfolding flat_tops
  tops_more =
      tops_from 0 ds i
      ∙ ap (λ z. flat_tops (name_at 0 ds i) (map named_term z)) (one_more ds i d lt)
      ∙ ap (λ z. top_here ∷ flat_tops z (map named_term (drop (i + 1) ds))) (sym (name_more 0 ds i d lt))
      ∙ ap (λ z. top_here ∷ z) (sym (tops_from 0 ds (i + 1)))

  -- for a walk that counts the numbers
  module _ (lo : ℕ) (at : lo ≡ name_at 0 ds i) where
    pub name_next : lo + own_count (get_or ds i d) ≡ name_at 0 ds (i + 1)
    name_next = ap (λ z. z + own_count (get_or ds i d)) at ∙ sym (name_more 0 ds i d lt)

    pub reached_at : {sizes : Option Sizing} {entry : ℕ} {flags : List Bool} → Reached sizes entry ds flags → is_set flags i ≡ is_reached is_flat_use sizes entry (flat_tops (lo + own_count (get_or ds i d)) (map named_term (drop (i + 1) ds))) (get_or ds i d).bind.0
    reached_at {sizes} {entry} (reached l f) = f i d lt ∙ ap (λ ts. is_reached is_flat_use sizes entry ts (get_or ds i d).bind.0) (tops_from 0 ds (i + 1) ∙ ap (λ z. flat_tops z (map named_term (drop (i + 1) ds))) (sym name_next))
