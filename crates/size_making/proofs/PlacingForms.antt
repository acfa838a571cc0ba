-- Positions in a frame, one size after another.
use Rattle.std.proofs.Common.{◌≡◌, ℕ, suc, ◌+◌, ◌<◌, ◌≤◌, List, [], ◌∷◌, length, get_or, drop, true, false, cond, Option, Some, None, refl, sym, ap, ◌∙◌, add-one}
use Rattle.std.proofs.Math.Seq.{drop-cons}
use Rattle.sized_types.specs.Sizes.{Free, At, Bound, is_free, placed}
use Rattle.fut_sizes.specs.Functions.{position_from, or_position, value_position}
use Rattle.size_arena.specs.declared.dims.Free as frees
use Rattle.size_arena.specs.Trees.{free_of}
use Rattle.size_arena.proofs.Parts.{drop_past}
use Rattle.size_making.specs.Placing.{frees_of, arrow_position}

pub frees_at : (es : List frees.Free) (i : ℕ) (e : frees.Free) → i < length es → frees_of (drop i es) ≡ free_of (get_or es i e) ∷ frees_of (drop (i + 1) es)
frees_at es i e l = ap frees_of (drop-cons es i e l) ∙ ap (λ j. free_of (get_or es i e) ∷ frees_of (drop j es)) (sym (add-one i))

pub frees_end : (es : List frees.Free) (i : ℕ) → length es ≤ i → frees_of (drop i es) ≡ []
frees_end es i l = ap frees_of (drop_past es i l)

module _ (es : List frees.Free) (i f n : ℕ) (d : Free) where
  pub position_more : (e : frees.Free) (m : ℕ) → i < length es → false ≡ is_free (free_of (get_or es i e)) d → m ≡ n + 1 → position_from f (frees_of es) d ≡ position_from n (frees_of (drop i es)) d → position_from f (frees_of es) d ≡ position_from m (frees_of (drop (i + 1) es)) d
  position_more e m l h a o = o ∙ ap (λ z. position_from n z d) (frees_at es i e l) ∙ ap (λ z. cond z (Some n) (position_from (suc n) (frees_of (drop (i + 1) es)) d)) (sym h) ∙ ap (λ z. position_from z (frees_of (drop (i + 1) es)) d) (sym (a ∙ add-one n))

  pub position_here : (e : frees.Free) → i < length es → true ≡ is_free (free_of (get_or es i e)) d → position_from f (frees_of es) d ≡ position_from n (frees_of (drop i es)) d → Some n ≡ position_from f (frees_of es) d
  position_here e l h o = sym (o ∙ ap (λ z. position_from n z d) (frees_at es i e l) ∙ ap (λ z. cond z (Some n) (position_from (suc n) (frees_of (drop (i + 1) es)) d)) (sym h))

  pub position_end : length es ≤ i → position_from f (frees_of es) d ≡ position_from n (frees_of (drop i es)) d → None ≡ position_from f (frees_of es) d
  position_end l o = sym (o ∙ ap (λ z. position_from n z d) (frees_end es i l))

pub ruleset positions = (position_more, position_here, position_end)

pub frees_length : (es : List frees.Free) → length (frees_of es) ≡ length es
frees_length [] = refl
frees_length (e ∷ es) = ap suc (frees_length es)

module _ (cs ms : List frees.Free) (n : ℕ) (name : Option ℕ) (d : Free) where
  pub arrow_chosen : (i : ℕ) → Some i ≡ position_from 0 (frees_of cs) d → Some i ≡ arrow_position (frees_of cs) n name (frees_of ms) d
  arrow_chosen i e = ap (λ z. or_position z (or_position (value_position (length (frees_of cs)) n name d) (position_from (suc (length (frees_of cs))) (frees_of ms) d))) e

  pub arrow_value : (k i : ℕ) → None ≡ position_from 0 (frees_of cs) d → k ≡ length cs → Some i ≡ value_position k n name d → Some i ≡ arrow_position (frees_of cs) n name (frees_of ms) d
  arrow_value k i e a h =
      ap (λ z. or_position z (position_from (suc (length (frees_of cs))) (frees_of ms) d)) (h ∙ ap (λ z. value_position z n name d) (a ∙ sym (frees_length cs)))
      ∙ ap (λ z. or_position z (or_position (value_position (length (frees_of cs)) n name d) (position_from (suc (length (frees_of cs))) (frees_of ms) d))) e

  pub arrow_met : (k m : ℕ) (o : Option ℕ) → None ≡ position_from 0 (frees_of cs) d → k ≡ length cs → None ≡ value_position k n name d → m ≡ k + 1 → o ≡ position_from m (frees_of ms) d → o ≡ arrow_position (frees_of cs) n name (frees_of ms) d
  arrow_met k m o e a h b p =
      p ∙ ap (λ z. position_from z (frees_of ms) d) (b ∙ add-one k ∙ ap suc (a ∙ sym (frees_length cs)))
      ∙ ap (λ z. or_position z (position_from (suc (length (frees_of cs))) (frees_of ms) d)) (h ∙ ap (λ z. value_position z n name d) (a ∙ sym (frees_length cs)))
      ∙ ap (λ z. or_position z (or_position (value_position (length (frees_of cs)) n name d) (position_from (suc (length (frees_of cs))) (frees_of ms) d))) e

pub ruleset arrows = (arrow_chosen, arrow_value, arrow_met)

module _ (j : ℕ) (d : Free) where
  pub placed_there : (i : ℕ) (o : Option ℕ) → Some i ≡ o → Bound j i ≡ placed j d o
  placed_there i o e = ap (placed j d) e

  pub placed_nowhere : (o : Option ℕ) → None ≡ o → At d ≡ placed j d o
  placed_nowhere o e = ap (placed j d) e

pub ruleset dims = (placed_there, placed_nowhere)
