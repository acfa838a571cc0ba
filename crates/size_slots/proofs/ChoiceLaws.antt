-- Open variables, one choice after another.
use Rattle.std.proofs.Common.{◌≡◌, ℕ, ◌+◌, ◌<◌, ◌≤◌, List, length, get_or, drop, true, false, cond, Some, None, sym, ap, ◌∙◌, add-one}
use Rattle.std.proofs.Math.Seq.{drop-cons}
use Rattle.fut_types.specs.Types.{Ty}
use Rattle.sized_types.specs.Sizes.{Variable}
use Rattle.fut_sizes.specs.Matching.{is_open}
use Rattle.size_arena.specs.Trees.{variable_of, size_of}
use Rattle.size_arena.proofs.Parts.{drop_past}
use Rattle.size_slots.specs.declared.slots.Chosen.{Chosen}
use Rattle.size_slots.specs.Held.{chosen_size, Choice, chosen, unchosen}

module _ (cs : List Chosen) (n : ℕ) (v : Variable) (i : ℕ) (h : (u : Ty) → chosen_size cs n v u ≡ chosen_size (drop i cs) n v u) where
  here : (c : Chosen) → i < length cs → (u : Ty) → chosen_size cs n v u ≡ cond (is_open (get_or cs i c).node (variable_of (get_or cs i c).variable) n v) (size_of (get_or cs i c).size.now) (chosen_size (drop (i + 1) cs) n v u)
  here c l u = h u ∙ ap (λ z. chosen_size z n v u) (drop-cons cs i c l) ∙ ap (λ j. cond (is_open (get_or cs i c).node (variable_of (get_or cs i c).variable) n v) (size_of (get_or cs i c).size.now) (chosen_size (drop j cs) n v u)) (sym (add-one i))

  pub choice_more : (c : Chosen) → i < length cs → false ≡ is_open (get_or cs i c).node (variable_of (get_or cs i c).variable) n v → (u : Ty) → chosen_size cs n v u ≡ chosen_size (drop (i + 1) cs) n v u
  choice_more c l e u = here c l u ∙ ap (λ z. cond z (size_of (get_or cs i c).size.now) (chosen_size (drop (i + 1) cs) n v u)) (sym e)

  pub choice_here : (c : Chosen) → i < length cs → true ≡ is_open (get_or cs i c).node (variable_of (get_or cs i c).variable) n v → Choice cs n v (Some (get_or cs i c).size)
  choice_here c l e = chosen (λ u. here c l u ∙ ap (λ z. cond z (size_of (get_or cs i c).size.now) (chosen_size (drop (i + 1) cs) n v u)) (sym e))

  pub choice_end : length cs ≤ i → Choice cs n v None
  choice_end l = unchosen (λ u. h u ∙ ap (λ z. chosen_size z n v u) (drop_past cs i l))

pub ruleset choices = (choice_more, choice_here, choice_end)
