-- Arrows, from the last to the first.
use Rattle.std.proofs.Common.{◌≡◌, ℕ, suc, ◌+◌, ◌<◌, ◌≤◌, List, [], ◌∷◌, length, get_or, drop, Result, Ok, Err, refl, sym, ap, ◌∙◌, add-one, arith}
use Rattle.std.specs.Prelude.{IfOk}
use Rattle.std.specs.Borrow.{Bor}
use Rattle.std.proofs.Math.Seq.{drop-cons}
use Rattle.fut_scalar.specs.declared.memory.NoMemory.{NoMemory}
use Rattle.sized_types.specs.Sizes.{Free, Size, Fun, bound}
use Rattle.fut_sizes.specs.Functions.{is_met, sizes_in}
use Rattle.size_arena.proofs.Parts.{drop_past}
use Rattle.size_arena.specs.declared.trees.SizeTree.{SizeTree}
use Rattle.size_arena.specs.Trees.{size_of}
use Rattle.size_making.specs.Placing.{arrow_position, frees_of}
use Rattle.size_making.proofs.PlacingForms.{frees_length}
use Rattle.size_functions.specs.declared.arrows.Arrow as arrows
use Rattle.size_functions.specs.Arrows.{arrow_of, arrows_of, over, all_over}

abbrev pub Tree_made : Type 0
Tree_made = Result (Bor SizeTree) NoMemory

-- one arrow
module _ (a : arrows.Arrow) (met : List Free) (r : Size) where
  pub arrow_over : (k : ℕ) (p q : Size) (o : Tree_made) → k ≡ length a.chosen.now → p ≡ bound (arrow_position (frees_of a.chosen.now) a.node a.name met) (size_of a.size.now) → q ≡ bound (arrow_position (frees_of a.chosen.now) a.node a.name met) r
      → IfOk o (λ m. size_of m.now ≡ Fun k p q) → IfOk o (λ m. size_of m.now ≡ over (arrow_of a) met r)
  arrow_over k p q (Ok m) e f g h =
      h ∙ ap (λ z. Fun z p q) (e ∙ sym (frees_length a.chosen.now)) ∙ ap (λ z. Fun (length (frees_of a.chosen.now)) z q) f
      ∙ ap (Fun (length (frees_of a.chosen.now)) (bound (arrow_position (frees_of a.chosen.now) a.node a.name met) (size_of a.size.now))) g
  arrow_over k p q (Err x) e f g h = tt

  pub last_meets : (ms : List Free) (o : Tree_made) → ms ≡ met → IfOk o (λ m. size_of m.now ≡ over (arrow_of a) ms r) → IfOk o (λ m. size_of m.now ≡ over (arrow_of a) met r)
  last_meets ms (Ok m) e h = h ∙ ap (λ z. over (arrow_of a) z r) e
  last_meets ms (Err x) e h = tt

-- several
none_over : (from to : ℕ) (rs : List arrows.Arrow) (r : Size) → length rs ≡ 0 → r ≡ all_over from to (arrows_of rs) r
unfolding all_over
none_over from to [] r e = refl
none_over from to (a ∷ rs) r e = absurd (omega (arith, e))

module _ (from to : ℕ) (rs : List arrows.Arrow) (r : Size) where
  abbrev behind : ℕ → Size
  behind i = all_over from to (arrows_of (drop i rs)) r

  pub last_over : (i : ℕ) (a : arrows.Arrow) (t : Size) → i + 1 ≡ length rs → t ≡ over (arrow_of (get_or rs i a)) (sizes_in (is_met from to) r) r → t ≡ behind i
  unfolding all_over
  last_over i a t l e = e ∙ sym (ap (λ z. all_over from to (arrows_of z) r) (drop-cons rs i a (omega (arith, l)) ∙ ap (λ z. get_or rs i a ∷ z) (drop_past rs (suc i) (omega (arith, l)))))

  two_over : (j : ℕ) (a : arrows.Arrow) → j + 1 < length rs → behind j ≡ over (arrow_of (get_or rs j a)) [] (behind (j + 1))
  unfolding all_over
  two_over j a l =
      ap (λ z. all_over from to (arrows_of z) r) (drop-cons rs j a (omega (arith, l)) ∙ ap (λ z. get_or rs j a ∷ z) (ap (λ z. drop z rs) (sym (add-one j)) ∙ drop-cons rs (j + 1) a l))
      ∙ ap (λ z. over (arrow_of (get_or rs j a)) [] (all_over from to (arrows_of z) r)) (sym (drop-cons rs (j + 1) a l))

  pub more_over : (i j : ℕ) (a : arrows.Arrow) (t u : Size) → i ≡ j + 1 → i < length rs → u ≡ behind i → t ≡ over (arrow_of (get_or rs j a)) [] u → t ≡ behind j
  more_over i j a t u e l h k = k ∙ ap (over (arrow_of (get_or rs j a)) []) (h ∙ ap behind e) ∙ sym (two_over j a (omega (arith, e, l)))

  pub no_arrow : length rs ≡ 0 → r ≡ all_over from to (arrows_of rs) r
  no_arrow e = none_over from to rs r e

  pub all_behind : (i : ℕ) (t : Size) → i ≤ 0 → t ≡ behind i → t ≡ all_over from to (arrows_of rs) r
  all_behind i t l h = h ∙ ap behind (first i l)
    where
      first : (i : ℕ) → i ≤ 0 → i ≡ 0
      first i l = omega (arith, l)

pub ruleset overs = (no_arrow, all_behind)
