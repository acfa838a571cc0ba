-- The rows that pass a test, and behind them those that do not.
use Rattle.std.proofs.Common.{◌≡◌, ℕ, ◌+◌, ◌-◌, List, ◌++◌, length, take, drop, not, Ok, Err, true, false, refl, sym, ap, ◌∙◌, subst, arith, append_assoc}
use Rattle.std.specs.Prelude.{◌==◌}
use Rattle.std.proofs.Math.Seq.{drop-append_seam, take-append_seam}
use Rattle.std.proofs.lemmas.List.{length-append, length-map, take_all}
use Rattle.core_ir.specs.declared.block.Atom.{Atom}
use Rattle.core_ir.specs.Typed.{lifted}
use Rattle.core_code.specs.Registers.{State, state, Stands}
use Rattle.core_code.specs.Answers.{Answer}
use Rattle.core_code.specs.declared.stop.Stop.{Stop}
use Rattle.core_code.specs.declared.stop.Stop.TheVariants.{Memory}
use Rattle.core_code.proofs.Frames.{all_show_on, stands_on}
use Rattle.core_code.proofs.Reading.{show_append}
use Rattle.core_steps.specs.Choosing.{all_chosen, places_of, truths, Below, RowsChosen, rows_chosen, no_rows_chosen, Rows_chosen, PartedTold, parted_told, not_parted, Parted_told}
use Rattle.core_steps.proofs.Places.{places_within}

module _ (us : List Atom) (mark : ℕ) (S S' : State) where
  pub part_stop : (e : Stop) → e ≡ Memory → Parted_told us mark S S' (Err e)
  unfolding Parted_told
  part_stop e q G env m n ss cs below ws st a v lo p l k = subst (λ z. PartedTold (places_of true 0 (truths ws)) (places_of false 0 (truths ws)) cs ss below S S' (Err z)) (sym q) not_parted

  -- the first arrays are there, and then the others
  pub part_done : (words is js s1 : List ℕ) (S1 : State) (r : Answer) → words ≡ take (length S.stack - mark) (drop mark S.stack) → is ≡ places_of true 0 (truths words) → js ≡ places_of false 0 (truths words) → s1 ≡ take mark S.stack
      → Rows_chosen us is (state S.arena S.words s1) S1 (Ok tt) → S1.words ≡ S.words → Rows_chosen us js S1 S' r → Parted_told us mark S S' r
  unfolding Rows_chosen Parted_told
  part_done words is js s1 S1 r w e1 e2 f h1 u h2 G env m n ss cs below ws st a v lo p l k =
      subst (λ z. PartedTold z (places_of false 0 (truths ws)) cs ss below S S' r) first (subst (λ z. PartedTold is z cs ss below S S' r) second (by_first (h1 G env m n ss cs st a v lo (subst (Below n) (sym first) (places_within true n (truths ws) many)))))
    where
      above : words ≡ ws
      above =
          let d : drop mark S.stack ≡ ws = ap (λ z. drop z S.stack) (sym l) ∙ ap (drop (length below)) p ∙ drop-append_seam below ws in
          w ∙ ap (take (length S.stack - mark)) d ∙ take_all (length S.stack - mark) ws (let n : length S.stack ≡ length below + length ws = ap length p ∙ length-append below ws in omega (arith, n, l))

      first : is ≡ places_of true 0 (truths ws)
      first = e1 ∙ ap (λ z. places_of true 0 (truths z)) above

      second : js ≡ places_of false 0 (truths ws)
      second = e2 ∙ ap (λ z. places_of false 0 (truths z)) above

      left : s1 ≡ below
      left = f ∙ ap (take mark) p ∙ ap (λ z. take z (below ++ ws)) (sym l) ∙ take-append_seam below ws

      many : length (truths ws) ≡ n
      many = length-map ws (λ w. not (w == 0)) ∙ k

      by_second : {r : Answer} → RowsChosen is cs ss (state S.arena S.words s1) S1 (Ok tt) → RowsChosen js cs ss S1 S' r → PartedTold is js cs ss below S S' r
      by_second (rows_chosen vs sh q g) (rows_chosen vs' sh' q' g') =
          parted_told (vs ++ vs') (show_append S'.arena.arrays (lifted ss) (all_chosen is cs) vs (lifted ss) (all_chosen js cs) vs' (all_show_on S1.arena.arrays S'.arena.arrays (lifted ss) (all_chosen is cs) vs g'.arrays sh) sh')
          (q' ∙ ap (λ z. z ++ vs') (q ∙ ap (λ z. z ++ vs) left) ∙ append_assoc below vs vs') (record { arrays = λ i c d. g'.arrays i c (g.arrays i c d); handed = omega (arith, g.handed, g'.handed) })
      by_second (rows_chosen vs sh q g) no_rows_chosen = not_parted

      by_first : RowsChosen is cs ss (state S.arena S.words s1) S1 (Ok tt) → PartedTold is js cs ss below S S' r
      by_first (rows_chosen vs sh q g) =
          by_second (rows_chosen vs sh q g)
          (h2 G env m n ss cs (subst (Stands G env m S1.arena.arrays) (sym u) (stands_on G env m m S.arena.arrays S1.arena.arrays S.words S.words (omega arith) (λ x l. refl) g.arrays st)) a v lo (subst (Below n) (sym second) (places_within false n (truths ws) many)))

pub ruleset partings = (part_stop)
