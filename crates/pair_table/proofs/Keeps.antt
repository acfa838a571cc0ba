-- Each kind of step keeps the rule of a table of pairs, and what the last seat knows.
use Rattle.std.proofs.Common.{◌≡◌, ℕ, zero, suc, take, length, ◌+◌, ◌-◌, ◌<◌, List, [], ◌∷◌, ◌++◌, slice_index, slice_set, sym, refl, ap, ◌∙◌, subst, arith}
use Rattle.std.proofs.lemmas.List.{take_more_set}
use mathlib.Core.Option.{none, some, some-injective, some-ne-none}
use lib.ListN.{get_elem?}
use Rattle.atomic_table.specs.Table.{Me, step, keeps, Allows, Splits, Joins, Final, Seen}
use Rattle.phase_model.specs.declared.Pair.{Pair}
use Rattle.phase_model.specs.declared.View.{View}
use Rattle.phase_model.specs.Kept.{DoneOnce}
use Rattle.phase_model.specs.Parts.{view}
use Rattle.phase_model.specs.Tables.{pair}
use Rattle.phase_model.proofs.Tables.{pair_step, pair_split, pair_join, pair_last}
use Rattle.pair_table.specs.Rule.{Kept, Does}

module _ (op : ℕ → ℕ → ℕ) (old : List ℕ) (parts : ℕ) where
  pub does_keep : (slots id : ℕ) (me : Me (Unit {0}) (View Pair)) (place x : ℕ) (f : ℕ → ℕ) → ((n : ℕ) → f n ≡ op n x) → place < length old → 0 < me.0.parts
      → Allows (Kept op old parts) slots id me place f (Does (step slots place x 0 none) me)
  does_keep slots id me place x f is lt some_part s h len at below =
      let v = me.0 in (
        view v.parts (v.seen ++ pair place x ∷ []),
        keeps,
        tt,
        pair_step op old parts s.words s.views id v place x (f (slice_index s.words place)) lt (is (slice_index s.words place)) at some_part h,
        refl,
      )

  pub splits_keep : (id : ℕ) (v : View Pair) → 1 < v.parts → Splits (Kept op old parts) id v (view (v.parts - 1) v.seen) (view 1 [])
  splits_keep id v two s h at = pair_split op old parts s.words s.views id v at two h

  pub joins_keep : (id : ℕ) (v : View Pair) (other : ℕ) (u : View Pair) → 0 < v.parts → Joins (Kept op old parts) id v other u (view (v.parts + u.parts) (v.seen ++ u.seen)) (view 0 [])
  joins_keep id v other u some_part s h at apart at' = pair_join op old parts s.words s.views id v other u at apart at' some_part h

  pub last_did : (id : ℕ) (v : View Pair) (words : List ℕ) (xs : List (Unit {0})) → Final (Seen (Kept op old parts) id v) words xs → v.parts ≡ parts → DoneOnce op old (take (length old) words) v.seen
  last_did id v words xs f all = subst (λ l. DoneOnce op old (take (length old) l) v.seen) f.2 (pair_last op old parts f.0.words f.0.views id v f.1.1 all f.1.0)

take_at : (l : List ℕ) (i a : ℕ) → get_elem? l i ≡ some a → take (i + 1) l ≡ take i l ++ a ∷ []
take_at [] i a e = absurd (some-ne-none a (sym e))
take_at (x ∷ xs) zero a e = let n : 0 + 1 ≡ suc 0 = omega arith in ap (λ k. take k (x ∷ xs)) n ∙ ap (λ y. y ∷ []) (some-injective x a e)
take_at (x ∷ xs) (suc i) a e = let n : suc i + 1 ≡ suc (i + 1) = omega arith in ap (λ k. take k (x ∷ xs)) n ∙ ap (λ l. x ∷ l) (take_at xs i a e)

-- one more word is read
pub more_read : (items words after : List ℕ) (i a : ℕ) → i < length words → get_elem? items i ≡ some a → take i words ≡ take i items → after ≡ slice_set words i a → take (i + 1) after ≡ take (i + 1) items
more_read items words after i a lt at so_far is = ap (take (i + 1)) is ∙ take_more_set words i a lt ∙ ap (λ l. l ++ a ∷ []) so_far ∙ sym (take_at items i a at)
