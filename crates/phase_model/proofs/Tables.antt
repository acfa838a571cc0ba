-- Each kind of step keeps the rule of a table of pairs, and what the last seat knows.
use Rattle.std.proofs.Common.{◌≡◌, ◌≢◌, ℕ, zero, suc, ◌+◌, ◌-◌, ◌<◌, ◌≤◌, List, [], ◌∷◌, ◌++◌, take, length, set, flat_map, slice_index, slice_set, sym, refl, ap, ◌∙◌, subst, arith}
use Rattle.std.proofs.Math.Seq.{take-length}
use mathlib.Core.Option.{some}
use lib.ListN.{get_elem?}
use Rattle.phase_model.specs.declared.Pair.{Pair}
use Rattle.phase_model.specs.declared.View.{View}
use Rattle.phase_model.specs.Kept.{DoneOnce, done}
use Rattle.phase_model.specs.Parts.{view, seen}
use Rattle.phase_model.specs.Tables.{pair, padded, PairsKept}
use Rattle.phase_model.proofs.Together.{grown, kept, added, merged, at_other}
use Rattle.phase_model.proofs.Orders.{done_none, done_more, done_along, done_length}
use Rattle.phase_model.proofs.Parts.{parts_first, parts_step, parts_split, parts_join, has_all}

-- a word of the destination is the word of the table with its number
padded_at : (dest : List ℕ) (i : ℕ) → i < length dest → slice_index (padded dest) i ≡ slice_index dest i
padded_at [] i lt = absurd (omega arith)
padded_at (x ∷ xs) i lt = refl

padded_set : (dest : List ℕ) (i a : ℕ) → i < length dest → slice_set (padded dest) i a ≡ padded (slice_set dest i a)
padded_set [] i a lt = absurd (omega arith)
padded_set (x ∷ xs) zero a lt = refl
padded_set (x ∷ xs) (suc i) a lt = refl

padded_take : (dest : List ℕ) → take (length dest) (padded dest) ≡ dest
padded_take [] = refl
padded_take (x ∷ xs) = take-length (x ∷ xs)

-- of no word one is made, and some are left as they are
pub padded_none : (words : List ℕ) → length words ≡ 0 → padded words ≡ 0 ∷ []
padded_none [] e = refl
padded_none (x ∷ xs) e = absurd (omega arith)

pub padded_some : (words : List ℕ) → length words ≢ 0 → padded words ≡ words
padded_some [] n = absurd (n refl)
padded_some (x ∷ xs) n = refl

module _ (op : ℕ → ℕ → ℕ) (old : List ℕ) (parts : ℕ) where
  -- the table as it is opened
  pub pair_first : (words : List ℕ) → words ≡ padded old → PairsKept op old parts words (view parts [] ∷ [])
  pair_first words e = record {
    dest = old;
    words_are = e;
    pairs_done = done_none op old;
    shared = parts_first parts;
  }

  -- the seat id does the pair of a place and x. The word becomes `new`, which is what op makes of it
  pub pair_step : (words : List ℕ) (views : List (View Pair)) (id : ℕ) (v : View Pair) (place x new : ℕ) → place < length old → new ≡ op (slice_index words place) x → get_elem? views id ≡ some v → 0 < v.parts
      → PairsKept op old parts words views → PairsKept op old parts (slice_set words place new) (set views id (view v.parts (v.seen ++ pair place x ∷ [])))
  pair_step words views id v place x new lt is at some_part h =
      let w : View Pair = view v.parts (v.seen ++ pair place x ∷ []) in
      let long = done_length op old h.dest (flat_map seen views) h.pairs_done in
      let here : place < length h.dest = omega arith in
      let found : slice_index words place ≡ slice_index h.dest place = ap (λ l. slice_index l place) h.words_are ∙ padded_at h.dest place here in
      let new_is : new ≡ op (slice_index h.dest place) x = is ∙ ap (λ n. op n x) found in record {
        dest = done op h.dest (pair place x);
        words_are = ap (λ l. slice_set l place new) h.words_are ∙ padded_set h.dest place new here ∙ ap (λ n. padded (slice_set h.dest place n)) new_is;
        pairs_done = done_more op old h.dest (pair place x) _ _ h.pairs_done (grown seen views id v w (pair place x ∷ []) at refl);
        shared = parts_step parts views id v (v.seen ++ pair place x ∷ []) at some_part h.shared;
      }

  pub pair_split : (words : List ℕ) (views : List (View Pair)) (id : ℕ) (v : View Pair) → get_elem? views id ≡ some v → 1 < v.parts → PairsKept op old parts words views
      → PairsKept op old parts words (set views id (view (v.parts - 1) v.seen) ++ view 1 [] ∷ [])
  pair_split words views id v at two h =
      let l : View Pair = view (v.parts - 1) v.seen in
      let same : flat_map seen (set views id l ++ view 1 [] ∷ []) ≡ flat_map seen views = added seen (set views id l) (view 1 []) refl ∙ kept seen views id v l at refl in record {
        dest = h.dest;
        words_are = h.words_are;
        pairs_done = subst (DoneOnce op old h.dest) (sym same) h.pairs_done;
        shared = parts_split parts views id v at two h.shared;
      }

  pub pair_join : (words : List ℕ) (views : List (View Pair)) (id : ℕ) (v : View Pair) (other : ℕ) (u : View Pair) → get_elem? views id ≡ some v → (other ≡ id → ⊥)
      → get_elem? (set views id (view (v.parts + u.parts) (v.seen ++ u.seen))) other ≡ some u → 0 < v.parts → PairsKept op old parts words views
      → PairsKept op old parts words (set (set views id (view (v.parts + u.parts) (v.seen ++ u.seen))) other (view 0 []))
  pair_join words views id v other u at apart at' some_part h =
      let b : View Pair = view (v.parts + u.parts) (v.seen ++ u.seen) in
      let was : get_elem? views other ≡ some u = sym (at_other views other id b apart) ∙ at' in record {
        dest = h.dest;
        words_are = h.words_are;
        pairs_done = done_along op old h.dest _ _ h.pairs_done (merged seen views id other v u b (view 0 []) at was (λ e. apart (sym e)) refl refl);
        shared = parts_join parts views id other v u (v.seen ++ u.seen) at at' some_part h.shared;
      }

  -- the destination is what the pairs of the last seat leave
  pub pair_last : (words : List ℕ) (views : List (View Pair)) (id : ℕ) (v : View Pair) → get_elem? views id ≡ some v → v.parts ≡ parts → PairsKept op old parts words views → DoneOnce op old (take (length old) words) v.seen
  pair_last words views id v at all h =
      let long = done_length op old h.dest (flat_map seen views) h.pairs_done in
      let same : take (length old) words ≡ h.dest = ap (λ l. take (length old) l) h.words_are ∙ ap (λ n. take n (padded h.dest)) (sym long) ∙ padded_take h.dest in
      subst (λ d. DoneOnce op old d v.seen) (sym same) (subst (DoneOnce op old h.dest) (has_all parts views id v at all h.shared) h.pairs_done)
