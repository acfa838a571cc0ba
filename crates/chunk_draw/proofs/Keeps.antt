-- Each kind of step keeps the rule of the draw table, and what the last seat knows.
use Rattle.std.proofs.Common.{◌≡◌, ℕ, zero, suc, ◌+◌, ◌-◌, ◌<◌, ◌≤◌, ◌%◌, ◌^◌, Bool, true, false, ◌||◌, nat_le, List, [], ◌∷◌, ◌++◌, set, length, flat_map, slice_index, slice_set, All, sym, refl, ap, ◌∙◌, subst, mod-eq_of_lt, arith, if◌then◌else◌, IsPermutation, Any}
use Rattle.std.specs.List.{list_any, range_with_len}
use Rattle.std.proofs.lemmas.List.{get_or_append_left, get_or-append-add, length-append}
use Rattle.std.proofs.Math.Bool.{or-true}
use Rattle.std.proofs.lemmas.List.Folds.{list_any-append, Any-from_list_any}
use mathlib.Core.Option.{none, some, some-injective, some-ne-none}
use lib.ListN.{get_elem?}
use Rattle.atomic_table.specs.Table.{Me, step, keeps, Allows, Splits, Joins, Final, Seen}
use Rattle.phase_model.specs.declared.View.{View}
use Rattle.phase_model.specs.Kept.{DrawnOnce, EachChunkOnce}
use Rattle.phase_model.specs.Parts.{total, view, seen}
use Rattle.phase_model.proofs.Together.{grown, kept, added, merged, at_other}
use Rattle.phase_model.proofs.Orders.{drawn_more, drawn_along}
use Rattle.phase_model.proofs.Ranges.{drawn_below, range_cut, range_above}
use Rattle.phase_model.proofs.Parts.{total_set, total_snoc, parts_step, parts_split, parts_join, has_all}
use Rattle.chunk_draw.specs.Drawing.{ends, used, DrawKept, Draws}

module _ {X : Type 0} (P : X → Type 0) where
  all_left : (xs ys : List X) → All P (xs ++ ys) → All P xs
  all_left xs ys h k d lt = subst P (get_or_append_left xs ys d k lt) (h k d (omega (arith, length-append xs ys)))

  all_right : (xs ys : List X) → All P (xs ++ ys) → All P ys
  all_right xs ys h k d lt = subst P (get_or-append-add xs ys k d) (h (length xs + k) d (omega (arith, length-append xs ys)))

-- what holds of all that was seen holds of what one view has
all_of_one : (P : ℕ → Type 0) (views : List (View ℕ)) (i : ℕ) (v : View ℕ) → get_elem? views i ≡ some v → All P (flat_map seen views) → All P v.seen
all_of_one P [] i v at h = absurd (some-ne-none v (sym at))
all_of_one P (x ∷ xs) zero v at h = subst (λ (u : View ℕ). All P u.seen) (some-injective x v at) (all_left P x.seen (flat_map seen xs) h)
all_of_one P (x ∷ xs) (suc i) v at h = all_of_one P xs i v at (all_right P x.seen (flat_map seen xs) h)

used_le : (chunks : ℕ) (v : View ℕ) → used chunks v ≤ v.parts
used_le chunks v = go (ends chunks v.seen)
  where
    go : (b : Bool) → (if b then v.parts else 0) ≤ v.parts
    go true = omega arith
    go false = omega arith

total_used : (chunks : ℕ) (views : List (View ℕ)) → total (used chunks) views ≤ total (λ v. v.parts) views
total_used chunks [] = omega arith
total_used chunks (v ∷ vs) = let a = used_le chunks v in let b = total_used chunks vs in omega arith

used_open : (chunks : ℕ) (v : View ℕ) → ends chunks v.seen ≡ false → used chunks v ≡ 0
used_open chunks v e = ap (λ b. if b then v.parts else 0) e

used_ended : (chunks : ℕ) (v : View ℕ) → ends chunks v.seen ≡ true → used chunks v ≡ v.parts
used_ended chunks v e = ap (λ b. if b then v.parts else 0) e

-- the word stays within the chunks and the used parts after a draw by a seat that had no None
bound_more : (chunks n : ℕ) (views : List (View ℕ)) (i : ℕ) (v : View ℕ) → get_elem? views i ≡ some v → 0 < v.parts → ends chunks v.seen ≡ false → n ≤ chunks + total (used chunks) views
    → n + 1 ≤ chunks + total (used chunks) (set views i (view v.parts (v.seen ++ n ∷ [])))
bound_more chunks n views i v at some_part unended h = go (nat_le chunks n) refl
  where
    go : (b : Bool) → nat_le chunks n ≡ b → n + 1 ≤ chunks + total (used chunks) (set views i (view v.parts (v.seen ++ n ∷ [])))
    go true e =
        let ended : ends chunks (v.seen ++ n ∷ []) ≡ true = list_any-append (λ k. nat_le chunks k) v.seen (n ∷ []) ∙ ap (λ b. b || (nat_le chunks n || false)) unended ∙ ap (λ b. false || (b || false)) e in
        let t = total_set (used chunks) views i v (view v.parts (v.seen ++ n ∷ [])) at in
        let a = used_open chunks v unended in
        let u = used_ended chunks (view v.parts (v.seen ++ n ∷ [])) ended in
        omega arith
    go false e =
        let t = total_set (used chunks) views i v (view v.parts (v.seen ++ n ∷ [])) at in
        let a = used_open chunks v unended in
        let below : n < chunks = grind arith in
        omega arith

pub draws_keep : (chunks all slots id : ℕ) (me : Me (Unit {0}) (View ℕ)) → 0 < me.0.parts → ends chunks me.0.seen ≡ false
    → Allows (DrawKept chunks all) slots id me 0 (λ n. (n + 1) % 2 ^ 64) (Draws (step slots 0 1 0 none) me)
draws_keep chunks all slots id me some_part unended s h len at lt =
    let v = me.0 in
    let n : ℕ = slice_index s.words 0 in
    let is : n ≡ h.word = ap (λ l. slice_index l 0) h.words_are in
    let w : View ℕ = view v.parts (v.seen ++ n ∷ []) in
    let drawn : DrawnOnce n (flat_map seen s.views) = subst (λ k. DrawnOnce k (flat_map seen s.views)) (sym is) h.drawn in
    let within : n ≤ chunks + total (used chunks) s.views = let b = h.bound in omega arith in
    let small : n + 1 < 2 ^ 64 = let b = h.fits in let t = total_used chunks s.views in let p = h.shared.add_up in omega arith in
    let below : All (λ x. x < n) v.seen = all_of_one (λ x. x < n) s.views id v at (drawn_below n (flat_map seen s.views) drawn) in (
      w,
      keeps,
      tt,
      record {
        word = n + 1;
        words_are = ap (λ l. slice_set l 0 ((n + 1) % 2 ^ 64)) h.words_are ∙ ap (λ k. k ∷ []) (mod-eq_of_lt small);
        drawn = drawn_more n (flat_map seen s.views) (flat_map seen (set s.views id w)) drawn (grown seen s.views id v w (n ∷ []) at refl);
        shared = parts_step all s.views id v (v.seen ++ n ∷ []) at some_part h.shared;
        bound = bound_more chunks n s.views id v at some_part unended within;
        fits = h.fits;
      },
      (refl, below),
    )

pub splits_keep : (chunks all id : ℕ) (v : View ℕ) → 1 < v.parts → ends chunks v.seen ≡ false → Splits (DrawKept chunks all) id v (view (v.parts - 1) v.seen) (view 1 [])
splits_keep chunks all id v two unended s h at =
    let l : View ℕ = view (v.parts - 1) v.seen in
    let r : View ℕ = view 1 [] in
    let same : flat_map seen (set s.views id l ++ r ∷ []) ≡ flat_map seen s.views = added seen (set s.views id l) r refl ∙ kept seen s.views id v l at refl in
    record {
      word = h.word;
      words_are = h.words_are;
      drawn = subst (DrawnOnce h.word) (sym same) h.drawn;
      shared = parts_split all s.views id v at two h.shared;
      bound =
          let t = total_set (used chunks) s.views id v l at in
          let a = used_open chunks v unended in
          let b = used_open chunks l unended in
          let e = total_snoc (used chunks) (set s.views id l) r in
          let was = h.bound in
          omega arith;
      fits = h.fits;
    }

used_both : (chunks : ℕ) (v u : View ℕ) → used chunks v + used chunks u ≤ used chunks (view (v.parts + u.parts) (v.seen ++ u.seen))
used_both chunks v u = go (ends chunks v.seen) (ends chunks u.seen) refl refl
  where
    go : (a b : Bool) → ends chunks v.seen ≡ a → ends chunks u.seen ≡ b → used chunks v + used chunks u ≤ used chunks (view (v.parts + u.parts) (v.seen ++ u.seen))
    go true b e f =
        let ended : ends chunks (v.seen ++ u.seen) ≡ true = list_any-append (λ k. nat_le chunks k) v.seen u.seen ∙ ap (λ c. c || ends chunks u.seen) e in
        let x = used_ended chunks (view (v.parts + u.parts) (v.seen ++ u.seen)) ended in
        let y = used_le chunks v in
        let z = used_le chunks u in
        omega arith
    go false true e f =
        let ended : ends chunks (v.seen ++ u.seen) ≡ true = list_any-append (λ k. nat_le chunks k) v.seen u.seen ∙ ap (λ c. c || ends chunks u.seen) e ∙ f in
        let x = used_ended chunks (view (v.parts + u.parts) (v.seen ++ u.seen)) ended in
        let y = used_le chunks v in
        let z = used_le chunks u in
        omega arith
    go false false e f = let y = used_open chunks v e in let z = used_open chunks u f in omega arith

pub joins_keep : (chunks all id : ℕ) (v : View ℕ) (other : ℕ) (u : View ℕ) → 0 < v.parts → Joins (DrawKept chunks all) id v other u (view (v.parts + u.parts) (v.seen ++ u.seen)) (view 0 [])
joins_keep chunks all id v other u some_part s h at apart at' =
    let b : View ℕ = view (v.parts + u.parts) (v.seen ++ u.seen) in
    let g : View ℕ = view 0 [] in
    let was : get_elem? s.views other ≡ some u = sym (at_other s.views other id b apart) ∙ at' in
    record {
      word = h.word;
      words_are = h.words_are;
      drawn = drawn_along h.word (flat_map seen s.views) _ h.drawn (merged seen s.views id other v u b g at was (λ e. apart (sym e)) refl refl);
      shared = parts_join all s.views id other v u (v.seen ++ u.seen) at at' some_part h.shared;
      bound =
          let t = total_set (used chunks) s.views id v b at in
          let t' = total_set (used chunks) (set s.views id b) other u g at' in
          let both = used_both chunks v u in
          let none = used_le chunks g in
          let old = h.bound in
          omega arith;
      fits = h.fits;
    }

-- the seat with all parts has each chunk once, if it had a number at or past the chunks
pub last_has_each : (chunks all id : ℕ) (v : View ℕ) (ws : List ℕ) (xs : List (Unit {0})) → Final (Seen (DrawKept chunks all) id v) ws xs → v.parts ≡ all → ends chunks v.seen ≡ true
    → EachChunkOnce chunks v.seen
last_has_each chunks all id v ws xs f whole ended =
    let h = f.1.0 in
    let is : flat_map seen f.0.views ≡ v.seen = has_all all f.0.views id v f.1.1 whole h.shared in
    let drawn : DrawnOnce h.word v.seen = subst (DrawnOnce h.word) is h.drawn in
    let past : Any (λ n. nat_le chunks n ≡ true) v.seen = Any-from_list_any (λ n. nat_le chunks n) v.seen ended in
    let below : past.1 < h.word = subst (λ x. x < h.word) past.3 (drawn_below h.word v.seen drawn past.0 past.1 past.2) in
    let is_past : nat_le chunks past.1 ≡ true = past.4 in
    let le : chunks ≤ past.1 = grind arith in
    let split : chunks + (h.word - chunks) ≡ h.word = omega arith in
    let more : List ℕ = range_with_len (0 + chunks) (h.word - chunks) in
    let range_is : range_with_len 0 h.word ≡ range_with_len 0 chunks ++ more = ap (range_with_len 0) (sym split) ∙ range_cut 0 chunks (h.word - chunks) in
    (more, (λ k d lt. let r = range_above (0 + chunks) (h.word - chunks) k d lt in omega arith), subst (λ l. IsPermutation l v.seen) range_is drawn)

pub ends_more : (chunks n : ℕ) (xs ys : List ℕ) → chunks ≤ n → ys ≡ xs ++ n ∷ [] → ends chunks ys ≡ true
ends_more chunks n xs ys le e =
    let yes : nat_le chunks n ≡ true = grind arith in
    ap (ends chunks) e ∙ list_any-append (λ k. nat_le chunks k) xs (n ∷ []) ∙ ap (λ b. list_any (λ k. nat_le chunks k) xs || (b || false)) yes ∙ or-true (list_any (λ k. nat_le chunks k) xs)

pub all_one : (P : ℕ → Type 0) (n : ℕ) → P n → All P (n ∷ [])
all_one P n h zero d lt = h
all_one P n h (suc k) d lt = absurd (omega arith)
