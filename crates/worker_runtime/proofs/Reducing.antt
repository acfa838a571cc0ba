-- Reductions of chunks and of ranges in a row.
use Rattle.std.proofs.Common.{◌≡◌, ℕ, zero, suc, ◌+◌, ◌-◌, ◌<◌, ◌≤◌, ◌++◌, List, [], ◌∷◌, length, get_or, true, refl, sym, ap, ◌∙◌, subst, arith}
use Rattle.std.proofs.lemmas.List.{length-append}
use Rattle.fut_scalar.specs.declared.report.Report.{Report}
use Rattle.fut_meaning.specs.Outcomes.{Val, Fail, Then, Bracket}
use Rattle.outcomes.specs.Stages.{staged, Ends_with}
use Rattle.outcomes.specs.Trees.{Reduced}
use Rattle.outcomes.proofs.Glue.{ends_means, fault_means}
use Rattle.outcomes.proofs.Trees.{node_of, fails_before, fails_behind, is_bracket, empty_bracket}
use Rattle.phase_code.specs.declared.outcome.Made.{Made}
use Rattle.phase_code.specs.declared.outcome.StageFault.{StageFault}
use Rattle.phase_code.specs.declared.outcome.Chunk.{Chunk}
use Rattle.phase_code.specs.declared.outcome.Chunk.TheVariants.{Came, Failed}
use Rattle.phase_code.specs.declared.outcome.Applied.TheVariants.{Gave, Broke}
use Rattle.phase_code.specs.Rows.{Ends_in}
use Rattle.phase_code.specs.Ranges.{Function, Monoid, range, Came_to, Fault_of, Went, Kept, Folded, Fold_fails, Applies_to, Fold_gives}
use Rattle.worker_runtime.specs.Phases.{Is_reduce}
use Rattle.worker_runtime.proofs.Joined.{came_both, came_on, some_of, end_fails, ends_fails, range_none, nothing_ends}

-- lists of one are the same where their elements are
pub first : {A : Type 0} (x y : A) → x ∷ [] ≡ y ∷ [] → x ≡ y
first x y e = ap (λ l. get_or l 0 x) e

-- the last of one is that one
pub last_of_one : {A : Type 0} (us zs : List A) (v : A) → us ≡ v ∷ [] → Ends_in us zs → zs ≡ us
last_of_one {A} us zs v e h = h.3 ∙ sym (h.2 ∙ only h.0 (ap length (sym e ∙ h.2)))
  where
    only : (uf : List A) → 1 ≡ length (uf ++ h.1 ∷ []) → uf ++ h.1 ∷ [] ≡ h.1 ∷ []
    only [] q = refl
    only (x ∷ uf) q = let l = length-append uf (h.1 ∷ []) in absurd (omega arith)

module _ {A : Type 0} (m : Monoid A) where
  pub folds_behind : (xs zs : List A) (r : Report) → Fold_fails m xs r → Fold_fails m (xs ++ zs) r
  folds_behind xs zs r f = (f.0, fails_before m.op m.neutral xs zs r f.0 f.1)

  pub folds_before : (xs zs : List A) (r : Report) → Fold_fails m zs r → Fold_fails m (xs ++ zs) r
  folds_before xs zs r f = (f.0, fails_behind m.op m.neutral xs zs r f.0 f.1)

module _ {A W : Type 0} (rows : W → List A) (fn : Function A) (m : Monoid A) where
  -- there are rows where there are elements
  pub some_rows : (lo hi : ℕ) (made : Made W) → lo < hi → Came_to rows fn Kept lo hi made → 0 < length (rows made.words)
  some_rows lo hi made lt p = let q = some_of fn rows Kept lo hi made p in let l = ap length q.3.0 in let n = q.2 in omega arith

  -- a chunk
  pub chunk_folds : (lo hi : ℕ) (kept made o : Made W) → o.words ≡ made.words → o.handed ≤ kept.handed + made.handed → Fold_gives rows m (rows kept.words) (Gave made) → Came_to rows fn Kept lo hi kept → Came_to rows fn (Folded m) lo hi o
  chunk_folds lo hi kept made o e le g p =
      let y = g.3 in
      came_on fn rows Kept (Folded m) lo hi g.2 kept o (omega arith)
      (λ ys i k. (g.0, ap rows e ∙ g.1, g.2, (let z = k.1 in omega arith), subst (λ l. Reduced m.op m.neutral l (Val g.0) g.2) (sym k.0) g.4)) p

  pub chunk_breaks : (lo hi : ℕ) (kept : Made W) (w : StageFault) → w.stage ≡ fn.stages → Fold_fails m (rows kept.words) w.report → Came_to rows fn Kept lo hi kept → Fault_of fn (Fold_fails m) lo hi w
  chunk_breaks lo hi kept w s f p = end_fails fn (Kept (rows kept.words)) (Fold_fails m) lo hi p.0 w s (λ ys a k. (f.0, subst (λ l. Reduced m.op m.neutral l (Fail w.report) f.0) (sym k.0) f.1)) p.2

  -- one row
  pub one_row : (lo hi : ℕ) (made : Made W) → Came_to rows fn (Folded m) lo hi made → (v : A) × (rows made.words ≡ v ∷ [])
  one_row lo hi made p = let q = some_of fn rows (Folded m) lo hi made p in (q.3.0, q.3.1)

  pub one_long : (lo hi : ℕ) (made : Made W) → Came_to rows fn (Folded m) lo hi made → 0 < length (rows made.words)
  one_long lo hi made p = let q = one_row lo hi made p in let l = ap length q.1 in omega arith

  -- the same row
  pub with_rows : (lo hi : ℕ) (p o : Made W) → rows o.words ≡ rows p.words → o.handed ≤ p.handed → Came_to rows fn (Folded m) lo hi p → Came_to rows fn (Folded m) lo hi o
  with_rows lo hi p o e le x = let y = x.1 in (x.0, omega arith, subst (λ us. Ends_with fn.means (Folded m us) 0 fn.stages (range fn.row lo hi) x.0) (sym e) x.2)

  -- two ranges
  pub fold_both : (lo mid hi : ℕ) (p q made o : Made W) → lo ≤ mid → mid ≤ hi → rows o.words ≡ rows made.words → o.handed ≤ p.handed + q.handed + made.handed → Applies_to rows m (rows p.words) (rows q.words) (Gave made)
      → Came_to rows fn (Folded m) lo mid p → Came_to rows fn (Folded m) mid hi q → Came_to rows fn (Folded m) lo hi o
  fold_both lo mid hi p q made o low high e le d x y =
      let u = one_row lo mid p x in
      let v = one_row mid hi q y in
      let g = d u.0 v.0 u.1 v.1 in
      let more = g.3 in
      came_both fn rows (Folded m) (Folded m) (Folded m) lo mid hi g.2 p q o low high (omega arith)
      (λ ys zs i j k l. (
      let a : k.0 ≡ u.0 = first k.0 u.0 (sym k.1 ∙ u.1) in
      let b : l.0 ≡ v.0 = first l.0 v.0 (sym l.1 ∙ v.1) in
      let k3 = k.3 in
      let l3 = l.3 in
      let s = subst (λ t. Reduced m.op m.neutral ys (Val t) k.2) a k.4 in
      let t = subst (λ t. Reduced m.op m.neutral zs (Val t) l.2) b l.4 in
      (g.0, e ∙ g.1, k.2 + l.2 + g.2, omega arith, node_of m.op m.neutral ys zs u.0 v.0 (Val g.0) k.2 l.2 g.2 s t g.4)))
      x y

  pub fold_broken : (lo mid hi : ℕ) (p q : Made W) (w : StageFault) → lo ≤ mid → mid ≤ hi → w.stage ≡ fn.stages → Applies_to rows m (rows p.words) (rows q.words) (Broke w.report) → Came_to rows fn (Folded m) lo mid p → Came_to rows fn (Folded m) mid hi q → Fault_of fn (Fold_fails m) lo hi w
  fold_broken lo mid hi p q w low high st d x y =
      let u = one_row lo mid p x in
      let v = one_row mid hi q y in
      let g = d u.0 v.0 u.1 v.1 in
      ends_fails fn (Folded m (rows p.words)) (Folded m (rows q.words)) (Fold_fails m) lo mid hi x.0 y.0 w low high st
      (λ ys zs i j k l. (
      let a : k.0 ≡ u.0 = first k.0 u.0 (sym k.1 ∙ u.1) in
      let b : l.0 ≡ v.0 = first l.0 v.0 (sym l.1 ∙ v.1) in
      let s = subst (λ t. Reduced m.op m.neutral ys (Val t) k.2) a k.4 in
      let t = subst (λ t. Reduced m.op m.neutral zs (Val t) l.2) b l.4 in
      (k.2 + l.2 + g.0, node_of m.op m.neutral ys zs u.0 v.0 (Fail w.report) k.2 l.2 g.0 s t g.1)))
      x.2 y.2

  -- the whole
  pub is_reduce_failed : (count : ℕ) (w : StageFault) → Fault_of fn (Fold_fails m) 0 count w → Is_reduce rows fn m count (Failed w)
  is_reduce_failed count w p =
      let q = fault_means fn.means (Fold_fails m) (Bracket true m.op m.neutral) (λ ys r x. (x.0, is_bracket m.op m.neutral ys (Fail r) x.0 x.1)) 0 fn.stages (range fn.row 0 count) w.stage p.0 w.report p.2 in
      (p, q.0, q.1)

  pub is_reduce_came : (count : ℕ) (made : Made W) → Came_to rows fn (Folded m) 0 count made → Is_reduce rows fn m count (Came made)
  is_reduce_came count made p =
      let u = one_row 0 count made p in
      let q = ends_means fn.means (Folded m (rows made.words)) (Bracket true m.op m.neutral) u.0 (λ ys i k. (k.2, k.3, subst (λ t. Bracket true m.op m.neutral ys (Val t) k.2) (first k.0 u.0 (sym k.1 ∙ u.1)) (is_bracket m.op m.neutral ys (Val k.0) k.2 k.4))) 0 fn.stages (range fn.row 0 count) p.0 p.2 in
      let x = p.1 in
      let y = q.1 in
      (u.0, u.1, q.0, omega arith, q.2)

  pub is_reduce_none : (count : ℕ) (made : Made W) → count ≡ 0 → rows made.words ≡ m.neutral ∷ [] → made.handed ≡ 0 → Is_reduce rows fn m count (Came made)
  is_reduce_none count made z e h =
      let none : range fn.row 0 count ≡ [] = ap (range fn.row 0) z ∙ range_none fn.row 0 in
      let q = ends_means fn.means (λ ys a. (ys ≡ []) × (a ≡ 0)) (Bracket true m.op m.neutral) m.neutral (λ ys a k. (0, (let y = k.1 in omega arith), subst (λ l. Bracket true m.op m.neutral l (Val m.neutral) 0) (sym k.0) (empty_bracket m.op m.neutral))) 0 fn.stages (range fn.row 0 count) 0
      (subst (λ l. Ends_with fn.means (λ ys a. (ys ≡ []) × (a ≡ 0)) 0 fn.stages l 0) (sym none) (nothing_ends fn.means (λ ys a. (ys ≡ []) × (a ≡ 0)) (refl, refl) fn.stages 0)) in
      (m.neutral, e, q.0, omega arith, q.2)

  pub is_reduce_went : (count : ℕ) (o : Chunk W) → Went rows fn (Folded m) (Fold_fails m) 0 count o → Is_reduce rows fn m count o
  is_reduce_went count (Came made) p = is_reduce_came count made p
  is_reduce_went count (Failed w) p = is_reduce_failed count w p
