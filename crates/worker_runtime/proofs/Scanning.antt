-- Scans of chunks, and what a scan gives.
use Rattle.std.proofs.Common.{◌≡◌, ℕ, zero, suc, ◌+◌, ◌<◌, ◌≤◌, List, [], ◌∷◌, ◌++◌, length, true, refl, sym, ap, ◌∙◌, subst, arith}
use Rattle.fut_scalar.specs.declared.report.Report.{Report}
use Rattle.fut_meaning.specs.Outcomes.{Val, Fail, Bracket}
use Rattle.outcomes.specs.Stages.{staged, Ends_with}
use Rattle.outcomes.specs.Trees.{Scanned, Scan_fails, all_of, beginnings}
use Rattle.outcomes.proofs.Glue.{ends_means, fault_means}
use Rattle.outcomes.proofs.Trees.{is_scan, scan_stops, scanned_length}
use Rattle.phase_code.specs.declared.outcome.Made.{Made}
use Rattle.phase_code.specs.declared.outcome.StageFault.{StageFault}
use Rattle.phase_code.specs.declared.outcome.Chunk.{Chunk}
use Rattle.phase_code.specs.declared.outcome.Chunk.TheVariants.{Came, Failed}
use Rattle.phase_code.specs.declared.outcome.Applied.TheVariants.{Gave, Broke}
use Rattle.phase_code.specs.Ranges.{Function, Monoid, range, Came_to, Fault_of, Went, Kept, Scanned_to, Beginning_fails, Scan_gives}
use Rattle.worker_runtime.specs.Phases.{Is_scan}
use Rattle.worker_runtime.proofs.Joined.{came_on, some_of, end_fails, range_none, nothing_ends}

module _ {A W : Type 0} (rows : W → List A) (fn : Function A) (m : Monoid A) where
  -- a chunk
  pub chunk_scanned : (lo hi : ℕ) (kept made o : Made W) → o.words ≡ made.words → o.handed ≤ kept.handed + made.handed → Scan_gives rows m (rows kept.words) (Gave made) → Came_to rows fn Kept lo hi kept → Came_to rows fn (Scanned_to m) lo hi o
  chunk_scanned lo hi kept made o e le g p =
      let y = g.1 in
      came_on fn rows Kept (Scanned_to m) lo hi g.0 kept o (omega arith)
      (λ ys i k. (g.0, (let z = k.1 in omega arith), subst (λ l. Scanned m.op m.neutral [] ys l g.0) (ap rows (sym e)) (subst (λ l. Scanned m.op m.neutral [] l (rows made.words) g.0) (sym k.0) g.2))) p

  pub chunk_scan_breaks : (lo hi : ℕ) (kept : Made W) (w : StageFault) → w.stage ≡ fn.stages → Beginning_fails m (rows kept.words) w.report → Came_to rows fn Kept lo hi kept → Fault_of fn (Beginning_fails m) lo hi w
  chunk_scan_breaks lo hi kept w s f p = end_fails fn (Kept (rows kept.words)) (Beginning_fails m) lo hi p.0 w s (λ ys a k. subst (λ l. Scan_fails m.op m.neutral l w.report) (sym k.0) f) p.2

  -- there are rows where there are elements
  pub scan_some : (lo hi : ℕ) (made : Made W) → lo < hi → Came_to rows fn (Scanned_to m) lo hi made → 0 < length (rows made.words)
  scan_some lo hi made lt p =
      let q = some_of fn rows (Scanned_to m) lo hi made p in
      let k = q.3 in
      let l = scanned_length m.op m.neutral [] q.0 (rows made.words) k.0 k.2 in
      let n = q.2 in
      omega arith

  -- the whole
  pub is_scan_failed : (count : ℕ) (w : StageFault) → Fault_of fn (Beginning_fails m) 0 count w → Is_scan rows fn m count (Failed w)
  is_scan_failed count w p =
      let last : (ys : List A) (r : Report) → Scan_fails m.op m.neutral ys r → (f : ℕ) × all_of (Bracket true m.op m.neutral) (beginnings [] ys) (Fail r) f = λ ys r s. (
      let q = scan_stops m.op m.neutral [] s.front s.after s.x r s.count s.fails in
      subst (λ l. (f : ℕ) × all_of (Bracket true m.op m.neutral) (beginnings [] l) (Fail r) f) (sym s.parts) q) in
      let q = fault_means fn.means (Beginning_fails m) (λ ys. all_of (Bracket true m.op m.neutral) (beginnings [] ys)) last 0 fn.stages (range fn.row 0 count) w.stage p.0 w.report p.2 in
      (p, q.0, q.1)

  pub is_scan_came : (count : ℕ) (made : Made W) → Came_to rows fn (Scanned_to m) 0 count made → Is_scan rows fn m count (Came made)
  is_scan_came count made p =
      let q = ends_means fn.means (Scanned_to m (rows made.words)) (λ ys. all_of (Bracket true m.op m.neutral) (beginnings [] ys)) (rows made.words) (λ ys i k. (k.0, k.1, is_scan m.op m.neutral [] ys (rows made.words) k.0 k.2)) 0 fn.stages (range fn.row 0 count) p.0 p.2 in
      let x = p.1 in
      let y = q.1 in
      (q.0, omega arith, q.2)

  pub scanned_none : (made : Made W) → rows made.words ≡ [] → made.handed ≡ 0 → Came_to rows fn (Scanned_to m) 0 0 made
  scanned_none made e h =
      let k : Scanned_to m (rows made.words) [] 0 = (0, omega arith, subst (λ l. Scanned m.op m.neutral [] [] l 0) (sym e) refl) in
      (0, omega arith, subst (λ l. Ends_with fn.means (Scanned_to m (rows made.words)) 0 fn.stages l 0) (sym (range_none fn.row 0)) (nothing_ends fn.means (Scanned_to m (rows made.words)) k fn.stages 0))

  pub is_scan_went : (count : ℕ) (o : Chunk W) → Went rows fn (Scanned_to m) (Beginning_fails m) 0 count o → Is_scan rows fn m count o
  is_scan_went count (Came made) p = is_scan_came count made p
  is_scan_went count (Failed w) p = is_scan_failed count w p
