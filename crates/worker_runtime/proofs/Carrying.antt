-- What is carried into each chunk of a scan, and all chunks with it.
use Rattle.std.proofs.Common.{◌≡◌, ℕ, zero, suc, ◌+◌, ◌*◌, ◌<◌, ◌≤◌, List, [], ◌∷◌, ◌++◌, length, get_or, Bool, true, false, nat_lt, refl, sym, ap, ◌∙◌, subst, arith, append-nil}
use Rattle.std.proofs.lemmas.List.{length-append}
use Rattle.fut_scalar.specs.declared.report.Report.{Report}
use Rattle.fut_meaning.specs.Outcomes.{Val}
use Rattle.outcomes.specs.Stages.{Ends_with}
use Rattle.outcomes.specs.Trees.{Operator, Reduced, Scanned, Carried, Carry_fails}
use Rattle.outcomes.proofs.Glue.{ends_with}
use Rattle.outcomes.proofs.Trees.{node_of, scanned_append, scanned_last, scanned_length, carried, carry_breaks, scan_fails_behind, scan_fails_before}
use Rattle.phase_code.specs.declared.outcome.Made.{Made}
use Rattle.phase_code.specs.declared.outcome.StageFault.{StageFault}
use Rattle.phase_code.specs.Ranges.{Function, Monoid, range, Came_to, Fault_of, Scanned_to, Beginning_fails, Applies_to, Carry_gives}
use Rattle.chunk_work.specs.Runs.{InOrder}
use Rattle.phase_code.specs.declared.outcome.Applied.{Applied}
use Rattle.phase_code.specs.declared.outcome.Applied.TheVariants.{Gave, Broke}
use Rattle.phase_code.specs.Rows.{Ends_in}
use Rattle.worker_runtime.specs.Sifting.{Parts_came, Tiled}
use Rattle.phase_code.specs.Carries.{rows_at, handed_at, Link, Links}
use Rattle.phase_code.proofs.Numbered.{rows_at_is}
use Rattle.worker_runtime.proofs.Joined.{came_both, came_on, ends_fails, made_of_both}
use Rattle.worker_runtime.proofs.Reducing.{first}
use Rattle.worker_runtime.proofs.Sifting.{bound, bound_up, bound_none, part_at, fault_of_all}

module _ {A W : Type 0} (rows : W → List A) where
  rows_left : (ms ns : List (Made W)) (k : ℕ) → k < length ms → rows_at rows (ms ++ ns) k ≡ rows_at rows ms k
  rows_left [] ns k lt = absurd (omega arith)
  rows_left (x ∷ ms) ns zero lt = refl
  rows_left (x ∷ ms) ns (suc k) lt = rows_left ms ns k (omega arith)

  rows_end : (ms : List (Made W)) (m : Made W) (k : ℕ) → k ≡ length ms → rows_at rows (ms ++ m ∷ []) k ≡ rows m.words
  rows_end [] m zero e = refl
  rows_end [] m (suc k) e = absurd (omega arith)
  rows_end (x ∷ ms) m zero e = absurd (omega arith)
  rows_end (x ∷ ms) m (suc k) e = rows_end ms m k (omega arith)

pub handed_at_is : {W : Type 0} (ms : List (Made W)) (k : ℕ) (m : Made W) → k < length ms → m ≡ get_or ms k m → handed_at ms k ≡ m.handed
handed_at_is [] k m lt e = absurd (omega arith)
handed_at_is (x ∷ ms) zero m lt e = ap (λ y. y.handed) (sym e)
handed_at_is (x ∷ ms) (suc k) m lt e = handed_at_is ms k m (omega arith) e

handed_left : {W : Type 0} (ms ns : List (Made W)) (k : ℕ) → k < length ms → handed_at (ms ++ ns) k ≡ handed_at ms k
handed_left [] ns k lt = absurd (omega arith)
handed_left (x ∷ ms) ns zero lt = refl
handed_left (x ∷ ms) ns (suc k) lt = handed_left ms ns k (omega arith)

handed_end : {W : Type 0} (ms : List (Made W)) (m : Made W) (k : ℕ) → k ≡ length ms → handed_at (ms ++ m ∷ []) k ≡ m.handed
handed_end [] m zero e = refl
handed_end [] m (suc k) e = absurd (omega arith)
handed_end (x ∷ ms) m zero e = absurd (omega arith)
handed_end (x ∷ ms) m (suc k) e = handed_end ms m k (omega arith)

-- ---- links

module _ {A W : Type 0} (rows : W → List A) (op : Operator A) (parts : List (Made W)) where
  link_kept : (cs : List (Made W)) (c : Made W) (i : ℕ) → i < length cs → Link rows op parts cs i → Link rows op parts (cs ++ c ∷ []) i
  link_kept cs c zero lt l = (l.0, l.1, rows_left rows cs (c ∷ []) 0 lt ∙ l.2, l.3, handed_left cs (c ∷ []) 0 lt ∙ l.4)
  link_kept cs c (suc j) lt l = (
    l.0,
    l.1,
    l.2,
    l.3,
    rows_left rows cs (c ∷ []) j (omega arith) ∙ l.4,
    l.5,
    rows_left rows cs (c ∷ []) (suc j) lt ∙ l.6,
    l.7,
    subst (λ n. n ≤ l.7) (sym (handed_left cs (c ∷ []) (suc j) lt)) l.8,
    l.9,
  )

  links_kept : (cs now : List (Made W)) (c : Made W) (k : ℕ) → now ≡ cs ++ c ∷ [] → length cs ≡ k → Link rows op parts (cs ++ c ∷ []) k → Links rows op parts cs → Links rows op parts now
  links_kept cs now c k e long new links i lt = subst (λ l. Link rows op parts l i) (sym e) (go (nat_lt i (length cs)) refl)
    where
      go : (b : Bool) → nat_lt i (length cs) ≡ b → Link rows op parts (cs ++ c ∷ []) i
      go true t = link_kept cs c i (grind arith) (links i (grind arith))
      go false t =
          let l = length-append cs (c ∷ []) in
          let m = ap length e in
          let ge : length cs ≤ i = grind arith in
          let z : k ≡ i = omega arith in
          subst (Link rows op parts (cs ++ c ∷ [])) z new

  -- the last row of the first chunk is carried behind it
  pub links_first : (now : List (Made W)) (c : Made W) (uf : List A) (z : A) → now ≡ c ∷ [] → rows_at rows parts 0 ≡ uf ++ z ∷ [] → rows c.words ≡ z ∷ [] → c.handed ≡ 0 → Links rows op parts now
  links_first now c uf z e f g h = links_kept [] now c 0 e refl (uf, z, g, f, h) (λ i lt. absurd (omega arith))

  -- one more, which the operator makes of the last and the last row of its chunk
  pub links_more : (cs now : List (Made W)) (c : Made W) (k : ℕ) (u z w : A) (uf : List A) (h : ℕ) → now ≡ cs ++ c ∷ [] → length cs ≡ suc k → rows_at rows cs k ≡ u ∷ [] → rows_at rows parts (suc k) ≡ uf ++ z ∷ [] → rows c.words ≡ w ∷ [] → c.handed ≤ h → op u z (Val w) h
      → Links rows op parts cs → Links rows op parts now
  links_more cs now c k u z w uf h e long ru rz last_is le d links =
      links_kept cs now c (suc k) e long
      (uf, u, z, w, rows_left rows cs (c ∷ []) k (omega arith) ∙ ru, rz, rows_end rows cs c (suc k) (omega arith) ∙ last_is, h, subst (λ n. n ≤ h) (sym (handed_end cs c (suc k) (omega arith))) le, d) links

  -- one row is carried
  pub carried_row : (cs : List (Made W)) (k : ℕ) → k < length cs → Links rows op parts cs → (c : A) × (rows_at rows cs k ≡ c ∷ [])
  carried_row cs zero lt links = let l = links 0 lt in (l.1, l.2)
  carried_row cs (suc j) lt links = let l = links (suc j) lt in (l.3, l.6)

-- ---- all chunks with what is carried

module _ {A W : Type 0} (rows : W → List A) (m : Monoid A) (cs : List (Made W)) where
  -- scanned so far, and what is carried behind it, if it is carried into a chunk
  abbrev pub Scan_carry : ℕ → List A → List A → ℕ → Type 0
  Scan_carry j ws ys a = (f : ℕ) × (a ≤ f) × Scanned m.op m.neutral [] ys ws f × (j < length cs → (c : A) × (t : ℕ) × (rows_at rows cs j ≡ c ∷ []) × (handed_at cs j ≤ t) × Reduced m.op m.neutral ys (Val c) t)

  -- what is carried into a chunk is the row of a tree over all elements before
  abbrev Tree_carry : ℕ → List A → ℕ → Type 0
  Tree_carry j ys a = (c : A) × (t : ℕ) × (rows_at rows cs j ≡ c ∷ []) × Reduced m.op m.neutral ys (Val c) t

module _ {A W : Type 0} (rows : W → List A) (m : Monoid A) (parts cs : List (Made W)) (links : Links rows m.op parts cs) where
  at_least : (a n : ℕ) → 0 < n → a ≤ a * n
  at_least a zero lt = absurd (omega arith)
  at_least a (suc n) lt = let z : a * suc n ≡ a + a * n = grind arith in omega arith

  k_step : (j : ℕ) → j < length cs → (us zs ws : List A) (c : A) (h d : ℕ) → rows_at rows cs j ≡ c ∷ [] → rows_at rows parts (suc j) ≡ zs → 0 < length zs → d ≤ h → Carried m.op c zs ws h → (ys xs : List A) (a b : ℕ)
      → Scan_carry rows m cs j us ys a → Scanned_to m zs xs b → Scan_carry rows m cs (suc j) (us ++ ws) (ys ++ xs) (a + b + (d + handed_at cs j))
  k_step j lt us zs ws c h d rc here some le p ys xs a b k l =
      let t = k.3 lt in
      let same : t.0 ≡ c = first t.0 c (sym t.2 ∙ rc) in
      let tree = subst (λ v. Reduced m.op m.neutral ys (Val v) t.1) same t.4 in
      let more = carried m.op m.neutral ys [] xs zs ws c l.0 t.1 h tree l.2 p in
      let there : Scanned m.op m.neutral ys xs ws more.0 = subst (λ i. Scanned m.op m.neutral i xs ws more.0) (append-nil ys) more.2 in
      let long = scanned_length m.op m.neutral [] xs zs l.0 l.2 in
      let g1 = more.1 in
      let g2 = t.3 in
      let g3 = k.1 in
      let g4 = l.1 in
      let once : t.1 ≤ t.1 * length xs = at_least t.1 (length xs) (omega arith) in (
        k.0 + more.0,
        omega arith,
        scanned_append m.op m.neutral [] ys xs us ws k.0 more.0 k.2 there,
        λ next. (
            let link = links (suc j) next in
            let u : link.1 ≡ c = first link.1 c (sym link.4 ∙ rc) in
            let z = scanned_last m.op m.neutral [] xs link.0 link.2 l.0 (subst (λ i. Scanned m.op m.neutral [] xs i l.0) (sym here ∙ link.5) l.2) in
            let g5 = link.8 in
            (link.3, t.1 + z.0 + link.7, link.6, omega arith, node_of m.op m.neutral ys xs c link.2 (Val link.3) t.1 z.0 link.7 tree z.2 (subst (λ v. m.op v link.2 (Val link.3) link.7) u link.9))),
      )

  k_first : (zs : List A) → 0 < length cs → rows_at rows parts 0 ≡ zs → (ys : List A) (a : ℕ) → Scanned_to m zs ys a → Scan_carry rows m cs 0 zs ys (a + 0)
  k_first zs lt here ys a k =
      let link = links 0 lt in
      let z = scanned_last m.op m.neutral [] ys link.0 link.1 k.0 (subst (λ i. Scanned m.op m.neutral [] ys i k.0) (sym here ∙ link.3) k.2) in
      let le = k.1 in
      (k.0, omega arith, k.2, λ more. (let e = link.4 in (link.1, z.0, link.2, omega arith, z.2)))

  -- nothing is carried behind a chunk alone
  k_alone : (zs : List A) → length cs ≡ 0 → (ys : List A) (a : ℕ) → Scanned_to m zs ys a → Scan_carry rows m cs 0 zs ys (a + 0)
  k_alone zs none ys a k = let le = k.1 in (k.0, omega arith, k.2, λ more. absurd (omega arith))

  module _ (fn : Function A) where
    pub carried_first : (hi : ℕ) (p o : Made W) → rows_at rows parts 0 ≡ rows p.words → rows o.words ≡ rows p.words → o.handed ≤ p.handed → Came_to rows fn (Scanned_to m) 0 hi p → Came_to rows fn (Scan_carry rows m cs 0) 0 hi o
    carried_first hi p o here e le d = go (length cs) refl
      where
        go : (n : ℕ) → length cs ≡ n → Came_to rows fn (Scan_carry rows m cs 0) 0 hi o
        go zero none = came_on fn rows (Scanned_to m) (Scan_carry rows m cs 0) 0 hi 0 p o (omega arith) (λ ys a k. subst (λ l. Scan_carry rows m cs 0 l ys (a + 0)) (sym e) (k_alone (rows p.words) none ys a k)) d
        go (suc n) some = came_on fn rows (Scanned_to m) (Scan_carry rows m cs 0) 0 hi 0 p o (omega arith) (λ ys a k. subst (λ l. Scan_carry rows m cs 0 l ys (a + 0)) (sym e) (k_first (rows p.words) (omega arith) here ys a k)) d

    pub carried_step : (mid hi j : ℕ) → mid ≤ hi → j < length cs → (acc p more o : Made W) → rows_at rows parts (suc j) ≡ rows p.words → 0 < length (rows p.words) → rows o.words ≡ rows acc.words ++ rows more.words
        → ((c : A) → rows_at rows cs j ≡ c ∷ [] → (h : ℕ) × (more.handed ≤ h) × Carried m.op c (rows p.words) (rows more.words) h) → o.handed ≤ acc.handed + p.handed + (more.handed + handed_at cs j)
        → Came_to rows fn (Scan_carry rows m cs j) 0 mid acc → Came_to rows fn (Scanned_to m) mid hi p → Came_to rows fn (Scan_carry rows m cs (suc j)) 0 hi o
    carried_step mid hi j high lt acc p more o here some e q le x y =
        let c = carried_row rows m.op parts cs j lt links in
        let d = q c.0 c.1 in
        came_both fn rows (Scan_carry rows m cs j) (Scanned_to m) (Scan_carry rows m cs (suc j)) 0 mid hi (more.handed + handed_at cs j) acc p o (omega arith) high le
        (λ ys xs a b k l. subst (λ i. Scan_carry rows m cs (suc j) i (ys ++ xs) (a + b + (more.handed + handed_at cs j))) (sym e) (k_step j lt (rows acc.words) (rows p.words) (rows more.words) c.0 d.0 more.handed c.1 here some d.1 d.2 ys xs a b k l)) x y

    pub carried_all : (hi j : ℕ) (o : Made W) → Came_to rows fn (Scan_carry rows m cs j) 0 hi o → Came_to rows fn (Scanned_to m) 0 hi o
    carried_all hi j o p = came_on fn rows (Scan_carry rows m cs j) (Scanned_to m) 0 hi 0 o o (omega arith) (λ ys i k. (k.0, (let z = k.1 in omega arith), k.2)) p

    element_at : (ms : List (Made W)) (k : ℕ) → k < length ms → (x : Made W) × (x ≡ get_or ms k x)
    element_at [] k lt = absurd (omega arith)
    element_at (x ∷ ms) zero lt = (x, refl)
    element_at (x ∷ ms) (suc k) lt = element_at ms k (omega arith)

    module _ (size count : ℕ) (tiled : Tiled size count (length parts)) (came : Parts_came rows fn (Scanned_to m) size count parts) (fewer : length cs ≤ length parts) where
      tree_upto : (j : ℕ) → j < length cs → (h : ℕ) × Ends_with fn.means (Tree_carry rows m cs j) 0 fn.stages (range fn.row 0 (bound size count (j + 1))) h
      tree_upto zero lt =
          let e = element_at parts 0 (omega arith) in
          let p = subst (λ i. Came_to rows fn (Scanned_to m) i (bound size count 1) e.0) (bound_none size count) (part_at size count rows fn (Scanned_to m) parts tiled came 0 e.0 (omega arith) e.1) in
          let here = rows_at_is rows parts 0 e.0 (omega arith) e.1 in
          let link = links 0 lt in (
            p.0 + 0,
            ends_with fn.means (Scanned_to m (rows e.0.words)) (Tree_carry rows m cs 0) 0 (λ ys a k. (
                let z = scanned_last m.op m.neutral [] ys link.0 link.1 k.0 (subst (λ i. Scanned m.op m.neutral [] ys i k.0) (sym here ∙ link.3) k.2) in
                (link.1, z.0, link.2, z.2))) 0 fn.stages (range fn.row 0 (bound size count 1)) p.0 p.2,
          )
      tree_upto (suc j) lt =
          let e = element_at parts (suc j) (omega arith) in
          let y : suc j ≡ j + 1 = omega arith in
          let before = tree_upto j (omega arith) in
          let p = subst (λ i. Came_to rows fn (Scanned_to m) (bound size count i) (bound size count (suc j + 1)) e.0) y (part_at size count rows fn (Scanned_to m) parts tiled came (suc j) e.0 (omega arith) e.1) in
          let here = rows_at_is rows parts (suc j) e.0 (omega arith) e.1 in
          let link = links (suc j) lt in
          let up = subst (λ i. bound size count i ≤ bound size count (suc j + 1)) y (bound_up size count (suc j) 1) in (
            before.0 + p.0 + 0,
            made_of_both fn (Tree_carry rows m cs j) (Scanned_to m (rows e.0.words)) (Tree_carry rows m cs (suc j)) 0 (bound size count (j + 1)) (bound size count (suc j + 1)) 0 before.0 p.0 (omega arith) up (λ ys xs a b k l. (
                let z = scanned_last m.op m.neutral [] xs link.0 link.2 l.0 (subst (λ i. Scanned m.op m.neutral [] xs i l.0) (sym here ∙ link.5) l.2) in
                let u : link.1 ≡ k.0 = first link.1 k.0 (sym link.4 ∙ k.2) in
                (link.3, k.1 + z.0 + link.7, link.6, node_of m.op m.neutral ys xs k.0 link.2 (Val link.3) k.1 z.0 link.7 k.3 z.2 (subst (λ v. m.op v link.2 (Val link.3) link.7) u link.9)))) before.1 p.2,
          )

      -- an application to what is carried fails: it is a failure of the whole
      pub scan_fault : (j : ℕ) → j < length cs → suc j < length parts → (w : StageFault) → w.stage ≡ fn.stages → ((c : A) → rows_at rows cs j ≡ c ∷ [] → Carry_fails m.op c (rows_at rows parts (suc j)) w.report) → Fault_of fn (Beginning_fails m) 0 count w
      scan_fault j lt within w s f =
          let e = element_at parts (suc j) within in
          let y : suc j ≡ j + 1 = omega arith in
          let before = tree_upto j lt in
          let p = subst (λ i. Came_to rows fn (Scanned_to m) (bound size count i) (bound size count (suc j + 1)) e.0) y (part_at size count rows fn (Scanned_to m) parts tiled came (suc j) e.0 within e.1) in
          let here = rows_at_is rows parts (suc j) e.0 within e.1 in
          let up = subst (λ i. bound size count i ≤ bound size count (suc j + 1)) y (bound_up size count (suc j) 1) in
          let fault = ends_fails fn (Tree_carry rows m cs j) (Scanned_to m (rows e.0.words)) (Beginning_fails m) 0 (bound size count (j + 1)) (bound size count (suc j + 1)) before.0 p.0 w (omega arith) up s
          (λ ys zs a b k l. carry_breaks m.op m.neutral ys zs (rows e.0.words) k.0 w.report k.1 l.0 k.3 l.2 (subst (λ i. Carry_fails m.op k.0 i w.report) here (f k.0 k.2))) before.1 p.2 in
          fault_of_all size count rows fn (Scanned_to m) parts tiled came (Beginning_fails m) (scan_fails_behind m.op m.neutral) (scan_fails_before m.op m.neutral) (suc j + 1) w (omega arith) fault

-- what came of a chunk with what was carried into it
pub carried_at : {A W : Type 0} (rows : W → List A) (m : Monoid A) (parts cs : List (Made W)) (os : List (Applied W)) (j : ℕ) (o : Applied W) → j < length os → o ≡ get_or os j o → InOrder (λ c x. Carry_gives rows m (rows_at rows cs c) (rows_at rows parts (c + 1)) x) 0 os → Carry_gives rows m (rows_at rows cs j) (rows_at rows parts (j + 1)) o
carried_at {A} {W} rows m parts cs os j o lt e h =
    let z : 0 + j ≡ j = omega arith in
    subst (λ c. Carry_gives rows m (rows_at rows cs c) (rows_at rows parts (c + 1)) o) z (go 0 j os h lt e)
  where
    go : (k j : ℕ) (os : List (Applied W)) → InOrder (λ c x. Carry_gives rows m (rows_at rows cs c) (rows_at rows parts (c + 1)) x) k os → j < length os → o ≡ get_or os j o → Carry_gives rows m (rows_at rows cs (k + j)) (rows_at rows parts (k + j + 1)) o
    go k j [] h lt e = absurd (omega arith)
    go k zero (x ∷ os) h lt e = let z : k ≡ k + 0 = omega arith in subst (λ c. Carry_gives rows m (rows_at rows cs c) (rows_at rows parts (c + 1)) o) z (subst (λ y. Carry_gives rows m (rows_at rows cs k) (rows_at rows parts (k + 1)) y) (sym e) h.0)
    go k (suc j) (x ∷ os) h lt e = let z : k + 1 + j ≡ k + suc j = omega arith in subst (λ c. Carry_gives rows m (rows_at rows cs c) (rows_at rows parts (c + 1)) o) z (go (k + 1) j os h.1 (omega arith) e)

-- one more link, in the words of what the code knows
pub links_next : {A W : Type 0} (rows : W → List A) (m : Monoid A) (parts cs now : List (Made W)) (c : Made W) (j k : ℕ) (vs zs : List A) → now ≡ cs ++ c ∷ [] → length cs ≡ k → suc j ≡ k → rows_at rows cs j ≡ vs → Ends_in (rows_at rows parts k) zs → Applies_to rows m vs zs (Gave c)
    → Links rows m.op parts cs → Links rows m.op parts now
links_next rows m parts cs now c j k vs zs e long next here last d links =
    let u = carried_row rows m.op parts cs j (omega arith) links in
    let g = d u.0 last.1 (sym here ∙ u.1) last.3 in
    links_more rows m.op parts cs now c j u.0 last.1 g.0 last.0 g.2 e (omega arith) u.1 (subst (λ i. rows_at rows parts i ≡ last.0 ++ last.1 ∷ []) (sym next) last.2) g.1 g.3 g.4 links

-- the operator fails on what is carried and the last row
pub last_fails : {A W : Type 0} (rows : W → List A) (m : Monoid A) (us zs vs : List A) (r : Report) → Applies_to rows m vs zs (Broke r) → Ends_in us zs → (c : A) → vs ≡ c ∷ [] → Carry_fails m.op c us r
last_fails rows m us zs vs r d h c e = let f = d c h.1 e h.3 in record { front = h.0; z = h.1; after = []; parts = h.2; count = f.0; fails = f.1 }
