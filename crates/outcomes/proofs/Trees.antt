-- Trees over parts of a list make a tree over the list.
use Rattle.std.proofs.Common.{◌≡◌, ℕ, suc, ◌+◌, ◌*◌, ◌≤◌, ◌++◌, List, [], ◌∷◌, length, true, refl, sym, ap, ◌∙◌, subst, arith, append_assoc, append-nil}
use Rattle.std.proofs.lemmas.List.{length-append}
use Rattle.fut_scalar.specs.declared.report.Report.{Report}
use Rattle.fut_meaning.specs.Outcomes.{Out, Val, Fail, exact, Tree, element, neutral, node, elements, neutrals, both, stops_left, stops_right, Bracket, bracket}
use Rattle.outcomes.specs.Trees.{Operator, Reduced, Carried, Carry_fails, Scanned, Scan_fails, all_of, beginnings}

module _ {A : Type 0} (op : Operator A) (ne : A) where
  pub one : (x : A) → Reduced op ne (x ∷ []) (Val x) 0
  one x = record { tree = element x; elements_are = refl; slim = omega arith; value = exact }

  slim_node : (s t : Tree A) → neutrals s ≤ length (elements s) → neutrals t ≤ length (elements t) → neutrals (node s t) ≤ length (elements (node s t))
  slim_node s t a b = let l = length-append (elements s) (elements t) in omega arith

  pub node_of : (xs ys : List A) (a b : A) (o : Out A) (f g h : ℕ) → Reduced op ne xs (Val a) f → Reduced op ne ys (Val b) g → op a b o h → Reduced op ne (xs ++ ys) o (f + g + h)
  node_of xs ys a b o f g h p q d = record {
    tree = node p.tree q.tree;
    elements_are = ap (λ l. l ++ elements q.tree) p.elements_are ∙ ap (λ l. xs ++ l) q.elements_are;
    slim = slim_node p.tree q.tree p.slim q.slim;
    value = both {a = a} {b = b} {o = o} {f = f} {g = g} {h = h} p.value q.value d;
  }

  -- a tree that fails, with elements behind it
  pub fails_before : (xs ys : List A) (r : Report) (f : ℕ) → Reduced op ne xs (Fail r) f → Reduced op ne (xs ++ ys) (Fail r) f
  fails_before xs [] r f p = subst (λ l. Reduced op ne l (Fail r) f) (sym (append-nil xs)) p
  fails_before xs (y ∷ ys) r f p =
      let more : Reduced op ne (xs ++ y ∷ []) (Fail r) f = record {
        tree = node p.tree (element y);
        elements_are = ap (λ l. l ++ y ∷ []) p.elements_are;
        slim = slim_node p.tree (element y) p.slim (omega arith);
        value = stops_left p.value;
      } in
      subst (λ l. Reduced op ne l (Fail r) f) (append_assoc xs (y ∷ []) ys) (fails_before (xs ++ y ∷ []) ys r f more)

  -- and before it
  pub fails_behind : (xs ys : List A) (r : Report) (f : ℕ) → Reduced op ne ys (Fail r) f → Reduced op ne (xs ++ ys) (Fail r) f
  fails_behind [] ys r f p = p
  fails_behind (x ∷ xs) ys r f p =
      let q = fails_behind xs ys r f p in
      record {
        tree = node (element x) q.tree;
        elements_are = ap (λ l. x ∷ l) q.elements_are;
        slim = slim_node (element x) q.tree (omega arith) q.slim;
        value = stops_right q.value;
      }

  -- such a tree is tight
  pub is_bracket : (xs : List A) (o : Out A) (f : ℕ) → Reduced op ne xs o f → Bracket true op ne xs o f
  is_bracket xs o f p = bracket p.tree p.elements_are (let s = p.slim in omega arith) p.value

  pub empty_bracket : Bracket true op ne [] (Val ne) 0
  empty_bracket = bracket neutral refl (omega arith) exact

  -- ---- scans

  pub scanned_length : (before xs zs : List A) (f : ℕ) → Scanned op ne before xs zs f → length zs ≡ length xs
  scanned_length before [] [] f h = refl
  scanned_length before [] (z ∷ zs) f h = absurd h
  scanned_length before (x ∷ xs) [] f h = absurd h
  scanned_length before (x ∷ xs) (z ∷ zs) f h = ap suc (scanned_length (before ++ x ∷ []) xs zs h.1 h.4)

  pub scanned_append : (before xs ys zs ws : List A) (f g : ℕ) → Scanned op ne before xs zs f → Scanned op ne (before ++ xs) ys ws g → Scanned op ne before (xs ++ ys) (zs ++ ws) (f + g)
  scanned_append before [] ys [] ws f g a b = let q : g ≡ f + g = let z = a in omega arith in subst (λ l. Scanned op ne l ys ws (f + g)) (append-nil before) (subst (λ n. Scanned op ne (before ++ []) ys ws n) q b)
  scanned_append before [] ys (z ∷ zs) ws f g a b = absurd a
  scanned_append before (x ∷ xs) ys [] ws f g a b = absurd a
  scanned_append before (x ∷ xs) ys (z ∷ zs) ws f g a b =
      let e = a.2 in (
        a.0,
        a.1 + g,
        omega arith,
        a.3,
        scanned_append (before ++ x ∷ []) xs ys zs ws a.1 g a.4 (subst (λ l. Scanned op ne l ys ws g) (sym (append_assoc before (x ∷ []) xs)) b),
      )

  -- a carry over all elements before: the count grows by those of the carry's tree for each element
  pub carried : (bs before xs zs ws : List A) (c : A) (f g h : ℕ) → Reduced op ne bs (Val c) g → Scanned op ne before xs zs f → Carried op c zs ws h → (n : ℕ) × (f + h + g * length xs ≤ n) × Scanned op ne (bs ++ before) xs ws n
  carried bs before [] [] [] c f g h r a b = (0, (let p = a in let q = b in omega arith), refl)
  carried bs before [] [] (w ∷ ws) c f g h r a b = absurd b
  carried bs before [] (z ∷ zs) ws c f g h r a b = absurd a
  carried bs before (x ∷ xs) [] ws c f g h r a b = absurd a
  carried bs before (x ∷ xs) (z ∷ zs) [] c f g h r a b = absurd b
  carried bs before (x ∷ xs) (z ∷ zs) (w ∷ ws) c f g h r a b =
      let more = carried bs (before ++ x ∷ []) xs zs ws c a.1 g b.1 r a.4 b.4 in
      let here = node_of bs (before ++ x ∷ []) c z (Val w) g a.0 b.0 r a.3 b.3 in
      let same = append_assoc bs before (x ∷ []) in
      let p = a.2 in
      let q = b.2 in
      let m = more.1 in
      let d : g * suc (length xs) ≡ g + g * length xs = grind arith in (
        g + a.0 + b.0 + more.0,
        omega arith,
        (
          g + a.0 + b.0,
          more.0,
          refl,
          subst (λ l. Reduced op ne l (Val w) (g + a.0 + b.0)) (sym same) here,
          subst (λ l. Scanned op ne l xs ws more.0) (sym same) more.2,
        ),
      )

  -- the last value is that of a tree over all
  pub scanned_last : (before xs front : List A) (z : A) (f : ℕ) → Scanned op ne before xs (front ++ z ∷ []) f → (b : ℕ) × (b ≤ f) × Reduced op ne (before ++ xs) (Val z) b
  scanned_last before [] [] z f h = absurd h
  scanned_last before [] (w ∷ front) z f h = absurd h
  scanned_last before (x ∷ []) [] z f h = let e = h.2 in (h.0, omega arith, h.3)
  scanned_last before (x ∷ (y ∷ xs)) [] z f h = absurd h.4
  scanned_last before (x ∷ xs) (w ∷ front) z f h =
      let q = scanned_last (before ++ x ∷ []) xs front z h.1 h.4 in
      let e = h.2 in
      let le = q.1 in
      (q.0, omega arith, subst (λ l. Reduced op ne l (Val z) q.0) (append_assoc before (x ∷ []) xs) q.2)

  -- it is a scan: a bracket of each beginning, chosen apart
  pub is_scan : (before xs zs : List A) (f : ℕ) → Scanned op ne before xs zs f → all_of (Bracket true op ne) (beginnings before xs) (Val zs) f
  is_scan before [] [] f h = subst (λ n. all_of (Bracket true op ne) [] (Val []) n) (sym h) exact
  is_scan before [] (z ∷ zs) f h = absurd h
  is_scan before (x ∷ xs) [] f h = absurd h
  is_scan before (x ∷ xs) (z ∷ zs) f h =
      let e = h.2 in
      let q : h.0 + h.1 + 0 ≡ f = omega arith in
      subst (λ n. all_of (Bracket true op ne) (beginnings before (x ∷ xs)) (Val (z ∷ zs)) n) q
      (both {a = z} {b = zs} {f = h.0} {g = h.1} {h = 0} (is_bracket (before ++ x ∷ []) (Val z) h.0 h.3) (is_scan (before ++ x ∷ []) xs zs h.1 h.4) exact)

  -- any beginning may fail
  pub scan_stops : (before front after : List A) (x : A) (r : Report) (f : ℕ) → Reduced op ne (before ++ (front ++ x ∷ [])) (Fail r) f → (n : ℕ) × all_of (Bracket true op ne) (beginnings before (front ++ x ∷ after)) (Fail r) n
  scan_stops before [] after x r f p = (f, stops_left (is_bracket (before ++ x ∷ []) (Fail r) f p))
  scan_stops before (y ∷ front) after x r f p =
      let q = scan_stops (before ++ y ∷ []) front after x r f (subst (λ l. Reduced op ne l (Fail r) f) (sym (append_assoc before (y ∷ []) (front ++ x ∷ []))) p) in
      (q.0, stops_right q.1)

  -- ---- failures of scans

  pub scan_fails_behind : (xs zs : List A) (r : Report) → Scan_fails op ne xs r → Scan_fails op ne (xs ++ zs) r
  scan_fails_behind xs zs r s = record { front = s.front; x = s.x; after = s.after ++ zs; parts = ap (λ l. l ++ zs) s.parts ∙ append_assoc s.front (s.x ∷ s.after) zs; count = s.count; fails = s.fails }

  pub scan_fails_before : (xs zs : List A) (r : Report) → Scan_fails op ne zs r → Scan_fails op ne (xs ++ zs) r
  scan_fails_before xs zs r s = record {
    front = xs ++ s.front;
    x = s.x;
    after = s.after;
    parts = ap (λ l. xs ++ l) s.parts ∙ sym (append_assoc xs s.front (s.x ∷ s.after));
    count = s.count;
    fails = subst (λ l. Reduced op ne l (Fail r) s.count) (sym (append_assoc xs s.front (s.x ∷ []))) (fails_behind xs (s.front ++ s.x ∷ []) r s.count s.fails);
  }

  -- the tree of one of the values
  record At (before xs : List A) (z : A) : Type 0 where
    front : List A
    x : A
    after : List A
    parts : xs ≡ front ++ x ∷ after
    count : ℕ
    tree : Reduced op ne (before ++ (front ++ x ∷ [])) (Val z) count

  scanned_at : (before xs zf za : List A) (z : A) (f : ℕ) → Scanned op ne before xs (zf ++ z ∷ za) f → At before xs z
  scanned_at before [] [] za z f h = absurd h
  scanned_at before [] (w ∷ zf) za z f h = absurd h
  scanned_at before (x ∷ xs) [] za z f h = record { front = []; x = x; after = xs; parts = refl; count = h.0; tree = h.3 }
  scanned_at before (x ∷ xs) (w ∷ zf) za z f h =
      let a = scanned_at (before ++ x ∷ []) xs zf za z h.1 h.4 in
      record { front = x ∷ a.front; x = a.x; after = a.after; parts = ap (λ l. x ∷ l) a.parts; count = a.count; tree = subst (λ l. Reduced op ne l (Val z) a.count) (append_assoc before (x ∷ []) (a.front ++ a.x ∷ [])) a.tree }

  -- the operator fails on the value of all elements before and one of a scan's values
  pub carry_breaks : (ys zs vs : List A) (c : A) (r : Report) (t f : ℕ) → Reduced op ne ys (Val c) t → Scanned op ne [] zs vs f → Carry_fails op c vs r → Scan_fails op ne (ys ++ zs) r
  carry_breaks ys zs vs c r t f p q d =
      let s = scanned_at [] zs d.front d.after d.z f (subst (λ i. Scanned op ne [] zs i f) d.parts q) in
      let n = t + s.count + d.count in
      let whole = node_of ys (s.front ++ s.x ∷ []) c d.z (Fail r) t s.count d.count p s.tree d.fails in
      record {
        front = ys ++ s.front;
        x = s.x;
        after = s.after;
        parts = ap (λ i. ys ++ i) s.parts ∙ sym (append_assoc ys s.front (s.x ∷ s.after));
        count = n;
        fails = subst (λ i. Reduced op ne i (Fail r) n) (sym (append_assoc ys s.front (s.x ∷ []))) whole;
      }
