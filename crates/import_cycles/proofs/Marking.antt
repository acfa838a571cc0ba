-- What is marked and what is still to be looked at, on the way along imports.
use Rattle.std.proofs.Common.{◌≡◌, ℕ, zero, suc, ◌+◌, ◌<◌, ◌⊎◌, inl, inr, Bool, true, false, cond, List, [], ◌∷◌, ◌++◌, length, get_or, set, refl, sym, ap, subst, ◌∙◌, arith}
use Rattle.std.specs.Borrow.{Bor}
use Rattle.std.proofs.lemmas.List.{get_or-set_same, get_or-set_other, length-append, length-set}
use Rattle.file_order.specs.Order.{Among, first, later}
use Rattle.import_cycles.specs.Graphs.{Rows, row_at, Within, Leads_in, at_once, later_on, Marked}

-- ---- numbers among others

among_left : (k : ℕ) (xs ys : List ℕ) → Among k xs → Among k (xs ++ ys)
among_left k [] ys a = elim a [ ]
among_left k (x ∷ xs) ys first = first
among_left k (x ∷ xs) ys (later m) = later (among_left k xs ys m)

among_right : (k : ℕ) (xs ys : List ℕ) → Among k ys → Among k (xs ++ ys)
among_right k [] ys m = m
among_right k (x ∷ xs) ys m = later (among_right k xs ys m)

sooner : {k x : ℕ} {xs : List ℕ} {A : Type 0} → Among k xs ⊎ A → Among k (x ∷ xs) ⊎ A
sooner (inl m) = inl (later m)
sooner (inr a) = inr a

among_either : (k : ℕ) (xs ys : List ℕ) → Among k (xs ++ ys) → Among k xs ⊎ Among k ys
among_either k [] ys m = inr m
among_either k (x ∷ xs) ys first = inl first
among_either k (x ∷ xs) ys (later m) = sooner (among_either k xs ys m)

among_one : (k x : ℕ) → Among k (x ∷ []) → k ≡ x
among_one k x first = refl
among_one k x (later a) = elim a [ ]

among_none : (k : ℕ) → Among k [] → ⊥
among_none k a = elim a [ ]

-- ---- marks

is_same : (k x : ℕ) → (k ≡ x) ⊎ (k ≡ x → ⊥)
is_same zero zero = inl refl
is_same zero (suc x) = inr (λ e. omega (arith, e))
is_same (suc k) zero = inr (λ e. omega (arith, e))
is_same (suc k) (suc x) = lifted (is_same k x)
  where
    lifted : (k ≡ x) ⊎ (k ≡ x → ⊥) → (suc k ≡ suc x) ⊎ (suc k ≡ suc x → ⊥)
    lifted (inl e) = inl (ap suc e)
    lifted (inr n) = inr (λ e. n (omega (arith, e)))

-- ---- what is known on the way

pub record Marks (rs : Rows) (from : ℕ) (seen : List Bool) (pending : List ℕ) : Type 0 where
  pub size : length seen ≡ length rs
  pub leads : (k : ℕ) → Marked seen k → Leads_in rs k from
  pub will_lead : (k : ℕ) → Among k pending → Leads_in rs k from
  pub begins : (k : ℕ) → Among k (row_at rs from) → Marked seen k ⊎ Among k pending
  pub goes_on : (j k : ℕ) → Marked seen j → Among k (row_at rs j) → Marked seen k ⊎ Among k pending

pub marks_begin : (rs : Rows) (from : ℕ) (seen : List Bool) (pending : List ℕ) → length seen ≡ length rs → ((k : ℕ) → Marked seen k → ⊥) → pending ≡ row_at rs from → Marks rs from seen pending
marks_begin rs from seen pending size none e = record {
  size = size;
  leads = λ k m. absurd (none k m);
  will_lead = λ k m. at_once (subst (Among k) e m);
  begins = λ k m. inr (subst (Among k) (sym e) m);
  goes_on = λ j k m. absurd (none j m);
}

-- what leads on leads there
led_on : (rs : Rows) (k j from : ℕ) → Leads_in rs j from → Among k (row_at rs j) → Leads_in rs k from
led_on rs k j from (at_once m) a = later_on m (at_once a)
led_on rs k j from (later_on {j = i} m l) a = later_on m (led_on rs k j i l a)

module _ (rs : Rows) (from : ℕ) (seen : List Bool) (pending before : List ℕ) (x : ℕ) (is : pending ≡ before ++ x ∷ []) (m : Marks rs from seen pending) where
  one_less : (k : ℕ) → Among k before → Among k pending
  one_less k a = subst (Among k) (sym is) (among_left k before (x ∷ []) a)

  the_last : Among x pending
  the_last = subst (Among x) (sym is) (among_right x before (x ∷ []) first)

  split : (k : ℕ) → Among k pending → Among k before ⊎ (k ≡ x)
  split k a = by_side (among_either k before (x ∷ []) (subst (Among k) is a))
    where
      by_side : Among k before ⊎ Among k (x ∷ []) → Among k before ⊎ (k ≡ x)
      by_side (inl b) = inl b
      by_side (inr o) = inr (among_one k x o)

  -- it was marked before
  pub marked_before : Marked seen x → Marks rs from seen before
  marked_before was = record {
    size = m.size;
    leads = m.leads;
    will_lead = λ k a. m.will_lead k (one_less k a);
    begins = λ k a. still k (m.begins k a);
    goes_on = λ j k s a. still k (m.goes_on j k s a);
  }
    where
      now_marked : (k : ℕ) → Among k before ⊎ (k ≡ x) → Marked seen k ⊎ Among k before
      now_marked k (inl b) = inr b
      now_marked k (inr e) = inl (subst (Marked seen) (sym e) was)

      still : (k : ℕ) → Marked seen k ⊎ Among k pending → Marked seen k ⊎ Among k before
      still k (inl s) = inl s
      still k (inr a) = now_marked k (split k a)

  -- it is marked now, and what it imports is to be looked at
  pub marked_now : (row after : List ℕ) → x < length seen → row ≡ row_at rs x → after ≡ before ++ row → Marks rs from (set seen x true) after
  marked_now row after lt e is_after = record {
    size = length-set seen x true ∙ m.size;
    leads = λ k s. led k (is_same k x) s;
    will_lead = λ k a. to_lead k (among_either k before row (subst (Among k) is_after a));
    begins = λ k a. still k (m.begins k a);
    goes_on = λ j k s a. from_mark j k (is_same j x) s a;
  }
    where
      marked_x : (k : ℕ) → k ≡ x → Marked (set seen x true) k
      marked_x k i = subst (Marked (set seen x true)) (sym i) (get_or-set_same seen x true false lt)

      kept : (k : ℕ) → (k ≡ x → ⊥) → get_or (set seen x true) k false ≡ get_or seen k false
      kept k n = get_or-set_other seen x k true false n

      led : (k : ℕ) → (k ≡ x) ⊎ (k ≡ x → ⊥) → Marked (set seen x true) k → Leads_in rs k from
      led k (inl i) s = m.will_lead k (subst (λ z. Among z pending) (sym i) the_last)
      led k (inr n) s = m.leads k (sym (kept k n) ∙ s)

      to_lead : (k : ℕ) → Among k before ⊎ Among k row → Leads_in rs k from
      to_lead k (inl b) = m.will_lead k (one_less k b)
      to_lead k (inr r) = led_on rs k x from (m.will_lead x the_last) (subst (Among k) e r)

      was_marked : (k : ℕ) → Marked seen k → (k ≡ x) ⊎ (k ≡ x → ⊥) → Marked (set seen x true) k
      was_marked k s (inl i) = marked_x k i
      was_marked k s (inr n) = kept k n ∙ s

      to_come : (k : ℕ) → Among k before ⊎ (k ≡ x) → Marked (set seen x true) k ⊎ Among k after
      to_come k (inl b) = inr (subst (Among k) (sym is_after) (among_left k before row b))
      to_come k (inr i) = inl (marked_x k i)

      still : (k : ℕ) → Marked seen k ⊎ Among k pending → Marked (set seen x true) k ⊎ Among k after
      still k (inl s) = inl (was_marked k s (is_same k x))
      still k (inr a) = to_come k (split k a)

      from_mark : (j k : ℕ) → (j ≡ x) ⊎ (j ≡ x → ⊥) → Marked (set seen x true) j → Among k (row_at rs j) → Marked (set seen x true) k ⊎ Among k after
      from_mark j k (inl i) s a = inr (subst (Among k) (sym is_after) (among_right k before row (subst (Among k) (ap (row_at rs) i ∙ sym e) a)))
      from_mark j k (inr n) s a = still k (m.goes_on j k (sym (kept j n) ∙ s) a)

-- ---- at the end all is marked to which the file leads

module _ (rs : Rows) (from : ℕ) (seen : List Bool) (m : Marks rs from seen []) where
  no_more : (k : ℕ) → Marked seen k ⊎ Among k [] → Marked seen k
  no_more k (inl s) = s
  no_more k (inr a) = absurd (among_none k a)

  led_from_marked : (k j : ℕ) → Marked seen j → Leads_in rs k j → Marked seen k
  led_from_marked k j s (at_once a) = no_more k (m.goes_on j k s a)
  led_from_marked k j s (later_on {j = i} a l) = led_from_marked k i (no_more i (m.goes_on j i s a)) l

  pub all_marked : (k : ℕ) → Leads_in rs k from → Marked seen k
  all_marked k (at_once a) = no_more k (m.begins k a)
  all_marked k (later_on {j = i} a l) = led_from_marked k i (no_more i (m.begins i a)) l

-- ---- how much may still come: what files import that are not marked

unfoldable pub edges_left : Rows → List Bool → ℕ
edges_left [] seen = 0
edges_left (r ∷ rs) [] = 0
edges_left (r ∷ rs) (b ∷ bs) = cond b 0 (length r.now) + edges_left rs bs

pub edges_taken : (rs : Rows) (seen : List Bool) (x : ℕ) → x < length seen → length seen ≡ length rs → get_or seen x false ≡ false → edges_left rs (set seen x true) + length (row_at rs x) ≡ edges_left rs seen
unfolding edges_left row_at
edges_taken [] [] x lt e f = absurd (omega (arith, lt))
edges_taken [] (b ∷ bs) x lt e f = absurd (omega (arith, e))
edges_taken (r ∷ rs) [] x lt e f = absurd (omega (arith, lt))
edges_taken (r ∷ rs) (b ∷ bs) zero lt e f = omega (arith, ap (λ t. cond t 0 (length r.now)) f)
edges_taken (r ∷ rs) (b ∷ bs) (suc x) lt e f = omega (arith, edges_taken rs bs x (omega (arith, lt)) (omega (arith, e)) f)

-- ---- numbers of files, and their rows

pub within_files : (rs : Rows) (k j : ℕ) → Within rs → Leads_in rs k j → k < length rs
within_files rs k j w (at_once a) = w j k a
within_files rs k j w (later_on {j = i} a l) = within_files rs k i w l

pub the_row : (rs : Rows) (i : ℕ) (d : Bor (List ℕ)) → i < length rs → (get_or rs i d).now ≡ row_at rs i
unfolding row_at
the_row [] i d lt = absurd (omega (arith, lt))
the_row (r ∷ rs) zero d lt = refl
the_row (r ∷ rs) (suc i) d lt = the_row rs i d (omega (arith, lt))

pub last_leads : (rs : Rows) (from x : ℕ) (seen : List Bool) (pending before : List ℕ) → pending ≡ before ++ x ∷ [] → Marks rs from seen pending → Leads_in rs x from
last_leads rs from x seen pending before is m = m.will_lead x (subst (Among x) (sym is) (among_right x before (x ∷ []) first))

pub fewer : (rs : Rows) (seen new : List Bool) (x : ℕ) (pending before row after : List ℕ) → pending ≡ before ++ x ∷ [] → after ≡ before ++ row → row ≡ row_at rs x → new ≡ set seen x true
    → x < length seen → length seen ≡ length rs → get_or seen x false ≡ false → edges_left rs new + length after < edges_left rs seen + length pending
fewer rs seen new x pending before row after p a r n lt size off =
    let taken = edges_taken rs seen x lt size off in
    let longer = ap length a ∙ length-append before row in
    let was = ap length p ∙ length-append before (x ∷ []) in
    omega (arith, taken, longer, was, ap length r, ap (edges_left rs) n)

pub behind_none : {a b x : List ℕ} → a ≡ b ++ x → b ≡ [] → a ≡ x
behind_none {x = x} e f = e ∙ ap (λ l. l ++ x) f
