-- The definitions that are reached, from the last one to the first.
use Rattle.std.proofs.Common.{◌≡◌, ℕ, ◌+◌, ◌-◌, ◌<◌, ◌≤◌, ◌≢◌, ◌||◌, ◌&&◌, List, [], ◌∷◌, map, length, get_or, set, drop, replicate, Bool, true, false, nat_eq, Option, refl, sym, ap, ◌∙◌, subst, arith}
use Rattle.std.proofs.lemmas.Bool.{eqb-true, eqb-false}
use Rattle.std.proofs.lemmas.List.{length-set, get_or-set_same, get_or-set_other, get_or-replicate, get_or_default}
use Rattle.std.specs.Borrow.{Bor}
use Rattle.fut_scalar.specs.declared.place.BindId.{BindId}
use Rattle.fut_flat.specs.declared.program.Definition.{Definition}
use Rattle.fut_flat.specs.Numbers.{numbers}
use Rattle.fut_flat.specs.Erased.{term_of}
use Rattle.fut_meaning.specs.Flats.{flat_tops, is_flat_use}
use Rattle.fut_meaning.specs.Found.{Sizing}
use Rattle.fut_meaning.specs.Programs.{sizes_name, is_reached}
use Rattle.told_rows.specs.declared.tables.Sizes.{Sizes}
use Rattle.told_rows.specs.Tables.{Told_by}
use Rattle.unfold_reach.specs.declared.spans.Span.{Span}
use Rattle.unfold_reach.specs.Reach.{is_set, uses, told_uses, Named_more, named_more, Noted, noted, Noted_definition, noted_definition, name_at, named_term, Spans, spans_are, Below, below, Reached, reached}
use Rattle.unfold_reach.proofs.Lists.{drop_end}
use Rattle.unfold_reach.proofs.Reaching.{equal_turned, noted_nothing, noted_then}
use Rattle.unfold_reach.proofs.SizeForms.{told_names}
use Rattle.unfold_reach.proofs.Tops.{name_more, tops_more}

-- ---- one definition

module _ (o : Option (Bor Sizes)) (s : Span) (d : Definition) (old : List Bool) where
  pub definition_noted : {c : Bool} (mid new : List Bool) → c ≡ true → c ≡ is_set old d.bind.0 → Noted (uses (term_of d.value.now)) old mid → Noted (told_uses o s.first (s.end - s.first)) mid new → Noted_definition o s d old new true
  definition_noted mid new e is h h' = noted_definition (sym e ∙ is) (both (noted_then h h'))
    where
      both : Noted (λ bs k. uses (term_of d.value.now) bs k || told_uses o s.first (s.end - s.first) bs k) old new → Noted (λ bs k. true && (uses (term_of d.value.now) bs k || told_uses o s.first (s.end - s.first) bs k)) old new
      both (noted m f) = noted m f

  pub definition_other : {c : Bool} → c ≡ false → c ≡ is_set old d.bind.0 → Noted_definition o s d old old false
  definition_other e is = noted_definition (sym e ∙ is) (noted_nothing (λ bs k. refl))

-- ---- one definition after the other

-- whether the entry reaches a definition through those from one on
abbrev pub reaches : Option Sizing → ℕ → List Definition → ℕ → ℕ → Bool
reaches z entry ds i k = is_reached is_flat_use z entry (drop i (flat_tops 0 (map named_term ds))) k

-- the definitions from one on are marked, and what they name
pub data Marked (z : Option Sizing) (entry : ℕ) (ds : List Definition) (named flags : List Bool) (at : ℕ) : Type 0 where
  marked : Below (length named) ds → length flags ≡ length ds → ((k : ℕ) → k < length named → is_set named k ≡ reaches z entry ds at k) → ((i : ℕ) (d : Definition) → at ≤ i → i < length ds → is_set flags i ≡ reaches z entry ds (i + 1) (get_or ds i d).bind.0) → Marked z entry ds named flags at

nothing_set : (named : List Bool) (k : ℕ) → named ≡ replicate (length named) false → k < length named → is_set named k ≡ false
nothing_set named k e lt = ap (λ z. is_set z k) e ∙ get_or-replicate (length named) k false false lt

entry_alone : (m n : ℕ) (o : Bool) → o ≡ false → (nat_eq m n || o) ≡ nat_eq n m
entry_alone m n o e = ap (λ z. nat_eq m n || z) e ∙ alone (nat_eq m n) ∙ equal_turned m n
  where
    alone : (c : Bool) → (c || false) ≡ c
    alone true = refl
    alone false = refl

length_tops : (lo : ℕ) (ds : List Definition) → length (flat_tops lo (map named_term ds)) ≡ length ds
unfolding flat_tops
length_tops lo [] = refl
length_tops lo (d ∷ ds) = let e = length_tops (lo + (1 + numbers (term_of d.value.now))) ds in omega (arith, e)

module _ (z : Option Sizing) (entry : BindId) (ds : List Definition) where
  pub marked_start : (old named flags : List Bool) (at : ℕ) → Below (length old) ds → old ≡ replicate (length old) false → Named_more entry old named → length flags ≡ length ds → length ds ≤ at → Marked z entry.0 ds named flags at
  marked_start old named flags at b none (named_more m f) len le = marked (subst (λ z. Below z ds) (sym m) b) len first (λ i d le' lt. absurd (omega (arith, le, le', lt)))
    where
      first : (k : ℕ) → k < length named → is_set named k ≡ reaches z entry.0 ds at k
      first k lt =
          f k (subst (λ z. k < z) m lt)
          ∙ entry_alone entry.0 k (is_set old k) (nothing_set old k none (subst (λ z. k < z) m lt))
          ∙ sym (ap (λ ts. is_reached is_flat_use z entry.0 ts k) (drop_end at (flat_tops 0 (map named_term ds)) (let e = length_tops 0 ds in omega (arith, e, le))))

  module _ (o : Option (Bor Sizes)) (spans : List Span) (told : Told_by o z) (numbered : Spans ds spans) where
    -- what the nodes of a definition's term name as sizes
    named_as_sizes : (i : ℕ) (s : Span) (d : Definition) (k : ℕ) → i < length ds → told_uses o (get_or spans i s).first ((get_or spans i s).end - (get_or spans i s).first) [] k ≡ sizes_name z k (1 + name_at 0 ds i) (numbers (term_of (get_or ds i d).value.now))
    named_as_sizes i s d k lt = by numbered
      where
        by : Spans ds spans → told_uses o (get_or spans i s).first ((get_or spans i s).end - (get_or spans i s).first) [] k ≡ sizes_name z k (1 + name_at 0 ds i) (numbers (term_of (get_or ds i d).value.now))
        by (spans_are f) = told_names o z told k (get_or spans i s).first ((get_or spans i s).end - (get_or spans i s).first) ∙ ap (λ n. sizes_name z k n ((get_or spans i s).end - (get_or spans i s).first)) (f i s lt).0 ∙ ap (sizes_name z k (1 + name_at 0 ds i)) count
          where
            count : (get_or spans i s).end - (get_or spans i s).first ≡ numbers (term_of (get_or ds i d).value.now)
            count = let a = (f i s lt).0 in let b = (f i s lt).1 in let m = name_more 0 ds i d lt in omega (arith, a, b, m)

    module _ (named flags named' : List Bool) (i : ℕ) (r : Bool) (d : Definition) (s : Span) (lt : i < length ds) where
      marked_one : Marked z entry.0 ds named flags (i + 1) → Noted_definition o (get_or spans i s) (get_or ds i d) named named' r → Marked z entry.0 ds named' (set flags i r) i
      marked_one (marked (below b) len n f) (noted_definition is (noted m g)) = marked (subst (λ z. Below z ds) (sym m) (below b)) (length-set flags i r ∙ len) named_now flags_now
        where
          inside : i < length flags
          inside = subst (λ z. i < z) (sym len) lt

          own : r ≡ reaches z entry.0 ds (i + 1) (get_or ds i d).bind.0
          own = is ∙ n (get_or ds i d).bind.0 (b i d lt)

          named_now : (k : ℕ) → k < length named' → is_set named' k ≡ reaches z entry.0 ds i k
          named_now k lt' =
              let lt'' = subst (λ z. k < z) m lt' in
              let t = term_of (get_or ds i d).value.now in
              let told_here = told_uses o (get_or spans i s).first ((get_or spans i s).end - (get_or spans i s).first) [] k in
              g [] k lt''
              ∙ ap (λ z. (r && (uses t [] k || told_here)) || z) (n k lt'')
              ∙ ap (λ c. (r && (uses t [] k || c)) || reaches z entry.0 ds (i + 1) k) (named_as_sizes i s d k lt)
              ∙ ap (λ c. (c && (uses t [] k || sizes_name z k (1 + name_at 0 ds i) (numbers t))) || reaches z entry.0 ds (i + 1) k) own
              ∙ sym (ap (λ ts. is_reached is_flat_use z entry.0 ts k) (tops_more ds i d lt))

          flags_now : (j : ℕ) (x : Definition) → i ≤ j → j < length ds → is_set (set flags i r) j ≡ reaches z entry.0 ds (j + 1) (get_or ds j x).bind.0
          flags_now j x le lt' = at (nat_eq i j) refl
            where
              at : (c : Bool) → nat_eq i j ≡ c → is_set (set flags i r) j ≡ reaches z entry.0 ds (j + 1) (get_or ds j x).bind.0
              at true q = subst (λ n. is_set (set flags i r) n ≡ reaches z entry.0 ds (n + 1) (get_or ds n x).bind.0) (eqb-true i j q) (get_or-set_same flags i r false inside ∙ own ∙ ap (λ (e : Definition). reaches z entry.0 ds (i + 1) e.bind.0) (get_or_default ds i d x lt))
              at false q = get_or-set_other flags i j r false (λ e. eqb-false i j q (sym e)) ∙ f j x (let ne : i ≢ j = eqb-false i j q in omega (arith, le, ne)) lt'

    pub marked_more : (named flags named' : List Bool) (at : ℕ) (r : Bool) (d : Definition) (s : Span) → 0 < at → at ≤ length ds → Marked z entry.0 ds named flags at → Noted_definition o (get_or spans (at - 1) s) (get_or ds (at - 1) d) named named' r → Marked z entry.0 ds named' (set flags (at - 1) r) (at - 1)
    marked_more named flags named' at r d s lt le h k = marked_one named flags named' (at - 1) r d s (omega (arith, lt, le)) (subst (λ n. Marked z entry.0 ds named flags n) (omega (arith, lt)) h) k

  pub marked_done : (named flags : List Bool) (at : ℕ) → at ≤ 0 → Marked z entry.0 ds named flags at → Reached z entry.0 ds flags
  marked_done named flags at le (marked b len n f) = reached len (λ i d lt. f i d (omega (arith, le)) lt)

-- ---- a number above those of all definitions

-- so far
pub data Below_so_far (n : ℕ) (ds : List Definition) (i : ℕ) : Type 0 where
  so_far : ((j : ℕ) (d : Definition) → j < i → j < length ds → (get_or ds j d).bind.0 < n) → Below_so_far n ds i

module _ (ds : List Definition) where
  pub below_start : Below_so_far 0 ds 0
  below_start = so_far (λ j d lt lt'. absurd (omega (arith, lt)))

  pub below_more : (n i : ℕ) (d : Definition) (n' : ℕ) → i < length ds → Below_so_far n ds i → n ≤ n' → (get_or ds i d).bind.0 < n' → Below_so_far n' ds (i + 1)
  below_more n i d n' lt (so_far f) le h = so_far (λ j x lt' lt''. at j x lt' lt'' (nat_eq i j) refl)
    where
      at : (j : ℕ) (x : Definition) → j < i + 1 → j < length ds → (c : Bool) → nat_eq i j ≡ c → (get_or ds j x).bind.0 < n'
      at j x lt' lt'' true q = subst (λ z. (get_or ds z x).bind.0 < n') (eqb-true i j q) (subst (λ (z : Definition). z.bind.0 < n') (get_or_default ds i d x lt) h)
      at j x lt' lt'' false q = let ne : i ≢ j = eqb-false i j q in let y = f j x (omega (arith, lt', ne)) lt'' in omega (arith, y, le)

  pub below_done : (n i : ℕ) → length ds ≤ i → Below_so_far n ds i → Below n ds
  below_done n i le (so_far f) = below (λ j d lt. f j d (omega (arith, lt, le)) lt)
