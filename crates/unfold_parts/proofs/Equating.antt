-- Comparisons, one part after the other.
use Rattle.std.proofs.Common.{◌≡◌, ℕ, suc, arith, ◌+◌, ◌<◌, ◌≤◌, ◌++◌, List, [], ◌∷◌, map, length, get_or, drop, Bool, true, Option, Some, None, Ok, Err, sym, ap, ◌∙◌, subst, append_assoc, append-nil, le_refl}
use Rattle.std.specs.Borrow.{Bor}
use Rattle.std.specs.Prelude.{Result}
use Rattle.std.proofs.lemmas.List.{drop_all, length-map}
use Rattle.fut_scalar.specs.declared.operator.BinOp.TheVariants as binary
use Rattle.fut_scalar.specs.declared.place.Place.{Place}
use Rattle.fut_scalar.specs.declared.scalar.Scalar.TheVariants as scalar
use Rattle.fut_blocks.specs.declared.block.Atom.{Atom}
use Rattle.fut_blocks.specs.declared.block.Atom.TheVariants as atom
use Rattle.fut_blocks.specs.declared.block.Operation.TheVariants as operation
use Rattle.fut_blocks.specs.Plain.{Action, Operate}
use Rattle.unfold.proofs.Mirror.{known_tuple, known_record}
use Rattle.unfold.specs.Held.{known_of, field_of, fields_known}
use Rattle.unfold.specs.Knowns.{Known, Tuple_known, Record_known, knowns}
use Rattle.unfold.specs.Unfolding.{Bindings, step, both_hold, field_knowns, Equals, e_packed, e_tuples, e_records, All_equal, e_none, e_more, p_none, p_more}
use Rattle.unfold.specs.declared.known.Field.{Field}
use Rattle.unfold.specs.declared.known.Known.{Known as Held_known}
use Rattle.unfold.specs.declared.known.KnownForm.TheVariants as form
use Rattle.unfold_parts.specs.Answers.{Answered, answered, unanswered, Computed, computed, not_computed, Packed_to, Equal_to, All_equal_to, Whole_equal_to, Have_parts, have_parts, have_fields, Paired_to, paired_to, no_pair, not_paired, Tuples_paired, tuples_paired, no_tuples_paired, Records_paired, records_paired, no_records_paired, not_records_paired, All_compared, none_compared, one_compared, All_hold, none_fails, one_holds, Names_told}
use Rattle.unfold_parts.specs.Refused.{lost, no_memory, Not_compared, Not_all_compared}
use Rattle.unfold_parts.specs.declared.refusal.Refusal.{Refusal}
use Rattle.unfold_parts.specs.declared.refusal.Refusal.TheVariants.{Lost, Memory}
use Rattle.unfold_parts.specs.declared.equality.Pair.{Pair}
use Rattle.unfold_parts.proofs.Lists.{one_more, one_mapped}
use Rattle.unfold_parts.proofs.Operands.{whole_uncompared, parts_uncompared, many_uncompared, part_uncompared}
use Rattle.unfold_parts.proofs.Packs.{first_unpacked, rest_unpacked}
use Rattle.unfold_parts.proofs.Pairing.{names_same, records_compared, records_uncompared}
use Rattle.unfold_parts.proofs.Refusing.{refused_as, answered_as}

-- ---- comparisons, and that all of them hold

grouped : (bs cs ds es : Bindings) → bs ++ ((cs ++ ds) ++ es) ≡ (bs ++ cs) ++ (ds ++ es)
grouped bs cs ds es = ap (λ z. bs ++ z) (append_assoc cs ds es) ∙ sym (append_assoc bs cs (ds ++ es))

module _ (at : Place) where
  all_equal : {ss ts : List Known} {n n1 n2 : ℕ} {bs cs : Bindings} {us : List Atom} {w : Atom} → All_compared at ss ts n bs us n1 → All_hold us n1 cs w n2 → All_equal at (knowns ss) (knowns ts) n (bs ++ cs) w n2
  all_equal none_compared none_fails = e_none
  all_equal (one_compared {s} {t} {ss} {ts} {n} {n1} {n2} {bs} {cs} {u} h hs) (one_holds {w = w} {n1 = m} {bs = ds} k) = subst (λ z. All_equal at (knowns (s ∷ ss)) (knowns (t ∷ ts)) n z (atom.Name m) (suc m)) (grouped bs cs ds (step (m ∷ []) (both_hold u w))) (e_more h (all_equal hs k) (le_refl m))

-- ---- both have parts, or are compared as whole data

pub pairs_equal : (at : Place) (s t : Known) (p : Pair) (n next : ℕ) (before after : Bindings) (r : Result Atom Refusal) (o : Option Pair) → Paired_to s t (Ok o) → o ≡ Some p → All_equal_to at (knowns (map known_of p.lefts.now)) (knowns (map known_of p.rights.now)) n before after next r → Equal_to at s t n before after next r
pairs_equal at s t p n next before after r _ (paired_to {p = q} h) e x = by_parts h (subst (λ (z : Pair). All_equal_to at (knowns (map known_of z.lefts.now)) (knowns (map known_of z.rights.now)) n before after next r) (let i : Some q ≡ Some p = e in let j : q ≡ p = cc in sym j) x)
  where
    by_parts : {s t : Known} {ss ts : List Known} → Have_parts s t ss ts → All_equal_to at (knowns ss) (knowns ts) n before after next r → Equal_to at s t n before after next r
    by_parts (have_parts {ss = ss} {ts = ts} e) x = answered_as (λ bs u m y. e_tuples y) (parts_uncompared at ss ts e) x
    by_parts (have_fields {fs = fs} {gs = gs} same) x = answered_as (λ bs u m y. e_records (records_compared at fs gs same n m bs u y)) (records_uncompared at fs gs same) x
pairs_equal at s t p n next before after r _ no_pair e x = absurd (let i : None ≡ Some p = e in cc)

pub unpaired : (at : Place) (s t : Known) (n next : ℕ) (before after : Bindings) (x : Refusal) → Paired_to s t (Err x) → Equal_to at s t n before after next (Err x)
unpaired at s t n next before after _ not_paired = unanswered no_memory

module _ (at : Place) (s t : Known) (n : ℕ) (before : Bindings) where
  pub whole_is : (next : ℕ) (after : Bindings) (r : Result Atom Refusal) → Whole_equal_to at s t n before after next r → Equal_to at s t n before after next r
  whole_is next after r h = answered_as (λ bs u m y. y) (whole_uncompared at s t) h

  pub whole_ok : (mid later next : ℕ) (between behind after : Bindings) (u w : Atom) (r : Result Atom Refusal) → Packed_to s n before between mid (Ok u) → Packed_to t mid between behind later (Ok w) → Computed (Operate (operation.Binary binary.Eq at u w)) later behind after next r → Whole_equal_to at s t n before after next r
  whole_ok mid later next between behind after u w _ (answered bs e p) (answered cs f q) (computed g i) =
      answered ((bs ++ (cs ++ [])) ++ step (later ∷ []) (Operate (operation.Binary binary.Eq at u w)))
      (g ∙ ap (λ z. z ++ step (later ∷ []) (Operate (operation.Binary binary.Eq at u w))) (f ∙ ap (λ z. z ++ cs) e ∙ append_assoc before bs cs ∙ ap (λ z. before ++ (bs ++ z)) (sym (append-nil cs))) ∙ append_assoc before (bs ++ (cs ++ [])) (step (later ∷ []) (Operate (operation.Binary binary.Eq at u w))))
      (subst (λ z. Equals at s t n ((bs ++ (cs ++ [])) ++ step (later ∷ []) (Operate (operation.Binary binary.Eq at u w))) (atom.Name later) z) (sym i) (e_packed (p_more p (p_more q p_none)) (le_refl later)))
  whole_ok mid later next between behind after u w _ h k not_computed = unanswered no_memory

  pub first_err : (mid next : ℕ) (between after : Bindings) (x : Refusal) → Packed_to s n before between mid (Err x) → Whole_equal_to at s t n before after next (Err x)
  first_err mid next between after x (unanswered h) = unanswered (refused_as (first_unpacked s (t ∷ [])) h)

  pub second_err : (mid later next : ℕ) (between behind after : Bindings) (x : Refusal) → Packed_to t mid between behind later (Err x) → Whole_equal_to at s t n before after next (Err x)
  second_err mid later next between behind after x (unanswered h) = unanswered (refused_as (λ lacks. rest_unpacked s (t ∷ []) (first_unpacked t [] lacks)) h)

-- ---- the parts of both

module _ (l r : Held_known) where
  pub paired_tuples : (ls rs : Bor (List Held_known)) (o : Option Pair) → l.form ≡ form.Tuple ls → r.form ≡ form.Tuple rs → Tuples_paired (map known_of ls.now) (map known_of rs.now) o → Paired_to (known_of l) (known_of r) (Ok o)
  paired_tuples ls rs o i j h = subst (λ z. Paired_to z (known_of r) (Ok o)) (sym (known_tuple l ls i)) (subst (λ z. Paired_to (Tuple_known (knowns (map known_of ls.now))) z (Ok o)) (sym (known_tuple r rs j)) (by_pair o h))
    where
      by_pair : (o : Option Pair) → Tuples_paired (map known_of ls.now) (map known_of rs.now) o → Paired_to (Tuple_known (knowns (map known_of ls.now))) (Tuple_known (knowns (map known_of rs.now))) (Ok o)
      by_pair _ (tuples_paired {p = p} e f q) = paired_to (subst (λ z. Have_parts (Tuple_known (knowns (map known_of ls.now))) (Tuple_known (knowns (map known_of rs.now))) z (map known_of p.rights.now)) (sym e) (subst (λ z. Have_parts (Tuple_known (knowns (map known_of ls.now))) (Tuple_known (knowns (map known_of rs.now))) (map known_of ls.now) z) (sym f) (have_parts q)))
      by_pair _ no_tuples_paired = no_pair

  pub paired_records : (ls rs : Bor (List Field)) (o : Result (Option Pair) Refusal) → l.form ≡ form.Record ls → r.form ≡ form.Record rs → Records_paired (map field_of ls.now) (map field_of rs.now) o → Paired_to (known_of l) (known_of r) o
  paired_records ls rs o i j h = subst (λ z. Paired_to z (known_of r) o) (sym (known_record l ls i)) (subst (λ z. Paired_to (Record_known (fields_known (map field_of ls.now))) z o) (sym (known_record r rs j)) (by_pair o h))
    where
      by_pair : (o : Result (Option Pair) Refusal) → Records_paired (map field_of ls.now) (map field_of rs.now) o → Paired_to (Record_known (fields_known (map field_of ls.now))) (Record_known (fields_known (map field_of rs.now))) o
      by_pair _ (records_paired {p = p} e f q) = paired_to (subst (λ z. Have_parts (Record_known (fields_known (map field_of ls.now))) (Record_known (fields_known (map field_of rs.now))) z (map known_of p.rights.now)) (sym e) (subst (λ z. Have_parts (Record_known (fields_known (map field_of ls.now))) (Record_known (fields_known (map field_of rs.now))) (field_knowns (fields_known (map field_of ls.now))) z) (sym f) (have_fields q)))
      by_pair _ no_records_paired = no_pair
      by_pair _ not_records_paired = not_paired

pub pair_tuples : (ls rs : List Held_known) (p : Pair) → p.lefts.now ≡ ls → p.rights.now ≡ rs → length ls ≡ length rs → Tuples_paired (map known_of ls) (map known_of rs) (Some p)
pair_tuples ls rs p e f q = tuples_paired (ap (map known_of) e) (ap (map known_of) f) (length-map ls known_of ∙ q ∙ sym (length-map rs known_of))

module _ (fs gs : List Field) where
  pub pair_records : (p : Pair) (b : Bool) → Names_told (map field_of fs) (map field_of gs) b → b ≡ true → map known_of p.lefts.now ≡ field_knowns (fields_known (map field_of fs)) → map known_of p.rights.now ≡ field_knowns (fields_known (map field_of gs)) → Records_paired (map field_of fs) (map field_of gs) (Ok (Some p))
  pair_records p b told t e f = records_paired e f (names_same (map field_of fs) (map field_of gs) b told t)

  pub pair_memory : (x : Refusal) → x ≡ Memory → Records_paired (map field_of fs) (map field_of gs) (Err x)
  pair_memory x e = subst (λ z. Records_paired (map field_of fs) (map field_of gs) (Err z)) (sym e) not_records_paired

-- ---- parts, one after the other

-- what is compared of the parts from one on leads to all of them
pub data Compared_so_far (at : Place) (ss ts : List Known) (n i j next : ℕ) (before now : Bindings) (us : List Atom) : Type 0 where
  compared_so_far : (bs : Bindings) → now ≡ before ++ bs → ((cs : Bindings) (vs : List Atom) (m : ℕ) → All_compared at (drop i ss) (drop j ts) next cs vs m → All_compared at ss ts n (bs ++ cs) (us ++ vs) m) → Compared_so_far at ss ts n i j next before now us

module _ {X : Type 0} (f : X → Known) (at : Place) (ls rs : List X) (n : ℕ) where
  abbrev pub So_far : ℕ → ℕ → ℕ → Bindings → Bindings → List Atom → Type 0
  So_far = Compared_so_far at (map f ls) (map f rs) n

  pub compared_start : (before : Bindings) → So_far 0 0 n before before []
  compared_start before = compared_so_far [] (sym (append-nil before)) (λ cs vs m h. h)

  pub compared_on : (i j mid next : ℕ) (before between after : Bindings) (us us' : List Atom) (u : Atom) (l r : X) → i < length ls → j < length rs → So_far i j mid before between us → Equal_to at (f (get_or ls i l)) (f (get_or rs j r)) mid between after next (Ok u) → us' ≡ us ++ u ∷ [] → So_far (i + 1) (j + 1) next before after us'
  compared_on i j mid next before between after us us' u l r lt lt' (compared_so_far bs e g) (answered cs q h) k = compared_so_far (bs ++ cs) (q ∙ ap (λ z. z ++ cs) e ∙ append_assoc before bs cs) rest
    where
      rest : (ds : Bindings) (vs : List Atom) (m : ℕ) → All_compared at (drop (i + 1) (map f ls)) (drop (j + 1) (map f rs)) next ds vs m → All_compared at (map f ls) (map f rs) n ((bs ++ cs) ++ ds) (us' ++ vs) m
      rest ds vs m x = subst (λ z. All_compared at (map f ls) (map f rs) n z (us' ++ vs) m) (sym (append_assoc bs cs ds)) (subst (λ z. All_compared at (map f ls) (map f rs) n (bs ++ (cs ++ ds)) z m) (sym (ap (λ z. z ++ vs) k ∙ append_assoc us (u ∷ []) vs)) (g (cs ++ ds) (u ∷ vs) m (subst (λ z. All_compared at z (drop j (map f rs)) mid (cs ++ ds) (u ∷ vs) m) (sym (one_mapped f ls i l lt)) (subst (λ z. All_compared at (f (get_or ls i l) ∷ drop (i + 1) (map f ls)) z mid (cs ++ ds) (u ∷ vs) m) (sym (one_mapped f rs j r lt')) (one_compared h x)))))

  -- all comparisons, and that all of them hold
  compared_all : (Lacks : Type 0) (i j mid next : ℕ) (before between after : Bindings) (us : List Atom) (row : Bor (List Atom)) (r : Result Atom Refusal) → length ls ≤ i → length rs ≤ j → So_far i j mid before between us → row.now ≡ us → Answered (All_hold row.now mid) ⊥ between after next r → Answered (All_equal at (knowns (map f ls)) (knowns (map f rs)) n) Lacks before after next r
  compared_all Lacks i j mid next before between after us row r le le' (compared_so_far bs e g) q h = both r h
    where
      all : All_compared at (map f ls) (map f rs) n bs row.now mid
      all = subst (λ z. All_compared at (map f ls) (map f rs) n bs z mid) (sym q) (subst (λ z. All_compared at (map f ls) (map f rs) n bs z mid) (append-nil us) (subst (λ z. All_compared at (map f ls) (map f rs) n z (us ++ []) mid) (append-nil bs) (g [] [] mid (subst (λ z. All_compared at z (drop j (map f rs)) mid [] [] mid) (sym (drop_all i (map f ls) (subst (λ z. z ≤ i) (sym (length-map ls f)) le))) (subst (λ z. All_compared at [] z mid [] [] mid) (sym (drop_all j (map f rs) (subst (λ z. z ≤ j) (sym (length-map rs f)) le'))) none_compared)))))

      both : (r : Result Atom Refusal) → Answered (All_hold row.now mid) ⊥ between after next r → Answered (All_equal at (knowns (map f ls)) (knowns (map f rs)) n) Lacks before after next r
      both _ (answered cs k y) = answered (bs ++ cs) (k ∙ ap (λ z. z ++ cs) e ∙ append_assoc before bs cs) (all_equal at all y)
      both _ (unanswered x) = unanswered (refused_as (λ never. absurd never) x)

module _ (at : Place) (ls rs : List Held_known) (n : ℕ) where
  abbrev pub Parts_equal : Bindings → Bindings → ℕ → Result Atom Refusal → Type 0
  Parts_equal = All_equal_to at (knowns (map known_of ls)) (knowns (map known_of rs)) n

  pub parts_end : (i j mid next : ℕ) (before between after : Bindings) (us : List Atom) (row : Bor (List Atom)) (r : Result Atom Refusal) → length ls ≤ i → length rs ≤ j → So_far known_of at ls rs n i j mid before between us → row.now ≡ us → Answered (All_hold row.now mid) ⊥ between after next r → Parts_equal before after next r
  parts_end = compared_all known_of at ls rs n (Not_all_compared at (knowns (map known_of ls)) (knowns (map known_of rs)))

  pub parts_many : (before after : Bindings) (next : ℕ) → (length ls ≡ length rs → ⊥) → Parts_equal before after next (Err Lost)
  parts_many before after next h = unanswered (lost (many_uncompared at ls rs h))

  pub parts_err : (i j mid next later : ℕ) (before between behind after : Bindings) (l r : Held_known) (x : Refusal) → i ≡ j → i < length ls → j < length rs → Equal_to at (known_of (get_or ls i l)) (known_of (get_or rs j r)) mid between behind later (Err x) → Parts_equal before after next (Err x)
  parts_err i j mid next later before between behind after l r x e lt lt' (unanswered h) = unanswered (refused_as (λ lacks. part_uncompared at known_of ls rs i l r lt (omega (arith, e, lt')) (subst (λ k. Not_compared at (known_of (get_or ls i l)) (known_of (get_or rs k r))) (sym e) lacks)) h)

-- ---- that all hold, from the last one on

pub data Held_so_far (us : List Atom) (n next : ℕ) (before now : Bindings) (w : Atom) : Type 0 where
  held_so_far : (bs : Bindings) → now ≡ before ++ bs → All_hold us n bs w next → Held_so_far us n next before now w

module _ (us : List Atom) (n : ℕ) (before : Bindings) where
  pub held_start : (i : ℕ) → length us ≤ i → Held_so_far (drop i us) n n before before (atom.Constant (scalar.Bool true))
  held_start i le = held_so_far [] (sym (append-nil before)) (subst (λ z. All_hold z n [] (atom.Constant (scalar.Bool true)) n) (sym (drop_all i us le)) none_fails)

  pub held_on : (i j mid next : ℕ) (between after : Bindings) (d w x : Atom) → i < length us → j ≡ i + 1 → Held_so_far (drop j us) n mid before between w → Computed (both_hold (get_or us i d) w) mid between after next (Ok x) → Held_so_far (drop i us) n next before after x
  held_on i j mid next between after d w _ lt g (held_so_far bs e h) (computed q k) =
      let rest : All_hold (drop (i + 1) us) n bs w mid = subst (λ z. All_hold (drop z us) n bs w mid) g h in
      held_so_far (bs ++ step (mid ∷ []) (both_hold (get_or us i d) w)) (q ∙ ap (λ z. z ++ step (mid ∷ []) (both_hold (get_or us i d) w)) e ∙ append_assoc before bs (step (mid ∷ []) (both_hold (get_or us i d) w)))
      (subst (λ z. All_hold z n (bs ++ step (mid ∷ []) (both_hold (get_or us i d) w)) (atom.Name mid) next) (sym (one_more us i d lt)) (subst (All_hold (get_or us i d ∷ drop (i + 1) us) n (bs ++ step (mid ∷ []) (both_hold (get_or us i d) w)) (atom.Name mid)) (sym k) (one_holds rest)))

  pub held_end : (i next : ℕ) (after : Bindings) (w : Atom) → i ≡ 0 → Held_so_far (drop i us) n next before after w → Answered (All_hold us n) ⊥ before after next (Ok w)
  held_end i next after w z (held_so_far bs e h) = answered bs e (subst (λ k. All_hold (drop k us) n bs w next) z h)

  pub held_err : (mid next : ℕ) (between after : Bindings) (a : Action) (x : Refusal) → Computed a mid between after next (Err x) → Answered (All_hold us n) ⊥ before after next (Err x)
  held_err mid next between after a _ not_computed = unanswered no_memory
