-- Data as one component, one part after the other.
use Rattle.std.proofs.Common.{◌≡◌, ℕ, zero, suc, ◌+◌, ◌<◌, ◌≤◌, ◌++◌, List, [], ◌∷◌, map, length, get_or, drop, Ok, Err, refl, sym, ap, ◌∙◌, subst, append_assoc, append-nil, le_refl, arith}
use Rattle.std.specs.Borrow.{Bor}
use Rattle.std.specs.Prelude.{Result}
use Rattle.std.proofs.lemmas.List.{drop_all, length-map}
use Rattle.fut_blocks.specs.declared.block.Atom.{Atom}
use Rattle.fut_blocks.specs.declared.block.Atom.TheVariants as atom
use Rattle.fut_blocks.specs.Plain.{Action}
use Rattle.unfold.specs.Knowns.{Known, Tuple_known, Record_known, Knowns, Known_fields, listed, knowns}
use Rattle.unfold.specs.Shapes.{Shape, Shapes, Field_shapes, Laid, laid_scalar, laid_tuple, laid_record, All_laid, laid_none, laid_more, Fields_laid, laid_no_field, laid_field}
use Rattle.unfold.specs.Stuck.{No_data}
use Rattle.unfold.specs.Unfolding.{Bindings, step, field_names, field_knowns, Packs, p_atom, p_tuple, p_record, Packs_all, p_none, p_more}
use Rattle.unfold_parts.specs.Answers.{Answered, answered, unanswered, Computed, computed, not_computed, Packed_to, All_packed_to}
use Rattle.unfold_parts.specs.Refused.{no_memory, Not_packed, Not_all_packed}
use Rattle.unfold_parts.specs.declared.refusal.Refusal.{Refusal}
use Rattle.unfold_parts.proofs.Lists.{one_mapped}
use Rattle.unfold_parts.proofs.Refusing.{refused_as}

pub listed_knowns : (ss : List Known) → listed (knowns ss) ≡ ss
listed_knowns [] = refl
listed_knowns (s ∷ ss) = ap (λ z. s ∷ z) (listed_knowns ss)

-- ---- what is packed once is packed from any number on

abbrev pub Packable : Known → ℕ → Type 0
Packable s k = (m : ℕ) × (bs : Bindings) × (u : Atom) × Packs s k bs u m

abbrev pub All_packable : List Known → ℕ → Type 0
All_packable ss k = (m : ℕ) × (bs : Bindings) × (us : List Atom) × Packs_all ss k bs us m

pub tuple_packable : (ss : Knowns) (k : ℕ) → All_packable (listed ss) k → Packable (Tuple_known ss) k
tuple_packable ss k (m, bs, us, p) = (suc m, bs ++ step (m ∷ []) (Rattle.fut_blocks.specs.Plain.Tuple us), atom.Name m, p_tuple p (le_refl m))

pub record_packable : (fs : Known_fields) (k : ℕ) → All_packable (field_knowns fs) k → Packable (Record_known fs) k
record_packable fs k (m, bs, us, p) = (suc m, bs ++ step (m ∷ []) (Rattle.fut_blocks.specs.Plain.Read (Rattle.fut_blocks.specs.Plain.Record_with (field_names fs)) us), atom.Name m, p_record p (le_refl m))

pub more_packable : (s : Known) (ss : List Known) (k : ℕ) → Packable s k → ((m : ℕ) → All_packable ss m) → All_packable (s ∷ ss) k
more_packable s ss k (m, bs, u, p) all = rest (all m)
  where
    rest : All_packable ss m → All_packable (s ∷ ss) k
    rest (m', cs, us, ps) = (m', bs ++ cs, u ∷ us, p_more p ps)

mutual
  pub packs_again : {s : Known} {n m : ℕ} {bs : Bindings} {u : Atom} → Packs s n bs u m → (k : ℕ) → Packable s k
  packs_again (p_atom {u = u}) k = (k, [], u, p_atom)
  packs_again (p_tuple {ss = ss} r le) k = tuple_packable ss k (packs_all_again r k)
  packs_again (p_record {fs = fs} r le) k = record_packable fs k (packs_all_again r k)

  pub packs_all_again : {ss : List Known} {n m : ℕ} {bs : Bindings} {us : List Atom} → Packs_all ss n bs us m → (k : ℕ) → All_packable ss k
  packs_all_again p_none k = (k, [], [], p_none)
  packs_all_again (p_more {s = s} {ss = ss} r rs) k = more_packable s ss k (packs_again r k) (λ m. packs_all_again rs m)

-- what has components is packed
mutual
  pub laid_packs : {h : Shape} {s : Known} {us rest : List Atom} → Laid h s us rest → (k : ℕ) → Packable s k
  laid_packs (laid_scalar {u = u}) k = (k, [], u, p_atom)
  laid_packs (laid_tuple {ss = ss} l) k = tuple_packable ss k (all_laid_pack l k)
  laid_packs (laid_record {fs = fs} l) k = record_packable fs k (fields_laid_pack l k)

  all_laid_pack : {hs : Shapes} {ss : Knowns} {us rest : List Atom} → All_laid hs ss us rest → (k : ℕ) → All_packable (listed ss) k
  all_laid_pack laid_none k = (k, [], [], p_none)
  all_laid_pack (laid_more {s = s} {ss = ss} l ls) k = more_packable s (listed ss) k (laid_packs l k) (λ m. all_laid_pack ls m)

  fields_laid_pack : {hs : Field_shapes} {fs : Known_fields} {us rest : List Atom} → Fields_laid hs fs us rest → (k : ℕ) → All_packable (field_knowns fs) k
  fields_laid_pack laid_no_field k = (k, [], [], p_none)
  fields_laid_pack (laid_field {s = s} {fs = fs} l ls) k = more_packable s (field_knowns fs) k (laid_packs l k) (λ m. fields_laid_pack ls m)

pub unpacked_no_data : (s : Known) → Not_packed s → No_data s
unpacked_no_data s lacks h us l = at (laid_packs l 0)
  where
    at : Packable s 0 → ⊥
    at (m, bs, u, p) = lacks 0 m bs u p

-- ---- what is not packed

pub tuple_unpacked : (ss : Knowns) → Not_all_packed (listed ss) → Not_packed (Tuple_known ss)
tuple_unpacked ss lacks n _ _ _ (p_tuple {m = m} {bs = bs} {us = us} r le) = lacks n m bs us r

pub record_unpacked : (fs : Known_fields) → Not_all_packed (field_knowns fs) → Not_packed (Record_known fs)
record_unpacked fs lacks n _ _ _ (p_record {m = m} {bs = bs} {us = us} r le) = lacks n m bs us r

pub first_unpacked : (s : Known) (ss : List Known) → Not_packed s → Not_all_packed (s ∷ ss)
first_unpacked s ss lacks n _ _ _ (p_more {k = k} {bs = bs} {u = u} r rs) = lacks n k bs u r

pub rest_unpacked : (s : Known) (ss : List Known) → Not_all_packed ss → Not_all_packed (s ∷ ss)
rest_unpacked s ss lacks n m _ _ (p_more {k = k} {cs = cs} {us = us} r rs) = lacks k m cs us rs

pub part_unpacked : {X : Type 0} (f : X → Known) (xs : List X) (i : ℕ) (x : X) → i < length xs → Not_packed (f (get_or xs i x)) → Not_all_packed (map f xs)
part_unpacked f [] i x lt lacks = absurd (let z : i < 0 = lt in omega (arith, z))
part_unpacked f (y ∷ ys) zero x lt lacks = first_unpacked (f y) (map f ys) lacks
part_unpacked f (y ∷ ys) (suc i) x lt lacks = rest_unpacked (f y) (map f ys) (part_unpacked f ys i x (omega (arith, lt)) lacks)

-- ---- a step behind the steps of packing

-- what is said of the parts and one step behind them
pub stepped_on : {Q : Bindings → Atom → ℕ → Type 0} {C : Type 0} (make : List Atom → Action) (ss : List Known) (n mid next : ℕ) (before between after : Bindings) (us : Bor (List Atom)) (r : Result Atom Refusal) → ((bs : Bindings) → Packs_all ss n bs us.now mid → Q (bs ++ step (mid ∷ []) (make us.now)) (atom.Name mid) (suc mid)) → All_packed_to ss n before between mid (Ok us) → Computed (make us.now) mid between after next r → Answered Q C before after next r
stepped_on {Q} make ss n mid next before between after us _ rule (answered bs e p) (computed f g) =
    answered (bs ++ step (mid ∷ []) (make us.now)) (f ∙ ap (λ z. z ++ step (mid ∷ []) (make us.now)) e ∙ append_assoc before bs (step (mid ∷ []) (make us.now))) (subst (λ z. Q (bs ++ step (mid ∷ []) (make us.now)) (atom.Name mid) z) (sym g) (rule bs p))
stepped_on make ss n mid next before between after us _ rule h not_computed = unanswered no_memory

-- ---- parts, one after the other

-- what is packed of the parts from one on leads to all of them
pub data Packed_so_far (ss : List Known) (n i next : ℕ) (before now : Bindings) (us : List Atom) : Type 0 where
  packed_so_far : (bs : Bindings) → now ≡ before ++ bs → ((cs : Bindings) (vs : List Atom) (m : ℕ) → Packs_all (drop i ss) next cs vs m → Packs_all ss n (bs ++ cs) (us ++ vs) m) → Packed_so_far ss n i next before now us

module _ {X : Type 0} (f : X → Known) (xs : List X) (n : ℕ) where
  abbrev pub Pack_lead : ℕ → ℕ → Bindings → Bindings → List Atom → Type 0
  Pack_lead = Packed_so_far (map f xs) n

  pub pack_start : (before : Bindings) → Pack_lead 0 n before before []
  pack_start before = packed_so_far [] (sym (append-nil before)) (λ cs vs m h. h)

  pub pack_on : (i mid next : ℕ) (before between after : Bindings) (us us' : List Atom) (u : Atom) (x : X) → i < length xs → Pack_lead i mid before between us → Packed_to (f (get_or xs i x)) mid between after next (Ok u) → us' ≡ us ++ u ∷ [] → Pack_lead (i + 1) next before after us'
  pack_on i mid next before between after us us' u x lt (packed_so_far bs e g) (answered cs q h) k = packed_so_far (bs ++ cs) (q ∙ ap (λ z. z ++ cs) e ∙ append_assoc before bs cs) rest
    where
      rest : (ds : Bindings) (vs : List Atom) (m : ℕ) → Packs_all (drop (i + 1) (map f xs)) next ds vs m → Packs_all (map f xs) n ((bs ++ cs) ++ ds) (us' ++ vs) m
      rest ds vs m y = subst (λ z. Packs_all (map f xs) n z (us' ++ vs) m) (sym (append_assoc bs cs ds)) (subst (λ z. Packs_all (map f xs) n (bs ++ (cs ++ ds)) z m) (sym (ap (λ z. z ++ vs) k ∙ append_assoc us (u ∷ []) vs)) (g (cs ++ ds) (u ∷ vs) m (subst (λ z. Packs_all z mid (cs ++ ds) (u ∷ vs) m) (sym (one_mapped f xs i x lt)) (p_more h y))))

  pub pack_end : (i next : ℕ) (before now : Bindings) (us : List Atom) (row : Bor (List Atom)) → length xs ≤ i → Pack_lead i next before now us → row.now ≡ us → All_packed_to (map f xs) n before now next (Ok row)
  pack_end i next before now us row le (packed_so_far bs e g) q =
      answered bs e (subst (λ z. Packs_all (map f xs) n bs z next) (sym q) (subst (λ z. Packs_all (map f xs) n bs z next) (append-nil us) (subst (λ z. Packs_all (map f xs) n z (us ++ []) next) (append-nil bs) (g [] [] next (subst (λ z. Packs_all z next [] [] next) (sym (drop_all i (map f xs) (subst (λ z. z ≤ i) (sym (length-map xs f)) le))) p_none)))))

  pub pack_err : (i mid next later : ℕ) (before between behind after : Bindings) (x : X) (r : Refusal) → i < length xs → Packed_to (f (get_or xs i x)) mid between behind later (Err r) → All_packed_to (map f xs) n before after next (Err r)
  pack_err i mid next later before between behind after x r lt (unanswered h) = unanswered (refused_as (part_unpacked f xs i x lt) h)
