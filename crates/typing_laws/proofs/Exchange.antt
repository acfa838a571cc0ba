-- Types under one numbering and under the other, there and back. A record becomes the record of the names of which it has parts. One
-- with too few or too many parts stands also behind these, under a mark; and what stands so under a mark is taken out, on the
-- way back. So each type is found again.
use Rattle.std.proofs.Common.{◌≡◌, ℕ, zero, suc, ◌+◌, ◌≤◌, min, refl, sym, ◌∙◌, ap, subst, arith, Bool, true, false, ◌&&◌, length, map, Option, Some, None}
use mathlib.Core.Logic.{inl, inr}
use Rattle.fut_ast.specs.Sorts.{Text}
use Rattle.fut_types.specs.declared.Kind.TheVariants as kind
use Rattle.fut_types.specs.declared.Head.TheVariants as head
use Rattle.fut_types.specs.Types.{Ty, Var, Made, Tys, none, more, Sub, Kinds, rank, least, applied, all_applied}
use Rattle.fut_types.specs.Shapes.{place, part_at, part_named, HasPart}
use Rattle.fut_typing.specs.Names.{Names, AreNames, count}
use Rattle.fut_typing.specs.Primitives.{i64_ty}
use Rattle.fut_typing.specs.Answers.{Stands, Stands_in}
use Rattle.fut_typing.proofs.Members.{In}
use Rattle.fut_typing.proofs.Ranges.{true_or, and_true, both_true}
use Rattle.typing_laws.proofs.Same.{is_number, number_is, number_self, is_type, type_is, type_self}
use Rattle.typing_laws.proofs.Moved.{Turn, Faithful}
unfoldable use Rattle.typing_laws.proofs.Moved.{moved, all_moved}
use Rattle.typing_laws.proofs.Lists.{names, names_apart, names_are, names_long, relabelled, present, number, number_has, number_only, number_same, number_whole, whole_has, number_back}
use Rattle.typing_laws.proofs.Arranged.{part_under, under_in, behind, count_behind, part_behind, found, arranged, count_arranged, arranged_least, arranged_applied, arranged_under, arranged_back, part_present, present_part, count_moved, behind_moved, arranged_moved, count_applied, behind_applied, behind_none, stands_behind, behind_stands, stands_arranged}
use Rattle.typing_laws.proofs.Records.{Whole, fitting_faithful}

-- ---- so many types that say nothing
abbrev padding : ℕ → Tys
padding zero = none
padding (suc b) = more i64_ty (padding b)

count_padding : (b : ℕ) → count (padding b) ≡ b
count_padding zero = refl
count_padding (suc b) = let z : count (padding b) ≡ b = count_padding b in omega arith

padding_moved : (turn : Turn) (b : ℕ) → all_moved turn (padding b) ≡ padding b
unfolding moved
padding_moved turn zero = refl
padding_moved turn (suc b) = ap (more i64_ty) (padding_moved turn b)

padding_applied : (by : Sub) (b : ℕ) → all_applied by (padding b) ≡ padding b
unfolding applied
padding_applied by zero = refl
padding_applied by (suc b) = ap (more i64_ty) (padding_applied by b)

padding_least : (K : Kinds) (b : ℕ) → least K (padding b) ≡ 4
unfolding rank
padding_least K zero = refl
padding_least K (suc b) = let z : least K (padding b) ≡ 4 = padding_least K b in omega arith

padding_empty : (b v : ℕ) → Stands_in v (padding b) → ⊥
padding_empty zero v s = s
padding_empty (suc b) v (inl s) = s
padding_empty (suc b) v (inr s) = padding_empty b v s

first_part : (u : Ty) (us : Tys) → part_at (Some 0) (more u us) ≡ Some u
unfolding part_at
first_part u us = refl

-- ---- a record of the same names; b is how many types stand behind what stands under a mark
module _ (M N : Names) (m : AreNames M) (n : AreNames N) (b : ℕ) where
  abbrev pub is_whole : ℕ → Tys → Bool
  is_whole r ts = is_number (count ts) (length (M.shapes.fields r))

  abbrev mark : Bool → ℕ → Tys → Tys
  mark true r ts = none
  mark false r ts = more (Made (head.Rigid r kind.Integer) ts) (padding b)

  abbrev row : ℕ → Tys → ℕ → Tys
  row r ts q = arranged M.label (names M m r) ts (names N n q)

  unfoldable pub parts : ℕ → Tys → Tys
  parts r ts = behind (row r ts (number M N m n r ts)) (mark (is_whole r ts) r ts)

  unfoldable pub written : Turn
  written r ts = Made (head.Record (number M N m n r ts)) (parts r ts)

  row_long : (r : ℕ) (ts : Tys) (q : ℕ) → count (row r ts q) ≡ length (N.shapes.fields q)
  row_long r ts q = count_arranged M.label (names M m r) ts (names N n q) ∙ sym (names_long N n q)

  -- how many parts it has
  whole_count : (r : ℕ) (ts : Tys) → is_whole r ts ≡ true → count (parts r ts) ≡ length (N.shapes.fields (number M N m n r ts))
  unfolding parts
  whole_count r ts e = ap (λ x. count (behind (row r ts (number M N m n r ts)) (mark x r ts))) e ∙ ap count (behind_none (row r ts (number M N m n r ts))) ∙ row_long r ts (number M N m n r ts)

  marked_count : (r : ℕ) (ts : Tys) → is_whole r ts ≡ false → count (parts r ts) ≡ length (N.shapes.fields (number M N m n r ts)) + (1 + b)
  unfolding parts
  marked_count r ts e =
      let z : count (parts r ts) ≡ count (behind (row r ts (number M N m n r ts)) (mark false r ts)) = ap (λ x. count (behind (row r ts (number M N m n r ts)) (mark x r ts))) e in
      let y : count (behind (row r ts (number M N m n r ts)) (mark false r ts)) ≡ count (row r ts (number M N m n r ts)) + count (mark false r ts) = count_behind (row r ts (number M N m n r ts)) (mark false r ts) in
      let x : count (row r ts (number M N m n r ts)) ≡ length (N.shapes.fields (number M N m n r ts)) = row_long r ts (number M N m n r ts) in
      let w : count (padding b) ≡ b = count_padding b in omega arith

  -- what stands under the mark
  marked_part : (r : ℕ) (ts : Tys) → is_whole r ts ≡ false → part_at (Some (length (N.shapes.fields (number M N m n r ts)))) (parts r ts) ≡ Some (Made (head.Rigid r kind.Integer) ts)
  unfolding parts
  marked_part r ts e = ap (λ x. part_at (Some (length (N.shapes.fields (number M N m n r ts)))) (behind (row r ts (number M N m n r ts)) (mark x r ts))) e
      ∙ part_behind (row r ts (number M N m n r ts)) (mark false r ts) (length (N.shapes.fields (number M N m n r ts))) (row_long r ts (number M N m n r ts)) ∙ first_part (Made (head.Rigid r kind.Integer) ts) (padding b)

  -- ---- with other parts
  mark_moved : (turn : Turn) (x : Bool) (r : ℕ) (ts : Tys) → all_moved turn (mark x r ts) ≡ mark x r (all_moved turn ts)
  unfolding moved
  mark_moved turn true r ts = refl
  mark_moved turn false r ts = ap (more (Made (head.Rigid r kind.Integer) (all_moved turn ts))) (padding_moved turn b)

  mark_applied : (by : Sub) (x : Bool) (r : ℕ) (ts : Tys) → all_applied by (mark x r ts) ≡ mark x r (all_applied by ts)
  unfolding applied
  mark_applied by true r ts = refl
  mark_applied by false r ts = ap (more (Made (head.Rigid r kind.Integer) (all_applied by ts))) (padding_applied by b)

  pub parts_moved : (turn : Turn) (r : ℕ) (ts : Tys) → all_moved turn (parts r ts) ≡ parts r (all_moved turn ts)
  unfolding parts
  parts_moved turn r ts =
      let q : ℕ = number M N m n r ts in
      let us : Tys = all_moved turn ts in
      let same : count ts ≡ count us = sym (count_moved turn ts) in
      behind_moved turn (row r ts q) (mark (is_whole r ts) r ts)
      ∙ (λ i. behind (arranged_moved turn M.label (names M m r) ts (names N n q) i) (mark_moved turn (is_whole r ts) r ts i))
      ∙ (λ i. behind (row r us (number_same M N m n r ts us same i)) (mark (is_number (same i) (length (M.shapes.fields r))) r us))

  parts_applied : (by : Sub) (r : ℕ) (ts : Tys) → all_applied by (parts r ts) ≡ parts r (all_applied by ts)
  unfolding parts
  parts_applied by r ts =
      let q : ℕ = number M N m n r ts in
      let us : Tys = all_applied by ts in
      let same : count ts ≡ count us = sym (count_applied by ts) in
      behind_applied by (row r ts q) (mark (is_whole r ts) r ts)
      ∙ (λ i. behind (sym (arranged_applied M.label by (names M m r) ts (names N n q)) i) (mark_applied by (is_whole r ts) r ts i))
      ∙ (λ i. behind (row r us (number_same M N m n r ts us same i)) (mark (is_number (same i) (length (M.shapes.fields r))) r us))

  -- ---- it has at least the kinds of the parts
  mark_least : (K : Kinds) (x : Bool) (r : ℕ) (ts : Tys) (k : ℕ) → k ≤ least K ts → k ≤ 4 → k ≤ least K (mark x r ts)
  unfolding rank
  mark_least K true r ts k le four = four
  mark_least K false r ts k le four = let z : least K (padding b) ≡ 4 = padding_least K b in omega arith

  written_rises : (K : Kinds) (r : ℕ) (ts : Tys) (k : ℕ) → k ≤ min 2 (least K ts) → k ≤ rank K (written r ts)
  unfolding rank written parts
  written_rises K r ts k le =
      let z : k ≤ least K (parts r ts) = arranged_least M.label K (names M m r) ts (mark (is_whole r ts) r ts) (names N n (number M N m n r ts)) k (omega arith) (mark_least K (is_whole r ts) r ts k (omega arith) (omega arith)) in omega arith

  -- what stands under a mark has at least the kinds of all
  under_mark : (K : Kinds) (ts us : Tys) (t : Ty) → least K (behind ts (more t us)) ≤ rank K t
  unfolding rank
  under_mark K none us t = omega arith
  under_mark K (more u ts) us t = let z : least K (behind ts (more t us)) ≤ rank K t = under_mark K ts us t in omega arith

  marked_least : (K : Kinds) (r : ℕ) (ts : Tys) → is_whole r ts ≡ false → least K (parts r ts) ≤ least K ts
  unfolding rank parts
  marked_least K r ts e =
      let q : ℕ = number M N m n r ts in
      let z : least K (behind (row r ts q) (mark false r ts)) ≤ min 4 (least K ts) = under_mark K (row r ts q) (padding b) (Made (head.Rigid r kind.Integer) ts) in
      let y : least K (parts r ts) ≡ least K (behind (row r ts q) (mark false r ts)) = ap (λ x. least K (behind (row r ts q) (mark x r ts))) e in omega arith

  -- ---- it has the same parts under the same names
  under_row : (r : ℕ) (ts : Tys) (s : Text) → In (N.label s) (N.shapes.fields (number M N m n r ts)) → part_under (N.shapes.fields (number M N m n r ts)) (N.label s) (parts r ts) ≡ Some (found M.label (names M m r) ts s)
  unfolding parts
  under_row r ts s i =
      let q : ℕ = number M N m n r ts in
      ap (λ ls. part_under ls (N.label s) (parts r ts)) (sym (names_are N n q))
      ∙ arranged_under M.label N.label n.one_label (names M m r) ts (mark (is_whole r ts) r ts) (names N n q) s (subst (In (N.label s)) (sym (names_are N n q)) i)

  here_row : (r : ℕ) (ts : Tys) (s : Text) → In (M.label s) (map M.label (present M N m n r ts)) → part_under (M.shapes.fields r) (M.label s) ts ≡ Some (found M.label (names M m r) ts s)
  here_row r ts s i = ap (λ ls. part_under ls (M.label s) ts) (sym (names_are M m r)) ∙ present_part M.label (names M m r) ts s i

  written_part : (r : ℕ) (ts : Tys) (s : Text) (u : Ty) → part_under (M.shapes.fields r) (M.label s) ts ≡ Some u → HasPart N.shapes (N.label s) (written r ts) u
  unfolding part_named place written
  written_part r ts s u e =
      let i : In (M.label s) (map M.label (present M N m n r ts)) = part_present M.label (names M m r) ts s u (ap (λ ls. part_under ls (M.label s) ts) (names_are M m r) ∙ e) in
      under_row r ts s (number_has M N m n r ts (N.label s) (relabelled M N m (present M N m n r ts) s i)) ∙ sym (here_row r ts s i) ∙ e

  part_written : (r : ℕ) (ts : Tys) (s : Text) (u : Ty) → part_under (N.shapes.fields (number M N m n r ts)) (N.label s) (parts r ts) ≡ Some u → HasPart M.shapes (M.label s) (Made (head.Record r) ts) u
  unfolding part_named place
  part_written r ts s u e =
      let i : In (N.label s) (N.shapes.fields (number M N m n r ts)) = under_in (N.label s) (N.shapes.fields (number M N m n r ts)) (parts r ts) u e in
      here_row r ts s (relabelled N M n (present M N m n r ts) s (number_only M N m n r ts (N.label s) i)) ∙ sym (under_row r ts s i) ∙ e

  -- ---- what stands in it
  mark_stands : (x : Bool) (r : ℕ) (ts : Tys) (v : ℕ) → Stands_in v (mark x r ts) → Stands_in v ts
  mark_stands true r ts v s = absurd s
  mark_stands false r ts v (inl s) = s
  mark_stands false r ts v (inr s) = absurd (padding_empty b v s)

  pub parts_stand : (r : ℕ) (ts : Tys) (v : ℕ) → Stands_in v (parts r ts) → Stands_in v ts
  unfolding parts
  parts_stand r ts v s = elim (behind_stands (row r ts (number M N m n r ts)) (mark (is_whole r ts) r ts) v s) as (λ d. Stands_in v ts) [
    | inl a ↦ stands_arranged M.label (names M m r) ts (names N n (number M N m n r ts)) v a
    | inr c ↦ mark_stands (is_whole r ts) r ts v c
  ]

  whole_parts : (r : ℕ) (ts : Tys) → is_whole r ts ≡ true → parts r ts ≡ row r ts (number M N m n r ts)
  unfolding parts
  whole_parts r ts e = ap (λ x. behind (row r ts (number M N m n r ts)) (mark x r ts)) e ∙ behind_none (row r ts (number M N m n r ts))

-- ---- a record that is whole, there and back
module _ (M N : Names) (m : AreNames M) (n : AreNames N) (b : ℕ) where
  whole_back : (r : ℕ) (ts : Tys) → is_whole M N m n b r ts ≡ true → written N M n m b (number M N m n r ts) (parts M N m n b r ts) ≡ Made (head.Record r) ts
  unfolding written
  whole_back r ts e =
      let q : ℕ = number M N m n r ts in
      let us : Tys = parts M N m n b r ts in
      let full : count ts ≡ length (M.shapes.fields r) = number_is (count ts) (length (M.shapes.fields r)) e in
      let long : count us ≡ length (N.shapes.fields q) = whole_count M N m n b r ts e in
      let again : is_whole N M n m b q us ≡ true = ap (λ c. is_number c (length (N.shapes.fields q))) long ∙ number_self (length (N.shapes.fields q)) in
      let one : number N M n m q us ≡ r = number_back M N m n r ts us full long in
      ap (Made (head.Record (number N M n m q us))) (whole_parts N M n m b q us again)
      ∙ (λ i. Made (head.Record (one i)) (arranged N.label (names N n q) (whole_parts M N m n b r ts e i) (names M m (one i))))
      ∙ ap (Made (head.Record r)) (arranged_back M.label N.label n.one_label (names M m r) ts (names N n q) (has full) (names_apart M m r) (full ∙ names_long M m r))
    where
      has : count ts ≡ length (M.shapes.fields r) → (s : Text) → In (M.label s) (map M.label (names M m r)) → In (N.label s) (map N.label (names N n (number M N m n r ts)))
      has full s i = subst (In (N.label s)) (sym (names_are N n (number M N m n r ts))) (whole_has M N m n r ts s full (subst (In (M.label s)) (names_are M m r) i))

  -- ---- what stood in the parts stands in it
  pub parts_hold : (r : ℕ) (ts : Tys) (v : ℕ) → Stands_in v ts → Stands_in v (parts M N m n b r ts)
  unfolding written parts
  parts_hold r ts v s = elim (true_or (is_whole M N m n b r ts)) as (λ d. Stands_in v (parts M N m n b r ts)) [
    | inl e ↦ parts_stand N M n m b (number M N m n r ts) (parts M N m n b r ts) v (subst (Stands v) (sym (whole_back r ts e)) s)
    | inr e ↦ subst (λ x. Stands_in v (behind (row M N m n b r ts (number M N m n r ts)) (mark M N m n b x r ts))) (sym e) (stands_behind (row M N m n b r ts (number M N m n r ts)) (mark M N m n b false r ts) v (inl s))
  ]

  pub written_applied : (by : Sub) (r : ℕ) (ts : Tys) → written M N m n b r (all_applied by ts) ≡ applied by (written M N m n b r ts)
  unfolding written applied
  written_applied by r ts = λ i. Made (head.Record (number_same M N m n r (all_applied by ts) ts (count_applied by ts) i)) (sym (parts_applied M N m n b by r ts) i)

-- ---- what stands under a mark is taken out
abbrev pub is_false : Bool → Bool
is_false true = false
is_false false = true

false_is : (x : Bool) → is_false x ≡ true → x ≡ false
false_is true e = absurd cc
false_is false e = refl

abbrev record_number : Ty → ℕ
record_number (Made (head.Record r) ts) = r
record_number t = 0

abbrev parts_of : Ty → Tys
parts_of (Var v) = none
parts_of (Made h ts) = ts

-- allowed tells what may be taken out
module _ (M N : Names) (m : AreNames M) (n : AreNames N) (b : ℕ) (allowed : ℕ → Tys → Bool) where
  abbrev fits : ℕ → Tys → ℕ → Tys → Bool
  fits r ts k us = is_type (Made (head.Record r) ts) (written N M n m b k us) && (is_false (is_whole N M n m b k us) && allowed k us)

  abbrev opened : ℕ → Tys → Option Ty → Ty
  opened r ts (Some (Made (head.Rigid k l) us)) = elim (fits r ts k us) as (λ x. Ty) [ true ↦ Made (head.Record k) us | false ↦ written M N m n b r ts ]
  opened r ts o = written M N m n b r ts

  unfoldable pub exchange : Turn
  exchange r ts = opened r ts (part_at (Some (length (M.shapes.fields r))) ts)

  -- r with the parts ts is what k with the parts us becomes, which is not whole
  pub record Opens (r : ℕ) (ts : Tys) (k : ℕ) (us : Tys) : Type 0 where
    pub number : r ≡ number N M n m k us
    pub parts : ts ≡ parts N M n m b k us
    pub broken : is_whole N M n m b k us ≡ false
    pub may : allowed k us ≡ true

  opens_count : (r : ℕ) (ts : Tys) (k : ℕ) (us : Tys) → Opens r ts k us → count ts ≡ length (M.shapes.fields r) + (1 + b)
  opens_count r ts k us o = ap count o.parts ∙ marked_count N M n m b k us o.broken ∙ ap (λ q. length (M.shapes.fields q) + (1 + b)) (sym o.number)

  opens : (r : ℕ) (ts : Tys) (k : ℕ) (us : Tys) → fits r ts k us ≡ true → Opens r ts k us
  unfolding written
  opens r ts k us e =
      let x = and_true (is_type (Made (head.Record r) ts) (written N M n m b k us)) (is_false (is_whole N M n m b k us) && allowed k us) e in
      let y = and_true (is_false (is_whole N M n m b k us)) (allowed k us) x.1 in
      let same = type_is (Made (head.Record r) ts) (written N M n m b k us) x.0 in
      record { number = ap record_number same; parts = ap parts_of same; broken = false_is (is_whole N M n m b k us) y.0; may = y.1 }

  opened_cases : (P : Ty → Type 0) (r : ℕ) (ts : Tys) → P (written M N m n b r ts) → ((k : ℕ) (us : Tys) → Opens r ts k us → P (Made (head.Record k) us)) → (o : Option Ty) → P (opened r ts o)
  opened_cases P r ts plain out (Some (Made (head.Rigid k l) us)) = elim (true_or (fits r ts k us)) as (λ d. P (elim (fits r ts k us) as (λ x. Ty) [ true ↦ Made (head.Record k) us | false ↦ written M N m n b r ts ])) [
    | inl e ↦ subst (λ y. P (elim y as (λ x. Ty) [ true ↦ Made (head.Record k) us | false ↦ written M N m n b r ts ])) (sym e) (out k us (opens r ts k us e))
    | inr e ↦ subst (λ y. P (elim y as (λ x. Ty) [ true ↦ Made (head.Record k) us | false ↦ written M N m n b r ts ])) (sym e) plain
  ]
  opened_cases P r ts plain out (Some (Made (head.Scalar x) us)) = plain
  opened_cases P r ts plain out (Some (Made head.Array us)) = plain
  opened_cases P r ts plain out (Some (Made head.Tuple us)) = plain
  opened_cases P r ts plain out (Some (Made (head.Record q) us)) = plain
  opened_cases P r ts plain out (Some (Made head.Fun us)) = plain
  opened_cases P r ts plain out (Some (Made (head.Abstract q d) us)) = plain
  opened_cases P r ts plain out (Some (Var v)) = plain
  opened_cases P r ts plain out None = plain

  pub exchange_cases : (P : Ty → Type 0) (r : ℕ) (ts : Tys) → P (written M N m n b r ts) → ((k : ℕ) (us : Tys) → Opens r ts k us → P (Made (head.Record k) us)) → P (exchange r ts)
  unfolding exchange
  exchange_cases P r ts plain out = opened_cases P r ts plain out (part_at (Some (length (M.shapes.fields r))) ts)

  pub exchange_written : (r : ℕ) (ts : Tys) → (count ts ≡ length (M.shapes.fields r) + (1 + b) → ⊥) → exchange r ts ≡ written M N m n b r ts
  exchange_written r ts isnt = exchange_cases (λ t. t ≡ written M N m n b r ts) r ts refl (λ k us o. absurd (isnt (opens_count r ts k us o)))

  exchange_opened : (k : ℕ) (us : Tys) → is_whole N M n m b k us ≡ false → allowed k us ≡ true → exchange (number N M n m k us) (parts N M n m b k us) ≡ Made (head.Record k) us
  unfolding exchange written
  exchange_opened k us broken may =
      let q : ℕ = number N M n m k us in
      let ts : Tys = parts N M n m b k us in
      let yes : fits q ts k us ≡ true = both_true (is_type (Made (head.Record q) ts) (written N M n m b k us)) (is_false (is_whole N M n m b k us) && allowed k us) (type_self (Made (head.Record q) ts)) (both_true (is_false (is_whole N M n m b k us)) (allowed k us) (ap is_false broken) may) in
      ap (opened q ts) (marked_part N M n m b k us broken) ∙ ap (λ (y : Bool). elim y as (λ x. Ty) [ true ↦ Made (head.Record k) us | false ↦ written M N m n b q ts ]) yes

  -- the way back
  pub exchange_back : (k : ℕ) (us : Tys) → (is_whole N M n m b k us ≡ false → allowed k us ≡ true) → exchange (number N M n m k us) (parts N M n m b k us) ≡ Made (head.Record k) us
  exchange_back k us may = elim (true_or (is_whole N M n m b k us)) as (λ d. exchange (number N M n m k us) (parts N M n m b k us) ≡ Made (head.Record k) us) [
    | inl e ↦ exchange_written (number N M n m k us) (parts N M n m b k us) (λ c. let z = whole_count N M n m b k us e in omega arith) ∙ whole_back N M n m b k us e
    | inr e ↦ exchange_opened k us e (may e)
  ]

  exchange_rises : (K : Kinds) (r : ℕ) (ts : Tys) (k : ℕ) → k ≤ min 2 (least K ts) → k ≤ rank K (exchange r ts)
  unfolding rank
  exchange_rises K r ts k le = exchange_cases (λ t. k ≤ rank K t) r ts (written_rises M N m n b K r ts k le)
      (λ q us o. let z : least K (parts N M n m b q us) ≤ least K us = marked_least N M n m b K q us o.broken in let y : least K ts ≡ least K (parts N M n m b q us) = ap (least K) o.parts in omega arith)

  exchange_part : (r : ℕ) (ts : Tys) (s : Text) (u : Ty) → part_under (M.shapes.fields r) (M.label s) ts ≡ Some u → HasPart N.shapes (N.label s) (exchange r ts) u
  exchange_part r ts s u e = exchange_cases (λ t. HasPart N.shapes (N.label s) t u) r ts (written_part M N m n b r ts s u e)
      (λ q us o. part_written N M n m b q us s u (subst (λ x. part_under (M.shapes.fields (number N M n m q us)) (M.label s) x ≡ Some u) o.parts (subst (λ x. part_under (M.shapes.fields x) (M.label s) ts ≡ Some u) o.number e)))

  exchange_whole : (r : ℕ) (ts : Tys) → count ts ≡ length (M.shapes.fields r) → Whole M N exchange r ts
  unfolding written
  exchange_whole r ts e =
      let full : is_whole M N m n b r ts ≡ true = ap (λ c. is_number c (length (M.shapes.fields r))) e ∙ number_self (length (M.shapes.fields r)) in record {
        number = number M N m n r ts;
        parts = parts M N m n b r ts;
        made = exchange_written r ts (λ c. omega arith);
        fields = number_whole M N m n r ts e;
        all = whole_count M N m n b r ts full ∙ number_whole M N m n r ts e ∙ sym e;
      }

  pub exchange_faithful : Faithful M N exchange
  exchange_faithful = fitting_faithful M N m n exchange (record { rises = exchange_rises; part = exchange_part; whole = exchange_whole })

-- how many parts there are in a type
abbrev mutual
  pub width : Ty → ℕ
  width (Var v) = 0
  width (Made h ts) = count ts + widths ts

  pub widths : Tys → ℕ
  widths none = 0
  widths (more t ts) = width t + widths ts
