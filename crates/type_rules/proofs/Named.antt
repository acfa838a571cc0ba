-- There are names that go on from a table in hand: the names and records that it has keep their numbers.
use Rattle.std.proofs.Common.{◌≡◌, ◌↔◌, ℕ, zero, suc, ◌+◌, ◌-◌, ◌≤◌, ◌<◌, List, [], ◌∷◌, length, map, Option, Some, None, refl, sym, ◌∙◌, ap, subst, arith}
use Rattle.fut_ast.specs.Sorts.{Text}
use Rattle.fut_types.specs.declared.shapes.ShapeTable.{ShapeTable}
use Rattle.fut_types.specs.Shapes.{Rising, Tells, Tells_position, position_at, fields_of}
use Rattle.fut_typing.specs.Names.{Names, AreNames, Spells}
use Rattle.fut_typing.proofs.Members.{In, in_list, list_in}
use Rattle.fut_typing.proofs.Model.{listed, code, code_listed, listed_code, members, members_once, one_set, gaps, in_gaps, gaps_in, spelled, to_spells, from_spells}
use Rattle.type_rules.specs.declared.labels.Labels.{Labels}
use Rattle.type_rules.specs.Labels.{number_of, record_of, IsLabels, Labelled, Tells_number}
use Rattle.type_rules.proofs.Permutations.{Permutation, one_to, one_fro, Apart_below, permutation}

-- a rising list by its gaps
abbrev gaps_from : ℕ → List ℕ → List ℕ
gaps_from from [] = []
gaps_from from (x ∷ xs) = (x - from) ∷ gaps_from (suc x) xs

members_gaps : (from : ℕ) (xs : List ℕ) → Rising from xs → members from (gaps_from from xs) ≡ xs
members_gaps from [] h = refl
members_gaps from (x ∷ xs) h = let le : from ≤ x = h.0 in let e : from + (x - from) ≡ x = omega arith in
    ap (λ k. k ∷ members (suc k) (gaps_from (suc x) xs)) e ∙ ap (λ l. x ∷ l) (members_gaps (suc x) xs h.1)

-- names and records in an order of one's own
module _ (p q : Permutation) where
  abbrev numbering : Names
  numbering = record { label = λ s. p.fro (code s); shapes = record { fields = λ n. members 0 (listed (q.to n)); position = λ l. spelled (listed (p.to l)) } }

  text_is : (s : Text) → listed (p.to (p.fro (code s))) ≡ s
  text_is s = ap listed (p.back (code s)) ∙ listed_code s

  labelled : (l : ℕ) → (s : Text) × (l ≡ p.fro (code s))
  labelled l = (listed (p.to l), sym (ap p.fro (code_listed (p.to l)) ∙ p.there l))

  fields_are : (gs : List ℕ) → members 0 (listed (q.to (q.fro (code gs)))) ≡ members 0 gs
  fields_are gs = ap (λ n. members 0 (listed n)) (q.back (code gs)) ∙ ap (members 0) (listed_code gs)

  are_names : AreNames numbering
  are_names = record {
    one_label = λ s t e. sym (listed_code s) ∙ ap listed (one_fro p (code s) (code t) e) ∙ listed_code t;
    position = λ s n. (λ e. to_spells s n (sym (ap spelled (text_is s)) ∙ e), λ h. ap spelled (text_is s) ∙ from_spells s n h);
    placed = λ l n e. labelled l;
    once = λ n. members_once 0 (listed (q.to n));
    named = λ n l c. labelled l;
    one_record = λ m n same. one_to q m n (sym (code_listed (q.to m)) ∙ ap code (one_set 0 (listed (q.to m)) (listed (q.to n)) (λ l h. in_list _ l ((same l).0 (list_in _ l h))) (λ l h. in_list _ l ((same l).1 (list_in _ l h)))) ∙ code_listed (q.to n));
    every = λ fs once. let ls : List ℕ = map (λ s. p.fro (code s)) fs in (
      q.fro (code (gaps ls)),
      λ l. (
        λ h. list_in _ l (in_gaps ls l (subst (In l) (fields_are (gaps ls)) (in_list _ l h))),
        λ h. list_in _ l (subst (In l) (sym (fields_are (gaps ls))) (gaps_in ls l (in_list _ l h))),
      ),
    );
  }

told_position : (s : Text) (o : Option ℕ) → Tells_number (Spells s) o → Tells_position o (spelled s)
told_position s (Some m) h = from_spells s m h
told_position s None h = λ m e. h m (to_spells s m e)

some_is : (n m : ℕ) → Some n ≡ Some m → n ≡ m
some_is n m e = cc

-- those of a table in hand
module _ (labels : Labels) (table : ShapeTable) (is : IsLabels labels table) where
  abbrev text_code : ℕ → ℕ
  text_code n = code (is.name n)

  names_apart : Apart_below text_code (length table.positions)
  names_apart m n l k e = let s : is.name m ≡ is.name n = sym (listed_code (is.name m)) ∙ ap listed e ∙ listed_code (is.name n) in
      some_is m n (sym (is.named m l) ∙ ap (number_of labels) s ∙ is.named n k)

  abbrev row_gaps : ℕ → List ℕ
  row_gaps n = gaps_from 0 (fields_of table n)

  abbrev row_code : ℕ → ℕ
  row_code n = code (row_gaps n)

  row_is : (n : ℕ) → n < length table.records → members 0 (row_gaps n) ≡ fields_of table n
  row_is n l = members_gaps 0 (fields_of table n) (is.is_table.rising n l)

  rows_apart : Apart_below row_code (length table.records)
  rows_apart m n l k e = let s : row_gaps m ≡ row_gaps n = sym (listed_code (row_gaps m)) ∙ ap listed e ∙ listed_code (row_gaps n) in
      some_is m n (sym (is.rows m l) ∙ ap (record_of labels) (sym (row_is m l) ∙ ap (members 0) s ∙ row_is n k) ∙ is.rows n k)

  pub numbered : (N : Names) × AreNames N × Labelled labels table N
  numbered =
      let p = permutation text_code (length table.positions) names_apart in
      let q = permutation row_code (length table.records) rows_apart in
      let name_is : (n : ℕ) → n < length table.positions → p.0.fro (code (is.name n)) ≡ n = λ n lt. ap p.0.fro (sym (p.1 n lt)) ∙ p.0.there n in
      let text_at : (n : ℕ) → n < length table.positions → listed (p.0.to n) ≡ is.name n = λ n lt. ap listed (p.1 n lt) ∙ listed_code (is.name n) in (
        numbering p.0 q.0,
        are_names p.0 q.0,
        record {
          label = λ s n h. let lt = is.within s n h in ap (λ t. p.0.fro (code t)) (is.one s (is.name n) n h (is.named n lt)) ∙ name_is n lt;
          shapes = record {
            fields = λ n lt. ap (λ m. members 0 (listed m)) (q.1 n lt) ∙ ap (members 0) (listed_code (row_gaps n)) ∙ row_is n lt;
            position = λ l lt. subst (λ t. Tells_position (position_at table l) (spelled t)) (sym (text_at l lt)) (told_position (is.name l) (position_at table l) (is.spelled (is.name l) l (is.named l lt)));
          };
        },
      )
