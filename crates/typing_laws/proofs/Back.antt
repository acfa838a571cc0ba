-- Types under one numbering, there and back; and instances of types whose records have few parts.
use Rattle.std.proofs.Common.{◌≡◌, ◌↔◌, ℕ, ◌+◌, ◌≤◌, refl, sym, ◌∙◌, ap, subst, arith, Bool, true, false, length}
use mathlib.Core.Logic.{inl, inr}
use Rattle.fut_types.specs.declared.Kind.{Kind}
use Rattle.fut_types.specs.declared.Kind.TheVariants as kind
use Rattle.fut_types.specs.declared.Head.TheVariants as head
use Rattle.fut_types.specs.Types.{Ty, Var, Made, Tys, none, more, Sub, Kinds, applied, all_applied}
use Rattle.fut_typing.specs.Names.{Names, AreNames, count}
use Rattle.fut_typing.specs.Answers.{Stands, Stands_in, default_at, default}
use Rattle.typing_laws.proofs.Same.{is_number, number_is, number_self}
use Rattle.typing_laws.specs.Alike.{Plain, All_plain, Alike}
use Rattle.typing_laws.proofs.Moved.{Turn, Faithful}
unfoldable use Rattle.typing_laws.proofs.Moved.{moved, all_moved}
use Rattle.typing_laws.proofs.Lists.{number, number_same}
use Rattle.typing_laws.proofs.Arranged.{count_moved, count_applied}
use Rattle.typing_laws.proofs.Exchange.{parts_moved, parts_stand, parts_hold, written_applied, is_false, Opens, exchange, exchange_cases, exchange_written, exchange_back, exchange_faithful, width, widths}
unfoldable use Rattle.typing_laws.proofs.Exchange.{parts, written}

-- ---- types whose records have at most b parts
module _ (M N : Names) (m : AreNames M) (n : AreNames N) (b : ℕ) (allowed : ℕ → Tys → Bool) where
  abbrev turn : Turn
  turn = exchange M N m n b allowed

  few_parts : (r : ℕ) (ts us : Tys) → count ts ≤ b → count us ≡ count ts → turn r us ≡ written M N m n b r us
  few_parts r ts us le e = exchange_written M N m n b allowed r us (λ c. omega arith)

  mutual
    unfolding applied moved

    -- an instance of one becomes an instance of what it becomes
    few_applied : (by : Sub) (t : Ty) → width t ≤ b → moved turn (applied by t) ≡ applied (λ v. moved turn (by v)) (moved turn t)
    few_applied by (Var v) le = refl
    few_applied by (Made (head.Record r) ts) le =
        let e : all_moved turn (all_applied by ts) ≡ all_applied (λ v. moved turn (by v)) (all_moved turn ts) = all_few_applied by ts (omega arith) in
        few_parts r ts (all_moved turn (all_applied by ts)) (omega arith) (count_moved turn (all_applied by ts) ∙ count_applied by ts)
        ∙ ap (written M N m n b r) e ∙ written_applied M N m n b (λ v. moved turn (by v)) r (all_moved turn ts)
        ∙ ap (applied (λ v. moved turn (by v))) (sym (few_parts r ts (all_moved turn ts) (omega arith) (count_moved turn ts)))
    few_applied by (Made (head.Scalar x) ts) le = ap (Made (head.Scalar x)) (all_few_applied by ts (omega arith))
    few_applied by (Made head.Array ts) le = ap (Made head.Array) (all_few_applied by ts (omega arith))
    few_applied by (Made head.Tuple ts) le = ap (Made head.Tuple) (all_few_applied by ts (omega arith))
    few_applied by (Made head.Fun ts) le = ap (Made head.Fun) (all_few_applied by ts (omega arith))
    few_applied by (Made (head.Rigid r k) ts) le = ap (Made (head.Rigid r k)) (all_few_applied by ts (omega arith))
    few_applied by (Made (head.Abstract r d) ts) le = ap (Made (head.Abstract r d)) (all_few_applied by ts (omega arith))

    all_few_applied : (by : Sub) (ts : Tys) → widths ts ≤ b → all_moved turn (all_applied by ts) ≡ all_applied (λ v. moved turn (by v)) (all_moved turn ts)
    all_few_applied by none le = refl
    all_few_applied by (more t ts) le = λ i. more (few_applied by t (omega arith) i) (all_few_applied by ts (omega arith) i)

  record_stands : (r : ℕ) (ts us : Tys) (v : ℕ) → count ts ≤ b → count us ≡ count ts → Stands v (turn r us) ↔ Stands_in v us
  unfolding written
  record_stands r ts us v le e = (
    λ s. parts_stand M N m n b r us v (subst (Stands v) (few_parts r ts us le e) s),
    λ s. subst (Stands v) (sym (few_parts r ts us le e)) (parts_hold M N m n b r us v s),
  )

  -- the same variables stand in it
  mutual
    unfolding moved

    few_stand : (t : Ty) (v : ℕ) → width t ≤ b → Stands v (moved turn t) ↔ Stands v t
    few_stand (Var w) v le = (λ s. s, λ s. s)
    few_stand (Made (head.Record r) ts) v le =
        let a = record_stands r ts (all_moved turn ts) v (omega arith) (count_moved turn ts) in
        let c = all_few_stand ts v (omega arith) in (λ s. c.0 (a.0 s), λ s. a.1 (c.1 s))
    few_stand (Made (head.Scalar x) ts) v le = all_few_stand ts v (omega arith)
    few_stand (Made head.Array ts) v le = all_few_stand ts v (omega arith)
    few_stand (Made head.Tuple ts) v le = all_few_stand ts v (omega arith)
    few_stand (Made head.Fun ts) v le = all_few_stand ts v (omega arith)
    few_stand (Made (head.Rigid r k) ts) v le = all_few_stand ts v (omega arith)
    few_stand (Made (head.Abstract r d) ts) v le = all_few_stand ts v (omega arith)

    all_few_stand : (ts : Tys) (v : ℕ) → widths ts ≤ b → Stands_in v (all_moved turn ts) ↔ Stands_in v ts
    all_few_stand none v le = (λ s. s, λ s. s)
    all_few_stand (more t ts) v le =
        let a = few_stand t v (omega arith) in
        let c = all_few_stand ts v (omega arith) in (
          elim [ inl s ↦ inl (a.0 s) | inr s ↦ inr (c.0 s) ],
          elim [ inl s ↦ inl (a.1 s) | inr s ↦ inr (c.1 s) ],
        )

-- ---- there, and back
module _ (M N : Names) (m : AreNames M) (n : AreNames N) (b : ℕ) where
  -- all is taken out
  pub to : Turn
  to = exchange M N m n b (λ k us. true)

  abbrev narrow : ℕ → Tys → Bool
  narrow k us = is_false (is_number (count us) (length (M.shapes.fields k) + (1 + b)))

  -- but what may itself hold something under a mark
  pub from : Turn
  from = exchange N M n m b narrow

  pub to_faithful : Faithful M N to
  unfolding to
  to_faithful = exchange_faithful M N m n b (λ k us. true)

  pub from_faithful : Faithful N M from
  unfolding from
  from_faithful = exchange_faithful N M n m b narrow

  pub to_applied : (by : Sub) (t : Ty) → width t ≤ b → moved to (applied by t) ≡ applied (λ v. moved to (by v)) (moved to t)
  unfolding to
  to_applied = few_applied M N m n b (λ k us. true)

  pub to_stands : (t : Ty) (v : ℕ) → width t ≤ b → Stands v (moved to t) ↔ Stands v t
  unfolding to
  to_stands = few_stand M N m n b (λ k us. true)

  narrow_isnt : (k : ℕ) (us : Tys) → narrow k us ≡ true → count us ≡ length (M.shapes.fields k) + (1 + b) → ⊥
  narrow_isnt k us e c = is_not (is_number (count us) (length (M.shapes.fields k) + (1 + b))) e (ap (λ x. is_number x (length (M.shapes.fields k) + (1 + b))) c ∙ number_self (length (M.shapes.fields k) + (1 + b)))
    where
      is_not : (x : Bool) → is_false x ≡ true → x ≡ true → ⊥
      is_not true e t = absurd cc
      is_not false e t = absurd cc

  isnt_narrow : (k : ℕ) (us : Tys) → (count us ≡ length (M.shapes.fields k) + (1 + b) → ⊥) → narrow k us ≡ true
  isnt_narrow k us isnt = is_no (is_number (count us) (length (M.shapes.fields k) + (1 + b))) (λ e. isnt (number_is (count us) (length (M.shapes.fields k) + (1 + b)) e))
    where
      is_no : (x : Bool) → (x ≡ true → ⊥) → is_false x ≡ true
      is_no true out = absurd (out refl)
      is_no false out = refl

  record_there : (r : ℕ) (ts : Tys) → moved to (from r ts) ≡ Made (head.Record r) (all_moved to ts)
  unfolding moved to from written
  record_there r ts = exchange_cases N M n m b narrow (λ t. moved to t ≡ Made (head.Record r) (all_moved to ts)) r ts plain out
    where
      us : Tys
      us = all_moved to ts

      plain : to (number N M n m r ts) (all_moved to (parts N M n m b r ts)) ≡ Made (head.Record r) us
      plain = (λ i. to (number_same N M n m r ts us (sym (count_moved to ts)) i) (parts_moved N M n m b to r ts i)) ∙ exchange_back M N m n b (λ k us. true) r us (λ e. refl)

      out : (k : ℕ) (vs : Tys) → Opens N M n m b narrow r ts k vs → to k (all_moved to vs) ≡ Made (head.Record r) us
      out k vs o =
          let e = count_moved to vs in
          exchange_written M N m n b (λ k us. true) k (all_moved to vs) (λ c. narrow_isnt k vs o.may (sym e ∙ c))
          ∙ (λ i. Made (head.Record (number_same M N m n k (all_moved to vs) vs e i)) (sym (parts_moved M N m n b to k vs) i))
          ∙ (λ i. Made (head.Record (sym o.number i)) (all_moved to (sym o.parts i)))

  mutual
    unfolding moved

    pub there_and_back : (t : Ty) → moved to (moved from t) ≡ t
    there_and_back (Var v) = refl
    there_and_back (Made (head.Record r) ts) = record_there r (all_moved from ts) ∙ ap (Made (head.Record r)) (all_there_and_back ts)
    there_and_back (Made (head.Scalar x) ts) = ap (Made (head.Scalar x)) (all_there_and_back ts)
    there_and_back (Made head.Array ts) = ap (Made head.Array) (all_there_and_back ts)
    there_and_back (Made head.Tuple ts) = ap (Made head.Tuple) (all_there_and_back ts)
    there_and_back (Made head.Fun ts) = ap (Made head.Fun) (all_there_and_back ts)
    there_and_back (Made (head.Rigid r k) ts) = ap (Made (head.Rigid r k)) (all_there_and_back ts)
    there_and_back (Made (head.Abstract r d) ts) = ap (Made (head.Abstract r d)) (all_there_and_back ts)

    all_there_and_back : (ts : Tys) → all_moved to (all_moved from ts) ≡ ts
    all_there_and_back none = refl
    all_there_and_back (more t ts) = λ i. more (there_and_back t i) (all_there_and_back ts i)

  -- ---- an instance of what a type becomes comes from an instance of the type
  record_again : (by : Sub) (r : ℕ) (ts us : Tys) → count ts ≤ b → count us ≡ count ts → moved from (applied by (to r us)) ≡ Made (head.Record r) (all_moved from (all_applied by us))
  unfolding moved applied to from written
  record_again by r ts us le e =
      let vs : Tys = all_applied by us in
      let ws : Tys = all_moved from vs in
      let many : count ws ≡ count vs = count_moved from vs in
      let as_many : count vs ≡ count us = count_applied by us in
      ap (λ t. moved from (applied by t)) (exchange_written M N m n b (λ k us. true) r us (λ c. omega arith))
      ∙ ap (moved from) (sym (written_applied M N m n b by r us))
      ∙ (λ i. from (number_same M N m n r vs ws (sym many) i) (parts_moved M N m n b from r vs i))
      ∙ exchange_back N M n m b narrow r ws (λ broken. isnt_narrow r ws (λ c. omega arith))

  mutual
    unfolding moved applied

    pub again_applied : (by : Sub) (t : Ty) → width t ≤ b → moved from (applied by (moved to t)) ≡ applied (λ v. moved from (by v)) t
    again_applied by (Var v) le = refl
    again_applied by (Made (head.Record r) ts) le = record_again by r ts (all_moved to ts) (omega arith) (count_moved to ts) ∙ ap (Made (head.Record r)) (all_again_applied by ts (omega arith))
    again_applied by (Made (head.Scalar x) ts) le = ap (Made (head.Scalar x)) (all_again_applied by ts (omega arith))
    again_applied by (Made head.Array ts) le = ap (Made head.Array) (all_again_applied by ts (omega arith))
    again_applied by (Made head.Tuple ts) le = ap (Made head.Tuple) (all_again_applied by ts (omega arith))
    again_applied by (Made head.Fun ts) le = ap (Made head.Fun) (all_again_applied by ts (omega arith))
    again_applied by (Made (head.Rigid r k) ts) le = ap (Made (head.Rigid r k)) (all_again_applied by ts (omega arith))
    again_applied by (Made (head.Abstract r d) ts) le = ap (Made (head.Abstract r d)) (all_again_applied by ts (omega arith))

    all_again_applied : (by : Sub) (ts : Tys) → widths ts ≤ b → all_moved from (all_applied by (all_moved to ts)) ≡ all_applied (λ v. moved from (by v)) ts
    all_again_applied by none le = refl
    all_again_applied by (more t ts) le = λ i. more (again_applied by t (omega arith) i) (all_again_applied by ts (omega arith) i)

  -- ---- what becomes of types without records, and what such types come from
  never_plain : (r : ℕ) (ts : Tys) → Plain (to r ts) → ⊥
  unfolding to written
  never_plain r ts = exchange_cases M N m n b (λ k us. true) (λ t. Plain t → ⊥) r ts (λ h. h) (λ k us o h. h)

  mutual
    unfolding moved

    plain_there : (t : Ty) → Plain t → moved to t ≡ t
    plain_there (Var v) h = refl
    plain_there (Made (head.Record r) ts) h = absurd h
    plain_there (Made (head.Scalar x) ts) h = ap (Made (head.Scalar x)) (all_plain_there ts h)
    plain_there (Made head.Array ts) h = ap (Made head.Array) (all_plain_there ts h)
    plain_there (Made head.Tuple ts) h = ap (Made head.Tuple) (all_plain_there ts h)
    plain_there (Made head.Fun ts) h = ap (Made head.Fun) (all_plain_there ts h)
    plain_there (Made (head.Rigid r k) ts) h = ap (Made (head.Rigid r k)) (all_plain_there ts h)
    plain_there (Made (head.Abstract r d) ts) h = ap (Made (head.Abstract r d)) (all_plain_there ts h)

    all_plain_there : (ts : Tys) → All_plain ts → all_moved to ts ≡ ts
    all_plain_there none h = refl
    all_plain_there (more t ts) h = λ i. more (plain_there t h.0 i) (all_plain_there ts h.1 i)

  mutual
    unfolding moved

    there_plain : (t : Ty) → Plain (moved to t) → Plain t
    there_plain (Var v) h = h
    there_plain (Made (head.Record r) ts) h = absurd (never_plain r (all_moved to ts) h)
    there_plain (Made (head.Scalar x) ts) h = all_there_plain ts h
    there_plain (Made head.Array ts) h = all_there_plain ts h
    there_plain (Made head.Tuple ts) h = all_there_plain ts h
    there_plain (Made head.Fun ts) h = all_there_plain ts h
    there_plain (Made (head.Rigid r k) ts) h = all_there_plain ts h
    there_plain (Made (head.Abstract r d) ts) h = all_there_plain ts h

    all_there_plain : (ts : Tys) → All_plain (all_moved to ts) → All_plain ts
    all_there_plain none h = h
    all_there_plain (more t ts) h = (there_plain t h.0, all_there_plain ts h.1)

  pub to_alike : (t : Ty) → Alike t (moved to t)
  to_alike t = record { there = plain_there t; back = λ h. sym (plain_there t (there_plain t h)) }

  -- what is put for undetermined types has no records
  pub to_default : (K : Kinds) (v : ℕ) → moved to (default K v) ≡ default K v
  to_default K v = plain_there (default_at v (K v)) (plain_default (K v))
    where
      plain_default : (k : Kind) → Plain (default_at v k)
      plain_default kind.Any = tt
      plain_default kind.Data = tt
      plain_default kind.Equal = tt
      plain_default kind.Scalar = tt
      plain_default kind.Integer = tt
