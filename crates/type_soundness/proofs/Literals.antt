-- An integer without a suffix has one type in all uses of the definition in which it stands.
use Rattle.std.proofs.Common.{◌≡◌, Bool, true, false, ◌||◌, ◌&&◌, ℕ, ◌+◌, ◌≤◌, ◌<◌, refl, subst, arith, None}
use mathlib.Core.Logic.{◌⊎◌, inl, inr}
use Rattle.fut_scalar.specs.declared.place.BindId.{BindId}
use Rattle.fut_flat.specs.declared.prim.Ref.{Ref}
use Rattle.fut_flat.specs.Terms.{Operation, Integer, Use, Strict, Lambda, Apply, Let, If, Loop, Terms, no_term, term_and, Counted, Over, While}
use Rattle.fut_flat.specs.Numbers.{pattern_numbers, all_pattern_numbers, own_numbers, numbers, all_numbers, turn_numbers}
use Rattle.fut_flat.specs.Erased.{FlatTerm, FlatTurns}
use Rattle.fut_typing.specs.Free.{is_within, is_written, Differs, in_none, differs, generalises, is_free, are_free, turns_free}
use Rattle.fut_typing.proofs.Ranges.{own_some, or_true, and_true, within_true}
use Rattle.type_soundness.specs.Meant.{Literal_here, Literal, A_literal, Turn_literal}

abbrev Within : ℕ → ℕ → ℕ → Type 0
Within lo hi n = (lo ≤ n) × (n < hi)

widen : (lo lo' hi hi' n : ℕ) → lo ≤ lo' → hi' ≤ hi → Within lo' hi' n → Within lo hi n
widen lo lo' hi hi' n p q w = let w0 : lo' ≤ n = w.0 in let w1 : n < hi' = w.1 in (omega arith, omega arith)

two : (x y : Bool) (P : Type 0) → (x ≡ true → P) → (y ≡ true → P) → (x || y) ≡ true → P
two x y P h k e = elim (or_true x y e) as (λ d. P) [ inl a ↦ h a | inr b ↦ k b ]

mutual
  free_inside : (w : Bool) (t : FlatTerm) (lo n : ℕ) → is_free w t lo n ≡ true → Within lo (lo + numbers t) n
  free_inside w (Use r at k) lo n f = within_true lo (1 + (k + k)) n f
  free_inside w (Strict o mark ts) lo n f = two (generalises w (differs o) && is_within lo (own_numbers o) n) (are_free w ts (lo + own_numbers o) n) (Within lo (lo + (own_numbers o + all_numbers ts)) n)
      (λ a. widen lo lo _ (lo + own_numbers o) n (omega arith) (omega arith) (within_true lo (own_numbers o) n (and_true (generalises w (differs o)) _ a).1))
      (λ b. widen lo (lo + own_numbers o) _ (lo + own_numbers o + all_numbers ts) n (omega arith) (omega arith) (all_inside w ts (lo + own_numbers o) n b)) f
  free_inside w (Lambda ps e) lo n f = two (is_within lo (1 + all_pattern_numbers ps) n) (is_free w e (1 + lo + all_pattern_numbers ps) n) (Within lo (lo + (1 + all_pattern_numbers ps + numbers e)) n)
      (λ a. widen lo lo _ (lo + (1 + all_pattern_numbers ps)) n (omega arith) (omega arith) (within_true lo (1 + all_pattern_numbers ps) n a))
      (λ b. widen lo (1 + lo + all_pattern_numbers ps) _ (1 + lo + all_pattern_numbers ps + numbers e) n (omega arith) (omega arith) (free_inside w e (1 + lo + all_pattern_numbers ps) n b)) f
  free_inside w (Apply g e) lo n f = two (is_within lo 1 n) _ (Within lo (lo + (1 + numbers g + numbers e)) n)
      (λ a. widen lo lo _ (lo + 1) n (omega arith) (omega arith) (within_true lo 1 n a))
      (two (is_free w g (1 + lo) n) (is_free w e (1 + lo + numbers g) n) (Within lo (lo + (1 + numbers g + numbers e)) n)
      (λ a. widen lo (1 + lo) _ (1 + lo + numbers g) n (omega arith) (omega arith) (free_inside w g (1 + lo) n a))
      (λ b. widen lo (1 + lo + numbers g) _ (1 + lo + numbers g + numbers e) n (omega arith) (omega arith) (free_inside w e (1 + lo + numbers g) n b))) f
  free_inside w (Let b v e) lo n f = let p : ℕ = pattern_numbers b.pattern in two (is_within lo (1 + p) n) _ (Within lo (lo + (1 + pattern_numbers b.pattern + numbers v + numbers e)) n)
      (λ a. widen lo lo _ (lo + (1 + p)) n (omega arith) (omega arith) (within_true lo (1 + p) n a))
      (two (is_free (is_written b || w) v (1 + lo + p) n) (is_free w e (1 + lo + p + numbers v) n) (Within lo (lo + (1 + pattern_numbers b.pattern + numbers v + numbers e)) n)
      (λ a. widen lo (1 + lo + p) _ (1 + lo + p + numbers v) n (omega arith) (omega arith) (free_inside (is_written b || w) v (1 + lo + p) n a))
      (λ a. widen lo (1 + lo + p + numbers v) _ (1 + lo + p + numbers v + numbers e) n (omega arith) (omega arith) (free_inside w e (1 + lo + p + numbers v) n a))) f
  free_inside w (If c t e) lo n f = two (is_within lo 1 n) _ (Within lo (lo + (1 + numbers c + numbers t + numbers e)) n)
      (λ a. widen lo lo _ (lo + 1) n (omega arith) (omega arith) (within_true lo 1 n a))
      (two (is_free w c (1 + lo) n) _ (Within lo (lo + (1 + numbers c + numbers t + numbers e)) n)
      (λ a. widen lo (1 + lo) _ (1 + lo + numbers c) n (omega arith) (omega arith) (free_inside w c (1 + lo) n a))
      (two (is_free w t (1 + lo + numbers c) n) (is_free w e (1 + lo + numbers c + numbers t) n) (Within lo (lo + (1 + numbers c + numbers t + numbers e)) n)
      (λ a. widen lo (1 + lo + numbers c) _ (1 + lo + numbers c + numbers t) n (omega arith) (omega arith) (free_inside w t (1 + lo + numbers c) n a))
      (λ a. widen lo (1 + lo + numbers c + numbers t) _ (1 + lo + numbers c + numbers t + numbers e) n (omega arith) (omega arith) (free_inside w e (1 + lo + numbers c + numbers t) n a)))) f
  free_inside w (Loop mark sizes p first turns body) lo n f = let q : ℕ = pattern_numbers p in let at : ℕ = 1 + lo + pattern_numbers p + numbers first in
      two (is_within lo (1 + q) n) _ (Within lo (lo + (1 + pattern_numbers p + numbers first + turn_numbers turns + numbers body)) n)
      (λ a. widen lo lo _ (lo + (1 + q)) n (omega arith) (omega arith) (within_true lo (1 + q) n a))
      (two (is_free w first (1 + lo + q) n) _ (Within lo (lo + (1 + pattern_numbers p + numbers first + turn_numbers turns + numbers body)) n)
      (λ a. widen lo (1 + lo + q) _ (1 + lo + q + numbers first) n (omega arith) (omega arith) (free_inside w first (1 + lo + q) n a))
      (two (turns_free w turns at n) (is_free w body (at + turn_numbers turns) n) (Within lo (lo + (1 + pattern_numbers p + numbers first + turn_numbers turns + numbers body)) n)
      (λ a. widen lo at _ (at + turn_numbers turns) n (omega arith) (omega arith) (turns_inside w turns at n a))
      (λ a. widen lo (at + turn_numbers turns) _ (at + turn_numbers turns + numbers body) n (omega arith) (omega arith) (free_inside w body (at + turn_numbers turns) n a)))) f

  all_inside : (w : Bool) (ts : Terms Ref BindId) (lo n : ℕ) → are_free w ts lo n ≡ true → Within lo (lo + all_numbers ts) n
  all_inside w no_term lo n f = absurd (let z : false ≡ true = f in cc)
  all_inside w (term_and t ts) lo n f = two (is_free w t lo n) (are_free w ts (lo + numbers t) n) (Within lo (lo + (numbers t + all_numbers ts)) n)
      (λ a. widen lo lo _ (lo + numbers t) n (omega arith) (omega arith) (free_inside w t lo n a))
      (λ b. widen lo (lo + numbers t) _ (lo + numbers t + all_numbers ts) n (omega arith) (omega arith) (all_inside w ts (lo + numbers t) n b)) f

  turns_inside : (w : Bool) (t : FlatTurns) (lo n : ℕ) → turns_free w t lo n ≡ true → Within lo (lo + turn_numbers t) n
  turns_inside w (Counted i m) lo n f = two (is_within lo 1 n) (is_free w m (1 + lo) n) (Within lo (lo + (1 + numbers m)) n)
      (λ a. widen lo lo _ (lo + 1) n (omega arith) (omega arith) (within_true lo 1 n a))
      (λ b. widen lo (1 + lo) _ (1 + lo + numbers m) n (omega arith) (omega arith) (free_inside w m (1 + lo) n b)) f
  turns_inside w (Over p e) lo n f = two (is_within lo (pattern_numbers p) n) (is_free w e (lo + pattern_numbers p) n) (Within lo (lo + (pattern_numbers p + numbers e)) n)
      (λ a. widen lo lo _ (lo + pattern_numbers p) n (omega arith) (omega arith) (within_true lo (pattern_numbers p) n a))
      (λ b. widen lo (lo + pattern_numbers p) _ (lo + pattern_numbers p + numbers e) n (omega arith) (omega arith) (free_inside w e (lo + pattern_numbers p) n b)) f
  turns_inside w (While c) lo n f = free_inside w c lo n f

-- ---- what is not free
not_true : (x : Bool) → (x ≡ true → ⊥) → x ≡ false
not_true true h = absurd (h refl)
not_true false h = refl

neither : (x y : Bool) → (x ≡ true → ⊥) → y ≡ false → (x || y) ≡ false
neither true y h k = absurd (h refl)
neither false y h k = k

first_not : (x y : Bool) → x ≡ false → (y ≡ true → ⊥) → (x || y) ≡ false
first_not true y h k = absurd (let z : true ≡ false = h in cc)
first_not false y h k = not_true y k

-- a literal stands inside, and is not free
abbrev Kept : (Bool → ℕ → Bool) → ℕ → ℕ → ℕ → Type 0
Kept free lo hi m = Within lo hi m × ((w : Bool) → free w m ≡ false)

literal_here : (o : Operation Ref BindId) (lo m : ℕ) → Literal_here o lo m → (differs o ≡ in_none) × (m ≡ lo)
literal_here (Integer n None) lo m h = (refl, h)
literal_here o lo m h = absurd h

none_free : (w x : Bool) (d : Differs) → d ≡ in_none → (generalises w d && x) ≡ true → ⊥
none_free w x d e h = let z : (generalises w in_none && x) ≡ true = subst (λ y. (generalises w y && x) ≡ true) e h in let y : false ≡ true = z in cc

outside : (lo hi n : ℕ) → (n < lo) ⊎ (hi ≤ n) → Within lo hi n → ⊥
outside lo hi n (inl l) w = let z : lo ≤ n = w.0 in omega arith
outside lo hi n (inr r) w = let z : n < hi = w.1 in omega arith

mutual
  pub literal_kept : (t : FlatTerm) (lo m : ℕ) → Literal t lo m → Kept (λ w n. is_free w t lo n) lo (lo + numbers t) m
  literal_kept (Use r at k) lo m h = absurd h
  literal_kept (Strict o mark ts) lo m (inl h) = let e = literal_here o lo m h in let eq : m ≡ lo = e.1 in let some : 0 < own_numbers o = own_some o in (
    (omega arith, omega arith),
    λ w. neither (generalises w (differs o) && is_within lo (own_numbers o) m) (are_free w ts (lo + own_numbers o) m) (none_free w (is_within lo (own_numbers o) m) (differs o) e.0)
        (not_true _ (λ f. outside (lo + own_numbers o) (lo + own_numbers o + all_numbers ts) m (inl (omega arith)) (all_inside w ts (lo + own_numbers o) m f))),
  )
  literal_kept (Strict o mark ts) lo m (inr h) = let r = all_kept ts (lo + own_numbers o) m h in let r0 : lo + own_numbers o ≤ m = r.0.0 in (
    widen lo (lo + own_numbers o) _ (lo + own_numbers o + all_numbers ts) m (omega arith) (omega arith) r.0,
    λ w. neither (generalises w (differs o) && is_within lo (own_numbers o) m) (are_free w ts (lo + own_numbers o) m) (λ f. outside lo (lo + own_numbers o) m (inr (omega arith)) (within_true lo (own_numbers o) m (and_true (generalises w (differs o)) _ f).1)) (r.1 w),
  )
  literal_kept (Lambda ps e) lo m h = let p : ℕ = all_pattern_numbers ps in let r = literal_kept e (1 + lo + p) m h in let r0 : 1 + lo + p ≤ m = r.0.0 in (
    widen lo (1 + lo + p) _ (1 + lo + p + numbers e) m (omega arith) (omega arith) r.0,
    λ w. neither (is_within lo (1 + p) m) _ (λ f. outside lo (lo + (1 + p)) m (inr (omega arith)) (within_true lo (1 + p) m f)) (r.1 w),
  )
  literal_kept (Apply g e) lo m (inl h) = let r = literal_kept g (1 + lo) m h in let r0 : 1 + lo ≤ m = r.0.0 in let r1 : m < 1 + lo + numbers g = r.0.1 in (
    widen lo (1 + lo) _ (1 + lo + numbers g) m (omega arith) (omega arith) r.0,
    λ w. neither (is_within lo 1 m) _ (λ f. outside lo (lo + 1) m (inr (omega arith)) (within_true lo 1 m f)) (first_not (is_free w g (1 + lo) m) _ (r.1 w) (λ f. outside (1 + lo + numbers g) (1 + lo + numbers g + numbers e) m (inl r1) (free_inside w e (1 + lo + numbers g) m f))),
  )
  literal_kept (Apply g e) lo m (inr h) = let r = literal_kept e (1 + lo + numbers g) m h in let r0 : 1 + lo + numbers g ≤ m = r.0.0 in (
    widen lo (1 + lo + numbers g) _ (1 + lo + numbers g + numbers e) m (omega arith) (omega arith) r.0,
    λ w. neither (is_within lo 1 m) _ (λ f. outside lo (lo + 1) m (inr (omega arith)) (within_true lo 1 m f)) (neither (is_free w g (1 + lo) m) _ (λ f. outside (1 + lo) (1 + lo + numbers g) m (inr r0) (free_inside w g (1 + lo) m f)) (r.1 w)),
  )
  literal_kept (Let b v e) lo m (inl h) = let p : ℕ = pattern_numbers b.pattern in let r = literal_kept v (1 + lo + p) m h in let r0 : 1 + lo + p ≤ m = r.0.0 in let r1 : m < 1 + lo + p + numbers v = r.0.1 in (
    widen lo (1 + lo + p) _ (1 + lo + p + numbers v) m (omega arith) (omega arith) r.0,
    λ w. neither (is_within lo (1 + p) m) _ (λ f. outside lo (lo + (1 + p)) m (inr (omega arith)) (within_true lo (1 + p) m f))
        (first_not (is_free (is_written b || w) v (1 + lo + p) m) _ (r.1 (is_written b || w)) (λ f. outside (1 + lo + p + numbers v) (1 + lo + p + numbers v + numbers e) m (inl r1) (free_inside w e (1 + lo + p + numbers v) m f))),
  )
  literal_kept (Let b v e) lo m (inr h) = let p : ℕ = pattern_numbers b.pattern in let r = literal_kept e (1 + lo + p + numbers v) m h in let r0 : 1 + lo + p + numbers v ≤ m = r.0.0 in (
    widen lo (1 + lo + p + numbers v) _ (1 + lo + p + numbers v + numbers e) m (omega arith) (omega arith) r.0,
    λ w. neither (is_within lo (1 + p) m) _ (λ f. outside lo (lo + (1 + p)) m (inr (omega arith)) (within_true lo (1 + p) m f))
        (neither (is_free (is_written b || w) v (1 + lo + p) m) _ (λ f. outside (1 + lo + p) (1 + lo + p + numbers v) m (inr r0) (free_inside (is_written b || w) v (1 + lo + p) m f)) (r.1 w)),
  )
  literal_kept (If c t e) lo m (inl h) = let r = literal_kept c (1 + lo) m h in let r0 : 1 + lo ≤ m = r.0.0 in let r1 : m < 1 + lo + numbers c = r.0.1 in (
    widen lo (1 + lo) _ (1 + lo + numbers c) m (omega arith) (omega arith) r.0,
    λ w. neither (is_within lo 1 m) _ (λ f. outside lo (lo + 1) m (inr (omega arith)) (within_true lo 1 m f)) (first_not (is_free w c (1 + lo) m) _ (r.1 w) (two (is_free w t (1 + lo + numbers c) m) (is_free w e (1 + lo + numbers c + numbers t) m) ⊥
        (λ f. outside (1 + lo + numbers c) (1 + lo + numbers c + numbers t) m (inl r1) (free_inside w t (1 + lo + numbers c) m f))
        (λ f. outside (1 + lo + numbers c + numbers t) (1 + lo + numbers c + numbers t + numbers e) m (inl (omega arith)) (free_inside w e (1 + lo + numbers c + numbers t) m f)))),
  )
  literal_kept (If c t e) lo m (inr (inl h)) = let r = literal_kept t (1 + lo + numbers c) m h in let r0 : 1 + lo + numbers c ≤ m = r.0.0 in let r1 : m < 1 + lo + numbers c + numbers t = r.0.1 in (
    widen lo (1 + lo + numbers c) _ (1 + lo + numbers c + numbers t) m (omega arith) (omega arith) r.0,
    λ w. neither (is_within lo 1 m) _ (λ f. outside lo (lo + 1) m (inr (omega arith)) (within_true lo 1 m f)) (neither (is_free w c (1 + lo) m) _ (λ f. outside (1 + lo) (1 + lo + numbers c) m (inr r0) (free_inside w c (1 + lo) m f))
        (first_not (is_free w t (1 + lo + numbers c) m) _ (r.1 w) (λ f. outside (1 + lo + numbers c + numbers t) (1 + lo + numbers c + numbers t + numbers e) m (inl r1) (free_inside w e (1 + lo + numbers c + numbers t) m f)))),
  )
  literal_kept (If c t e) lo m (inr (inr h)) = let r = literal_kept e (1 + lo + numbers c + numbers t) m h in let r0 : 1 + lo + numbers c + numbers t ≤ m = r.0.0 in (
    widen lo (1 + lo + numbers c + numbers t) _ (1 + lo + numbers c + numbers t + numbers e) m (omega arith) (omega arith) r.0,
    λ w. neither (is_within lo 1 m) _ (λ f. outside lo (lo + 1) m (inr (omega arith)) (within_true lo 1 m f)) (neither (is_free w c (1 + lo) m) _ (λ f. outside (1 + lo) (1 + lo + numbers c) m (inr (omega arith)) (free_inside w c (1 + lo) m f))
        (neither (is_free w t (1 + lo + numbers c) m) _ (λ f. outside (1 + lo + numbers c) (1 + lo + numbers c + numbers t) m (inr r0) (free_inside w t (1 + lo + numbers c) m f)) (r.1 w))),
  )
  literal_kept (Loop mark sizes p first turns body) lo m (inl h) = let q : ℕ = pattern_numbers p in let at : ℕ = 1 + lo + pattern_numbers p + numbers first in let r = literal_kept first (1 + lo + q) m h in let r0 : 1 + lo + q ≤ m = r.0.0 in let r1 : m < 1 + lo + q + numbers first = r.0.1 in (
    widen lo (1 + lo + q) _ (1 + lo + q + numbers first) m (omega arith) (omega arith) r.0,
    λ w. neither (is_within lo (1 + q) m) _ (λ f. outside lo (lo + (1 + q)) m (inr (omega arith)) (within_true lo (1 + q) m f)) (first_not (is_free w first (1 + lo + q) m) _ (r.1 w) (two (turns_free w turns at m) (is_free w body (at + turn_numbers turns) m) ⊥
        (λ f. outside at (at + turn_numbers turns) m (inl r1) (turns_inside w turns at m f))
        (λ f. outside (at + turn_numbers turns) (at + turn_numbers turns + numbers body) m (inl (omega arith)) (free_inside w body (at + turn_numbers turns) m f)))),
  )
  literal_kept (Loop mark sizes p first turns body) lo m (inr (inl h)) = let q : ℕ = pattern_numbers p in let at : ℕ = 1 + lo + pattern_numbers p + numbers first in let r = turn_kept turns at m h in let r0 : at ≤ m = r.0.0 in let r1 : m < at + turn_numbers turns = r.0.1 in (
    widen lo at _ (at + turn_numbers turns) m (omega arith) (omega arith) r.0,
    λ w. neither (is_within lo (1 + q) m) _ (λ f. outside lo (lo + (1 + q)) m (inr (omega arith)) (within_true lo (1 + q) m f)) (neither (is_free w first (1 + lo + q) m) _ (λ f. outside (1 + lo + q) (1 + lo + q + numbers first) m (inr (omega arith)) (free_inside w first (1 + lo + q) m f))
        (first_not (turns_free w turns at m) _ (r.1 w) (λ f. outside (at + turn_numbers turns) (at + turn_numbers turns + numbers body) m (inl r1) (free_inside w body (at + turn_numbers turns) m f)))),
  )
  literal_kept (Loop mark sizes p first turns body) lo m (inr (inr h)) = let q : ℕ = pattern_numbers p in let at : ℕ = 1 + lo + pattern_numbers p + numbers first in let r = literal_kept body (at + turn_numbers turns) m h in let r0 : at + turn_numbers turns ≤ m = r.0.0 in (
    widen lo (at + turn_numbers turns) _ (at + turn_numbers turns + numbers body) m (omega arith) (omega arith) r.0,
    λ w. neither (is_within lo (1 + q) m) _ (λ f. outside lo (lo + (1 + q)) m (inr (omega arith)) (within_true lo (1 + q) m f)) (neither (is_free w first (1 + lo + q) m) _ (λ f. outside (1 + lo + q) (1 + lo + q + numbers first) m (inr (omega arith)) (free_inside w first (1 + lo + q) m f))
        (neither (turns_free w turns at m) _ (λ f. outside at (at + turn_numbers turns) m (inr r0) (turns_inside w turns at m f)) (r.1 w))),
  )

  all_kept : (ts : Terms Ref BindId) (lo m : ℕ) → A_literal ts lo m → Kept (λ w n. are_free w ts lo n) lo (lo + all_numbers ts) m
  all_kept no_term lo m h = absurd h
  all_kept (term_and t ts) lo m (inl h) = let r = literal_kept t lo m h in let r1 : m < lo + numbers t = r.0.1 in (
    widen lo lo _ (lo + numbers t) m (omega arith) (omega arith) r.0,
    λ w. first_not (is_free w t lo m) _ (r.1 w) (λ f. outside (lo + numbers t) (lo + numbers t + all_numbers ts) m (inl r1) (all_inside w ts (lo + numbers t) m f)),
  )
  all_kept (term_and t ts) lo m (inr h) = let r = all_kept ts (lo + numbers t) m h in let r0 : lo + numbers t ≤ m = r.0.0 in (
    widen lo (lo + numbers t) _ (lo + numbers t + all_numbers ts) m (omega arith) (omega arith) r.0,
    λ w. neither (is_free w t lo m) _ (λ f. outside lo (lo + numbers t) m (inr r0) (free_inside w t lo m f)) (r.1 w),
  )

  turn_kept : (t : FlatTurns) (lo m : ℕ) → Turn_literal t lo m → Kept (λ w n. turns_free w t lo n) lo (lo + turn_numbers t) m
  turn_kept (Counted i n) lo m h = let r = literal_kept n (1 + lo) m h in let r0 : 1 + lo ≤ m = r.0.0 in (
    widen lo (1 + lo) _ (1 + lo + numbers n) m (omega arith) (omega arith) r.0,
    λ w. neither (is_within lo 1 m) _ (λ f. outside lo (lo + 1) m (inr (omega arith)) (within_true lo 1 m f)) (r.1 w),
  )
  turn_kept (Over p e) lo m h = let q : ℕ = pattern_numbers p in let r = literal_kept e (lo + q) m h in let r0 : lo + q ≤ m = r.0.0 in (
    widen lo (lo + q) _ (lo + q + numbers e) m (omega arith) (omega arith) r.0,
    λ w. neither (is_within lo q m) _ (λ f. outside lo (lo + q) m (inr r0) (within_true lo q m f)) (r.1 w),
  )
  turn_kept (While c) lo m h = literal_kept c lo m h
