-- Loops over arrays.
use Rattle.std.proofs.Common.{◌≡◌, ℕ, ◌+◌, ◌≤◌, ◌<◌, List, ◌++◌, length, refl, sym, subst, arith}
use mathlib.Core.Logic.{◌⊎◌, inl, inr}
use Rattle.fut_scalar.specs.declared.place.BindId.{BindId}
use Rattle.fut_types.specs.declared.Kind.{Kind}
use Rattle.fut_types.specs.Types.{Sub, Kinds}
use Rattle.fut_flat.specs.Terms.{Over}
use Rattle.fut_flat.specs.Numbers.{numbers, pattern_numbers}
use Rattle.fut_flat.specs.Erased.{FlatTerm, FlatPattern}
use Rattle.fut_typing.specs.Names.{Names}
use Rattle.fut_typing.specs.Scopes.{Scope, IsArray, with_sizes, the_one}
use Rattle.fut_typing.specs.Patterns.{with_pattern, Pattern_typed}
use Rattle.fut_typing.specs.Homes.{Env, Needs, At_home, Homed, Turns_homed, scope_of, env_pattern}
use Rattle.fut_typing.specs.Rows.{Row_homed}
use Rattle.fut_typing.specs.Typing.{Typed, Turns_typed}
use Rattle.fut_typing.proofs.Ranges.{numbers_some, pattern_some}
use Rattle.fut_typing.proofs.Local.{all_local_more, local_ones, local_sizes, pattern_same}
use Rattle.fut_typing.proofs.Cong.{scope_local}
use Rattle.type_rules.specs.declared.demand.Demand.{Demand}
use Rattle.type_rules.specs.Demands.{All_met, All_allow, Say, Always_allowed}
use Rattle.type_scopes.specs.declared.Inference.{Inference}
use Rattle.type_scopes.specs.declared.names.Past.{Past}
use Rattle.type_scopes.specs.Table.{undone}
use Rattle.type_scopes.specs.Scopes.{Around, Claim, Homes, Safe, Claimed, Opened, Refused, Binds, Depends, nothing_claimed}
use Rattle.type_scopes.proofs.Claiming.{depends_both, depends_wider, claimed_then, refused_as, refused_then}
use Rattle.type_scopes.proofs.Opening.{closed, opened_both, opened_refused, opened_then, then_opened}
use Rattle.type_constraints.specs.Parts.{Constrained, Head_claim, Head_homes, Pattern_claim, Row_claim, Row_homes, Ruled, Term_claim, Term_homes, Unconstrained, Unruled, behind_first, behind_head, env_head, env_row, value_row}
use Rattle.type_constraints.proofs.Depending.{depends_term, depends_pattern}
use Rattle.type_constraints.proofs.Forms.{anywhere, ruled, unruled}
use Rattle.type_constraints.proofs.Values.{depends_row}
use Rattle.type_constraints.proofs.Loops.{scope_carried}

module _ (places : Kind) (base d lo from middle : ℕ) (sizes : List BindId) (p : FlatPattern) (first : FlatTerm) (q : FlatPattern) (e : FlatTerm) (eq : from ≡ behind_first p first lo) (eq2 : middle ≡ from + pattern_numbers q) where
  abbrev first_claim : Claim
  first_claim = Row_claim places (value_row sizes p first) lo

  abbrev first_homes : Homes
  first_homes = Row_homes d (value_row sizes p first) lo

  abbrev inside : Scope → Scope
  inside scope = with_pattern the_one p (1 + lo) (with_sizes sizes scope)

  abbrev over_claim : ℕ → Claim
  over_claim m N scope K a = first_claim N scope K a × Turns_typed N places (Over q e) m scope (inside scope) K a

  abbrev over_homes : ℕ → Homes
  over_homes m home = (w : Around d) × (Row_homed home d w.0 (value_row sizes p first) lo × Turns_homed home d w.0 (Over q e) m)

  abbrev carried : Env → Env
  carried = env_row (value_row sizes p first) lo

  abbrev part_homes : Homes
  part_homes home = At_home home d from (pattern_numbers q)

  abbrev two : Claim
  two N scope K a = first_claim N scope K a × Pattern_typed N places K a q from (inside scope)

  abbrev three : Claim
  three N scope K a = two N scope K a × Typed N places e middle scope K a

  abbrev rule : Claim
  rule N scope K a = IsArray places K (a middle) (a from)

  abbrev end : ℕ
  end = middle + numbers e

  apart : (home : ℕ → ℕ) → over_homes from home → first_homes home × part_homes home
  apart home h = ((h.0, h.1.0), h.1.1.0)

  array_home : (home : ℕ → ℕ) → over_homes from home → Term_homes d e middle home
  array_home home h = (h.0, subst (λ m. Homed home d h.0.0 e m) (sym eq2) h.1.1.1)

  into_three : (N : Names) (E : Env) (K : Kinds) (a : Sub) → over_claim from N (scope_of N places E) K a → three N (scope_of N places E) K a × rule N (scope_of N places E) K a
  into_three N E K a h = (((h.0, h.1.0.0), subst (λ m. Typed N places e m (scope_of N places E) K a) (sym eq2) h.1.0.1), subst (λ m. IsArray places K (a m) (a from)) (sym eq2) h.1.1)

  from_three : (N : Names) (E : Env) (K : Kinds) (a : Sub) → three N (scope_of N places E) K a → rule N (scope_of N places E) K a → over_claim from N (scope_of N places E) K a
  from_three N E K a x y = (x.0.0, ((x.0.1, subst (λ m. Typed N places e m (scope_of N places E) K a) eq2 x.1), subst (λ m. IsArray places K (a m) (a from)) eq2 y))

  split : (N : Names) (E : Env) (K : Kinds) (a : Sub) → two N (scope_of N places E) K a → first_claim N (scope_of N places E) K a × Pattern_claim places q from N (scope_of N places (carried E)) K a
  split N E K a h = (h.0, subst (λ (s : Scope). Pattern_typed N places K a q from s) (sym (scope_carried places lo sizes p N E)) h.1)

  join : (N : Names) (E : Env) (K : Kinds) (a : Sub) → first_claim N (scope_of N places E) K a → Pattern_claim places q from N (scope_of N places (carried E)) K a → two N (scope_of N places E) K a
  join N E K a x y = (x, subst (λ (s : Scope). Pattern_typed N places K a q from s) (scope_carried places lo sizes p N E) y)

  depends_two : Depends places two lo middle
  depends_two N E K a b same h = let M : ℕ → Type 0 = λ n. Needs E n ⊎ ((lo ≤ n) × (n < middle)) in let all = all_local_more (Needs E) M (scope_of N places E) (λ n m. inl m) (scope_local N places E) in (
    depends_wider places first_claim lo (1 + lo + pattern_numbers p + numbers first) lo middle (omega arith) (omega (arith, eq, eq2)) (depends_row places base d lo (1 + lo + pattern_numbers p) sizes p first refl) N E K a b same h.0,
    pattern_same M N places K a b same q from (inside (scope_of N places E)) (local_ones M p (1 + lo) (with_sizes sizes (scope_of N places E)) (λ n x y. inr (omega arith, omega (arith, eq, eq2))) (local_sizes M sizes (scope_of N places E) all)) (λ n x y. inr (omega (arith, eq), omega (arith, eq2))) h.1,
  )

  depends_three : Depends places three lo end
  depends_three = depends_both places two (Term_claim places e middle) three lo middle middle end (omega (arith, eq, eq2)) (omega arith) (omega arith) (λ N E K a h. h) (λ N E K a x y. (x, y)) depends_two (depends_term places e middle end refl)

  depends_over : Depends places (over_claim from) lo end
  depends_over N E K a b same h = let z : 0 < numbers e = numbers_some e in let y : 0 < pattern_numbers q = pattern_some q in
      let t = into_three N E K a h in let at : (n : ℕ) → lo ≤ n → n < end → a n ≡ b n = λ n x u. same n (inr (x, u)) in
      from_three N E K b (depends_three N E K a b same t.0) (subst (λ u. IsArray places K u (b from)) (at middle (omega (arith, eq, eq2)) (omega arith)) (subst (IsArray places K (a middle)) (at from (omega (arith, eq)) (omega (arith, eq2))) t.1))

  placed : (i0 i1 : Inference) → Refused places base d lo (over_claim from) (over_homes from) i0 i1 → Refused places base d lo (Head_claim places sizes p first (Over q e) lo) (Head_homes d sizes p first (Over q e) lo) i0 i1
  placed i0 i1 r = subst (λ m. Refused places base d lo (over_claim m) (over_homes m) i0 i1) eq r

  pub over_err1 : (i0 i1 : Inference) → Refused places base d lo first_claim first_homes i0 i1 → Refused places base d lo (Head_claim places sizes p first (Over q e) lo) (Head_homes d sizes p first (Over q e) lo) i0 i1
  over_err1 i0 i1 c = refused_as places base d lo first_claim (Head_claim places sizes p first (Over q e) lo) first_homes (Head_homes d sizes p first (Over q e) lo) i0 i1 (λ N E K a h. h.0) (λ home h. (h.0, h.1.0)) c

  module _ (i0 i1 : Inference) (x : Opened places base d lo (behind_first p first lo) first_claim first_homes carried i0 i1) where
    at_from : Opened places base d lo from first_claim first_homes carried i0 i1
    at_from = subst (λ m. Opened places base d lo m first_claim first_homes carried i0 i1) (sym eq) x

    pub over_err2 : (i2 : Inference) → ((d : ℕ) → Refused places base d from (Pattern_claim places q from) (λ home. At_home home d from (pattern_numbers q)) i1 i2) → Refused places base d lo (Head_claim places sizes p first (Over q e) lo) (Head_homes d sizes p first (Over q e) lo) i0 i2
    over_err2 i2 c = placed i0 i2 (opened_refused places base d lo from first_claim (Pattern_claim places q from) (over_claim from) first_homes part_homes (over_homes from) carried i0 i1 i2 (λ N E K a h. split N E K a (into_three N E K a h).0.0) apart at_from (c d))

    module _ (i2 i3 : Inference) (s : Safe base i0) (c : (d : ℕ) → Claimed places base d from (Pattern_claim places q from) (λ home. At_home home d from (pattern_numbers q)) i1 i2)
        (back : (before added : List Past) → i2.past ≡ before ++ added → length before ≡ length i0.past → i3 ≡ record i2 { names = undone added i2.names; past = before }) where
      pub two_claimed : Claimed places base d lo two (over_homes from) i0 i3
      two_claimed = closed places base d lo middle two (over_homes from) carried i0 i2 i3 s
          (opened_then places base d lo from first_claim (Pattern_claim places q from) two first_homes part_homes (over_homes from) carried i0 i1 i2 split apart at_from middle (omega (arith, eq2)) (depends_pattern places q from middle eq2) join (c d)) back

  module _ (i0 i3 i4 : Inference) (s : Safe base i0) (x : Claimed places base d lo two (over_homes from) i0 i3) where
    over_err3 : Unconstrained places base d middle e i3 i4 → Refused places base d lo (Head_claim places sizes p first (Over q e) lo) (Head_homes d sizes p first (Over q e) lo) i0 i4
    over_err3 c = placed i0 i4 (refused_then places base d lo middle two (Term_claim places e middle) (over_claim from) (over_homes from) (Term_homes d e middle) (over_homes from) i0 i3 i4 s (omega (arith, eq, eq2)) depends_two (λ N E K a h. (into_three N E K a h).0) (λ home h. (h, array_home home h)) x c)

    module _ (i5 : Inference) (c : Constrained places base d middle e i3 i4) (ds : List Demand) (say : Say ds (λ K a. IsArray places K (a middle) (a from))) (allowed : Always_allowed ds) where
      all_three : Claimed places base d lo three (over_homes from) i0 i4
      all_three = claimed_then places base d lo middle two (Term_claim places e middle) three (over_homes from) (Term_homes d e middle) (over_homes from) i0 i3 i4 s (omega (arith, eq, eq2)) depends_two (λ N E K a h. h) (λ home h. (h, array_home home h)) x (λ N E K a u v. (u, v)) c

      over_err4 : ((places : Kind) (d lo' : ℕ) → Refused places base d lo' (λ N scope K a. All_met N.shapes K a ds) (λ home. All_allow home ds) i4 i5) → Refused places base d lo (Head_claim places sizes p first (Over q e) lo) (Head_homes d sizes p first (Over q e) lo) i0 i5
      over_err4 r = placed i0 i5 (refused_then places base d lo end three rule (over_claim from) (over_homes from) anywhere (over_homes from) i0 i4 i5 s (omega (arith, eq, eq2)) depends_three into_three (λ home h. (h, tt)) all_three
          (unruled places base d end ds (λ K a. IsArray places K (a middle) (a from)) say allowed i4 i5 (r places d end)))

      module _ (i7 i8 : Inference) (r : (places : Kind) (d lo' : ℕ) → Claimed places base d lo' (λ N scope K a. All_met N.shapes K a ds) (λ home. All_allow home ds) i4 i5) (names : Binds base (1 + lo) (pattern_numbers p) carried i5 i7) (v : Binds base from (pattern_numbers q) (env_pattern q from) i7 i8) where
        whole : Claimed places base d lo (over_claim from) (over_homes from) i0 i5
        whole = claimed_then places base d lo end three rule (over_claim from) (over_homes from) anywhere (over_homes from) i0 i4 i5 s (omega (arith, eq, eq2)) depends_three into_three (λ home h. (h, tt)) all_three from_three
            (ruled places base d end ds (λ K a. IsArray places K (a middle) (a from)) say allowed i4 i5 (r places d end))

        abbrev name_homes : Homes
        name_homes home = At_home home d (1 + lo) (pattern_numbers p) × part_homes home

        named : Opened places base d end end nothing_claimed name_homes (λ E. env_pattern q from (carried E)) i5 i8
        named = opened_both places base d end end nothing_claimed nothing_claimed nothing_claimed (λ home. At_home home d (1 + lo) (pattern_numbers p)) part_homes name_homes carried i5 i7 i8 (λ N E K a h. (tt, tt)) (λ home h. h)
            (names places d end (omega (arith, eq, eq2))) end (env_pattern q from) (λ N E K a u w. tt) (v places d end (omega (arith, eq2)))

        opened : Opened places base d lo end (over_claim from) (over_homes from) (λ E. env_pattern q from (carried E)) i0 i8
        opened = then_opened places base d lo end end (over_claim from) nothing_claimed (over_claim from) (over_homes from) name_homes (over_homes from) (λ E. env_pattern q from (carried E)) i0 i5 i8 s (omega (arith, eq, eq2)) depends_over
            (λ home h. (h, (h.1.0.1, h.1.1.0))) whole (λ N E K a h. (h, tt)) (λ N E K a u w. u) named

        over_ok : Opened places base d lo (behind_head p first (Over q e) lo) (Head_claim places sizes p first (Over q e) lo) (Head_homes d sizes p first (Over q e) lo) (env_head sizes p first (Over q e) lo) i0 i8
        over_ok = subst (λ m. Opened places base d lo (m + (pattern_numbers q + numbers e)) (over_claim m) (over_homes m) (λ E. env_pattern q m (carried E)) i0 i8) eq
            (subst (λ m. Opened places base d lo m (over_claim from) (over_homes from) (λ E. env_pattern q from (carried E)) i0 i8) (let z : middle + numbers e ≡ from + (pattern_numbers q + numbers e) = omega (arith, eq2) in z) opened)

  module _ (i0 i3 i5 : Inference) (s : Safe base i0) (x : Claimed places base d lo two (over_homes from) i0 i3) (ds : List Demand) (say : Say ds (λ K a. IsArray places K (a middle) (a from))) (allowed : Always_allowed ds) where
    pub over_unruled : Unruled places base d middle e ds i3 i5 → Refused places base d lo (Head_claim places sizes p first (Over q e) lo) (Head_homes d sizes p first (Over q e) lo) i0 i5
    over_unruled (inl u) = over_err3 i0 i3 i5 s x u
    over_unruled (inr w) = over_err4 i0 i3 w.0 s x i5 w.1.0 ds say allowed w.1.1

    pub over_ruled : Ruled places base d middle e ds i3 i5 → (i7 i8 : Inference) → Binds base (1 + lo) (pattern_numbers p) carried i5 i7 → Binds base from (pattern_numbers q) (env_pattern q from) i7 i8 → Opened places base d lo (behind_head p first (Over q e) lo) (Head_claim places sizes p first (Over q e) lo) (Head_homes d sizes p first (Over q e) lo) (env_head sizes p first (Over q e) lo) i0 i8
    over_ruled r i7 i8 names v = over_ok i0 i3 r.0 s x i5 r.1.0 ds say allowed i7 i8 r.1.1 names v
