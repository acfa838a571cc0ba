-- The numbers of the nodes of definitions, one definition after the other.
use Rattle.std.proofs.Common.{◌≡◌, ◌≢◌, ℕ, ◌+◌, ◌<◌, ◌≤◌, List, length, get_or, set, Bool, true, false, nat_eq, refl, sym, subst, arith}
use Rattle.std.proofs.lemmas.Bool.{eqb-true, eqb-false}
use Rattle.std.proofs.lemmas.List.{get_or-set_same, get_or-set_other}
use Rattle.fut_flat.specs.declared.program.Definition.{Definition}
use Rattle.fut_flat.specs.Numbers.{numbers}
use Rattle.fut_flat.specs.Erased.{term_of}
use Rattle.unfold_reach.specs.declared.spans.Span.{Span}
use Rattle.unfold_reach.specs.Reach.{name_at, Spans, spans_are}
use Rattle.unfold_reach.proofs.Tops.{name_more}

-- those in front of one, whose name has this number
pub data Spans_to (ds : List Definition) (spans : List Span) (i behind : ℕ) : Type 0 where
  spans_to : behind ≡ name_at 0 ds i → ((j : ℕ) (s : Span) → j < i → j < length ds → ((get_or spans j s).first ≡ 1 + name_at 0 ds j) × ((get_or spans j s).end ≡ name_at 0 ds (j + 1))) → Spans_to ds spans i behind

module _ (ds : List Definition) where
  pub spans_start : (spans : List Span) → Spans_to ds spans 0 0
  spans_start spans = spans_to refl (λ j s lt lt'. absurd (omega (arith, lt)))

  module _ (spans : List Span) (i behind at : ℕ) (d : Definition) (s : Span) (is : at ≡ i) (lt : i < length ds) (len : length spans ≡ length ds) where
    pub spans_more : Spans_to ds spans i behind → s.first ≡ behind + 1 → s.end ≡ s.first + numbers (term_of (get_or ds i d).value.now) → Spans_to ds (set spans at s) (i + 1) s.end
    spans_more (spans_to b f) e e' = subst (λ n. Spans_to ds (set spans n s) (i + 1) s.end) (sym is) (spans_to behind_is (λ j x lt' lt''. told j x lt' lt'' (nat_eq i j) refl))
      where
        first_is : s.first ≡ 1 + name_at 0 ds i
        first_is = omega (arith, e, b)

        behind_is : s.end ≡ name_at 0 ds (i + 1)
        behind_is = let m = name_more 0 ds i d lt in omega (arith, e', first_is, m)

        inside : i < length spans
        inside = subst (λ z. i < z) (sym len) lt

        told : (j : ℕ) (x : Span) → j < i + 1 → j < length ds → (c : Bool) → nat_eq i j ≡ c → ((get_or (set spans i s) j x).first ≡ 1 + name_at 0 ds j) × ((get_or (set spans i s) j x).end ≡ name_at 0 ds (j + 1))
        told j x lt' lt'' true q =
            subst (λ z. ((get_or (set spans i s) z x).first ≡ 1 + name_at 0 ds z) × ((get_or (set spans i s) z x).end ≡ name_at 0 ds (z + 1))) (eqb-true i j q)
            (subst (λ (z : Span). (z.first ≡ 1 + name_at 0 ds i) × (z.end ≡ name_at 0 ds (i + 1))) (sym (get_or-set_same spans i s x inside)) (first_is, behind_is))
        told j x lt' lt'' false q =
            subst (λ (z : Span). (z.first ≡ 1 + name_at 0 ds j) × (z.end ≡ name_at 0 ds (j + 1))) (sym (get_or-set_other spans i j s x (λ e. eqb-false i j q (sym e)))) (let ne : i ≢ j = eqb-false i j q in f j x (omega (arith, lt', ne)) lt'')

  pub spans_done : (spans : List Span) (i behind : ℕ) → length ds ≤ i → Spans_to ds spans i behind → Spans ds spans
  spans_done spans i behind le (spans_to b f) = spans_are (λ j s lt. f j s (omega (arith, le, lt)) lt)
