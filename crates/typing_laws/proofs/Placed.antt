-- A local function that stands in a term, whatever parameters it has: where its numbers are, that it is generalised where the
-- term is typed, and that what is free in it is free in each definition around it. What is declared beside it is declared.
use Rattle.std.proofs.Common.{◌≡◌, ℕ, zero, suc, ◌+◌, ◌≤◌, ◌<◌, sym, ◌∙◌, ap, subst, arith, Bool, true, false, ◌||◌, ◌&&◌, List}
use mathlib.Core.Logic.{◌⊎◌, inl, inr}
use Rattle.fut_scalar.specs.declared.place.BindId.{BindId}
use Rattle.fut_flat.specs.declared.prim.Ref.{Ref}
use Rattle.fut_flat.specs.Terms.{Parameter, Use, Strict, Lambda, Apply, Let, If, Loop, Terms, no_term, term_and, Counted, Over, While}
use Rattle.fut_flat.specs.Numbers.{pattern_numbers, all_pattern_numbers, own_numbers, numbers, all_numbers, turn_numbers}
use Rattle.fut_flat.specs.Erased.{FlatTerm, FlatTurns}
use Rattle.fut_types.specs.declared.Kind.{Kind}
use Rattle.fut_types.specs.Types.{Sub, Kinds}
use Rattle.fut_typing.specs.Names.{Names}
use Rattle.fut_typing.specs.Scopes.{Scope, nothing, with_sizes, the_one}
use Rattle.fut_typing.specs.Patterns.{with_pattern, with_patterns, with_parameters}
use Rattle.fut_typing.specs.Free.{is_within, has_types, is_written, differs, generalises, is_free, are_free, turns_free}
use Rattle.fut_typing.specs.Generalised.{own_types, Scheme, Outside, Variant, Generalised}
use Rattle.fut_typing.specs.Typing.{FlatBinding, Function_name, with_turns, let_scheme, Let_typed, with_let, Typed, All_typed, Turns_typed}
use Rattle.fut_typing.specs.Exact.{Way, found, part, Fixed, scheme_along, scheme_in, scheme_turns}
use Rattle.fut_typing.specs.Declared.{Declares, Some_declare, Turns_declare}
use Rattle.fut_typing.proofs.Ranges.{numbers_some, true_or, or_true, both_true, within_yes, within_true, within_false}
use Rattle.fut_typing.proofs.Cong.{Inside}
use Rattle.fut_typing.proofs.Locals.{or_right, along}
use Rattle.typing_laws.specs.Ways.{Ends_at, Ends_in, Ends_in_turns, Function_let, Declares_beside, Some_beside, Turns_beside}

mutual
  pub beside_declared : (t : FlatTerm) (w : Way) (n : ℕ) → Declares_beside t w n → Declares t n
  beside_declared (Use r at k) w n i = i
  beside_declared (Strict o mark ts) found n i = i
  beside_declared (Strict o mark ts) (part j w) n i = some_declared ts j w n i
  beside_declared (Lambda ps e) found n i = i
  beside_declared (Lambda ps e) (part j w) n i = beside_declared e w n i
  beside_declared (Apply f e) found n i = i
  beside_declared (Apply f e) (part zero w) n i = elim i [ inl x ↦ inl (beside_declared f w n x) | inr x ↦ inr x ]
  beside_declared (Apply f e) (part (suc j) w) n i = elim i [ inl x ↦ inl x | inr x ↦ inr (beside_declared e w n x) ]
  beside_declared (Let b v e) found n i = inr i
  beside_declared (Let b v e) (part zero w) n i = elim i [ inl x ↦ inl x | inr y ↦ inr (elim y [ inl x ↦ inl (beside_declared v w n x) | inr x ↦ inr x ]) ]
  beside_declared (Let b v e) (part (suc j) w) n i = elim i [ inl x ↦ inl x | inr y ↦ inr (elim y [ inl x ↦ inl x | inr x ↦ inr (beside_declared e w n x) ]) ]
  beside_declared (If c t e) found n i = i
  beside_declared (If c t e) (part zero w) n i = elim i [ inl x ↦ inl (beside_declared c w n x) | inr y ↦ inr y ]
  beside_declared (If c t e) (part (suc zero) w) n i = elim i [ inl x ↦ inl x | inr y ↦ inr (elim y [ inl x ↦ inl (beside_declared t w n x) | inr x ↦ inr x ]) ]
  beside_declared (If c t e) (part (suc (suc j)) w) n i = elim i [ inl x ↦ inl x | inr y ↦ inr (elim y [ inl x ↦ inl x | inr x ↦ inr (beside_declared e w n x) ]) ]
  beside_declared (Loop mark sizes p first turns body) found n i = i
  beside_declared (Loop mark sizes p first turns body) (part zero w) n i = elim i [ inl x ↦ inl (beside_declared first w n x) | inr y ↦ inr y ]
  beside_declared (Loop mark sizes p first turns body) (part (suc zero) w) n i = elim i [ inl x ↦ inl x | inr y ↦ inr (elim y [ inl x ↦ inl (turns_declared turns w n x) | inr x ↦ inr x ]) ]
  beside_declared (Loop mark sizes p first turns body) (part (suc (suc j)) w) n i = elim i [ inl x ↦ inl x | inr y ↦ inr (elim y [ inl x ↦ inl x | inr x ↦ inr (beside_declared body w n x) ]) ]

  some_declared : (ts : Terms Ref BindId) (j : ℕ) (w : Way) (n : ℕ) → Some_beside ts j w n → Some_declare ts n
  some_declared no_term j w n i = absurd i
  some_declared (term_and t ts) zero w n i = elim i [ inl x ↦ inl (beside_declared t w n x) | inr x ↦ inr x ]
  some_declared (term_and t ts) (suc j) w n i = elim i [ inl x ↦ inl x | inr x ↦ inr (some_declared ts j w n x) ]

  turns_declared : (t : FlatTurns) (w : Way) (n : ℕ) → Turns_beside t w n → Turns_declare t n
  turns_declared (Counted b m) w n i = beside_declared m w n i
  turns_declared (Over p e) w n i = beside_declared e w n i
  turns_declared (While c) w n i = beside_declared c w n i

-- all is inside a definition or outside, and what is fixed has the same type in its variants
inside_or : (s : Scheme) (n : ℕ) → Inside s n ⊎ Outside s n
inside_or s n = elim (true_or (is_within s.first s.many n)) [ inl t ↦ inl (within_true s.first s.many n t) | inr f ↦ inr (within_false s.first s.many n f) ]

pub stays : (s : Scheme) (c : Sub) (K : Kinds) (a : Sub) (v : Variant s c K a) (n : ℕ) → Fixed s n → v.other n ≡ a n
stays s c K a v n (inl out) = v.outside n out
stays s c K a v n (inr e) = elim (inside_or s n) as (λ x. v.other n ≡ a n) [ inl i ↦ v.kept n i.0 i.1 e | inr out ↦ v.outside n out ]

or_left : (x y : Bool) → x ≡ true → (x || y) ≡ true
or_left x y e = ap (λ b. b || y) e

module _ (N : Names) (places : Kind) (ps : List (Parameter BindId)) where
  -- the function s in what is typed so, whose numbers are from lo to hi
  pub record Placed (T : Kinds → Sub → Type 0) (free : Bool → ℕ → Bool) (lo hi : ℕ) (s : Scheme) : Type 1 where
    pub low : lo < s.first
    pub high : s.first + s.many ≤ hi
    pub some : 0 < s.many
    pub parameters : s.parameters ≡ ps
    pub gives : (K : Kinds) (a : Sub) → T K a → Generalised places s K a
    pub freed : (w : Bool) (n : ℕ) → s.free n ≡ true → free w n ≡ true

  widened : {T T' : Kinds → Sub → Type 0} {free free' : Bool → ℕ → Bool} {lo lo' hi hi' : ℕ} {s : Scheme} → Placed T free lo hi s → lo' ≤ lo → hi ≤ hi' → ((K : Kinds) (a : Sub) → T' K a → T K a)
      → ((w : Bool) (n : ℕ) → ((f : Bool) → free f n ≡ true) → free' w n ≡ true) → Placed T' free' lo' hi' s
  widened {T} {T'} {free} {free'} {lo} {lo'} {hi} {hi'} {s} g p q gives freed = let low : lo < s.first = g.low in let high : s.first + s.many ≤ hi = g.high in record {
    low = omega arith;
    high = omega arith;
    some = g.some;
    parameters = g.parameters;
    gives = λ K a h. g.gives K a (gives K a h);
    freed = λ w n f. freed w n (λ v. g.freed v n f);
  }

  let_gives : (f : Bool) (named : Type 0) (s : Scheme) (K : Kinds) (a : Sub) → Let_typed N places f named s K a → s.typed (own_types places s.parameters) K a
  let_gives true named s K a h = h.1.0
  let_gives false named s K a h = h

  abbrev pub In_term : FlatTerm → ℕ → Scope → Way → Type 1
  In_term t lo scope w = Placed (Typed N places t lo scope) (λ f. is_free f t lo) lo (lo + numbers t) (scheme_along N places t lo scope w)

  -- with type parameters all within it is free in the let too; without it is a function of which that is known
  here_freed : (b : FlatBinding) (v e : FlatTerm) (lo : ℕ) (scope : Scope) → b.is_function ≡ true → (w : Bool) (n : ℕ) → (let_scheme N places b v lo scope (Typed N places v (1 + lo + pattern_numbers b.pattern))).free n ≡ true → is_free w (Let b v e) lo n ≡ true
  here_freed b v e lo scope function w n f = let at : ℕ = 1 + lo + pattern_numbers b.pattern in elim (true_or (has_types b.parameters)) as (λ x. is_free w (Let b v e) lo n ≡ true) [
    | inl types ↦ elim (or_true (is_within (1 + lo) (pattern_numbers b.pattern) n) _ f) as (λ x. is_free w (Let b v e) lo n ≡ true) [
      | inl i ↦ or_left _ _ (let r = within_true (1 + lo) (pattern_numbers b.pattern) n i in let r0 : 1 + lo ≤ n = r.0 in let r1 : n < 1 + lo + pattern_numbers b.pattern = r.1 in within_yes lo (1 + pattern_numbers b.pattern) n (omega arith) (omega arith))
      | inr i ↦ or_right (is_within lo (1 + pattern_numbers b.pattern) n) _ (or_left _ _ (subst (λ x. is_free x v at n ≡ true) (types ∙ sym (or_left (is_written b) w (both_true _ _ function types))) i))
    ]
    | inr none ↦ (along N places (Let b v e) lo nothing found (λ b K a a' t e u. absurd u) (function, none)).freed w n f
  ]

  here : (b : FlatBinding) (v e : FlatTerm) (lo : ℕ) (scope : Scope) → b.is_function ≡ true → b.parameters ≡ ps → In_term (Let b v e) lo scope found
  here b v e lo scope function parameters =
      let s : Scheme = let_scheme N places b v lo scope (Typed N places v (1 + lo + pattern_numbers b.pattern)) in
      let some : 0 < numbers v = numbers_some v in record {
        low = omega arith;
        high = omega arith;
        some = omega arith;
        parameters = parameters;
        gives = λ K a h. (subst (λ f. Let_typed N places f (Function_name b.sizes b.pattern) s K a) function h.0.0).1;
        freed = here_freed b v e lo scope function;
      }

  mutual
    pub placed : (t : FlatTerm) (lo : ℕ) (scope : Scope) (w : Way) → Ends_at (Function_let ps) t w → In_term t lo scope w
    placed t lo scope found r = subst (λ t. In_term t lo scope found) (sym r.is) (here r.bound r.value r.rest lo scope r.function r.parameters)
    placed (Use r at k) lo scope (part i w) h = absurd h
    placed (Strict o mark ts) lo scope (part i w) h = widened (placed_in ts (lo + own_numbers o) scope i w h) (omega arith) (omega arith) (λ K a t. t.0) (λ f n x. or_right (generalises f (differs o) && is_within lo (own_numbers o) n) _ (x f))
    placed (Lambda qs e) lo scope (part i w) h = widened (placed e (1 + lo + all_pattern_numbers qs) (with_patterns the_one qs (1 + lo) scope) w h) (omega arith) (omega arith) (λ K a t. t.0.1) (λ f n x. or_right (is_within lo (1 + all_pattern_numbers qs) n) _ (x f))
    placed (Apply g e) lo scope (part zero w) h = widened (placed g (1 + lo) scope w h) (omega arith) (omega arith) (λ K a t. t.0.0) (λ f n x. or_right (is_within lo 1 n) _ (or_left _ _ (x f)))
    placed (Apply g e) lo scope (part (suc i) w) h = widened (placed e (1 + lo + numbers g) scope w h) (omega arith) (omega arith) (λ K a t. t.0.1) (λ f n x. or_right (is_within lo 1 n) _ (or_right (is_free f g (1 + lo) n) _ (x f)))
    placed (Let b v e) lo scope (part zero w) h = widened (placed v (1 + lo + pattern_numbers b.pattern) (with_parameters b.parameters (own_types places b.parameters) scope) w h) (omega arith) (omega arith)
        (λ K a t. (let_gives b.is_function (Function_name b.sizes b.pattern) (let_scheme N places b v lo scope (Typed N places v (1 + lo + pattern_numbers b.pattern))) K a t.0.0).0.1) (λ f n x. or_right (is_within lo (1 + pattern_numbers b.pattern) n) _ (or_left _ _ (x (is_written b || f))))
    placed (Let b v e) lo scope (part (suc i) w) h = let at : ℕ = 1 + lo + pattern_numbers b.pattern in
        widened (placed e (at + numbers v) (with_let N places b lo scope (let_scheme N places b v lo scope (Typed N places v (1 + lo + pattern_numbers b.pattern)))) w h) (omega arith) (omega arith) (λ K a t. t.0.1) (λ f n x. or_right (is_within lo (1 + pattern_numbers b.pattern) n) _ (or_right (is_free (is_written b || f) v at n) _ (x f)))
    placed (If c t e) lo scope (part zero w) h = widened (placed c (1 + lo) scope w h) (omega arith) (omega arith) (λ K a t. t.0.0.0) (λ f n x. or_right (is_within lo 1 n) _ (or_left _ _ (x f)))
    placed (If c t e) lo scope (part (suc zero) w) h = widened (placed t (1 + lo + numbers c) scope w h) (omega arith) (omega arith) (λ K a t. t.0.0.1) (λ f n x. or_right (is_within lo 1 n) _ (or_right (is_free f c (1 + lo) n) _ (or_left _ _ (x f))))
    placed (If c t e) lo scope (part (suc (suc i)) w) h = widened (placed e (1 + lo + numbers c + numbers t) scope w h) (omega arith) (omega arith) (λ K a t. t.0.1) (λ f n x. or_right (is_within lo 1 n) _ (or_right (is_free f c (1 + lo) n) _ (or_right (is_free f t (1 + lo + numbers c) n) _ (x f))))
    placed (Loop mark sizes p first turns body) lo scope (part zero w) h = widened (placed first (1 + lo + pattern_numbers p) scope w h) (omega arith) (omega arith) (λ K a t. t.0.0.0.0.1) (λ f n x. or_right (is_within lo (1 + pattern_numbers p) n) _ (or_left _ _ (x f)))
    placed (Loop mark sizes p first turns body) lo scope (part (suc zero) w) h = let at : ℕ = 1 + lo + pattern_numbers p in
        widened (placed_turns turns (at + numbers first) scope (with_pattern the_one p (1 + lo) (with_sizes sizes scope)) w h) (omega arith) (omega arith) (λ K a t. t.0.0.1) (λ f n x. or_right (is_within lo (1 + pattern_numbers p) n) _ (or_right (is_free f first at n) _ (or_left _ _ (x f))))
    placed (Loop mark sizes p first turns body) lo scope (part (suc (suc i)) w) h = let at : ℕ = 1 + lo + pattern_numbers p in
        widened (placed body (at + numbers first + turn_numbers turns) (with_turns turns (1 + lo + pattern_numbers p + numbers first) (with_pattern the_one p (1 + lo) (with_sizes sizes scope))) w h) (omega arith) (omega arith) (λ K a t. t.0.1)
        (λ f n x. or_right (is_within lo (1 + pattern_numbers p) n) _ (or_right (is_free f first at n) _ (or_right (turns_free f turns (at + numbers first) n) _ (x f))))

    pub placed_in : (ts : Terms Ref BindId) (lo : ℕ) (scope : Scope) (i : ℕ) (w : Way) → Ends_in (Function_let ps) ts i w → Placed (All_typed N places ts lo scope) (λ f. are_free f ts lo) lo (lo + all_numbers ts) (scheme_in N places ts lo scope i w)
    placed_in no_term lo scope i w h = absurd h
    placed_in (term_and t ts) lo scope zero w h = widened (placed t lo scope w h) (omega arith) (omega arith) (λ K a t. t.0) (λ f n x. or_left _ _ (x f))
    placed_in (term_and t ts) lo scope (suc i) w h = widened (placed_in ts (lo + numbers t) scope i w h) (omega arith) (omega arith) (λ K a t. t.1) (λ f n x. or_right (is_free f t lo n) _ (x f))

    pub placed_turns : (t : FlatTurns) (lo : ℕ) (scope inner : Scope) (w : Way) → Ends_in_turns (Function_let ps) t w → Placed (Turns_typed N places t lo scope inner) (λ f. turns_free f t lo) lo (lo + turn_numbers t) (scheme_turns N places t lo scope inner w)
    placed_turns (Counted b m) lo scope inner w h = widened (placed m (1 + lo) scope w h) (omega arith) (omega arith) (λ K a t. t.0) (λ f n x. or_right (is_within lo 1 n) _ (x f))
    placed_turns (Over p e) lo scope inner w h = widened (placed e (lo + pattern_numbers p) scope w h) (omega arith) (omega arith) (λ K a t. t.0.1) (λ f n x. or_right (is_within lo (pattern_numbers p) n) _ (x f))
    placed_turns (While c) lo scope inner w h = widened (placed c lo inner w h) (omega arith) (omega arith) (λ K a t. t.0) (λ f n x. x f)
