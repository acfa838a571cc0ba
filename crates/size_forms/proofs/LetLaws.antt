-- Lets in a row: they are opened one after another, and end one after another.
use Rattle.std.proofs.Common.{◌≡◌, ℕ, ◌+◌, List, [], ◌∷◌, ◌++◌, Ok, Err, None, refl, sym, ap, ◌∙◌, arith}
use Rattle.fut_flat.specs.Terms.{Let}
use Rattle.fut_flat.specs.Numbers.{numbers}
use Rattle.fut_flat.specs.Erased.{FlatTerm, Row, lets}
use Rattle.fut_types.specs.Types.{Sub}
use Rattle.fut_typing.specs.Names.{Names}
use Rattle.sized_types.specs.Sizes.{Size}
use Rattle.fut_sizes.specs.Agreeing.{Answer, then_do}
use Rattle.fut_sizes.specs.Applications.{Part}
use Rattle.fut_sizes.specs.Compositions.{composition}
use Rattle.fut_sizes.specs.Functions.{size_names}
use Rattle.fut_sizes.specs.Scopes.{Scope}
use Rattle.fut_sizes.specs.Sizing.{sized, finished, has_parameters, with_head, let_scope, pattern_noted}
use Rattle.fut_sizes.specs.Steps.{State, Done, Step, give, ask, and_then}
use Rattle.size_program.proofs.StepLaws.{regrouped}
use Rattle.size_forms.specs.Lets.{value_at, body_at, let_opened, End, let_end, closed, row_opened, behind_row, behind_heads, row_ends, all_closed, Plain, plain_let}
use Rattle.size_forms.proofs.StepForms.{then_same}

pub given_same : {A : Type 0} (m : Step A) (s : State) → and_then m give s ≡ m s
given_same {A = A} m s = by_answer (m s)
  where
    by_answer : (a : Answer (Done A)) → then_do a (λ d. give d.result d.state) ≡ a
    by_answer (Ok d) = refl
    by_answer (Err e) = refl

-- ---- one let

-- a test, a value by itself in a scope, what it binds and notes, then what follows
module _ {A C : Type 0} (test : Answer (Unit {0})) (inside : Scope) (part : Scope → Step A) (finish : A → Step Size) (bind : Size → Answer Scope) (noted : Size → Step (Unit {0})) (next : Scope → Step C) where
  abbrev binding : Size → Step Scope
  binding t = and_then (ask (bind t)) (λ inner. and_then (noted t) (λ z. give inner))

  abbrev bound_next : Size → Step C
  bound_next t = and_then (ask (bind t)) (λ inner. and_then (noted t) (λ y. next inner))

  by_noted : (inner : Scope) (a : Answer (Done (Unit {0}))) → then_do a (λ d. next inner d.state) ≡ then_do (then_do a (λ d. give inner d.state)) (λ d. next d.result d.state)
  by_noted inner (Ok d) = refl
  by_noted inner (Err e) = refl

  by_scope : (t : Size) (s : State) (a : Answer Scope) → and_then (ask a) (λ inner. and_then (noted t) (λ y. next inner)) s ≡ and_then (and_then (ask a) (λ inner. and_then (noted t) (λ z. give inner))) next s
  by_scope t s (Ok inner) = by_noted inner (noted t s)
  by_scope t s (Err e) = refl

  by_size : (a : Answer (Done Size)) → then_do a (λ d. bound_next d.result d.state) ≡ then_do (then_do a (λ d. binding d.result d.state)) (λ d. next d.result d.state)
  by_size (Ok d) = by_scope d.result d.state (bind d.result)
  by_size (Err e) = refl

  by_value : (a : Answer (Done A)) → then_do a (λ d. and_then (finish d.result) bound_next d.state) ≡ then_do (then_do (then_do a (λ d. finish d.result d.state)) (λ d. binding d.result d.state)) (λ d. next d.result d.state)
  by_value (Ok d) = by_size (finish d.result d.state)
  by_value (Err e) = refl

  by_test : (a : Answer (Unit {0})) (s : State) → and_then (ask a) (λ z. and_then (part inside) (λ v. and_then (finish v) bound_next)) s ≡ and_then (and_then (ask (then_do a (λ z. Ok inside))) (λ i. and_then (and_then (part i) finish) binding)) next s
  by_test (Ok z) s = by_value (part inside s)
  by_test (Err e) s = refl

  pub opened_next : (s : State) → and_then (ask test) (λ z. and_then (part inside) (λ v. and_then (finish v) bound_next)) s ≡ and_then (and_then (ask (then_do test (λ z. Ok inside))) (λ i. and_then (and_then (part i) finish) binding)) next s
  opened_next s = by_test test s

module _ (N : Names) (types : Sub) where
  abbrev pub let_body : Row → FlatTerm → ℕ → Scope → Step Part
  let_body l e n inner = and_then (sized N types e [] (body_at l n) inner) (λ part. closed types (let_end l n) part N)

  pub let_is : (l : Row) (e : FlatTerm) (bs : List ℕ) (n : ℕ) (scope : Scope) (s : State) → composition l.0 e ≡ None → sized N types (Let l.0 l.1 e) bs n scope s ≡ and_then (let_opened types l n N scope) (let_body l e n) s
  unfolding sized
  let_is l e bs n scope s none = rw none (opened_next (has_parameters N types (size_names l.0.parameters) l.1 (value_at l n)) (with_head N types (size_names l.0.parameters) scope) (λ inside. sized N types l.1 (size_names l.0.parameters) (value_at l n) inside) (λ value. finished N types (value_at l n) value)
      (λ t. let_scope N types l.0 (value_at l n) t scope) (λ t. pattern_noted N types l.0.pattern (1 + n) t) (let_body l e n) s)

  -- ---- in a row

  pub no_heads : (ls : List Row) → behind_heads ls [] ≡ []
  no_heads [] = refl
  no_heads (l ∷ ls) = refl

  abbrev pub row_body : List Row → FlatTerm → List ℕ → ℕ → Scope → Step Part
  row_body ls e bs n inner = and_then (sized N types e (behind_heads ls bs) (behind_row ls n) inner) (λ part. all_closed types (row_ends ls n) part N)

  pub row_is : (ls : List Row) (e : FlatTerm) (bs : List ℕ) (n : ℕ) (scope : Scope) (s : State) → Plain ls e → sized N types (lets ls e) bs n scope s ≡ and_then (row_opened types ls n N scope) (row_body ls e bs n) s
  unfolding lets row_opened all_closed
  row_is [] e bs n scope s plain = sym (given_same (sized N types e bs n scope) s)
  row_is (l ∷ ls) e bs n scope s (plain_let none plain) =
      let_is l (lets ls e) bs n scope s none
      ∙ then_same (let_opened types l n N scope) (let_body l (lets ls e) n) (λ inner. and_then (row_opened types ls (body_at l n) N inner) (row_body (l ∷ ls) e bs n)) (λ inner t. by_rest (λ i z. row_is ls e [] (body_at l n) i z plain) inner t) s
      ∙ sym (regrouped (let_opened types l n N scope) (λ inner. row_opened types ls (body_at l n) N inner) (row_body (l ∷ ls) e bs n) s)
    where
      by_part : (inner : Scope) (t : State) → and_then (row_body ls e [] (body_at l n) inner) (λ part. closed types (let_end l n) part N) t ≡ row_body (l ∷ ls) e bs n inner t
      by_part inner t = ap (λ z. and_then (and_then (sized N types e z (behind_row ls (body_at l n)) inner) (λ part. all_closed types (row_ends ls (body_at l n)) part N)) (λ part. closed types (let_end l n) part N) t) (no_heads ls)
          ∙ regrouped (sized N types e [] (behind_row ls (body_at l n)) inner) (λ part. all_closed types (row_ends ls (body_at l n)) part N) (λ part. closed types (let_end l n) part N) t

      by_rest : ((i : Scope) (z : State) → sized N types (lets ls e) [] (body_at l n) i z ≡ and_then (row_opened types ls (body_at l n) N i) (row_body ls e [] (body_at l n)) z) → (inner : Scope) (t : State) → let_body l (lets ls e) n inner t ≡ and_then (row_opened types ls (body_at l n) N inner) (row_body (l ∷ ls) e bs n) t
      by_rest before inner t = ap (λ z. then_do z (λ d. closed types (let_end l n) d.result N d.state)) (before inner t)
          ∙ regrouped (row_opened types ls (body_at l n) N inner) (row_body ls e [] (body_at l n)) (λ part. closed types (let_end l n) part N) t
          ∙ then_same (row_opened types ls (body_at l n) N inner) (λ i. and_then (row_body ls e [] (body_at l n) i) (λ part. closed types (let_end l n) part N)) (row_body (l ∷ ls) e bs n) by_part t

  -- some lets, then others
  pub row_split : (ls ms : List Row) (n : ℕ) (scope : Scope) (s : State) → row_opened types (ls ++ ms) n N scope s ≡ and_then (row_opened types ls n N scope) (λ inner. row_opened types ms (behind_row ls n) N inner) s
  unfolding row_opened
  row_split [] ms n scope s = refl
  row_split (l ∷ ls) ms n scope s =
      then_same (let_opened types l n N scope) (λ inner. row_opened types (ls ++ ms) (body_at l n) N inner) (λ inner. and_then (row_opened types ls (body_at l n) N inner) (λ i. row_opened types ms (behind_row ls (body_at l n)) N i)) (λ inner t. row_split ls ms (body_at l n) inner t) s
      ∙ sym (regrouped (let_opened types l n N scope) (λ inner. row_opened types ls (body_at l n) N inner) (λ i. row_opened types ms (behind_row ls (body_at l n)) N i) s)

  pub one_opened : (l : Row) (n : ℕ) (scope : Scope) (s : State) → row_opened types (l ∷ []) n N scope s ≡ let_opened types l n N scope s
  unfolding row_opened
  one_opened l n scope s = given_same (let_opened types l n N scope) s

  -- the inner ends, then the outer ones
  pub closed_split : (xs ys : List End) (p : Part) (s : State) → all_closed types (xs ++ ys) p N s ≡ and_then (all_closed types ys p N) (λ q. all_closed types xs q N) s
  unfolding all_closed
  closed_split [] ys p s = sym (given_same (all_closed types ys p N) s)
  closed_split (x ∷ xs) ys p s = ap (λ z. then_do z (λ d. closed types x d.result N d.state)) (closed_split xs ys p s) ∙ regrouped (all_closed types ys p N) (λ q. all_closed types xs q N) (λ q. closed types x q N) s

  pub one_closed : (x : End) (p : Part) (s : State) → all_closed types (x ∷ []) p N s ≡ closed types x p N s
  unfolding all_closed
  one_closed x p s = refl

pub behind_more : (ls ms : List Row) (n : ℕ) → behind_row (ls ++ ms) n ≡ behind_row ms (behind_row ls n)
behind_more [] ms n = refl
behind_more (l ∷ ls) ms n = behind_more ls ms (body_at l n)

pub ends_more : (ls ms : List Row) (n : ℕ) → row_ends (ls ++ ms) n ≡ row_ends ls n ++ row_ends ms (behind_row ls n)
ends_more [] ms n = refl
ends_more (l ∷ ls) ms n = ap (λ z. let_end l n ∷ z) (ends_more ls ms (body_at l n))

-- what stands behind a row has the numbers that are left
pub row_numbers : (ls : List Row) (e : FlatTerm) (n : ℕ) → behind_row ls n + numbers e ≡ n + numbers (lets ls e)
unfolding lets
row_numbers [] e n = refl
row_numbers (l ∷ ls) e n = let a = row_numbers ls e (body_at l n) in omega (arith, a)
