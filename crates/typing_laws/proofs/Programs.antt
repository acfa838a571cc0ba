-- A program is typed with what is lifted from a typing and from types that differ from it within one definition; and the names
-- behind definitions are read as before where other types are put for the own types of parameters.
use Rattle.std.proofs.Common.{◌≡◌, ℕ, ◌+◌, ◌≤◌, ◌<◌, refl, sym, ◌∙◌, arith, List, [], ◌∷◌, ◌++◌, Some}
use mathlib.Core.Logic.{◌⊎◌, inl, inr}
use Rattle.fut_scalar.specs.declared.place.BindId.{BindId}
use Rattle.fut_flat.specs.Terms.{Parameter}
use Rattle.fut_flat.specs.Numbers.{pattern_numbers, numbers}
use Rattle.fut_types.specs.declared.Kind.{Kind}
use Rattle.fut_types.specs.Types.{Var, Sub, Kinds}
use Rattle.fut_typing.specs.Names.{Names}
use Rattle.fut_typing.specs.Scopes.{Scope, nothing}
use Rattle.fut_typing.specs.Patterns.{with_pattern}
use Rattle.fut_typing.specs.Generalised.{Suits, own_types, Scheme, Reused, Generalised}
use Rattle.fut_typing.specs.Program.{Defined, definition_scheme, Definitions_typed}
use Rattle.fut_typing.specs.Exact.{behind, scope_behind, Fixed}
use Rattle.fut_typing.specs.Declared.{Is_parameter, Declared_in, Parameter_in}
use Rattle.fut_typing.proofs.Local.{AllLocal, all_local_more, local_pattern}
use Rattle.fut_typing.proofs.Cong.{Kept, reused_local, generalised_same}
use Rattle.fut_typing.proofs.Programs.{definition_depends, definitions_same}
use Rattle.fut_typing.proofs.Exact.{behind_local}
use Rattle.fut_typing.proofs.Readings.{Reading, image, plain, plain_suited}
use Rattle.fut_typing.proofs.Follows.{Follows}
use Rattle.fut_typing.proofs.Instances.{parameter_limit, Good}
use Rattle.fut_typing.proofs.Typings.{behind_follows}
use Rattle.typing_laws.proofs.Chosen.{chosen_other}
use Rattle.typing_laws.proofs.Lifted.{back, back_low, back_suited}
use Rattle.typing_laws.proofs.Exact.{variable_kind}
use Rattle.typing_laws.proofs.Pairs as pairs
use Rattle.typing_laws.proofs.Joins as joins
use Rattle.typing_laws.proofs.Twice as twice

-- what local definitions declare is declared
declared_parameter : (ds : List Defined) (n : ℕ) → Declared_in ds n → Parameter_in ds n
declared_parameter [] n i = i
declared_parameter (d ∷ ds) n (inl i) = inr (inl i)
declared_parameter (d ∷ ds) n (inr i) = inr (inr (declared_parameter ds n i))

behind_up : (ds : List Defined) (lo : ℕ) → lo ≤ behind ds lo
behind_up [] lo = omega arith
behind_up (d ∷ ds) lo = let z : lo + (pattern_numbers d.name + numbers d.value) ≤ behind ds (lo + (pattern_numbers d.name + numbers d.value)) = behind_up ds (lo + (pattern_numbers d.name + numbers d.value)) in omega arith

module _ (N : Names) (places : Kind) (ps : List (Parameter BindId)) (c : Sub) (F0 G : ℕ) (over : F0 ≤ G) (wide : parameter_limit ps ≤ G) (one_label : (l l' i : ℕ) → N.shapes.position l ≡ Some i → N.shapes.position l' ≡ Some i → l ≡ l') (K : Kinds)
    (D : ℕ → Type 0) (low : (n : ℕ) → D n → n < F0) (apart : (n : ℕ) → D n → Is_parameter ps n → ⊥) where
  abbrev two : Sub → Sub → Sub
  two = pairs.two N places ps c F0 G over wide

  abbrev I : Reading
  I = plain (λ n. Var n)

  abbrev Joins : Scope → Scope → Scope → Type 0
  Joins = joins.Joins N places ps c F0 G over wide one_label K I G

  pub good : Good places K K D F0 low I G
  good = record { suited = plain_suited K K (λ n. Var n) (variable_kind K); plain = λ n k h. refl; over = over }

  -- a definition is typed with what is lifted from a and b, which differ in what differs from use to use alone
  pub record Changed (d : Defined) (lo : ℕ) (scope : Scope) (a b : Sub) : Type 0 where
    pub same : (n : ℕ) → Fixed (definition_scheme N places d lo scope) n → b n ≡ a n
    pub typed : Generalised places (definition_scheme N places d lo scope) K (image I (two a b))
    pub used : (n : ℕ) → lo ≤ n → n < lo + pattern_numbers d.name
        → twice.Uses_join N places ps c F0 G over wide one_label K D low apart I G (Reused places (definition_scheme N places d lo scope) n) (Reused places (definition_scheme N places d lo scope) n) (Reused places (definition_scheme N places d lo scope) n)

  module _ (d : Defined) (after : List Defined) (later : (n : ℕ) → Parameter_in after n → D n) (a b : Sub) where
    next_local : (lo : ℕ) (scope : Scope) → AllLocal (λ n. n < lo) scope → AllLocal (λ n. (n < lo) ⊎ Kept (definition_scheme N places d lo scope) n) (with_pattern (Reused places (definition_scheme N places d lo scope)) d.name lo scope)
    next_local lo scope all =
        let s : Scheme = definition_scheme N places d lo scope in
        let M : ℕ → Type 0 = λ n. (n < lo) ⊎ Kept s n in
        local_pattern M (Reused places s) d.name lo scope (λ n p q. reused_local places (λ n. n < lo) s (definition_depends N places (λ n. n < lo) d lo scope all) n (p, omega arith)) (all_local_more (λ n. n < lo) M scope (λ n m. inl m) all)

    pub lifted_typing : (before : List Defined) (lo : ℕ) (scope : Scope) → ((n : ℕ) → Parameter_in before n → D n) → AllLocal (λ n. n < lo) scope → Joins scope scope scope → ((n : ℕ) → n < behind before lo → a n ≡ b n)
        → (AllLocal (λ n. n < behind before lo) (scope_behind N places before lo scope) → Joins (scope_behind N places before lo scope) (scope_behind N places before lo scope) (scope_behind N places before lo scope)
        → Generalised places (definition_scheme N places d (behind before lo) (scope_behind N places before lo scope)) K a → Changed d (behind before lo) (scope_behind N places before lo scope) a b)
        → Definitions_typed N places (before ++ d ∷ after) lo scope K a → Definitions_typed N places (before ++ d ∷ after) lo scope K (image I (two a b))
    lifted_typing [] lo scope earlier local j early change h =
        let s : Scheme = definition_scheme N places d lo scope in
        let changed : Changed d lo scope a b = change local j h.0 in
        let end : ℕ = lo + (pattern_numbers d.name + numbers d.value) in
        let inner : Scope = with_pattern (Reused places s) d.name lo scope in
        let M : ℕ → Type 0 = λ n. ((n < lo) ⊎ Kept s n) ⊎ (end ≤ n) in
        let h' : Definitions_typed N places after end inner K b = definitions_same N places M after end inner (all_local_more (λ n. (n < lo) ⊎ Kept s n) M inner (λ n m. inl m) (next_local lo scope local)) (λ n p q. inr p) K a b
        (λ n. elim [ inl m ↦ elim m as (λ z. a n ≡ b n) [ inl lt ↦ early n lt | inr k ↦ sym (changed.same n (inr k.1)) ] | inr le ↦ sym (changed.same n (inl (inr le))) ]) h.1 in (
          changed.typed,
          twice.definitions_both N places ps c F0 G over wide one_label K D low apart I G good after end inner inner inner later (behind_local N places d lo scope local)
              (joins.joins_pattern N places ps c F0 G over wide one_label K I G (Reused places s) (Reused places s) (Reused places s) d.name lo scope scope scope changed.used j) a b h.1 h',
        )
    lifted_typing (e ∷ before) lo scope earlier local j early change h =
        let s : Scheme = definition_scheme N places e lo scope in
        let end : ℕ = lo + (pattern_numbers e.name + numbers e.value) in
        let inner : Scope = with_pattern (Reused places s) e.name lo scope in
        let up : end ≤ behind before end = behind_up before end in
        let g : Generalised places s K b = generalised_same places (λ n. n < lo) s (definition_depends N places (λ n. n < lo) e lo scope local) K a b
        (λ n. elim [ inl lt ↦ early n (omega arith) | inr i ↦ (let z : n < lo + (pattern_numbers e.name + numbers e.value) = i.1 in early n (omega arith)) ]) h.0 in
        let own : Sub = own_types places e.parameters in (
          twice.definition_joins N places ps c F0 G over wide one_label K D low apart I G good e lo scope scope scope (λ n i. earlier n (inr (inl i))) local j own own (twice.chosen_own N places ps c F0 G over wide one_label K D low apart e.parameters I G good (λ n i. earlier n (inl i))) a b h.0.0 g.0 h.0.1 g.1,
          lifted_typing before end inner (λ n i. earlier n (inr (inr i))) (behind_local N places e lo scope local) (twice.behind_joins N places ps c F0 G over wide one_label K D low apart I G good e lo scope scope scope (λ n i. earlier n (inr (inl i))) local j) early change h.1,
        )

  -- ---- with other types for the parameters' own
  pub good_back : Suits places K c ps → Good places K K D F0 low (back N.shapes places ps c F0 G over wide) G
  good_back suits = record {
    suited = back_suited N.shapes places ps c F0 G over wide K suits (variable_kind K);
    plain = λ n k h. (let lt : n < F0 = low n h in back_low N.shapes places ps c F0 G over wide n k (omega arith) ∙ chosen_other places c ps n k (apart n h));
    over = over;
  }

  pub follows_back : Suits places K c ps → (before : List Defined) → ((n : ℕ) → Parameter_in before n → D n) → Follows K K (back N.shapes places ps c F0 G over wide) G (scope_behind N places before 0 nothing) (scope_behind N places before 0 nothing)
  follows_back suits before earlier = behind_follows N places K K D F0 low (back N.shapes places ps c F0 G over wide) G (good_back suits) before 0 nothing nothing (λ n i. earlier n (declared_parameter before n i)) (λ b K a a' t e u. absurd u) (record { uses = λ b J su e a t u. absurd u; types = λ b J su e t u. absurd u })
