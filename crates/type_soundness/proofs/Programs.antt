-- A typed program has an outcome and never goes wrong: its definitions are evaluated to values of all types at which they may be used.
use Rattle.std.proofs.Common.{◌≡◌, Bool, true, false, ◌||◌, ◌&&◌, cond, ℕ, ◌+◌, ◌-◌, ◌≤◌, ◌<◌, refl, sym, ap, ◌∙◌, subst, arith, List, [], ◌∷◌, map, Option, nat_eq, eq-eqb, ne_eqb}
use mathlib.Core.Logic.{inl, inr}
use native.Mathlib.Decide.{ℕ_discrete}
use Rattle.fut_scalar.specs.declared.place.BindId.{BindId}
use Rattle.fut_scalar.specs.declared.scalar.IntType.{IntType}
use Rattle.fut_flat.specs.declared.prim.Ref.{Ref}
use Rattle.fut_flat.specs.declared.prim.Ref.TheVariants as ref
use Rattle.fut_flat.specs.declared.program.Definition.{Definition}
use Rattle.fut_flat.specs.declared.program.Flat.{Flat}
use Rattle.fut_flat.specs.Terms.{Use, Strict, Lambda, Apply, Let, If, Loop, Terms, no_term, term_and, Counted, Over, While}
use Rattle.fut_flat.specs.Numbers.{numbers}
use Rattle.fut_flat.specs.Erased.{FlatTerm, FlatTurns, parameters, term_of}
use Rattle.fut_types.specs.declared.Kind.{Kind}
use Rattle.fut_types.specs.declared.Kind.TheVariants as kind
use Rattle.fut_types.specs.Types.{Ty, Tys, none, more, Sub, Kinds, level}
use Rattle.fut_typing.specs.Names.{Names, AreNames}
use Rattle.fut_typing.specs.Scopes.{Uses, Scope, nothing, with_uses}
use Rattle.fut_typing.specs.Patterns.{arrows}
use Rattle.fut_typing.specs.Free.{is_within, has_types, is_free}
use Rattle.fut_typing.specs.Generalised.{own_types, Scheme, Reused, Generalised}
use Rattle.fut_typing.specs.Program.{defined, program_of, program_numbers, definition_scheme, Definitions_typed}
use Rattle.fut_typing.specs.Exact.{scope_behind}
use Rattle.fut_typing.proofs.Cong.{within_no}
use Rattle.fut_typing.proofs.Local.{AllLocal, all_local_more, local_parameters}
use Rattle.fut_typing.proofs.Exact.{behind_local}
use Rattle.fut_meaning.specs.Found.{Told, Sizing, unsized}
use Rattle.fut_meaning.specs.Outcomes.{Val, Fail, Wrong, the, Then, choose}
use Rattle.fut_meaning.specs.Values.{base, Evaluate}
use Rattle.fut_meaning.specs.Meaning.{plain, Ever}
use Rattle.fut_meaning.specs.Programs.{Seen, seeing, below_names, top, with_sizes, with_parameters, names_of, all_names_of, names_of_turns, has_use, have_use, turns_have_use, is_reached, evaluated, applied_to}
use Rattle.fut_meaning.specs.Flats.{FlatValue, FlatTop, FlatTops, FlatMode, flat_look, is_flat_use, flat_names, flat_tops, named_terms, Flat_means}
use Rattle.fut_meaning.specs.Claims.{HasOut, Safe, Some_outcome, Correct}
use Rattle.fut_meaning.proofs.Correct.{correct_exact, correct_then, correct_as}
use Rattle.fut_meaning.specs.Uses.{is_size_in}
use Rattle.type_soundness.specs.Fits.{Grows, lang, widest, Fits}
use Rattle.type_soundness.specs.Formed.{Heads_sized}
use Rattle.type_soundness.specs.Meant.{Use_meant, Meant, All_meant, Turns_meant, Literal, Literals_told}
use Rattle.type_soundness.specs.Environments.{Name_fits, Env_fits}
use Rattle.type_soundness.specs.Programs.{Definitions_told, None_has, One_each, Arguments_fit, Result_fits, Is_typed, Is_sized, Never_wrong, Has_outcome}
use Rattle.type_soundness.proofs.Growing.{grows_self, fits_grow}
use Rattle.type_soundness.proofs.Environments.{env_entered, env_grows, env_moves, env_types}
use Rattle.type_soundness.proofs.Sized.{Sized, All_sized, Turns_sized, Definitions_sized, definitions_sized, definitions_meant_formed, definitions_meant_apart}
use Rattle.type_soundness.proofs.Using.{function_fits}
use Rattle.type_soundness.proofs.Literals.{literal_kept}
use Rattle.type_soundness.proofs.Running.{running}
use Rattle.type_soundness.proofs.Applying.{Is_free}

pub or_left : (x y : Bool) → x ≡ true → (x || y) ≡ true
or_left true y e = refl
or_left false y e = absurd (let z : false ≡ true = e in cc)

pub or_right : (x y : Bool) → y ≡ true → (x || y) ≡ true
or_right true y e = refl
or_right false y e = e

pub both : (x y : Bool) → x ≡ true → y ≡ true → (x && y) ≡ true
both true y p q = q
both false y p q = absurd (let z : false ≡ true = p in cc)

-- a term uses names of P alone, if it has uses of no others
module _ (P : ℕ → Type 0) where
  abbrev pub Used_in : List BindId → FlatTerm → Type 0
  Used_in bs t = (k : ℕ) → has_use (λ cs r. is_flat_use tt cs r k) bs t ≡ true → P k

  pub use_of : (r : Ref) (bs : List BindId) → ((k : ℕ) → is_flat_use tt bs r k ≡ true → P k) → Use_meant P r
  use_of (ref.Bound b) bs h = h b.0 (eq-eqb b.0 b.0 refl)
  use_of (ref.Prim p) bs h = tt
  use_of (ref.Scalar s) bs h = tt

  mutual
    pub uses_of : (t : FlatTerm) (bs : List BindId) → Meant (λ k. Unit {0}) t → Used_in bs t → Meant P t
    uses_of (Use r at k) bs m h = use_of r bs h
    uses_of (Strict o mark ts) bs m h = (m.0, all_uses_of ts bs m.1 h)
    uses_of (Lambda ps e) bs m h = (m.0, uses_of e (all_names_of ps bs) m.1 h)
    uses_of (Apply f e) bs m h = (uses_of f bs m.0 (λ k u. h k (or_left _ _ u)), uses_of e bs m.1 (λ k u. h k (or_right _ _ u)))
    uses_of (Let b v e) bs m h = (m.0, uses_of v (with_parameters b.parameters bs) m.1 (λ k u. h k (or_left _ _ u)), uses_of e (names_of b.pattern (with_sizes b.sizes bs)) m.2 (λ k u. h k (or_right _ _ u)))
    uses_of (If c t e) bs m h = (uses_of c bs m.0 (λ k u. h k (or_left _ _ u)), uses_of t bs m.1 (λ k u. h k (or_right _ _ (or_left _ _ u))), uses_of e bs m.2 (λ k u. h k (or_right _ _ (or_right _ _ u))))
    uses_of (Loop mark sizes p first turns body) bs m h = (
      m.0,
      uses_of first bs m.1 (λ k u. h k (or_left _ _ u)),
      turn_uses_of turns bs (names_of p (with_sizes sizes bs)) m.2 (λ k u. h k (or_right _ _ (or_left _ _ u))),
      uses_of body (names_of_turns turns (names_of p (with_sizes sizes bs))) m.3 (λ k u. h k (or_right _ _ (or_right _ _ u))),
    )

    all_uses_of : (ts : Terms Ref BindId) (bs : List BindId) → All_meant (λ k. Unit {0}) ts → ((k : ℕ) → have_use (λ cs r. is_flat_use tt cs r k) bs ts ≡ true → P k) → All_meant P ts
    all_uses_of no_term bs m h = tt
    all_uses_of (term_and t ts) bs m h = (uses_of t bs m.0 (λ k u. h k (or_left _ _ u)), all_uses_of ts bs m.1 (λ k u. h k (or_right _ _ u)))

    turn_uses_of : (t : FlatTurns) (bs cs : List BindId) → Turns_meant (λ k. Unit {0}) t → ((k : ℕ) → turns_have_use (λ ds r. is_flat_use tt ds r k) bs cs t ≡ true → P k) → Turns_meant P t
    turn_uses_of (Counted i n) bs cs m h = uses_of n bs m h
    turn_uses_of (Over p e) bs cs m h = uses_of e bs m h
    turn_uses_of (While c) bs cs m h = uses_of c cs m h

  -- and so it is where names of sizes may be bound
  module _ (S : ℕ → Bool) where
    mutual
      pub sized_uses : (t : FlatTerm) (bs : List BindId) → Sized S (λ k. Unit {0}) t → Used_in bs t → Sized S P t
      sized_uses (Use r at k) bs m h = use_of r bs h
      sized_uses (Strict o mark ts) bs m h = (m.0, all_sized_uses ts bs m.1 h)
      sized_uses (Lambda ps e) bs m h = (m.0, sized_uses e (all_names_of ps bs) m.1 h)
      sized_uses (Apply f e) bs m h = (sized_uses f bs m.0 (λ k u. h k (or_left _ _ u)), sized_uses e bs m.1 (λ k u. h k (or_right _ _ u)))
      sized_uses (Let b v e) bs m h = (m.0, sized_uses v (with_parameters b.parameters bs) m.1 (λ k u. h k (or_left _ _ u)), sized_uses e (names_of b.pattern (with_sizes b.sizes bs)) m.2 (λ k u. h k (or_right _ _ u)))
      sized_uses (If c t e) bs m h = (sized_uses c bs m.0 (λ k u. h k (or_left _ _ u)), sized_uses t bs m.1 (λ k u. h k (or_right _ _ (or_left _ _ u))), sized_uses e bs m.2 (λ k u. h k (or_right _ _ (or_right _ _ u))))
      sized_uses (Loop mark sizes p first turns body) bs m h = (
        m.0,
        sized_uses first bs m.1 (λ k u. h k (or_left _ _ u)),
        turn_sized_uses turns bs (names_of p (with_sizes sizes bs)) m.2 (λ k u. h k (or_right _ _ (or_left _ _ u))),
        sized_uses body (names_of_turns turns (names_of p (with_sizes sizes bs))) m.3 (λ k u. h k (or_right _ _ (or_right _ _ u))),
      )

      all_sized_uses : (ts : Terms Ref BindId) (bs : List BindId) → All_sized S (λ k. Unit {0}) ts → ((k : ℕ) → have_use (λ cs r. is_flat_use tt cs r k) bs ts ≡ true → P k) → All_sized S P ts
      all_sized_uses no_term bs m h = tt
      all_sized_uses (term_and t ts) bs m h = (sized_uses t bs m.0 (λ k u. h k (or_left _ _ u)), all_sized_uses ts bs m.1 (λ k u. h k (or_right _ _ u)))

      turn_sized_uses : (t : FlatTurns) (bs cs : List BindId) → Turns_sized S (λ k. Unit {0}) t → ((k : ℕ) → turns_have_use (λ ds r. is_flat_use tt ds r k) bs cs t ≡ true → P k) → Turns_sized S P t
      turn_sized_uses (Counted i n) bs cs m h = sized_uses n bs m h
      turn_sized_uses (Over p e) bs cs m h = sized_uses e bs m h
      turn_sized_uses (While c) bs cs m h = sized_uses c cs m h

abbrev FlatSeen : Type 0
FlatSeen = Seen Ref BindId (Unit {0})

-- the definitions that are left, from a number on
abbrev pub tops_of : ℕ → List Definition → List FlatTop
tops_of lo ds = flat_tops lo (map (λ (d : Definition). (d.bind, term_of d.value.now)) ds)

-- a name is reached from the entry, through these definitions
abbrev pub Reached : Option Sizing → BindId → ℕ → List Definition → ℕ → Type 0
Reached sizes entry lo ds k = is_reached is_flat_use sizes entry.0 (tops_of lo ds) k ≡ true

module _ (N : Names) (are : AreNames N) (places : Kind) (K : Kinds) (a : Sub) (T : Told) (M : FlatMode) (budget : ℕ) (total : Bool) (free : Is_free M budget total) (wide : level kind.Data ≤ level places) (entry : BindId) where
  -- the numbers of sizes
  abbrev S : ℕ → Bool
  S = is_size_in T.sizes

  abbrev In_tops : FlatTops → (ℕ → Type 0) → Scope → Type 0
  In_tops tops P scope = Env_fits N T M budget total tops P scope K a (base tt)

  -- what was entered is no name
  seen_fits : (P : ℕ → Type 0) (tops : FlatTops) (scope : Scope) (seen : FlatSeen) → In_tops tops P scope → Env_fits N T M budget total tops P scope K a (below_names seen tt)
  seen_fits P tops scope [] h = h
  seen_fits P tops scope (d ∷ ds) h = env_entered N T M budget total P K tops d.0 d.1 scope a (below_names ds tt) (seen_fits P tops scope ds h)

  -- the definitions that were evaluated are not among those that are left
  abbrev Left : FlatTops → List Definition → Type 0
  Left tops ds = (k : ℕ) (v : FlatValue) → top tops k ≡ Val v → None_has k ds

  module _ (d : Definition) (ds : List Definition) (lo : ℕ) (scope : Scope) (all : AllLocal (λ n. n < lo) scope) where
    abbrev value : FlatTerm
    value = term_of d.value.now

    abbrev whole : Scheme
    whole = definition_scheme N places (defined d) lo scope

    value_runs : (P : ℕ → Type 0) (tops : FlatTops) (seen : FlatSeen) (c other : Sub) → ((n : ℕ) → n < lo → other n ≡ a n) → ((m : ℕ) → Literal value (lo + 1) m → other m ≡ a m) → whole.typed c K other → Heads_sized S (parameters d.heads.now) → Sized S P value → Literals_told T.integer_at a value (lo + 1)
        → lo + (1 + numbers value) < widest → In_tops tops P scope → Correct total (Fits N T M budget total (other lo) tops) (Ever (lang T tops) M budget (Evaluate (below_names seen tt) (1 + lo) value))
    value_runs P tops seen c other outside literals typed sizes meant told small h =
        correct_as (Fits N T M budget total (other (lo + 1)) tops) (Fits N T M budget total (other lo) tops) _
        (subst (λ n. Correct total (Fits N T M budget total (other (lo + 1)) tops) (Ever (lang T tops) M budget (Evaluate (below_names seen tt) n value))) (let z : lo + 1 ≡ 1 + lo = omega arith in z)
        (running N are T M budget total P places K free wide value (lo + 1) _ other tops (below_names seen tt) (local_parameters (λ n. n < lo + 1) (parameters d.heads.now) c scope (all_local_more (λ n. n < lo) (λ n. n < lo + 1) scope (λ n p. omega (arith, p)) all)) typed.0.1 meant (λ m l. literals m l ∙ told m l) (omega (arith, small))
        (env_types N T M budget total P K tops (parameters d.heads.now) c scope other (below_names seen tt) sizes (env_moves N T M budget total P K tops scope lo a other (below_names seen tt) all outside (seen_fits P tops scope seen h)))))
        (λ w k. subst (λ t. Fits N T M budget total t tops w) (sym typed.1) k)

    literal_stays : (other : Sub) → ((n : ℕ) → lo ≤ n → n < lo + (1 + numbers value) → whole.free n ≡ false → other n ≡ a n) → (m : ℕ) → Literal value (lo + 1) m → other m ≡ a m
    literal_stays other kept m l = let r = literal_kept value (lo + 1) m l in let r0 : lo + 1 ≤ m = r.0.0 in let r1 : m < lo + 1 + numbers value = r.0.1 in
        kept m (omega arith) (omega arith) (neither (is_within lo 1 m) (is_free (has_types (parameters d.heads.now)) value (lo + 1) m) (within_no lo 1 m (inr r0)) (r.1 (has_types (parameters d.heads.now))))
      where
        neither : (x y : Bool) → x ≡ false → y ≡ false → (x || y) ≡ false
        neither true y e k = absurd (let z : true ≡ false = e in cc)
        neither false y e k = k

    -- its value is of each type of its uses
    each_use : (P : ℕ → Type 0) (tops : FlatTops) (seen : FlatSeen) → Generalised places whole K a → Heads_sized S (parameters d.heads.now) → Sized S P value → Literals_told T.integer_at a value (lo + 1) → lo + (1 + numbers value) < widest → In_tops tops P scope
        → Correct total (λ w. (t : Ty) → Reused places whole lo K a t → Fits N T M budget total t tops w) (Ever (lang T tops) M budget (Evaluate (below_names seen tt) (1 + lo) value))
    each_use P tops seen g sizes meant told small h = record { safe = each; some = own.some }
      where
        own : Correct total (Fits N T M budget total (a lo) tops) (Ever (lang T tops) M budget (Evaluate (below_names seen tt) (1 + lo) value))
        own = value_runs P tops seen (own_types places (parameters d.heads.now)) a (λ n p. refl) (λ m l. refl) g.0 sizes meant told small h

        each : Safe (λ w. (t : Ty) → Reused places whole lo K a t → Fits N T M budget total t tops w) (Ever (lang T tops) M budget (Evaluate (below_names seen tt) (1 + lo) value))
        each (Val w) f y = λ t u.
            let x = u.2.0 in
            let is = value_runs P tops seen u.0 x.other (λ n p. x.outside n (inl p)) (literal_stays x.other x.kept) x.typed sizes meant told small h in
            subst (λ z. Fits N T M budget total z tops w) (sym u.2.1) (is.safe (Val w) f y)
        each (Fail r) f y = tt
        each Wrong f y = own.safe Wrong f y

    new_top : (tops : FlatTops) (w : FlatValue) → Left tops (d ∷ ds) → Grows tops ((d.bind.0, w) ∷ tops)
    new_top tops w left k v e = ap (λ b. cond b (Val w) (top tops k)) (ne_eqb d.bind.0 k (left k v e).0) ∙ e

    -- the names behind it, where it has been evaluated
    behind_evaluated : (P Q : ℕ → Type 0) (tops : FlatTops) (w : FlatValue) → ((k : ℕ) → Q k → P k) → Left tops (d ∷ ds) → S d.bind.0 ≡ false → ((t : Ty) → Reused places whole lo K a t → Fits N T M budget total t tops w) → In_tops tops P scope
        → In_tops ((d.bind.0, w) ∷ tops) Q (with_uses d.bind.0 (Reused places whole lo) scope)
    unfolding flat_look
    behind_evaluated P Q tops w into left other each h n q t = elim (ℕ_discrete n d.bind.0) as (λ x. (elim x as (λ x. Uses) [ yes e ↦ Reused places whole lo | no ne ↦ scope.uses n ]) K a t → Name_fits N T M budget total ((d.bind.0, w) ∷ tops) t (top ((d.bind.0, w) ∷ tops) n) (S n)) [
      | yes e ↦ λ u. subst (Name_fits N T M budget total ((d.bind.0, w) ∷ tops) t (top ((d.bind.0, w) ∷ tops) n)) (sym (ap S e ∙ other))
          (w, ap (λ b. cond b (Val w) (top tops n)) (eq-eqb d.bind.0 n (sym e)), fits_grow N T M budget total t tops ((d.bind.0, w) ∷ tops) (new_top tops w left) w (each t u))
      | no ne ↦ λ u. env_grows N T M budget total P K tops ((d.bind.0, w) ∷ tops) (new_top tops w left) scope a (base tt) h n (into n q) t u
    ]

    -- and where it has not been
    behind_left : (P Q : ℕ → Type 0) (tops : FlatTops) → ((k : ℕ) → Q k → P k) → (Q d.bind.0 → ⊥) → In_tops tops P scope → In_tops tops Q (with_uses d.bind.0 (Reused places whole lo) scope)
    unfolding flat_look
    behind_left P Q tops into never h n q t = elim (ℕ_discrete n d.bind.0) as (λ x. (elim x as (λ x. Uses) [ yes e ↦ Reused places whole lo | no ne ↦ scope.uses n ]) K a t → Name_fits N T M budget total tops t (top tops n) (S n)) [
      | yes e ↦ λ u. absurd (never (subst Q e q))
      | no ne ↦ λ u. h n (into n q) t u
    ]

    left_evaluated : (tops : FlatTops) (w : FlatValue) → None_has d.bind.0 ds → Left tops (d ∷ ds) → Left ((d.bind.0, w) ∷ tops) ds
    left_evaluated tops w once left k v e = elim (ℕ_discrete d.bind.0 k) as (λ x. None_has k ds) [
      | yes same ↦ subst (λ x. None_has x ds) same once
      | no ne ↦ (left k v (sym (ap (λ b. cond b (Val w) (top tops k)) (ne_eqb d.bind.0 k ne)) ∙ e)).1
    ]

  -- behind all definitions
  abbrev Ends : List Definition → ℕ → Scope → FlatTops → Type 0
  Ends ds lo scope tops = In_tops tops (λ k. nat_eq k entry.0 ≡ true) (scope_behind N places (map defined ds) lo scope)

  evaluated_fit : (ds : List Definition) (lo : ℕ) (scope : Scope) (seen : FlatSeen) (tops : FlatTops) → AllLocal (λ n. n < lo) scope → Definitions_typed N places (map defined ds) lo scope K a → Definitions_sized S (map defined ds) → Definitions_told T.integer_at a (map defined ds) lo → One_each ds
      → lo + program_numbers (map defined ds) < widest → Left tops ds → In_tops tops (Reached T.sizes entry lo ds) scope → Correct total (Ends ds lo scope) (evaluated (flat_names T) M budget entry.0 (tops_of lo ds) seen tops)
  unfolding flat_tops flat_names
  evaluated_fit [] lo scope seen tops all typed meant told once small left h = correct_exact (Ends [] lo scope) 0 (Val tops) h
  evaluated_fit (d ∷ ds) lo scope seen tops all typed meant told once small left h = known (is_reached is_flat_use T.sizes entry.0 (tops_of (lo + (1 + numbers (term_of d.value.now))) ds) d.bind.0) refl
      (λ scope seen tops all typed left h. evaluated_fit ds (lo + (1 + numbers (term_of d.value.now))) scope seen tops all typed meant.2 told.1 once.1 (omega (arith, small)) left h)
    where
      known : (b : Bool) → is_reached is_flat_use T.sizes entry.0 (tops_of (lo + (1 + numbers (term_of d.value.now))) ds) d.bind.0 ≡ b
          → ((scope : Scope) (seen : FlatSeen) (tops : FlatTops) → AllLocal (λ n. n < lo + (1 + numbers (term_of d.value.now))) scope → Definitions_typed N places (map defined ds) (lo + (1 + numbers (term_of d.value.now))) scope K a → Left tops ds → In_tops tops (Reached T.sizes entry (lo + (1 + numbers (term_of d.value.now))) ds) scope
          → Correct total (Ends ds (lo + (1 + numbers (term_of d.value.now))) scope) (evaluated (flat_names T) M budget entry.0 (tops_of (lo + (1 + numbers (term_of d.value.now))) ds) seen tops))
          → Correct total (Ends (d ∷ ds) lo scope) (choose b (Then (Ever (lang T tops) M budget (Evaluate (below_names seen tt) (1 + lo) (term_of d.value.now))) (λ v. evaluated (flat_names T) M budget entry.0 (tops_of (lo + (1 + numbers (term_of d.value.now))) ds) (seeing ((1 + lo) - 1) v seen) ((d.bind.0, v) ∷ tops)))
          (evaluated (flat_names T) M budget entry.0 (tops_of (lo + (1 + numbers (term_of d.value.now))) ds) seen tops))
      known true e rec =
          correct_then (λ w. (t : Ty) → Reused places (definition_scheme N places (defined d) lo scope) lo K a t → Fits N T M budget total t tops w) (Ends (d ∷ ds) lo scope) _ _
          (each_use d ds lo scope all (Reached T.sizes entry lo (d ∷ ds)) tops seen typed.0 meant.0.0 (sized_uses (Reached T.sizes entry lo (d ∷ ds)) S (term_of d.value.now) [] meant.1 (λ k u. or_left _ _ (both _ _ e (or_left _ _ u)))) told.0 (omega (arith, small)) h)
          (λ w each. rec (with_uses d.bind.0 (Reused places (definition_scheme N places (defined d) lo scope) lo) scope) (seeing ((1 + lo) - 1) w seen) ((d.bind.0, w) ∷ tops) (behind_local N places (defined d) lo scope all) typed.1 (left_evaluated d ds lo scope all tops w once.0 left)
          (behind_evaluated d ds lo scope all (Reached T.sizes entry lo (d ∷ ds)) (Reached T.sizes entry (lo + (1 + numbers (term_of d.value.now))) ds) tops w (λ k q. or_right _ _ q) left meant.0.1 each h))
      known false e rec = rec (with_uses d.bind.0 (Reused places (definition_scheme N places (defined d) lo scope) lo) scope) seen tops (behind_local N places (defined d) lo scope all) typed.1 (λ k v x. (left k v x).1)
          (behind_left d ds lo scope all (Reached T.sizes entry lo (d ∷ ds)) (Reached T.sizes entry (lo + (1 + numbers (term_of d.value.now))) ds) tops (λ k q. or_right _ _ q) (λ q. let z : true ≡ false = sym q ∙ e in cc) h)

  applied_fit : (ts : Tys) (u : Ty) (vs : List FlatValue) (tops : FlatTops) (f : FlatValue) → Fits N T M budget total (arrows ts u) tops f → Arguments_fit N T M budget total ts vs → Correct total (Result_fits N T M budget total u) (applied_to (flat_names T) (Ever (lang T tops) M budget) vs f)
  applied_fit none u [] tops f h k = correct_exact (Result_fits N T M budget total u) 0 (Val f) (tops, h)
  applied_fit none u (v ∷ vs) tops f h k = absurd k
  applied_fit (more t ts) u [] tops f h k = absurd k
  applied_fit (more t ts) u (v ∷ vs) tops f h k =
      correct_then (Fits N T M budget total (arrows ts u) tops) (Result_fits N T M budget total u) _ _ (function_fits N T M budget total K tops t (arrows ts u) f h tops (grows_self tops) v (k.0 tops)) (λ g r. applied_fit ts u vs tops g r k.1)

plain_free : (tight : Bool) (budget : ℕ) (total : Bool) → Is_free (plain tight) budget total
unfolding plain
plain_free tight budget total = record { reports = refl; operators = λ t L k f any ne xs. tt; writes = λ t ws. tt }

-- a name that may be used behind definitions, and not before them, is none of a size
pub definitions_only : (N : Names) (places : Kind) (K : Kinds) (a : Sub) (is_size : ℕ → Bool) (b : ℕ) (t : Ty) (ds : List Definition) (lo : ℕ) (scope : Scope) → Definitions_sized is_size (map defined ds) → (scope.uses b K a t → is_size b ≡ false) → (scope_behind N places (map defined ds) lo scope).uses b K a t → is_size b ≡ false
definitions_only N places K a is_size b t [] lo scope formed before u = before u
definitions_only N places K a is_size b t (d ∷ ds) lo scope formed before u =
    definitions_only N places K a is_size b t ds (lo + (1 + numbers (term_of d.value.now))) (with_uses d.bind.0 (Reused places (definition_scheme N places (defined d) lo scope) lo) scope) formed.2
    (elim (ℕ_discrete b d.bind.0) as (λ x. (elim x as (λ x. Uses) [ yes e ↦ Reused places (definition_scheme N places (defined d) lo scope) lo | no ne ↦ scope.uses b ]) K a t → is_size b ≡ false) [ yes e ↦ λ h. ap is_size e ∙ formed.0.1 | no ne ↦ before ]) u

module _ (N : Names) (are : AreNames N) (places : Kind) (K : Kinds) (a : Sub) (T : Told) (tight : Bool) (budget : ℕ) (total : Bool) (flat : Flat) (is : Is_sized N places K a T flat) (entry : BindId) (ts : Tys) (u : Ty) (vs : List FlatValue) where
  forms : Definitions_sized (is_size_in T.sizes) (program_of flat)
  forms = definitions_sized (is_size_in T.sizes) (program_of flat) is.formed is.apart

  abbrev Fitting : FlatTops → FlatValue → Type 0
  Fitting tops v = Fits N T (plain tight) budget total (arrows ts u) tops v

  abbrev In_scope : Type 0
  In_scope = (scope_behind N places (program_of flat) 0 nothing).uses entry.0 K a (arrows ts u)

  -- the entry has been evaluated
  entry_fits : (tops : FlatTops) → In_scope → Ends N are places K a T (plain tight) budget total (plain_free tight budget total) is.holds_data entry flat.definitions.now 0 nothing tops → HasOut (Fitting tops) (top tops entry.0)
  unfolding flat_look
  entry_fits tops used h =
      let other : is_size_in T.sizes entry.0 ≡ false = definitions_only N places K a (is_size_in T.sizes) entry.0 (arrows ts u) flat.definitions.now 0 nothing forms (λ x. absurd x) used in
      let r : Name_fits N T (plain tight) budget total tops (arrows ts u) (top tops entry.0) false = subst (Name_fits N T (plain tight) budget total tops (arrows ts u) (top tops entry.0)) other (h entry.0 (eq-eqb entry.0 entry.0 refl) (arrows ts u) used) in
      subst (λ o. HasOut (Fitting tops) o) (sym r.1) r.2

  correct : In_scope → Arguments_fit N T (plain tight) budget total ts vs → Correct total (Result_fits N T (plain tight) budget total u) (Flat_means T (plain tight) budget (named_terms flat) entry vs)
  unfolding flat_look
  correct used fit =
      correct_then (Ends N are places K a T (plain tight) budget total (plain_free tight budget total) is.holds_data entry flat.definitions.now 0 nothing) (Result_fits N T (plain tight) budget total u) (evaluated (flat_names T) (plain tight) budget entry.0 (tops_of 0 flat.definitions.now) [] []) _
      (evaluated_fit N are places K a T (plain tight) budget total (plain_free tight budget total) is.holds_data entry flat.definitions.now 0 nothing [] [] (λ b K x y t same h. absurd h) is.typed forms is.told is.once (let s = is.small in omega (arith, s)) (λ k v e. absurd (let z : Wrong ≡ Val v = e in cc)) (λ b p t h. absurd h))
      (λ tops h. correct_then (Fitting tops) (Result_fits N T (plain tight) budget total u) (the (top tops entry.0)) _ (correct_exact (Fitting tops) 0 (top tops entry.0) (entry_fits tops used h))
      (λ f k. applied_fit N are places K a T (plain tight) budget total (plain_free tight budget total) is.holds_data entry ts u vs tops f k fit))

pub sized_never_wrong : Never_wrong
sized_never_wrong N are places K a T tight budget flat is entry ts u vs used fit = (correct N are places K a T tight budget false flat is entry ts u vs used fit).safe

pub sized_has_outcome : Has_outcome
sized_has_outcome N are places K a T tight budget flat is entry ts u vs used fit = (correct N are places K a T tight budget true flat is entry ts u vs used fit).some refl

-- ---- where no size is bound, what a typing alone tells is enough
pub is_sized : {N : Names} {places : Kind} {K : Kinds} {a : Sub} {integer_at : ℕ → IntType} {flat : Flat} → Is_typed N places K a integer_at flat → Is_sized N places K a (unsized integer_at) flat
is_sized {flat = flat} is = record {
  holds_data = is.holds_data;
  typed = is.typed;
  formed = definitions_meant_formed (program_of flat) is.meant;
  apart = definitions_meant_apart (program_of flat) is.meant;
  told = is.told;
  once = is.once;
  small = is.small;
}

module _ (N : Names) (are : AreNames N) (places : Kind) (K : Kinds) (a : Sub) (T : Told) (tight : Bool) (budget : ℕ) (flat : Flat) (is : Is_typed N places K a T.integer_at flat) (entry : BindId) (ts : Tys) (u : Ty) (vs : List FlatValue) where
  abbrev typing : Told
  typing = unsized T.integer_at

  pub never_wrong : (scope_behind N places (program_of flat) 0 nothing).uses entry.0 K a (arrows ts u) → Arguments_fit N typing (plain tight) budget false ts vs → Safe (Result_fits N typing (plain tight) budget false u) (Flat_means typing (plain tight) budget (named_terms flat) entry vs)
  never_wrong used fit = sized_never_wrong N are places K a typing tight budget flat (is_sized is) entry ts u vs used fit

  pub has_outcome : (scope_behind N places (program_of flat) 0 nothing).uses entry.0 K a (arrows ts u) → Arguments_fit N typing (plain tight) budget true ts vs → Some_outcome (Flat_means typing (plain tight) budget (named_terms flat) entry vs)
  has_outcome used fit = sized_has_outcome N are places K a typing tight budget flat (is_sized is) entry ts u vs used fit
