-- The walk of a typed program is never lost: what is known of its definitions is known by all types at which they may be used.
use Rattle.std.proofs.Common.{◌≡◌, Bool, true, false, ℕ, suc, ◌+◌, ◌<◌, refl, sym, ap, ◌∙◌, subst, arith, List, [], ◌∷◌, map, Option, None, Some, nat_eq, eq-eqb}
use mathlib.Core.Logic.{inl}
use native.Mathlib.Decide.{ℕ_discrete}
use Rattle.fut_scalar.specs.declared.place.BindId.{BindId}
use Rattle.fut_flat.specs.declared.program.Definition.{Definition}
use Rattle.fut_flat.specs.declared.program.Flat.{Flat}
use Rattle.fut_flat.specs.Numbers.{numbers}
use Rattle.fut_flat.specs.Erased.{FlatTerm, parameters, term_of}
use Rattle.fut_types.specs.declared.Kind.TheVariants as kind
use Rattle.fut_types.specs.Types.{Ty, Tys, none, more, Sub, Kinds, HasKind}
use Rattle.fut_typing.specs.Names.{Names, AreNames, count}
use Rattle.fut_typing.specs.Scopes.{Uses, Scope, nothing, with_uses}
use Rattle.fut_typing.specs.Patterns.{arrows}
use Rattle.fut_typing.specs.Generalised.{own_types, Scheme, Reused}
use Rattle.fut_typing.specs.Program.{defined, program_of, program_numbers, definition_scheme, Definitions_typed}
use Rattle.fut_typing.specs.Exact.{scope_behind}
use Rattle.fut_typing.proofs.Local.{AllLocal, all_local_more, local_parameters}
use Rattle.fut_typing.proofs.Exact.{behind_local}
use Rattle.fut_meaning.specs.Found.{Sizing}
use Rattle.fut_meaning.specs.Programs.{is_reached}
use Rattle.fut_meaning.specs.Flats.{is_flat_use, flat_tops, named_terms}
use Rattle.fut_meaning.specs.Knowns.{Known, Scope as Seen, empty, known_as, find_by, find}
use Rattle.fut_meaning.specs.Walk.{Visits, Definition_visits, d_none, d_reached, d_other}
use Rattle.fut_meaning.specs.Comes.{Comes, Lost, Definition_comes, c_here, c_later, c_other, comes_in_definition, comes_in_entry, Program_lost, lost_at, no_entry, entry_stuck}
use Rattle.fut_meaning.proofs.Names.{found_here, found_on}
use Rattle.fut_meaning.proofs.Walk.{some_same, none_some, opposite}
use Rattle.type_soundness.specs.Fits.{widest}
use Rattle.type_soundness.specs.Programs.{None_has, One_each}
use Rattle.type_soundness.specs.Knows.{Clear, Learns, Knows, Name_known, Names_known}
use Rattle.type_soundness.specs.Formed.{Heads_sized}
use Rattle.type_soundness.specs.Walks.{All_hold_data, Is_walkable, Walks_never_lost}
use Rattle.type_soundness.proofs.Knowing.{knows_learn}
use Rattle.type_soundness.proofs.Seeing.{names_learn, names_move, names_types}
use Rattle.type_soundness.proofs.Giving.{Takes, takes_data, takes_function, never_stuck, function_inside}
use Rattle.type_soundness.proofs.Walking.{Walks, walks_as}
use Rattle.type_soundness.proofs.Sure.{surely}
use Rattle.type_soundness.proofs.Sized.{Sized, Definitions_sized, definitions_sized, no_size, definitions_meant_formed, definitions_meant_apart}
use Rattle.type_soundness.proofs.Programs.{or_left, or_right, both, sized_uses, tops_of, Reached, definitions_only}

module _ (N : Names) (S : ℕ → Bool) (z : Option Sizing) (are : AreNames N) (K : Kinds) (a : Sub) (entry : BindId) where
  abbrev In_tops : Seen → (ℕ → Type 0) → Scope → Type 0
  In_tops tops P scope = Names_known N S tops P scope K a empty

  -- the definitions that are known are not among those that are left
  abbrev Left : Seen → List Definition → Type 0
  Left tops ds = (k : ℕ) (s : Known) → find tops k ≡ Some s → None_has k ds

  module _ (d : Definition) (ds : List Definition) (lo : ℕ) (scope : Scope) (all : AllLocal (λ n. n < lo) scope) where
    abbrev value : FlatTerm
    value = term_of d.value.now

    abbrev whole : Scheme
    whole = definition_scheme N kind.Data (defined d) lo scope

    abbrev newer : Known → Seen → Seen
    newer s tops = known_as (record { 0 = d.bind.0 }) s tops

    value_walks : (P : ℕ → Type 0) (tops : Seen) (c other : Sub) → ((n : ℕ) → n < lo → other n ≡ a n) → whole.typed c K other → Heads_sized S (parameters d.heads.now) → Sized S P value → lo + (1 + numbers value) < widest → In_tops tops P scope
        → Walks N S are P K tops empty value (other lo)
    value_walks P tops c other outside typed sizes walkable small h =
        walks_as N S are P K tops empty value (other (lo + 1)) (other lo) (sym typed.1)
        ((surely N S are P K value).0 (lo + 1) _ other tops empty (local_parameters (λ n. n < lo + 1) (parameters d.heads.now) c scope (all_local_more (λ n. n < lo) (λ n. n < lo + 1) scope (λ n p. omega (arith, p)) all)) typed.0.1 walkable (omega (arith, small))
        (names_types N S P K tops (parameters d.heads.now) c scope other empty sizes (names_move N S P K tops scope lo a other empty all outside h)))

    -- what is known of its value is known by each type of its uses
    each_use : (P : ℕ → Type 0) (tops : Seen) → Heads_sized S (parameters d.heads.now) → Sized S P value → lo + (1 + numbers value) < widest → In_tops tops P scope → (s : Known) (m n : ℕ) → Visits tops empty value s m n → (t : Ty) → Reused kind.Data whole lo K a t → Knows N S t tops s
    each_use P tops sizes walkable small h s m n v t u = let x = u.2.0 in
        subst (λ z. Knows N S z tops s) (sym u.2.1) ((value_walks P tops u.0 x.other (λ n p. x.outside n (inl p)) x.typed sizes walkable small h).1 s m n v)

    new_top : (tops : Seen) (w : Known) → Left tops (d ∷ ds) → S d.bind.0 ≡ false → Clear S tops → Learns S tops (newer w tops)
    new_top tops w left other clear = ((λ k s e. found_on (record { 0 = d.bind.0 }) w tops k (left k s e).0 ∙ e), (λ k is. found_on (record { 0 = d.bind.0 }) w tops k (λ e. opposite (ap S e ∙ is) other) ∙ clear k is))

    behind_known : (P Q : ℕ → Type 0) (tops : Seen) (w : Known) → ((k : ℕ) → Q k → P k) → Left tops (d ∷ ds) → S d.bind.0 ≡ false → ((t : Ty) → Reused kind.Data whole lo K a t → Knows N S t tops w) → In_tops tops P scope → In_tops (newer w tops) Q (with_uses d.bind.0 (Reused kind.Data whole lo) scope)
    unfolding find find_by
    behind_known P Q tops w into left other each h = let learns = new_top tops w left other h.definitions_clear in record {
      definitions_clear = learns.1;
      locals_clear = h.locals_clear;
      known = λ n q t. elim (ℕ_discrete n d.bind.0) as (λ x. (elim x as (λ x. Uses) [ yes e ↦ Reused kind.Data whole lo | no ne ↦ scope.uses n ]) K a t → Name_known N S (newer w tops) t (find (newer w tops) n) (S n)) [
        | yes e ↦ λ u. subst (Name_known N S (newer w tops) t (find (newer w tops) n)) (sym (ap S e ∙ other)) (w, found_here (record { 0 = d.bind.0 }) w tops n (sym e), knows_learn N S t tops (newer w tops) learns w (each t u))
        | no ne ↦ λ u. (names_learn N S P K tops (newer w tops) learns scope a empty h).known n (into n q) t u
      ];
    }

    behind_left : (P Q : ℕ → Type 0) (tops : Seen) → ((k : ℕ) → Q k → P k) → (Q d.bind.0 → ⊥) → In_tops tops P scope → In_tops tops Q (with_uses d.bind.0 (Reused kind.Data whole lo) scope)
    unfolding find find_by
    behind_left P Q tops into never h = record {
      definitions_clear = h.definitions_clear;
      locals_clear = h.locals_clear;
      known = λ n q t. elim (ℕ_discrete n d.bind.0) as (λ x. (elim x as (λ x. Uses) [ yes e ↦ Reused kind.Data whole lo | no ne ↦ scope.uses n ]) K a t → Name_known N S tops t (find tops n) (S n)) [
        | yes e ↦ λ u. absurd (never (subst Q e q))
        | no ne ↦ λ u. h.known n (into n q) t u
      ];
    }

    left_known : (tops : Seen) (w : Known) → None_has d.bind.0 ds → Left tops (d ∷ ds) → Left (newer w tops) ds
    left_known tops w once left k s e = elim (ℕ_discrete d.bind.0 k) as (λ x. None_has k ds) [
      | yes same ↦ subst (λ x. None_has x ds) same once
      | no ne ↦ (left k s (sym (found_on (record { 0 = d.bind.0 }) w tops k ne) ∙ e)).1
    ]

  -- behind all definitions
  abbrev Ends : List Definition → ℕ → Scope → Seen → Type 0
  Ends ds lo scope tops = In_tops tops (λ k. nat_eq k entry.0 ≡ true) (scope_behind N kind.Data (map defined ds) lo scope)

  abbrev Definitions_walk : List Definition → ℕ → Scope → Seen → Type 0
  Definitions_walk ds lo scope tops = ((n k : ℕ) (tops' sc : Seen) (e : FlatTerm) → Definition_comes z entry.0 tops (tops_of lo ds) n k tops' sc e → Lost tops' sc e → ⊥) × ((end : Seen) (m d : ℕ) → Definition_visits z entry.0 tops (tops_of lo ds) end m d → Ends ds lo scope end)

  -- what is asked of the definitions that are left
  record Ready (ds : List Definition) (lo : ℕ) (scope : Scope) (tops : Seen) : Type 0 where
    all : AllLocal (λ n. n < lo) scope
    typed : Definitions_typed N kind.Data (map defined ds) lo scope K a
    walkable : Definitions_sized S (map defined ds)
    once : One_each ds
    small : lo + program_numbers (map defined ds) < widest
    left : Left tops ds
    names : In_tops tops (Reached z entry lo ds) scope

  abbrev after : Definition → ℕ → ℕ
  after d lo = lo + (1 + numbers (term_of d.value.now))

  abbrev behind_scope : Definition → ℕ → Scope → Scope
  behind_scope d lo scope = with_uses d.bind.0 (Reused kind.Data (definition_scheme N kind.Data (defined d) lo scope) lo) scope

  abbrev is_next : Definition → List Definition → ℕ → Bool → Type 0
  is_next d ds lo b = is_reached is_flat_use z entry.0 (tops_of (after d lo) ds) d.bind.0 ≡ b

  reached_walkable : (d : Definition) (ds : List Definition) (lo : ℕ) (scope : Scope) (tops : Seen) → Ready (d ∷ ds) lo scope tops → is_next d ds lo true → Sized S (Reached z entry lo (d ∷ ds)) (term_of d.value.now)
  unfolding flat_tops
  reached_walkable d ds lo scope tops r e = sized_uses (Reached z entry lo (d ∷ ds)) S (term_of d.value.now) [] r.walkable.1 (λ k u. or_left _ _ (both _ _ e (or_left _ _ u)))

  ready_known : (d : Definition) (ds : List Definition) (lo : ℕ) (scope : Scope) (tops : Seen) → Ready (d ∷ ds) lo scope tops → is_next d ds lo true → (s : Known) (m n : ℕ) → Visits tops empty (term_of d.value.now) s m n
      → Ready ds (after d lo) (behind_scope d lo scope) (known_as (record { 0 = d.bind.0 }) s tops)
  unfolding flat_tops
  ready_known d ds lo scope tops r e s m n v = record {
    all = behind_local N kind.Data (defined d) lo scope r.all;
    typed = r.typed.1;
    walkable = r.walkable.2;
    once = r.once.1;
    small = let z = r.small in omega (arith, z);
    left = left_known d ds lo scope r.all tops s r.once.0 r.left;
    names = behind_known d ds lo scope r.all (Reached z entry lo (d ∷ ds)) (Reached z entry (after d lo) ds) tops s (λ k q. or_right _ _ q) r.left r.walkable.0.1
        (each_use d ds lo scope r.all (Reached z entry lo (d ∷ ds)) tops r.walkable.0.0 (reached_walkable d ds lo scope tops r e) (let z = r.small in omega (arith, z)) r.names s m n v) r.names;
  }

  ready_left : (d : Definition) (ds : List Definition) (lo : ℕ) (scope : Scope) (tops : Seen) → Ready (d ∷ ds) lo scope tops → is_next d ds lo false → Ready ds (after d lo) (behind_scope d lo scope) tops
  unfolding flat_tops
  ready_left d ds lo scope tops r e = record {
    all = behind_local N kind.Data (defined d) lo scope r.all;
    typed = r.typed.1;
    walkable = r.walkable.2;
    once = r.once.1;
    small = let z = r.small in omega (arith, z);
    left = λ k s x. (r.left k s x).1;
    names = behind_left d ds lo scope r.all (Reached z entry lo (d ∷ ds)) (Reached z entry (after d lo) ds) tops (λ k q. or_right _ _ q) (λ q. let z : true ≡ false = sym q ∙ e in cc) r.names;
  }

  first_walks : (d : Definition) (ds : List Definition) (lo : ℕ) (scope : Scope) (tops : Seen) → Ready (d ∷ ds) lo scope tops → is_next d ds lo true → (n k : ℕ) (sc : Seen) (e : FlatTerm) → Comes tops empty (term_of d.value.now) n k sc e → Lost tops sc e → ⊥
  first_walks d ds lo scope tops r e = (value_walks d ds lo scope r.all (Reached z entry lo (d ∷ ds)) tops (own_types kind.Data (parameters d.heads.now)) a (λ n p. refl) r.typed.0.0 r.walkable.0.0 (reached_walkable d ds lo scope tops r e) (let z = r.small in omega (arith, z)) r.names).0

  definitions_walk : (ds : List Definition) (lo : ℕ) (scope : Scope) (tops : Seen) → Ready ds lo scope tops → Definitions_walk ds lo scope tops
  unfolding flat_tops
  definitions_walk [] lo scope tops r = ((λ n k tops' sc e c l. comes n k tops' sc e c), (λ end m d v. visits end m d v))
    where
      comes : (n k : ℕ) (tops' sc : Seen) (e : FlatTerm) → Definition_comes z entry.0 tops [] n k tops' sc e → ⊥
      comes n k tops' sc e c = elim c [ ]

      visits : (end : Seen) (m d : ℕ) → Definition_visits z entry.0 tops [] end m d → Ends [] lo scope end
      visits _ _ _ d_none = r.names
  definitions_walk (d ∷ ds) lo scope tops r =
      ((λ n k tops' sc e c l. comes (λ tops x. definitions_walk ds (after d lo) (behind_scope d lo scope) tops x) n k tops' sc e c l), (λ end m k v. visits (λ tops x. definitions_walk ds (after d lo) (behind_scope d lo scope) tops x) end m k v))
    where
      comes : ((tops : Seen) → Ready ds (after d lo) (behind_scope d lo scope) tops → Definitions_walk ds (after d lo) (behind_scope d lo scope) tops) → (n k : ℕ) (tops' sc : Seen) (e : FlatTerm) → Definition_comes z entry.0 tops (tops_of lo (d ∷ ds)) n k tops' sc e → Lost tops' sc e → ⊥
      comes rec _ _ _ _ _ (c_here {sc = sc} {n = n} {k = k} {e = e} f c) l = first_walks d ds lo scope tops r f n k sc e c l
      comes rec _ _ _ _ _ (c_later {tops' = tops'} {sc = sc} {s = s} {m = m} {d = m'} {n = n} {k = k} {e = e} f v c) l = (rec (known_as (record { 0 = d.bind.0 }) s tops) (ready_known d ds lo scope tops r f s m m' v)).0 n k tops' sc e c l
      comes rec _ _ _ _ _ (c_other {tops' = tops'} {sc = sc} {n = n} {k = k} {e = e} f c) l = (rec tops (ready_left d ds lo scope tops r f)).0 n k tops' sc e c l

      visits : ((tops : Seen) → Ready ds (after d lo) (behind_scope d lo scope) tops → Definitions_walk ds (after d lo) (behind_scope d lo scope) tops) → (end : Seen) (m k : ℕ) → Definition_visits z entry.0 tops (tops_of lo (d ∷ ds)) end m k → Ends (d ∷ ds) lo scope end
      visits rec end _ _ (d_reached {s = s} {m = m} {d = k} {m' = m'} {d' = k'} f v w) = (rec (known_as (record { 0 = d.bind.0 }) s tops) (ready_known d ds lo scope tops r f s m k v)).1 end m' k' w
      visits rec end _ _ (d_other {m = m} {d = k} f w) = (rec tops (ready_left d ds lo scope tops r f)).1 end m k w

  entry_takes : (ts : Tys) (u : Ty) → All_hold_data K ts → HasKind K kind.Data u → Takes K (count ts) (arrows ts u)
  entry_takes none u h k = takes_data k
  entry_takes (more t ts) u h k = subst (λ n. Takes K n (arrows (more t ts) u)) (let z : suc (count ts) ≡ 1 + count ts = omega arith in z) (takes_function h.0 (entry_takes ts u h.1 k))

  module _ (ds : List Definition) (ts : Tys) (u : Ty) (used : (scope_behind N kind.Data (map defined ds) 0 nothing).uses entry.0 K a (arrows ts u)) (hold : All_hold_data K ts) (result : HasKind K kind.Data u) (walkable : Definitions_sized S (map defined ds)) (walk : Definitions_walk ds 0 nothing empty) where
    -- what is known of the entry
    entry_knows : (end : Seen) (m d : ℕ) → Definition_visits z entry.0 empty (tops_of 0 ds) end m d → (s : Known) × (find end entry.0 ≡ Some s) × Knows N S (arrows ts u) end s
    unfolding find find_by
    entry_knows end m d v =
        let other : S entry.0 ≡ false = definitions_only N kind.Data K a S entry.0 (arrows ts u) ds 0 nothing walkable (λ x. absurd x) used in
        subst (Name_known N S end (arrows ts u) (find end entry.0)) other ((walk.1 end m d v).known entry.0 (eq-eqb entry.0 entry.0 refl) (arrows ts u) used)

    entry_clear : (end : Seen) (m d : ℕ) → Definition_visits z entry.0 empty (tops_of 0 ds) end m d → Clear S end
    entry_clear end m d v = (walk.1 end m d v).definitions_clear

    entry_is : (end : Seen) (m d : ℕ) (s : Known) → Definition_visits z entry.0 empty (tops_of 0 ds) end m d → find end entry.0 ≡ Some s → Knows N S (arrows ts u) end s
    entry_is end m d s v e = let r = entry_knows end m d v in subst (λ x. Knows N S (arrows ts u) end x) (some_same (sym r.1 ∙ e)) r.2

    program_walks : Program_lost z entry.0 (count ts) (tops_of 0 ds) → ⊥
    program_walks (lost_at {tops = tops} {sc = sc} {t = t} (comes_in_definition {n = n} {k = k} c) l) = walk.0 n k tops sc t c l
    program_walks (lost_at {tops = tops} {t = t} (comes_in_entry {sc = sc} {sc' = sc'} {s = s} {m = m} {d = d} {n = n} {n' = n'} {k = k} {t = e} v f i c) l) =
        function_inside N S K (count ts) (arrows ts u) tops (entry_clear tops m d v) s (entry_takes ts u hold result) (entry_is tops m d s v f) n sc e i n' k sc' t c l
    program_walks (no_entry {tops = tops} {m = m} {d = d} v f) = let r = entry_knows tops m d v in none_some r.1 f
    program_walks (entry_stuck {tops = tops} {s = s} {m = m} {d = d} v f w) = never_stuck N S K (count ts) (arrows ts u) tops (entry_clear tops m d v) s (entry_takes ts u hold result) (entry_is tops m d s v f) w

pub sized_walks_never_lost : Walks_never_lost
unfolding find find_by
sized_walks_never_lost N are K a S z flat is entry ts u used hold result =
    let forms = definitions_sized S (program_of flat) is.formed is.apart in
    program_walks N S z are K a entry flat.definitions.now ts u used hold result forms (definitions_walk N S z are K a entry flat.definitions.now 0 nothing empty (record {
      all = λ b K x y t same h. absurd h;
      typed = is.typed;
      walkable = forms;
      once = is.once;
      small = let s = is.small in omega (arith, s);
      left = λ k v e. absurd (let z : None ≡ Some v = e in cc);
      names = record { definitions_clear = λ k is. refl; locals_clear = λ k is. refl; known = λ b p t h. absurd h };
    }))

-- where no size is bound
pub walks_never_lost : (N : Names) → AreNames N → (K : Kinds) (a : Sub) (z : Option Sizing) (flat : Flat) → Is_walkable N K a flat
    → (entry : BindId) (ts : Tys) (u : Ty) → (scope_behind N kind.Data (program_of flat) 0 nothing).uses entry.0 K a (arrows ts u) → All_hold_data K ts → HasKind K kind.Data u
    → Program_lost z entry.0 (count ts) (flat_tops 0 (named_terms flat)) → ⊥
walks_never_lost N are K a z flat is = sized_walks_never_lost N are K a no_size z flat (record { typed = is.typed; formed = definitions_meant_formed (program_of flat) is.walkable; apart = definitions_meant_apart (program_of flat) is.walkable; once = is.once; small = is.small })
