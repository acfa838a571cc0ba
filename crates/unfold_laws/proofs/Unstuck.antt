-- The unfolding of a typed program is never stuck, and its blocks are well typed: its definitions are known at all types at which
-- they may be used.
use Rattle.std.proofs.Common.{◌≡◌, Bool, true, false, ◌||◌, cond, ℕ, ◌+◌, ◌-◌, ◌≤◌, ◌<◌, ◌++◌, refl, sym, ap, ◌∙◌, subst, arith, List, [], ◌∷◌, map, length, Option, Some, None, nat_eq, eq-eqb, ne_eqb}
use mathlib.Core.Logic.{inl, inr}
use native.Mathlib.Decide.{ℕ_discrete}
use Rattle.fut_meaning.specs.Found.{Told, Sizing}
use Rattle.fut_scalar.specs.declared.place.BindId.{BindId}
use Rattle.fut_flat.specs.declared.program.Definition.{Definition}
use Rattle.fut_flat.specs.declared.program.Flat.{Flat}
use Rattle.fut_flat.specs.Numbers.{numbers}
use Rattle.fut_flat.specs.Erased.{FlatTerm, parameters, term_of}
use Rattle.fut_types.specs.declared.Kind.TheVariants as kind
use Rattle.fut_types.specs.Types.{Ty, Tys, none, more, Sub, Kinds, HasKind}
use Rattle.fut_typing.specs.Names.{Names, AreNames, count}
use Rattle.fut_typing.specs.Scopes.{Uses, Scope, nothing, with_uses}
use Rattle.fut_typing.specs.Patterns.{arrows}
use Rattle.fut_typing.specs.Free.{is_within, has_types, is_free}
use Rattle.fut_typing.specs.Generalised.{own_types, Scheme, Reused}
use Rattle.fut_typing.specs.Program.{program_of, defined, program_numbers, definition_scheme, Definitions_typed}
use Rattle.fut_typing.specs.Exact.{scope_behind}
use Rattle.fut_typing.proofs.Cong.{within_no}
use Rattle.fut_typing.proofs.Local.{AllLocal, all_local_more, local_parameters}
use Rattle.fut_typing.proofs.Exact.{behind_local}
use Rattle.fut_meaning.specs.Knowns.{or_else}
use Rattle.fut_meaning.specs.Programs.{is_reached}
use Rattle.fut_meaning.specs.Flats.{is_flat_use, flat_tops}
use Rattle.fut_blocks.specs.declared.block.Atom.{Atom}
use Rattle.fut_blocks.specs.declared.block.Program.{Program}
use Rattle.fut_blocks.specs.Meaning.{look}
use Rattle.fut_blocks.specs.Plain.{body_of}
use Rattle.type_soundness.specs.Fits.{widest}
use Rattle.fut_meaning.specs.Uses.{is_size_in}
use Rattle.type_soundness.specs.Formed.{Heads_sized}
use Rattle.type_soundness.proofs.Sized.{Sized, Definitions_sized, definitions_sized}
use Rattle.type_soundness.specs.Meant.{Literal, Literals_told}
use Rattle.type_soundness.specs.Programs.{Definitions_told, None_has, One_each, Is_sized}
use Rattle.type_soundness.proofs.Literals.{literal_kept}
use Rattle.type_soundness.proofs.Programs.{or_left, or_right, both, sized_uses, definitions_only, tops_of, Reached}
use Rattle.unfold.specs.Knowns.{Known, Knowns, no_known, known_and, Scope as Seen, no_name, names_in, nothing_seen, Tops, listed, find, local_by, local}
use Rattle.unfold.specs.Programs as opened
use Rattle.unfold.specs.Telling.{is_function, enter}
use Rattle.unfold.specs.Programs.{Definitions_unfold, d_none, d_reached, d_other, Program_unfolds}
use Rattle.unfold.specs.Shapes.{Shape, Scalar_shape, Shapes, Laid, laid_scalar, laid_tuple, All_laid, laid_none, laid_more}
use Rattle.unfold.specs.Stuck.{Definitions_stuck, stuck_definition, stuck_next, stuck_other, Stuck_runs, stuck_run, stuck_on, Program_stuck, in_definitions, no_entry, in_entry, no_result}
use Rattle.unfold.specs.Unfolding.{Bindings, names, Unfolds, Applies_all, a_none, a_more}
use Rattle.unfold_laws.specs.Entered.{All_in_known, All_entered}
use Rattle.unfold_laws.specs.Claims.{UnfoldingNeverStuck, UnfoldedWellTyped}
use Rattle.unfold_laws.specs.Components.{components, all_components}
use Rattle.unfold_laws.specs.Fits.{Given, Context, behind, World, Keeps_tops, types_of, Steps_typed, Learns, Comes, Runs_well, Is_data, All_data, Fits, All_fit, Name_fits, Names_fit}
use Rattle.unfold_laws.specs.Shaped.{Of_shape, scalar_of_shape, array_of_shape, tuple_of_shape, All_of_shapes, none_of_shapes, more_of_shapes}
use Rattle.unfold_laws.specs.Typed.{Are, Stands, of_constants, with_names, Body_typed, any_types}
use Rattle.unfold_laws.proofs.Fitting.{some_same, none_some, stands_learn, fits_learn, fits_stand, all_fit_learn, kind_data}
use Rattle.unfold_laws.proofs.Functions.{function_fits}
use Rattle.unfold_laws.proofs.Going.{Goes, goes_as}
use Rattle.unfold_laws.proofs.Seeing.{names_learn, names_move, names_types}
use Rattle.unfold_laws.proofs.Shaping.{shaped, laid_are}
use Rattle.unfold_laws.proofs.Surely.{surely}
use Rattle.unfold_laws.proofs.Entered.{entered_as}
use Rattle.unfold_laws.proofs.Telling.{enter_all}
use Rattle.unfold_laws.proofs.TypedSteps.{are_kept, behind_keeps, steps_then, behind_then, block_typed, learns_steps, comes_none, comes_then, stand_are}

module _ (N : Names) (are : AreNames N) (K : Kinds) (a : Sub) (T : Told) (entry : BindId) where
  abbrev At : World → Ty → Known → Type 0
  At world t s = Fits N T K t world s

  -- the numbers of sizes
  abbrev S : ℕ → Bool
  S = is_size_in T.sizes

  abbrev In_tops : World → (ℕ → Type 0) → Scope → Type 0
  In_tops world P scope = Names_fit N T world P scope K a nothing_seen

  -- what the definitions begin with has no names, and of what was entered each atom stands for data
  record Begins (C : Context) (seen : Seen) : Type 0 where
    nameless : names_in seen ≡ no_name
    entries : All_entered (Stands (types_of N K C)) seen

  same_names : (world : World) (seen : Seen) (k : ℕ) → names_in seen ≡ no_name → find world.0 nothing_seen k ≡ find world.0 seen k
  unfolding find local local_by
  same_names world seen k e = ap (λ z. or_else (local_by k z k) (look world.0 k)) (sym e)

  seen_fits : (world : World) (P : ℕ → Type 0) (scope : Scope) (seen : Seen) → Begins world.1 seen → In_tops world P scope → Names_fit N T world P scope K a seen
  seen_fits world P scope seen begins h = (begins.entries, λ b p t u. subst (λ o. Name_fits N T K world t o (is_size_in T.sizes b)) (same_names world seen b begins.nameless) (h.1 b p t u))

  begins_learn : (world world' : World) (seen : Seen) → Learns N K world world' → Begins world.1 seen → Begins world'.1 seen
  begins_learn world world' seen l b = record { nameless = b.nameless; entries = entered_as _ _ (stands_learn N T K world world' l) seen b.entries }

  begins_seeing : (C : Context) (q : ℕ) (s : Known) (seen : Seen) → All_in_known (Stands (types_of N K C)) s → Begins C seen → Begins C (opened.seeing T.sizes q s seen)
  begins_seeing C q s seen h b = record { nameless = nameless_if (is_function s) T.sizes; entries = entries_if (is_function s) }
    where
      nameless_if : (is : Bool) (z : Option Sizing) → names_in (cond is seen (enter z q s seen)) ≡ no_name
      nameless_if true z = b.nameless
      nameless_if false None = b.nameless
      nameless_if false (Some Z) = b.nameless

      entries_if : (is : Bool) → All_entered (Stands (types_of N K C)) (cond is seen (enter T.sizes q s seen))
      entries_if true = b.entries
      entries_if false = enter_all (Stands (types_of N K C)) T.sizes q s seen h b.entries

  -- the definitions that are known are not among those that are left
  abbrev Left : Tops → List Definition → Type 0
  Left tops ds = (k : ℕ) (s : Known) → look tops k ≡ Some s → None_has k ds

  module _ (d : Definition) (ds : List Definition) (lo : ℕ) (scope : Scope) (all : AllLocal (λ n. n < lo) scope) where
    abbrev value : FlatTerm
    value = term_of d.value.now

    abbrev whole : Scheme
    whole = definition_scheme N kind.Data (defined d) lo scope

    value_goes : (P : ℕ → Type 0) (world : World) (seen : Seen) (c other : Sub) → ((n : ℕ) → n < lo → other n ≡ a n) → ((m : ℕ) → Literal value (lo + 1) m → other m ≡ a m) → whole.typed c K other → Heads_sized S (parameters d.heads.now) → Sized S P value → Literals_told T.integer_at a value (lo + 1)
        → lo + (1 + numbers value) < widest → Begins world.1 seen → In_tops world P scope → Goes N are T P K world seen (1 + lo) value (other lo)
    value_goes P world seen c other outside literals typed sizes meant lits small begins h =
        goes_as N are T P K world seen (1 + lo) value (other (lo + 1)) (other lo) (sym typed.1)
        (subst (λ n. Goes N are T P K world seen n value (other (lo + 1))) (let z : lo + 1 ≡ 1 + lo = omega arith in z)
        (surely N are T P K value (lo + 1) _ other world seen (local_parameters (λ n. n < lo + 1) (parameters d.heads.now) c scope (all_local_more (λ n. n < lo) (λ n. n < lo + 1) scope (λ n p. omega (arith, p)) all)) typed.0.1 meant (λ m l. literals m l ∙ lits m l) (omega (arith, small))
        (names_types N T P K world (parameters d.heads.now) c scope other seen sizes (names_move N T P K world scope lo a other seen all outside (seen_fits world P scope seen begins h)))))

    literal_stays : (other : Sub) → ((n : ℕ) → lo ≤ n → n < lo + (1 + numbers value) → whole.free n ≡ false → other n ≡ a n) → (m : ℕ) → Literal value (lo + 1) m → other m ≡ a m
    literal_stays other kept m l = let r = literal_kept value (lo + 1) m l in let r0 : lo + 1 ≤ m = r.0.0 in let r1 : m < lo + 1 + numbers value = r.0.1 in
        kept m (omega arith) (omega arith) (neither (is_within lo 1 m) (is_free (has_types (parameters d.heads.now)) value (lo + 1) m) (within_no lo 1 m (inr r0)) (r.1 (has_types (parameters d.heads.now))))
      where
        neither : (x y : Bool) → x ≡ false → y ≡ false → (x || y) ≡ false
        neither true y e k = absurd (let z : true ≡ false = e in cc)
        neither false y e k = k

    -- what is known of its value is known at each type of its uses
    each_use : (P : ℕ → Type 0) (world : World) (seen : Seen) → Heads_sized S (parameters d.heads.now) → Sized S P value → Literals_told T.integer_at a value (lo + 1) → lo + (1 + numbers value) < widest → Begins world.1 seen → In_tops world P scope
        → (n n' : ℕ) (bs : Bindings) (s : Known) → Unfolds T world.0 seen (1 + lo) value n bs s n' → (t : Ty) → Reused kind.Data whole lo K a t → At (world.0, behind world.1 bs) t s
    each_use P world seen sizes meant lits small begins h n n' bs s v t u = let x = u.2.0 in
        subst (λ z. At (world.0, behind world.1 bs) z s) (sym u.2.1) ((value_goes P world seen u.0 x.other (λ n p. x.outside n (inl p)) (literal_stays x.other x.kept) x.typed sizes meant lits small begins h).1 n n' bs s v).1

    new_top : (tops : Tops) (w : Known) → Left tops (d ∷ ds) → Keeps_tops tops ((d.bind.0, w) ∷ tops)
    new_top tops w left k s e = ap (λ b. cond b (Some w) (look tops k)) (ne_eqb d.bind.0 k (left k s e).0) ∙ e

    new_world : (tops : Tops) (C : Context) (w : Known) → Left tops (d ∷ ds) → Learns N K (tops, C) ((d.bind.0, w) ∷ tops, C)
    new_world tops C w left = (new_top tops w left, (λ u t h. h))

    -- the names behind it, where it is known
    behind_known : (P Q : ℕ → Type 0) (tops : Tops) (C : Context) (w : Known) → ((k : ℕ) → Q k → P k) → Left tops (d ∷ ds) → S d.bind.0 ≡ false → ((t : Ty) → Reused kind.Data whole lo K a t → At (tops, C) t w) → In_tops (tops, C) P scope → In_tops ((d.bind.0, w) ∷ tops, C) Q (with_uses d.bind.0 (Reused kind.Data whole lo) scope)
    unfolding find local local_by
    behind_known P Q tops C w into left other each h = (
      tt,
      λ n q t. elim (ℕ_discrete n d.bind.0) as (λ x. (elim x as (λ x. Uses) [ yes e ↦ Reused kind.Data whole lo | no ne ↦ scope.uses n ]) K a t → Name_fits N T K ((d.bind.0, w) ∷ tops, C) t (look ((d.bind.0, w) ∷ tops) n) (S n)) [
        | yes e ↦ λ u. subst (Name_fits N T K ((d.bind.0, w) ∷ tops, C) t (look ((d.bind.0, w) ∷ tops) n)) (sym (ap S e ∙ other))
            (w, ap (λ b. cond b (Some w) (look tops n)) (eq-eqb d.bind.0 n (sym e)), fits_learn N T K t (tops, C) ((d.bind.0, w) ∷ tops, C) (new_world tops C w left) w (each t u))
        | no ne ↦ λ u. (names_learn N T P K (tops, C) ((d.bind.0, w) ∷ tops, C) (new_world tops C w left) scope a nothing_seen h).1 n (into n q) t u
      ],
    )

    -- and where it is not
    behind_left : (P Q : ℕ → Type 0) (world : World) → ((k : ℕ) → Q k → P k) → (Q d.bind.0 → ⊥) → In_tops world P scope → In_tops world Q (with_uses d.bind.0 (Reused kind.Data whole lo) scope)
    unfolding find local local_by
    behind_left P Q world into never h = (
      tt,
      λ n q t. elim (ℕ_discrete n d.bind.0) as (λ x. (elim x as (λ x. Uses) [ yes e ↦ Reused kind.Data whole lo | no ne ↦ scope.uses n ]) K a t → Name_fits N T K world t (look world.0 n) (S n)) [
        | yes e ↦ λ u. absurd (never (subst Q e q))
        | no ne ↦ λ u. h.1 n (into n q) t u
      ],
    )

    left_known : (tops : Tops) (w : Known) → None_has d.bind.0 ds → Left tops (d ∷ ds) → Left ((d.bind.0, w) ∷ tops) ds
    left_known tops w once left k s e = elim (ℕ_discrete d.bind.0 k) as (λ x. None_has k ds) [
      | yes same ↦ subst (λ x. None_has x ds) same once
      | no ne ↦ (left k s (sym (ap (λ b. cond b (Some w) (look tops k)) (ne_eqb d.bind.0 k ne)) ∙ e)).1
    ]

  -- behind all definitions
  abbrev Ends : List Definition → ℕ → Scope → World → Type 0
  Ends ds lo scope world = In_tops world (λ k. nat_eq k entry.0 ≡ true) (scope_behind N kind.Data (map defined ds) lo scope)

  abbrev Definitions_go : List Definition → ℕ → Scope → Seen → Tops → Context → Type 0
  Definitions_go ds lo scope seen tops C = (Definitions_stuck T entry.0 seen tops (tops_of lo ds) → ⊥) × ((n n' : ℕ) (bs : Bindings) (end : Tops) → Definitions_unfold T entry.0 seen tops (tops_of lo ds) n bs end n' → Steps_typed N K C bs × Ends ds lo scope (end, behind C bs))

  -- what is asked of the definitions that are left
  record Ready (ds : List Definition) (lo : ℕ) (scope : Scope) (seen : Seen) (tops : Tops) (C : Context) : Type 0 where
    all : AllLocal (λ n. n < lo) scope
    typed : Definitions_typed N kind.Data (map defined ds) lo scope K a
    meant : Definitions_sized S (map defined ds)
    told : Definitions_told T.integer_at a (map defined ds) lo
    once : One_each ds
    small : lo + program_numbers (map defined ds) < widest
    left : Left tops ds
    begins : Begins C seen
    names : In_tops (tops, C) (Reached T.sizes entry lo ds) scope

  abbrev after : Definition → ℕ → ℕ
  after d lo = lo + (1 + numbers (term_of d.value.now))

  abbrev behind_scope : Definition → ℕ → Scope → Scope
  behind_scope d lo scope = with_uses d.bind.0 (Reused kind.Data (definition_scheme N kind.Data (defined d) lo scope) lo) scope

  abbrev is_next : Definition → List Definition → ℕ → Bool → Type 0
  is_next d ds lo b = is_reached is_flat_use T.sizes entry.0 (tops_of (after d lo) ds) d.bind.0 ≡ b

  reached_meant : (d : Definition) (ds : List Definition) (lo : ℕ) (scope : Scope) (seen : Seen) (tops : Tops) (C : Context) → Ready (d ∷ ds) lo scope seen tops C → is_next d ds lo true → Sized S (Reached T.sizes entry lo (d ∷ ds)) (term_of d.value.now)
  unfolding flat_tops
  reached_meant d ds lo scope seen tops C r e = sized_uses (Reached T.sizes entry lo (d ∷ ds)) S (term_of d.value.now) [] r.meant.1 (λ k u. or_left _ _ (both _ _ e (or_left _ _ u)))

  first_goes : (d : Definition) (ds : List Definition) (lo : ℕ) (scope : Scope) (seen : Seen) (tops : Tops) (C : Context) → Ready (d ∷ ds) lo scope seen tops C → is_next d ds lo true → Goes N are T (Reached T.sizes entry lo (d ∷ ds)) K (tops, C) seen (1 + lo) (term_of d.value.now) (a lo)
  first_goes d ds lo scope seen tops C r e = value_goes d ds lo scope r.all (Reached T.sizes entry lo (d ∷ ds)) (tops, C) seen (own_types kind.Data (parameters d.heads.now)) a (λ n p. refl) (λ m l. refl) r.typed.0.0 r.meant.0.0 (reached_meant d ds lo scope seen tops C r e) r.told.0 (let z = r.small in omega (arith, z)) r.begins r.names

  ready_known : (d : Definition) (ds : List Definition) (lo : ℕ) (scope : Scope) (seen : Seen) (tops : Tops) (C : Context) → Ready (d ∷ ds) lo scope seen tops C → is_next d ds lo true → (n n' : ℕ) (bs : Bindings) (s : Known) → Unfolds T tops seen (1 + lo) (term_of d.value.now) n bs s n'
      → Ready ds (after d lo) (behind_scope d lo scope) (opened.seeing T.sizes ((1 + lo) - 1) s seen) ((d.bind.0, s) ∷ tops) (behind C bs)
  unfolding flat_tops
  ready_known d ds lo scope seen tops C r e n n' bs s v = record {
    all = behind_local N kind.Data (defined d) lo scope r.all;
    typed = r.typed.1;
    meant = r.meant.2;
    told = r.told.1;
    once = r.once.1;
    small = let z = r.small in omega (arith, z);
    left = left_known d ds lo scope r.all tops s r.once.0 r.left;
    begins = begins_seeing (behind C bs) ((1 + lo) - 1) s seen (fits_stand N T K (tops, behind C bs) (a lo) s ((first_goes d ds lo scope seen tops C r e).1 n n' bs s v).1) (begins_learn (tops, C) (tops, behind C bs) seen (learns_steps N K bs (tops, C)) r.begins);
    names = behind_known d ds lo scope r.all (Reached T.sizes entry lo (d ∷ ds)) (Reached T.sizes entry (after d lo) ds) tops (behind C bs) s (λ k q. or_right _ _ q) r.left r.meant.0.1
        (each_use d ds lo scope r.all (Reached T.sizes entry lo (d ∷ ds)) (tops, C) seen r.meant.0.0 (reached_meant d ds lo scope seen tops C r e) r.told.0 (let z = r.small in omega (arith, z)) r.begins r.names n n' bs s v)
        (names_learn N T (Reached T.sizes entry lo (d ∷ ds)) K (tops, C) (tops, behind C bs) (learns_steps N K bs (tops, C)) scope a nothing_seen r.names);
  }

  ready_left : (d : Definition) (ds : List Definition) (lo : ℕ) (scope : Scope) (seen : Seen) (tops : Tops) (C : Context) → Ready (d ∷ ds) lo scope seen tops C → is_next d ds lo false → Ready ds (after d lo) (behind_scope d lo scope) seen tops C
  unfolding flat_tops
  ready_left d ds lo scope seen tops C r e = record {
    all = behind_local N kind.Data (defined d) lo scope r.all;
    typed = r.typed.1;
    meant = r.meant.2;
    told = r.told.1;
    once = r.once.1;
    small = let z = r.small in omega (arith, z);
    left = λ k s x. (r.left k s x).1;
    begins = r.begins;
    names = behind_left d ds lo scope r.all (Reached T.sizes entry lo (d ∷ ds)) (Reached T.sizes entry (after d lo) ds) (tops, C) (λ k q. or_right _ _ q) (λ q. let z : true ≡ false = sym q ∙ e in cc) r.names;
  }

  abbrev Rest : Definition → List Definition → ℕ → Scope → Type 0
  Rest d ds lo scope = (seen : Seen) (tops : Tops) (C : Context) → Ready ds (after d lo) (behind_scope d lo scope) seen tops C → Definitions_go ds (after d lo) (behind_scope d lo scope) seen tops C

  definitions_go : (ds : List Definition) (lo : ℕ) (scope : Scope) (seen : Seen) (tops : Tops) (C : Context) → Ready ds lo scope seen tops C → Definitions_go ds lo scope seen tops C
  unfolding flat_tops
  definitions_go [] lo scope seen tops C r = ((λ w. elim w [ ]), (λ n n' bs end v. known n n' bs end v))
    where
      known : (n n' : ℕ) (bs : Bindings) (end : Tops) → Definitions_unfold T entry.0 seen tops [] n bs end n' → Steps_typed N K C bs × Ends [] lo scope (end, behind C bs)
      known _ _ _ _ d_none = (tt, r.names)
  definitions_go (d ∷ ds) lo scope seen tops C r =
      ((λ w. stuck (λ seen tops C x. definitions_go ds (after d lo) (behind_scope d lo scope) seen tops C x) w), (λ n n' bs end v. known (λ seen tops C x. definitions_go ds (after d lo) (behind_scope d lo scope) seen tops C x) n n' bs end v))
    where
      stuck : Rest d ds lo scope → Definitions_stuck T entry.0 seen tops (tops_of lo (d ∷ ds)) → ⊥
      stuck rec (stuck_definition f w) = (first_goes d ds lo scope seen tops C r f).0 w
      stuck rec (stuck_next {n = n} {n' = n'} {bs = bs} {s = s} f v w) = (rec (opened.seeing T.sizes ((1 + lo) - 1) s seen) ((d.bind.0, s) ∷ tops) (behind C bs) (ready_known d ds lo scope seen tops C r f n n' bs s v)).0 w
      stuck rec (stuck_other f w) = (rec seen tops C (ready_left d ds lo scope seen tops C r f)).0 w

      known : Rest d ds lo scope → (n n' : ℕ) (bs : Bindings) (end : Tops) → Definitions_unfold T entry.0 seen tops (tops_of lo (d ∷ ds)) n bs end n' → Steps_typed N K C bs × Ends (d ∷ ds) lo scope (end, behind C bs)
      known rec _ _ _ end (d_reached {n = n} {n1 = n1} {n2 = n2} {bs = bs} {cs = cs} {s = s} f v w) =
          let c = (first_goes d ds lo scope seen tops C r f).1 n n1 bs s v in
          let q = (rec (opened.seeing T.sizes ((1 + lo) - 1) s seen) ((d.bind.0, s) ∷ tops) (behind C bs) (ready_known d ds lo scope seen tops C r f n n1 bs s v)).1 n1 n2 cs end w in
          (steps_then N K C bs cs c.0 q.0, subst (λ D. Ends (d ∷ ds) lo scope (end, D)) (sym (behind_then N K C bs cs)) q.1)
      known rec n n' bs end (d_other f w) = (rec seen tops C (ready_left d ds lo scope seen tops C r f)).1 n n' bs end w

  -- ---- the entry
  -- what is one component is data
  one_component : (t : Ty) → Of_shape t Scalar_shape → Is_data N t
  unfolding Is_data All_data
  one_component _ scalar_of_shape = tt
  one_component _ (array_of_shape {t = t} o) = (one_component t o, tt)

  -- data of these shapes, on atoms of its components' types, is known of values of its types
  mutual
    unfolding Fits All_fit All_data components all_components

    shape_fits : (world : World) (t : Ty) (h : Shape) (s : Known) (us rest : List Atom) (rs : Tys) → Of_shape t h → Laid h s us rest → Are (types_of N K world.1) us (components N h t rs) → At world t s × Are (types_of N K world.1) rest rs
    shape_fits world _ _ _ _ rest rs scalar_of_shape laid_scalar a = (a.0, a.1)
    shape_fits world _ _ _ _ rest rs (array_of_shape {t = t} o) laid_scalar a = (((one_component t o, tt), a.0), a.1)
    shape_fits world _ _ _ us rest rs (tuple_of_shape {ts = ts} {hs = hs} lt o) (laid_tuple {ss = ss} l) a = let q = all_shapes_fit world ts hs ss us rest rs o l a in ((lt, q.0), q.1)

    all_shapes_fit : (world : World) (ts : Tys) (hs : Shapes) (ss : Knowns) (us rest : List Atom) (rs : Tys) → All_of_shapes ts hs → All_laid hs ss us rest → Are (types_of N K world.1) us (all_components N hs ts rs) → All_fit N T K ts world ss × Are (types_of N K world.1) rest rs
    all_shapes_fit world _ _ _ us _ rs none_of_shapes laid_none a = (tt, a)
    all_shapes_fit world _ _ _ us rest rs (more_of_shapes {t = t} {ts = ts} {h = h} {hs = hs} o os) (laid_more {s = s} {ss = ss} l ls) a =
        let p = shape_fits world t h s us _ (all_components N hs ts rs) o l a in
        let q = all_shapes_fit world ts hs ss _ rest rs os ls p.1 in ((p.0, q.0), q.1)

  -- as many atoms as components
  mutual
    unfolding components all_components

    shape_length : (t : Ty) (h : Shape) (s : Known) (us rest : List Atom) (rs : Tys) → Of_shape t h → Laid h s us rest → length us + count rs ≡ count (components N h t rs) + length rest
    shape_length _ _ _ _ rest rs scalar_of_shape laid_scalar = omega arith
    shape_length _ _ _ _ rest rs (array_of_shape o) laid_scalar = omega arith
    shape_length _ _ _ us rest rs (tuple_of_shape {ts = ts} {hs = hs} lt o) (laid_tuple {ss = ss} l) = all_shapes_length ts hs ss us rest rs o l

    all_shapes_length : (ts : Tys) (hs : Shapes) (ss : Knowns) (us rest : List Atom) (rs : Tys) → All_of_shapes ts hs → All_laid hs ss us rest → length us + count rs ≡ count (all_components N hs ts rs) + length rest
    all_shapes_length _ _ _ us _ rs none_of_shapes laid_none = omega arith
    all_shapes_length _ _ _ us rest rs (more_of_shapes {t = t} {ts = ts} {h = h} {hs = hs} o os) (laid_more {s = s} {ss = ss} {ws = ws} l ls) =
        let p = shape_length t h s us ws (all_components N hs ts rs) o l in
        let q = all_shapes_length ts hs ss ws rest rs os ls in omega (arith, p, q)

  -- a function applied to arguments is never stuck, its steps are typed, and what it comes to is known by this type
  abbrev Run : World → Ty → Knowns → Known → Type 0
  Run world u ss f = (Stuck_runs T world.0 (listed ss) f → ⊥) × ((n n' : ℕ) (bs : Bindings) (s : Known) → Applies_all T world.0 (listed ss) f n bs s n' → Comes N K world bs (λ there. At there u s))

  runs_go : (ts : Tys) (u : Ty) (ss : Knowns) (f : Known) (world : World) → All_fit N T K ts world ss → At world (arrows ts u) f → Run world u ss f
  unfolding All_fit
  runs_go none u no_known f world h k = ((λ w. elim w [ ]), (λ n n' bs s x. known n n' bs s x))
    where
      known : (n n' : ℕ) (bs : Bindings) (s : Known) → Applies_all T world.0 [] f n bs s n' → Comes N K world bs (λ there. At there u s)
      known _ _ _ _ a_none = comes_none N K world (λ there. At there u f) k
  runs_go none u (known_and s ss) f world h k = absurd h
  runs_go (more t ts) u no_known f world h k = absurd h
  runs_go (more t ts) u (known_and s ss) f world h k =
      ((λ w. stuck (λ C l g q. runs_go ts u ss g (world.0, C) (all_fit_learn N T K ts world (world.0, C) l ss h.1) q) w), (λ n n' bs r x. known (λ C l g q. runs_go ts u ss g (world.0, C) (all_fit_learn N T K ts world (world.0, C) l ss h.1) q) n n' bs r x))
    where
      well : Runs_well N K T world f s (Fits N T K (arrows ts u))
      well = function_fits N T K t (arrows ts u) world f k s h.0

      stuck : ((C : Context) → Learns N K world (world.0, C) → (g : Known) → At (world.0, C) (arrows ts u) g → Run (world.0, C) u ss g) → Stuck_runs T world.0 (s ∷ listed ss) f → ⊥
      stuck rec (stuck_run w) = well.0 w
      stuck rec (stuck_on {g = g} {bs = bs} x w) = (rec (behind world.1 bs) (learns_steps N K bs world) g (well.1 _ _ bs g x).1).0 w

      known : ((C : Context) → Learns N K world (world.0, C) → (g : Known) → At (world.0, C) (arrows ts u) g → Run (world.0, C) u ss g) → (n n' : ℕ) (bs : Bindings) (r : Known) → Applies_all T world.0 (s ∷ listed ss) f n bs r n' → Comes N K world bs (λ there. At there u r)
      known rec _ _ _ r (a_more {g = g} {bs = bs} {cs = cs} x y) = comes_then N K world bs cs (λ there. At there (arrows ts u) g) (λ there. At there u r) (well.1 _ _ bs g x) (λ C l q. (rec C l g q).1 _ _ cs r y)

  module _ (ds : List Definition) (ts : Tys) (u : Ty) (hs : Shapes) (used : (scope_behind N kind.Data (map defined ds) 0 nothing).uses entry.0 K a (arrows ts u)) (shapes : All_of_shapes ts hs) (result : HasKind K kind.Data u) (other : S entry.0 ≡ false) (go : (C : Context) → Definitions_go ds 0 nothing nothing_seen [] C) where
    -- on atoms for the components of the arguments
    abbrev given : List Atom → Context
    given us = Given us (all_components N hs ts none) ∷ []

    -- what is known of the entry
    entry_fits : (C : Context) (n n' : ℕ) (bs : Bindings) (end : Tops) → Definitions_unfold T entry.0 nothing_seen [] (tops_of 0 ds) n bs end n' → Name_fits N T K (end, behind C bs) (arrows ts u) (look end entry.0) false
    unfolding find local local_by
    entry_fits C n n' bs end v = subst (Name_fits N T K (end, behind C bs) (arrows ts u) (look end entry.0)) other (((go C).1 n n' bs end v).1.1 entry.0 (eq-eqb entry.0 entry.0 refl) (arrows ts u) used)

    entry_is : (C : Context) (n n' : ℕ) (bs : Bindings) (end : Tops) (s : Known) → Definitions_unfold T entry.0 nothing_seen [] (tops_of 0 ds) n bs end n' → look end entry.0 ≡ Some s → At (end, behind C bs) (arrows ts u) s
    entry_is C n n' bs end s v e = let r = entry_fits C n n' bs end v in subst (At (end, behind C bs) (arrows ts u)) (some_same (sym r.1 ∙ e)) r.2

    entry_there : (n n' : ℕ) (bs : Bindings) (end : Tops) → Definitions_unfold T entry.0 nothing_seen [] (tops_of 0 ds) n bs end n' → look end entry.0 ≡ None → ⊥
    entry_there n n' bs end v e = let r = entry_fits [] n n' bs end v in none_some r.1 e

    -- the entry, applied to its arguments
    entry_runs : (us : List Atom) (n n' : ℕ) (bs : Bindings) (end : Tops) (f : Known) (ss : Knowns) → Definitions_unfold T entry.0 nothing_seen [] (tops_of 0 ds) n bs end n' → look end entry.0 ≡ Some f → All_laid hs ss us [] → Run (end, behind (given us) bs) u ss f
    entry_runs us n n' bs end f ss v e l =
        let long : length us + 0 ≡ count (all_components N hs ts none) + 0 = all_shapes_length ts hs ss us [] none shapes l in
        let C : Context = behind (given us) bs in
        let there = are_kept (types_of N K (given us)) (types_of N K C) (behind_keeps N K (given us) bs) us (all_components N hs ts none) (stand_are (types_of N K (given us)) us (all_components N hs ts none) (λ w t i. inl i) (omega (arith, long))) in
        runs_go ts u ss f (end, C) (all_shapes_fit (end, C) ts hs ss us [] none shapes l there).0 (entry_is (given us) n n' bs end f v e)

    program_goes : Program_stuck T (tops_of 0 ds) entry.0 hs → ⊥
    program_goes (in_definitions w) = (go []).0 w
    program_goes (no_entry {tops = tops} {n = n} {n' = n'} {bs = bs} v e) = entry_there n n' bs tops v e
    program_goes (in_entry {tops = tops} {n = n} {n' = n'} {bs = bs} {f = f} {arguments = ss} {us = us} v e l w) = (entry_runs us n n' bs tops f ss v e l).0 w
    program_goes (no_result {tops = tops} {n = n} {n1 = n1} {bs = bs} {cs = cs} {f = f} {s = s} {arguments = ss} {us = us} v e l x lacks) =
        let k = ((entry_runs us n n1 bs tops f ss v e l).1 _ _ cs s x).1 in
        let r = shaped N T K (tops, behind (behind (given us) bs) cs) u s (kind_data N K u result) k in
        let q = r.1 [] in lacks r.0 q.0 q.1

    program_typed : (h : Shape) (p : Program) → Program_unfolds T (tops_of 0 ds) entry.0 hs h p → Body_typed N K any_types (body_of p.body) (with_names p.params.now (all_components N hs ts none) of_constants) (components N h u none)
    program_typed h p x =
        let us : List Atom = names p.params.now in
        let C : Context = given us in
        let d = (go C).1 x.first x.behind x.defined x.tops x.definitions in
        let c = (entry_runs us x.first x.behind x.defined x.tops x.function x.arguments x.definitions x.entry_known x.parameters).1 x.behind x.end x.applied x.result x.application in
        let results = laid_are N T K (x.tops, behind (behind C x.defined) x.applied) h x.result x.results [] u none x.laid c.1 tt in
        subst (λ b. Body_typed N K any_types b (types_of N K C) (components N h u none)) (sym x.body)
        (block_typed N K (x.defined ++ x.applied) x.results C (components N h u none) (steps_then N K C x.defined x.applied d.0 c.0)
        (subst (λ D. Are (types_of N K D) x.results (components N h u none)) (sym (behind_then N K C x.defined x.applied)) results))

ready : (N : Names) (are : AreNames N) (K : Kinds) (a : Sub) (T : Told) (entry : BindId) (flat : Flat) → Is_sized N kind.Data K a T flat → (C : Context) → Definitions_go N are K a T entry flat.definitions.now 0 nothing nothing_seen [] C
unfolding find local local_by
ready N are K a T entry flat is C = definitions_go N are K a T entry flat.definitions.now 0 nothing nothing_seen [] C (record {
  all = λ b K x y t same h. absurd h;
  typed = is.typed;
  meant = definitions_sized (is_size_in T.sizes) (program_of flat) is.formed is.apart;
  told = is.told;
  once = is.once;
  small = let s = is.small in omega (arith, s);
  left = λ k v e. absurd (let z : None ≡ Some v = e in cc);
  begins = record { nameless = refl; entries = tt };
  names = (tt, λ b p t h. absurd h);
})

-- the entry is no size
entry_apart : (N : Names) (K : Kinds) (a : Sub) (T : Told) (flat : Flat) → Is_sized N kind.Data K a T flat → (entry : BindId) (ts : Tys) (u : Ty) → (scope_behind N kind.Data (program_of flat) 0 nothing).uses entry.0 K a (arrows ts u) → is_size_in T.sizes entry.0 ≡ false
entry_apart N K a T flat is entry ts u used = definitions_only N kind.Data K a (is_size_in T.sizes) entry.0 (arrows ts u) flat.definitions.now 0 nothing (definitions_sized (is_size_in T.sizes) (program_of flat) is.formed is.apart) (λ x. absurd x) used

pub unfolding_never_stuck : UnfoldingNeverStuck
unfolding_never_stuck N are K a T flat is entry ts u used result hs shapes = program_goes N are K a T entry flat.definitions.now ts u hs used shapes result (entry_apart N K a T flat is entry ts u used) (ready N are K a T entry flat is)

pub unfolded_well_typed : UnfoldedWellTyped
unfolded_well_typed N are K a T flat is entry ts u used result hs shapes h p x = program_typed N are K a T entry flat.definitions.now ts u hs used shapes result (entry_apart N K a T flat is entry ts u used) (ready N are K a T entry flat is) h p x
