-- The unfolding of each typed term is never stuck: by recursion on terms, over all their typings.
use Rattle.std.proofs.Common.{◌≡◌, Bool, true, false, ◌||◌, ℕ, ◌+◌, ◌≤◌, ◌<◌, refl, sym, ◌∙◌, subst, arith, List, [], ◌∷◌, None}
use mathlib.Core.Logic.{inl, inr}
use Rattle.fut_meaning.specs.Found.{Told}
use Rattle.fut_scalar.specs.declared.place.BindId.{BindId}
use Rattle.fut_scalar.specs.declared.scalar.ScalarType.TheVariants as types
use Rattle.fut_flat.specs.declared.prim.Ref.{Ref}
use Rattle.fut_flat.specs.Terms.{Bound_pattern, Wild_pattern, Tuple_pattern, Record_pattern, Typed_pattern, Patterns, no_pattern, pattern_and, Operation, Integer, Use, Strict, Lambda, Apply, Let, If, Loop, Terms, no_term, term_and, Counted, Over, While}
use Rattle.fut_flat.specs.Numbers.{pattern_numbers, all_pattern_numbers, own_numbers, numbers, all_numbers, turn_numbers}
use Rattle.fut_flat.specs.Erased.{FlatTerm, FlatPattern}
use Rattle.fut_types.specs.declared.Kind.TheVariants as kind
use Rattle.fut_types.specs.Types.{Ty, Sub, Kinds, HasKind, rank, fun_ty, scalar_ty}
use Rattle.fut_typing.specs.Names.{Names, AreNames}
use Rattle.fut_typing.specs.Primitives.{array_ty, bool_ty}
use Rattle.fut_typing.specs.Scopes.{Scope, with_uses, with_sizes, the_one}
use Rattle.fut_typing.specs.Patterns.{Pattern_typed, pattern_types, arrows, with_pattern, with_patterns, with_parameters, Parameters_typed}
use Rattle.fut_typing.specs.Free.{is_within, has_types, is_free}
use Rattle.fut_typing.specs.Generalised.{own_types, Scheme, Reused}
use Rattle.fut_typing.specs.Typing.{term_types, operand, FlatBinding, Function_name, with_turns, let_scheme, Let_typed, let_uses, with_let, Typed, All_typed}
use Rattle.fut_typing.proofs.Local.{AllLocal, all_local_more, local_sizes, local_parameters, local_ones, local_all_ones, local_turns}
use Rattle.fut_typing.proofs.Cong.{within_no}
use Rattle.fut_typing.proofs.Locals.{body_local}
use Rattle.type_soundness.specs.Fits.{widest}
use Rattle.fut_meaning.specs.Uses.{is_size_in}
use Rattle.type_soundness.specs.Formed.{Heads_sized, Pattern_apart, Patterns_apart, Let_apart}
use Rattle.type_soundness.proofs.Sized.{Sized, All_sized}
use Rattle.type_soundness.specs.Meant.{Operation_meant, Has_parameter, Literal_here, Literal, A_literal, Literals_told}
use Rattle.type_soundness.proofs.Literals.{literal_kept}
use Rattle.type_soundness.proofs.Operating.{Literal_told}
use Rattle.type_soundness.proofs.Running.{count_terms}
use Rattle.type_soundness.proofs.Walking.{as_many}
use Rattle.fut_blocks.specs.declared.block.Atom.TheVariants as atom
use Rattle.unfold.specs.Knowns.{Known, Function_known, Scope as Seen, name_and}
use Rattle.unfold.specs.Stuck.{Stuck_run, no_function, no_parameter, stuck_result}
use Rattle.unfold.specs.Telling.{literal_row, test_at, enter}
use Rattle.unfold.specs.Unfolding.{Bindings, named, Binds, b_bound, Applies, a_body, a_waits}
use Rattle.unfold_laws.specs.Fits.{Context, behind, World, types_of, Learns, Comes, Runs_well, Is_data, Fits, Names_fit}
use Rattle.unfold_laws.specs.Entered.{All_in_known}
use Rattle.unfold_laws.specs.Typed.{Stands}
use Rattle.unfold_laws.proofs.Fitting.{kind_data, fits_stand, data_fits}
use Rattle.unfold_laws.proofs.Functions.{fits_function}
use Rattle.unfold_laws.proofs.Going.{Binds_well, Goes, goes_as, All_go, use_goes, none_go, more_go, literal_stands, test_stands, strict_goes, lambda_goes, apply_goes, Let_goes, let_goes, if_goes, loop_goes}
use Rattle.unfold_laws.proofs.Operating.{operation_gives}
use Rattle.unfold_laws.proofs.Seeing.{Bindable, names_learn, names_move, names_sizes, names_types, entered_fit, names_enter, name_fits, bindable, binds_fit}
use Rattle.unfold_laws.proofs.TypedSteps.{learns_more, learns_steps, comes_none, comes_then, comes_map}

pub told : (o : Operation Ref BindId) (a : Sub) (lo : ℕ) (T : Told) → ((m : ℕ) → Literal_here o lo m → a m ≡ scalar_ty (types.Int (T.integer_at m))) → Literal_told (T.integer_at lo) o (a lo)
told (Integer n None) a lo T h = h lo refl
told o a lo T h = tt

module _ (N : Names) (are : AreNames N) (T : Told) (P : ℕ → Type 0) (K : Kinds) where
  abbrev At : World → Ty → Known → Type 0
  At world t s = Fits N T K t world s

  -- the numbers of sizes
  abbrev S : ℕ → Bool
  S = is_size_in T.sizes

  abbrev In_scope : World → Scope → Sub → Seen → Type 0
  In_scope world scope a sc = Names_fit N T world P scope K a sc

  abbrev Goes_in : World → Seen → ℕ → FlatTerm → Ty → Type 0
  Goes_in world sc lo e t = Goes N are T P K world sc lo e t

  further : (lo lo' : ℕ) (scope : Scope) → lo ≤ lo' → AllLocal (λ n. n < lo) scope → AllLocal (λ n. n < lo') scope
  further lo lo' scope le all = all_local_more (λ n. n < lo) (λ n. n < lo') scope (λ n p. omega (arith, le, p)) all

  -- ---- functions
  abbrev Body : ℕ → FlatTerm → Scope → Sub → World → Type 0
  Body at e scope a world = (world' : World) → Learns N K world world' → (inner : Seen) → In_scope world' scope a inner → Goes_in world' inner at e (a at)

  -- a pattern, and what holds where its names are known
  pattern_well : (p : FlatPattern) (lo : ℕ) (inside scope : Scope) (a : Sub) (world : World) (sc : Seen) (s : Known) (Q : World → Seen → Type 0) → Pattern_apart S p → Pattern_typed N kind.Data K a p lo inside → At world (a lo) s → In_scope world scope a sc
      → ((C : Context) → Learns N K world (world.0, C) → (inner : Seen) → In_scope (world.0, C) (with_pattern the_one p lo scope) a inner → Q (world.0, C) inner) → Binds_well N T K world sc p s Q
  pattern_well p lo inside scope a world sc s Q apart typed h sees q = (
    bindable N T P K a are kind.Data p lo inside world s typed h,
    (λ k inner n m cs b. comes_map N K world cs (λ there. In_scope there (with_pattern the_one p lo scope) a inner) (λ there. Q there inner) (binds_fit N T P K a are kind.Data p lo inside scope world s k sc inner n m cs apart typed h sees b) (λ C l k. q C l inner k)),
  )

  well_map : (world : World) (sc : Seen) (p : FlatPattern) (s : Known) (Q R : World → Seen → Type 0) → Binds_well N T K world sc p s Q → ((C : Context) → Learns N K world (world.0, C) → (inner : Seen) → Q (world.0, C) inner → R (world.0, C) inner) → Binds_well N T K world sc p s R
  well_map world sc p s Q R w q = (w.0, (λ k inner n m cs b. comes_map N K world cs (λ there. Q there inner) (λ there. R there inner) (w.1 k inner n m cs b) (λ C l k. q C l inner k)))

  last_runs : (p : FlatPattern) (at : ℕ) (e : FlatTerm) (t : Ty) (world : World) (sc : Seen) (s : Known) → Binds_well N T K world sc p s (λ there inner. Goes_in there inner at e t) → Runs_well N K T world (Function_known (pattern_and p no_pattern) e at sc) s (Fits N T K t)
  last_runs p at e t world sc s well = ((λ w. stuck w), (λ n n' bs r x. result n n' bs r x))
    where
      stuck : Stuck_run T world.0 (Function_known (pattern_and p no_pattern) e at sc) s → ⊥
      stuck (no_function f) = let z : true ≡ false = f in cc
      stuck (no_parameter lacks) = let q = well.0 T.sizes 0 sc 0 in lacks T.sizes 0 sc q.0 (0, q.1, q.2, q.3)
      stuck (stuck_result {inner = inner} b w) = (well.1 _ inner b.0 b.2 b.1 b.3).1.0 w

      result : (n n' : ℕ) (bs : Bindings) (r : Known) → Applies T world.0 (Function_known (pattern_and p no_pattern) e at sc) s n bs r n' → Comes N K world bs (λ there. At there t r)
      result n _ _ r (a_body {inner = inner} {n1 = m} {bs = bs} {cs = cs} b u) = comes_then N K world bs cs (λ there. Goes_in there inner at e t) (λ there. At there t r) (well.1 _ inner n m bs b) (λ C l go. go.1 _ _ cs r u)

  more_runs : (p q : FlatPattern) (ps : Patterns Ref BindId) (at : ℕ) (e : FlatTerm) (t : Ty) (world : World) (sc : Seen) (s : Known) → Binds_well N T K world sc p s (λ there inner. At there t (Function_known (pattern_and q ps) e at inner)) → Runs_well N K T world (Function_known (pattern_and p (pattern_and q ps)) e at sc) s (Fits N T K t)
  more_runs p q ps at e t world sc s well = ((λ w. stuck w), (λ n n' bs r x. result n n' bs r x))
    where
      stuck : Stuck_run T world.0 (Function_known (pattern_and p (pattern_and q ps)) e at sc) s → ⊥
      stuck (no_function f) = let z : true ≡ false = f in cc
      stuck (no_parameter lacks) = let q = well.0 T.sizes 0 sc 0 in lacks T.sizes 0 sc q.0 (0, q.1, q.2, q.3)

      result : (n n' : ℕ) (bs : Bindings) (r : Known) → Applies T world.0 (Function_known (pattern_and p (pattern_and q ps)) e at sc) s n bs r n' → Comes N K world bs (λ there. At there t r)
      result n m bs _ (a_waits {inner = inner} b) = well.1 _ inner n m bs b

  lambda_fits : (ps : Patterns Ref BindId) → Has_parameter ps → Patterns_apart S ps → (lo at : ℕ) (e : FlatTerm) (inside scope : Scope) (a : Sub) (world : World) (sc : Seen) → Parameters_typed N kind.Data K a ps lo inside → Body at e (with_patterns the_one ps lo scope) a world → In_scope world scope a sc
      → At world (arrows (pattern_types a ps lo) (a at)) (Function_known ps e at sc)
  lambda_fits no_pattern has apart lo at e inside scope a world sc typed body h = absurd has
  lambda_fits (pattern_and p no_pattern) has apart lo at e inside scope a world sc typed body h =
      fits_function N T K (a lo) (a at) world (Function_known (pattern_and p no_pattern) e at sc) refl h.0 (λ world' g s k.
      last_runs p at e (a at) world' sc s (pattern_well p lo inside scope a world' sc s (λ there inner. Goes_in there inner at e (a at)) apart.0 typed.0 k (names_learn N T P K world world' g scope a sc h)
      (λ C l inner sees. body (world'.0, C) (learns_more N K world world' (world'.0, C) g l) inner sees)))
  lambda_fits (pattern_and p (pattern_and q ps)) has apart lo at e inside scope a world sc typed body h =
      let u : Ty = arrows (pattern_types a (pattern_and q ps) (lo + pattern_numbers p)) (a at) in
      fits_function N T K (a lo) u world (Function_known (pattern_and p (pattern_and q ps)) e at sc) refl h.0 (λ world' g s k.
      more_runs p q ps at e u world' sc s (pattern_well p lo inside scope a world' sc s (λ there inner. At there u (Function_known (pattern_and q ps) e at inner)) apart.0 typed.0 k (names_learn N T P K world world' g scope a sc h)
      (λ C l inner sees. lambda_fits (pattern_and q ps) tt apart.1 (lo + pattern_numbers p) at e (with_pattern the_one p lo inside) (with_pattern the_one p lo scope) a (world'.0, C) inner typed.1
      (λ world'' g' inner' k'. body world'' (learns_more N K world (world'.0, C) world'' (learns_more N K world world' (world'.0, C) g l) g') inner' k') sees)))

  -- ---- lets
  -- a function has a name
  function_bindable : (sizes : List BindId) (p : FlatPattern) (s : Known) → Function_name sizes p → Bindable p s
  function_bindable [] (Bound_pattern b) s f z k sc n = (name_and b s (enter z k s sc), [], n, b_bound)
  function_bindable [] Wild_pattern s f z k sc n = absurd f
  function_bindable [] (Tuple_pattern ps) s f z k sc n = absurd f
  function_bindable [] (Record_pattern fs ps) s f z k sc n = absurd f
  function_bindable [] (Typed_pattern p t) s f z k sc n = absurd f
  function_bindable (b ∷ bs) p s f z k sc n = absurd f

  -- and is known at each type of its uses
  function_binds : (sizes : List BindId) (p : FlatPattern) (s : Scheme) (lo : ℕ) (w : Known) (scope : Scope) (a : Sub) (world : World) (q : ℕ) (sc inner : Seen) (n m : ℕ) (cs : Bindings) → Function_name sizes p → Pattern_apart S p → All_in_known (Stands (types_of N K world.1)) w → ((t : Ty) → Reused kind.Data s lo K a t → At world t w) → In_scope world scope a sc → Binds T.sizes q p w sc n cs inner m
      → Comes N K world cs (λ there. In_scope there (with_pattern (Reused kind.Data s) p lo (with_sizes sizes scope)) a inner)
  function_binds [] (Bound_pattern b) s lo w scope a world q sc _ n _ _ f apart stand each h b_bound =
      comes_none N K world (λ there. In_scope there (with_uses b.0 (Reused kind.Data s lo) scope) a (name_and b w (enter T.sizes q w sc)))
      (name_fits N T P K a world b w (Reused kind.Data s lo) scope (enter T.sizes q w sc) apart each (entered_fit N T P K T.sizes world q w scope a sc stand h))
  function_binds [] Wild_pattern s lo w scope a world q sc inner n m cs f apart stand each h x = absurd f
  function_binds [] (Tuple_pattern ps) s lo w scope a world q sc inner n m cs f apart stand each h x = absurd f
  function_binds [] (Record_pattern fs ps) s lo w scope a world q sc inner n m cs f apart stand each h x = absurd f
  function_binds [] (Typed_pattern p t) s lo w scope a world q sc inner n m cs f apart stand each h x = absurd f
  function_binds (b ∷ bs) p s lo w scope a world q sc inner n m cs f apart stand each h x = absurd f

  abbrev Sure : FlatTerm → Type 1
  Sure t = (lo : ℕ) (scope : Scope) (a : Sub) (world : World) (sc : Seen) → AllLocal (λ n. n < lo) scope → Typed N kind.Data t lo scope K a → Sized S P t → Literals_told T.integer_at a t lo → lo + numbers t < widest → In_scope world scope a sc → Goes_in world sc lo t (a lo)

  module _ (b : FlatBinding) (v : FlatTerm) (sure : Sure v) (lo : ℕ) (scope : Scope) (a : Sub) (world : World) (sc : Seen) where
    abbrev begins : ℕ
    begins = 1 + lo + pattern_numbers b.pattern

    abbrev whole : Scheme
    whole = let_scheme N kind.Data b v lo scope (Typed N kind.Data v (1 + lo + pattern_numbers b.pattern))

    -- the value, where these types are chosen for the parameters, in a typing that is as a is outside and where nothing is free
    value_sure : (c other : Sub) → ((n : ℕ) → n < 1 + lo → other n ≡ a n) → ((m : ℕ) → Literal v begins m → other m ≡ a m) → AllLocal (λ n. n < lo) scope → whole.typed c K other → Heads_sized S b.parameters → Sized S P v → Literals_told T.integer_at a v begins
        → begins + numbers v < widest → In_scope world scope a sc → Goes_in world sc begins v (other (1 + lo))
    value_sure c other outside literals all typed sizes meant lits small h =
        goes_as N are T P K world sc begins v (other begins) (other (1 + lo)) (sym typed.1)
        (sure begins (with_parameters b.parameters c scope) other world sc (local_parameters (λ n. n < begins) b.parameters c scope (all_local_more (λ n. n < lo) (λ n. n < begins) scope (λ n p. omega (arith, p)) all)) typed.0.1 meant (λ m l. literals m l ∙ lits m l) small
        (names_types N T P K world b.parameters c scope other sc sizes (names_move N T P K world scope lo a other sc all (λ n p. outside n (omega (arith, p))) h)))

    literal_stays : (other : Sub) → ((n : ℕ) → 1 + lo ≤ n → n < 1 + lo + (pattern_numbers b.pattern + numbers v) → whole.free n ≡ false → other n ≡ a n) → (m : ℕ) → Literal v begins m → other m ≡ a m
    literal_stays other kept m l = let r = literal_kept v begins m l in let r0 : begins ≤ m = r.0.0 in let r1 : m < begins + numbers v = r.0.1 in
        kept m (omega arith) (omega arith) (neither_free (is_within (1 + lo) (pattern_numbers b.pattern) m) (is_free (has_types b.parameters) v begins m) (not_within m r0) (r.1 (has_types b.parameters)))
      where
        neither_free : (x y : Bool) → x ≡ false → y ≡ false → (x || y) ≡ false
        neither_free true y e d = absurd (let z : true ≡ false = e in cc)
        neither_free false y e d = d

        not_within : (m : ℕ) → begins ≤ m → is_within (1 + lo) (pattern_numbers b.pattern) m ≡ false
        not_within m le = within_no (1 + lo) (pattern_numbers b.pattern) m (inr (omega (arith, le)))

    let_sure : AllLocal (λ n. n < lo) scope → (f : Bool) → b.is_function ≡ f → Let_typed N kind.Data b.is_function (Function_name b.sizes b.pattern) whole K a → Let_apart S b → Sized S P v → Literals_told T.integer_at a v begins → begins + numbers v < widest → In_scope world scope a sc
        → Let_goes N are T P K world sc lo b v (λ there inner. In_scope there (with_let N kind.Data b lo scope whole) a inner)
    let_sure all true e typed sizes meant lits small h =
        let g : Let_typed N kind.Data true (Function_name b.sizes b.pattern) whole K a = subst (λ f. Let_typed N kind.Data f (Function_name b.sizes b.pattern) whole K a) e typed in
        let w = value_sure (own_types kind.Data b.parameters) a (λ n p. refl) (λ m l. refl) all g.1.0 sizes.1 meant lits small h in (
          w.0,
          (λ n n' bs s x. (
            (w.1 n n' bs s x).0,
            (
              function_bindable b.sizes b.pattern s g.0,
              (λ q inner m k cs y. subst (λ f. Comes N K (world.0, behind world.1 bs) cs (λ there. In_scope there (with_pattern (let_uses N kind.Data f whole) b.pattern (1 + lo) (with_sizes b.sizes scope)) a inner)) (sym e)
                  (function_binds b.sizes b.pattern whole (1 + lo) s scope a (world.0, behind world.1 bs) q sc inner m k cs g.0 sizes.2 (fits_stand N T K (world.0, behind world.1 bs) (a (1 + lo)) s (w.1 n n' bs s x).1) (λ t u. let z = u.2.0 in
                  subst (λ q. At (world.0, behind world.1 bs) q s) (sym u.2.1) ((value_sure u.0 z.other (λ n p. z.outside n (inl p)) (literal_stays z.other z.kept) all z.typed sizes.1 meant lits small h).1 n n' bs s x).1)
                  (names_learn N T P K world (world.0, behind world.1 bs) (learns_steps N K bs world) scope a sc h) y)),
            ),
          )),
        )
    let_sure all false e typed sizes meant lits small h =
        let g : whole.typed (own_types kind.Data b.parameters) K a = subst (λ f. Let_typed N kind.Data f (Function_name b.sizes b.pattern) whole K a) e typed in
        let w = value_sure (own_types kind.Data b.parameters) a (λ n p. refl) (λ m l. refl) all g sizes.1 meant lits small h in (
          w.0,
          (λ n n' bs s x. comes_map N K world bs (λ there. At there (a (1 + lo)) s) (λ there. Binds_well N T K there sc b.pattern s (λ there inner. In_scope there (with_let N kind.Data b lo scope whole) a inner)) (w.1 n n' bs s x) (λ C l k.
              subst (λ f. Binds_well N T K (world.0, C) sc b.pattern s (λ there inner. In_scope there (with_pattern (let_uses N kind.Data f whole) b.pattern (1 + lo) (with_sizes b.sizes scope)) a inner)) (sym e)
              (pattern_well b.pattern (1 + lo) (with_sizes b.sizes scope) (with_sizes b.sizes scope) a (world.0, C) sc s (λ there inner. In_scope there (with_pattern the_one b.pattern (1 + lo) (with_sizes b.sizes scope)) a inner) sizes.2 g.0.0 k
              (names_sizes N T P K (world.0, C) b.sizes scope a sc sizes.0 (names_learn N T P K world (world.0, C) l scope a sc h)) (λ D l' inner sees. sees)))),
        )

  abbrev Sure_all : Terms Ref BindId → Type 1
  Sure_all ts = (lo : ℕ) (scope : Scope) (a : Sub) (world : World) (sc : Seen) → AllLocal (λ n. n < lo) scope → All_typed N kind.Data ts lo scope K a → All_sized S P ts → ((m : ℕ) → A_literal ts lo m → a m ≡ scalar_ty (types.Int (T.integer_at m))) → lo + all_numbers ts < widest → In_scope world scope a sc
      → All_go N are T P K world sc lo ts (term_types a ts lo)

  integer_data : (t : Ty) → HasKind K kind.Integer t → Is_data N t
  integer_data t k = kind_data N K t (let y : 4 ≤ rank K t = k in let z : 1 ≤ rank K t = omega (arith, y) in z)

  mutual
    pub surely : (t : FlatTerm) → Sure t
    surely (Use r at k) = λ lo scope a world sc all typed meant lits small h. use_goes N are T P K world sc lo r at k (a lo) scope a meant typed h
    surely (Strict o mark ts) = λ lo scope a world sc all typed meant lits small h.
        strict_goes N are T P K world sc lo o mark ts (term_types a ts (lo + own_numbers o)) (a lo) h.0
        (all_surely ts (lo + own_numbers o) scope a world sc (further lo (lo + own_numbers o) scope (omega arith) all) typed.0 meant.1 (λ m l. lits m (inr l)) (omega (arith, small)) h)
        (λ C g ss k. operation_gives N T K are (world.0, C) (literal_row T.sizes sc lo) (test_at T.sizes sc lo) (literal_stands N are T P K world sc lo C g h.0) (test_stands N are T P K world sc lo C g h.0) (T.integer_at lo) mark o (a lo) (a (operand o lo)) (term_types a ts (lo + own_numbers o)) ss (subst (Operation_meant o) (sym (as_many a ts (lo + own_numbers o))) meant.0) typed.1 (told o a lo T (λ m l. lits m (inl l)))
        (let c = count_terms a ts (lo + own_numbers o) in omega (arith, c, small)) k)
    surely (Lambda ps e) = λ lo scope a world sc all typed meant lits small h.
        let at : ℕ = 1 + lo + all_pattern_numbers ps in
        lambda_goes N are T P K world sc lo ps e (a lo) (subst (λ x. At world x (Function_known ps e (1 + lo + all_pattern_numbers ps) sc)) (sym typed.1)
        (lambda_fits ps meant.0.0 meant.0.1 (1 + lo) at e scope scope a world sc typed.0.0 (λ world' g inner k.
        surely e at (with_patterns the_one ps (1 + lo) scope) a world' inner (local_all_ones (λ n. n < at) ps (1 + lo) scope (λ n p q. omega (arith, p, q)) (further lo at scope (omega arith) all)) typed.0.1 meant.1 lits (omega (arith, small)) k) h))
    surely (Apply f e) = λ lo scope a world sc all typed meant lits small h.
        apply_goes N are T P K world sc lo f e (a (1 + lo + numbers f)) (a lo)
        (goes_as N are T P K world sc (1 + lo) f (a (1 + lo)) (fun_ty (a (1 + lo + numbers f)) (a lo)) typed.1 (surely f (1 + lo) scope a world sc (further lo (1 + lo) scope (omega arith) all) typed.0.0 meant.0 (λ m l. lits m (inl l)) (omega (arith, small)) h))
        (λ C g. surely e (1 + lo + numbers f) scope a (world.0, C) sc (further lo (1 + lo + numbers f) scope (omega arith) all) typed.0.1 meant.1 (λ m l. lits m (inr l)) (omega (arith, small)) (names_learn N T P K world (world.0, C) g scope a sc h))
    surely (Let b v e) = λ lo scope a world sc all typed meant lits small h.
        let at_e : ℕ = 1 + lo + pattern_numbers b.pattern + numbers v in
        let s : Scheme = let_scheme N kind.Data b v lo scope (Typed N kind.Data v (1 + lo + pattern_numbers b.pattern)) in
        let g = let_sure b v (surely v) lo scope a world sc all b.is_function refl typed.0.0 meant.0 meant.1 (λ m l. lits m (inl l)) (omega (arith, small)) h in
        let_goes N are T P K world sc lo b v e (a lo) (
          g.0,
          (λ n n' bs w x. comes_map N K world bs (λ there. Binds_well N T K there sc b.pattern w (λ there inner. In_scope there (with_let N kind.Data b lo scope s) a inner)) (λ there. Binds_well N T K there sc b.pattern w (λ there inner. Goes_in there inner at_e e (a lo))) (g.1 n n' bs w x) (λ C l q.
              well_map (world.0, C) sc b.pattern w (λ there inner. In_scope there (with_let N kind.Data b lo scope s) a inner) (λ there inner. Goes_in there inner at_e e (a lo)) q (λ D l' inner sees.
              goes_as N are T P K (world.0, D) inner at_e e (a at_e) (a lo) (sym typed.1)
              (surely e at_e (with_let N kind.Data b lo scope s) a (world.0, D) inner
              (body_local N kind.Data (λ n. n < at_e) b v lo scope (further lo at_e scope (omega arith) all) (λ n f i. let z : n < 1 + lo + (pattern_numbers b.pattern + numbers v) = i.0.1 in omega (arith, z)) (λ n f q z. omega (arith, q, z)))
              typed.0.1 meant.2 (λ m l. lits m (inr l)) (omega (arith, small)) sees)))),
        )
    surely (If c t e) = λ lo scope a world sc all typed meant lits small h.
        if_goes N are T P K world sc lo c t e (a lo) typed.4
        (goes_as N are T P K world sc (1 + lo) c (a (1 + lo)) bool_ty typed.1 (surely c (1 + lo) scope a world sc (further lo (1 + lo) scope (omega arith) all) typed.0.0.0 meant.0 (λ m l. lits m (inl l)) (omega (arith, small)) h))
        (λ C g. goes_as N are T P K (world.0, C) sc (1 + lo + numbers c) t (a (1 + lo + numbers c)) (a lo) (sym typed.2)
        (surely t (1 + lo + numbers c) scope a (world.0, C) sc (further lo (1 + lo + numbers c) scope (omega arith) all) typed.0.0.1 meant.1 (λ m l. lits m (inr (inl l))) (omega (arith, small)) (names_learn N T P K world (world.0, C) g scope a sc h)))
        (λ C g. goes_as N are T P K (world.0, C) sc (1 + lo + numbers c + numbers t) e (a (1 + lo + numbers c + numbers t)) (a lo) (sym typed.3)
        (surely e (1 + lo + numbers c + numbers t) scope a (world.0, C) sc (further lo (1 + lo + numbers c + numbers t) scope (omega arith) all) typed.0.1 meant.2 (λ m l. lits m (inr (inr l))) (omega (arith, small)) (names_learn N T P K world (world.0, C) g scope a sc h)))
    surely (Loop mark sizes p first (Counted i n) body) = λ lo scope a world sc all typed meant lits small h.
        let at_f : ℕ = 1 + lo + pattern_numbers p in
        let at_t : ℕ = 1 + lo + pattern_numbers p + numbers first in
        let at_b : ℕ = 1 + lo + pattern_numbers p + numbers first + turn_numbers (Counted i n) in
        let inside : Scope = with_sizes sizes scope in
        let carried : Scope = with_pattern the_one p (1 + lo) (with_sizes sizes scope) in
        let local : (m : ℕ) → 1 + lo + pattern_numbers p ≤ m → AllLocal (λ n. n < m) carried = λ m le. local_ones (λ n. n < m) p (1 + lo) inside (λ n y z. omega (arith, y, z, le)) (local_sizes (λ n. n < m) sizes scope (further lo m scope (omega (arith, le)) all)) in
        let turns = typed.0.0.1 in
        let on_body : World → Seen → Type 0 = λ there inner. Goes_in there inner at_b body (a lo) in
        let body_goes : (there : World) (inner : Seen) → In_scope there (with_turns (Counted i n) at_t carried) a inner → Goes_in there inner at_b body (a lo) = λ there inner sees.
        goes_as N are T P K there inner at_b body (a at_b) (a lo) (sym typed.2)
        (surely body at_b (with_turns (Counted i n) at_t carried) a there inner (local_turns (λ n. n < at_b) (Counted i n) at_t carried (λ n y z. omega (arith, y, z)) (local at_b (omega arith)))
        typed.0.1 meant.3 (λ m l. lits m (inr (inr l))) (omega (arith, small)) sees) in
        loop_goes N are T P K world sc lo mark sizes p first body (a lo) (a at_t) typed.3 (Counted i n)
        (goes_as N are T P K world sc at_f first (a at_f) (a lo) (sym (typed.1 ∙ typed.0.0.0.1)) (surely first at_f scope a world sc (further lo at_f scope (omega arith) all) typed.0.0.0.0.1 meant.1 (λ m l. lits m (inl l)) (omega (arith, small)) h)) (
          turns.2,
          (λ C g. goes_as N are T P K (world.0, C) sc (1 + at_t) n (a (1 + at_t)) (a at_t) (sym turns.1)
              (surely n (1 + at_t) scope a (world.0, C) sc (further lo (1 + at_t) scope (omega arith) all) turns.0 meant.2 (λ m l. lits m (inr (inl l))) (omega (arith, small)) (names_learn N T P K world (world.0, C) g scope a sc h))),
        )
        (λ C g r k. pattern_well p (1 + lo) inside inside a (world.0, C) sc r (λ there inside. (y : ℕ) → types_of N K there.1 (atom.Name y) (a at_t) → on_body there (name_and i (named y) (enter T.sizes at_t (named y) inside))) meant.0.1 typed.0.0.0.0.0 (subst (λ y. At (world.0, C) y r) typed.1 k)
        (names_sizes N T P K (world.0, C) sizes scope a sc meant.0.0 (names_learn N T P K world (world.0, C) g scope a sc h))
        (λ D l seen sees. λ y hy. body_goes (world.0, D) (name_and i (named y) (enter T.sizes at_t (named y) seen))
        (let fit = data_fits N T K (a at_t) (world.0, D) (atom.Name y) (integer_data (a at_t) turns.2) hy in
        name_fits N T P K a (world.0, D) i (named y) (the_one at_t) carried (enter T.sizes at_t (named y) seen) meant.0.2 (λ t q. subst (λ z. At (world.0, D) z (named y)) (sym q) fit) (names_enter N T P K (world.0, D) at_t (a at_t) (named y) carried a seen fit sees))))
    surely (Loop mark sizes p first (Over o e) body) = λ lo scope a world sc all typed meant lits small h.
        let at_f : ℕ = 1 + lo + pattern_numbers p in
        let at_t : ℕ = 1 + lo + pattern_numbers p + numbers first in
        let at_b : ℕ = 1 + lo + pattern_numbers p + numbers first + turn_numbers (Over o e) in
        let inside : Scope = with_sizes sizes scope in
        let carried : Scope = with_pattern the_one p (1 + lo) (with_sizes sizes scope) in
        let local : (m : ℕ) → 1 + lo + pattern_numbers p ≤ m → AllLocal (λ n. n < m) carried = λ m le. local_ones (λ n. n < m) p (1 + lo) inside (λ n y z. omega (arith, y, z, le)) (local_sizes (λ n. n < m) sizes scope (further lo m scope (omega (arith, le)) all)) in
        let turns = typed.0.0.1 in
        let on_body : World → Seen → Type 0 = λ there inner. Goes_in there inner at_b body (a lo) in
        let body_goes : (there : World) (inner : Seen) → In_scope there (with_turns (Over o e) at_t carried) a inner → Goes_in there inner at_b body (a lo) = λ there inner sees.
        goes_as N are T P K there inner at_b body (a at_b) (a lo) (sym typed.2)
        (surely body at_b (with_turns (Over o e) at_t carried) a there inner (local_turns (λ n. n < at_b) (Over o e) at_t carried (λ n y z. omega (arith, y, z)) (local at_b (omega arith)))
        typed.0.1 meant.3 (λ m l. lits m (inr (inr l))) (omega (arith, small)) sees) in
        loop_goes N are T P K world sc lo mark sizes p first body (a lo) (a at_t) typed.3 (Over o e)
        (goes_as N are T P K world sc at_f first (a at_f) (a lo) (sym (typed.1 ∙ typed.0.0.0.1)) (surely first at_f scope a world sc (further lo at_f scope (omega arith) all) typed.0.0.0.0.1 meant.1 (λ m l. lits m (inl l)) (omega (arith, small)) h))
        (λ C g. goes_as N are T P K (world.0, C) sc (at_t + pattern_numbers o) e (a (at_t + pattern_numbers o)) (array_ty (a at_t)) turns.1.0
        (surely e (at_t + pattern_numbers o) scope a (world.0, C) sc (further lo (at_t + pattern_numbers o) scope (omega arith) all) turns.0.1 meant.2 (λ m l. lits m (inr (inl l))) (omega (arith, small)) (names_learn N T P K world (world.0, C) g scope a sc h)))
        (λ C g r k. pattern_well p (1 + lo) inside inside a (world.0, C) sc r (λ there inside. (y : ℕ) → types_of N K there.1 (atom.Name y) (a at_t) → Binds_well N T K there inside o (named y) on_body) meant.0.1 typed.0.0.0.0.0 (subst (λ y. At (world.0, C) y r) typed.1 k)
        (names_sizes N T P K (world.0, C) sizes scope a sc meant.0.0 (names_learn N T P K world (world.0, C) g scope a sc h))
        (λ D l seen sees. λ y hy. pattern_well o at_t carried carried a (world.0, D) seen (named y) on_body meant.0.2 turns.0.0 (data_fits N T K (a at_t) (world.0, D) (atom.Name y) (kind_data N K (a at_t) turns.1.1) hy) sees (λ E l' inner sees'. body_goes (world.0, E) inner sees')))
    surely (Loop mark sizes p first (While c) body) = λ lo scope a world sc all typed meant lits small h.
        let at_f : ℕ = 1 + lo + pattern_numbers p in
        let at_t : ℕ = 1 + lo + pattern_numbers p + numbers first in
        let at_b : ℕ = 1 + lo + pattern_numbers p + numbers first + turn_numbers (While c) in
        let inside : Scope = with_sizes sizes scope in
        let carried : Scope = with_pattern the_one p (1 + lo) (with_sizes sizes scope) in
        let local : (m : ℕ) → 1 + lo + pattern_numbers p ≤ m → AllLocal (λ n. n < m) carried = λ m le. local_ones (λ n. n < m) p (1 + lo) inside (λ n y z. omega (arith, y, z, le)) (local_sizes (λ n. n < m) sizes scope (further lo m scope (omega (arith, le)) all)) in
        let turns = typed.0.0.1 in
        let on_body : World → Seen → Type 0 = λ there inner. Goes_in there inner at_b body (a lo) in
        let body_goes : (there : World) (inner : Seen) → In_scope there (with_turns (While c) at_t carried) a inner → Goes_in there inner at_b body (a lo) = λ there inner sees.
        goes_as N are T P K there inner at_b body (a at_b) (a lo) (sym typed.2)
        (surely body at_b (with_turns (While c) at_t carried) a there inner (local_turns (λ n. n < at_b) (While c) at_t carried (λ n y z. omega (arith, y, z)) (local at_b (omega arith)))
        typed.0.1 meant.3 (λ m l. lits m (inr (inr l))) (omega (arith, small)) sees) in
        loop_goes N are T P K world sc lo mark sizes p first body (a lo) bool_ty typed.3 (While c)
        (goes_as N are T P K world sc at_f first (a at_f) (a lo) (sym (typed.1 ∙ typed.0.0.0.1)) (surely first at_f scope a world sc (further lo at_f scope (omega arith) all) typed.0.0.0.0.1 meant.1 (λ m l. lits m (inl l)) (omega (arith, small)) h))
        tt
        (λ C g r k. pattern_well p (1 + lo) inside inside a (world.0, C) sc r (λ there inside. Goes_in there inside at_t c bool_ty × on_body there inside) meant.0.1 typed.0.0.0.0.0 (subst (λ y. At (world.0, C) y r) typed.1 k)
        (names_sizes N T P K (world.0, C) sizes scope a sc meant.0.0 (names_learn N T P K world (world.0, C) g scope a sc h))
        (λ D l seen sees. (
          goes_as N are T P K (world.0, D) seen at_t c (a at_t) bool_ty turns.1 (surely c at_t carried a (world.0, D) seen (local at_t (omega arith)) turns.0 meant.2 (λ m l. lits m (inr (inl l))) (omega (arith, small)) sees),
          body_goes (world.0, D) seen sees,
        )))

    all_surely : (ts : Terms Ref BindId) → Sure_all ts
    all_surely no_term = λ lo scope a world sc all typed meant lits small h. none_go N are T P K world sc lo
    all_surely (term_and t ts) = λ lo scope a world sc all typed meant lits small h.
        more_go N are T P K world sc lo t ts (a lo) (term_types a ts (lo + numbers t))
        (surely t lo scope a world sc all typed.0 meant.0 (λ m l. lits m (inl l)) (omega (arith, small)) h)
        (λ C g. all_surely ts (lo + numbers t) scope a (world.0, C) sc (further lo (lo + numbers t) scope (omega arith) all) typed.1 meant.1 (λ m l. lits m (inr l)) (omega (arith, small)) (names_learn N T P K world (world.0, C) g scope a sc h))
