-- What is proved of each term: what its sized type says, which nodes are noted, and that they meet the rules.
use Rattle.std.proofs.Common.{◌≡◌, ◌⊎◌, ℕ, zero, suc, ◌+◌, ◌<◌, ◌≤◌, List, ◌∷◌, Bool, true, false, ◌||◌, cond, Option, Some, None, Ok, Err, refl, sym, ap, ◌∙◌, subst, arith, inl, inr, eq-eqb}
use Rattle.std.proofs.lemmas.Bool.{ne_eqb}
use Rattle.fut_scalar.specs.declared.place.BindId.{BindId}
use Rattle.fut_flat.specs.declared.prim.Ref.{Ref}
use Rattle.fut_flat.specs.Numbers.{pattern_numbers, all_pattern_numbers}
use Rattle.fut_flat.specs.Terms.{Patterns, no_pattern, pattern_and, Lambda}
use Rattle.fut_flat.specs.Erased.{FlatTerm}
use Rattle.fut_types.specs.Types.{Ty, fun_ty, Sub}
use Rattle.fut_typing.specs.Names.{Names}
use Rattle.fut_typing.specs.Patterns.{pattern_types, arrows}
use Rattle.sized_types.specs.Sizes.{Free, Const, Name, Own, Unknown, Slot, Dim, At, Bound, Variable, Inferred, Size, Hole, Fun, erased}
use Rattle.sized_types.specs.Standing.{stands}
use Rattle.fut_sizes.specs.Agreeing.{Refusal, Answer, then_do}
use Rattle.fut_sizes.specs.Applications.{Want, Met, Argument, Part, Applied, Waiting, whole}
use Rattle.fut_sizes.specs.Functions.{is_slot}
use Rattle.fut_sizes.specs.Matching.{Found, nothing_found, none_opened, function_way, meet}
use Rattle.fut_sizes.specs.Rules.{Inside, Outside, Away, Sized}
use Rattle.fut_sizes.specs.Scopes.{Scope}
use Rattle.fut_sizes.specs.Scoping.{Context}
use Rattle.fut_sizes.specs.Sizing.{finished}
use Rattle.fut_sizes.specs.Steps.{State, Done, Step, ask, at_node}
use Rattle.fut_sizes.specs.Suiting.{Each, Scoped, Data}
use Rattle.sizes_meet_rules.specs.Known.{Formed, Says, Is_const, Judged, Elsewhere}
use Rattle.sizes_meet_rules.specs.Plain.{Flat_type, Is_lambda}
use Rattle.sizes_meet_rules.proofs.Flat_types.{flat}
use Rattle.sizes_meet_rules.proofs.Replacing.{each_as, hole_as}
use Rattle.sizes_meet_rules.proofs.Settling.{Is_settled, Any_variable, Settled, noted, whole_finished}

-- ---- steps

pub record Then_ok {A B : Type 0} (x : Answer A) (f : A → Answer B) (b : B) : Type 0 where
  pub first : A
  pub done : x ≡ Ok first
  pub rest : f first ≡ Ok b

pub then_ok : {A B : Type 0} (x : Answer A) {f : A → Answer B} {b : B} → then_do x f ≡ Ok b → Then_ok x f b
then_ok x {f = f} {b = b} e = by_answer x e
  where
    by_answer : (y : Answer _) → then_do y f ≡ Ok b → Then_ok y f b
    by_answer (Ok a) e = record { first = a; done = refl; rest = e }
    by_answer (Err r) e = absurd (let z : ◌≡◌ {A = Answer _} (Err r) (Ok b) = e in cc)

-- what is asked leaves the state as it is
pub record Asked {A : Type 0} (r : Answer A) (s : State) (d : Done A) : Type 0 where
  pub answer : r ≡ Ok d.result
  pub state : d.state ≡ s

pub same_ok : {A : Type 0} {a b : A} → ◌≡◌ {A = Answer A} (Ok a) (Ok b) → a ≡ b
same_ok e = cc

pub refused_ok : {A X : Type 0} {r : Refusal} {b : A} → ◌≡◌ {A = Answer A} (Err r) (Ok b) → X
refused_ok {A = A} {r = r} {b = b} e = absurd (let z : ◌≡◌ {A = Answer A} (Err r) (Ok b) = e in cc)

pub asked : {A : Type 0} (r : Answer A) (s : State) (d : Done A) → ask r s ≡ Ok d → Asked r s d
asked r s d e = by_answer r e
  where
    by_answer : (y : Answer _) → ask y s ≡ Ok d → Asked y s d
    by_answer (Ok a) e = let z = same_ok e in record { answer = ap (λ (x : Done _). Ok x.result) z; state = ap (λ (x : Done _). x.state) (sym z) }
    by_answer (Err r) e = refused_ok e

pub at_itself : {A : Type 0} (n : ℕ) (t : A) (f : ℕ → A) → at_node n t f n ≡ t
at_itself n t f = ap (λ b. cond b t (f n)) (eq-eqb n n refl)

pub at_another : {A : Type 0} (n m : ℕ) (t : A) (f : ℕ → A) → (n ≡ m → ⊥) → at_node n t f m ≡ f m
at_another n m t f ne = ap (λ b. cond b t (f m)) (ne_eqb n m ne)

pub order : (m n : ℕ) → (m < n) ⊎ (n ≤ m)
order m zero = inr (omega arith)
order zero (suc n) = inl (omega arith)
order (suc m) (suc n) = shifted (order m n)
  where
    shifted : (m < n) ⊎ (n ≤ m) → (suc m < suc n) ⊎ (suc n ≤ suc m)
    shifted (inl l) = inl (omega (arith, l))
    shifted (inr l) = inr (omega (arith, l))

-- ---- sizes that a term makes

-- a constant, or met at one of these nodes
abbrev pub Met_in : ℕ → ℕ → Free → Type 0
Met_in lo hi (Const c) = Unit {0}
Met_in lo hi (Unknown n i) = (lo ≤ n) × (n < hi)
Met_in lo hi d = ⊥

abbrev pub With_met : (Free → Type 0) → ℕ → ℕ → Free → Type 0
With_met In lo hi d = In d ⊎ Met_in lo hi d

pub met_wider : (lo hi lo' hi' : ℕ) → lo' ≤ lo → hi ≤ hi' → (d : Free) → Met_in lo hi d → Met_in lo' hi' d
met_wider lo hi lo' hi' l l' (Const c) m = tt
met_wider lo hi lo' hi' l l' (Name c) m = absurd m
met_wider lo hi lo' hi' l l' (Own c i) m = absurd m
met_wider lo hi lo' hi' l l' (Slot c) m = absurd m
met_wider lo hi lo' hi' l l' (Unknown n i) m = let a = m.0 in let b = m.1 in (omega (arith, l, a), omega (arith, l', b))

pub met_no_slot : (lo hi : ℕ) (d : Free) → Met_in lo hi d → is_slot d ≡ false
met_no_slot lo hi (Const c) m = refl
met_no_slot lo hi (Name c) m = absurd m
met_no_slot lo hi (Own c i) m = absurd m
met_no_slot lo hi (Slot c) m = absurd m
met_no_slot lo hi (Unknown n i) m = refl

pub scoped_as : (In In' : Free → Type 0) → ((d : Free) → In d → In' d) → (j : ℕ) (d : Dim) → Scoped In j d → Scoped In' j d
scoped_as In In' w j (At d) h = w d h
scoped_as In In' w j (Bound k i) h = h

pub each_scoped : (In In' : Free → Type 0) → ((d : Free) → In d → In' d) → (t : Size) (j : ℕ) → Each (Scoped In) j t → Each (Scoped In') j t
each_scoped In In' w t j h = each_as (Scoped In) (Scoped In') (scoped_as In In' w) t j h

pub says_more : (In In' : Free → Type 0) (Vars : Variable → Type 0) (t : Size) → ((d : Free) → In d → In' d) → Says In Vars t → Says In' Vars t
says_more In In' Vars t w h = record { sizes = each_scoped In In' w t 0 h.sizes; variables = h.variables; formed = h.formed }

pub says_settled : (In : Free → Type 0) (Vars : Variable → Type 0) (t : Size) → ((d : Free) → In d → is_slot d ≡ false) → Says In Vars t → Settled t
says_settled In Vars t n h = (each_scoped In Is_settled n t 0 h.sizes, hole_as Vars Any_variable (λ v o. tt) t h.variables)

-- ---- a lambda that is wanted

-- it is sized as by itself, and then matched
pub record As_alone (waiting : Option Want → Found → Step Met) (lo : ℕ) (w : Want) (σ : Found) (before : State) (m : Done Met) : Type 0 where
  pub alone : Done Met
  pub ran : waiting None nothing_found before ≡ Ok alone
  pub size : alone.result.size ≡ m.result.size
  pub state : alone.state ≡ m.state
  pub met : meet w.node (function_way w.is_regular) lo none_opened w.size none_opened m.result.size σ ≡ Ok m.result.found

module _ (types : Sub) where
  -- a function type of these parameters, in which are no arrays
  abbrev pub Flat_wanted : Patterns Ref BindId → ℕ → Size → Type 0
  Flat_wanted no_pattern q t = Unit {0}
  Flat_wanted (pattern_and p ps) q (Fun k t r) = (Flat_type (types q) × (t ≡ flat (types q))) × Flat_wanted ps (q + pattern_numbers p) r
  Flat_wanted ps q t = ⊥

  -- the type of a lambda is that of its parameters and its body
  abbrev pub Lambda_typed : FlatTerm → ℕ → Type 0
  Lambda_typed (Lambda ps e) lo = types lo ≡ arrows (pattern_types types ps (1 + lo)) (types (1 + lo + all_pattern_numbers ps))
  Lambda_typed e lo = Unit {0}

  abbrev pub Lambda_wanted : FlatTerm → ℕ → Size → Type 0
  Lambda_wanted (Lambda ps e) lo t = Flat_wanted ps (1 + lo) t
  Lambda_wanted e lo t = ⊥

  -- a function type of these parameters, which are data of these sizes
  abbrev pub Data_wanted : (Free → Type 0) → Patterns Ref BindId → ℕ → Size → Type 0
  Data_wanted P no_pattern q t = Unit {0}
  Data_wanted P (pattern_and p ps) q (Fun k t r) = (Data t × Formed t × Each (Scoped P) 0 t × (erased t ≡ types q)) × Data_wanted P ps (q + pattern_numbers p) r
  Data_wanted P ps q t = ⊥

  abbrev pub Data_lambda : (Free → Type 0) → FlatTerm → ℕ → Size → Type 0
  Data_lambda P (Lambda ps e) lo t = Data_wanted P ps (1 + lo) t
  Data_lambda P e lo t = ⊥

-- it stands in what is wanted of a parameter
abbrev pub stands_wanted : Patterns Ref BindId → Size → Free → Bool
stands_wanted no_pattern t d = false
stands_wanted (pattern_and p ps) (Fun k x r) d = stands x d || stands_wanted ps r d
stands_wanted ps t d = false

abbrev pub Stands_lambda : FlatTerm → Size → Free → Type 0
Stands_lambda (Lambda ps e) t d = stands_wanted ps t d ≡ true
Stands_lambda e t d = ⊥

-- the parameters of the first are those of the second
abbrev pub Same_parameters : Patterns Ref BindId → Size → Size → Type 0
Same_parameters no_pattern w t = Unit {0}
Same_parameters (pattern_and p ps) (Fun k x r) (Fun zero y s) = (y ≡ x) × Same_parameters ps r s
Same_parameters ps w t = ⊥

abbrev pub Same_lambda : FlatTerm → Size → Size → Type 0
Same_lambda (Lambda ps e) w t = Same_parameters ps w t
Same_lambda e w t = ⊥

module _ (N : Names) (types : Sub) (home : ℕ → ℕ) where
  abbrev pub In_nodes : ℕ → ℕ → Free → Type 0
  In_nodes lo hi d = Inside N types (λ n. Hole (Inferred n)) home lo hi d

  pub inside_wider : (lo hi lo' hi' : ℕ) → lo' ≤ lo → hi ≤ hi' → (d : Free) → In_nodes lo hi d → In_nodes lo' hi' d
  inside_wider lo hi lo' hi' l l' (Const c) m = absurd m
  inside_wider lo hi lo' hi' l l' (Slot c) m = absurd m
  inside_wider lo hi lo' hi' l l' (Name b) m = let x = m.0 in let y = m.1 in (omega (arith, l, x), omega (arith, l', y))
  inside_wider lo hi lo' hi' l l' (Own n i) m = let x = m.0 in let y = m.1 in (omega (arith, l, x), omega (arith, l', y))
  inside_wider lo hi lo' hi' l l' (Unknown n i) m = let x = m.0 in let y = m.1 in (omega (arith, l, x), omega (arith, l', y))

  -- what is met at some nodes is made at no others
  pub met_outside : (lo hi lo' hi' : ℕ) → (hi ≤ lo') ⊎ (hi' ≤ lo) → (d : Free) → Met_in lo hi d → In_nodes lo' hi' d → ⊥
  met_outside lo hi lo' hi' apart (Const c) m i = i
  met_outside lo hi lo' hi' apart (Slot c) m i = m
  met_outside lo hi lo' hi' apart (Name b) m i = m
  met_outside lo hi lo' hi' apart (Own n k) m i = m
  met_outside lo hi lo' hi' (inl l) (Unknown n k) m i = let a = m.1 in let b = i.0 in omega (arith, l, a, b)
  met_outside lo hi lo' hi' (inr l) (Unknown n k) m i = let a = m.0 in let b = i.1 in omega (arith, l, a, b)

  pub elsewhere_narrower : (lo hi lo' hi' : ℕ) (In : Free → Type 0) → lo ≤ lo' → hi' ≤ hi → Elsewhere N types home lo hi In → Elsewhere N types home lo' hi' In
  elsewhere_narrower lo hi lo' hi' In l l' E = record { no_slot = E.no_slot; outside = λ d i o. E.outside d i (inside_wider lo' hi' lo hi l l' d o) }

  -- made at none of these nodes
  abbrev pub Around : ℕ → ℕ → Free → Type 0
  Around lo hi d = (is_slot d ≡ false) × (In_nodes lo hi d → ⊥)

  pub met_settled : (In : Free → Type 0) (from to lo hi : ℕ) → Elsewhere N types home from to In → (d : Free) → With_met In lo hi d → is_slot d ≡ false
  met_settled In from to lo hi E d (inl i) = E.no_slot d i
  met_settled In from to lo hi E d (inr i) = met_no_slot lo hi d i

  -- what says only these is away from the nodes where none of these is made
  pub away_of : (In : Free → Type 0) (Vars : Variable → Type 0) (s : ℕ → Size) (lo hi : ℕ) (t : Size) → ((d : Free) → In d → In_nodes lo hi d → ⊥) → Says In Vars t → Away N types s home lo hi t
  away_of In Vars s lo hi t o h = each_scoped In (λ d. Outside N types s home lo hi d) o t 0 h.sizes

  module _ (In : Free → Type 0) (Vars : Variable → Type 0) (scope : Scope) where
    -- a term whose node is not noted yet
    pub record Inner (e : FlatTerm) (lo hi : ℕ) (st : State) (t : Size) (after : State) : Type 0 where
      pub says : Says (With_met In lo hi) Vars t
      pub typed : erased t ≡ types lo
      pub kept : (n : ℕ) → (n < lo) ⊎ (hi ≤ n) → after.nodes n ≡ st.nodes n
      pub dropped : (n : ℕ) → (n < lo) ⊎ (hi ≤ n) → after.dropped n ≡ st.dropped n
      pub rules : (s : ℕ → Size) (G : Context) → Judged In Vars scope G → s lo ≡ t → ((n : ℕ) → lo < n → n < hi → s n ≡ after.nodes n) → Sized N types s home e lo G

    -- and one whose node is
    pub record Meets (e : FlatTerm) (lo hi : ℕ) (st : State) (t : Size) (after : State) : Type 0 where
      pub says : Says (With_met In lo hi) Vars t
      pub typed : erased t ≡ types lo
      pub here : after.nodes lo ≡ t
      pub kept : (n : ℕ) → (n < lo) ⊎ (hi ≤ n) → after.nodes n ≡ st.nodes n
      pub dropped : (n : ℕ) → (n < lo) ⊎ (hi ≤ n) → after.dropped n ≡ st.dropped n
      pub rules : (s : ℕ → Size) (G : Context) → Judged In Vars scope G → ((n : ℕ) → lo ≤ n → n < hi → s n ≡ after.nodes n) → Sized N types s home e lo G

    pub record Whole_meets (e : FlatTerm) (lo hi : ℕ) (st : State) (part : Part) (after : State) : Type 0 where
      pub size : Size
      pub is_whole : part ≡ whole size
      pub inner : Inner e lo hi st size after

    pub record Waits (e : FlatTerm) (lo hi : ℕ) (st : State) (part : Part) (after : State) : Type 0 where
      pub waiting : Option Want → Found → Step Met
      pub is_waiting : part ≡ Waiting waiting
      pub unchanged : after ≡ st
      pub of_function : (p : Ty) × ((r : Ty) × (types lo ≡ fun_ty p r))
      pub is_lambda : Is_lambda e
      pub typed_as : Lambda_typed types e lo
      pub known_sizes : (before : State) (m : Done Met) → waiting None nothing_found before ≡ Ok m → Each (Scoped (λ d. In d ⊎ Is_const d)) 0 m.result.size
      pub by_itself : (before : State) (m : Done Met) → waiting None nothing_found before ≡ Ok m → Meets e lo hi before m.result.size m.state
      pub as_wanted : (w : Want) (σ : Found) (before : State) (m : Done Met) → Lambda_wanted types e lo w.size → waiting (Some w) σ before ≡ Ok m → As_alone waiting lo w σ before m

    -- a lambda that takes the parameters that are wanted of it
    pub record Wide_ran (e : FlatTerm) (lo hi : ℕ) (w : Want) (σ : Found) (before : State) (m : Done Met) : Type 0 where
      pub says : Says (λ d. With_met In lo hi d ⊎ Stands_lambda e w.size d) Vars m.result.size
      pub typed : erased m.result.size ≡ types lo
      pub here : m.state.nodes lo ≡ m.result.size
      pub kept : (n : ℕ) → (n < lo) ⊎ (hi ≤ n) → m.state.nodes n ≡ before.nodes n
      pub dropped : (n : ℕ) → (n < lo) ⊎ (hi ≤ n) → m.state.dropped n ≡ before.dropped n
      pub rules : (s : ℕ → Size) (G : Context) → Judged In Vars scope G → ((n : ℕ) → lo ≤ n → n < hi → s n ≡ m.state.nodes n) → Sized N types s home e lo G
      pub parameters : Same_lambda e w.size m.result.size
      pub met : meet w.node (function_way w.is_regular) lo none_opened w.size none_opened m.result.size σ ≡ Ok m.result.found

    pub record Waits_wide (e : FlatTerm) (lo hi : ℕ) (st : State) (part : Part) (after : State) : Type 0 where
      pub waiting : Option Want → Found → Step Met
      pub is_waiting : part ≡ Waiting waiting
      pub unchanged : after ≡ st
      pub of_function : (p : Ty) × ((r : Ty) × (types lo ≡ fun_ty p r))
      pub typed_as : Lambda_typed types e lo
      pub as_wanted : (w : Want) (σ : Found) (before : State) (m : Done Met) → Data_lambda types (Around lo hi) e lo w.size → waiting (Some w) σ before ≡ Ok m → Wide_ran e lo hi w σ before m

    -- a function whose arguments wait to be matched
    pub record Is_applied (e : FlatTerm) (lo hi : ℕ) (st : State) (part : Part) (after : State) : Type 0 where
      pub function : Size
      pub regular : Bool
      pub argument : Argument
      pub others : List Argument
      pub is_applied : part ≡ Applied function regular (argument ∷ others)
      pub by_itself : (u : Done Size) → finished N types lo part after ≡ Ok u → Meets e lo hi st u.result u.state

    abbrev pub Part_meets : FlatTerm → ℕ → ℕ → State → Part → State → Type 0
    Part_meets e lo hi st part after = Whole_meets e lo hi st part after ⊎ (Waits e lo hi st part after ⊎ Is_applied e lo hi st part after)

    -- what is said of a noted term, where its node is left out
    pub inner_of : (e : FlatTerm) (lo hi : ℕ) (st : State) (t : Size) (after : State) → Meets e lo hi st t after → Inner e lo hi st t after
    inner_of e lo hi st t after M = record {
      says = M.says;
      typed = M.typed;
      kept = M.kept;
      dropped = M.dropped;
      rules = λ s G J h a. M.rules s G J (λ n x y. by_place s n (order lo n) h a y x);
    }
      where
        by_place : (s : ℕ → Size) (n : ℕ) → (lo < n) ⊎ (n ≤ lo) → s lo ≡ t → ((n : ℕ) → lo < n → n < hi → s n ≡ after.nodes n) → n < hi → lo ≤ n → s n ≡ after.nodes n
        by_place s n (inl x) h a y z = a n x y
        by_place s n (inr x) h a y z = subst (λ k. s k ≡ after.nodes k) (let q : lo ≡ n = omega (arith, x, z) in q) (h ∙ sym M.here)

    pub noted_meets : (e : FlatTerm) (lo hi : ℕ) (st : State) (t : Size) (after : State) → lo < hi → Inner e lo hi st t after → Meets e lo hi st t (noted lo t after).state
    noted_meets e lo hi st t after l I = record {
      says = I.says;
      typed = I.typed;
      here = at_itself lo t after.nodes;
      kept = λ n o. at_another lo n t after.nodes (λ q. apart n o q) ∙ I.kept n o;
      dropped = I.dropped;
      rules = λ s G J a. I.rules s G J (a lo (omega arith) l ∙ at_itself lo t after.nodes) (λ n x y. a n (omega (arith, x)) y ∙ at_another lo n t after.nodes (λ q. omega (arith, q, x)));
    }
      where
        apart : (n : ℕ) → (n < lo) ⊎ (hi ≤ n) → lo ≡ n → ⊥
        apart n (inl x) q = omega (arith, x, q)
        apart n (inr x) q = omega (arith, x, q, l)

    -- a term by itself
    pub finished_meets : (e : FlatTerm) (lo hi : ℕ) (st : State) (part : Part) (after : State) (u : Done Size) → lo < hi → Elsewhere N types home lo hi In → Part_meets e lo hi st part after → finished N types lo part after ≡ Ok u → Meets e lo hi st u.result u.state
    finished_meets e lo hi st part after u l E (inl W) q = subst (λ (d : Done Size). Meets e lo hi st d.result d.state) (same_ok now) (noted_meets e lo hi st W.size after l W.inner)
      where
        now : ◌≡◌ {A = Answer (Done Size)} (Ok (noted lo W.size after)) (Ok u)
        now = sym (whole_finished N types lo W.size after (says_settled (With_met In lo hi) Vars W.size (met_settled In lo hi lo hi E) W.inner.says)) ∙ ap (λ p. finished N types lo p after) (sym W.is_whole) ∙ q
    finished_meets e lo hi st part after u l E (inr (inr W)) q = W.by_itself u q
    finished_meets e lo hi st part after u l E (inr (inl W)) q = subst (λ (d : Done Size). Meets e lo hi st d.result d.state) (same_ok ran.rest) again
      where
        waited : finished N types lo (Waiting W.waiting) st ≡ Ok u
        waited = ap (λ p. finished N types lo p st) (sym W.is_waiting) ∙ ap (finished N types lo part) (sym W.unchanged) ∙ q

        ran : Then_ok (W.waiting None nothing_found st) (λ m. Ok (noted lo m.result.size m.state)) u
        ran = then_ok (W.waiting None nothing_found st) waited

        M : Meets e lo hi st ran.first.result.size ran.first.state
        M = W.by_itself st ran.first ran.done

        again : Meets e lo hi st ran.first.result.size (noted lo ran.first.result.size ran.first.state).state
        again = noted_meets e lo hi st ran.first.result.size ran.first.state l (inner_of e lo hi st ran.first.result.size ran.first.state M)

    -- a function that waits says no size that is met in it
    pub function_knows : (e : FlatTerm) (lo hi : ℕ) (st : State) (part : Part) (after : State) (u : Done Size) → Waits e lo hi st part after → finished N types lo part after ≡ Ok u → Each (Scoped (λ d. In d ⊎ Is_const d)) 0 u.result
    function_knows e lo hi st part after u W q = subst (λ (d : Done Size). Each (Scoped (λ d. In d ⊎ Is_const d)) 0 d.result) (same_ok ran.rest) (W.known_sizes st ran.first ran.done)
      where
        ran : Then_ok (W.waiting None nothing_found st) (λ m. Ok (noted lo m.result.size m.state)) u
        ran = then_ok (W.waiting None nothing_found st) (ap (λ p. finished N types lo p st) (sym W.is_waiting) ∙ ap (finished N types lo part) (sym W.unchanged) ∙ q)
