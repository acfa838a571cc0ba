-- What whole programs give is of the sized types of their entries' results.
use Rattle.fut_scalar.specs.declared.report.Report.{Report}
use Rattle.sized_meaning.specs.There.{Term_there}
use Rattle.sized_meaning.specs.Reports.{Definitions_there}
use Rattle.sized_meaning.proofs.Outcomes.{gives_quiet}
use Rattle.sized_meaning.proofs.Size_reports.{top_fine}
use Rattle.sized_meaning.specs.There.{There}
use Rattle.std.specs.Prelude.{map, ℤ}
use Rattle.std.proofs.Common.{◌≡◌, ◌⊎◌, ℕ, ◌+◌, ◌-◌, ◌<◌, ◌≤◌, List, [], ◌∷◌, Bool, true, false, ◌&&◌, ◌||◌, cond, nat_eq, Option, Some, None, refl, sym, ap, ◌∙◌, subst, arith, inl, inr, eqb-true, eq-eqb}
use Rattle.std.proofs.lemmas.Bool.{ne_eqb}
use Rattle.fut_scalar.specs.declared.place.BindId.{BindId}
use Rattle.fut_scalar.specs.declared.scalar.ScalarType.TheVariants as sort
use Rattle.fut_flat.specs.declared.prim.Ref.{Ref}
use Rattle.fut_flat.specs.Numbers.{numbers}
use Rattle.fut_types.specs.declared.Head.TheVariants as head
use Rattle.fut_types.specs.Types.{Sub}
use Rattle.fut_typing.specs.Names.{Names}
use Rattle.fut_typing.specs.Program.{program_numbers}
use Rattle.fut_value.specs.Data.{Shape}
use Rattle.fut_meaning.specs.Flats.{FlatValue, FlatEnv, FlatTops, Named_term, flat_look, flat_names, flat_tops, is_flat_use}
use Rattle.fut_meaning.specs.Found.{is_number}
use Rattle.fut_meaning.specs.Meaning.{plain}
use Rattle.fut_meaning.specs.Outcomes.{Out, Val, Fail, Wrong, Rel, Then, choose}
use Rattle.fut_meaning.specs.Programs.{Seen, seeing, below_names, top, is_reached, evaluated, applied_to}
use Rattle.fut_meaning.specs.Telling.{worth_of, is_function, found}
use Rattle.fut_meaning.specs.Values.{Closure, Primitive_value, entered, Evaluate}
use Rattle.sized_types.specs.Sizes.{Free, Const, Name, Own, Unknown, Slot, Variable, Size, Hole, Open, Level, Built, Fun}
use Rattle.fut_sizes.specs.ProgramRules.{Definitions_sized, Program_sized}
use Rattle.fut_sizes.specs.Rules.{Away, Sized}
use Rattle.fut_sizes.specs.Scoping.{Context, with_scheme, is_name, nothing_known}
use Rattle.sized_meaning.specs.Worth.{Worth, Frames, no_frames, push}
use Rattle.sized_meaning.specs.Shapes.{Meant, exactly}
use Rattle.sized_meaning.specs.Finding.{One_shape_each, One_kind_each}
use Rattle.sized_meaning.specs.Fits.{Gives, word, Fits}
use Rattle.sized_meaning.specs.Law.{Sound, World, One_type, Plain_term, told, means, calls, Beyond as Out_beyond, Named_at, Env_fits, Result as Res}
use Rattle.sized_meaning.specs.Programs.{as_defined, at_tops, Definitions_are, and_seen, seen_behind, DefinitionsAreEntered, Plain_definitions, Arguments_fit, Result_fits, ProgramsHaveTheirSizes}
use Rattle.sized_meaning.proofs.Ways.{gives_as}
use Rattle.sized_meaning.proofs.Outcomes.{gives_exact, gives_then, gives_more, out_of}
use Rattle.sized_meaning.proofs.Finding.{some_same, none_no, exact_kinds}
use Rattle.sized_meaning.specs.Entered.{Right_entry, All_entered}
use Rattle.sized_meaning.proofs.Entered.{fits_read}
use Rattle.sized_meaning.proofs.Suiting.{free_is, function_of}
use Rattle.sized_meaning.proofs.Environments.{word_is, number_here, number_value, outside_narrower, away_narrower, fits_away, Right_before, Named_here, name_found, entered_right, size_entered}
use Rattle.sized_meaning.proofs.More_tops.{Has_more, value_kept}
use Rattle.sized_meaning.proofs.Law.{law}
use Rattle.sized_meaning.proofs.Named.{named_among}

abbrev FlatSeen : Type 0
FlatSeen = Seen Ref BindId (Unit {0})

-- each value with how it comes about, where it is known how reports do
derived : {quiet : Report → Type 0} {A : Type 0} (m : Rel A) → ((r : Report) (f : ℕ) → m (Fail r) f → quiet r) → Gives quiet (λ v. (f : ℕ) × m (Val v) f) m
derived m told (Val v) f x = (f, x)
derived m told (Fail r) f x = told r f x
derived m told Wrong f x = tt

the_same : (v w : FlatValue) → ◌≡◌ {A = Out FlatValue} (Val v) (Val w) → v ≡ w
the_same v w e = let z = e in cc

no_value : (v : FlatValue) → ◌≡◌ {A = Out FlatValue} Wrong (Val v) → ⊥
no_value v e = let z = e in cc

module _ (N : Names) (types : Sub) (τ : Meant) (W : World) (S : Sound N types W.sizing) (one : One_kind_each τ) where
  abbrev s : ℕ → Size
  s n = W.sizing.size_at n

  abbrev home : ℕ → ℕ
  home b = W.sizing.home b

  -- ---- the definitions that are evaluated

  -- a name that is defined by these
  abbrev Is_defined : List Named_term → ℕ → Type 0
  Is_defined [] b = ⊥
  Is_defined (d ∷ ds) b = (b ≡ d.0.0) ⊎ Is_defined ds b

  -- the numbers of these begin here
  abbrev At_home : ℕ → List Named_term → Type 0
  At_home lo [] = Unit {0}
  At_home lo (d ∷ ds) = (home d.0.0 ≡ lo) × At_home (lo + (1 + numbers d.1)) ds

  defined_behind : (ds : List Named_term) (lo b : ℕ) → At_home lo ds → Is_defined ds b → lo ≤ home b
  defined_behind [] lo b h x = absurd x
  defined_behind (d ∷ ds) lo b h (inl e) = let z = ap (λ k. W.sizing.home k) e in let y = h.0 in omega (arith, z, y)
  defined_behind (d ∷ ds) lo b h (inr x) = let z = defined_behind ds (lo + (1 + numbers d.1)) b h.1 x in omega (arith, z)

  -- what a definition begins with
  abbrev Under : FlatSeen → FlatEnv
  Under seen = below_names seen tt

  abbrev behind : ℕ → Named_term → ℕ
  behind lo d = lo + (1 + numbers d.1)

  abbrev Before : ℕ → FlatTops → Type 0
  Before lo tops = (b : ℕ) (v : FlatValue) → top tops b ≡ Val v → home b < lo

  module _ (entry : ℕ) where
    -- whether a name is reached through these definitions
    abbrev reached : ℕ → List Named_term → ℕ → Bool
    reached lo ds b = is_reached is_flat_use (Some W.sizing) entry (flat_tops lo ds) b

    -- a definition that is evaluated has its value by its term
    record Valued (T : FlatTops) (lo : ℕ) (seen : FlatSeen) (d : Named_term) (ds : List Named_term) (v : FlatValue) : Type 0 where
      reached_first : reached (behind lo d) ds d.0.0 ≡ true
      value : top T d.0.0 ≡ Val v
      by_term : (f : ℕ) × means (at_tops W T) (Evaluate (Under seen) (1 + lo) d.1) (Val v) f

    -- and each one that is reached is evaluated
    record Passed (T : FlatTops) (lo : ℕ) (d : Named_term) (ds : List Named_term) : Type 0 where
      none : (v : FlatValue) → top T d.0.0 ≡ Val v → ⊥
      other : reached (behind lo d) ds d.0.0 ≡ false

    -- where it ends: behind the last definition, or at one that is reached and reports this
    abbrev Finished : FlatTops → ℕ → FlatSeen → List Named_term → Type 0
    Finished T lo seen [] = Unit {0}
    Finished T lo seen (d ∷ ds) = ⊥

    abbrev Reporting : Report → FlatTops → ℕ → FlatSeen → List Named_term → Type 0
    Reporting r T lo seen [] = ⊥
    Reporting r T lo seen (d ∷ ds) = (reached (behind lo d) ds d.0.0 ≡ true) × (f : ℕ) × means (at_tops W T) (Evaluate (Under seen) (1 + lo) d.1) (Fail r) f

    module _ (End : FlatTops → ℕ → FlatSeen → List Named_term → Type 0) where
      abbrev Made : FlatTops → ℕ → FlatSeen → List Named_term → Type 0
      Made T lo seen [] = End T lo seen []
      Made T lo seen (d ∷ ds) = End T lo seen (d ∷ ds) ⊎ (((v : FlatValue) × Valued T lo seen d ds v × Made T (behind lo d) (seeing lo v seen) ds) ⊎ (Passed T lo d ds × Made T (behind lo d) seen ds))

      record Tops_after (lo : ℕ) (seen : FlatSeen) (ds : List Named_term) (tops T : FlatTops) : Type 0 where
        kept : Has_more tops T
        made : Made T lo seen ds
        named : (b : ℕ) (v : FlatValue) → top T b ≡ Val v → (top tops b ≡ Val v) ⊎ Is_defined ds b

    -- all tops that come about where it ends with a report
    abbrev Reported : ℕ → FlatSeen → List Named_term → FlatTops → Report → Type 0
    Reported lo seen ds tops r = (T : FlatTops) × Tops_after (Reporting r) lo seen ds tops T

    abbrev Evaluated : ℕ → List Named_term → FlatSeen → FlatTops → Rel FlatTops
    Evaluated lo ds seen tops = evaluated (flat_names (told W)) (plain W.tight) W.budget entry (flat_tops lo ds) seen tops

    -- a definition that is passed over
    passed : (End : FlatTops → ℕ → FlatSeen → List Named_term → Type 0) (lo : ℕ) (seen : FlatSeen) (d : Named_term) (ds : List Named_term) (tops T : FlatTops) → home d.0.0 ≡ lo → At_home (behind lo d) ds → Before lo tops → reached (behind lo d) ds d.0.0 ≡ false → Tops_after End (behind lo d) seen ds tops T → Tops_after End lo seen (d ∷ ds) tops T
    passed End lo seen d ds tops T e later before other A = record {
      kept = A.kept;
      made = inr (inr (record { none = λ v q. never v q (A.named d.0.0 v q); other = other }, A.made));
      named = λ b v q. further b v (A.named b v q);
    }
      where
        never : (v : FlatValue) → top T d.0.0 ≡ Val v → (top tops d.0.0 ≡ Val v) ⊎ Is_defined ds d.0.0 → ⊥
        never v q (inl h) = let z = before d.0.0 v h in omega (arith, z, e)
        never v q (inr h) = let z = defined_behind ds (behind lo d) d.0.0 later h in omega (arith, z, e)

        further : (b : ℕ) (v : FlatValue) → (top tops b ≡ Val v) ⊎ Is_defined ds b → (top tops b ≡ Val v) ⊎ Is_defined (d ∷ ds) b
        further b v (inl h) = inl h
        further b v (inr h) = inr (inr h)

    -- one that has this value
    valued : (End : FlatTops → ℕ → FlatSeen → List Named_term → Type 0) (lo : ℕ) (seen : FlatSeen) (d : Named_term) (ds : List Named_term) (tops T : FlatTops) (v : FlatValue) (f : ℕ) → home d.0.0 ≡ lo → Before lo tops → reached (behind lo d) ds d.0.0 ≡ true → means (at_tops W tops) (Evaluate (Under seen) (1 + lo) d.1) (Val v) f → Tops_after End (behind lo d) (seeing (1 + lo - 1) v seen) ds ((d.0.0, v) ∷ tops) T → Tops_after End lo seen (d ∷ ds) tops T
    valued End lo seen d ds tops T v f e before r x A = record {
      kept = more;
      made = inr (inl (v, record { reached_first = r; value = has; by_term = (f, value_kept (told W) W.tight W.budget tops T more (Evaluate (Under seen) (1 + lo) d.1) v f x) }, subst (λ q. Made End T (behind lo d) (seeing q v seen) ds) at_name A.made));
      named = λ b w q. further b w (A.named b w q);
    }
      where
        at_name : 1 + lo - 1 ≡ lo
        at_name = omega arith

        has : top T d.0.0 ≡ Val v
        has = A.kept d.0.0 v (ap (λ c. cond c (Val v) (top tops d.0.0)) (eq-eqb d.0.0 d.0.0 refl))

        more : Has_more tops T
        more b w q = A.kept b w (ap (λ c. cond c (Val v) (top tops b)) (ne_eqb d.0.0 b (λ z. let y = before b w q in let x = ap (λ k. W.sizing.home k) z in omega (arith, y, x, e))) ∙ q)

        tested : (b : ℕ) (w : FlatValue) (c : Bool) → nat_eq d.0.0 b ≡ c → cond c (Val v) (top tops b) ≡ Val w → (top tops b ≡ Val w) ⊎ Is_defined (d ∷ ds) b
        tested b w true z q = inr (inl (sym (eqb-true d.0.0 b z)))
        tested b w false z q = inl q

        further : (b : ℕ) (w : FlatValue) → (cond (nat_eq d.0.0 b) (Val v) (top tops b) ≡ Val w) ⊎ Is_defined ds b → (top tops b ≡ Val w) ⊎ Is_defined (d ∷ ds) b
        further b w (inl h) = tested b w (nat_eq d.0.0 b) refl h
        further b w (inr h) = inr (inr h)

    before_more : (lo : ℕ) (d : Named_term) (tops : FlatTops) (v : FlatValue) → home d.0.0 ≡ lo → Before lo tops → Before (behind lo d) ((d.0.0, v) ∷ tops)
    before_more lo d tops v e before b w q = tested (nat_eq d.0.0 b) refl q
      where
        tested : (c : Bool) → nat_eq d.0.0 b ≡ c → cond c (Val v) (top tops b) ≡ Val w → home b < behind lo d
        tested true z q = let x = ap (λ k. W.sizing.home k) (eqb-true d.0.0 b z) in omega (arith, x, e)
        tested false z q = let y = before b w q in omega (arith, y)

    -- what is evaluated behind a definition of this value
    abbrev After_value : ℕ → Named_term → List Named_term → FlatSeen → FlatTops → FlatValue → Rel FlatTops
    After_value lo d ds seen tops v = Evaluated (behind lo d) ds (seeing (1 + lo - 1) v seen) ((d.0.0, v) ∷ tops)

    abbrev Ends : ℕ → FlatSeen → List Named_term → FlatTops → Rel FlatTops → Type 0
    Ends lo seen ds tops m = Gives (Reported lo seen ds tops) (Tops_after Finished lo seen ds tops) m

    evaluated_tops : (ds : List Named_term) (lo : ℕ) (seen : FlatSeen) (tops : FlatTops) → At_home lo ds → Before lo tops → Ends lo seen ds tops (Evaluated lo ds seen tops)
    unfolding flat_tops flat_names
    evaluated_tops [] lo seen tops h before = gives_exact (Reported lo seen [] tops) (Tops_after Finished lo seen [] tops) 0 (Val tops) (record { kept = λ b v q. q; made = tt; named = λ b v q. inl q })
    evaluated_tops (d ∷ ds) lo seen tops h before =
        either (reached (behind lo d) ds d.0.0)
        (λ other. gives_quiet (Tops_after Finished (behind lo d) seen ds tops) (Tops_after Finished lo seen (d ∷ ds) tops) (Evaluated (behind lo d) ds seen tops) (λ r A. (A.0, passed (Reporting r) lo seen d ds tops A.0 h.0 h.1 before other A.1)) (evaluated_tops ds (behind lo d) seen tops h.1 (λ b v q. let y = before b v q in omega (arith, y)))
        (λ T A. passed Finished lo seen d ds tops T h.0 h.1 before other A))
        (λ r. gives_then (λ v. (f : ℕ) × means (at_tops W tops) (Evaluate (Under seen) (1 + lo) d.1) (Val v) f) (Tops_after Finished lo seen (d ∷ ds) tops) (means (at_tops W tops) (Evaluate (Under seen) (1 + lo) d.1)) (After_value lo d ds seen tops)
        (derived (means (at_tops W tops) (Evaluate (Under seen) (1 + lo) d.1)) (λ q f x. (tops, record { kept = λ b v q. q; made = inl (r, f, x); named = λ b v q. inl q })))
        (λ v x. gives_quiet (Tops_after Finished (behind lo d) (seeing (1 + lo - 1) v seen) ds ((d.0.0, v) ∷ tops)) (Tops_after Finished lo seen (d ∷ ds) tops) (After_value lo d ds seen tops v) (λ q A. (A.0, valued (Reporting q) lo seen d ds tops A.0 v x.0 h.0 before r x.1 A.1))
        (evaluated_tops ds (behind lo d) (seeing (1 + lo - 1) v seen) ((d.0.0, v) ∷ tops) h.1 (before_more lo d tops v h.0 before)) (λ T A. valued Finished lo seen d ds tops T v x.0 h.0 before r x.1 A)))
      where
        either : (c : Bool) → (c ≡ false → Ends lo seen (d ∷ ds) tops (Evaluated (behind lo d) ds seen tops)) → (c ≡ true → Ends lo seen (d ∷ ds) tops (Then (means (at_tops W tops) (Evaluate (Under seen) (1 + lo) d.1)) (After_value lo d ds seen tops)))
            → Ends lo seen (d ∷ ds) tops (choose c (Then (means (at_tops W tops) (Evaluate (Under seen) (1 + lo) d.1)) (After_value lo d ds seen tops)) (Evaluated (behind lo d) ds seen tops))
        either true x y = y refl
        either false x y = x refl

  -- ---- and their values, one after the other
  module _ (entry : ℕ) (T : FlatTops) where
    abbrev V : World
    V = at_tops W T

    abbrev Of : Worth → Size → FlatValue → Type 0
    Of m t v = Fits N τ W.sizing W.is_there (calls V) m no_frames t v

    abbrev Beyond : ℕ → ℕ → Free → Type 0
    Beyond lo hi d = Out_beyond N types τ V lo hi d

    abbrev Apart : ℕ → ℕ → Size → Type 0
    Apart lo hi t = Away N types W.sizing.size_at W.sizing.home lo hi t

    abbrev Right : ℕ → ℕ → Worth → FlatEnv → Type 0
    Right lo hi m env = Right_before N types τ V S one lo hi m (found W.sizing env)

    abbrev Is_seen : FlatEnv → Free → Type 0
    Is_seen env d = (n : ℤ) × ((found W.sizing env).size d ≡ Some n)

    -- a name in scope: its type is one, and its value is of it
    record In_scope (lo hi : ℕ) (m : Worth) (is_general : Variable → Bool) (b : ℕ) (t : Size) : Type 0 where
      one_type : One_type is_general t
      away : Apart lo hi t
      beyond : Beyond lo hi (Name b)
      values : (v : FlatValue) → top T b ≡ Val v → Of m t v
      number : is_number t ≡ true → (v : FlatValue) → top T b ≡ Val v → word v ≡ m (Name b)

    -- a definition before these, whose value is of its sized type; where that is a number its name is worth it
    record Known (lo hi : ℕ) (m : Worth) (b : ℕ) (v : FlatValue) : Type 0 where
      away : Apart lo hi (s (home b))
      fits : Of m (s (home b)) v
      number : is_number (s (home b)) ≡ true → (c : ℕ) → home c ≡ home b → word v ≡ m (Name c)

    -- a definition before these that is a number
    abbrev Number_before : Context → Free → Type 0
    Number_before G (Name b) = (t : Size) × (G.schemes b ≡ Some t) × (is_number t ≡ true)
    Number_before G d = ⊥

    -- these definitions are left; what is found of those before is right, and numbers that the entry reaches through these are found
    record Stage (lo hi : ℕ) (m : Worth) (seen : FlatSeen) (ds : List Named_term) (G : Context) : Type 0 where
      sizes : (b : ℕ) → G.sizes b ≡ None
      finds : (d : Free) → G.finds d ≡ true → Number_before G d
      finds_types : (v : Variable) → G.finds_types v ≡ false
      general : (b : ℕ) (t : Size) → G.schemes b ≡ Some t → In_scope lo hi m (G.general b) b t
      all : (b : ℕ) (v : FlatValue) → top T b ≡ Val v → home b < lo → Known lo hi m b v
      right : Right lo hi m (Under seen)
      numbers_seen : (b : ℕ) (t : Size) → G.schemes b ≡ Some t → is_number t ≡ true → reached entry lo ds b ≡ true → Is_seen (Under seen) (Name b)

    -- later nodes change nothing
    scope_moves : (lo hi lo' : ℕ) (m m' : Worth) → lo ≤ lo' → ((d : Free) → Beyond lo hi d → m' d ≡ m d) → (b : ℕ) (g : Variable → Bool) (t : Size) → In_scope lo hi m g b t → In_scope lo' hi m' g b t
    scope_moves lo hi lo' m m' le old b g t I = record {
      one_type = I.one_type;
      away = away_narrower N types τ V lo hi lo' hi le (omega arith) t I.away;
      beyond = outside_narrower N types τ V lo hi lo' hi le (omega arith) (Name b) I.beyond;
      values = λ v q. fits_away N types τ V lo hi m m' t v I.away old (I.values v q);
      number = λ i v q. I.number i v q ∙ sym (old (Name b) I.beyond);
    }

    known_moves : (lo hi lo' : ℕ) (m m' : Worth) (b : ℕ) (v : FlatValue) → home b < lo → lo ≤ lo' → ((d : Free) → Beyond lo hi d → m' d ≡ m d) → Known lo hi m b v → Known lo' hi m' b v
    known_moves lo hi lo' m m' b v l le old K = record {
      away = away_narrower N types τ V lo hi lo' hi le (omega arith) (s (home b)) K.away;
      fits = fits_away N types τ V lo hi m m' (s (home b)) v K.away old K.fits;
      number = λ i c e. K.number i c e ∙ sym (old (Name c) (λ j. let y = j.0 in omega (arith, l, y, e)));
    }

    right_moves : (lo hi lo' hi' : ℕ) (m m' : Worth) (env : FlatEnv) → lo ≤ lo' → hi' ≤ hi → ((d : Free) → Beyond lo hi d → m' d ≡ m d) → Right lo hi m env → Right lo' hi' m' env
    right_moves lo hi lo' hi' m m' env le le' old R = ((λ d n e. let r = R.0 d n e in (r.0 ∙ sym (free_is m' m d (old d r.1)), outside_narrower N types τ V lo hi lo' hi' le le' d r.1)), R.1)

    look_below : (seen : FlatSeen) (b : ℕ) → flat_look T (Under seen) b ≡ top T b
    unfolding flat_look
    look_below [] b = refl
    look_below (d ∷ seen) b = look_below seen b

    -- the environment of a definition, in which the numbers are seen that its nodes name
    definition_env : (lo at hi : ℕ) (m : Worth) (seen : FlatSeen) (ds : List Named_term) (G : Context) → lo < at → at ≤ hi → Stage lo hi m seen ds G → ((b : ℕ) (v : FlatValue) → top T b ≡ Val v → (home b < 1 + lo) ⊎ (at ≤ home b))
        → ((d : Free) → Named_at N types τ V (1 + lo) at d → Number_before G d → Is_seen (Under seen) d) → Env_fits N types τ V (1 + lo) at m G (Under seen)
    definition_env lo at hi m seen ds G l l' G0 names sees = record {
      values = λ b t e v q. none_no (sym (G0.sizes b) ∙ e);
      away = λ b t e. none_no (sym (G0.sizes b) ∙ e);
      general = λ b t e. let I = G0.general b t e in (I.one_type, away_narrower N types τ V lo hi (1 + lo) at (omega arith) l' t I.away, λ v q. I.values v (sym (look_below seen b) ∙ q));
      general_worth = λ b t e i. let I = G0.general b t e in (outside_narrower N types τ V lo hi (1 + lo) at (omega arith) l' (Name b) I.beyond, λ v q. I.number i v (sym (look_below seen b) ∙ q));
      fresh = λ b v i q. never b i (names b v (sym (look_below seen b) ∙ q));
      sizes_right = right.0;
      types_right = right.1;
      finds = λ d k e. sees d k (G0.finds d e);
      finds_types = λ v e. absurd (let z : false ≡ true = sym (G0.finds_types v) ∙ e in cc);
    }
      where
        right : Right (1 + lo) at m (Under seen)
        right = right_moves lo hi (1 + lo) at m m (Under seen) (omega arith) l' (λ d o. refl) G0.right

        never : (b : ℕ) → (1 + lo ≤ home b) × (home b < at) → (home b < 1 + lo) ⊎ (at ≤ home b) → ⊥
        never b i (inl x) = let y = i.0 in omega (arith, x, y)
        never b i (inr x) = let y = i.1 in omega (arith, x, y)

    -- a number is worth what it is: each name at its node
    worth_at : ℕ → ℕ → Worth → Worth
    worth_at lo n m (Name c) = cond (nat_eq (home c) lo) n (m (Name c))
    worth_at lo n m d = m d

    worth_there : (lo n : ℕ) (m : Worth) (b : ℕ) → home b ≡ lo → worth_at lo n m (Name b) ≡ n
    unfolding worth_at
    worth_there lo n m b e = ap (λ c. cond c n (m (Name b))) (eq-eqb (home b) lo e)

    worth_else : (lo hi n : ℕ) (m : Worth) → lo < hi → (d : Free) → Beyond lo hi d → worth_at lo n m d ≡ m d
    unfolding worth_at
    worth_else lo hi n m l (Name c) o = ap (λ x. cond x n (m (Name c))) (ne_eqb (home c) lo (λ e. o (omega (arith, e), omega (arith, e, l))))
    worth_else lo hi n m l (Const c) o = refl
    worth_else lo hi n m l (Own k i) o = refl
    worth_else lo hi n m l (Unknown k i) o = refl
    worth_else lo hi n m l (Slot i) o = refl

    number_any : (t : Size) (m m' : Worth) (v : FlatValue) → is_number t ≡ true → Of m t v → Of m' t v
    unfolding Fits
    number_any (Built (head.Scalar (sort.Int i)) ts) m m' v e h = h
    number_any t m m' v e h = absurd (let z : false ≡ true = e in cc)

    -- what a definition's value is, and what its name is worth then
    record Settled (lo hi : ℕ) (m : Worth) (v : FlatValue) : Type 0 where
      now : Worth
      old : (d : Free) → Beyond lo hi d → now d ≡ m d
      fits : Of now (s lo) v
      number : is_number (s lo) ≡ true → (b : ℕ) → home b ≡ lo → word v ≡ now (Name b)

    settled : (lo at hi : ℕ) (m : Worth) (v : FlatValue) → lo < at → at ≤ hi → Res N types τ V (1 + lo) at m (s lo) v → Settled lo hi m v
    settled lo at hi m v l l' r = by_test (is_number (s lo)) refl
      where
        before : (d : Free) → Beyond lo hi d → r.now d ≡ m d
        before d o = r.old d (outside_narrower N types τ V lo hi (1 + lo) at (omega arith) l' d o)

        by_test : (c : Bool) → is_number (s lo) ≡ c → Settled lo hi m v
        by_test true i = record {
          now = worth_at lo (word v) r.now;
          old = λ d o. worth_else lo hi (word v) r.now (omega (arith, l, l')) d o ∙ before d o;
          fits = number_any (s lo) r.now (worth_at lo (word v) r.now) v i r.fits;
          number = λ j b e. sym (worth_there lo (word v) r.now b e);
        }
        by_test false i = record { now = r.now; old = before; fits = r.fits; number = λ j. absurd (let x : false ≡ true = sym i ∙ j in cc) }

    -- what is seen behind a definition: all that was, and its own value where that is no function
    record Seen_behind (at hi : ℕ) (m : Worth) (lo : ℕ) (seen seen' : FlatSeen) : Type 0 where
      right : Right at hi m (Under seen')
      stays : (d : Free) → Is_seen (Under seen) d → Is_seen (Under seen') d

    -- the next definition is in scope too
    next_stage : (lo at hi : ℕ) (m m' : Worth) (seen seen' : FlatSeen) (d : Named_term) (ds : List Named_term) (G : Context) → home d.0.0 ≡ lo → lo < at → ((x : Free) → Beyond lo hi x → m' x ≡ m x) → One_type (λ v. true) (s lo) → Apart at hi (s lo) → Stage lo hi m seen (d ∷ ds) G
        → ((b : ℕ) → reached entry at ds b ≡ true → reached entry lo (d ∷ ds) b ≡ true)
        → ((v : FlatValue) → top T d.0.0 ≡ Val v → Of m' (s lo) v × (is_number (s lo) ≡ true → (c : ℕ) → home c ≡ lo → word v ≡ m' (Name c)))
        → ((b : ℕ) (v : FlatValue) → top T b ≡ Val v → home b < at → (home b < lo) ⊎ (b ≡ d.0.0))
        → Seen_behind at hi m' lo seen seen' → (is_number (s lo) ≡ true → reached entry at ds d.0.0 ≡ true → Is_seen (Under seen') (Name d.0.0))
        → Stage at hi m' seen' ds (with_scheme d.0.0 (s lo) (λ v. true) G)
    next_stage lo at hi m m' seen seen' d ds G e l old one_type away G0 reaches value only B here = record {
      sizes = λ b. none_or (nat_eq d.0.0 b) (G.sizes b) (G0.sizes b);
      finds = λ x q. number_before x (is_name d.0.0 x) refl q;
      finds_types = G0.finds_types;
      general = λ b t q. by_name b t (nat_eq d.0.0 b) refl q;
      all = λ b v q h. known b v q (only b v q h);
      right = B.right;
      numbers_seen = λ b t q i r. seen_by b t (nat_eq d.0.0 b) refl q i r;
    }
      where
        none_or : (c : Bool) (o : Option Size) → o ≡ None → cond c None o ≡ None
        none_or true o z = refl
        none_or false o z = z

        number_before : (x : Free) (c : Bool) → is_name d.0.0 x ≡ c → cond c (is_number (s lo)) (G.finds x) ≡ true → Number_before (with_scheme d.0.0 (s lo) (λ v. true) G) x
        number_before (Name b) true z q = (s lo, ap (λ c. cond c (Some (s lo)) (G.schemes b)) z, q)
        number_before (Name b) false z q = let k = G0.finds (Name b) q in (k.0, ap (λ c. cond c (Some (s lo)) (G.schemes b)) z ∙ k.1, k.2)
        number_before (Const c) true z q = let y : false ≡ true = z in cc
        number_before (Own n i) true z q = let y : false ≡ true = z in cc
        number_before (Unknown n i) true z q = let y : false ≡ true = z in cc
        number_before (Slot i) true z q = let y : false ≡ true = z in cc
        number_before (Const c) false z q = absurd (G0.finds (Const c) q)
        number_before (Own n i) false z q = absurd (G0.finds (Own n i) q)
        number_before (Unknown n i) false z q = absurd (G0.finds (Unknown n i) q)
        number_before (Slot i) false z q = absurd (G0.finds (Slot i) q)

        in_scope : In_scope at hi m' (λ v. true) d.0.0 (s lo)
        in_scope = record { one_type = one_type; away = away; beyond = λ i. let y = i.0 in omega (arith, y, e, l); values = λ v q. (value v q).0; number = λ i v q. (value v q).1 i d.0.0 e }

        by_name : (b : ℕ) (t : Size) (c : Bool) → nat_eq d.0.0 b ≡ c → cond c (Some (s lo)) (G.schemes b) ≡ Some t → In_scope at hi m' (cond c (λ v. true) (G.general b)) b t
        by_name b t true z q = subst (λ y. In_scope at hi m' (λ v. true) b y) (some_same q) (subst (λ k. In_scope at hi m' (λ v. true) k (s lo)) (eqb-true d.0.0 b z) in_scope)
        by_name b t false z q = scope_moves lo hi at m m' (omega (arith, l)) old b (G.general b) t (G0.general b t q)

        own : (v : FlatValue) → top T d.0.0 ≡ Val v → Known at hi m' d.0.0 v
        own v q = record {
          away = subst (λ n. Apart at hi (s n)) (sym e) away;
          fits = subst (λ n. Of m' (s n) v) (sym e) (value v q).0;
          number = λ i c h. (value v q).1 (subst (λ n. is_number (s n) ≡ true) e i) c (h ∙ e);
        }

        known : (b : ℕ) (v : FlatValue) → top T b ≡ Val v → (home b < lo) ⊎ (b ≡ d.0.0) → Known at hi m' b v
        known b v q (inl h) = known_moves lo hi at m m' b v h (omega (arith, l)) old (G0.all b v q h)
        known b v q (inr z) = subst (λ k. Known at hi m' k v) (sym z) (own v (subst (λ k. top T k ≡ Val v) z q))

        seen_by : (b : ℕ) (t : Size) (c : Bool) → nat_eq d.0.0 b ≡ c → cond c (Some (s lo)) (G.schemes b) ≡ Some t → is_number t ≡ true → reached entry at ds b ≡ true → Is_seen (Under seen') (Name b)
        seen_by b t true z q i r = let same = eqb-true d.0.0 b z in
            subst (λ k. Is_seen (Under seen') (Name k)) same (here (subst (λ y. is_number y ≡ true) (sym (some_same q)) i) (subst (λ k. reached entry at ds k ≡ true) (sym same) r))
        seen_by b t false z q i r = B.stays (Name b) (G0.numbers_seen b t q i (reaches b r))

    -- a function is not seen, and no number
    no_function : (m : Worth) (t : Size) (v : FlatValue) → is_number t ≡ true → Of m t v → is_function v ≡ true → ⊥
    no_function m t v i h f = by_value v (number_value N τ V m no_frames t v h i) f
      where
        by_value : (v : FlatValue) → (z : ℤ) × (worth_of v ≡ Some z) → is_function v ≡ true → ⊥
        by_value (Closure ps b lo env) w f = none_no w.1
        by_value (Primitive_value p at vs) w f = none_no w.1
        by_value v w f = let z : false ≡ true = f in cc

    module _ (lo at hi : ℕ) (m : Worth) (seen : FlatSeen) (v : FlatValue) (l : lo < at) (X : Settled lo hi m v) (away : Apart at hi (s lo)) (R : Right lo hi m (Under seen)) where
      named_here : Named_here N types τ V S one at hi X.now lo v
      named_here b z e i w = (word_is v z w ∙ X.number i b e, λ j. let y = j.0 in omega (arith, y, e, l))

      kept_right : Right at hi X.now (Under seen)
      kept_right = right_moves lo hi at hi m X.now (Under seen) (omega (arith, l)) (omega arith) X.old R

      value_seen : Seen_behind at hi X.now lo seen (seeing lo v seen)
      value_seen = by_kind (is_function v)
        where
          by_kind : (c : Bool) → Seen_behind at hi X.now lo seen (cond c seen ((lo, v) ∷ seen))
          by_kind true = record { right = kept_right; stays = λ d x. x }
          by_kind false = record {
            right = entered_right N types τ V S one at hi X.now lo (Under seen) v kept_right X.fits away named_here;
            stays = λ d x. size_entered N types τ V S one at hi X.now lo (Under seen) v d X.fits (inr (inr x));
          }

      number_seen : (b : ℕ) → home b ≡ lo → is_number (s lo) ≡ true → Is_seen (Under (seeing lo v seen)) (Name b)
      unfolding found
      number_seen b e i = by_kind (is_function v) refl
        where
          entered_there : Is_seen (entered lo v (Under seen)) (Name b)
          entered_there = name_found N types τ V S one at hi X.now lo b v _ X.fits e (number_here (s lo) i)

          by_kind : (c : Bool) → is_function v ≡ c → Is_seen (Under (cond c seen ((lo, v) ∷ seen))) (Name b)
          by_kind true f = absurd (no_function X.now (s lo) v i X.fits f)
          by_kind false f = entered_there

    -- all values of definitions are of their sized types
    abbrev All_values : Type 0
    All_values = (m : Worth) × ((b : ℕ) (v : FlatValue) → top T b ≡ Val v → Of m (s (home b)) v × (is_number (s (home b)) ≡ true → (c : ℕ) → home c ≡ home b → word v ≡ m (Name c)))

    abbrev Names_are : ℕ → List Named_term → Type 0
    Names_are lo ds = (b : ℕ) (v : FlatValue) → top T b ≡ Val v → (home b < lo) ⊎ Is_defined ds b

    behind_here : (lo : ℕ) (d : Named_term) (ds : List Named_term) (b : ℕ) → home d.0.0 ≡ lo → (home b < lo) ⊎ Is_defined (d ∷ ds) b → (home b < behind lo d) ⊎ Is_defined ds b
    behind_here lo d ds b e (inl h) = inl (omega (arith, h))
    behind_here lo d ds b e (inr (inl z)) = inl (let x = ap (λ k. W.sizing.home k) z in omega (arith, e, x))
    behind_here lo d ds b e (inr (inr h)) = inr h

    outside_here : (lo : ℕ) (d : Named_term) (ds : List Named_term) (b : ℕ) → At_home lo (d ∷ ds) → (home b < lo) ⊎ Is_defined (d ∷ ds) b → (home b < 1 + lo) ⊎ (1 + lo + numbers d.1 ≤ home b)
    outside_here lo d ds b h (inl x) = inl (omega (arith, x))
    outside_here lo d ds b h (inr (inl z)) = inl (let x = ap (λ k. W.sizing.home k) z in let e = h.0 in omega (arith, e, x))
    outside_here lo d ds b h (inr (inr x)) = inr (let z = defined_behind ds (behind lo d) b h.1 x in omega (arith, z))

    only_here : (lo : ℕ) (d : Named_term) (ds : List Named_term) (b : ℕ) → At_home lo (d ∷ ds) → (home b < lo) ⊎ Is_defined (d ∷ ds) b → home b < behind lo d → (home b < lo) ⊎ (b ≡ d.0.0)
    only_here lo d ds b h (inl x) l = inl x
    only_here lo d ds b h (inr (inl z)) l = inr z
    only_here lo d ds b h (inr (inr x)) l = absurd (let z = defined_behind ds (behind lo d) b h.1 x in omega (arith, z, l))

    earlier : (lo b : ℕ) → (home b < lo) ⊎ ⊥ → home b < lo
    earlier lo b (inl h) = h
    earlier lo b (inr h) = absurd h

    or_last : (x y : Bool) → y ≡ true → x || y ≡ true
    or_last true y e = refl
    or_last false y e = e

    names_reached : (x y z w : Bool) → x ≡ true → z ≡ true → (x && (y || z)) || w ≡ true
    names_reached true y z w e k = or_first (y || z) w (or_last y z k)
      where
        or_first : (x y : Bool) → x ≡ true → x || y ≡ true
        or_first true y e = refl
        or_first false y e = absurd (let z : false ≡ true = e in cc)
    names_reached false y z w e k = absurd (let q : false ≡ true = e in cc)

    -- what a definition may find is seen, where it is reached
    more_seen : (lo hi : ℕ) (m : Worth) (seen : FlatSeen) (d : Named_term) (ds : List Named_term) (G : Context) → Stage lo hi m seen (d ∷ ds) G → reached entry (behind lo d) ds d.0.0 ≡ true → (x : Free) → Named_at N types τ V (1 + lo) (1 + lo + numbers d.1) x → Number_before G x → Is_seen (Under seen) x
    unfolding flat_tops
    more_seen lo hi m seen d ds G G0 r (Name b) n k = G0.numbers_seen b k.0 k.1 k.2 (names_reached _ _ _ _ r (named_among s b n.0 (1 + lo) (numbers d.1) n.1 n.2 n.3))
    more_seen lo hi m seen d ds G G0 r (Const c) named k = absurd k
    more_seen lo hi m seen d ds G G0 r (Own n i) named k = absurd k
    more_seen lo hi m seen d ds G G0 r (Unknown n i) named k = absurd k
    more_seen lo hi m seen d ds G G0 r (Slot i) named k = absurd k

    later_reached : (lo : ℕ) (d : Named_term) (ds : List Named_term) (b : ℕ) → reached entry (behind lo d) ds b ≡ true → reached entry lo (d ∷ ds) b ≡ true
    unfolding flat_tops
    later_reached lo d ds b r = or_last _ _ r

    -- what is found where a definition is reached
    reached_env : (lo hi : ℕ) (m : Worth) (seen : FlatSeen) (G : Context) (d : Named_term) (ds : List Named_term) → At_home lo (d ∷ ds) → 1 + lo + numbers d.1 ≤ hi → Stage lo hi m seen (d ∷ ds) G → reached entry (behind lo d) ds d.0.0 ≡ true → Names_are lo (d ∷ ds) → Env_fits N types τ V (1 + lo) (1 + lo + numbers d.1) m G (Under seen)
    reached_env lo hi m seen G d ds h le G0 r names = definition_env lo (1 + lo + numbers d.1) hi m seen (d ∷ ds) G (omega arith) le G0 (λ b v q. outside_here lo d ds b h (names b v q)) (λ x n k. more_seen lo hi m seen d ds G G0 r x n k)

    -- a definition that is reached has a value of its type
    definition_value : (lo hi : ℕ) (m : Worth) (seen : FlatSeen) (G : Context) (d : Named_term) (ds : List Named_term) (v : FlatValue) → At_home lo (d ∷ ds) → 1 + lo + numbers d.1 ≤ hi → Plain_term N types W d.1 (1 + lo) → Term_there W.is_there d.1 → Sized N types W.sizing.size_at W.sizing.home d.1 (1 + lo) G → s lo ≡ s (1 + lo)
        → Stage lo hi m seen (d ∷ ds) G → Valued entry T lo seen d ds v → reached entry (behind lo d) ds d.0.0 ≡ true → Names_are lo (d ∷ ds) → Settled lo hi m v
    definition_value lo hi m seen G d ds v h le plain there sized type G0 X r names =
        settled lo (1 + lo + numbers d.1) hi m v (omega arith) le
        (subst (λ t. Res N types τ V (1 + lo) (1 + lo + numbers d.1) m t v) (sym type) (law N types τ V S one d.1 (1 + lo) G (Under seen) plain there sized (Val v) (X.by_term).0 (X.by_term).1 (m, reached_env lo hi m seen G d ds h le G0 r names)))

    -- ---- up to where it ends

    -- what is known there: these definitions are left
    record Left (lo hi : ℕ) (m : Worth) (seen : FlatSeen) (ds : List Named_term) (G : Context) : Type 0 where
      stage : Stage lo hi m seen ds G
      at_home : At_home lo ds
      within : lo + program_numbers (map as_defined ds) ≤ hi
      sized : Definitions_sized N types W.sizing.size_at W.sizing.home (map as_defined ds) lo hi G
      plain_ds : Plain_definitions N types W ds lo
      there : Definitions_there W.is_there ds
      names_are : Names_are lo ds

    module _ (End : FlatTops → ℕ → FlatSeen → List Named_term → Type 0) (X : Type 0) (ends : (lo hi : ℕ) (m : Worth) (seen : FlatSeen) (ds : List Named_term) (G : Context) → Left lo hi m seen ds G → End T lo seen ds → X) where
      -- from what is known behind a definition on
      abbrev Of_the_rest : ℕ → ℕ → Named_term → List Named_term → Context → Type 0
      Of_the_rest lo hi d ds G = (m' : Worth) (seen' : FlatSeen) → Stage (behind lo d) hi m' seen' ds (with_scheme d.0.0 (s lo) (λ v. true) G) → Made entry End T (behind lo d) seen' ds → X

      up_to_end : (ds : List Named_term) (lo hi : ℕ) (m : Worth) (seen : FlatSeen) (G : Context) → Left lo hi m seen ds G → Made entry End T lo seen ds → X
      up_to_end [] lo hi m seen G L made = ends lo hi m seen [] G L made
      up_to_end (d ∷ ds) lo hi m seen G L made =
          by_way (λ m' seen' G1 rest. up_to_end ds (behind lo d) hi m' seen' (with_scheme d.0.0 (s lo) (λ v. true) G) (record {
            stage = G1;
            at_home = L.at_home.1;
            within = let le = L.within in omega (arith, le);
            sized = L.sized.2;
            plain_ds = L.plain_ds.2;
            there = L.there.1;
            names_are = λ b v q. behind_here lo d ds b L.at_home.0 (L.names_are b v q);
          }) rest) made
        where
          one_on : lo + 1 ≡ 1 + lo
          one_on = omega arith

          type : s lo ≡ s (1 + lo)
          type = (L.sized.1).type ∙ ap (λ k. W.sizing.size_at k) one_on

          away : Apart (behind lo d) hi (s lo)
          away = subst (λ t. Apart (behind lo d) hi t) (sym (L.sized.1).type) (L.sized.1).away

          only : (b : ℕ) (v : FlatValue) → top T b ≡ Val v → home b < behind lo d → (home b < lo) ⊎ (b ≡ d.0.0)
          only b v q l = only_here lo d ds b L.at_home (L.names_are b v q) l

          with_value : Of_the_rest lo hi d ds G → (v : FlatValue) → Valued entry T lo seen d ds v → Settled lo hi m v → Made entry End T (behind lo d) (seeing lo v seen) ds → X
          with_value next v Z Y rest = next Y.now (seeing lo v seen) (next_stage lo (behind lo d) hi m Y.now seen (seeing lo v seen) d ds G L.at_home.0 (omega arith) Y.old L.plain_ds.0 away L.stage (later_reached lo d ds)
              (λ w q. subst (λ y. Of Y.now (s lo) y × (is_number (s lo) ≡ true → (c : ℕ) → home c ≡ lo → word y ≡ Y.now (Name c))) (the_same v w (sym Z.value ∙ q)) (Y.fits, Y.number)) only
              (value_seen lo (behind lo d) hi m seen v (omega arith) Y away (L.stage).right) (λ i r. number_seen lo (behind lo d) hi m seen v (omega arith) Y away (L.stage).right d.0.0 L.at_home.0 i)) rest

          by_way : Of_the_rest lo hi d ds G → Made entry End T lo seen (d ∷ ds) → X
          by_way next (inl e) = ends lo hi m seen (d ∷ ds) G L e
          by_way next (inr (inl (v, Z, rest))) = with_value next v Z (definition_value lo hi m seen G d ds v L.at_home (let le = L.within in omega (arith, le)) L.plain_ds.1 L.there.0 (subst (λ k. Sized N types W.sizing.size_at W.sizing.home d.1 k G) one_on L.sized.0) type L.stage Z Z.reached_first L.names_are) rest
          by_way next (inr (inr (P, rest))) = next m seen (next_stage lo (behind lo d) hi m m seen seen d ds G L.at_home.0 (omega arith) (λ x o. refl) L.plain_ds.0 away L.stage (later_reached lo d ds) (λ v q. absurd (P.none v q)) only
              (record { right = right_moves lo hi (behind lo d) hi m m (Under seen) (omega arith) (omega arith) (λ x o. refl) (L.stage).right; stays = λ x k. k }) (λ i r. absurd (let z : false ≡ true = sym P.other ∙ r in cc))) rest

    -- behind the last one all values are known
    all_values : (ds : List Named_term) (lo hi : ℕ) (m : Worth) (seen : FlatSeen) (G : Context) → Left lo hi m seen ds G → Made entry (Finished entry) T lo seen ds → All_values
    all_values ds lo hi m seen G L made = up_to_end (Finished entry) All_values finished ds lo hi m seen G L made
      where
        finished : (lo hi : ℕ) (m : Worth) (seen : FlatSeen) (ds : List Named_term) (G : Context) → Left lo hi m seen ds G → Finished entry T lo seen ds → All_values
        finished lo hi m seen [] G L e = (m, λ b v q. let K = (L.stage).all b v q (earlier lo b (L.names_are b v q)) in (K.fits, K.number))
        finished lo hi m seen (d ∷ ds) G L e = absurd e

    -- a report of a size comes from where it may
    report_there : (r : Report) (ds : List Named_term) (lo hi : ℕ) (m : Worth) (seen : FlatSeen) (G : Context) → Left lo hi m seen ds G → Made entry (Reporting entry r) T lo seen ds → There W.is_there r
    report_there r ds lo hi m seen G L made = up_to_end (Reporting entry r) (There W.is_there r) reporting ds lo hi m seen G L made
      where
        reporting : (lo hi : ℕ) (m : Worth) (seen : FlatSeen) (ds : List Named_term) (G : Context) → Left lo hi m seen ds G → Reporting entry r T lo seen ds → There W.is_there r
        reporting lo hi m seen [] G L e = absurd e
        reporting lo hi m seen (d ∷ ds) G L e = law N types τ V S one d.1 (1 + lo) G (Under seen) L.plain_ds.1 L.there.0 (subst (λ k. Sized N types W.sizing.size_at W.sizing.home d.1 k G) (let z : lo + 1 ≡ 1 + lo = omega arith in z) L.sized.0) (Fail r) e.1 e.2
            (m, reached_env lo hi m seen G d ds L.at_home (let le = L.within in omega (arith, le)) L.stage e.0 L.names_are)

    -- ---- what is entered of them

    right_entry : (all : All_values) (b : ℕ) (v : FlatValue) → top T b ≡ Val v → is_function v ≡ false → Right_entry N τ W.sizing all.0 (home b) v
    right_entry all b v q f = record {
      shape = fits_read N τ W.sizing W.is_there (calls V) all.0 no_frames (s (home b)) v (all.1 b v q).0;
      named = λ c n h i w. word_is v n w ∙ (all.1 b v q).1 i c h;
      told = λ k p r e i. absurd (let z : false ≡ true = sym f ∙ (function_of N τ W.sizing W.is_there (calls V) all.0 k p r v (subst (λ t. Of all.0 t v) e (all.1 b v q).0)).0.0 in cc);
    }

    all_entered : (all : All_values) (ds : List Named_term) (lo : ℕ) (seen : FlatSeen) → At_home lo ds → All_entered N τ W.sizing all.0 (Under seen) → All_entered N τ W.sizing all.0 (Under (seen_behind ds lo T seen))
    all_entered all [] lo seen h e = e
    all_entered all (d ∷ ds) lo seen h e = all_entered all ds (behind lo d) (and_seen lo (top T d.0.0) seen) h.1 (by_value (top T d.0.0) refl)
      where
        by_kind : (v : FlatValue) (c : Bool) → is_function v ≡ c → top T d.0.0 ≡ Val v → All_entered N τ W.sizing all.0 (Under (cond c seen ((lo, v) ∷ seen)))
        by_kind v true f q = e
        by_kind v false f q = (subst (λ n. Right_entry N τ W.sizing all.0 n v) h.0 (right_entry all d.0.0 v q f), e)

        by_value : (o : Out FlatValue) → top T d.0.0 ≡ o → All_entered N τ W.sizing all.0 (Under (and_seen lo o seen))
        by_value (Val v) q = by_kind v (is_function v) refl q
        by_value (Fail r) q = e
        by_value Wrong q = e

    -- a function applied to arguments
    applied_gives : (m : Worth) (vs : List FlatValue) (φ : Frames) (t : Size) (f : FlatValue) → Fits N τ W.sizing W.is_there (calls V) m φ t f → (a : Arguments_fit N τ V m φ t vs) → Gives (There W.is_there) (Result_fits N τ V m φ t vs a) (applied_to (flat_names (told W)) (means V) vs f)
    unfolding Fits
    applied_gives m [] φ t f h a = gives_exact _ (Result_fits N τ V m φ t [] a) 0 (Val f) h
    applied_gives m (v ∷ vs) φ (Fun k p r) f h a = gives_then (λ w. (F' : ℕ → ℕ) × ((i : ℕ) → i ≤ k → F' i ≡ a.0 i) × Fits N τ W.sizing W.is_there (calls V) m (push F' φ) r w) (Result_fits N τ V m φ (Fun k p r) (v ∷ vs) a) (calls V f v) (applied_to (flat_names (told W)) (means V) vs)
        (h.1 a.0 v a.1 a.2)
        (λ g q. gives_as (Result_fits N τ V m (push q.0 φ) r vs (a.3 q.0 q.1)) (Result_fits N τ V m φ (Fun k p r) (v ∷ vs) a) (applied_to (flat_names (told W)) (means V) vs g) (applied_gives m vs (push q.0 φ) r g q.2 (a.3 q.0 q.1)) (λ w x. (q.0, q.1, x)))
    applied_gives m (v ∷ vs) φ (Hole b) f h a = absurd a
    applied_gives m (v ∷ vs) φ (Open n b u) f h a = absurd a
    applied_gives m (v ∷ vs) φ (Level d t) f h a = absurd a
    applied_gives m (v ∷ vs) φ (Built k ts) f h a = absurd a

  homes : (ds : List Named_term) (lo hi : ℕ) (G : Context) → Definitions_sized N types W.sizing.size_at W.sizing.home (map as_defined ds) lo hi G → At_home lo ds
  homes [] lo hi G h = tt
  homes (d ∷ ds) lo hi G h = (
    let i = (h.1).bound d.0.0 (ap (λ c. cond c true false) (eq-eqb d.0.0 d.0.0 refl)) in let x = i.0 in let y = i.1 in omega (arith, x, y),
    homes ds (behind lo d) hi (with_scheme d.0.0 (s lo) (λ v. true) G) h.2,
  )

  first_stage : (entry : ℕ) (T : FlatTops) (hi : ℕ) (ds : List Named_term) → Stage entry T 0 hi (λ d. 0) [] ds nothing_known
  unfolding found
  first_stage entry T hi ds = record {
    sizes = λ b. refl;
    finds = λ d q. absurd (let z : false ≡ true = q in cc);
    finds_types = λ v. refl;
    general = λ b t e. none_no e;
    all = λ b v q l. absurd (omega (arith, l));
    right = ((λ d n e. none_no e), (λ v h e. none_no e));
    numbers_seen = λ b t e. none_no e;
  }

-- what a program's definitions may be evaluated to
abbrev Evaluates_to : World → List Named_term → BindId → Rel FlatTops
Evaluates_to W ds entry = evaluated (flat_names (told W)) (plain W.tight) W.budget entry.0 (flat_tops 0 ds) [] []

-- each list of values to which definitions are evaluated, with all that is known of it
module _ (N : Names) (types : Sub) (τ : Variable → Shape) (W : World) (ds : List Named_term) (entry : BindId) (S : Sound N types W.sizing) (one : One_shape_each τ) (sized : Program_sized N types W.sizing.size_at W.sizing.home (map as_defined ds)) (plain_ds : Plain_definitions N types W ds 0) (there : Definitions_there W.is_there ds) where
  abbrev After : FlatTops → Type 0
  After T = Tops_after N types (exactly τ) W S (exact_kinds τ one) entry.0 (Finished N types (exactly τ) W S (exact_kinds τ one) entry.0) 0 [] ds [] T

  abbrev Values_of : FlatTops → Type 0
  Values_of T = All_values N types (exactly τ) W S (exact_kinds τ one) entry.0 T

  at_home : At_home N types (exactly τ) W S (exact_kinds τ one) 0 ds
  at_home = homes N types (exactly τ) W S (exact_kinds τ one) ds 0 (program_numbers (map as_defined ds)) nothing_known sized

  first_left : (T : FlatTops) → ((b : ℕ) (v : FlatValue) → top T b ≡ Val v → (top [] b ≡ Val v) ⊎ Is_defined N types (exactly τ) W S (exact_kinds τ one) ds b) → Left N types (exactly τ) W S (exact_kinds τ one) entry.0 T 0 (program_numbers (map as_defined ds)) (λ d. 0) [] ds nothing_known
  first_left T named_there = record {
    stage = first_stage N types (exactly τ) W S (exact_kinds τ one) entry.0 T (program_numbers (map as_defined ds)) ds;
    at_home = at_home;
    within = omega arith;
    sized = sized;
    plain_ds = plain_ds;
    there = there;
    names_are = λ b v q. named b v (named_there b v q);
  }
    where
      named : (b : ℕ) (v : FlatValue) → (top [] b ≡ Val v) ⊎ Is_defined N types (exactly τ) W S (exact_kinds τ one) ds b → (W.sizing.home b < 0) ⊎ Is_defined N types (exactly τ) W S (exact_kinds τ one) ds b
      named b v (inl h) = absurd (no_value v h)
      named b v (inr h) = inr h

  reported_there : (r : Report) → Reported N types (exactly τ) W S (exact_kinds τ one) entry.0 0 [] ds [] r → There W.is_there r
  reported_there r A = report_there N types (exactly τ) W S (exact_kinds τ one) entry.0 A.0 r ds 0 (program_numbers (map as_defined ds)) (λ d. 0) [] nothing_known (first_left A.0 (A.1).named) (A.1).made

  after_all : Gives (There W.is_there) After (Evaluates_to W ds entry)
  after_all = gives_quiet After After (Evaluates_to W ds entry) reported_there (evaluated_tops N types (exactly τ) W S (exact_kinds τ one) entry.0 ds 0 [] [] at_home (λ b v q. absurd (no_value v q))) (λ T A. A)

  values_after : (T : FlatTops) → After T → Values_of T
  values_after T A = all_values N types (exactly τ) W S (exact_kinds τ one) entry.0 T ds 0 (program_numbers (map as_defined ds)) (λ d. 0) [] nothing_known (first_left T A.named) A.made

  definitions_are : (T : FlatTops) (words : ℕ) → Evaluates_to W ds entry (Val T) words → (all : Values_of T) → Definitions_are W ds entry T all.0
  definitions_are T words x all = record { evaluated_to = (words, x); numbers = λ b v q i. (all.1 b v q).1 i b refl }

pub programs_have_their_sizes : ProgramsHaveTheirSizes
unfolding flat_names
programs_have_their_sizes N types τ W ds entry arguments S one sized plain there fit =
    gives_then (λ T. After N types τ W ds entry S one sized plain there T × ((words : ℕ) × Evaluates_to W ds entry (Val T) words)) Result _ _
    (gives_more (After N types τ W ds entry S one sized plain there) (λ T. (words : ℕ) × Evaluates_to W ds entry (Val T) words) (Evaluates_to W ds entry) (after_all N types τ W ds entry S one sized plain there) (λ T words x. (words, x)))
    (λ T A. gives_then (λ f. top T entry.0 ≡ Val f) Result _ _ (gives_exact _ (λ f. top T entry.0 ≡ Val f) 0 (top T entry.0) (out_of _ (λ f. top T entry.0 ≡ Val f) (top T entry.0) (top_fine W.is_there T entry.0) (λ f e. e)))
    (λ f e. let all = values_after N types τ W ds entry S one sized plain there T A.0 in let are = definitions_are N types τ W ds entry S one sized plain there T (A.1).0 (A.1).1 all in
    gives_as (Result_fits N (exactly τ) (at_tops W T) all.0 no_frames (W.sizing.size_at (W.sizing.home entry.0)) arguments (fit T all.0 are)) Result (applied_to (flat_names (told W)) (means (at_tops W T)) arguments f)
    (applied_gives N types (exactly τ) W S (exact_kinds τ one) entry.0 T all.0 arguments no_frames (W.sizing.size_at (W.sizing.home entry.0)) f (all.1 entry.0 f e).0 (fit T all.0 are)) (λ w x. (T, all.0, are, x))))
  where
    Result : FlatValue → Type 0
    Result w = (tops : FlatTops) × (m : Worth) × (are : Definitions_are W ds entry tops m) × Result_fits N (exactly τ) (at_tops W tops) m no_frames (W.sizing.size_at (W.sizing.home entry.0)) arguments (fit tops m are) w

pub definitions_are_entered : DefinitionsAreEntered
definitions_are_entered N types τ W ds entry tops words S one sized plain there x =
    let all = values_after N types τ W ds entry S one sized plain there tops (after_all N types τ W ds entry S one sized plain there (Val tops) words x) in
    (all.0, definitions_are N types τ W ds entry S one sized plain there tops words x all, all_entered N types (exactly τ) W S (exact_kinds τ one) entry.0 tops all ds 0 [] (at_home N types τ W ds entry S one sized plain there) tt)
