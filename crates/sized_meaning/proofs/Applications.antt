-- Applications: what a function gives for an argument is of the sized type of the node.
use Rattle.fut_scalar.specs.declared.report.Report.{Report}
use Rattle.sized_meaning.specs.There.{There}
use Rattle.std.specs.Prelude.{pos, ◌^◌}
use Rattle.std.proofs.Math.Nat.{mod-eq_of_lt}
use Rattle.std.proofs.lemmas.Int.{to_z_pos}
use mir.Syntax.{w64}
use Rattle.std.proofs.Common.{◌≡◌, ◌⊎◌, ℕ, ◌+◌, ◌-◌, ◌<◌, ◌≤◌, [], Bool, true, false, cond, nat_eq, Option, Some, None, refl, sym, ap, ◌∙◌, subst, arith, inl, inr, eqb-true, eq-eqb}
use Rattle.std.proofs.lemmas.Bool.{eqb-false, ne_eqb}
use Rattle.fut_scalar.specs.declared.place.Place.{Place}
use Rattle.fut_scalar.specs.declared.scalar.IntType.{IntType}
use Rattle.fut_scalar.specs.declared.scalar.IntType.TheVariants.{I64}
use Rattle.fut_flat.specs.declared.prim.Ref.TheVariants as ref
use Rattle.fut_flat.specs.Terms.{Integer, Use, Strict, Lambda, Apply, Let, If, no_term}
use Rattle.fut_flat.specs.Erased.{FlatTerm}
use Rattle.fut_types.specs.Types.{Sub, scalar_ty}
use Rattle.fut_typing.specs.Names.{Names}
use Rattle.fut_scalar.specs.Integers.{integer_of}
use Rattle.fut_scalar.specs.declared.scalar.ScalarType.TheVariants as sort
use Rattle.fut_meaning.specs.Accessors.{count_of}
use Rattle.fut_meaning.specs.Flats.{FlatValue, FlatEnv, flat_look, flat_names}
use Rattle.fut_meaning.specs.Meaning.{plain, step, row_told, fits_type, Of_literal}
use Rattle.fut_meaning.specs.Operators.{integer}
use Rattle.fut_meaning.specs.Operations.{operated, operate, coerced}
use Rattle.fut_meaning.specs.Outcomes.{Val}
use Rattle.fut_meaning.specs.Values.{Scalar_value, Evaluate}
use Rattle.fut_meaning.proofs.Ever.{open_up}
use Rattle.sized_types.specs.Sizes.{Free, Const, Name, Own, Unknown, Slot, Size, Fun, opened, erased, all_erased}
use Rattle.fut_sizes.specs.Scopes.{i64_size}
use Rattle.fut_sizes.specs.Scoping.{Context}
use Rattle.fut_sizes.specs.Suiting.{Each, Scoped, Of_positions, Free_of, Never_at}
use Rattle.fut_sizes.specs.Rules.{Away, For_each_choice, Is_value, Applies}
use Rattle.sized_meaning.specs.Worth.{Worth, free, no_frames, push}
use Rattle.sized_meaning.specs.Shapes.{Meant}
use Rattle.sized_meaning.specs.Finding.{One_kind_each}
use Rattle.sized_meaning.specs.Fits.{Gives, word, Fits}
use Rattle.fut_meaning.specs.Taken.{size_value}
use Rattle.sized_meaning.specs.Law.{Sound, No_size_use, Plain_term, World, told, FlatTask, means, calls, Beyond as Out_beyond, Env_fits, Result as Res}
use Rattle.sized_meaning.proofs.Ways.{gives_as}
use Rattle.sized_meaning.proofs.Outcomes.{gives_exact, gives_then, gives_all, is_exactly}
use Rattle.sized_meaning.proofs.Reading.{Any_position, each_as, fits_same, fits_opened, opened_fits}
use Rattle.sized_meaning.proofs.Suiting.{at_node, node_else, node_here, free_is, in_order, any_position, suits_fits, instance_fits}
use Rattle.sized_meaning.proofs.Environments.{beyond_node, outside_narrower, fits_away, env_moves}

module _ (N : Names) (types : Sub) (τ : Meant) (W : World) (S : Sound N types W.sizing) (one : One_kind_each τ) where
  abbrev s : ℕ → Size
  s n = W.sizing.size_at n

  abbrev home : ℕ → ℕ
  home b = W.sizing.home b

  abbrev Env_of : ℕ → ℕ → Worth → Context → FlatEnv → Type 0
  Env_of lo hi m G env = Env_fits N types τ W lo hi m G env

  abbrev R_of : ℕ → ℕ → Worth → Size → FlatValue → Type 0
  R_of lo hi m t v = Res N types τ W lo hi m t v

  abbrev Beyond : ℕ → ℕ → Free → Type 0
  Beyond lo hi d = Out_beyond N types τ W lo hi d

  abbrev Of : Worth → Size → FlatValue → Type 0
  Of m t v = Fits N τ W.sizing W.is_there (calls W) m no_frames t v

  -- what names and nodes may be worth under an environment
  abbrev Worths : ℕ → ℕ → Context → FlatEnv → Type 0
  Worths lo hi G env = (m : Worth) × Env_of lo hi m G env

  abbrev All_results : ℕ → ℕ → Context → FlatEnv → Size → FlatValue → Type 0
  All_results lo hi G env t v = (w : Worths lo hi G env) → R_of lo hi w.0 t v

  pub evaluates : {quiet : Report → Type 0} (P : FlatValue → Type 0) (t : FlatTask) → Gives quiet P (step ((flat_names (told W)).lang W.tops) (plain W.tight) W.budget (means W) t) → Gives quiet P (means W t)
  evaluates P t h o f x = h o f (open_up ((flat_names (told W)).lang W.tops) (plain W.tight) W.budget t o f x)

  -- two worths that agree on a size do so once one is chosen at a node
  both_at : (n : ℕ) (F : ℕ → ℕ) (m m' : Worth) (d : Free) → m d ≡ m' d → at_node n F m d ≡ at_node n F m' d
  unfolding at_node
  both_at n F m m' (Const c) e = e
  both_at n F m m' (Name b) e = e
  both_at n F m m' (Own k i) e = ap (λ x. cond (nat_eq k n) (F i) x) e
  both_at n F m m' (Unknown k i) e = ap (λ x. cond (nat_eq k n) (F i) x) e
  both_at n F m m' (Slot i) e = e

  -- ---- what the argument of an application is worth
  abbrev pub Is_i64 : Context → ℕ → Type 0
  Is_i64 G x = (G.sizes x ≡ Some i64_size) ⊎ (G.schemes x ≡ Some i64_size)

  abbrev pub Worth_of : ℕ → ℕ → Context → FlatEnv → Free → FlatValue → Type 0
  Worth_of lo i G env d v = (d ≡ Unknown lo i) ⊎ (((x : ℕ) × (d ≡ Name x) × Is_i64 G x × (flat_look W.tops env x ≡ Val v)) ⊎ ((c : ℕ) × (d ≡ Const c) × (word v ≡ c)))

  unfoldable pub literal_type : Option IntType → ℕ → IntType
  literal_type None mid = W.integer_at mid
  literal_type (Some i) mid = i

  pub literal_value : (c : ℕ) (t : Option IntType) (mark : Place) (mid : ℕ) (env : FlatEnv) → Gives (There W.is_there) (λ v. v ≡ Scalar_value (integer (literal_type t mid) (pos c))) (means W (Evaluate env mid (Strict (Integer c t) mark no_term)))
  unfolding flat_names operate coerced literal_type
  literal_value c None mark mid env = evaluates _ (Evaluate env mid (Strict (Integer c None) mark no_term))
      (gives_then (λ vs. vs ≡ []) (λ v. v ≡ Scalar_value (integer (W.integer_at mid) (pos c))) _ _ (gives_exact _ _ 0 (Val []) refl)
      (λ vs q. subst (λ y. Gives (There W.is_there) (λ v. v ≡ Scalar_value (integer (W.integer_at mid) (pos c))) (operated false (row_told ((flat_names (told W)).lang W.tops) (Of_literal env mid)) (fits_type ((flat_names (told W)).lang W.tops) env mid) (W.integer_at mid) (Integer c None) mark y)) (sym q) (gives_exact _ _ 0 _ refl)))
  literal_value c (Some i) mark mid env = evaluates _ (Evaluate env mid (Strict (Integer c (Some i)) mark no_term))
      (gives_then (λ vs. vs ≡ []) (λ v. v ≡ Scalar_value (integer i (pos c))) _ _ (gives_exact _ _ 0 (Val []) refl)
      (λ vs q. subst (λ y. Gives (There W.is_there) (λ v. v ≡ Scalar_value (integer i (pos c))) (operated false (row_told ((flat_names (told W)).lang W.tops) (Of_literal env mid)) (fits_type ((flat_names (told W)).lang W.tops) env mid) (W.integer_at mid) (Integer c (Some i)) mark y)) (sym q) (gives_exact _ _ 0 _ refl)))

  literal_typed : (c : ℕ) (t : Option IntType) (mark : Place) (mid : ℕ) → Plain_term N types W (Strict (Integer c t) mark no_term) mid → s mid ≡ i64_size → literal_type t mid ≡ I64
  unfolding literal_type erased all_erased
  literal_typed c None mark mid p e = let z : scalar_ty (sort.Int I64) ≡ scalar_ty (sort.Int (W.integer_at mid)) = ap erased (sym e) ∙ S.typed mid ∙ p.0 in cc
  literal_typed c (Some i) mark mid p e = let z : scalar_ty (sort.Int I64) ≡ scalar_ty (sort.Int i) = ap erased (sym e) ∙ S.typed mid ∙ p.0 in cc

  pub literal_word : (c : ℕ) (i : IntType) (v : FlatValue) → v ≡ Scalar_value (integer i (pos c)) → i ≡ I64 → c < 2 ^ 63 → word v ≡ c
  unfolding word
  literal_word c i v e q l = ap word e ∙ ap (λ j. word (Scalar_value (integer j (pos c)))) q ∙ ap (λ z. count_of (integer_of I64 z)) (mod-eq_of_lt (let z : c < 2 ^ 64 = omega (arith, l) in z)) ∙ ap count_of (to_z_pos w64 c l)

  pub argument_worth : (e : FlatTerm) (lo mid i : ℕ) (G : Context) (env : FlatEnv) (d : Free) → Plain_term N types W e mid → No_size_use N types W e → Is_value N types W.sizing.size_at W.sizing.home e mid G d ⊎ (d ≡ Unknown lo i) → (v : FlatValue) (f : ℕ) → means W (Evaluate env mid e) (Val v) f → Worth_of lo i G env d v
  unfolding flat_names
  argument_worth e lo mid i G env d p u (inr a) v f r = inl a
  argument_worth (Use (ref.Bound x) at j) lo mid i G env d p u (inl a) v f r = inr (inl (x.0, a.0, a.1, subst (λ c. cond c (Val (size_value W.sizing env x.0)) (flat_look W.tops env x.0) ≡ Val v) u (is_exactly 0 (cond (W.sizing.is_size x.0) (Val (size_value W.sizing env x.0)) (flat_look W.tops env x.0)) (Val v) f (open_up ((flat_names (told W)).lang W.tops) (plain W.tight) W.budget (Evaluate env mid (Use (ref.Bound x) at j)) (Val v) f r))))
  argument_worth (Use (ref.Prim x) at j) lo mid i G env d p u (inl a) v f r = absurd a
  argument_worth (Strict (Integer c t) mark no_term) lo mid i G env d p u (inl a) v f r = inr (inr (c, a.0, literal_word c (literal_type t mid) v (literal_value c t mark mid env (Val v) f r) (literal_typed c t mark mid p a.1) a.2))
  argument_worth (Strict o mark ts) lo mid i G env d p u (inl a) v f r = absurd a
  argument_worth (Lambda ps b) lo mid i G env d p u (inl a) v f r = absurd a
  argument_worth (Apply g b) lo mid i G env d p u (inl a) v f r = absurd a
  argument_worth (Let b x y) lo mid i G env d p u (inl a) v f r = absurd a
  argument_worth (If x y z) lo mid i G env d p u (inl a) v f r = absurd a
  argument_worth e lo mid i G env d p u (inl a) v f r = absurd a

  module _ (e : FlatTerm) (lo mid hi : ℕ) (G : Context) (env : FlatEnv) (A : Applies N types W.sizing.size_at W.sizing.home e lo mid hi G) (lt : lo < mid) (le : mid ≤ hi) (h v : FlatValue) (worth : Worth_of lo (A.base + A.chosen) G env (A.inside A.chosen) v) where
    -- the function and its argument at one and the same time
    pub record Together (m : Worth) : Type 0 where
      pub now : Worth
      pub old : (d : Free) → Beyond (1 + lo) hi d → now d ≡ m d
      pub function_fits : Of now (s (1 + lo)) h
      pub argument_fits : Of now (s mid) v

    scoped : Each (Scoped (Beyond lo (1 + lo))) 1 A.from × Each (Scoped (Beyond lo (1 + lo))) 1 A.to
    unfolding Each
    scoped = subst (λ u. Away N types W.sizing.size_at W.sizing.home lo (1 + lo) u) A.function A.closed

    -- a call under these worths
    module _ (now : Worth) (function_fits : Of now (s (1 + lo)) h) (argument_fits : Of now (s mid) v) where
      frame : ℕ → ℕ
      frame i = cond (nat_eq i A.chosen) (word v) (free now (A.inside i))

      frame_value : frame A.chosen ≡ word v
      unfolding frame
      frame_value = ap (λ b. cond b (word v) (free now (A.inside A.chosen))) (eq-eqb A.chosen A.chosen refl)

      frame_before : (i : ℕ) → i < A.chosen → frame i ≡ free now (A.inside i)
      unfolding frame
      frame_before i l = ap (λ b. cond b (word v) (free now (A.inside i))) (ne_eqb i A.chosen (λ e. omega (arith, l, e)))

      parameter_here : Fits N τ W.sizing W.is_there (calls W) now (push frame no_frames) A.from v
      parameter_here = opened_fits N τ now A.inside (λ i. i < A.chosen) (Beyond lo (1 + lo)) frame A.from A.low scoped.0 frame_before W.sizing W.is_there (calls W) no_frames no_frames v (suits_fits N τ W.sizing W.is_there (calls W) A.argument now v argument_fits)

      abbrev Given_there : FlatValue → Type 0
      Given_there w = (F' : ℕ → ℕ) × ((i : ℕ) → i ≤ A.chosen → F' i ≡ frame i) × Fits N τ W.sizing W.is_there (calls W) now (push F' no_frames) A.to w

      call_gives : Gives (There W.is_there) (λ w. (F' : ℕ → ℕ) × ((i : ℕ) → i ≤ A.chosen → F' i ≡ frame i) × Fits N τ W.sizing W.is_there (calls W) now (push F' no_frames) A.to w) (calls W h v)
      unfolding Fits
      call_gives = of_function (subst (λ u. Of now u h) A.function function_fits) frame v frame_value parameter_here
        where
          of_function : Of now (Fun A.chosen A.from A.to) h → (F : ℕ → ℕ) (u : FlatValue) → F A.chosen ≡ word u → Fits N τ W.sizing W.is_there (calls W) now (push F no_frames) A.from u
              → Gives (There W.is_there) (λ w. (F' : ℕ → ℕ) × ((i : ℕ) → i ≤ A.chosen → F' i ≡ F i) × Fits N τ W.sizing W.is_there (calls W) now (push F' no_frames) A.to w) (calls W h u)
          of_function fits = fits.1

    module _ (m : Worth) (E : Env_of lo hi m G env) (X : Together m) where
      -- the name that the argument is keeps its worth
      beyond_here : (x : ℕ) → Is_i64 G x → Beyond lo hi (Name x)
      beyond_here x (inl e) = (E.away x i64_size e).1
      beyond_here x (inr e) = (E.general_worth x i64_size e refl).0

      still : (x : ℕ) → Is_i64 G x → X.now (Name x) ≡ m (Name x)
      still x e = X.old (Name x) (outside_narrower N types τ W lo hi (1 + lo) hi (omega arith) (omega arith) (Name x) (beyond_here x e))

      name_worth : (x : ℕ) → Is_i64 G x → flat_look W.tops env x ≡ Val v → word v ≡ X.now (Name x)
      name_worth x (inl e) l = (E.values x i64_size e v l).1 ∙ sym (still x (inl e))
      name_worth x (inr e) l = (E.general_worth x i64_size e refl).1 v l ∙ sym (still x (inr e))

      old_is : (F : ℕ → ℕ) (d : Free) → Beyond lo hi d → at_node lo F X.now d ≡ m d
      old_is F d o = beyond_node N types τ W lo F X.now d (outside_narrower N types τ W lo hi lo (1 + lo) (omega arith) (omega (arith, lt, le)) d o) ∙ X.old d (outside_narrower N types τ W lo hi (1 + lo) hi (omega arith) (omega arith) d o)

      -- what the function gives
      module _ (F' : ℕ → ℕ) (agrees : (i : ℕ) → i ≤ A.chosen → F' i ≡ frame X.now X.function_fits X.argument_fits i) where
        abbrev Met_here : ℕ → ℕ
        Met_here j = F' (j - A.base)

        new_worth : (d : Free) (i : ℕ) → d ≡ Unknown lo (A.base + i) → F' i ≡ free (at_node lo (λ j. F' (j - A.base)) X.now) d
        new_worth d i e = subst (λ x. F' i ≡ free (at_node lo (λ j. F' (j - A.base)) X.now) x) (sym e) (ap F' (let z : i ≡ A.base + i - A.base = omega arith in z) ∙ sym (node_here lo (λ j. F' (j - A.base)) X.now (A.base + i)))

        value_worth : Worth_of lo (A.base + A.chosen) G env (A.inside A.chosen) v → F' A.chosen ≡ free (at_node lo (λ j. F' (j - A.base)) X.now) (A.inside A.chosen)
        value_worth (inl e) = new_worth (A.inside A.chosen) A.chosen e
        value_worth (inr (inr q)) = agrees A.chosen (omega arith) ∙ frame_value X.now X.function_fits X.argument_fits ∙ q.2 ∙ sym (ap (free (at_node lo (λ j. F' (j - A.base)) X.now)) q.1)
        value_worth (inr (inl q)) = agrees A.chosen (omega arith) ∙ frame_value X.now X.function_fits X.argument_fits ∙ name_worth q.0 q.2 q.3 ∙ sym (beyond_node N types τ W lo (λ j. F' (j - A.base)) X.now (Name q.0) (outside_narrower N types τ W lo hi lo (1 + lo) (omega arith) (omega (arith, lt, le)) (Name q.0) (beyond_here q.0 q.2))) ∙ sym (ap (free (at_node lo (λ j. F' (j - A.base)) X.now)) q.1)

        positions_worth : (i : ℕ) → Unit {0} → F' i ≡ free (at_node lo (λ j. F' (j - A.base)) X.now) (A.inside i)
        positions_worth i u = by_order (nat_eq i A.chosen) refl
          where
            known_worth : (l : i < A.chosen) → Beyond lo (1 + lo) (A.inside i) ⊎ (A.inside i ≡ Unknown lo (A.base + i)) → F' i ≡ free (at_node lo (λ j. F' (j - A.base)) X.now) (A.inside i)
            known_worth l (inl o) = agrees i (omega (arith, l)) ∙ frame_before X.now X.function_fits X.argument_fits i l ∙ sym (free_is (at_node lo (λ j. F' (j - A.base)) X.now) X.now (A.inside i) (beyond_node N types τ W lo (λ j. F' (j - A.base)) X.now (A.inside i) o))
            known_worth l (inr q) = new_worth (A.inside i) i q

            before_or_after : (i < A.chosen) ⊎ (A.chosen < i) → F' i ≡ free (at_node lo (λ j. F' (j - A.base)) X.now) (A.inside i)
            before_or_after (inl l) = known_worth l (A.known i l)
            before_or_after (inr l) = new_worth (A.inside i) i (A.new i l)

            by_order : (b : Bool) → nat_eq i A.chosen ≡ b → F' i ≡ free (at_node lo (λ j. F' (j - A.base)) X.now) (A.inside i)
            by_order true q = subst (λ j. F' j ≡ free (at_node lo (λ j. F' (j - A.base)) X.now) (A.inside j)) (sym (eqb-true i A.chosen q)) (value_worth worth)
            by_order false q = before_or_after (in_order i A.chosen (eqb-false i A.chosen q))

        result_is : (w : FlatValue) → s lo ≡ opened A.inside A.to → Fits N τ W.sizing W.is_there (calls W) X.now (push F' no_frames) A.to w → R_of lo hi m (s lo) w
        result_is w same fits = record {
          now = at_node lo (λ j. F' (j - A.base)) X.now;
          old = old_is (λ j. F' (j - A.base));
          fits = subst (λ u. Of (at_node lo (λ j. F' (j - A.base)) X.now) u w) (sym same)
              (fits_opened N τ (at_node lo (λ j. F' (j - A.base)) X.now) A.inside Any_position (Beyond lo (1 + lo)) F' A.to
              (each_as (Scoped (Beyond lo (1 + lo))) (Of_positions Any_position) (any_position (Beyond lo (1 + lo))) A.to 1 scoped.1) scoped.1 positions_worth W.sizing W.is_there (calls W) no_frames no_frames w
              (fits_same (Beyond lo (1 + lo)) X.now (at_node lo (λ j. F' (j - A.base)) X.now) N τ W.sizing W.is_there (calls W) (λ d o. sym (beyond_node N types τ W lo (λ j. F' (j - A.base)) X.now d o)) A.to 1 (push F' no_frames) (push F' no_frames) scoped.1 (λ j i l. refl) w fits));
        }

      -- a function whose caller chooses what is still open
      module _ (C : For_each_choice (opened A.inside A.to) (s lo)) (other : C.n ≡ lo → ⊥) (function_away : Never_at C.n (s (1 + lo))) (argument_away : Never_at C.n (s mid)) (low : Each (Of_positions (λ i. i ≤ A.chosen)) 1 A.to) where
        value_here : ℕ → ℕ
        value_here j = cond (nat_eq j (A.base + A.chosen)) (word v) (X.now (Unknown lo j))

        value_is : value_here (A.base + A.chosen) ≡ word v
        unfolding value_here
        value_is = ap (λ b. cond b (word v) (X.now (Unknown lo (A.base + A.chosen)))) (eq-eqb (A.base + A.chosen) (A.base + A.chosen) refl)

        value_else : (i : ℕ) → i < A.chosen → value_here (A.base + i) ≡ X.now (Unknown lo (A.base + i))
        unfolding value_here
        value_else i l = ap (λ b. cond b (word v) (X.now (Unknown lo (A.base + i)))) (ne_eqb (A.base + i) (A.base + A.chosen) (λ e. omega (arith, l, e)))

        settled : Worth
        settled = at_node lo value_here X.now

        chosen_at : (ℕ → ℕ) → Worth
        chosen_at F = at_node C.n F X.now

        module _ (F : ℕ → ℕ) where
          function_there : Of (at_node C.n F X.now) (s (1 + lo)) h
          function_there = fits_same (Free_of C.n) X.now (at_node C.n F X.now) N τ W.sizing W.is_there (calls W) (λ d o. sym (node_else C.n F X.now d o)) (s (1 + lo)) 0 no_frames no_frames function_away (λ j i l. refl) h X.function_fits

          argument_there : Of (at_node C.n F X.now) (s mid) v
          argument_there = fits_same (Free_of C.n) X.now (at_node C.n F X.now) N τ W.sizing W.is_there (calls W) (λ d o. sym (node_else C.n F X.now d o)) (s mid) 0 no_frames no_frames argument_away (λ j i l. refl) v X.argument_fits

          module _ (F' : ℕ → ℕ) (agrees : (i : ℕ) → i ≤ A.chosen → F' i ≡ frame (at_node C.n F X.now) function_there argument_there i) where
            chosen_value : Worth_of lo (A.base + A.chosen) G env (A.inside A.chosen) v → F' A.chosen ≡ free (at_node C.n F (at_node lo value_here X.now)) (A.inside A.chosen)
            unfolding at_node
            chosen_value (inl e) = agrees A.chosen (omega arith) ∙ frame_value (at_node C.n F X.now) function_there argument_there ∙ sym value_is ∙ sym (node_here lo value_here X.now (A.base + A.chosen))
                ∙ sym (node_else C.n F (at_node lo value_here X.now) (Unknown lo (A.base + A.chosen)) (λ z. other (sym z))) ∙ sym (ap (free (at_node C.n F (at_node lo value_here X.now))) e)
            chosen_value (inr (inr q)) = agrees A.chosen (omega arith) ∙ frame_value (at_node C.n F X.now) function_there argument_there ∙ q.2 ∙ sym (ap (free (at_node C.n F (at_node lo value_here X.now))) q.1)
            chosen_value (inr (inl q)) = agrees A.chosen (omega arith) ∙ frame_value (at_node C.n F X.now) function_there argument_there ∙ name_worth q.0 q.2 q.3 ∙ sym (ap (free (at_node C.n F (at_node lo value_here X.now))) q.1)

            known_before : (i : ℕ) (l : i < A.chosen) → Beyond lo (1 + lo) (A.inside i) ⊎ (A.inside i ≡ Unknown lo (A.base + i)) → X.now (A.inside i) ≡ at_node lo value_here X.now (A.inside i)
            known_before i l (inl o) = sym (beyond_node N types τ W lo value_here X.now (A.inside i) o)
            known_before i l (inr q) = subst (λ d. X.now d ≡ at_node lo value_here X.now d) (sym q) (sym (node_here lo value_here X.now (A.base + i) ∙ value_else i l))

            chosen_worth : (i : ℕ) → i ≤ A.chosen → F' i ≡ free (at_node C.n F (at_node lo value_here X.now)) (A.inside i)
            chosen_worth i le' = by_order (nat_eq i A.chosen) refl
              where
                before : (i < A.chosen) ⊎ (A.chosen < i) → F' i ≡ free (at_node C.n F (at_node lo value_here X.now)) (A.inside i)
                before (inl l) = agrees i le' ∙ frame_before (at_node C.n F X.now) function_there argument_there i l
                    ∙ free_is (at_node C.n F X.now) (at_node C.n F (at_node lo value_here X.now)) (A.inside i) (both_at C.n F X.now (at_node lo value_here X.now) (A.inside i) (known_before i l (A.known i l)))
                before (inr l) = absurd (omega (arith, l, le'))

                by_order : (b : Bool) → nat_eq i A.chosen ≡ b → F' i ≡ free (at_node C.n F (at_node lo value_here X.now)) (A.inside i)
                by_order true q = subst (λ j. F' j ≡ free (at_node C.n F (at_node lo value_here X.now)) (A.inside j)) (sym (eqb-true i A.chosen q)) (chosen_value worth)
                by_order false q = before (in_order i A.chosen (eqb-false i A.chosen q))

            given_there : (w : FlatValue) → Fits N τ W.sizing W.is_there (calls W) (at_node C.n F X.now) (push F' no_frames) A.to w → Of (at_node C.n F (at_node lo value_here X.now)) (Fun C.chosen C.from C.to) w
            given_there w fits = subst (λ u. Of (at_node C.n F (at_node lo value_here X.now)) u w) C.is_function
                (fits_opened N τ (at_node C.n F (at_node lo value_here X.now)) A.inside (λ i. i ≤ A.chosen) (Beyond lo (1 + lo)) F' A.to low scoped.1 chosen_worth W.sizing W.is_there (calls W) no_frames no_frames w
                (fits_same (Beyond lo (1 + lo)) (at_node C.n F X.now) (at_node C.n F (at_node lo value_here X.now)) N τ W.sizing W.is_there (calls W) (λ d o. both_at C.n F X.now (at_node lo value_here X.now) d (sym (beyond_node N types τ W lo value_here X.now d o))) A.to 1 (push F' no_frames) (push F' no_frames) scoped.1 (λ j i l. refl) w fits))

        chosen_result : (w : FlatValue) → ((F : ℕ → ℕ) → Of (at_node C.n F (at_node lo value_here X.now)) (Fun C.chosen C.from C.to) w) → R_of lo hi m (s lo) w
        chosen_result w there = record {
          now = at_node lo value_here X.now;
          old = old_is value_here;
          fits = subst (λ u. Of (at_node lo value_here X.now) u w) (sym C.wanted)
              (instance_fits N τ W.sizing W.is_there (calls W) C.chosen C.from C.to C.wanted_chosen C.wanted_from C.wanted_to C.n C.m C.δ C.ρ C.at_choice C.parameter C.result (λ m v x. suits_fits N τ W.sizing W.is_there (calls W) C.parameter m v x) (λ m v x. suits_fits N τ W.sizing W.is_there (calls W) C.result m v x) (at_node lo value_here X.now) w there);
        }

        chosen_gives : Gives (There W.is_there) (R_of lo hi m (s lo)) (calls W h v)
        chosen_gives = gives_as (λ w. (F : ℕ → ℕ) → Of (at_node C.n F (at_node lo value_here X.now)) (Fun C.chosen C.from C.to) w) (R_of lo hi m (s lo)) (calls W h v)
            (gives_all (λ F w. Of (at_node C.n F (at_node lo value_here X.now)) (Fun C.chosen C.from C.to) w) (calls W h v)
            (gives_as _ (λ w. Unit {0}) (calls W h v) (call_gives (at_node C.n (λ i. 0) X.now) (function_there (λ i. 0)) (argument_there (λ i. 0))) (λ w q. tt))
            (λ F. gives_as _ _ (calls W h v) (call_gives (at_node C.n F X.now) (function_there F) (argument_there F)) (λ w q. given_there F q.0 q.1 w q.2))) chosen_result

      pub called : Gives (There W.is_there) (R_of lo hi m (s lo)) (calls W h v)
      called = by_result A.result
        where
          by_result : (s lo ≡ opened A.inside A.to) ⊎ ((C : For_each_choice (opened A.inside A.to) (s lo)) × (C.n ≡ lo → ⊥) × Never_at C.n (s (1 + lo)) × Never_at C.n (s mid) × Each (Of_positions (λ i. i ≤ A.chosen)) 1 A.to) → Gives (There W.is_there) (R_of lo hi m (s lo)) (calls W h v)
          by_result (inl same) = gives_as _ (R_of lo hi m (s lo)) (calls W h v) (call_gives X.now X.function_fits X.argument_fits) (λ w q. result_is q.0 q.1 w same q.2)
          by_result (inr q) = chosen_gives q.0 q.1 q.2 q.3 q.4

    -- what was sized first is evaluated first in thought
    pub together : (m : Worth) → Env_of lo hi m G env → All_results (1 + lo) mid G env (s (1 + lo)) h → All_results mid hi G env (s mid) v → Away N types W.sizing.size_at W.sizing.home (1 + lo) mid (s mid) ⊎ Away N types W.sizing.size_at W.sizing.home mid hi (s (1 + lo)) → Together m
    together m E f a (inl o) =
        let E1 = env_moves N types τ W lo hi mid hi m m G env (omega (arith, lt)) (omega arith) (λ d q. refl) E in
        let x = a (m, E1) in
        let moved : (d : Free) → Beyond lo hi d → x.now d ≡ m d = λ d q. x.old d (outside_narrower N types τ W lo hi mid hi (omega (arith, lt)) (omega arith) d q) in
        let E2 = env_moves N types τ W lo hi (1 + lo) mid m x.now G env (omega arith) (omega (arith, le)) moved E in
        let y = f (x.now, E2) in record {
          now = y.now;
          old = λ d q. y.old d (outside_narrower N types τ W (1 + lo) hi (1 + lo) mid (omega arith) (omega (arith, le)) d q) ∙ x.old d (outside_narrower N types τ W (1 + lo) hi mid hi (omega (arith, lt)) (omega arith) d q);
          function_fits = y.fits;
          argument_fits = fits_away N types τ W (1 + lo) mid x.now y.now (s mid) v o y.old x.fits;
        }
    together m E f a (inr o) =
        let E1 = env_moves N types τ W lo hi (1 + lo) mid m m G env (omega arith) (omega (arith, le)) (λ d q. refl) E in
        let x = f (m, E1) in
        let moved : (d : Free) → Beyond lo hi d → x.now d ≡ m d = λ d q. x.old d (outside_narrower N types τ W lo hi (1 + lo) mid (omega arith) (omega (arith, le)) d q) in
        let E2 = env_moves N types τ W lo hi mid hi m x.now G env (omega (arith, lt)) (omega arith) moved E in
        let y = a (x.now, E2) in record {
          now = y.now;
          old = λ d q. y.old d (outside_narrower N types τ W (1 + lo) hi mid hi (omega (arith, lt)) (omega arith) d q) ∙ x.old d (outside_narrower N types τ W (1 + lo) hi (1 + lo) mid (omega arith) (omega (arith, le)) d q);
          function_fits = fits_away N types τ W mid hi x.now y.now (s (1 + lo)) h o y.old x.fits;
          argument_fits = y.fits;
        }
