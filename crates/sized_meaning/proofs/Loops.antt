-- Loops: each turn gives a value of the sized type of the loop. Levels that it doesn't keep are met anew in each turn.
use Rattle.fut_meaning.specs.Accessors.{truth_of}
use Rattle.sized_meaning.proofs.Environments.{Quiet}
use Rattle.sized_meaning.proofs.Outcomes.{gives_quiet}
use Rattle.sized_meaning.proofs.Size_reports.{truth_of_fine}
use Rattle.sized_meaning.specs.There.{There}
use Rattle.std.proofs.Common.{◌≡◌, ℕ, zero, suc, ◌+◌, ◌<◌, ◌≤◌, List, [], ◌∷◌, ◌++◌, Bool, true, false, ◌||◌, cond, nat_eq, refl, sym, ap, ◌∙◌, subst, arith, eqb-true}
use Rattle.fut_scalar.specs.declared.place.BindId.{BindId}
use Rattle.fut_scalar.specs.declared.report.Report.{Report}
use Rattle.fut_scalar.specs.declared.scalar.IntType.{IntType}
use Rattle.fut_scalar.specs.declared.scalar.Scalar.TheVariants as scalar
use Rattle.fut_scalar.specs.declared.scalar.ScalarType.{ScalarType}
use Rattle.fut_scalar.specs.declared.scalar.ScalarType.TheVariants as sort
use Rattle.fut_flat.specs.Numbers.{pattern_numbers}
use Rattle.fut_flat.specs.Terms.{Bound_pattern}
use Rattle.fut_flat.specs.Erased.{FlatTerm, FlatPattern}
use Rattle.fut_types.specs.declared.Head.TheVariants as head
use Rattle.fut_types.specs.Types.{Made, none, Sub, scalar_ty}
use Rattle.fut_typing.specs.Names.{Names}
use Rattle.fut_value.specs.Data.{Datum, Array_datum}
use Rattle.fut_meaning.specs.Accessors.{bound, turns_of}
use Rattle.fut_meaning.specs.Meaning.{counts}
use Rattle.fut_meaning.specs.Arrays.{rows_of}
use Rattle.fut_meaning.specs.Datums.{as_value, datum_of}
use Rattle.fut_meaning.specs.Flats.{FlatValue, FlatEnv}
use Rattle.fut_meaning.specs.Telling.{found}
use Rattle.fut_meaning.specs.Outcomes.{Val, Fail, Rel, and_then, the, gives, Then, choose, turns, while_turns}
use Rattle.fut_meaning.specs.Values.{Scalar_value, bind, entered, Evaluate}
use Rattle.fut_meaning.proofs.Data.{datum_of_as}
use Rattle.fut_meaning.proofs.Safe.{Every}
use Rattle.fut_flat.specs.declared.prim.Ref.{Ref}
use Rattle.sized_types.specs.Sizes.{Free, Const, Name, Own, Unknown, Slot, Dim, At, Bound, Inferred, Written, Size, Hole, Open, Level, Built, Fun, Sizes, no_size, size_and, is_dim, levels, all_levels, replaced, all_replaced, renaming, renamed, erased, all_erased}
use Rattle.fut_sizes.specs.Agreeing.{is_among}
use Rattle.fut_sizes.specs.Scopes.{names}
use Rattle.fut_sizes.specs.Scoping.{Context, with_name, with_pattern, with_size_names}
use Rattle.fut_sizes.specs.Sizing.{bind_ids, lacking, all_lacking, lacking_dim, differing, all_differing}
use Rattle.fut_sizes.specs.Suiting.{Each, Each_all, Scoped, Data, All_data}
use Rattle.fut_sizes.specs.Rules.{taken_by, Away, Pattern_takes}
use Rattle.sized_meaning.specs.Worth.{Worth, free, no_frames, number}
use Rattle.sized_meaning.specs.Shapes.{Meant, Has_datum}
use Rattle.sized_meaning.specs.Finding.{One_kind_each, Well_formed}
use Rattle.sized_meaning.specs.Fits.{Out_fits, Gives, word, Fits}
use Rattle.sized_meaning.specs.Law.{Sound, Name_home, Simple, World, means, calls, Beyond as Out_beyond, Env_fits, Result as Res}
use Rattle.sized_meaning.proofs.Outcomes.{gives_exact, gives_then}
use Rattle.sized_meaning.proofs.Reading.{each_and, each_as, fits_same, fits_renamed}
use Rattle.sized_meaning.proofs.Suiting.{at_node, free_is}
use Rattle.sized_meaning.proofs.Finding.{dim_same}
use Rattle.sized_meaning.proofs.Datas.{shaped_data, datum_fits}
use Rattle.sized_meaning.proofs.Mapping.{every_listed}
use Rattle.sized_meaning.proofs.Environments.{word_is, name_found, beyond_node, outside_narrower, apart, env_moves, env_bind, env_entered}
use Rattle.sized_meaning.proofs.Alike.{Alike, alike_hole, alike_level, alike_built, All_alike, alike_none, alike_more, alike_fits}
use Rattle.sized_meaning.proofs.Branches.{Numbered, All_numbered, all_of, all_of_numbered, same_number, here, stays, Same_form, same_hole, same_level, same_built, All_same_form, same_none, same_more, same_levels}
use Rattle.sized_meaning.proofs.Patterns.{among_back, named_as, named_else, named_here, named_by, others_keep, names_inside, beyond_unnamed, names_worth, nodes_away, keeps_less, enters}
use Rattle.sized_meaning.proofs.Lets.{stands_in, taking, Taken_value, inside_beyond, taken_stays, taken_env}

-- ---- turns, and turns while a test holds

pub gives_turns : {quiet : Report → Type 0} {A B : Type 0} (P : B → Type 0) (Q : A → Type 0) (g : A → B → Rel B) → ((a : A) (b : B) → Q a → P b → Gives quiet P (g a b)) → (xs : List A) (b : B) → Every Q xs → P b → Gives quiet P (turns g xs b)
gives_turns P Q g go [] b e h = gives_exact _ P 0 (Val b) h
gives_turns P Q g go (x ∷ xs) b e h = gives_then P P (g x b) (turns g xs) (go x b e.0 h) (λ c k. gives_turns P Q g go xs c e.1 k)

module _ {quiet : Report → Type 0} {B : Type 0} (P : B → Type 0) (r : Report) (told : quiet r) (test : B → Rel Bool) (body : B → Rel B) (ask : (b : B) → P b → Gives quiet (λ t. Unit {0}) (test b)) (go : (b : B) → P b → Gives quiet P (body b)) where
  last : (b : B) → P b → (holds : Bool) → Gives quiet P (choose holds (the (Fail r)) (gives 0 b))
  last b h true = gives_exact _ P 0 (Fail r) told
  last b h false = gives_exact _ P 0 (Val b) h

  more : (b : B) → P b → (k : B → Rel B) → ((c : B) → P c → Gives quiet P (k c)) → (holds : Bool) → Gives quiet P (choose holds (Then (body b) k) (gives 0 b))
  more b h k rest true = gives_then P P (body b) k (go b h) rest
  more b h k rest false = gives_exact _ P 0 (Val b) h

  pub gives_while : (n : ℕ) (b : B) → P b → Gives quiet P (while_turns n r test body b)
  gives_while zero b h = gives_then (λ t. Unit {0}) P (test b) _ (ask b h) (λ t u. last b h t)
  gives_while (suc n) b h = gives_then (λ t. Unit {0}) P (test b) _ (ask b h) (λ t u. more b h (while_turns n r test body) (λ c k. gives_while n c k) t)

pub any_counts : (n i : ℕ) → Every (λ j. Unit {0}) (counts n i)
any_counts zero i = tt
any_counts (suc n) i = (tt, any_counts n (suc i))

-- ---- what a loop keeps

module _ (N : Names) (types : Sub) (In : Free → Type 0) (lo : ℕ) (F : ℕ → ℕ) (m : Worth) (still : (d : Free) → In d → at_node lo F m d ≡ m d) (ds : List ℕ) where
  first_number : (i : ℕ) (d : Dim) → Scoped In 0 d → F i ≡ number m no_frames d → number m no_frames d ≡ number (at_node lo F m) no_frames (lacking_dim N types lo ds i d)
  first_number i d a n = by_test (is_among ds i)
    where
      by_test : (b : Bool) → number m no_frames d ≡ number (at_node lo F m) no_frames (cond b (At (Unknown lo i)) d)
      by_test true = here In lo F m still i (number m no_frames d) n
      by_test false = same_number In lo F m still d a

  mutual
    unfolding Data All_data Each Each_all lacking all_lacking Numbered All_numbered

    first_lacking : (i : ℕ) (t : Size) → Data t → Each (Scoped In) 0 t → Numbered F m i t → Alike m (at_node lo F m) t (lacking N types lo ds i t)
    first_lacking i (Level d t) dt a n = alike_level (first_number i d a.0 n.0) (first_lacking (suc i) t dt a.1 n.1)
    first_lacking i (Built h ts) dt a n = alike_built (all_first_lacking i ts dt a n)
    first_lacking i t dt a n = stays In lo F m still t dt a

    all_first_lacking : (i : ℕ) (ts : Sizes) → All_data ts → Each_all (Scoped In) 0 ts → All_numbered F m i ts → All_alike m (at_node lo F m) ts (all_lacking N types lo ds i ts)
    all_first_lacking i no_size dt a n = alike_none
    all_first_lacking i (size_and t ts) dt a n = alike_more (first_lacking i t dt.0 a.0 n.0) (all_first_lacking (levels t + i) ts dt.1 a.1 n.1)

  -- what a turn gives is like it, where nothing that is kept differs
  none_here : (a b : Bool) (i : ℕ) (rest : List ℕ) → cond (a || b) rest (i ∷ rest) ≡ [] → (rest ≡ []) × (a ≡ false → b ≡ true)
  none_here true b i rest e = (e, λ q. absurd (let z : true ≡ false = q in cc))
  none_here false true i rest e = (e, λ q. refl)
  none_here false false i rest e = absurd (let z : ◌≡◌ {A = List ℕ} (i ∷ rest) [] = e in cc)

  turn_number : (i : ℕ) (d e : Dim) → Scoped In 0 d → F i ≡ number m no_frames e → (b : Bool) → (b ≡ false → is_dim (cond b (At (Unknown lo i)) d) e ≡ true) → number m no_frames e ≡ number (at_node lo F m) no_frames (cond b (At (Unknown lo i)) d)
  turn_number i d e a n true same = here In lo F m still i (number m no_frames e) n
  turn_number i d e a n false same = ap (number m no_frames) (sym (dim_same d e (same refl))) ∙ same_number In lo F m still d a

  both_empty : (xs ys : List ℕ) → xs ++ ys ≡ [] → (xs ≡ []) × (ys ≡ [])
  both_empty [] ys e = (refl, e)
  both_empty (x ∷ xs) ys e = absurd (let z : ◌≡◌ {A = List ℕ} (x ∷ (xs ++ ys)) [] = e in cc)

  mutual
    unfolding levels all_levels lacking all_lacking

    levels_lacking : (i : ℕ) (t : Size) → levels (lacking N types lo ds i t) ≡ levels t
    levels_lacking i (Hole v) = refl
    levels_lacking i (Open n v u) = refl
    levels_lacking i (Level d t) = ap (λ n. 1 + n) (levels_lacking (suc i) t)
    levels_lacking i (Built h ts) = all_levels_lacking i ts
    levels_lacking i (Fun k p r) = refl

    all_levels_lacking : (i : ℕ) (ts : Sizes) → all_levels (all_lacking N types lo ds i ts) ≡ all_levels ts
    all_levels_lacking i no_size = refl
    all_levels_lacking i (size_and t ts) = ap (λ n. n + all_levels (all_lacking N types lo ds (levels t + i) ts)) (levels_lacking i t) ∙ ap (λ n. levels t + n) (all_levels_lacking (levels t + i) ts)

  mutual
    unfolding Each Each_all lacking all_lacking differing all_differing Numbered All_numbered

    turn_lacking : (i : ℕ) {t u : Size} → Same_form t u → Each (Scoped In) 0 t → Numbered F m i u → differing N types ds i (lacking N types lo ds i t) u ≡ [] → Alike m (at_node lo F m) u (lacking N types lo ds i t)
    turn_lacking i same_hole a n e = alike_hole
    turn_lacking i (same_level {d} {e} {t} {u} q) a n z =
        let b = none_here (is_among ds i) (is_dim (lacking_dim N types lo ds i d) e) i (differing N types ds (suc i) (lacking N types lo ds (suc i) t) u) z in
        alike_level (turn_number i d e a.0 n.0 (is_among ds i) b.1) (turn_lacking (suc i) q a.1 n.1 b.0)
    turn_lacking i (same_built q) a n e = alike_built (all_turn_lacking i q a n e)

    all_turn_lacking : (i : ℕ) {ts us : Sizes} → All_same_form ts us → Each_all (Scoped In) 0 ts → All_numbered F m i us → all_differing N types ds i (all_lacking N types lo ds i ts) us ≡ [] → All_alike m (at_node lo F m) us (all_lacking N types lo ds i ts)
    all_turn_lacking i same_none a n e = alike_none
    all_turn_lacking i (same_more {t} {u} {ts} {us} q qs) a n e =
        let b = both_empty (differing N types ds i (lacking N types lo ds i t) u) (all_differing N types ds (levels (lacking N types lo ds i t) + i) (all_lacking N types lo ds (levels t + i) ts) us) e in
        alike_more (turn_lacking i q a.0 n.0 b.0) (all_turn_lacking (levels t + i) qs a.1 (subst (λ k. All_numbered F m (k + i) us) (sym (same_levels q)) n.1)
        (subst (λ k. all_differing N types ds (k + i) (all_lacking N types lo ds (levels t + i) ts) us ≡ []) (levels_lacking i t) b.1))

module _ (N : Names) (types : Sub) (In : Free → Type 0) (lo : ℕ) (ds : List ℕ) (own : (i : ℕ) → In (Unknown lo i)) where
  lacking_scoped : (i j : ℕ) (d : Dim) → Scoped In j d → Scoped In j (lacking_dim N types lo ds i d)
  lacking_scoped i j d a = by_test (is_among ds i)
    where
      by_test : (b : Bool) → Scoped In j (cond b (At (Unknown lo i)) d)
      by_test true = own i
      by_test false = a

  mutual
    unfolding Each Each_all lacking all_lacking

    pub each_lacking : (i j : ℕ) (t : Size) → Each (Scoped In) j t → Each (Scoped In) j (lacking N types lo ds i t)
    each_lacking i j (Level d t) a = (lacking_scoped i j d a.0, each_lacking (suc i) j t a.1)
    each_lacking i j (Built h ts) a = all_each_lacking i j ts a
    each_lacking i j t a = a

    all_each_lacking : (i j : ℕ) (ts : Sizes) → Each_all (Scoped In) j ts → Each_all (Scoped In) j (all_lacking N types lo ds i ts)
    all_each_lacking i j no_size a = tt
    all_each_lacking i j (size_and t ts) a = (each_lacking i j t a.0, all_each_lacking (levels t + i) j ts a.1)

module _ (ρ : Free → Free) where
  mutual
    unfolding replaced all_replaced

    same_renamed : {t u : Size} → Same_form t u → (j : ℕ) → Same_form t (replaced (renaming ρ) j u)
    same_renamed same_hole j = same_hole
    same_renamed (same_level q) j = same_level (same_renamed q j)
    same_renamed (same_built q) j = same_built (all_same_renamed q j)

    all_same_renamed : {ts us : Sizes} → All_same_form ts us → (j : ℕ) → All_same_form ts (all_replaced (renaming ρ) j us)
    all_same_renamed same_none j = same_none
    all_same_renamed (same_more q qs) j = same_more (same_renamed q j) (all_same_renamed qs j)

module _ (N : Names) (types : Sub) (τ : Meant) (W : World) (S : Sound N types W.sizing) (one : One_kind_each τ) where
  abbrev s : ℕ → Size
  s n = W.sizing.size_at n

  abbrev Env_of : ℕ → ℕ → Worth → Context → FlatEnv → Type 0
  Env_of lo hi m G env = Env_fits N types τ W lo hi m G env

  abbrev R_of : ℕ → ℕ → Worth → Size → FlatValue → Type 0
  R_of lo hi m t v = Res N types τ W lo hi m t v

  abbrev Beyond : ℕ → ℕ → Free → Type 0
  Beyond lo hi d = Out_beyond N types τ W lo hi d

  abbrev Apart : ℕ → ℕ → Size → Type 0
  Apart lo hi t = Away N types W.sizing.size_at W.sizing.home lo hi t

  abbrev Of : Worth → Size → FlatValue → Type 0
  Of m t v = Fits N τ W.sizing W.is_there (calls W) m no_frames t v

  abbrev All_results : ℕ → ℕ → Context → FlatEnv → Size → FlatValue → Type 0
  All_results lo hi G env t v = (w : (m : Worth) × Env_of lo hi m G env) → R_of lo hi w.0 t v

  -- a type of a scalar that has values
  pub scalar_is : (m : Worth) (t : Size) (c : ScalarType) (v : FlatValue) → Well_formed W.sizing.fields t → erased t ≡ scalar_ty c → Of m t v → t ≡ Built (head.Scalar c) no_size
  unfolding Fits erased all_erased Well_formed
  scalar_is m (Built (head.Scalar x) no_size) c v f e h = let y : Made (head.Scalar x) none ≡ Made (head.Scalar c) none = e in let z : x ≡ c = cc in ap (λ k. Built (head.Scalar k) no_size) z
  scalar_is m (Built (head.Scalar x) (size_and t ts)) c v f e h = absurd f.0
  scalar_is m (Hole (Inferred a)) c v f e h = absurd (let z = e in cc)
  scalar_is m (Hole (Written b k)) c v f e h = absurd (let z = e in cc)
  scalar_is m (Open n a u) c v f e h = absurd h
  scalar_is m (Level d t) c v f e h = absurd (let z = e in cc)
  scalar_is m (Fun k p r) c v f e h = absurd (let z = e in cc)
  scalar_is m (Built head.Tuple ts) c v f e h = absurd (let z = e in cc)
  scalar_is m (Built (head.Record n) ts) c v f e h = absurd (let z = e in cc)
  scalar_is m (Built (head.Abstract n k) ts) c v f e h = absurd h
  scalar_is m (Built head.Array ts) c v f e h = absurd h
  scalar_is m (Built head.Fun ts) c v f e h = absurd h
  scalar_is m (Built (head.Rigid n k) ts) c v f e h = absurd h

  -- the number of turns, and the numbers that count them
  pub counted_type : (m : Worth) (t : IntType) (k : FlatValue) → Of m (Built (head.Scalar (sort.Int t)) no_size) k → Out_fits (There W.is_there) (λ (c : IntType × ℕ). c.0 ≡ t) (turns_of k)
  unfolding Fits
  counted_type m t (Scalar_value (scalar.Int u n)) h = let z : sort.Int u ≡ sort.Int t = h in let y : u ≡ t = cc in y
  counted_type m t (Scalar_value (scalar.Bool b)) h = tt
  counted_type m t v h = absurd h

  -- the rows of an array
  pub rows_out : (m : Worth) (d : Dim) (t : Size) (k : FlatValue) → Of m (Level d t) k → Well_formed W.sizing.fields t → Out_fits (There W.is_there) (λ r. Data t × Every (Has_datum N τ m no_frames t) r.1) (and_then (datum_of k) rows_of)
  unfolding Fits Has_datum
  rows_out m d t k h f = subst (λ o. Out_fits (There W.is_there) (λ r. Data t × Every (Has_datum N τ m no_frames t) r.1) (and_then o rows_of)) (sym h.is_datum) (of_array h.datum h.fits)
    where
      of_array : (x : Datum) → Has_datum N τ m no_frames (Level d t) x → Out_fits (There W.is_there) (λ r. Data t × Every (Has_datum N τ m no_frames t) r.1) (rows_of x)
      of_array (Array_datum row ds) h = (shaped_data N τ W.sizing.fields S.fields m no_frames t row f h.1, every_listed (Has_datum N τ m no_frames t) ds h.2)
      of_array x h = absurd h

  pub row_formed : (d : Dim) (t : Size) (n : ℕ) → s n ≡ Level d t → Well_formed W.sizing.fields t
  unfolding Well_formed
  row_formed d t n e = subst (Well_formed W.sizing.fields) e (S.formed n)

  pub row_apart : (lo te at hi : ℕ) (d : Dim) (t : Size) → Apart lo te (Level d t) → Apart at hi (Level d t) → Each (Scoped (λ e. Beyond lo te e × Beyond at hi e)) 0 t
  unfolding Each
  row_apart lo te at hi d t a b = each_as (λ j e. Scoped (Beyond lo te) j e × Scoped (Beyond at hi) j e) (Scoped (λ e. Beyond lo te e × Beyond at hi e)) both t 0 (each_and (Scoped (Beyond lo te)) (Scoped (Beyond at hi)) t 0 a.1 b.1)
    where
      both : (j : ℕ) (e : Dim) → Scoped (Beyond lo te) j e × Scoped (Beyond at hi) j e → Scoped (λ e. Beyond lo te e × Beyond at hi e) j e
      both j (At e) o = o
      both j (Bound k i) o = o.0

  -- what is known of a loop: ts is the first node of what says its turns, te the first one of the term there, at that of the body
  pub record Loop_known (p : FlatPattern) (sizes : List BindId) (lo mid ts te at hi : ℕ) : Type 0 where
    pub named : Taken_value N types τ W S one p sizes lo mid ts hi (s lo)
    pub dropped : List ℕ
    pub carried : s lo ≡ lacking N types lo dropped 0 (s mid)
    pub no_function : Data (s mid)
    pub form : Same_form (s mid) (s at)
    pub kept : differing N types dropped 0 (s lo) (renamed (taken_by named.what (bind_ids sizes)) (s at)) ≡ []
    pub value_away : Apart lo mid (s mid)
    pub turns_away : Apart ts hi (s mid)

  module _ (p : FlatPattern) (sizes : List BindId) (lo mid ts te at hi : ℕ) (L : Loop_known p sizes lo mid ts te at hi) (l0 : mid ≡ 1 + lo + pattern_numbers p) (l1 : mid ≤ ts) (l2 : ts ≤ te) (l3 : te ≤ at) (l4 : at ≤ hi) where
    abbrev T : Taken_value N types τ W S one p sizes lo mid ts hi (s lo)
    T = L.named

    -- a value that the loop carries; the worths differ from those at the start at the nodes that turns change
    pub record Turn_now (start : Worth) (w : FlatValue) : Type 0 where
      pub now : Worth
      pub kept_there : (d : Free) → Beyond lo te d → Beyond at hi d → now d ≡ start d
      pub fits : Of now (s lo) w

    abbrev inner : Worth → FlatValue → Worth
    inner m w = named_by p w (taking (L.named).what (bind_ids sizes) m)

    beyond_own : (F : ℕ → ℕ) (m : Worth) (d : Free) → Beyond lo mid d → at_node lo F m d ≡ m d
    beyond_own F m d o = beyond_node N types τ W lo F m d (outside_narrower N types τ W lo mid lo (1 + lo) (omega arith) (omega (arith, l0)) d o)

    -- the first value
    pub starts : (start : Worth) (w : FlatValue) → Of start (s mid) w → Turn_now start w
    starts start w h = record {
      now = at_node lo (all_of start (s mid)) start;
      kept_there = λ d o o'. beyond_own (all_of start (s mid)) start d (outside_narrower N types τ W lo te lo mid (omega arith) (omega (arith, l1, l2)) d o);
      fits = subst (λ t. Of (at_node lo (all_of start (s mid)) start) t w) (sym L.carried)
          ((alike_fits N τ start (at_node lo (all_of start (s mid)) start) W.sizing W.is_there (calls W)
          (first_lacking N types (Beyond lo mid) lo (all_of start (s mid)) start (λ d o. beyond_own (all_of start (s mid)) start d o) L.dropped 0 (s mid) L.no_function L.value_away (all_of_numbered start (s mid))) w).0 h);
    }

    -- the loop's own type is away from its turns
    carried_away : Apart ts hi (s lo)
    carried_away = subst (Apart ts hi) (sym L.carried) (each_lacking N types (Beyond ts hi) lo L.dropped (λ i j. let x = j.0 in omega (arith, x, l0, l1)) 0 0 (s mid) L.turns_away)

    -- what a turn gives
    module _ (start : Worth) (w : FlatValue) (x : Turn_now start w) (m2 : Worth) (same : (d : Free) → Beyond ts te d → m2 d ≡ named_by p w (taking (L.named).what (bind_ids sizes) x.now) d) (v : FlatValue) (r : R_of at hi m2 (s at) v) where
      abbrev ρ : Free → Free
      ρ = taken_by (L.named).what (bind_ids sizes)

      now_there : (d : Free) → Beyond ts hi d → r.now d ≡ named_by p w (taking (L.named).what (bind_ids sizes) x.now) d
      now_there d o = r.old d (outside_narrower N types τ W ts hi at hi (omega (arith, l2, l3)) (omega arith) d o) ∙ same d (outside_narrower N types τ W ts hi ts te (omega arith) (omega (arith, l3, l4)) d o)

      named_stays : (d : Free) → free r.now (taken_by (L.named).what (bind_ids sizes) d) ≡ free r.now d
      named_stays (Name c) = by_test (is_among (bind_ids sizes) c) refl
        where
          by_test : (b : Bool) → is_among (bind_ids sizes) c ≡ b → free r.now (cond b ((L.named).what c) (Name c)) ≡ r.now (Name c)
          by_test true e = free_is r.now (named_by p w (taking (L.named).what (bind_ids sizes) x.now)) ((L.named).what c) (now_there ((L.named).what c) (stands_in (Beyond ts hi) ((L.named).what c) (s lo) ((L.named).sizes_met c e) carried_away))
              ∙ sym (ap (λ b. free (named_by p w (taking (L.named).what (bind_ids sizes) x.now)) (cond b ((L.named).what c) (Name c))) e)
              ∙ taken_stays N types τ W S one p sizes lo mid ts hi (s lo) L.named l0 l1 (omega (arith, l2, l3, l4)) w x.now (Name c)
              ∙ sym (now_there (Name c) (outside_narrower N types τ W mid hi ts hi l1 (omega arith) (Name c) (apart N types τ W (1 + lo) mid hi (Name c) ((L.named).bound_here c (among_back (names p) (bind_ids sizes) c e)))))
          by_test false e = refl
      named_stays (Const c) = refl
      named_stays (Own n i) = refl
      named_stays (Unknown n i) = refl
      named_stays (Slot i) = refl

      pub turned : Turn_now start v
      turned =
          let u : Size = renamed ρ (s at) in
          let F : ℕ → ℕ = all_of r.now u in record {
            now = at_node lo F r.now;
            kept_there = λ d o o'. beyond_own F r.now d (outside_narrower N types τ W lo te lo mid (omega arith) (omega (arith, l1, l2)) d o) ∙ r.old d o' ∙ same d (outside_narrower N types τ W lo te ts te (omega (arith, l0, l1)) (omega arith) d o)
                ∙ inside_beyond N types τ W S one p sizes lo mid ts hi (s lo) L.named l0 l1 (omega (arith, l2, l3, l4)) w x.now d (outside_narrower N types τ W lo te (1 + lo) mid (omega arith) (omega (arith, l1, l2)) d o) ∙ x.kept_there d o o';
            fits = subst (λ t. Of (at_node lo F r.now) t v) (sym L.carried)
                ((alike_fits N τ r.now (at_node lo F r.now) W.sizing W.is_there (calls W)
                (turn_lacking N types (Beyond lo mid) lo F r.now (λ d o. beyond_own F r.now d o) L.dropped 0 (same_renamed ρ L.form 0) L.value_away (all_of_numbered r.now u) (subst (λ t. differing N types L.dropped 0 t u ≡ []) L.carried L.kept)) v).0
                ((fits_renamed N τ W.sizing W.is_there (calls W) r.now r.now ρ named_stays (s at) no_frames v).1 r.fits));
          }

    pub ends : (m start : Worth) (v : FlatValue) → ((d : Free) → Beyond lo hi d → start d ≡ m d) → Turn_now start v → R_of lo hi m (s lo) v
    ends m start v old x = record { now = x.now; old = λ d o. x.kept_there d (outside_narrower N types τ W lo hi lo te (omega arith) (omega (arith, l3, l4)) d o) (outside_narrower N types τ W lo hi at hi (omega (arith, l0, l1, l2, l3)) (omega arith) d o) ∙ old d o; fits = x.fits }

    -- ---- one turn
    module _ (m start : Worth) (G : Context) (env : FlatEnv) (E : Env_of lo hi m G env) (old : (d : Free) → Beyond lo hi d → start d ≡ m d) (body : FlatTerm) where
      abbrev inside : Context
      inside = with_pattern W.sizing.size_at p (1 + lo) (with_size_names (bind_ids sizes) G)

      from_start : (w : FlatValue) (x : Turn_now start w) (d : Free) → Beyond lo hi d → x.now d ≡ m d
      from_start w x d o = x.kept_there d (outside_narrower N types τ W lo hi lo te (omega arith) (omega (arith, l3, l4)) d o) (outside_narrower N types τ W lo hi at hi (omega (arith, l0, l1, l2, l3)) (omega arith) d o) ∙ old d o

      bound_there : (w : FlatValue) (x : Turn_now start w) → Out_fits (There W.is_there) (λ e. Env_of ts hi (named_by p w (taking (L.named).what (bind_ids sizes) x.now)) (with_pattern W.sizing.size_at p (1 + lo) (with_size_names (bind_ids sizes) G)) e) (bound (1 + lo) p w env)
      bound_there w x = taken_env N types τ W S one p sizes lo mid ts hi (s lo) L.named l0 l1 (omega (arith, l2, l3, l4)) w m x.now G env E (λ d o. from_start w x d o) x.fits

      -- where a condition is asked
      pub while_turn : ((e : FlatEnv) → Gives (Quiet N types τ W at hi (with_pattern W.sizing.size_at p (1 + lo) (with_size_names (bind_ids sizes) G)) e) (All_results at hi (with_pattern W.sizing.size_at p (1 + lo) (with_size_names (bind_ids sizes) G)) e (s at)) (means W (Evaluate e at body))) → (w : FlatValue) → Turn_now start w
          → Gives (There W.is_there) (Turn_now start) (Then (the (bound (1 + lo) p w env)) (λ e. means W (Evaluate e at body)))
      while_turn law w x = gives_then (λ e. Env_of ts hi (named_by p w (taking (L.named).what (bind_ids sizes) x.now)) (with_pattern W.sizing.size_at p (1 + lo) (with_size_names (bind_ids sizes) G)) e) (Turn_now start) _ _
          (gives_exact _ _ 0 (bound (1 + lo) p w env) (bound_there w x))
          (λ e E'. let m' : Worth = named_by p w (taking (L.named).what (bind_ids sizes) x.now) in
          let E2 = env_moves N types τ W ts hi at hi m' m' (with_pattern W.sizing.size_at p (1 + lo) (with_size_names (bind_ids sizes) G)) e (omega (arith, l2, l3)) (omega arith) (λ d o. refl) E' in
          gives_quiet (All_results at hi (with_pattern W.sizing.size_at p (1 + lo) (with_size_names (bind_ids sizes) G)) e (s at)) (Turn_now start) (means W (Evaluate e at body)) (λ r q. q (m', E2)) (law e)
          (λ v r. turned start w x m' (λ d o. refl) v (r (m', E2))))

      -- the condition itself
      pub while_asks : (c : FlatTerm) (end : ℕ) → end ≤ hi → ((e : FlatEnv) → Gives (Quiet N types τ W ts end (with_pattern W.sizing.size_at p (1 + lo) (with_size_names (bind_ids sizes) G)) e) (All_results ts end (with_pattern W.sizing.size_at p (1 + lo) (with_size_names (bind_ids sizes) G)) e (s ts)) (means W (Evaluate e ts c))) → (w : FlatValue) → Turn_now start w
          → Gives (There W.is_there) (λ b. Unit {0}) (Then (Then (the (bound (1 + lo) p w env)) (λ e. means W (Evaluate e ts c))) (λ v. the (truth_of v)))
      while_asks c end le law w x = gives_then (λ v. Unit {0}) (λ b. Unit {0}) _ _
          (gives_then (λ e. Env_of ts hi (named_by p w (taking (L.named).what (bind_ids sizes) x.now)) (with_pattern W.sizing.size_at p (1 + lo) (with_size_names (bind_ids sizes) G)) e) (λ v. Unit {0}) _ _
          (gives_exact _ _ 0 (bound (1 + lo) p w env) (bound_there w x))
          (λ e E'. let m' : Worth = named_by p w (taking (L.named).what (bind_ids sizes) x.now) in
          let E2 = env_moves N types τ W ts hi ts end m' m' (with_pattern W.sizing.size_at p (1 + lo) (with_size_names (bind_ids sizes) G)) e (omega arith) le (λ d o. refl) E' in
          gives_quiet (All_results ts end (with_pattern W.sizing.size_at p (1 + lo) (with_size_names (bind_ids sizes) G)) e (s ts)) (λ v. Unit {0}) (means W (Evaluate e ts c)) (λ r q. q (m', E2)) (law e) (λ v r. tt)))
          (λ v u. gives_exact _ _ 0 (truth_of v) (truth_of_fine W.is_there v))

      -- where turns are counted by a name
      module _ (i : BindId) (t : IntType) (counted : s ts ≡ Built (head.Scalar (sort.Int t)) no_size) (at_home : W.sizing.home i.0 ≡ ts) (l5 : ts < te) (simple : Simple W.sizing (Bound_pattern i) ts) where
        counter_env : (j : ℕ) (m' : Worth) (e : FlatEnv) → Env_of ts hi m' inside e → Env_of at hi (named_as i.0 (word (Scalar_value (scalar.Int t j))) m') (with_name i.0 (s ts) inside) (bind i (Scalar_value (scalar.Int t j)) (entered ts (Scalar_value (scalar.Int t j)) e))
        unfolding Fits Each Each_all found
        counter_env j m' e E' =
            let v : FlatValue = Scalar_value (scalar.Int t j) in
            let m2 : Worth = named_as i.0 (word v) m' in
            let here_it : (d : Free) → Beyond ts hi d → m2 d ≡ m' d = λ d o. named_else i.0 (word v) m' d (beyond_unnamed N types τ W (i.0 ∷ []) ts te (λ c q. named_inside c (nat_eq c i.0) refl q) d (outside_narrower N types τ W ts hi ts te (omega arith) (omega (arith, l3, l4)) d o)) in
            let E2 = env_moves N types τ W ts hi at hi m' m2 inside e (omega (arith, l2, l3)) (omega arith) here_it E' in
            let fits : Of m2 (s ts) v = subst (λ y. Of m2 y v) (sym counted) refl in
            let away : Apart at hi (s ts) = subst (Apart at hi) (sym counted) tt in
            let outside : Beyond at hi (Name i.0) = (λ k. let y = k.0 in omega (arith, y, at_home, l5, l3)) in
            let worth_is = sym (named_here i.0 (word v) m') in
            env_bind N types τ W at hi m2 inside (entered ts v e) i (s ts) v
            (keeps_less N types τ W S one at hi m2 (s ts) inside (entered ts v e) (env_entered N types τ W S one at hi m2 ts inside e v E2 fits away
            (λ c z q w k. let same : c ≡ i.0 = simple c q w in (word_is v z k ∙ worth_is ∙ ap (λ b. m2 (Name b)) (sym same), subst (λ b. Beyond at hi (Name b)) (sym same) outside))))
            fits away outside worth_is
            (λ q. name_found N types τ W S one at hi m2 ts i.0 v _ fits at_home q)
          where
            named_inside : (c : ℕ) (b : Bool) → nat_eq c i.0 ≡ b → cond b true false ≡ true → (ts ≤ W.sizing.home c) × (W.sizing.home c < te)
            named_inside c true z q = let k : W.sizing.home c ≡ ts = ap W.sizing.home (eqb-true c i.0 z) ∙ at_home in (omega (arith, k), omega (arith, k, l5))
            named_inside c false z q = absurd (let y : false ≡ true = q in cc)

        pub counted_turn : ((e : FlatEnv) → Gives (Quiet N types τ W at hi (with_name i.0 (s ts) (with_pattern W.sizing.size_at p (1 + lo) (with_size_names (bind_ids sizes) G))) e) (All_results at hi (with_name i.0 (s ts) (with_pattern W.sizing.size_at p (1 + lo) (with_size_names (bind_ids sizes) G))) e (s at)) (means W (Evaluate e at body))) → (j : ℕ) (w : FlatValue) → Turn_now start w
            → Gives (There W.is_there) (Turn_now start) (Then (the (bound (1 + lo) p w env)) (λ e. means W (Evaluate (bind i (Scalar_value (scalar.Int t j)) (entered ts (Scalar_value (scalar.Int t j)) e)) at body)))
        counted_turn law j w x = gives_then (λ e. Env_of ts hi (named_by p w (taking (L.named).what (bind_ids sizes) x.now)) inside e) (Turn_now start) _ _
            (gives_exact _ _ 0 (bound (1 + lo) p w env) (bound_there w x))
            (λ e E'. let v : FlatValue = Scalar_value (scalar.Int t j) in
            let m' : Worth = named_by p w (taking (L.named).what (bind_ids sizes) x.now) in
            let m2 : Worth = named_as i.0 (word v) m' in
            let e2 : FlatEnv = bind i v (entered ts v e) in
            gives_quiet (All_results at hi (with_name i.0 (s ts) inside) e2 (s at)) (Turn_now start) (means W (Evaluate e2 at body)) (λ r q. q (m2, counter_env j m' e E')) (law e2)
            (λ u r. turned start w x m2 (λ d o. named_else i.0 (word v) m' d (beyond_unnamed N types τ W (i.0 ∷ []) ts te (λ c q. one_inside c (nat_eq c i.0) refl q) d o)) u (r (m2, counter_env j m' e E'))))
          where
            one_inside : (c : ℕ) (b : Bool) → nat_eq c i.0 ≡ b → cond b true false ≡ true → (ts ≤ W.sizing.home c) × (W.sizing.home c < te)
            one_inside c true z q = let k : W.sizing.home c ≡ ts = ap W.sizing.home (eqb-true c i.0 z) ∙ at_home in (omega (arith, k), omega (arith, k, l5))
            one_inside c false z q = absurd (let y : false ≡ true = q in cc)

      -- where the rows of an array are gone over
      module _ (q : FlatPattern) (t : Size) (data_t : Data t) (row_away : Each (Scoped (λ d. Beyond lo te d × Beyond at hi d)) 0 t) (at_home : Name_home W.sizing q ts) (simple : Simple W.sizing q ts) (l5 : ts + pattern_numbers q ≡ te) (takes : Pattern_takes N types W.sizing.size_at W.sizing.home (λ d. d) q ts t) where
        row_inside : (m' : Worth) (v : FlatValue) (d : Free) → Beyond ts te d → named_by q v m' d ≡ m' d
        row_inside m' v d o = others_keep q v m' d (beyond_unnamed N types τ W (names q) ts (ts + pattern_numbers q) (λ c e. names_inside N types τ W q ts at_home simple c e) d (outside_narrower N types τ W ts te ts (ts + pattern_numbers q) (omega arith) (omega (arith, l5)) d o))

        row_kept : (w : FlatValue) (x : Turn_now start w) (v : FlatValue) (d : Free) → Beyond lo te d → Beyond at hi d → named_by q v (named_by p w (taking (L.named).what (bind_ids sizes) x.now)) d ≡ start d
        row_kept w x v d o o' = row_inside (named_by p w (taking (L.named).what (bind_ids sizes) x.now)) v d (outside_narrower N types τ W lo te ts te (omega (arith, l0, l1)) (omega arith) d o)
            ∙ inside_beyond N types τ W S one p sizes lo mid ts hi (s lo) L.named l0 l1 (omega (arith, l2, l3, l4)) w x.now d (outside_narrower N types τ W lo te (1 + lo) mid (omega arith) (omega (arith, l1, l2)) d o) ∙ x.kept_there d o o'

        pub row_turn : ((e : FlatEnv) → Gives (Quiet N types τ W at hi (with_pattern W.sizing.size_at q ts (with_pattern W.sizing.size_at p (1 + lo) (with_size_names (bind_ids sizes) G))) e) (All_results at hi (with_pattern W.sizing.size_at q ts (with_pattern W.sizing.size_at p (1 + lo) (with_size_names (bind_ids sizes) G))) e (s at)) (means W (Evaluate e at body))) → (d : Datum) (w : FlatValue) → Has_datum N τ start no_frames t d → Turn_now start w
            → Gives (There W.is_there) (Turn_now start) (Then (the (bound (1 + lo) p w env)) (λ e. Then (the (bound ts q (as_value d) e)) (λ e. means W (Evaluate e at body))))
        row_turn law d w hd x = gives_then (λ e. Env_of ts hi (named_by p w (taking (L.named).what (bind_ids sizes) x.now)) inside e) (Turn_now start) _ _
            (gives_exact _ _ 0 (bound (1 + lo) p w env) (bound_there w x))
            (λ e E'. let v : FlatValue = as_value d in
            let m' : Worth = named_by p w (taking (L.named).what (bind_ids sizes) x.now) in
            let m2 : Worth = named_by q v m' in
            let fits : Of m2 t v = fits_same (λ d. Beyond lo te d × Beyond at hi d) start m2 N τ W.sizing W.is_there (calls W) (λ k o. sym (row_kept w x v k o.0 o.1)) t 0 no_frames no_frames row_away (λ j i l. refl) v
            (datum_fits N τ W.sizing W.is_there (calls W) start no_frames t data_t v d (datum_of_as Ref BindId (Unit {0}) d) hd) in
            let E2 = env_moves N types τ W ts hi at hi m' m2 inside e (omega (arith, l2, l3)) (omega arith) (λ k o. row_inside m' v k (outside_narrower N types τ W ts hi ts te (omega arith) (omega (arith, l3, l4)) k o)) E' in
            gives_then (λ e. Env_of at hi m2 (with_pattern W.sizing.size_at q ts inside) e) (Turn_now start) _ _
            (gives_exact _ _ 0 (bound ts q v e)
            (enters N types τ W S one at hi m2 (λ d. d) (λ d. refl) q ts t v inside e at_home simple (omega (arith, l5, l3))
            (nodes_away N types τ W at hi (λ d. d) (λ d. refl) q ts t takes (each_as (Scoped (λ d. Beyond lo te d × Beyond at hi d)) (Scoped (Beyond at hi)) row_apart t 0 row_away)) takes fits (names_worth N types τ W q ts v m' at_home simple) E2))
            (λ e2 E3. gives_quiet (All_results at hi (with_pattern W.sizing.size_at q ts inside) e2 (s at)) (Turn_now start) (means W (Evaluate e2 at body)) (λ r q. q (m2, E3)) (law e2)
            (λ u r. turned start w x m2 (λ k o. row_inside m' v k o) u (r (m2, E3)))))
          where
            row_apart : (j : ℕ) (d : Dim) → Scoped (λ d. Beyond lo te d × Beyond at hi d) j d → Scoped (Beyond at hi) j d
            row_apart j (At d) o = o.1
            row_apart j (Bound k i) o = o
