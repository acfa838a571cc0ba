-- Tuples and arrays that are made.
use Rattle.std.proofs.Common.{◌≡◌, ℕ, List, [], ◌∷◌, length, get_or, Ok, Err, Result, Bool, true, false, refl, sym, ap, ◌∙◌, subst, arith, Bor}
use Rattle.fut_ast.specs.declared.node.End.{End}
use Rattle.fut_flat.specs.declared.act.Part.{Part}
use Rattle.fut_flat.specs.declared.act.Part.TheVariants as part
use Rattle.fut_scalar.specs.declared.place.Place.{Place}
use Rattle.fut_value.specs.Data.{Shape, Tuple_datum, Unmet_shape, datums, shape_of, array_words}
use Rattle.fut_meaning.specs.Arrays as arrays
use Rattle.fut_meaning.specs.Arrays.{Counted, Make_array, Make_index, Make_range, Make_update, each_out, exact_of, last_apart, updated, array, range, all_fresh, fresh, all_shared, shared, indexed, made}
use Rattle.fut_meaning.specs.Outcomes.{Out, Val, Fail, Wrong, and_then, exact, the, Then}
use Rattle.fut_blocks.specs.declared.block.Atom.{Atom}
use Rattle.fut_blocks.specs.declared.block.Making.{Making}
use Rattle.fut_blocks.specs.declared.block.Making.TheVariants as make
use Rattle.fut_blocks.specs.Meaning.{Component, Names, value_of, values_of, counted, act_means}
use Rattle.fut_blocks.specs.declared.row.RowShape.{RowShape}
use Rattle.fut_blocks.specs.Plain.{Action, Make, making_form}
use Rattle.fut_blocks.specs.Rows.{Row, Unknown_row, row_of}
use Rattle.fut_blocks.specs.Sizes.{row_shape}
use Rattle.fut_blocks.specs.Plain as act
use Rattle.array_primitives.specs.Slices.{part_of}
use Rattle.array_primitives.specs.Updates.{updated_at, updated_of}
use Rattle.array_data.specs.declared.data.Data.{Data}
use Rattle.array_data.specs.Held.{held_all}
use Rattle.array_data.specs.declared.stop.Stop.{Stop}
use Rattle.array_data.specs.declared.stop.Stop.TheVariants.{Memory}
use Rattle.fut_eval.specs.Answers.{Answer, Tells, told, report_told, no_memory_told, lost, Stands, Runs, ran, no_memory, Pushed, pushed, not_pushed, Reads, Reads_data}
use Rattle.fut_eval.specs.Runs.{Made_runs}
use Rattle.fut_eval.specs.Shapes.{Row_told, Missing_told, looked_up, not_missing}
use Rattle.fut_eval.proofs.Holding.{held_length}
use Rattle.fut_eval.proofs.RowsMet.{Reported, row_reports}
use Rattle.fut_eval.proofs.Tells.{the_is, tells_stop, tells_then, runs_stop, runs_next, then_stop, then_next, kept_same}

pub make_memory : (a : Action) (t s s' : List Component) → Made_runs a t s s' (Err Memory)
unfolding Made_runs
make_memory a t s s' budget env n st = no_memory

module _ (m : Making) (at : Place) (us : List Atom) (t s : List Component) where
  pub tuple_unread : (e : Stop) → m ≡ make.Tuple → Reads_data t us (Err e) → Made_runs (making_form m at us) t s s (Err e)
  unfolding Made_runs Reads_data act_means making_form
  tuple_unread e q h budget env n st = subst (λ z. Runs (act_means true budget (making_form z at us) env) n t t s s (Err e)) (sym q) (runs_stop n t t s s (values_of env us) (λ vs. Val (Tuple_datum (datums vs) ∷ [])) e (h env n st))

  pub tuple_made : (ds : List Component) (d : Component) (s' : List Component) (r : Answer) → m ≡ make.Tuple → Reads_data t us (Ok ds) → d ≡ Tuple_datum (datums ds) → Pushed d s s' r → Made_runs (making_form m at us) t s s' r
  unfolding Made_runs Reads_data act_means making_form
  tuple_made ds d s' _ q h e not_pushed budget env n st = no_memory
  tuple_made ds d s' _ q h e (pushed p) budget env n st = subst (λ z. Runs (act_means true budget (making_form z at us) env) n t t s s' (Ok tt)) (sym q)
      (runs_next n t t s s' (values_of env us) (λ vs. Val (Tuple_datum (datums vs) ∷ [])) ds (Ok tt) (h env n st)
      (ran (d ∷ []) 0 p (tt, tt) (kept_same n t) (the_is (Val (Tuple_datum (datums ds) ∷ [])) (Val (d ∷ [])) (ap (λ z. Val (z ∷ [])) (sym e)))))

  pub array_act : (w : Bor RowShape) (s' : List Component) (r : Answer) → m ≡ make.Array w → Made_runs (Make (row_of w.now) Make_array at us) t s s' r → Made_runs (making_form m at us) t s s' r
  unfolding making_form
  array_act w s' r q h = subst (λ z. Made_runs (making_form z at us) t s s' r) (sym q) h

-- ---- arrays

module _ (row : Row) (at : Place) (us : List Atom) (t s : List Component) where
  -- an array, or what stops it, once its parts are read
  abbrev told_array : (env : Names Component) → List Component → Out Counted
  told_array env vs = and_then (row_shape env row) (λ h. made false h Make_array at vs)

  pub array_unread : (e : Stop) → Reads_data t us (Err e) → Made_runs (Make row Make_array at us) t s s (Err e)
  unfolding Made_runs Reads_data act_means
  array_unread e h budget env n st = then_stop n t t s s (values_of env us) (λ vs. Then (the (told_array env vs)) counted) e (h env n st)

  module _ (ds : List Component) (h : Reads_data t us (Ok ds)) where
    pub array_untold : (many : ℕ) (e : Stop) → Missing_told t row many (Err e) → Made_runs (Make row Make_array at us) t s s (Err e)
    unfolding Made_runs Reads_data Row_told act_means
    array_untold many e (looked_up k) budget env n st =
        then_next n t t s s (values_of env us) (λ vs. Then (the (told_array env vs)) counted) ds (Err e) (h env n st)
        (then_stop n t t s s (told_array env ds) counted e (tells_stop (row_shape env row) (λ h. made false h Make_array at ds) e (k env n st)))

    module _ (many : ℕ) (g : Shape) (l : many ≡ length ds) (k : Missing_told t row many (Ok g)) where
      -- where there are parts, nothing is told
      same_made : (g h : Shape) (ds : List Component) → (length ds ≡ 0 → ⊥) → made false g Make_array at ds ≡ made false h Make_array at ds
      unfolding made array
      same_made g h [] l = absurd (l refl)
      same_made g h (d ∷ ds) l = refl

      told_of : (env : Names Component) (n : ℕ) (r : Result Counted Stop) → Stands env n t → Tells (made false g Make_array at ds) r → Tells (told_array env ds) r
      unfolding Row_told
      told_of env n r st x = by_missing k
        where
          by_row : (o : Out Shape) → (Reported o → ⊥) → (length ds ≡ 0 → ⊥) → Tells (and_then o (λ h. made false h Make_array at ds)) r
          by_row (Val h) y i = subst (λ z. Tells z r) (same_made g h ds i) x
          by_row (Fail q) y i = absurd (y tt)
          by_row Wrong y i = lost refl

          by_missing : Missing_told t row many (Ok g) → Tells (told_array env ds) r
          by_missing (looked_up y) = tells_then (row_shape env row) (λ h. made false h Make_array at ds) g r (y env n st) x
          by_missing (not_missing y) = by_row (row_shape env row) (row_reports env row) (λ e. y (l ∙ e))

      made_stop : (e : Stop) → Tells (array false at g ds) (Err e) → Tells (made false g Make_array at ds) (Err e)
      unfolding made
      made_stop _ (report_told x) = report_told (ap all_fresh x)
      made_stop _ no_memory_told = no_memory_told
      made_stop _ (lost x) = lost (ap all_fresh x)

      unmade : (e : Stop) → Tells (array false at g ds) (Err e) → Made_runs (Make row Make_array at us) t s s (Err e)
      unfolding Made_runs Reads_data act_means
      unmade e x budget env n st =
          then_next n t t s s (values_of env us) (λ vs. Then (the (told_array env vs)) counted) ds (Err e) (h env n st)
          (then_stop n t t s s (told_array env ds) counted e (told_of env n (Err e) st (made_stop e x)))

      made_counted : (d : Component) → Tells (array false at g ds) (Ok d) → Tells (made false g Make_array at ds) (Ok (array_words (shape_of d), d))
      unfolding made
      made_counted d (told x) = told (ap all_fresh x)
      made_counted d (lost x) = lost (ap all_fresh x)

      made_and_pushed : (d : Component) (s' : List Component) (r : Answer) → Tells (array false at g ds) (Ok d) → Pushed d s s' r → Made_runs (Make row Make_array at us) t s s' r
      unfolding Made_runs Reads_data act_means
      made_and_pushed d s' _ x not_pushed budget env n st = no_memory
      made_and_pushed d s' _ x (pushed p) budget env n st =
          then_next n t t s s' (values_of env us) (λ vs. Then (the (told_array env vs)) counted) ds (Ok tt) (h env n st)
          (then_next n t t s s' (told_array env ds) counted (array_words (shape_of d), d) (Ok tt) (told_of env n (Ok (array_words (shape_of d), d)) st (made_counted d x))
          (ran (d ∷ []) (array_words (shape_of d)) p (tt, tt) (kept_same n t) exact))

  module _ (vs : List Data) (h : Reads_data t us (Ok (held_all vs))) (many : ℕ) (g : Shape) (l : many ≡ length vs) (k : Missing_told t row many (Ok g)) where
    pub array_unmade : (e : Stop) → Tells (array false at g (held_all vs)) (Err e) → Made_runs (Make row Make_array at us) t s s (Err e)
    array_unmade e x = unmade (held_all vs) h many g (l ∙ sym (held_length vs)) k e x

    pub array_made : (d : Component) (s' : List Component) (r : Answer) → Tells (array false at g (held_all vs)) (Ok d) → Pushed d s s' r → Made_runs (Make row Make_array at us) t s s' r
    array_made d s' r x p = made_and_pushed (held_all vs) h many g (l ∙ sym (held_length vs)) k d s' r x p

pub ruleset array_makings = (make_memory, array_unread, array_untold, array_unmade, array_made)

-- ---- what is made of all values

module _ (m : Making) (k : arrays.Making) (at : Place) (us : List Atom) (t s : List Component) (q : making_form m at us ≡ act.Make Unknown_row k at us) where
  all_unread : (x : Stop) → Reads_data t us (Err x) → Made_runs (making_form m at us) t s s (Err x)
  unfolding Made_runs Reads_data act_means
  all_unread x h budget env n st = subst (λ z. Runs (act_means true budget z env) n t t s s (Err x)) (sym q) (then_stop n t t s s (values_of env us) (λ vs. Then (the (made false Unmet_shape k at vs)) counted) x (h env n st))

  module _ (ds : List Component) (h : Reads_data t us (Ok ds)) where
    all_unmade : (x : Stop) → Tells (made false Unmet_shape k at ds) (Err x) → Made_runs (making_form m at us) t s s (Err x)
    unfolding Made_runs Reads_data act_means
    all_unmade x g budget env n st = subst (λ z. Runs (act_means true budget z env) n t t s s (Err x)) (sym q)
        (then_next n t t s s (values_of env us) (λ vs. Then (the (made false Unmet_shape k at vs)) counted) ds (Err x) (h env n st) (then_stop n t t s s (made false Unmet_shape k at ds) counted x g))

    all_made : (c : Counted) (s' : List Component) (r : Answer) → Tells (made false Unmet_shape k at ds) (Ok c) → Pushed c.1 s s' r → Made_runs (making_form m at us) t s s' r
    unfolding Made_runs Reads_data act_means
    all_made c s' _ g not_pushed budget env n st = no_memory
    all_made c s' _ g (pushed p) budget env n st = subst (λ z. Runs (act_means true budget z env) n t t s s' (Ok tt)) (sym q)
        (then_next n t t s s' (values_of env us) (λ vs. Then (the (made false Unmet_shape k at vs)) counted) ds (Ok tt) (h env n st)
        (then_next n t t s s' (made false Unmet_shape k at ds) counted c (Ok tt) g (ran (c.1 ∷ []) c.0 p (tt, tt) (kept_same n t) exact)))

range_act : (m : Making) (stepped : Bool) (e : End) (at : Place) (us : List Atom) → m ≡ make.Range stepped e → making_form m at us ≡ act.Make Unknown_row (Make_range stepped e) at us
unfolding making_form
range_act m stepped e at us q = ap (λ z. making_form z at us) q

range_so : (stepped : Bool) (e : End) (at : Place) (ds : List Component) → made false Unmet_shape (Make_range stepped e) at ds ≡ all_fresh (range at stepped e ds)
unfolding made
range_so stepped e at [] = refl
range_so stepped e at (d ∷ ds) = refl

module _ (m : Making) (stepped : Bool) (e : End) (at : Place) (us : List Atom) (t s : List Component) (q : m ≡ make.Range stepped e) where
  pub range_unread : (x : Stop) → Reads_data t us (Err x) → Made_runs (making_form m at us) t s s (Err x)
  range_unread x h = all_unread m (Make_range stepped e) at us t s (range_act m stepped e at us q) x h

  module _ (ds : List Component) (h : Reads_data t us (Ok ds)) where
    pub range_unmade : (x : Stop) → Tells (range at stepped e ds) (Err x) → Made_runs (making_form m at us) t s s (Err x)
    range_unmade x g = all_unmade m (Make_range stepped e) at us t s (range_act m stepped e at us q) ds h x (subst (λ o. Tells o (Err x)) (sym (range_so stepped e at ds)) (tells_stop (range at stepped e ds) fresh x g))

    pub range_made : (d : Component) (s' : List Component) (r : Answer) → Tells (range at stepped e ds) (Ok d) → Pushed d s s' r → Made_runs (making_form m at us) t s s' r
    range_made d s' r g p = all_made m (Make_range stepped e) at us t s (range_act m stepped e at us q) ds h (array_words (shape_of d), d) s' r
        (subst (λ o. Tells o (Ok (array_words (shape_of d), d))) (sym (range_so stepped e at ds)) (tells_then (range at stepped e ds) fresh d (Ok (array_words (shape_of d), d)) g (told refl))) p

-- ---- slices

parts_act : (m : Making) (ps : Bor (List Part)) (at : Place) (us : List Atom) → m ≡ make.Index ps → making_form m at us ≡ act.Make Unknown_row (Make_index ps.now) at us
unfolding making_form
parts_act m ps at us q = ap (λ z. making_form z at us) q

parts_so : (ps : List Part) (at : Place) (ds : List Component) → made false Unmet_shape (Make_index ps) at ds ≡ all_shared (part_of at ps ds)
unfolding made
parts_so ps at [] = refl
parts_so ps at (d ∷ ds) = refl

module _ (m : Making) (ps : Bor (List Part)) (at : Place) (us : List Atom) (t s : List Component) (q : m ≡ make.Index ps) where
  pub parts_unread : (x : Stop) → Reads_data t us (Err x) → Made_runs (making_form m at us) t s s (Err x)
  parts_unread x h = all_unread m (Make_index ps.now) at us t s (parts_act m ps at us q) x h

  module _ (ds : List Component) (h : Reads_data t us (Ok ds)) where
    pub parts_unmade : (x : Stop) → Tells (part_of at ps.now ds) (Err x) → Made_runs (making_form m at us) t s s (Err x)
    parts_unmade x g = all_unmade m (Make_index ps.now) at us t s (parts_act m ps at us q) ds h x (subst (λ o. Tells o (Err x)) (sym (parts_so ps.now at ds)) (tells_stop (part_of at ps.now ds) shared x g))

    pub parts_made : (d : Component) (s' : List Component) (r : Answer) → Tells (part_of at ps.now ds) (Ok d) → Pushed d s s' r → Made_runs (making_form m at us) t s s' r
    parts_made d s' r g p = all_made m (Make_index ps.now) at us t s (parts_act m ps at us q) ds h (0, d) s' r
        (subst (λ o. Tells o (Ok (0, d))) (sym (parts_so ps.now at ds)) (tells_then (part_of at ps.now ds) shared d (Ok (0, d)) g (told refl))) p

-- ---- updates

update_act : (m : Making) (at : Place) (us : List Atom) → m ≡ make.Update → making_form m at us ≡ act.Make Unknown_row Make_update at us
unfolding making_form
update_act m at us q = ap (λ z. making_form z at us) q

then_assoc : {A B C : Type 0} (o : Out A) (k : A → Out B) (g : B → Out C) → and_then (and_then o k) g ≡ and_then o (λ a. and_then (k a) g)
then_assoc (Val a) k g = refl
then_assoc (Fail r) k g = refl
then_assoc Wrong k g = refl

update_so : (at : Place) (ds : List Component) → made false Unmet_shape Make_update at ds ≡ all_shared (updated_of at ds)
unfolding made updated_at
update_so at [] = refl
update_so at (d ∷ ds) = sym (then_assoc (last_apart ds) (λ r. and_then (each_out exact_of r.0) (λ zs. updated false at zs r.1 d)) shared ∙ same_then (last_apart ds))
  where
    same_then : (o : Out (List Component × Component)) → and_then o (λ r. and_then (and_then (each_out exact_of r.0) (λ zs. updated false at zs r.1 d)) shared) ≡ and_then o (λ r. and_then (each_out exact_of r.0) (λ zs. all_shared (updated false at zs r.1 d)))
    same_then (Val r) = then_assoc (each_out exact_of r.0) (λ zs. updated false at zs r.1 d) shared
    same_then (Fail r) = refl
    same_then Wrong = refl

module _ (m : Making) (at : Place) (us : List Atom) (t s : List Component) (q : m ≡ make.Update) where
  pub update_unread : (x : Stop) → Reads_data t us (Err x) → Made_runs (making_form m at us) t s s (Err x)
  update_unread x h = all_unread m Make_update at us t s (update_act m at us q) x h

  module _ (ds : List Component) (h : Reads_data t us (Ok ds)) where
    pub update_unmade : (x : Stop) → Tells (updated_of at ds) (Err x) → Made_runs (making_form m at us) t s s (Err x)
    update_unmade x g = all_unmade m Make_update at us t s (update_act m at us q) ds h x (subst (λ o. Tells o (Err x)) (sym (update_so at ds)) (tells_stop (updated_of at ds) shared x g))

    pub update_made : (d : Component) (s' : List Component) (r : Answer) → Tells (updated_of at ds) (Ok d) → Pushed d s s' r → Made_runs (making_form m at us) t s s' r
    update_made d s' r g p = all_made m Make_update at us t s (update_act m at us q) ds h (0, d) s' r
        (subst (λ o. Tells o (Ok (0, d))) (sym (update_so at ds)) (tells_then (updated_of at ds) shared d (Ok (0, d)) g (told refl))) p

-- ---- one index

pub one_at : (ps : List Part) (d : Part) → length ps ≡ 1 → get_or ps 0 d ≡ part.At → ps ≡ part.At ∷ []
one_at [] d l e = absurd (omega arith)
one_at (p ∷ []) d l e = ap (λ z. z ∷ []) e
one_at (p ∷ q ∷ ps) d l e = absurd (omega arith)

pub not_one : (ps : List Part) (b : Bool) → b ≡ false → b ≡ true → ps ≡ part.At ∷ []
not_one ps b p q = cc

pub ruleset one_index = (one_at, not_one)

two_atoms : (us : List Atom) (u v : Atom) → length us ≡ 2 → us ≡ get_or us 0 u ∷ get_or us 1 v ∷ []
two_atoms [] u v l = absurd (omega arith)
two_atoms (a ∷ []) u v l = absurd (omega arith)
two_atoms (a ∷ b ∷ []) u v l = refl
two_atoms (a ∷ b ∷ c ∷ us) u v l = absurd (omega arith)

module _ (m : Making) (ps : Bor (List Part)) (at : Place) (us : List Atom) (u v : Atom) (q : m ≡ make.Index ps) (one : ps.now ≡ part.At ∷ []) (two : length us ≡ 2) (t s : List Component) where
  index_act : making_form m at us ≡ act.Make Unknown_row (Make_index (part.At ∷ [])) at (get_or us 0 u ∷ get_or us 1 v ∷ [])
  unfolding making_form
  index_act = ap (λ z. making_form z at us) q ∙ ap (λ z. act.Make Unknown_row (Make_index z) at us) one ∙ ap (act.Make Unknown_row (Make_index (part.At ∷ [])) at) (two_atoms us u v two)

  index_values : (env : Names Component) → values_of env (get_or us 0 u ∷ get_or us 1 v ∷ []) ≡ and_then (value_of env (get_or us 0 u)) (λ d. and_then (and_then (value_of env (get_or us 1 v)) (λ i. Val (i ∷ []))) (λ is. Val (d ∷ is)))
  index_values env = refl

  pub index_unread : (e : Stop) → Reads t (get_or us 0 u) (Err e) → Made_runs (making_form m at us) t s s (Err e)
  unfolding Made_runs Reads act_means
  index_unread e h budget env n st = subst (λ z. Runs (act_means true budget z env) n t t s s (Err e)) (sym index_act)
      (then_stop n t t s s (values_of env (get_or us 0 u ∷ get_or us 1 v ∷ [])) (λ vs. Then (the (made false Unmet_shape (Make_index (part.At ∷ [])) at vs)) counted) e (tells_stop (value_of env (get_or us 0 u)) _ e (h env n st)))

  module _ (d : Component) (h : Reads t (get_or us 0 u) (Ok d)) where
    pub index_no_index : (e : Stop) → Reads t (get_or us 1 v) (Err e) → Made_runs (making_form m at us) t s s (Err e)
    unfolding Made_runs Reads act_means
    index_no_index e k budget env n st = subst (λ z. Runs (act_means true budget z env) n t t s s (Err e)) (sym index_act)
        (then_stop n t t s s (values_of env (get_or us 0 u ∷ get_or us 1 v ∷ [])) (λ vs. Then (the (made false Unmet_shape (Make_index (part.At ∷ [])) at vs)) counted) e
        (tells_then (value_of env (get_or us 0 u)) _ d (Err e) (h env n st) (tells_stop (and_then (value_of env (get_or us 1 v)) (λ i. Val (i ∷ []))) _ e (tells_stop (value_of env (get_or us 1 v)) _ e (k env n st)))))

    module _ (i : Component) (k : Reads t (get_or us 1 v) (Ok i)) where
      both_read : (env : Names Component) (n : ℕ) → Stands env n t → Tells (values_of env (get_or us 0 u ∷ get_or us 1 v ∷ [])) (Ok (d ∷ i ∷ []))
      unfolding Reads
      both_read env n st = tells_then (value_of env (get_or us 0 u)) _ d (Ok (d ∷ i ∷ [])) (h env n st)
          (tells_then (and_then (value_of env (get_or us 1 v)) (λ i. Val (i ∷ []))) (λ is. Val (d ∷ is)) (i ∷ []) (Ok (d ∷ i ∷ [])) (tells_then (value_of env (get_or us 1 v)) (λ i. Val (i ∷ [])) i (Ok (i ∷ [])) (k env n st) (told refl)) (told refl))

      pub index_fails : (e : Stop) → Tells (indexed at (part.At ∷ []) d (i ∷ [])) (Err e) → Made_runs (making_form m at us) t s s (Err e)
      unfolding Made_runs act_means made
      index_fails e g budget env n st = subst (λ z. Runs (act_means true budget z env) n t t s s (Err e)) (sym index_act)
          (then_next n t t s s (values_of env (get_or us 0 u ∷ get_or us 1 v ∷ [])) (λ vs. Then (the (made false Unmet_shape (Make_index (part.At ∷ [])) at vs)) counted) (d ∷ i ∷ []) (Err e) (both_read env n st)
          (then_stop n t t s s (all_shared (indexed at (part.At ∷ []) d (i ∷ []))) counted e (tells_stop (indexed at (part.At ∷ []) d (i ∷ [])) shared e g)))

      pub index_found : (w : Component) (s' : List Component) (r : Answer) → Tells (indexed at (part.At ∷ []) d (i ∷ [])) (Ok w) → Pushed w s s' r → Made_runs (making_form m at us) t s s' r
      unfolding Made_runs act_means made
      index_found w s' _ g not_pushed budget env n st = no_memory
      index_found w s' _ g (pushed p) budget env n st = subst (λ z. Runs (act_means true budget z env) n t t s s' (Ok tt)) (sym index_act)
          (then_next n t t s s' (values_of env (get_or us 0 u ∷ get_or us 1 v ∷ [])) (λ vs. Then (the (made false Unmet_shape (Make_index (part.At ∷ [])) at vs)) counted) (d ∷ i ∷ []) (Ok tt) (both_read env n st)
          (then_next n t t s s' (all_shared (indexed at (part.At ∷ []) d (i ∷ []))) counted (0, w) (Ok tt) (tells_then (indexed at (part.At ∷ []) d (i ∷ [])) shared w (Ok (0, w)) g (told refl))
          (ran (w ∷ []) 0 p (tt, tt) (kept_same n t) exact)))

-- the second atom stands nowhere in this
pub index_first_unread : (m : Making) (ps : Bor (List Part)) (at : Place) (us : List Atom) (u : Atom) → m ≡ make.Index ps → ps.now ≡ part.At ∷ [] → length us ≡ 2 → (t s : List Component) (e : Stop) → Reads t (get_or us 0 u) (Err e) → Made_runs (making_form m at us) t s s (Err e)
index_first_unread m ps at us u q one two t s e h = index_unread m ps at us u u q one two t s e h

pub ruleset makings = (index_first_unread, index_no_index, index_fails, index_found, make_memory, tuple_unread, tuple_made, array_act, range_unread, range_unmade, range_made, parts_unread, parts_unmade, parts_made, update_unread, update_unmade, update_made)
