-- Names of patterns: the steps that take a tuple apart give what the pattern binds, or are wrong where it binds nothing.
use Rattle.std.proofs.Common.{◌≡◌, ℕ, suc, ◌+◌, ◌≤◌, ◌++◌, List, [], ◌∷◌, length, map, Bool, true, false, cond, nat_eq, Option, Some, None, refl, sym, ap, ◌∙◌, subst, arith}
use Rattle.std.proofs.lemmas.Bool.{eqb-true, eqb-false}
use Rattle.std.proofs.lemmas.List.{length-map}
use Rattle.fut_scalar.specs.declared.place.BindId.{BindId}
use Rattle.fut_scalar.specs.declared.report.Report.{Report}
use Rattle.fut_ast.specs.Sorts.{Text}
use Rattle.fut_flat.specs.declared.prim.Ref.{Ref}
use Rattle.fut_flat.specs.Erased.{FlatPattern}
use Rattle.fut_flat.specs.Numbers.{pattern_numbers}
use Rattle.fut_flat.specs.Terms.{Bound_pattern, Wild_pattern, Tuple_pattern, Record_pattern, Typed_pattern, Patterns, no_pattern, pattern_and}
use Rattle.fut_meaning.specs.Found.{Sizing}
use Rattle.fut_meaning.specs.Accessors as accessors
use Rattle.fut_meaning.specs.Accessors.{or_wrong, bound, all_bound, tuple_parts, fields_of}
use Rattle.fut_value.specs.Data.{Datum, Scalar_datum, Tuple_datum, Record_datum, Array_datum, Datums, no_datum, datum_and, listed, Named_datums}
use Rattle.fut_meaning.specs.Datums.{as_value, as_values, all_values}
use Rattle.fut_meaning.specs.Flats.{FlatValue, FlatEnv}
use Rattle.fut_meaning.specs.Outcomes.{Out, Val, Fail, Wrong, and_then, the}
use Rattle.fut_meaning.specs.Sames.{All_same, all_none, all_more, Same_out, same_value, same_report, same_wrong, Sim}
use Rattle.fut_meaning.specs.Values as values
use Rattle.fut_meaning.specs.Values.{Tuple_value, Record_value, entered}
use Rattle.fut_meaning.proofs.Sims.{the_sim}
use Rattle.fut_blocks.specs.declared.block.Atom.{Atom}
use Rattle.fut_blocks.specs.declared.block.Atom.TheVariants as atom
use Rattle.fut_blocks.specs.declared.block.Operation.TheVariants as operation
use Rattle.fut_blocks.specs.Meaning.{Component, Names, operated, parts_of, act_means}
use Rattle.fut_blocks.specs.Meaning as blocks
use Rattle.fut_blocks.specs.Numbered.{Upward}
use Rattle.fut_blocks.specs.Records.{datum_fields, datum_parts, reads}
use Rattle.fut_blocks.specs.Plain.{Operate}
use Rattle.fut_blocks.specs.Plain as act
use Rattle.unfold.specs.Knowns.{Known, Scope}
use Rattle.unfold.specs.Unfolding.{Bindings, step, named, Binds, b_bound, b_wild, b_tuple, b_parts, b_record, b_fields, b_typed, All_bind, b_none, b_more}
use Rattle.unfold.proofs.Alike.{alike_given, alike_joined, alike_back, sim_left, sim_right}
use Rattle.unfold.proofs.Arguments.{all_new, none_bound}
use Rattle.unfold.proofs.Components.{binds_names, values_are, upward_grows}
use Rattle.unfold.proofs.Records.{and_then_twice, record_parts_as, parts_number}
use Rattle.unfold.proofs.Patterns.{listed_stand, record_parts_stand}
use Rattle.unfold.proofs.Runs.{Gives, run, none_sim, seq_sim}
use Rattle.unfold.proofs.Stands.{FlatFields, Has, Stands, s_scalar, s_tuple, s_record, Holds, h_bind, h_entered, stands_on, holds_on, list_on}

mutual
  pub binds_grow : {sizes : Option Sizing} {q : ℕ} {p : FlatPattern} {s : Known} {sc inner : Scope} {n m : ℕ} {bs : Bindings} → Binds sizes q p s sc n bs inner m → n ≤ m
  binds_grow b_bound = omega arith
  binds_grow b_wild = omega arith
  binds_grow (b_tuple r) = all_bind_grow r
  binds_grow (b_parts {n = n} {k = k} xs up r) = omega (arith, upward_grows n xs k up, all_bind_grow r)
  binds_grow (b_record q r) = all_bind_grow r
  binds_grow (b_typed r) = binds_grow r
  binds_grow (b_fields {n = n} {k = k} xs up e r) = omega (arith, upward_grows n xs k up, all_bind_grow r)

  all_bind_grow : {sizes : Option Sizing} {q : ℕ} {ps : Patterns Ref BindId} {ss : List Known} {sc inner : Scope} {n m : ℕ} {bs : Bindings} → All_bind sizes q ps ss sc n bs inner m → n ≤ m
  all_bind_grow b_none = omega arith
  all_bind_grow (b_more r rs) = omega (arith, binds_grow r, all_bind_grow rs)

-- ---- a pattern binds, or it is wrong

abbrev Never_fails : {A : Type 0} → Out A → Type 0
Never_fails o = (r : Report) → o ≡ Fail r → ⊥

value_never : {A : Type 0} (a : A) → Never_fails (Val a)
value_never a r q = absurd (cc)

wrong_never : {A : Type 0} → Never_fails {A = A} Wrong
wrong_never r q = absurd (cc)

then_never : {A B : Type 0} (o : Out A) (k : A → Out B) → Never_fails o → ((a : A) → Never_fails (k a)) → Never_fails (and_then o k)
then_never (Val a) k h l = l a
then_never (Fail r) k h l = absurd (h r refl)
then_never Wrong k h l = wrong_never

tuple_never : (v : FlatValue) → Never_fails (tuple_parts v)
tuple_never (Tuple_value vs) r q = absurd (cc)
tuple_never v r q = absurd (cc)

fields_never : (v : FlatValue) → Never_fails (fields_of v)
fields_never (Record_value fs) r q = absurd (cc)
fields_never v r q = absurd (cc)

found_never : (o : Option FlatValue) → Never_fails (or_wrong o)
found_never None r q = absurd (cc)
found_never (Some v) r q = absurd (cc)

record_never : (names : List Text) (fs : FlatFields) → Never_fails (accessors.record_parts names fs)
record_never [] fs = value_never []
record_never (f ∷ names) fs = then_never (or_wrong (values.field f fs)) _ (found_never (values.field f fs)) (λ v. then_never (accessors.record_parts names fs) _ (record_never names fs) (λ vs. value_never (v ∷ vs)))

mutual
  unfolding bound all_bound

  bound_never : (q : ℕ) (p : FlatPattern) (v : FlatValue) (env : FlatEnv) → Never_fails (bound q p v env)
  bound_never q (Bound_pattern b) v env = value_never _
  bound_never q Wild_pattern v env = value_never _
  bound_never q (Tuple_pattern ps) v env = then_never (tuple_parts v) _ (tuple_never v) (λ vs. all_bound_never (1 + q) ps vs (entered q v env))
  bound_never q (Record_pattern names ps) v env = then_never (fields_of v) _ (fields_never v) (λ fs. then_never (accessors.record_parts names fs) _ (record_never names fs) (λ vs. all_bound_never (1 + q) ps vs (entered q v env)))
  bound_never q (Typed_pattern p t) v env = bound_never q p v env

  all_bound_never : (q : ℕ) (ps : Patterns Ref BindId) (vs : List FlatValue) (env : FlatEnv) → Never_fails (all_bound q ps vs env)
  all_bound_never q no_pattern [] env = value_never env
  all_bound_never q no_pattern (v ∷ vs) env = wrong_never
  all_bound_never q (pattern_and p ps) [] env = wrong_never
  all_bound_never q (pattern_and p ps) (v ∷ vs) env = then_never (bound q p v env) _ (bound_never q p v env) (λ e. all_bound_never (q + pattern_numbers p) ps vs e)

abbrev count : Patterns Ref BindId → ℕ
count no_pattern = 0
count (pattern_and p ps) = suc (count ps)

then_wrong : {A B : Type 0} (o : Out A) (k : A → Out B) → Never_fails o → ((a : A) → k a ≡ Wrong) → and_then o k ≡ Wrong
then_wrong (Val a) k h l = l a
then_wrong (Fail r) k h l = absurd (h r refl)
then_wrong Wrong k h l = refl

other_count : (q : ℕ) (ps : Patterns Ref BindId) (vs : List FlatValue) (env : FlatEnv) → (count ps ≡ length vs → ⊥) → all_bound q ps vs env ≡ Wrong
unfolding all_bound
other_count q no_pattern [] env h = absurd (h refl)
other_count q no_pattern (v ∷ vs) env h = refl
other_count q (pattern_and p ps) [] env h = refl
other_count q (pattern_and p ps) (v ∷ vs) env h = then_wrong (bound q p v env) _ (bound_never q p v env) (λ e. other_count (q + pattern_numbers p) ps vs e (λ z. h (ap suc z)))

-- the parts of a tuple that has so many
abbrev parts_at : ℕ → FlatValue → Out (List FlatValue)
parts_at k v = and_then (tuple_parts v) (λ vs. cond (nat_eq k (length vs)) (Val vs) Wrong)

bound_parts : (q : ℕ) (ps : Patterns Ref BindId) (v : FlatValue) (env : FlatEnv) → bound q (Tuple_pattern ps) v env ≡ and_then (parts_at (count ps) v) (λ vs. all_bound (1 + q) ps vs (entered q v env))
unfolding bound
bound_parts q ps v env = by_parts (tuple_parts v)
  where
    inside : List FlatValue → Out FlatEnv
    inside vs = all_bound (1 + q) ps vs (entered q v env)

    by_count : (vs : List FlatValue) (b : Bool) → nat_eq (count ps) (length vs) ≡ b → inside vs ≡ and_then (cond b (Val vs) Wrong) inside
    by_count vs true e = refl
    by_count vs false e = other_count (1 + q) ps vs (entered q v env) (eqb-false (count ps) (length vs) e)

    by_parts : (o : Out (List FlatValue)) → and_then o inside ≡ and_then (and_then o (λ vs. cond (nat_eq (count ps) (length vs)) (Val vs) Wrong)) inside
    by_parts (Val vs) = by_count vs (nat_eq (count ps) (length vs)) refl
    by_parts (Fail r) = refl
    by_parts Wrong = refl

all_bind_count : {sizes : Option Sizing} {q : ℕ} {ps : Patterns Ref BindId} {ss : List Known} {sc inner : Scope} {n m : ℕ} {bs : Bindings} → All_bind sizes q ps ss sc n bs inner m → count ps ≡ length ss
all_bind_count b_none = refl
all_bind_count (b_more r rs) = ap suc (all_bind_count rs)

-- ---- the step that takes a tuple apart

abbrev flat_parts : Datums → List FlatValue
flat_parts ds = values.listed (as_values ds)

parts_values : (ds : Datums) → flat_parts ds ≡ all_values (listed ds)
parts_values no_datum = refl
parts_values (datum_and d ds) = ap (λ z. as_value d ∷ z) (parts_values ds)

parts_length : (ds : Datums) → length (flat_parts ds) ≡ length (listed ds)
parts_length no_datum = refl
parts_length (datum_and d ds) = ap suc (parts_length ds)

abbrev pub All_new : Option Sizing → List ℕ → ℕ → Names Component → List FlatValue → Type 0
All_new sizes xs k e vs = All_same (Stands sizes e k) (map named xs) vs

abbrev pub Scope_held : Option Sizing → Scope → ℕ → Names Component → FlatEnv → Type 0
Scope_held sizes inner m e env = Holds sizes e m inner env

module _ {d : Names Component} {n k : ℕ} (xs : List ℕ) (up : Upward n xs k) where
  so_many : {sizes : Option Sizing} (ds : Datums) (b : Bool) → nat_eq (length xs) (length (flat_parts ds)) ≡ b → Same_out (Gives d n (All_new sizes xs k)) (or_wrong (blocks.bound xs (listed ds) d)) (cond b (Val (flat_parts ds)) Wrong)
  so_many {sizes = sizes} ds true q =
      let r = binds_names n xs k (listed ds) d up (length-map xs atom.Name ∙ eqb-true (length xs) (length (flat_parts ds)) q ∙ parts_length ds) in
      subst (λ z. Same_out (Gives d n (All_new sizes xs k)) (or_wrong z) (Val (flat_parts ds))) (sym r.is)
      (same_value (record { extends = r.extends; says = subst (λ z. All_new sizes xs k r.env z) (sym (parts_values ds)) (all_new xs (listed ds) r.have) }))
  so_many {sizes = sizes} ds false q =
      subst (λ z. Same_out (Gives d n (All_new sizes xs k)) (or_wrong z) Wrong) (sym (none_bound xs (listed ds) d (λ e. eqb-false (length xs) (length (flat_parts ds)) q (e ∙ sym (parts_length ds))))) same_wrong

  parts_same : {sizes : Option Sizing} (c : Component) → Same_out (Gives d n (All_new sizes xs k)) (and_then (parts_of c) (λ vs. or_wrong (blocks.bound xs vs d))) (parts_at (length xs) (as_value c))
  parts_same (Tuple_datum ds) = so_many ds (nat_eq (length xs) (length (flat_parts ds))) refl
  parts_same (Scalar_datum s) = same_wrong
  parts_same (Record_datum fs) = same_wrong
  parts_same (Array_datum row ds) = same_wrong

  parts_sim : {sizes : Option Sizing} (tight : Bool) (budget : ℕ) (dir : Bool) {u : Atom} {c : Component} → Has d n u c → Sim (Gives d n (All_new sizes xs k)) (run tight budget (step xs (Operate (operation.Parts u))) d) (the (parts_at (length xs) (as_value c))) dir
  unfolding run act_means operated
  parts_sim {sizes = sizes} tight budget dir {u} {c} h =
      sim_left dir (alike_back (alike_given _))
      (sim_left dir (alike_back (alike_joined (operated d (operation.Parts u)) (λ vs. or_wrong (blocks.bound xs vs d))))
      (the_sim dir (subst (λ z. Same_out (Gives d n (All_new sizes xs k)) (and_then (and_then z parts_of) (λ vs. or_wrong (blocks.bound xs vs d))) (parts_at (length xs) (as_value c))) (sym h.value) (parts_same c))))

  -- fields of a record
  named_so : {sizes : Option Sizing} (names : List Text) (gs : Named_datums) → length xs ≡ length names → (o : Out (List Datum)) → datum_parts names gs ≡ o → Same_out (Gives d n (All_new sizes xs k)) (and_then o (λ vs. or_wrong (blocks.bound xs vs d))) (and_then o (λ ds. Val (all_values ds)))
  named_so {sizes = sizes} names gs e (Val ds) q =
      let r = binds_names n xs k ds d up (length-map xs atom.Name ∙ e ∙ sym (parts_number names gs ds q)) in
      subst (λ z. Same_out (Gives d n (All_new sizes xs k)) (or_wrong z) (Val (all_values ds))) (sym r.is) (same_value (record { extends = r.extends; says = all_new xs ds r.have }))
  named_so names gs e (Fail r) q = same_report
  named_so names gs e Wrong q = same_wrong

  fields_same : {sizes : Option Sizing} (names : List Text) (c : Component) → length xs ≡ length names → Same_out (Gives d n (All_new sizes xs k)) (and_then (and_then (datum_fields c) (datum_parts names)) (λ vs. or_wrong (blocks.bound xs vs d))) (and_then (fields_of (as_value c)) (accessors.record_parts names))
  fields_same {sizes = sizes} names (Record_datum gs) e = subst (λ z. Same_out (Gives d n (All_new sizes xs k)) (and_then (datum_parts names gs) (λ vs. or_wrong (blocks.bound xs vs d))) z) (sym (record_parts_as names gs)) (named_so names gs e (datum_parts names gs) refl)
  fields_same names (Tuple_datum ds) e = same_wrong
  fields_same names (Scalar_datum s) e = same_wrong
  fields_same names (Array_datum row ds) e = same_wrong

  fields_sim : {sizes : Option Sizing} (tight : Bool) (budget : ℕ) (dir : Bool) {u : Atom} {c : Component} (names : List Text) → length xs ≡ length names → Has d n u c → Sim (Gives d n (All_new sizes xs k)) (run tight budget (step xs (act.Read (act.Fields_at names) (u ∷ []))) d) (the (and_then (fields_of (as_value c)) (accessors.record_parts names))) dir
  unfolding run act_means reads
  fields_sim {sizes = sizes} tight budget dir {u} {c} names e h =
      sim_left dir (alike_back (alike_given _))
      (sim_left dir (alike_back (alike_joined (and_then (blocks.values_of d (u ∷ [])) (reads (act.Fields_at names))) (λ vs. or_wrong (blocks.bound xs vs d))))
      (the_sim dir (subst (λ z. Same_out (Gives d n (All_new sizes xs k)) (and_then (and_then z (reads (act.Fields_at names))) (λ vs. or_wrong (blocks.bound xs vs d))) (and_then (fields_of (as_value c)) (accessors.record_parts names))) (sym (values_are (all_more h all_none))) (fields_same names c e))))

module _ (tight : Bool) (budget : ℕ) (dir : Bool) where
  mutual
    unfolding bound all_bound

    pub binds_sim : {sizes : Option Sizing} (q : ℕ) {p : FlatPattern} {s : Known} {v : FlatValue} {sc inner : Scope} {env : FlatEnv} {n m : ℕ} {bs : Bindings} {d : Names Component} → Binds sizes q p s sc n bs inner m → Stands sizes d n s v → Holds sizes d n sc env → Sim (Gives d n (Scope_held sizes inner m)) (run tight budget bs d) (the (bound q p v env)) dir
    binds_sim q b_bound h k = none_sim tight budget dir _ refl (h_bind h (h_entered h k))
    binds_sim q b_wild h k = none_sim tight budget dir _ refl (h_entered h k)
    binds_sim q (b_tuple r) (s_tuple h) k = all_binds_sim (1 + q) r (listed_stand h) (h_entered (s_tuple h) k)
    binds_sim {sizes = sizes} q {v = v} {inner = inner} {env = env} {n = n} {m = m} {d = d} (b_parts {ps = ps} {u = u} {k = k'} {bs = bs} xs up r) (s_scalar {c = c} e h) k =
        let eq : count ps ≡ length xs = all_bind_count r ∙ length-map xs named in
        subst (λ z. Sim (Gives d n (Scope_held sizes inner m)) (run tight budget (step xs (Operate (operation.Parts u)) ++ bs) d) (the z) dir) (sym (bound_parts q ps v env))
        (sim_right dir (alike_joined (parts_at (count ps) v) (λ vs. all_bound (1 + q) ps vs (entered q v env)))
        (seq_sim tight budget dir (step xs (Operate (operation.Parts u))) bs (upward_grows n xs k' up)
        (subst (λ z. Sim (Gives d n (All_new sizes xs k')) (run tight budget (step xs (Operate (operation.Parts u))) d) (the z) dir) (ap (λ z. parts_at z (as_value c)) (sym eq) ∙ ap (parts_at (count ps)) (sym e)) (parts_sim xs up tight budget dir h))
        (λ e' vs x hs. all_binds_sim (1 + q) r hs (h_entered (stands_on x (upward_grows n xs k' up) (s_scalar e h)) (holds_on x (upward_grows n xs k' up) k)))))
    binds_sim {sizes = sizes} q {v = v} {inner = inner} {env = env} {n = n} {m = m} {d = d} (b_record {fs = names} {ps = ps} {ss = ss} {bs = bs} found r) (s_record h) k =
        let l = record_parts_stand names ss h found in
        subst (λ z. Sim (Gives d n (Scope_held sizes inner m)) (run tight budget bs d) (the (and_then z (λ vs. all_bound (1 + q) ps vs (entered q v env)))) dir) (sym l.is) (all_binds_sim (1 + q) r l.stand (h_entered (s_record h) k))
    binds_sim {sizes = sizes} q {v = v} {inner = inner} {env = env} {n = n} {m = m} {d = d} (b_fields {fs = names} {ps = ps} {u = u} {k = k'} {bs = bs} xs up l r) (s_scalar {c = c} e h) k =
        subst (λ z. Sim (Gives d n (Scope_held sizes inner m)) (run tight budget (step xs (act.Read (act.Fields_at names) (u ∷ [])) ++ bs) d) (the z) dir) (and_then_twice (fields_of v) (accessors.record_parts names) (λ vs. all_bound (1 + q) ps vs (entered q v env)))
        (sim_right dir (alike_joined (and_then (fields_of v) (accessors.record_parts names)) (λ vs. all_bound (1 + q) ps vs (entered q v env)))
        (seq_sim tight budget dir (step xs (act.Read (act.Fields_at names) (u ∷ []))) bs (upward_grows n xs k' up)
        (subst (λ z. Sim (Gives d n (All_new sizes xs k')) (run tight budget (step xs (act.Read (act.Fields_at names) (u ∷ []))) d) (the (and_then (fields_of z) (accessors.record_parts names))) dir) (sym e) (fields_sim xs up tight budget dir names l h))
        (λ e' vs x hs. all_binds_sim (1 + q) r hs (h_entered (stands_on x (upward_grows n xs k' up) (s_scalar e h)) (holds_on x (upward_grows n xs k' up) k)))))
    binds_sim q (b_typed r) h k = binds_sim q r h k

    all_binds_sim : {sizes : Option Sizing} (q : ℕ) {ps : Patterns Ref BindId} {ss : List Known} {vs : List FlatValue} {sc inner : Scope} {env : FlatEnv} {n m : ℕ} {bs : Bindings} {d : Names Component} → All_bind sizes q ps ss sc n bs inner m → All_same (Stands sizes d n) ss vs → Holds sizes d n sc env → Sim (Gives d n (Scope_held sizes inner m)) (run tight budget bs d) (the (all_bound q ps vs env)) dir
    all_binds_sim q b_none all_none k = none_sim tight budget dir _ refl k
    all_binds_sim q {env = env} (b_more {p = p} {ps = ps} {bs = bs} {cs = cs} r rs) (all_more {x' = v} {xs' = vs} h hs) k =
        sim_right dir (alike_joined (bound q p v env) (λ e. all_bound (q + pattern_numbers p) ps vs e))
        (seq_sim tight budget dir bs cs (binds_grow r) (binds_sim q r h k) (λ e env' x k'. all_binds_sim (q + pattern_numbers p) rs (list_on x (binds_grow r) hs) k'))
