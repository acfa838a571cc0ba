-- The walk through the definitions, from what it has had, and then the entry.
use Rattle.std.proofs.Common.{◌≡◌, ℕ, ◌+◌, ◌≤◌, ◌<◌, max, List, [], ◌∷◌, map, length, get_or, drop, Bool, Option, Some, None, Ok, Err, true, false, refl, sym, ◌∙◌, subst, arith}
use Rattle.std.specs.Prelude.{IfErr, IfOk, Result}
use Rattle.fut_scalar.specs.declared.place.BindId.{BindId}
use Rattle.fut_flat.specs.declared.program.Definition.{Definition}
use Rattle.fut_flat.specs.Erased.{FlatTerm, term_of}
use Rattle.fut_meaning.specs.declared.measured.Measured.{Measured}
use Rattle.fut_meaning.specs.declared.measured.MeasureErr.TheVariants as refused
use Rattle.fut_meaning.specs.Flats.{FlatTop, flat_tops, is_flat_use}
use Rattle.fut_meaning.specs.Found.{Sizing}
use Rattle.fut_meaning.specs.Programs.{is_reached}
use Rattle.fut_meaning.specs.Knowns.{Known, Scope, empty, known_as, find}
use Rattle.fut_meaning.specs.Walk.{Visits, Definition_visits, d_none, d_reached, d_other, with_top, Program_visits, program_visits}
use Rattle.fut_meaning.specs.Comes.{Definition_comes, c_here, c_later, c_other, comes_in_definition, comes_in_entry, Inside_function, Stuck_function, Program_lost, lost_at, no_entry, entry_stuck}
use Rattle.fut_meaning.specs.Measures.{Measures, measured, too_many, too_deep, no_memory as no_memory_left_to_measure}
use Rattle.unfold_measure.specs.declared.stop.Stop.{Stop}
use Rattle.unfold_measure.specs.declared.stop.Stop.TheVariants.{Nodes, Depth, Lost, Memory}
use Rattle.unfold_measure.specs.declared.walked.Count.{Count}
use Rattle.unfold_measure.specs.declared.walked.Walked.{Walked}
use Rattle.unfold_measure.specs.declared.known.Known.{Known as Held_known}
use Rattle.unfold_measure.specs.Answers.{Stopped, over, deep, astray, no_memory, Ended, ended_at, is_stuck, no_memory_left, Walked_to, walked, stopped, Function_to, function_ran, function_stopped}
use Rattle.unfold_measure.specs.Held.{known_of}
use Rattle.unfold_reach.specs.Reach.{is_set, name_at, named_term, Reached}
use Rattle.unfold_measure.specs.declared.program.Made.{Made}
use Rattle.unfold_measure.specs.Program.{known_behind, Program_stopped, over_program, deep_program, lost_program, program_memory, Definition_to, definition_passed, definition_walked, definition_stopped, Definitions_to, definitions_walked, definitions_stopped, Program_to, program_walked, program_stopped}
use Rattle.unfold_reach.proofs.Lists.{one_more, drop_end}
use Rattle.unfold_reach.proofs.Tops.{own_count, name_next, reached_at}

-- what the definitions still have, from what they have had
pub record Definitions_lead (sizes : Option Sizing) (entry : ℕ) (ts : List FlatTop) (nodes depth : ℕ) (tops : Scope) (rest : List FlatTop) : Type 0 where
  pub visits : (end : Scope) (m d : ℕ) → Definition_visits sizes entry tops rest end m d → Definition_visits sizes entry empty ts end (nodes + m) (max depth d)
  pub comes : (n k : ℕ) (at sc : Scope) (e : FlatTerm) → Definition_comes sizes entry tops rest n k at sc e → Definition_comes sizes entry empty ts (nodes + n) k at sc e

module _ {sizes : Option Sizing} {entry : ℕ} {ts : List FlatTop} where
  lead_start : Definitions_lead sizes entry ts 0 0 empty ts
  lead_start = record {
    visits = λ end m d v. subst (λ z. Definition_visits sizes entry empty ts end z (max 0 d)) (omega arith) (subst (λ z. Definition_visits sizes entry empty ts end m z) (omega arith) v);
    comes = λ n k at sc e c. subst (λ z. Definition_comes sizes entry empty ts z k at sc e) (omega arith) c;
  }

  module _ {n e : ℕ} {tops : Scope} {t : FlatTop} {rest : List FlatTop} (a : Definitions_lead sizes entry ts n e tops (t ∷ rest)) where
    lead_on : {s : Known} {m1 d1 : ℕ} → is_reached is_flat_use sizes entry rest t.number ≡ true → Visits tops empty t.value s m1 d1 → Definitions_lead sizes entry ts (n + m1) (max e d1) (with_top t s tops) rest
    lead_on {m1 = m1} {d1} h v = record {
      visits = λ end m d w. subst (λ z. Definition_visits sizes entry empty ts end z (max (max e d1) d)) (omega arith) (subst (λ z. Definition_visits sizes entry empty ts end (n + (m1 + m)) z) (omega arith) (a.visits end (m1 + m) (max d1 d) (d_reached h v w)));
      comes = λ j k at sc x c. subst (λ z. Definition_comes sizes entry empty ts z k at sc x) (omega arith) (a.comes (m1 + j) k at sc x (c_later h v c));
    }

    lead_past : is_reached is_flat_use sizes entry rest t.number ≡ false → Definitions_lead sizes entry ts n e tops rest
    lead_past h = record { visits = λ end m d w. a.visits end m d (d_other h w); comes = λ j k at sc x c. a.comes j k at sc x (c_other h c) }

    -- in a definition
    lead_stops : {arguments : ℕ} {r : Stop} → is_reached is_flat_use sizes entry rest t.number ≡ true → Stopped tops empty 0 n t.value r → Program_stopped sizes entry arguments ts r
    lead_stops h (over c le) = over_program (comes_in_definition (a.comes _ _ _ _ _ (c_here h c))) (omega (arith, le))
    lead_stops h (deep c le) = deep_program (comes_in_definition (a.comes _ _ _ _ _ (c_here h c))) (omega (arith, le))
    lead_stops h (astray c l) = lost_program (lost_at (comes_in_definition (a.comes _ _ _ _ _ (c_here h c))) l)
    lead_stops h no_memory = program_memory

  -- behind all definitions
  lead_done : {n e : ℕ} {tops : Scope} → Definitions_lead sizes entry ts n e tops [] → Definition_visits sizes entry empty ts tops n e
  lead_done {n} {e} {tops} a = subst (λ z. Definition_visits sizes entry empty ts tops z e) (omega arith) (subst (λ z. Definition_visits sizes entry empty ts tops (n + 0) z) (omega arith) (a.visits tops 0 0 d_none))

-- ---- one definition

module _ (b : BindId) (e : FlatTerm) (made : Made) where
  pub one_passed : (goes : Bool) → goes ≡ false → Definition_to b e goes made (Ok made)
  one_passed goes h = definition_passed h refl refl refl

  module _ (tops sc : Scope) (before : tops ≡ known_behind made) (none : sc ≡ empty) where
    pub one_stopped : (goes : Bool) (r : Stop) → goes ≡ true → Walked_to tops sc 0 made.nodes e (Err r) → Definition_to b e goes made (Err r)
    one_stopped goes r h (stopped s) = definition_stopped h (subst (λ z. Stopped z empty 0 made.nodes e r) before (subst (λ z. Stopped tops z 0 made.nodes e r) none s))

    module _ (goes : Bool) (w : Walked) (h : goes ≡ true) where
      pub one_entered : Walked_to tops sc 0 made.nodes e (Ok w) → (r : Result Made Stop) → IfOk r (λ after. known_behind after ≡ known_as b (known_of w.known) (known_behind made)) → IfOk r (λ after. after.nodes ≡ made.nodes + w.nodes) → IfOk r (λ after. after.depth ≡ max made.depth w.depth) → IfErr r (λ r. r ≡ Memory) → Definition_to b e goes made r
      one_entered (walked v) (Ok after) q m d n = definition_walked h (subst (λ z. Visits z empty e (known_of w.known) w.nodes w.depth) before (subst (λ z. Visits tops z e (known_of w.known) w.nodes w.depth) none v)) q m d
      one_entered (walked v) (Err r) q m d n = subst (λ z. Definition_to b e goes made (Err z)) (sym n) (definition_stopped h no_memory)

-- ---- one definition after the other

-- how far the definitions have come, and the number of the next one's name
pub data Definitions_from (sizes : Option Sizing) (entry : ℕ) (ds : List Definition) (made : Made) (i : ℕ) : Type 0 where
  definitions_from : (lo : ℕ) → lo ≡ name_at 0 ds i → Definitions_lead sizes entry (flat_tops 0 (map named_term ds)) made.nodes made.depth (known_behind made) (flat_tops lo (map named_term (drop i ds))) → Definitions_from sizes entry ds made i

module _ (sizes : Option Sizing) (entry : ℕ) (ds : List Definition) where
  pub from_start : (made : Made) → known_behind made ≡ empty → made.nodes ≡ 0 → made.depth ≡ 0 → Definitions_from sizes entry ds made 0
  from_start made e m d = definitions_from 0 refl (subst (λ z. Definitions_lead sizes entry ts z made.depth (known_behind made) ts) (sym m) (subst (λ z. Definitions_lead sizes entry ts 0 z (known_behind made) ts) (sym d) (subst (λ z. Definitions_lead sizes entry ts 0 0 z ts) (sym e) lead_start)))
    where
      ts : List FlatTop
      ts = flat_tops 0 (map named_term ds)

  module _ (made : Made) (i : ℕ) (d : Definition) (flags : List Bool) (c : Bool) (lt : i < length ds) (is : Reached sizes entry ds flags) (flag : c ≡ is_set flags i) where
    told : (lo : ℕ) → lo ≡ name_at 0 ds i → c ≡ is_reached is_flat_use sizes entry (flat_tops (lo + own_count (get_or ds i d)) (map named_term (drop (i + 1) ds))) (get_or ds i d).bind.0
    told lo at = flag ∙ reached_at ds i d lt lo at is

    here : (lo : ℕ) → Definitions_lead sizes entry (flat_tops 0 (map named_term ds)) made.nodes made.depth (known_behind made) (flat_tops lo (map named_term (drop i ds))) → Definitions_lead sizes entry (flat_tops 0 (map named_term ds)) made.nodes made.depth (known_behind made) (flat_tops lo (map named_term (get_or ds i d ∷ drop (i + 1) ds)))
    here lo a = subst (λ z. Definitions_lead sizes entry (flat_tops 0 (map named_term ds)) made.nodes made.depth (known_behind made) (flat_tops lo (map named_term z))) (one_more ds i d lt) a

    pub from_more : (r : Made) → Definitions_from sizes entry ds made i → Definition_to (get_or ds i d).bind (term_of (get_or ds i d).value.now) c made (Ok r) → Definitions_from sizes entry ds r (i + 1)
    unfolding flat_tops
    from_more r (definitions_from lo at a) h = definitions_from next (name_next ds i d lt lo at) (on h)
      where
        next : ℕ
        next = lo + own_count (get_or ds i d)

        Leads_to : ℕ → ℕ → Scope → Type 0
        Leads_to n k sc = Definitions_lead sizes entry (flat_tops 0 (map named_term ds)) n k sc (flat_tops next (map named_term (drop (i + 1) ds)))

        as_made : {n k : ℕ} {sc : Scope} → Leads_to n k sc → r.nodes ≡ n → r.depth ≡ k → known_behind r ≡ sc → Leads_to r.nodes r.depth (known_behind r)
        as_made {n} {k} {sc} l m q e = subst (λ z. Leads_to z r.depth (known_behind r)) (sym m) (subst (λ z. Leads_to n z (known_behind r)) (sym q) (subst (λ z. Leads_to n k z) (sym e) l))

        on : Definition_to (get_or ds i d).bind (term_of (get_or ds i d).value.now) c made (Ok r) → Leads_to r.nodes r.depth (known_behind r)
        on (definition_passed off same m q) = as_made (lead_past (here lo a) (sym (told lo at) ∙ off)) m q same
        on (definition_walked goes v same m q) = as_made (lead_on (here lo a) (sym (told lo at) ∙ goes) v) m q same

    pub from_stops : (r : Stop) → Definitions_from sizes entry ds made i → Definition_to (get_or ds i d).bind (term_of (get_or ds i d).value.now) c made (Err r) → Definitions_to sizes entry (flat_tops 0 (map named_term ds)) (Err r)
    unfolding flat_tops
    from_stops r (definitions_from lo at a) (definition_stopped goes s) = definitions_stopped (λ arguments. lead_stops (here lo a) (sym (told lo at) ∙ goes) s)

  pub from_done : (made : Made) (i : ℕ) → length ds ≤ i → Definitions_from sizes entry ds made i → Definitions_to sizes entry (flat_tops 0 (map named_term ds)) (Ok made)
  unfolding flat_tops
  from_done made i le (definitions_from lo at a) = definitions_walked (lead_done (subst (λ z. Definitions_lead sizes entry (flat_tops 0 (map named_term ds)) made.nodes made.depth (known_behind made) (flat_tops lo (map named_term z))) (drop_end i ds le) a))

-- ---- the entry

module _ (sizes : Option Sizing) (entry arguments : ℕ) (ts : List FlatTop) (tops : Scope) (nodes depth : ℕ) (all : Definition_visits sizes entry empty ts tops nodes depth) where
  pub entry_unknown : find tops entry ≡ None → Program_to sizes entry arguments ts (Err Lost)
  entry_unknown q = program_stopped (lost_program (no_entry all q))

  module _ (s : Held_known) (is : find tops entry ≡ Some (known_of s)) where
    pub entry_stops : (r : Stop) → Function_to tops 0 nodes arguments (known_of s) (Err r) → Program_to sizes entry arguments ts (Err r)
    entry_stops r (function_stopped h) = program_stopped (stops h)
      where
        stops : {r : Stop} → Ended tops (Inside_function tops arguments (known_of s)) (Stuck_function tops arguments (known_of s)) 0 nodes r → Program_stopped sizes entry arguments ts r
        stops (ended_at x q (over c le)) = over_program (comes_in_entry all is x c) (omega (arith, q, le))
        stops (ended_at x q (deep c le)) = deep_program (comes_in_entry all is x c) (omega (arith, le))
        stops (ended_at x q (astray c l)) = lost_program (lost_at (comes_in_entry all is x c) l)
        stops (ended_at x q no_memory) = program_memory
        stops (is_stuck h) = lost_program (entry_stuck all is h)
        stops no_memory_left = program_memory

    pub entry_ran : (r : Count) (m : Measured) → Function_to tops 0 nodes arguments (known_of s) (Ok r) → m.nodes ≡ nodes + r.nodes → m.depth ≡ max depth r.depth → m.nodes ≤ 1048576 → m.depth ≤ 1000 → Program_to sizes entry arguments ts (Ok m)
    entry_ran r m (function_ran v) e e' le le' = program_walked (subst (λ z. Program_visits sizes entry arguments ts z m.depth) (sym e) (subst (λ z. Program_visits sizes entry arguments ts (nodes + r.nodes) z) (sym e') (program_visits all is v))) le le'

pub ruleset entries = (entry_unknown, entry_stops, entry_ran)

-- ---- the answer

module _ (sizes : Option Sizing) (entry arguments : ℕ) (ts : List FlatTop) where
  pub program_unwalked : (r : Stop) → Definitions_to sizes entry ts (Err r) → Program_to sizes entry arguments ts (Err r)
  program_unwalked r (definitions_stopped s) = program_stopped (s arguments)

  pub program_unmade : (r : Stop) → r ≡ Memory → Program_to sizes entry arguments ts (Err r)
  program_unmade r e = subst (λ z. Program_to sizes entry arguments ts (Err z)) (sym e) (program_stopped program_memory)

  pub all_visits : (r : Made) → Definitions_to sizes entry ts (Ok r) → Definition_visits sizes entry empty ts (known_behind r) r.nodes r.depth
  all_visits r (definitions_walked v) = v

  pub measures_ok : (m : Measured) → Program_to sizes entry arguments ts (Ok m) → Measures sizes ts entry arguments (Ok m)
  measures_ok m (program_walked v le le') = measured v le le'

  pub measures_nodes : Program_to sizes entry arguments ts (Err Nodes) → Measures sizes ts entry arguments (Err refused.Nodes)
  measures_nodes (program_stopped (over_program c le)) = too_many c le

  pub measures_depth : Program_to sizes entry arguments ts (Err Depth) → Measures sizes ts entry arguments (Err refused.Depth)
  measures_depth (program_stopped (deep_program c le)) = too_deep c le

  pub measures_memory : Measures sizes ts entry arguments (Err refused.Memory)
  measures_memory = no_memory_left_to_measure

  lost_of : Program_to sizes entry arguments ts (Err Lost) → Program_lost sizes entry arguments ts
  lost_of (program_stopped (lost_program l)) = l

  pub never_lost : (r : Stop) → r ≡ Lost → (Program_lost sizes entry arguments ts → ⊥) → Program_to sizes entry arguments ts (Err r) → ⊥
  never_lost r e n h = n (lost_of (subst (λ z. Program_to sizes entry arguments ts (Err z)) e h))

pub ruleset programs = (program_unwalked, program_unmade, all_visits)

pub ruleset measures = (measures_ok, measures_nodes, measures_depth, measures_memory)
