-- Programs: their definitions one after the other, and then the entry; or that there is no way on in one of them.
use Rattle.std.proofs.Common.{◌≡◌, ℕ, zero, suc, ◌+◌, ◌-◌, ◌<◌, ◌≤◌, ◌++◌, List, [], ◌∷◌, map, length, get_or, drop, replicate, ⊎_elim, Bool, true, false, None, Some, Ok, Err, refl, sym, ap, ◌∙◌, subst, arith, append_assoc, append-nil}
use Rattle.std.specs.Prelude.{IfErr, IfOk, Result, Option}
use Rattle.std.specs.Borrow.{Bor}
use Rattle.std.specs.List.{AllClonesOf}
use Rattle.fut_scalar.specs.declared.place.BindId.{BindId}
use Rattle.fut_scalar.specs.declared.sizes.DataType.{DataType}
use Rattle.fut_flat.specs.declared.program.Definition.{Definition}
use Rattle.fut_flat.specs.Erased.{FlatTerm, term_of}
use Rattle.fut_flat.specs.Numbers.{numbers}
use Rattle.fut_meaning.specs.Flats.{FlatTop, flat_tops, is_flat_use}
use Rattle.fut_meaning.specs.Found.{Sizing, Told}
use Rattle.fut_meaning.specs.Programs.{is_reached}
use Rattle.fut_blocks.specs.declared.block.Atom.{Atom}
use Rattle.fut_blocks.specs.declared.block.Block.{Block}
use Rattle.fut_blocks.specs.declared.block.Program.{Program}
use Rattle.fut_blocks.specs.Meaning.{look}
use Rattle.told_rows.specs.Tables.{Told_by}
use Rattle.unfold_reach.proofs.Lists.{drop_end, one_more}
use Rattle.unfold_reach.proofs.Tops.{name_next, reached_at}
use Rattle.unfold_reach.specs.Reach.{Reached, is_set, name_at, named_term}
use Rattle.unfold.specs.Held.{known_of}
use Rattle.unfold.specs.Knowns.{Known, Tuple_known, Knowns, knowns, listed, nothing_seen, Scalar_known, Scope, Tops}
use Rattle.unfold.specs.Programs as programs
use Rattle.unfold.specs.Programs.{d_none, d_reached, d_other}
use Rattle.unfold.specs.Shapes.{All_laid, Laid, Scalar_shape, Shapes, Tuple_shape, laid_more, laid_none, laid_scalar, laid_tuple}
use Rattle.unfold.specs.Stuck as lacking
use Rattle.unfold.specs.Stuck.{in_definitions, in_entry, no_entry, no_result, stuck_definition, stuck_next, stuck_on, stuck_other, stuck_run}
use Rattle.unfold.specs.Unfolding.{a_none, a_more, Bindings, names}
use Rattle.unfold.specs.declared.known.Known.{Known as Held_known}
use Rattle.unfold.specs.declared.known.KnownForm.TheVariants as form
use Rattle.unfold.proofs.Mirror.{known_tuple}
use Rattle.unfold_parts.specs.Answers.{Blocked, blocked, not_blocked}
use Rattle.unfold_parts.specs.Held.{maybe_known}
use Rattle.unfold_parts.specs.Layouts.{Laid_to, laid_to, not_laid, Renewed, renewed, not_renewed, shape_of}
use Rattle.unfold_parts.specs.Refused.{lost, no_memory}
use Rattle.unfold_parts.specs.States.{steps_of}
use Rattle.unfold_parts.specs.declared.fresh.Fresh.{Fresh}
use Rattle.unfold_parts.specs.declared.refusal.Refusal.{Refusal}
use Rattle.unfold_parts.specs.declared.refusal.Refusal.TheVariants.{Lost, Memory}
use Rattle.unfold_parts.specs.declared.steps.Unfolding.{Unfolding}
use Rattle.unfold_parts.specs.declared.told.Told.{Told as Held_told}
use Rattle.unfold_parts.proofs.Forms.{form_no_tuple}
use Rattle.unfold_parts.proofs.Lacking.{No_tuple}
use Rattle.unfold_parts.proofs.Refusing.{refused_as, only_memory}
use Rattle.unfold_parts.proofs.Shapeless.{laid_shape, no_data}
use Rattle.unfold_program.specs.declared.program.Given.{Given}
use Rattle.unfold_program.specs.declared.program.Made.{Made}
use Rattle.unfold_program.specs.declared.walked.Context.{Context}
use Rattle.unfold_program.specs.declared.walked.Walked.{Walked}
use Rattle.unfold_program.specs.Answers.{All_applied, all_applied, not_all_applied, Applied, applied, not_applied, Unfolded, unfolded, refused, defined, told}
use Rattle.unfold_program.specs.Whole.{scalars, Are_scalars, Given_to, given_to, not_given, Is_kept, Defined_to, passed_over, defined_to, not_defined, Definitions_to, definitions_to, no_definitions, Entry_stuck, not_known, stuck_there, no_data_there, Entry_to, entry_to, not_entered, Finished, finished, not_finished, Unfolds_to, unfolds_to, no_program}
use Rattle.unfold_program.proofs.Growing.{grown, not_grown, moved, stuck_at}
use Rattle.unfold_parts.specs.Told.{Applies_all, Definitions_stuck, Definitions_unfold, Program_stuck, Sees, Stuck, Stuck_runs, Tell, Unfolds}

-- ---- parameters

-- the same scalar so many times
all_scalars : (n : ℕ) (k : Held_known) (u : Atom) → known_of k ≡ Scalar_known u → All_laid (scalars n) (knowns (map known_of (replicate n k))) (replicate n u) []
all_scalars zero k u e = laid_none
all_scalars (suc n) k u e = laid_more (subst (λ z. Laid Scalar_shape z (u ∷ replicate n u) (replicate n u)) (sym e) laid_scalar) (all_scalars n k u e)

all_same : (k : Held_known) (ss : List Held_known) → AllClonesOf (λ x y. y ≡ x) k ss → ss ≡ replicate (length ss) k
all_same k [] every = refl
all_same k (s ∷ ss) every =
    let here : s ≡ k = ⊎_elim (λ e. e) (λ e. e) every.0 in
    let rest = all_same k ss every.1 in
    λ t. here t ∷ rest t

pub scalars_are : (ss : List Held_known) (n : ℕ) (k : Held_known) (u : Atom) → known_of k ≡ Scalar_known u → AllClonesOf (λ x y. y ≡ x) k ss → length ss ≡ n → Are_scalars n (map known_of ss)
scalars_are ss n k u e every q = record { atoms = replicate n u; laid = subst (λ z. All_laid (scalars n) (knowns (map known_of z)) (replicate n u) []) (sym (all_same k ss every ∙ ap (λ z. replicate z k) q)) (all_scalars n k u e) }

parts_laid : {hs : Shapes} {ss : Knowns} {us : List Atom} → Laid (Tuple_shape hs) (Tuple_known ss) us [] → All_laid hs ss us []
parts_laid (laid_tuple h) = h

-- the shape of so many scalars
scalars_shape : (count : ℕ) (ss : List Known) → Are_scalars count ss → shape_of (Tuple_known (knowns ss)) ≡ Tuple_shape (scalars count)
scalars_shape count ss h = sym (laid_shape (Tuple_shape (scalars count)) (Tuple_known (knowns ss)) h.atoms [] (laid_tuple h.laid))

module _ (count : ℕ) (like : Held_known) (row : Bor (List Held_known)) (are : Are_scalars count (map known_of row.now)) (is : like.form ≡ form.Tuple row) where
  like_shape : shape_of (known_of like) ≡ Tuple_shape (scalars count)
  like_shape = ap shape_of (known_tuple like row is) ∙ scalars_shape count (map known_of row.now) are

  laid_like : (f : Fresh) → Laid (shape_of (known_of like)) (known_of f.known) (names f.names.now) [] → Laid (Tuple_shape (scalars count)) (known_of f.known) (names f.names.now) []
  laid_like f l = subst (λ z. Laid z (known_of f.known) (names f.names.now) []) like_shape l

  pub given_ok : (n next : ℕ) (f : Fresh) (arguments : Bor (List Held_known)) → Renewed (known_of like) n next (Ok f) → f.known.form ≡ form.Tuple arguments → Given_to count n next (Ok (record { names = f.names; arguments = arguments }))
  given_ok n next f arguments (renewed up l) is' = given_to up (parts_laid (subst (λ z. Laid (Tuple_shape (scalars count)) z (names f.names.now) []) (known_tuple f.known arguments is') (laid_like f l)))

  -- scalars have new names
  pub given_unnamed : (n next m m' : ℕ) (r : Refusal) → Renewed (known_of like) m m' (Err r) → Given_to count n next (Err r)
  given_unnamed n next m m' _ (not_renewed no_memory) = not_given
  given_unnamed n next m m' _ (not_renewed (lost lacks)) = absurd (lacks (Tuple_shape (scalars count)) are.atoms (subst (λ z. Laid (Tuple_shape (scalars count)) z are.atoms []) (sym (known_tuple like row is)) (laid_tuple are.laid)))

  -- and are a tuple again
  pub given_tuple : (m m' : ℕ) (f : Fresh) → Renewed (known_of like) m m' (Ok f) → ((ss : Bor (List Held_known)) → f.known.form ≡ form.Tuple ss → ⊥) → ⊥
  given_tuple m m' f (renewed up l) lacks = none (known_of f.known) (laid_like f l) (form_no_tuple f.known lacks)
    where
      none : (t : Known) → Laid (Tuple_shape (scalars count)) t (names f.names.now) [] → No_tuple t → ⊥
      none _ (laid_tuple l) lacks = lacks _ refl

pub given_err : (count n next : ℕ) (r : Refusal) → r ≡ Memory → Given_to count n next (Err r)
given_err count n next r m = subst (λ z. Given_to count n next (Err z)) (sym m) not_given

-- ---- one definition

module _ (b : BindId) (e : FlatTerm) (made : Made) (seen : Scope) (old : Unfolding) where
  pub define_passed : (is_reached_here : Bool) (c : Context) (first next : ℕ) → is_reached_here ≡ false → c ≡ made.context → first ≡ made.at + 1 → next ≡ first + numbers e → Defined_to b e is_reached_here made seen old old seen (Ok (record { context = c; at = next }))
  define_passed is_reached_here c first next h is q q' = passed_over h refl refl (ap told is) (ap defined is) refl (omega (arith, q, q'))

  module _ (is_reached_here : Bool) (next : Scope) (h : is_reached_here ≡ true) (first : ℕ) (q : first ≡ made.at + 1) where
    pub define_kept : (new : Unfolding) (w : Walked) (r : Result Made Refusal) → Unfolded made.context seen first e old new (Ok w) → IfOk r (λ m. Is_kept b made w seen m next) → IfErr r (λ x. x ≡ Memory) → Defined_to b e is_reached_here made seen old new next r
    define_kept new w (Ok m) (unfolded bs g u k) kept _ = defined_to bs h g (moved made.context (omega (arith, q)) u) (omega (arith, q, k)) kept
    define_kept new w (Err x) u _ m = not_defined (only_memory m)

    pub define_stuck : (mid new : Unfolding) (r : Refusal) → Unfolded made.context seen first e old mid (Err r) → Defined_to b e is_reached_here made seen old new next (Err r)
    define_stuck mid new r (refused x) = not_defined (refused_as (λ w. (h, stuck_at made.context (omega (arith, q)) w)) x)

-- ---- one definition after the other

-- how far the definitions have come
pub data Definitions_from (entry : ℕ) (ds : List Definition) (T : Held_told) (old now : Unfolding) (made : Made) (seen : Scope) (i : ℕ) : Type 0 where
  definitions_from : (bs : Bindings) → steps_of now ≡ steps_of old ++ bs → told made.context ≡ T → made.at ≡ name_at 0 ds i → ((end : Tops) (cs : Bindings) (m : ℕ) → Definitions_unfold T entry seen (defined made.context) (flat_tops made.at (map named_term (drop i ds))) now.next cs end m → Definitions_unfold T entry nothing_seen [] (flat_tops 0 (map named_term ds)) old.next (bs ++ cs) end m) → (Definitions_stuck T entry seen (defined made.context) (flat_tops made.at (map named_term (drop i ds))) → Definitions_stuck T entry nothing_seen [] (flat_tops 0 (map named_term ds))) → Definitions_from entry ds T old now made seen i

-- the flags say which definitions are reached, by the sizing that is told
abbrev pub Reached_by : Held_told → ℕ → List Definition → List Bool → Type 0
Reached_by T entry ds flags = (z : Option Sizing) → Told_by T.sizes z → Reached z entry ds flags

module _ (entry : ℕ) (ds : List Definition) (old : Unfolding) where
  pub from_start : (c : Context) (sc : Scope) → sc ≡ nothing_seen → defined c ≡ [] → Definitions_from entry ds (told c) old old (record { context = c; at = 0 }) sc 0
  from_start c sc nothing e = definitions_from [] (not_grown (steps_of old) (steps_of old) refl) refl refl
      (λ end cs m u. subst (λ z. Definitions_unfold (told c) entry nothing_seen z (flat_tops 0 (map named_term ds)) old.next cs end m) e (subst (λ z. Definitions_unfold (told c) entry z (defined c) (flat_tops 0 (map named_term ds)) old.next cs end m) nothing u))
      (λ w. subst (λ z. Definitions_stuck (told c) entry nothing_seen z (flat_tops 0 (map named_term ds))) e (subst (λ z. Definitions_stuck (told c) entry z (defined c) (flat_tops 0 (map named_term ds))) nothing w))

  module _ (T : Held_told) (now : Unfolding) (made : Made) (seen : Scope) (i : ℕ) where
    -- whether the next one is reached
    reached_here : (d : Definition) (flags : List Bool) (c b : Bool) → i < length ds → Reached_by T entry ds flags → c ≡ is_set flags i → made.at ≡ name_at 0 ds i → c ≡ b → (td : Told) → Tell T td → is_reached is_flat_use td.sizes entry (flat_tops (made.at + (1 + numbers (term_of (get_or ds i d).value.now))) (map named_term (drop (i + 1) ds))) (get_or ds i d).bind.0 ≡ b
    reached_here d flags c b lt f flag at is td tl = sym (reached_at ds i d lt made.at at (f td.sizes tl.sizes)) ∙ sym flag ∙ is

    pub from_more : (new : Unfolding) (r : Made) (next_seen : Scope) (d : Definition) (flags : List Bool) (c : Bool) → i < length ds → Reached_by T entry ds flags → c ≡ is_set flags i → Definitions_from entry ds T old now made seen i → Defined_to (get_or ds i d).bind (term_of (get_or ds i d).value.now) c made seen now new next_seen (Ok r) → Definitions_from entry ds T old new r next_seen (i + 1)
    unfolding flat_tops
    from_more new r next_seen d flags c lt f flag (definitions_from bs g ts at k kw) h = on h
      where
        x : Definition
        x = get_or ds i d

        next : ℕ
        next = made.at + (1 + numbers (term_of x.value.now))

        told_here : (b : Bool) → c ≡ b → (td : Told) → Tell T td → is_reached is_flat_use td.sizes entry (flat_tops next (map named_term (drop (i + 1) ds))) x.bind.0 ≡ b
        told_here b = reached_here d flags c b lt f flag at

        at_next : r.at ≡ next → r.at ≡ name_at 0 ds (i + 1)
        at_next q = q ∙ name_next ds i d lt made.at at

        here : (end : Tops) (cs : Bindings) (m : ℕ) → Definitions_unfold T entry seen (defined made.context) (flat_tops made.at (map named_term (x ∷ drop (i + 1) ds))) now.next cs end m → Definitions_unfold T entry nothing_seen [] (flat_tops 0 (map named_term ds)) old.next (bs ++ cs) end m
        here end cs m u = k end cs m (subst (λ z. Definitions_unfold T entry seen (defined made.context) (flat_tops made.at (map named_term z)) now.next cs end m) (sym (one_more ds i d lt)) u)

        behind : {sc : Scope} {tops : Tops} {n : ℕ} (td : Told) (cs : Bindings) (end : Tops) (m : ℕ) → next_seen ≡ sc → defined r.context ≡ tops → r.at ≡ next → new.next ≡ n → programs.Definitions_unfold td entry next_seen (defined r.context) (flat_tops r.at (map named_term (drop (i + 1) ds))) new.next cs end m → programs.Definitions_unfold td entry sc tops (flat_tops next (map named_term (drop (i + 1) ds))) n cs end m
        behind {sc} {tops} {n} td cs end m se e q p u = subst (λ z. programs.Definitions_unfold td entry z tops (flat_tops next (map named_term (drop (i + 1) ds))) n cs end m) se (subst (λ z. programs.Definitions_unfold td entry next_seen z (flat_tops next (map named_term (drop (i + 1) ds))) n cs end m) e (subst (λ z. programs.Definitions_unfold td entry next_seen (defined r.context) (flat_tops z (map named_term (drop (i + 1) ds))) n cs end m) q (subst (λ z. programs.Definitions_unfold td entry next_seen (defined r.context) (flat_tops r.at (map named_term (drop (i + 1) ds))) z cs end m) p u)))

        stuck_here : Definitions_stuck T entry seen (defined made.context) (flat_tops made.at (map named_term (x ∷ drop (i + 1) ds))) → Definitions_stuck T entry nothing_seen [] (flat_tops 0 (map named_term ds))
        stuck_here w = kw (subst (λ z. Definitions_stuck T entry seen (defined made.context) (flat_tops made.at (map named_term z))) (sym (one_more ds i d lt)) w)

        stuck_then : {sc : Scope} {tops : Tops} (td : Told) → next_seen ≡ sc → defined r.context ≡ tops → r.at ≡ next → lacking.Definitions_stuck td entry next_seen (defined r.context) (flat_tops r.at (map named_term (drop (i + 1) ds))) → lacking.Definitions_stuck td entry sc tops (flat_tops next (map named_term (drop (i + 1) ds)))
        stuck_then {sc} {tops} td se e q w = subst (λ z. lacking.Definitions_stuck td entry z tops (flat_tops next (map named_term (drop (i + 1) ds)))) se (subst (λ z. lacking.Definitions_stuck td entry next_seen z (flat_tops next (map named_term (drop (i + 1) ds)))) e (subst (λ z. lacking.Definitions_stuck td entry next_seen (defined r.context) (flat_tops z (map named_term (drop (i + 1) ds)))) q w))

        -- what the next one begins with
        sees : (s : Known) → Sees (told made.context).sizes made.at s seen next_seen → (td : Told) → Tell T td → next_seen ≡ programs.seeing td.sizes ((1 + made.at) - 1) s seen
        sees s h td tl = h td.sizes (subst (λ (z : Held_told). Told_by z.sizes td.sizes) (sym ts) tl.sizes) ∙ (let e : made.at ≡ (1 + made.at) - 1 = omega arith in ap (λ z. programs.seeing td.sizes z s seen) e)

        on : Defined_to x.bind (term_of x.value.now) c made seen now new next_seen (Ok r) → Definitions_from entry ds T old new r next_seen (i + 1)
        on (passed_over passed gn nn tn dn sn an) = definitions_from bs (gn ∙ g) (tn ∙ ts) (at_next an)
            (λ end cs m u. here end cs m (λ td tl. d_other (told_here false passed td tl) (behind td cs end m sn dn an nn (u td tl))))
            (λ w. stuck_here (λ td tl. stuck_other (told_here false passed td tl) (stuck_then td sn dn an (w td tl))))
        on (defined_to {w = w} cs taken gn v wn kept) = definitions_from (bs ++ cs) (grown (steps_of old) (steps_of now) (steps_of new) bs cs g gn) (kept.same ∙ ts) (at_next (kept.behind ∙ wn))
            (λ end es m u. subst (λ z. Definitions_unfold T entry nothing_seen [] (flat_tops 0 (map named_term ds)) old.next z end m) (sym (append_assoc bs cs es))
            (here end (cs ++ es) m (λ td tl. d_reached (told_here true taken td tl) ((subst (λ z. Unfolds z (defined made.context) seen (1 + made.at) (term_of x.value.now) now.next cs (known_of w.known) new.next) ts v) td tl) (behind td es end m (sees _ kept.sees td tl) kept.more (kept.behind ∙ wn) refl (u td tl)))))
            (λ h. stuck_here (λ td tl. stuck_next (told_here true taken td tl) ((subst (λ z. Unfolds z (defined made.context) seen (1 + made.at) (term_of x.value.now) now.next cs (known_of w.known) new.next) ts v) td tl) (stuck_then td (sees _ kept.sees td tl) kept.more (kept.behind ∙ wn) (h td tl))))

    pub from_done : length ds ≤ i → Definitions_from entry ds T old now made seen i → Definitions_to T entry (flat_tops 0 (map named_term ds)) old now (Ok made)
    unfolding flat_tops
    from_done le (definitions_from bs g ts at k kw) = definitions_to bs g ts (subst (λ z. Definitions_unfold T entry nothing_seen [] (flat_tops 0 (map named_term ds)) old.next z (defined made.context) now.next) (append-nil bs) (k (defined made.context) [] now.next (subst (λ z. Definitions_unfold T entry seen (defined made.context) (flat_tops made.at (map named_term z)) now.next [] (defined made.context) now.next) (sym (drop_end i ds le)) (λ td tl. d_none))))

    -- a definition that is stuck
    pub from_err : (new : Unfolding) (next_seen : Scope) (r : Refusal) (d : Definition) (flags : List Bool) (c : Bool) → i < length ds → Reached_by T entry ds flags → c ≡ is_set flags i → Definitions_from entry ds T old now made seen i → Defined_to (get_or ds i d).bind (term_of (get_or ds i d).value.now) c made seen now new next_seen (Err r) → Definitions_to T entry (flat_tops 0 (map named_term ds)) old new (Err r)
    unfolding flat_tops
    from_err new next_seen r d flags c lt f flag (definitions_from bs g ts at k kw) (not_defined h) = no_definitions (refused_as here h)
      where
        x : Definition
        x = get_or ds i d

        here : (c ≡ true) × Stuck (told made.context) (defined made.context) seen (1 + made.at) (term_of x.value.now) → Definitions_stuck T entry nothing_seen [] (flat_tops 0 (map named_term ds))
        here w = kw (subst (λ z. Definitions_stuck T entry seen (defined made.context) (flat_tops made.at (map named_term z))) (sym (one_more ds i d lt)) (λ td tl. stuck_definition (reached_here d flags c true lt f flag at w.0 td tl) ((subst (λ z. Stuck z (defined made.context) seen (1 + made.at) (term_of x.value.now)) ts w.1) td tl)))

-- ---- the entry

-- what a function still comes to, from the arguments that it has had, or that there is no way on
pub data Applied_from (c : Context) (ss : List Held_known) (f : Known) (old now : Unfolding) (made : Held_known) (i : ℕ) : Type 0 where
  applied_from : (bs : Bindings) → steps_of now ≡ steps_of old ++ bs → ((cs : Bindings) (s : Known) (m : ℕ) → Applies_all (told c) (defined c) (map known_of (drop i ss)) (known_of made) now.next cs s m → Applies_all (told c) (defined c) (map known_of ss) f old.next (bs ++ cs) s m) → (Stuck_runs (told c) (defined c) (map known_of (drop i ss)) (known_of made) → Stuck_runs (told c) (defined c) (map known_of ss) f) → Applied_from c ss f old now made i

module _ (c : Context) (ss : List Held_known) (old : Unfolding) where
  pub all_start : (f : Held_known) → Applied_from c ss (known_of f) old old f 0
  all_start f = applied_from [] (not_grown (steps_of old) (steps_of old) refl) (λ cs s m u. u) (λ w. w)

  module _ (f : Known) (now : Unfolding) (made : Held_known) (i : ℕ) where
    pub all_more : (new : Unfolding) (r d : Held_known) → i < length ss → Applied_from c ss f old now made i → Applied c (known_of made) (known_of (get_or ss i d)) now new (Ok r) → Applied_from c ss f old new r (i + 1)
    all_more new r d lt (applied_from bs g k kw) (applied cs g' a) = applied_from (bs ++ cs) (grown (steps_of old) (steps_of now) (steps_of new) bs cs g g')
        (λ es s m u. subst (λ z. Applies_all (told c) (defined c) (map known_of ss) f old.next z s m) (sym (append_assoc bs cs es)) (k (cs ++ es) s m (subst (λ z. Applies_all (told c) (defined c) (map known_of z) (known_of made) now.next (cs ++ es) s m) (sym (one_more ss i d lt)) (λ td tl. a_more (a td tl) (u td tl)))))
        (λ w. kw (subst (λ z. Stuck_runs (told c) (defined c) (map known_of z) (known_of made)) (sym (one_more ss i d lt)) (λ td tl. stuck_on (a td tl) (w td tl))))

    pub all_done : length ss ≤ i → Applied_from c ss f old now made i → All_applied c (map known_of ss) f old now (Ok made)
    all_done le (applied_from bs g k kw) = all_applied bs g (subst (λ z. Applies_all (told c) (defined c) (map known_of ss) f old.next z (known_of made) now.next) (append-nil bs) (k [] (known_of made) now.next (subst (λ z. Applies_all (told c) (defined c) (map known_of z) (known_of made) now.next [] (known_of made) now.next) (sym (drop_end i ss le)) (λ td tl. a_none))))

    pub all_err : (new : Unfolding) (d : Held_known) (r : Refusal) → i < length ss → Applied_from c ss f old now made i → Applied c (known_of made) (known_of (get_or ss i d)) now new (Err r) → All_applied c (map known_of ss) f old new (Err r)
    all_err new d r lt (applied_from bs g k kw) (not_applied x) = not_all_applied (refused_as (λ w. kw (subst (λ z. Stuck_runs (told c) (defined c) (map known_of z) (known_of made)) (sym (one_more ss i d lt)) (λ td tl. stuck_run (w td tl)))) x)

-- the entry
module _ (c : Context) (entry : ℕ) (g : Given) (types : List DataType) (old : Unfolding) (o : Option Held_known) (e : maybe_known o ≡ look (defined c) entry) where
  pub entry_none : o ≡ None → Entry_to c entry g types old (Err Lost)
  entry_none is = not_entered (lost (not_known (sym e ∙ ap maybe_known is)))

  pub entry_stuck : (f : Held_known) (new : Unfolding) (r : Refusal) → o ≡ Some f → All_applied c (map known_of g.arguments.now) (known_of f) old new (Err r) → Entry_to c entry g types old (Err r)
  entry_stuck f new r is (not_all_applied x) = not_entered (refused_as (stuck_there (sym e ∙ ap maybe_known is)) x)

  pub entry_end : (f k : Held_known) (mid : Unfolding) (r : Result Program Refusal) → o ≡ Some f → All_applied c (map known_of g.arguments.now) (known_of f) old mid (Ok k) → Finished g.names.now types (known_of k) mid r → Entry_to c entry g types old r
  entry_end f k mid (Ok p) is a h = entry_to mid (sym e ∙ ap maybe_known is) a h
  entry_end f k mid (Err r) is (all_applied cs gc a) (not_finished x) = not_entered (refused_as (no_data_there (sym e ∙ ap maybe_known is) a) x)

-- ---- the whole

pub finish_ok : (params : Bor (List ℕ)) (types : Bor (List DataType)) (s : Known) (old new : Unfolding) (us : Bor (List Atom)) (b : Bor Block) → Laid_to (shape_of s) s (Ok us) → Blocked 0 us.now (steps_of old) (steps_of new) (Ok b) → new.next ≡ old.next → Finished params.now types.now s old (Ok (record { params = params; types = types; body = b.now; names = new.next }))
finish_ok params types s old new us b (laid_to l) (blocked f) n = finished refl refl l ((f [] (steps_of old) refl refl).1) n

pub finish_unlaid : (params : List ℕ) (types : List DataType) (s : Known) (old : Unfolding) (r : Refusal) → Laid_to (shape_of s) s (Err r) → Finished params types s old (Err r)
finish_unlaid params types s old r (not_laid x) = not_finished (refused_as (no_data s) x)

pub finish_err : (params : List ℕ) (types : List DataType) (s : Known) (old : Unfolding) (mark : ℕ) (us : List Atom) (before after : Bindings) (r : Refusal) → Blocked mark us before after (Err r) → Finished params types s old (Err r)
finish_err params types s old mark us before after _ not_blocked = not_finished no_memory

listed_knowns : (ss : List Known) → listed (knowns ss) ≡ ss
listed_knowns [] = refl
listed_knowns (s ∷ ss) = ap (λ z. s ∷ z) (listed_knowns ss)

application_of : (T : Held_told) (made : Made) (ss : List Held_known) (f : Known) (n m : ℕ) (cs : Bindings) (s : Known) → told made.context ≡ T → Applies_all (told made.context) (defined made.context) (map known_of ss) f n cs s m → Applies_all T (defined made.context) (listed (knowns (map known_of ss))) f n cs s m
application_of T made ss f n m cs s ts a = subst (λ z. Applies_all z (defined made.context) (listed (knowns (map known_of ss))) f n cs s m) ts (subst (λ z. Applies_all (told made.context) (defined made.context) z f n cs s m) (sym (listed_knowns (map known_of ss))) a)

module _ (T : Held_told) (ds : List FlatTop) (entry : ℕ) (sorts : List DataType) where
  pub whole : (m0 m1 m2 : Unfolding) (g : Given) (made : Made) (answer : Result Program Refusal) → m0.next ≡ 0 → steps_of m0 ≡ [] → Given_to (length sorts) m0.next m1.next (Ok g) → steps_of m1 ≡ steps_of m0 → Definitions_to T entry ds m1 m2 (Ok made) → Entry_to made.context entry g sorts m2 answer → Unfolds_to T ds entry sorts answer
  whole m0 m1 m2 g made _ zero_first none (given_to up laid) same (definitions_to bs gb ts du) (entry_to {r = r} {f = f} m3 is (all_applied cs gc a) (finished {p = p} {us} ps ss l body below)) =
      unfolds_to (shape_of (known_of r)) (λ td tl. record {
        arguments = knowns (map known_of g.arguments.now);
        parameters = subst (λ z. All_laid (scalars (length sorts)) (knowns (map known_of g.arguments.now)) (names z) []) (sym ps) laid;
        first = m1.next;
        rising = subst (λ z. Rattle.fut_blocks.specs.Numbered.Upward z p.params.now m1.next) zero_first (subst (λ z. Rattle.fut_blocks.specs.Numbered.Upward m0.next z m1.next) (sym ps) up);
        defined = bs;
        tops = defined made.context;
        behind = m2.next;
        definitions = du td tl;
        function = f;
        entry_known = is;
        applied = cs;
        result = known_of r;
        end = m3.next;
        application = (application_of T made g.arguments.now f m2.next m3.next cs (known_of r) ts a) td tl;
        results = us;
        laid = l;
        body = body ∙ ap (λ z. Rattle.fut_blocks.specs.Plain.lets z us) (gc ∙ ap (λ z. z ++ cs) (gb ∙ ap (λ z. z ++ bs) (same ∙ none)));
        below = omega (arith, below);
      }) ss
  whole m0 m1 m2 g made _ zero_first none (given_to up laid) same (definitions_to bs gb ts du) (not_entered x) = no_program (refused_as here x)
    where
      here : Entry_stuck made.context entry (map known_of g.arguments.now) m2.next → Program_stuck T ds entry (scalars (length sorts))
      here (not_known is) td tl = no_entry (du td tl) is
      here (stuck_there {f = f} is w) td tl = in_entry (du td tl) is laid ((subst (λ z. Stuck_runs z (defined made.context) (listed (knowns (map known_of g.arguments.now))) f) ts (subst (λ z. Stuck_runs (told made.context) (defined made.context) z f) (sym (listed_knowns (map known_of g.arguments.now))) w)) td tl)
      here (no_data_there {n' = n'} {bs = cs} {f = f} {s = s} is a lacks) td tl = no_result (du td tl) is laid ((application_of T made g.arguments.now f m2.next n' cs s ts a) td tl) lacks

  pub whole_ungiven : (count n n' : ℕ) (r : Refusal) → Given_to count n n' (Err r) → Unfolds_to T ds entry sorts (Err r)
  whole_ungiven count n n' _ not_given = no_program no_memory

  pub whole_undefined : (old new : Unfolding) (r : Refusal) → Definitions_to T entry ds old new (Err r) → Unfolds_to T ds entry sorts (Err r)
  whole_undefined old new r (no_definitions x) = no_program (refused_as (λ w td tl. in_definitions (w td tl)) x)
