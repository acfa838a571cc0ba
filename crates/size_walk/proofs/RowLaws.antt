-- Lets in a row, from the answers for each and for what stands behind them.
use Rattle.std.proofs.Common.{◌≡◌, ℕ, ◌+◌, ◌<◌, ◌≤◌, List, [], ◌∷◌, ◌++◌, length, get_or, drop, map, Result, Ok, Err, refl, sym, ap, ◌∙◌, subst, add-one, append-nil}
use Rattle.std.proofs.Math.Seq.{drop-cons}
use Rattle.std.proofs.lemmas.List.{append_assoc}
use Rattle.fut_flat.specs.declared.exp.Let.{Let}
use Rattle.fut_flat.specs.Erased.{FlatTerm, Row, lets}
use Rattle.fut_flat.proofs.ErasedForms.{row_of}
use Rattle.fut_types.specs.Types.{Sub}
use Rattle.fut_typing.specs.Names.{Names}
use Rattle.fut_sizes.specs.Applications.{Part}
use Rattle.fut_sizes.specs.Scopes.{Scope}
use Rattle.fut_sizes.specs.Sizing.{sized}
use Rattle.fut_sizes.specs.Steps.{State, Step, give, and_then}
use Rattle.alias_parts.specs.Known.{Knows}
use Rattle.size_arena.specs.declared.agreeing.SizeErr.{SizeErr}
use Rattle.size_arena.proofs.Parts.{drop_past}
use Rattle.size_program.specs.declared.maps.NumberMap.{NumberMap}
use Rattle.size_program.specs.declared.program.Program.{Program}
use Rattle.size_program.specs.declared.tables.Tables.{Tables}
use Rattle.size_program.specs.Answers.{Steps, Takes}
use Rattle.size_program.specs.Tables.{In_scope}
use Rattle.size_program.proofs.StepLaws.{given, same_step, steps_then, steps_stop}
use Rattle.size_applying.specs.declared.arguments.Part as parts
use Rattle.size_applying.specs.Wanted.{Is_part}
use Rattle.size_forms.specs.declared.lets.Bound.{Bound}
use Rattle.size_forms.specs.declared.lets.Ending.{Ending}
use Rattle.size_forms.specs.declared.lets.Opened.{Opened}
use Rattle.size_forms.specs.declared.walked.Walked.{Walked}
use Rattle.size_forms.specs.Lets.{End, Plain, all_closed, behind_heads, behind_row, body_at, let_end, let_opened, row_ends, row_opened}
use Rattle.size_forms.specs.Shown.{bound_is, end_of, opened_is, part_is}
use Rattle.size_forms.specs.Walked.{part_sized}
use Rattle.size_forms.proofs.StepForms.{same_takes, takes_then, takes_stop}
use Rattle.size_forms.proofs.LetLaws.{row_body, row_is}
use Rattle.size_walk.proofs.Joining.{halted, retold}
use Rattle.size_walk.proofs.Leading.{Leads, leads_start, leads_on, leads_to, then_leads, same_lead}

pub rows_at : (ls : List Let) (i : ℕ) (l : Let) → i < length ls → map row_of (drop i ls) ≡ row_of (get_or ls i l) ∷ map row_of (drop (i + 1) ls)
rows_at ls i l q = ap (map row_of) (drop-cons ls i l q) ∙ ap (λ j. row_of (get_or ls i l) ∷ map row_of (drop j ls)) (sym (add-one i))

pub rows_end : (ls : List Let) (i : ℕ) → length ls ≤ i → map row_of (drop i ls) ≡ []
rows_end ls i q = ap (map row_of) (drop_past ls i q)

-- ---- lets are opened, one after another

module _ (types : Sub) (p : Program) (names : NumberMap) (ls : List Let) (n : ℕ) (f : Tables) where
  abbrev Inside : NumberMap → Scope → Type 0
  Inside m scope = In_scope m scope

  abbrev left_open : ℕ → ℕ → Names → Scope → Step Scope
  left_open i m N inner = row_opened types (map row_of (drop i ls)) m N inner

  pub record Open_so_far (i m : ℕ) (inside : NumberMap) (made : List Ending) (g : Tables) : Type 0 where
    pub goes : (N : Names) (scope : Scope) → Knows p.names N → In_scope names scope → Leads (Inside inside) (row_opened types (map row_of ls) n N scope) (left_open i m N) f g
    pub ends : map end_of made ++ row_ends (map row_of (drop i ls)) m ≡ row_ends (map row_of ls) n
    pub behind : behind_row (map row_of (drop i ls)) m ≡ behind_row (map row_of ls) n

  pub open_begins : (made : List Ending) → made ≡ [] → Open_so_far 0 n names made f
  open_begins made none = subst (λ z. Open_so_far 0 n names z f) (sym none) (record {
    goes = λ N scope knows within. leads_start (Inside names) (left_open 0 n N) scope within f;
    ends = refl;
    behind = refl;
  })

  module _ (i m : ℕ) (inside : NumberMap) (made : List Ending) (g : Tables) (so_far : Open_so_far i m inside made g) where
    module _ (l : Let) (q : i < length ls) where
      abbrev then_open : ℕ → Names → Scope → Step Scope
      then_open k N inner = row_opened types (map row_of (drop (i + 1) ls)) k N inner

      one_first : (k : ℕ) → k ≡ body_at (row_of (get_or ls i l)) m → (N : Names) (inner : Scope) (s : State) → left_open i m N inner s ≡ and_then (let_opened types (row_of (get_or ls i l)) m N inner) (then_open k N) s
      unfolding row_opened
      one_first k at N inner s = ap (λ z. row_opened types z m N inner s) (rows_at ls i l q) ∙ ap (λ z. and_then (let_opened types (row_of (get_or ls i l)) m N inner) (then_open z N) s) (sym at)

      pub open_stops : {B : Type 0} (R : Names → B → Scope → Type 0) (x : SizeErr) (h : Tables) → Takes bound_is p inside (let_opened types (row_of (get_or ls i l)) m) g h (Err x) → Takes R p names (row_opened types (map row_of ls) n) f h (Err x)
      open_stops R x h first = record {
        takes = λ N scope knows within. leads_to (Inside inside) (left_open i m N) (row_opened types (map row_of ls) n N scope) f g h (so_far.goes N scope knows within) (R N) (Err x)
            (λ inner in_inner. same_step (R N) (and_then (let_opened types (row_of (get_or ls i l)) m N inner) (then_open (body_at (row_of (get_or ls i l)) m) N)) (left_open i m N inner) g h (Err x) (λ s. sym (one_first (body_at (row_of (get_or ls i l)) m) refl N inner s))
            (steps_stop (bound_is N) (R N) (let_opened types (row_of (get_or ls i l)) m N inner) (then_open (body_at (row_of (get_or ls i l)) m) N) g h h (Err x) x refl (first.takes N inner knows in_inner)));
      }

      pub open_goes : (b : Bound) (more : List Ending) (h : Tables) → Takes bound_is p inside (let_opened types (row_of (get_or ls i l)) m) g h (Ok b) → end_of b.ending ≡ let_end (row_of (get_or ls i l)) m → more ≡ made ++ b.ending ∷ [] → Open_so_far (i + 1) b.ending.inner b.names.now more h
      open_goes b more h first ending by = record {
        goes = λ N scope knows within. leads_on (Inside inside) (left_open i m N) (row_opened types (map row_of ls) n N scope) f g h (so_far.goes N scope knows within) (Inside b.names.now) (left_open (i + 1) b.ending.inner N)
            (λ inner in_inner. same_lead (Inside b.names.now) (left_open (i + 1) b.ending.inner N) (and_then (let_opened types (row_of (get_or ls i l)) m N inner) (then_open b.ending.inner N)) (left_open i m N inner) g h (one_first b.ending.inner at N inner)
            (then_leads (bound_is N) (let_opened types (row_of (get_or ls i l)) m N inner) (then_open b.ending.inner N) (Inside b.names.now) (left_open (i + 1) b.ending.inner N) g h h (Ok b) b refl (first.takes N inner knows in_inner)
            (λ next in_next. leads_start (Inside b.names.now) (left_open (i + 1) b.ending.inner N) next in_next h)));
        ends = ap (λ z. map end_of z ++ row_ends (map row_of (drop (i + 1) ls)) b.ending.inner) by
            ∙ ap (λ z. z ++ row_ends (map row_of (drop (i + 1) ls)) b.ending.inner) (ends_more made b.ending)
            ∙ append_assoc (map end_of made) (end_of b.ending ∷ []) (row_ends (map row_of (drop (i + 1) ls)) b.ending.inner)
            ∙ ap (λ z. map end_of made ++ z ∷ row_ends (map row_of (drop (i + 1) ls)) b.ending.inner) ending
            ∙ ap (λ z. map end_of made ++ let_end (row_of (get_or ls i l)) m ∷ row_ends (map row_of (drop (i + 1) ls)) z) at
            ∙ ap (λ z. map end_of made ++ row_ends z m) (sym (rows_at ls i l q))
            ∙ so_far.ends;
        behind = ap (λ z. behind_row (map row_of (drop (i + 1) ls)) z) at ∙ ap (λ z. behind_row z m) (sym (rows_at ls i l q)) ∙ so_far.behind;
      }
        where
          at : b.ending.inner ≡ body_at (row_of (get_or ls i l)) m
          at = ap (λ (z : End). z.inner) ending

          ends_more : (xs : List Ending) (x : Ending) → map end_of (xs ++ x ∷ []) ≡ map end_of xs ++ end_of x ∷ []
          ends_more [] x = refl
          ends_more (y ∷ ys) x = ap (λ z. end_of y ∷ z) (ends_more ys x)

    module _ (q : length ls ≤ i) where
      pub open_ends : (o : Opened) → o.names.now ≡ inside → Takes opened_is p names (row_opened types (map row_of ls) n) f g (Ok o)
      unfolding row_opened
      open_ends o same = record {
        takes = λ N scope knows within. leads_to (Inside inside) (left_open i m N) (row_opened types (map row_of ls) n N scope) f g g (so_far.goes N scope knows within) (opened_is N) (Ok o)
            (λ inner in_inner. same_step (opened_is N) (give inner) (left_open i m N inner) g g (Ok o) (λ s. sym (ap (λ z. row_opened types z m N inner s) (rows_end ls i q))) (given (opened_is N) o inner g (subst (λ z. In_scope z inner) (sym same) in_inner)));
      }

      pub all_ends : map end_of made ≡ row_ends (map row_of ls) n
      all_ends = sym (append-nil (map end_of made)) ∙ ap (λ z. map end_of made ++ row_ends z m) (sym (rows_end ls i q)) ∙ so_far.ends

      pub all_behind : m ≡ behind_row (map row_of ls) n
      all_behind = ap (λ z. behind_row z m) (sym (rows_end ls i q)) ∙ so_far.behind

-- ---- what stands behind them, and their ends

module _ (types : Sub) (p : Program) (names : NumberMap) (ls : List Row) (e : FlatTerm) (bs : List ℕ) (n : ℕ) (plain : Plain ls e) (f : Tables) where
  abbrev behind_open : Names → Scope → Scope → Step Part
  behind_open N scope inner = row_body N types ls e bs n inner

  abbrev closing : Names → Part → Step Part
  closing N part = all_closed types (row_ends ls n) part N

  as_row : {B : Type 0} (R : Names → B → Part → Type 0) (h : Tables) (r : Result B SizeErr) → Takes R p names (λ N scope. and_then (row_opened types ls n N scope) (behind_open N scope)) f h r → Takes R p names (part_sized types (lets ls e) bs n) f h r
  as_row R h r x = same_takes R p names (λ N scope. and_then (row_opened types ls n N scope) (behind_open N scope)) (part_sized types (lets ls e) bs n) f h r (λ N scope s. sym (row_is N types ls e bs n scope s plain)) x

  pub lets_stop : {B : Type 0} (R : Names → B → Part → Type 0) (x : SizeErr) (g h : Tables) → Takes opened_is p names (row_opened types ls n) f g (Err x) → Takes R p names (part_sized types (lets ls e) bs n) f h (Err x)
  lets_stop R x g h first = as_row R h (Err x) (takes_stop opened_is R p names (row_opened types ls n) behind_open f g h (Err x) x refl first)

  module _ (o : Opened) (g : Tables) (first : Takes opened_is p names (row_opened types ls n) f g (Ok o)) where
    opened_then : {B : Type 0} (R : Names → B → Part → Type 0) (h : Tables) (r : Result B SizeErr) → ((N : Names) (scope : Scope) → Knows p.names N → (inner : Scope) → In_scope o.names.now inner → Steps (R N) (behind_open N scope inner) g h r) → Takes R p names (part_sized types (lets ls e) bs n) f h r
    opened_then R h r rest = as_row R h r (takes_then opened_is R p names (row_opened types ls n) behind_open f g h (Ok o) o r refl first (λ N scope knows within inner in_inner. rest N scope knows inner in_inner))

    pub behind_stops : {B : Type 0} (R : Names → B → Part → Type 0) (x : SizeErr) (h k : Tables) → Takes (part_is types) p o.names.now (part_sized types e (behind_heads ls bs) (behind_row ls n)) g h (Err x) → Takes R p names (part_sized types (lets ls e) bs n) f k (Err x)
    behind_stops R x h k second = opened_then R k (Err x) (λ N scope knows inner in_inner. steps_stop (part_is types N) (R N) (sized N types e (behind_heads ls bs) (behind_row ls n) inner) (closing N) g h k (Err x) x refl (second.takes N inner knows in_inner))

    module _ (w : Walked) (h : Tables) (second : Takes (part_is types) p o.names.now (part_sized types e (behind_heads ls bs) (behind_row ls n)) g h (Ok w)) where
      behind_then : {B : Type 0} (R : Names → B → Part → Type 0) (k : Tables) (r : Result B SizeErr) → ((N : Names) → Knows p.names N → (y : Part) → Is_part N types w.part y → Steps (R N) (closing N y) h k r) → Takes R p names (part_sized types (lets ls e) bs n) f k r
      behind_then R k r rest = opened_then R k r (λ N scope knows inner in_inner. steps_then (part_is types N) (R N) (sized N types e (behind_heads ls bs) (behind_row ls n) inner) (closing N) g h k (Ok w) w r refl (second.takes N inner knows in_inner) (λ y is. rest N knows y is))

      pub close_stops : {B : Type 0} (R : Names → B → Part → Type 0) (x : SizeErr) (k l : Tables) → ((N : Names) → Knows p.names N → (y : Part) → Is_part N types w.part y → Steps (Is_part N types) (closing N y) h k (Err x)) → Takes R p names (part_sized types (lets ls e) bs n) f l (Err x)
      close_stops R x k l third = behind_then R l (Err x) (λ N knows y is. halted (Is_part N types) (R N) (closing N y) h k x l (third N knows y is))

      pub lets_done : (q : parts.Part) (next : ℕ) (k : Tables) → ((N : Names) → Knows p.names N → (y : Part) → Is_part N types w.part y → Steps (Is_part N types) (closing N y) h k (Ok q)) → Takes (part_is types) p names (part_sized types (lets ls e) bs n) f k (Ok (record { part = q; next = next }))
      lets_done q next k third = behind_then (part_is types) k (Ok (record { part = q; next = next })) (λ N knows y is. retold (Is_part N types) (part_is types N) (closing N y) h k q (record { part = q; next = next }) (λ z so. so) (third N knows y is))
