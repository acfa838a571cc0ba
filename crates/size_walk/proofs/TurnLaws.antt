-- Loops, from the answers for their parts and turns.
use Rattle.std.proofs.Common.{◌≡◌, ℕ, suc, ◌+◌, List, [], Option, Some, None, Result, Ok, Err, refl, sym, ap, ◌∙◌, subst, arith}
use Rattle.std.specs.Borrow.{Bor}
use Rattle.fut_scalar.specs.declared.place.BindId.{BindId}
use Rattle.fut_flat.specs.declared.exp.Loop.{Loop}
use Rattle.fut_flat.specs.Terms.{Counted, Over, While}
use Rattle.fut_flat.specs.Numbers.{numbers, pattern_numbers, turn_numbers}
use Rattle.fut_flat.specs.Erased.{FlatPattern, FlatTerm, FlatTurns, pattern_of, term_of}
use Rattle.fut_flat.proofs.ErasedForms.{loop_of, turns_of}
use Rattle.fut_flat.proofs.ErasedForms as flat
use Rattle.fut_types.specs.Types.{Sub}
use Rattle.fut_typing.specs.Names.{Names}
use Rattle.sized_types.specs.Sizes.{Size, levels, renamed}
use Rattle.fut_sizes.specs.Agreeing.{Answer}
use Rattle.fut_sizes.specs.Applications.{Part, whole}
use Rattle.fut_sizes.specs.Matching as matching
use Rattle.fut_sizes.specs.Scopes.{Scope, as_taken}
use Rattle.fut_sizes.specs.Sizing.{condition_sized, differing, lacking, turns_from}
use Rattle.fut_sizes.specs.Steps.{State, Step, give, and_then}
use Rattle.alias_parts.specs.Known.{Knows}
use Rattle.size_arena.specs.declared.agreeing.SizeErr.{SizeErr}
use Rattle.size_arena.specs.declared.trees.SizeTree.{SizeTree}
use Rattle.size_arena.specs.Trees.{size_of}
use Rattle.size_program.specs.declared.maps.NumberMap.{NumberMap}
use Rattle.size_program.specs.declared.program.Program.{Program}
use Rattle.size_program.specs.declared.tables.Tables.{Tables}
use Rattle.size_program.specs.Answers.{Runs, runs, Steps, Going, Takes}
use Rattle.size_program.specs.Tables.{In_scope, Stands}
use Rattle.size_program.proofs.StepLaws.{given, same_step, steps_then, steps_stop}
use Rattle.size_applying.specs.Wanted.{Is_part}
use Rattle.size_slots.specs.Held.{Holds}
use Rattle.size_forms.specs.declared.loops.Each as eachs
use Rattle.size_forms.specs.declared.turns.Carried.{Carried}
use Rattle.size_forms.specs.declared.turns.Inside.{Inside}
use Rattle.size_forms.specs.declared.turns.Turn.{Turn}
use Rattle.size_forms.specs.declared.walked.Walked.{Walked}
use Rattle.size_forms.specs.declared.walked.Whole.{Whole}
use Rattle.size_forms.specs.Loops.{Turned, each_given, kept_or_dropped, or_again, turn_entered, turn_taken}
use Rattle.size_forms.specs.Shown.{brings, each_is, inside_is, kept_is, part_is, turn_is, whole_is}
use Rattle.size_forms.specs.Walked.{part_sized, whole_sized}
use Rattle.size_forms.proofs.LoopLaws.{condition_is, counted_is, each_next, first_next, loop_is, over_is, turned, turns_end, turns_step, while_is}
use Rattle.size_forms.proofs.StepForms.{same_takes, takes_then, takes_stop}
use Rattle.size_walk.specs.Walked.{condition_going, each_end, nothing_is, turn_going, turns_going}
use Rattle.size_walk.proofs.Joining.{reformed}
use Rattle.size_walk.proofs.Leading.{Leads, leads_start, leads_on, leads_to, then_leads, same_lead}

-- ---- what is counted or gone over

module _ (types : Sub) (p : Program) (names : NumberMap) (turns : FlatTurns) (at : ℕ) where
  -- the term, its node, and that it is the turns' own
  pub record Gone (e : FlatTerm) (i : ℕ) : Type 0 where
    pub is : (N : Names) (scope : Scope) (s : State) → turns_going types turns at N scope s ≡ and_then (whole_sized types e [] i N scope) (λ t. each_given types turns at t N) s
    pub ends : each_end turns at ≡ i + numbers e

  module _ (e : FlatTerm) (i : ℕ) (gone : Gone e i) (f g h : Tables) where
    abbrev given_next : Names → Scope → Size → Step (Scope → Answer Scope)
    given_next N scope t = each_given types turns at t N

    as_gone : {B : Type 0} (R : Names → B → (Scope → Answer Scope) → Type 0) (r : Result B SizeErr) → Takes R p names (λ N scope. and_then (whole_sized types e [] i N scope) (given_next N scope)) f h r → Takes R p names (turns_going types turns at) f h r
    as_gone R r x = same_takes R p names (λ N scope. and_then (whole_sized types e [] i N scope) (given_next N scope)) (turns_going types turns at) f h r (λ N scope s. sym (gone.is N scope s)) x

    pub gone_stops : (x : SizeErr) → Takes whole_is p names (whole_sized types e [] i) f g (Err x) → Takes (each_is turns at) p names (turns_going types turns at) f h (Err x)
    gone_stops x first = as_gone (each_is turns at) (Err x) (takes_stop whole_is (each_is turns at) p names (whole_sized types e [] i) given_next f g h (Err x) x refl first)

    pub gone_done : (w : Whole) (r : Result eachs.Each SizeErr) → Takes whole_is p names (whole_sized types e [] i) f g (Ok w) → ((N : Names) → Knows p.names N → Steps (each_is turns at N) (each_given types turns at (size_of w.size.now) N) g h r) → Takes (each_is turns at) p names (turns_going types turns at) f h r
    gone_done w r first rest = as_gone (each_is turns at) r (takes_then whole_is (each_is turns at) p names (whole_sized types e [] i) given_next f g h (Ok w) w r refl first
        (λ N scope knows within t same. subst (λ z. Steps (each_is turns at N) (each_given types turns at z N) g h r) (sym same) (rest N knows)))

pub counted_gone : (types : Sub) (p : Program) (names : NumberMap) (b : BindId) (e : FlatTerm) (turns : FlatTurns) (at i : ℕ) → turns ≡ Counted b e → i ≡ at + 1 → Gone types p names turns at e i
counted_gone types p names b e turns at i is there = record {
  is = λ N scope s. ap (λ z. turns_going types z at N scope s) is ∙ counted_is N types b e at scope s
      ∙ ap (λ z. and_then (whole_sized types e [] z N scope) (λ t. each_given types (Counted b e) at t N) s) (omega (arith, there)) ∙ ap (λ z. and_then (whole_sized types e [] i N scope) (λ t. each_given types z at t N) s) (sym is);
  ends = ap (λ z. each_end z at) is ∙ omega (arith, there);
}

pub over_gone : (types : Sub) (p : Program) (names : NumberMap) (q : FlatPattern) (e : FlatTerm) (turns : FlatTurns) (at i : ℕ) → turns ≡ Over q e → i ≡ at + pattern_numbers q → Gone types p names turns at e i
over_gone types p names q e turns at i is there = record {
  is = λ N scope s. ap (λ z. turns_going types z at N scope s) is ∙ over_is N types q e at scope s
      ∙ ap (λ z. and_then (whole_sized types e [] z N scope) (λ t. each_given types (Over q e) at t N) s) (sym there) ∙ ap (λ z. and_then (whole_sized types e [] i N scope) (λ t. each_given types z at t N) s) (sym is);
  ends = ap (λ z. each_end z at) is ∙ omega (arith, there);
}

pub while_gone : (types : Sub) (p : Program) (names : NumberMap) (c : FlatTerm) (turns : FlatTurns) (at : ℕ) (f : Tables) (e : eachs.Each) → turns ≡ While c → Takes (each_is turns at) p names (turns_going types turns at) f f (Ok e)
while_gone types p names c turns at f e is = same_takes (each_is turns at) p names (λ N scope. give (λ inner. Ok inner)) (turns_going types turns at) f f (Ok e) (λ N scope s. sym (ap (λ z. turns_going types z at N scope s) is ∙ while_is N types c at scope s))
    (record { takes = λ N scope knows within. given (each_is turns at N) e (λ inner. Ok inner) f (λ inner. sym (ap (λ z. brings N z at e.size inner) is)) })

-- ---- conditions

module _ (types : Sub) (p : Program) (names : NumberMap) (turns : FlatTurns) (at : ℕ) where
  pub test_stops : (c : FlatTerm) → turns ≡ While c → (x : SizeErr) (f g h : Tables) → Takes whole_is p names (whole_sized types c [] at) f g (Err x) → Takes nothing_is p names (condition_going types turns at) f h (Err x)
  test_stops c is x f g h first = same_takes nothing_is p names (λ N scope. and_then (whole_sized types c [] at N scope) (λ z. give tt)) (condition_going types turns at) f h (Err x) (λ N scope s. sym (ap (λ z. condition_going types z at N scope s) is ∙ condition_is N types c at scope s))
      (takes_stop whole_is nothing_is p names (whole_sized types c [] at) (λ N scope z. give tt) f g h (Err x) x refl first)

  pub tested : (c : FlatTerm) → turns ≡ While c → (f g : Tables) (w : Whole) (next : ℕ) → Takes whole_is p names (whole_sized types c [] at) f g (Ok w) → Takes nothing_is p names (condition_going types turns at) f g (Ok next)
  tested c is f g w next first = same_takes nothing_is p names (λ N scope. and_then (whole_sized types c [] at N scope) (λ z. give tt)) (condition_going types turns at) f g (Ok next) (λ N scope s. sym (ap (λ z. condition_going types z at N scope s) is ∙ condition_is N types c at scope s))
      (takes_then whole_is nothing_is p names (whole_sized types c [] at) (λ N scope z. give tt) f g g (Ok w) w (Ok next) refl first (λ N scope knows within z same. given (nothing_is N) next tt g tt))

  pub counted_passed : (b : BindId) (e : FlatTerm) → turns ≡ Counted b e → (f : Tables) (next : ℕ) → Takes nothing_is p names (condition_going types turns at) f f (Ok next)
  unfolding condition_sized
  counted_passed b e is f next = same_takes nothing_is p names (λ N scope. give tt) (condition_going types turns at) f f (Ok next) (λ N scope s. sym (ap (λ z. condition_going types z at N scope s) is)) (record { takes = λ N scope knows within. given (nothing_is N) next tt f tt })

  pub over_passed : (q : FlatPattern) (e : FlatTerm) → turns ≡ Over q e → (f : Tables) (next : ℕ) → Takes nothing_is p names (condition_going types turns at) f f (Ok next)
  unfolding condition_sized
  over_passed q e is f next = same_takes nothing_is p names (λ N scope. give tt) (condition_going types turns at) f f (Ok next) (λ N scope s. sym (ap (λ z. condition_going types z at N scope s) is)) (record { takes = λ N scope knows within. given (nothing_is N) next tt f tt })

-- ---- one turn

module _ (N : Names) (types : Sub) (p : Program) (knows : Knows p.names N) (l : Loop) (n at : ℕ) (t : Size) (names : NumberMap) (scope : Scope) (within : In_scope names scope) (each : Scope → Answer Scope) (c : Carried) (f : Tables)
    (dropped : (s : State) → Stands f s → c.dropped.now ≡ s.dropped n) (size : size_of c.size.now ≡ lacking N types n c.dropped.now 0 t) where
  abbrev body_number : ℕ
  body_number = at + turn_numbers (turns_of l.form)

  abbrev entering : Step Turned
  entering = turn_entered types n body_number l.sizes.now (pattern_of l.pat) each (size_of c.size.now) N scope

  abbrev renamed_so : Turned → Size → Step Size
  renamed_so inside u = give (renamed (as_taken l.sizes.now inside.found) u)

  abbrev the_body : Scope → Step Size
  the_body inner = whole_sized types (term_of l.body) [] body_number N inner

  abbrev body_next : Turned → Unit {0} → Step Size
  body_next inside z = and_then (the_body inside.scope) (renamed_so inside)

  abbrev condition_next : Turned → Step Size
  condition_next inside = and_then (condition_sized N types (turns_of l.form) at inside.scope) (body_next inside)

  abbrev ending : Size → Step (Option Size)
  ending u = kept_or_dropped n (differing N types c.dropped.now 0 (size_of c.size.now) u) (size_of c.size.now)

  abbrev the_turn : Step (Option Size)
  the_turn = turn_taken N types n t (turn_going types l n at each N scope)

  -- the turn begins with what the loop keeps so far
  turn_then : {B : Type 0} (R : B → Option Size → Type 0) (k : Tables) (r : Result B SizeErr) → Steps R (and_then (and_then entering condition_next) ending) f k r → Steps R the_turn f k r
  turn_then R k r x = record {
    steps = λ s stands. subst (λ z. Runs R z k r) (by_dropped s stands) (x.steps s stands);
  }
    where
      by_dropped : (s : State) → Stands f s → and_then (and_then entering condition_next) ending s ≡ the_turn s
      by_dropped s stands = by_lacking (size_of c.size.now) size s
          ∙ ap (λ ds. and_then (turn_going types l n at each N scope (lacking N types n ds 0 t)) (λ u. kept_or_dropped n (differing N types ds 0 (lacking N types n ds 0 t) u) (lacking N types n ds 0 t)) s) (dropped s stands)
        where
          by_lacking : (u : Size) → u ≡ lacking N types n c.dropped.now 0 t → (s : State)
              → and_then (turn_going types l n at each N scope u) (λ v. kept_or_dropped n (differing N types c.dropped.now 0 u v) u) s
              ≡ and_then (turn_going types l n at each N scope (lacking N types n c.dropped.now 0 t)) (λ v. kept_or_dropped n (differing N types c.dropped.now 0 (lacking N types n c.dropped.now 0 t) v) (lacking N types n c.dropped.now 0 t)) s
          by_lacking u same s = ap (λ z. and_then (turn_going types l n at each N scope z) (λ v. kept_or_dropped n (differing N types c.dropped.now 0 z v) z) s) same

  module _ {B : Type 0} (R : B → Option Size → Type 0) where
    pub enter_stops : (x : SizeErr) (g k : Tables) → Steps inside_is entering f g (Err x) → Steps R the_turn f k (Err x)
    enter_stops x g k first = turn_then R k (Err x) (steps_stop no_size R (and_then entering condition_next) ending f g k (Err x) x refl (steps_stop inside_is no_size entering condition_next f g g (Err x) x refl first))
      where
        no_size : Unit {0} → Size → Type 0
        no_size u s = Unit {0}

    module _ (i : Inside) (g : Tables) (first : Steps inside_is entering f g (Ok i)) where
      entered_then : {C : Type 0} (Q : C → Size → Type 0) (h k : Tables) (v : Result C SizeErr) → ((inside : Turned) → inside_is i inside → Steps Q (condition_next inside) g h v) → Steps Q (and_then entering condition_next) f h v
      entered_then Q h k v rest = steps_then inside_is Q entering condition_next f g h (Ok i) i v refl first rest

      -- the condition is passed, and the body is sized
      module _ (begin : ℕ) (there : begin ≡ body_number) (h : Tables) where
        pub condition_stops : (x : SizeErr) (k l' : Tables) → Takes nothing_is p i.names.now (condition_going types (turns_of l.form) at) g h (Err x) → Steps R the_turn f l' (Err x)
        condition_stops x k l' second = turn_then R l' (Err x) (steps_stop no_size R (and_then entering condition_next) ending f h l' (Err x) x refl
            (entered_then no_size h h (Err x) (λ inside so. steps_stop (nothing_is N) no_size (condition_sized N types (turns_of l.form) at inside.scope) (body_next inside) g h h (Err x) x refl (second.takes N inside.scope knows so.0))))
          where
            no_size : Unit {0} → Size → Type 0
            no_size u s = Unit {0}

        module _ (second : Takes nothing_is p i.names.now (condition_going types (turns_of l.form) at) g h (Ok begin)) where
          passed_then : {C : Type 0} (Q : C → Size → Type 0) (k l' : Tables) (v : Result C SizeErr) → ((inside : Turned) → inside_is i inside → Steps Q (body_next inside tt) h l' v) → Steps Q (and_then entering condition_next) f l' v
          passed_then Q k l' v rest = entered_then Q l' l' v (λ inside so. steps_then (nothing_is N) Q (condition_sized N types (turns_of l.form) at inside.scope) (body_next inside) g h l' (Ok begin) begin v refl (second.takes N inside.scope knows so.0) (λ z done. rest inside so))

          body_there : {k : Tables} {w : Result Whole SizeErr} → Takes whole_is p i.names.now (whole_sized types (term_of l.body) [] begin) h k w → (inside : Turned) → inside_is i inside → Steps (whole_is N) (the_body inside.scope) h k w
          body_there {k = k} {w = w} third inside so = subst (λ z. Steps (whole_is N) (whole_sized types (term_of l.body) [] z N inside.scope) h k w) there (third.takes N inside.scope knows so.0)

          pub body_stops : (x : SizeErr) (k l' : Tables) → Takes whole_is p i.names.now (whole_sized types (term_of l.body) [] begin) h k (Err x) → Steps R the_turn f l' (Err x)
          body_stops x k l' third = turn_then R l' (Err x) (steps_stop no_size R (and_then entering condition_next) ending f k l' (Err x) x refl
              (passed_then no_size k k (Err x) (λ inside so. steps_stop (whole_is N) no_size (the_body inside.scope) (renamed_so inside) h k k (Err x) x refl (body_there third inside so))))
            where
              no_size : Unit {0} → Size → Type 0
              no_size u s = Unit {0}

          pub turn_ends : (w : Whole) (k l' : Tables) (made : Bor SizeTree) (r : Result B SizeErr) → Takes whole_is p i.names.now (whole_sized types (term_of l.body) [] begin) h k (Ok w)
              → ((σ : matching.Found) → Holds i.bindings.found σ → size_of made.now ≡ renamed (as_taken l.sizes.now σ) (size_of w.size.now)) → Steps R (ending (size_of made.now)) k l' r → Steps R the_turn f l' r
          turn_ends w k l' made r third renames last = turn_then R l' r (steps_then tree_so R (and_then entering condition_next) ending f k l' (Ok made) made r refl
              (passed_then tree_so k k (Ok made) (λ inside so. steps_then (whole_is N) tree_so (the_body inside.scope) (renamed_so inside) h k k (Ok w) w (Ok made) refl (body_there third inside so)
              (λ u same. given tree_so made (renamed (as_taken l.sizes.now inside.found) u) k (ap (renamed (as_taken l.sizes.now inside.found)) same ∙ sym (renames inside.found so.1)))))
              (λ u same. subst (λ z. Steps R (ending z) k l' r) (sym same) last))
            where
              tree_so : Bor SizeTree → Size → Type 0
              tree_so t u = u ≡ size_of t.now

-- ---- turns, one after another

abbrev No_more : Unit {0} → Type 0
No_more u = Unit {0}

module _ (N : Names) (types : Sub) (n : ℕ) (t : Size) (turn : Size → Step Size) (f : Tables) where
  abbrev all_turns : Step Size
  all_turns = turns_from N types (suc (levels t)) n t turn

  abbrev turns_left : ℕ → Unit {0} → Step Size
  turns_left left z = turns_from N types (suc left) n t turn

  abbrev pub Turns_so_far : ℕ → Tables → Type 0
  Turns_so_far left g = Leads No_more all_turns (turns_left left) f g

  pub turns_begin : (left : ℕ) → left ≡ levels t → Turns_so_far left f
  turns_begin left same = subst (λ z. Leads No_more all_turns (turns_left z) f f) (sym same) (leads_start No_more (turns_left (levels t)) tt tt f)

  module _ (left : ℕ) (g : Tables) (so_far : Turns_so_far left g) where
    abbrev again : Option Size → Step Size
    again o = or_again o (turns_from N types left n t turn)

    turned_then : {B : Type 0} (R : B → Size → Type 0) (k : Tables) (r : Result B SizeErr) → Steps R (and_then (turn_taken N types n t turn) again) g k r → Steps R all_turns f k r
    turned_then R k r x = leads_to No_more (turns_left left) all_turns f g k so_far R r (λ z so. same_step R (and_then (turn_taken N types n t turn) again) (turns_left left z) g k r (λ s. sym (turns_step N types left n t turn s)) x)

    pub turn_stops : {B : Type 0} (R : B → Size → Type 0) (x : SizeErr) (h k : Tables) → Steps turn_is (turn_taken N types n t turn) g h (Err x) → Steps R all_turns f k (Err x)
    turn_stops R x h k first = turned_then R k (Err x) (steps_stop turn_is R (turn_taken N types n t turn) again g h k (Err x) x refl first)

    module _ (tn : Turn) (h : Tables) (first : Steps turn_is (turn_taken N types n t turn) g h (Ok tn)) where
      pub turn_kept : (u : Bor SizeTree) → tn.kept ≡ Some u → (w : Whole) → w.size ≡ u → Steps (whole_is N) all_turns f h (Ok w)
      turn_kept u is w same = turned_then (whole_is N) h (Ok w) (steps_then turn_is (whole_is N) (turn_taken N types n t turn) again g h h (Ok tn) tn (Ok w) refl first (λ o kept. by_kept o (subst (λ z. kept_is z o) is kept)))
        where
          by_kept : (o : Option Size) → kept_is (Some u) o → Steps (whole_is N) (again o) h h (Ok w)
          by_kept (Some v) kept = given (whole_is N) w v h (kept ∙ sym (ap (λ (z : Bor SizeTree). size_of z.now) same))
          by_kept None kept = elim kept [ ]

      module _ (is : tn.kept ≡ None) where
        again_then : {B : Type 0} (R : B → Size → Type 0) (k : Tables) (r : Result B SizeErr) → Steps R (turns_from N types left n t turn) h k r → Steps R all_turns f k r
        again_then R k r rest = turned_then R k r (steps_then turn_is R (turn_taken N types n t turn) again g h k (Ok tn) tn r refl first (λ o kept. by_kept o (subst (λ z. kept_is z o) is kept)))
          where
            by_kept : (o : Option Size) → kept_is None o → Steps R (again o) h k r
            by_kept (Some v) kept = elim kept [ ]
            by_kept None kept = rest

        -- none is left
        pub turn_last : left ≡ 0 → (c : Carried) → ((s : State) → Stands h s → c.dropped.now ≡ s.dropped n) → size_of c.size.now ≡ lacking N types n c.dropped.now 0 t → (w : Whole) → w.size ≡ c.size → Steps (whole_is N) all_turns f h (Ok w)
        turn_last none c dropped size w same = again_then (whole_is N) h (Ok w) (subst (λ z. Steps (whole_is N) (turns_from N types z n t turn) h h (Ok w)) (sym none) (record {
          steps = λ s stands. runs s (turns_end N types n t turn s) (sym (ap (λ (z : Bor SizeTree). size_of z.now) same ∙ size ∙ ap (λ z. lacking N types n z 0 t) (dropped s stands))) stands;
        }))

        -- there is another
        pub turn_again : (less : ℕ) → left ≡ suc less → Turns_so_far less h
        turn_again less one = leads_on No_more (turns_left left) all_turns f g h so_far No_more (turns_left less)
            (λ z so. same_lead No_more (turns_left less) (and_then (turn_taken N types n t turn) again) (turns_left left z) g h (turns_step N types left n t turn)
            (then_leads turn_is (turn_taken N types n t turn) again No_more (turns_left less) g h h (Ok tn) tn refl first (λ o kept. by_kept o (subst (λ z. kept_is z o) is kept))))
          where
            by_kept : (o : Option Size) → kept_is None o → Leads No_more (again o) (turns_left less) h h
            by_kept (Some v) kept = elim kept [ ]
            by_kept None kept = subst (λ y. Leads No_more (turns_from N types y n t turn) (turns_left less) h h) (sym one) (leads_start No_more (turns_left less) tt tt h)

-- ---- the whole loop

module _ (types : Sub) (p : Program) (names : NumberMap) (l : Loop) (bs : List ℕ) (n i at : ℕ) (value : i ≡ 1 + n + pattern_numbers (pattern_of l.pat)) (begin : at ≡ i + numbers (term_of l.first)) (f : Tables) where
  abbrev loop_going : Going Part
  loop_going = part_sized types (loop_of l) bs n

  abbrev after_first : Names → Scope → Size → Step Part
  after_first N scope t = first_next N types n l.sizes.now (pattern_of l.pat) (turns_of l.form) at (term_of l.body) scope t

  abbrev after_each : Names → Scope → Size → (Scope → Answer Scope) → Step Part
  after_each N scope t each = each_next N types n l.sizes.now (pattern_of l.pat) (turns_of l.form) at (term_of l.body) scope t each

  abbrev the_turns : Names → Scope → Size → (Scope → Answer Scope) → Step Size
  the_turns N scope t each = turns_from N types (suc (levels t)) n t (turn_going types l n at each N scope)

  as_loop : {B : Type 0} (R : Names → B → Part → Type 0) (h : Tables) (r : Result B SizeErr) → Takes R p names (λ N scope. and_then (whole_sized types (term_of l.first) [] i N scope) (after_first N scope)) f h r → Takes R p names loop_going f h r
  as_loop R h r x = same_takes R p names (λ N scope. and_then (whole_sized types (term_of l.first) [] i N scope) (after_first N scope)) loop_going f h r
      (λ N scope s. sym (ap (λ z. part_sized types z bs n N scope s) (flat.loop_is l) ∙ loop_is N types l.mark l.sizes.now (pattern_of l.pat) (term_of l.first) (turns_of l.form) (term_of l.body) bs n i at scope s value begin)) x

  module _ {B : Type 0} (R : Names → B → Part → Type 0) where
    pub first_stops : (x : SizeErr) (g h : Tables) → Takes whole_is p names (whole_sized types (term_of l.first) [] i) f g (Err x) → Takes R p names loop_going f h (Err x)
    first_stops x g h first = as_loop R h (Err x) (takes_stop whole_is R p names (whole_sized types (term_of l.first) [] i) after_first f g h (Err x) x refl first)

    module _ (w : Whole) (g : Tables) (first : Takes whole_is p names (whole_sized types (term_of l.first) [] i) f g (Ok w)) where
      first_then : (h : Tables) (r : Result B SizeErr) → ((N : Names) (scope : Scope) → Knows p.names N → In_scope names scope → Steps (R N) (after_first N scope (size_of w.size.now)) g h r) → Takes R p names loop_going f h r
      first_then h r rest = as_loop R h r (takes_then whole_is R p names (whole_sized types (term_of l.first) [] i) after_first f g h (Ok w) w r refl first
          (λ N scope knows within t same. subst (λ z. Steps (R N) (after_first N scope z) g h r) (sym same) (rest N scope knows within)))

      pub each_stops : (x : SizeErr) (h k : Tables) → Takes (each_is (turns_of l.form) at) p names (turns_going types (turns_of l.form) at) g h (Err x) → Takes R p names loop_going f k (Err x)
      each_stops x h k second = first_then k (Err x) (λ N scope knows within. steps_stop (each_is (turns_of l.form) at N) (R N) (turns_going types (turns_of l.form) at N scope) (after_each N scope (size_of w.size.now)) g h k (Err x) x refl (second.takes N scope knows within))

      module _ (e : eachs.Each) (h : Tables) (second : Takes (each_is (turns_of l.form) at) p names (turns_going types (turns_of l.form) at) g h (Ok e)) where
        each_then : (k : Tables) (r : Result B SizeErr) → ((N : Names) (scope : Scope) (each : Scope → Answer Scope) → Knows p.names N → In_scope names scope → each_is (turns_of l.form) at N e each → Steps (R N) (after_each N scope (size_of w.size.now) each) h k r) → Takes R p names loop_going f k r
        each_then k r rest = first_then k r (λ N scope knows within. steps_then (each_is (turns_of l.form) at N) (R N) (turns_going types (turns_of l.form) at N scope) (after_each N scope (size_of w.size.now)) g h k (Ok e) e r refl (second.takes N scope knows within) (λ each so. rest N scope each knows within so))

        pub turns_stop : (x : SizeErr) (k m : Tables) → ((N : Names) (scope : Scope) (each : Scope → Answer Scope) → Knows p.names N → In_scope names scope → each_is (turns_of l.form) at N e each → Steps (whole_is N) (the_turns N scope (size_of w.size.now) each) h k (Err x)) → Takes R p names loop_going f m (Err x)
        turns_stop x k m third = each_then m (Err x) (λ N scope each knows within so. steps_stop (whole_is N) (R N) (the_turns N scope (size_of w.size.now) each) (λ r. give (whole r)) h k m (Err x) x refl (third N scope each knows within so))

  pub loop_done : (w : Whole) (g : Tables) (first : Takes whole_is p names (whole_sized types (term_of l.first) [] i) f g (Ok w)) (e : eachs.Each) (h : Tables) (second : Takes (each_is (turns_of l.form) at) p names (turns_going types (turns_of l.form) at) g h (Ok e)) (turned : Whole) (k : Tables)
      → ((N : Names) (scope : Scope) (each : Scope → Answer Scope) → Knows p.names N → In_scope names scope → each_is (turns_of l.form) at N e each → Steps (whole_is N) (the_turns N scope (size_of w.size.now) each) h k (Ok turned))
      → (v : Walked) → ((N : Names) (types : Sub) → Is_part N types v.part (whole (size_of turned.size.now))) → Takes (part_is types) p names loop_going f k (Ok v)
  loop_done w g first e h second turned k third v part = each_then (part_is types) w g first e h second k (Ok v)
      (λ N scope each knows within so. reformed (whole_is N) (part_is types N) (the_turns N scope (size_of w.size.now) each) whole h k turned v (λ r same. subst (λ z. Is_part N types v.part (whole z)) (sym same) (part N types)) (third N scope each knows within so))
