-- What a loop unfolds to, from its first value on, and where it is stuck.
use Rattle.std.proofs.Common.{◌≡◌, ℕ, suc, ◌+◌, ◌≤◌, ◌++◌, [], ◌∷◌, length, Option, Some, None, Ok, Err, sym, ap, ◌∙◌, subst, append_assoc, append-nil, arith}
use Rattle.std.specs.Prelude.{Result}
use Rattle.std.proofs.lemmas.List.{length-append}
use Rattle.fut_scalar.specs.declared.place.BindId.{BindId}
use Rattle.fut_flat.specs.declared.exp.Exp.{Exp}
use Rattle.fut_flat.specs.declared.exp.Loop.{Loop as LoopTree}
use Rattle.fut_flat.specs.declared.exp.LoopForm.TheVariants as turns
use Rattle.fut_flat.specs.declared.pat.Pat.{Pat}
use Rattle.fut_flat.specs.Erased.{FlatPattern, FlatTerm, FlatTurns, pattern_of, term_of}
use Rattle.fut_flat.specs.Numbers.{numbers, pattern_numbers, turn_numbers}
use Rattle.fut_flat.specs.Terms.{Counted, Over, While}
use Rattle.fut_flat.proofs.ErasedForms.{loop_of, loop_is, turns_of, turns_counted, turns_over, turns_while}
use Rattle.fut_blocks.specs.Plain.{body_of, lets}
use Rattle.fut_blocks.specs.Plain as act
use Rattle.unfold.specs.Held.{known_of, scope_of}
use Rattle.unfold.specs.Knowns.{Known, Scope, name_and}
use Rattle.unfold.specs.Stuck.{No_data, Not_bound, carried, first_function, no_count, no_row, no_rows, no_test, no_turn, stuck_body, stuck_count, stuck_first, stuck_rows, stuck_test, stuck_turns, turn_counted, turn_function, turn_row, turn_tested}
use Rattle.unfold.specs.Unfolding.{Bindings, named, step, u_counted, u_over, u_packed, u_while}
use Rattle.unfold.specs.declared.known.Scope.{Scope as Held_scope}
use Rattle.unfold_parts.specs.Answers.{answered, unanswered, Bound_to, Cut, Named_as, named_as, not_named}
use Rattle.unfold_parts.specs.Layouts.{shape_of}
use Rattle.unfold_parts.specs.Refused.{Refused, no_memory}
use Rattle.unfold_parts.specs.States.{steps_of}
use Rattle.unfold_parts.specs.declared.refusal.Refusal.{Refusal}
use Rattle.unfold_parts.specs.declared.steps.Unfolding.{Unfolding}
use Rattle.unfold_parts.proofs.Refusing.{refused_as}
use Rattle.unfold_program.specs.declared.walked.Branch.{Branch}
use Rattle.unfold_program.specs.declared.walked.Context.{Context}
use Rattle.unfold_program.specs.declared.walked.Shapes.{Shapes}
use Rattle.unfold_program.specs.declared.walked.Entered.{Entered}
use Rattle.unfold_program.specs.declared.walked.Walked.{Walked}
use Rattle.unfold_program.specs.declared.walked.WalkedScalar.{WalkedScalar}
use Rattle.unfold_program.specs.Answers.{Unfolded, unfolded, refused, Not_scalar, stuck_term, other_value, Scalar_unfolded, scalar_unfolded, no_scalar_unfolded, Entered_to, entered_to, not_entered, Turn_bound_to, turn_bound_to, not_turn_bound, No_row_names, no_value_names, no_names_of_row, Row_bound_to, row_bound_to, not_row_bound, Stepped_to, stepped_to, not_stepped, Packed_walk, packed_walk, not_packed_walk, Loop_stuck, Looped_to, looped_to, turns_differ, not_looped, Tried_to, tried_to, has_to_pack, not_tried, No_truth, no_names_of_value, stuck_truth, other_truth, Tested_to, tested_to, not_tested, Scalar_closed, scalar_closed, not_scalar_closed, No_block, stuck_inside, gives_function, Blocked_to, blocked_to, block_differs, not_blocked, agreed, defined, told}
use Rattle.unfold_program.proofs.Growing.{grown, moved, stuck_at, ending, known_as}
use Rattle.fut_meaning.specs.Found.{Sizing}
use Rattle.told_rows.specs.Tables.{Told_by}
use Rattle.unfold.specs.Stuck as lacking
use Rattle.unfold.specs.Telling.{enter}
use Rattle.unfold.specs.Unfolding as rules
use Rattle.unfold_parts.specs.Told.{Held_sizes, Binds, Binds_to, Turn_names}

-- ---- the nodes of patterns

-- of the pattern of a loop, whose own node is the one before
there : (S : Held_sizes) {p : FlatPattern} {s : Known} {sc inner : Scope} {n m inside : ℕ} {bs : Bindings} (lo : ℕ) → inside ≡ lo + 1 → Binds S inside p s sc n bs inner m → (Z : Option Sizing) → Told_by S Z → rules.Binds Z (1 + lo) p s sc n bs inner m
there S {p} {s} {sc} {inner} {n} {m} {inside} {bs} lo e b Z t = subst (λ z. rules.Binds Z z p s sc n bs inner m) (let q : inside ≡ 1 + lo = omega (arith, e) in q) (b Z t)

bound_there : (S : Held_sizes) {p : FlatPattern} {s : Known} {sc inner : Scope} {inside : ℕ} (lo : ℕ) → inside ≡ lo + 1 → Binds_to S inside p s sc inner → (Z : Option Sizing) → Told_by S Z → lacking.Binds_to Z (1 + lo) p s sc inner
bound_there S lo e b Z t = (b.0, b.1, b.2, there S lo e b.3 Z t)

row_there : (S : Held_sizes) {p : FlatPattern} {s : Known} {sc inner : Scope} {n m at at' : ℕ} {bs : Bindings} → at ≡ at' → Binds S at p s sc n bs inner m → (Z : Option Sizing) → Told_by S Z → rules.Binds Z at' p s sc n bs inner m
row_there S {p} {s} {sc} {inner} {n} {m} {bs = bs} e b Z t = subst (λ z. rules.Binds Z z p s sc n bs inner m) e (b Z t)

-- ---- a loop around its turns

module _ (c : Context) (sc : Scope) (inside : ℕ) (l : LoopTree) (turns : FlatTurns) (first : Walked) (old new : Unfolding) (r : Result (Option Walked) Refusal) (is : turns_of l.form ≡ turns) where
  pub as_turns : Looped_to c sc inside l turns first old new r → Looped_to c sc inside l (turns_of l.form) first old new r
  as_turns h = subst (λ z. Looped_to c sc inside l z first old new r) (sym is) h

module _ (c : Context) (sc : Scope) (inside : ℕ) (l : LoopTree) (first : Walked) (old new : Unfolding) (r : Result (Option Walked) Refusal) where
  pub turns_for : (i : BindId) (n : Exp) → l.form ≡ turns.For i n → Looped_to c sc inside l (Counted i (term_of n)) first old new r → Looped_to c sc inside l (turns_of l.form) first old new r
  turns_for i n is h = as_turns c sc inside l (Counted i (term_of n)) first old new r (ap turns_of is ∙ turns_counted i n) h

  pub turns_for_in : (p : Pat) (e : Exp) → l.form ≡ turns.ForIn p e → Looped_to c sc inside l (Over (pattern_of p) (term_of e)) first old new r → Looped_to c sc inside l (turns_of l.form) first old new r
  turns_for_in p e is h = as_turns c sc inside l (Over (pattern_of p) (term_of e)) first old new r (ap turns_of is ∙ turns_over p e) h

  pub turns_test : (t : Exp) → l.form ≡ turns.While t → Looped_to c sc inside l (While (term_of t)) first old new r → Looped_to c sc inside l (turns_of l.form) first old new r
  turns_test t is h = as_turns c sc inside l (While (term_of t)) first old new r (ap turns_of is ∙ turns_while t) h

module _ (c : Context) (sc : Scope) (l : LoopTree) (lo inside value : ℕ) (old : Unfolding) (q : inside ≡ lo + 1) (q' : value ≡ inside + pattern_numbers (pattern_of l.pat)) where
  pub loop_first_err : (mid new : Unfolding) (r : Refusal) → Unfolded c sc value (term_of l.first) old mid (Err r) → Unfolded c sc lo (loop_of l) old new (Err r)
  loop_first_err mid new r (refused x) = subst (λ z. Unfolded c sc lo z old new (Err r)) (sym (loop_is l)) (refused (refused_as (λ w td tl. stuck_first ((stuck_at c (omega (arith, q, q')) w) td tl)) x))

  module _ (mid : Unfolding) (first : Walked) where
    pub loop_looped : (new : Unfolding) (r : Walked) → Unfolded c sc value (term_of l.first) old mid (Ok first) → Looped_to c sc inside l (turns_of l.form) first mid new (Ok (Some r)) → Unfolded c sc lo (loop_of l) old new (Ok r)
    loop_looped new r (unfolded bs g u h) (looped_to k) =
        subst (λ z. Unfolded c sc lo z old new (Ok r)) (sym (loop_is l))
        (unfolded (bs ++ k.steps) (grown (steps_of old) (steps_of mid) (steps_of new) bs k.steps g k.grown) (k.unfolds lo old.next bs q (omega (arith, q, q', h)) (moved c (omega (arith, q, q')) u)) (omega (arith, q, q', h, k.behind)))

    pub loop_turns_err : (new later : Unfolding) (r : Refusal) → Unfolded c sc value (term_of l.first) old mid (Ok first) → Looped_to c sc inside l (turns_of l.form) first mid new (Err r) → Unfolded c sc lo (loop_of l) old later (Err r)
    loop_turns_err new later r (unfolded bs g u h) (not_looped x) =
        subst (λ z. Unfolded c sc lo z old later (Err r)) (sym (loop_is l))
        (refused (refused_as (λ w. w lo old.next bs q (omega (arith, q, q', h)) (moved c (omega (arith, q, q')) u)) x))

    pub loop_tried : (new : Unfolding) (r : Walked) → Unfolded c sc value (term_of l.first) old mid (Ok first) → Tried_to c sc inside l (turns_of l.form) first mid new (Ok (Some r)) → Unfolded c sc lo (loop_of l) old new (Ok r)
    loop_tried new r u (tried_to k) = loop_looped new r u (looped_to k)

    pub loop_tried_err : (new later : Unfolding) (r : Refusal) → Unfolded c sc value (term_of l.first) old mid (Ok first) → Tried_to c sc inside l (turns_of l.form) first mid new (Err r) → Unfolded c sc lo (loop_of l) old later (Err r)
    loop_tried_err new later r u (not_tried x) = loop_turns_err new later r u (not_looped x)

    pub loop_unpacked : (now new : Unfolding) (r : Refusal) → Unfolded c sc value (term_of l.first) old mid (Ok first) → Packed_walk first now new (Err r) → Unfolded c sc lo (loop_of l) old new (Err r)
    loop_unpacked now new r (unfolded bs g u h) (not_packed_walk x) =
        subst (λ z. Unfolded c sc lo z old new (Err r)) (sym (loop_is l))
        (refused (refused_as (λ lacks td tl. first_function ((moved c (omega (arith, q, q')) u) td tl) lacks) x))

-- the first value as one component, from where as many steps and names stand again
pub packed_first : (c : Context) (sc : Scope) (inside value : ℕ) (t : FlatTerm) (old mid now new : Unfolding) (first w : Walked) (l : LoopTree) (turns : FlatTurns) → Tried_to c sc inside l turns first mid now (Ok None) → Unfolded c sc value t old mid (Ok first) → Packed_walk first now new (Ok w) → Unfolded c sc value t old new (Ok w)
packed_first c sc inside value t old mid now new first w l turns (has_to_pack e n) (unfolded bs g u h) (packed_walk cs g' p is k) =
    unfolded (bs ++ cs) (grown (steps_of old) (steps_of mid) (steps_of new) bs cs g (g' ∙ ap (λ z. z ++ cs) e)) (known_as c (sym is) (λ td tl. u_packed ((ending c (sym n) u) td tl) p)) (k ∙ h)

-- the first try
module _ (c : Context) (sc : Scope) (inside : ℕ) (l : LoopTree) (turns : FlatTurns) (first : Walked) (old mid : Unfolding) where
  pub tried_looped : (r : Walked) → Looped_to c sc inside l turns first old mid (Ok (Some r)) → Tried_to c sc inside l turns first old mid (Ok (Some r))
  tried_looped r (looped_to k) = tried_to k

  pub tried_err : (later : Unfolding) (r : Refusal) → Looped_to c sc inside l turns first old mid (Err r) → Tried_to c sc inside l turns first old later (Err r)
  tried_err later r (not_looped x) = not_tried x

  pub turns_mark : (mark : ℕ) → mark ≡ length (steps_of old) → Looped_to c sc inside l turns first old mid (Ok None) → mark ≤ length (steps_of mid)
  turns_mark mark q (turns_differ bs none g) = omega (arith, q, ap length g, length-append (steps_of old) bs)

  pub tried_again : (mark : ℕ) (now : Unfolding) → mark ≡ length (steps_of old) → Looped_to c sc inside l turns first old mid (Ok None) → Cut mark (steps_of mid) (steps_of now) → now.next ≡ old.next → Tried_to c sc inside l turns first old now (Ok None)
  tried_again mark now q (turns_differ bs none g) f n = has_to_pack (f (steps_of old) bs (sym q) g) n

-- ---- what a turn has in common, however many there are

module _ (c : Context) (sc : Scope) (inside : ℕ) (l : LoopTree) (turns : FlatTurns) (first : Walked) (old new : Unfolding) where
  pub unentered : (n n' : ℕ) (r : Refusal) → Entered_to (known_of first.known) n n' (Err r) → Looped_to c sc inside l turns first old new (Err r)
  unentered n n' r (not_entered x) = not_looped (refused_as (λ lacks lo i bs at' at v td tl. first_function (v td tl) lacks) x)

  pub unnamed : (n n' : ℕ) (r : Refusal) → Named_as n n' (Err r) → Looped_to c sc inside l turns first old new (Err r)
  unnamed n n' _ not_named = not_looped no_memory

  module _ (n n' : ℕ) (en : Entered) where
    unbound : Entered_to (known_of first.known) n n' (Ok en) → Not_bound (pattern_of l.pat) (known_of en.known) → Loop_stuck c sc inside l turns first old
    unbound (entered_to la up lt) lacks lo i bs at' at v td tl = no_turn (carried (v td tl) la lt) lacks

    -- no block is made of the body
    body_stuck : {names inner : Scope} {at : ℕ} → at ≡ first.at + turn_numbers turns → Entered_to (known_of first.known) n n' (Ok en) → Binds_to (told c).sizes inside (pattern_of l.pat) (known_of en.known) sc names → ((lo : ℕ) → first.at ≡ 1 + lo + pattern_numbers (pattern_of l.pat) + numbers (term_of l.first) → Turn_names (told c) (defined c) sc names (1 + lo + pattern_numbers (pattern_of l.pat) + numbers (term_of l.first)) turns inner) → No_block c inner at (term_of l.body) → Loop_stuck c sc inside l turns first old
    body_stuck k (entered_to la up lt) b turn (stuck_inside z) lo i bs at' at v td tl = stuck_body (carried (v td tl) la lt) (bound_there (told c).sizes lo at' b td.sizes tl.sizes) ((turn lo at) td tl) ((stuck_at c (omega (arith, k, at)) z) td tl)
    body_stuck k (entered_to la up lt) b turn (gives_function u lacks) lo i bs at' at v td tl = turn_function (carried (v td tl) la lt) (bound_there (told c).sizes lo at' b td.sizes tl.sizes) ((turn lo at) td tl) ((moved c (omega (arith, k, at)) u) td tl) lacks

    -- and so where there are no names for what it gives
    unstepped : (r : Refusal) → Entered_to (known_of first.known) n n' (Ok en) → Refused (No_data (known_of first.known)) r → Looped_to c sc inside l turns first old new (Err r)
    unstepped r (entered_to la up lt) x = not_looped (refused_as (λ lacks. absurd (lacks (shape_of (known_of first.known)) en.first.now la)) x)

-- the names of a turn come by steps behind those so far
pub turn_mark : (S : Held_sizes) (at : ℕ) (p : FlatPattern) (counter : ℕ) (i : BindId) (y : ℕ) (sc : Scope) (s : Known) (m3 m4 : Unfolding) (inner : Held_scope) (mark : ℕ) → mark ≡ length (steps_of m3) → Turn_bound_to S at p counter i y sc s m3 m4 (Ok inner) → mark ≤ length (steps_of m4)
turn_mark S at p counter i y sc s m3 m4 inner mark e (turn_bound_to bs g b is) = omega (arith, e, ap length g, length-append (steps_of m3) bs)

pub row_mark : (S : Held_sizes) (at : ℕ) (p : FlatPattern) (row_at : ℕ) (q : FlatPattern) (y : ℕ) (sc : Scope) (s : Known) (m3 m4 : Unfolding) (inner : Held_scope) (mark : ℕ) → mark ≡ length (steps_of m3) → Row_bound_to S at p row_at q y sc s m3 m4 (Ok inner) → mark ≤ length (steps_of m4)
row_mark S at p row_at q y sc s m3 m4 inner mark e (row_bound_to bs cs g b b') = omega (arith, e, ap length g, length-append (steps_of m3) (bs ++ cs))

pub while_mark : (c : Context) (sc : Scope) (at : ℕ) (p : FlatPattern) (lo : ℕ) (test : FlatTerm) (s : Known) (m1 m2 : Unfolding) (t : Branch) (m3 : Unfolding) (inner : Held_scope) (mark : ℕ) → mark ≡ length (steps_of m1) → Tested_to c sc at p lo test s m1 m2 (Ok t) → Bound_to (told c).sizes at p s sc m2.next (steps_of m2) (steps_of m3) m3.next (Ok inner) → mark ≤ length (steps_of m3)
while_mark c sc at p lo test s m1 m2 t m3 inner mark e (tested_to es cs same b u is h) (answered fs g b') = omega (arith, e, ap length same, ap length g, length-append (steps_of m2) fs)

-- a name that is taken is the next one
name_is : {n n' y : ℕ} → Named_as n n' (Ok y) → n' ≡ suc y
name_is (named_as e) = e

name_low : {n n' y : ℕ} → Named_as n n' (Ok y) → n ≤ y
name_low (named_as e) = omega arith

-- ---- a turn for each number below a count

module _ (c : Context) (sc : Scope) (inside : ℕ) (l : LoopTree) (i : BindId) (count : FlatTerm) (first : Walked) (counting : ℕ) (old m1 : Unfolding) (q : counting ≡ first.at + 1) where
  pub count_err : (new : Unfolding) (r : Refusal) → Scalar_unfolded c sc counting count old m1 (Err r) → Looped_to c sc inside l (Counted i count) first old new (Err r)
  count_err new r (no_scalar_unfolded x) = not_looped (refused_as none x)
    where
      none : Not_scalar c sc counting count → Loop_stuck c sc inside l (Counted i count) first old
      none (stuck_term w) lo n bs at' at v td tl = stuck_turns (v td tl) (stuck_count ((stuck_at c (omega (arith, q, at)) w) td tl))
      none (other_value u lacks) lo n bs at' at v td tl = stuck_turns (v td tl) (no_count ((moved c (omega (arith, q, at)) u) td tl) lacks)

  module _ (m2 m3 m4 : Unfolding) (k : WalkedScalar) (en : Entered) (y : ℕ) where
    pub counted_unbound : (new : Unfolding) (r : Refusal) → Entered_to (known_of first.known) m1.next m2.next (Ok en) → Turn_bound_to (told c).sizes inside (pattern_of l.pat) first.at i y sc (known_of en.known) m3 m4 (Err r) → Looped_to c sc inside l (Counted i count) first old new (Err r)
    counted_unbound new r h (not_turn_bound x) = not_looped (refused_as (unbound c sc inside l (Counted i count) first old new m1.next m2.next en h) x)

    module _ (mark : ℕ) (inner : Held_scope) where
      pub counted_body_err : (m5 new : Unfolding) (r : Refusal) → Scalar_unfolded c sc counting count old m1 (Ok k) → Entered_to (known_of first.known) m1.next m2.next (Ok en) → Turn_bound_to (told c).sizes inside (pattern_of l.pat) first.at i y sc (known_of en.known) m3 m4 (Ok inner) → Blocked_to c (scope_of inner) mark k.at (term_of l.body) (known_of first.known) m4 m5 (Err r) → Looped_to c sc inside l (Counted i count) first old new (Err r)
      counted_body_err m5 new r (scalar_unfolded cs g p h) en_to (turn_bound_to {inside = names} es g' b is) (not_blocked x) =
          not_looped (refused_as (body_stuck c sc inside l (Counted i count) first old new m1.next m2.next en (omega (arith, q, h)) en_to (m3.next, es, m4.next, b) (λ lo at td tl. subst (λ z. lacking.Turn_names td (defined c) sc names (1 + lo + pattern_numbers (pattern_of l.pat) + numbers (term_of l.first)) (Counted i count) z) (sym (is td.sizes tl.sizes ∙ ap (λ z. name_and i (named y) (enter td.sizes z (named y) names)) at)) (turn_counted y ((moved c (omega (arith, q, at)) p) td tl)))) x)

      pub counted_differs : (new : Unfolding) → steps_of m3 ≡ steps_of m1 → Scalar_unfolded c sc counting count old m1 (Ok k) → Turn_bound_to (told c).sizes inside (pattern_of l.pat) first.at i y sc (known_of en.known) m3 m4 (Ok inner) → Blocked_to c (scope_of inner) mark k.at (term_of l.body) (known_of first.known) m4 new (Ok None) → Looped_to c sc inside l (Counted i count) first old new (Ok None)
      counted_differs new same (scalar_unfolded cs g p h) (turn_bound_to es g' b is) (block_differs ds none g'') =
          turns_differ (cs ++ (es ++ ds)) none (grown (steps_of old) (steps_of m1) (steps_of new) cs (es ++ ds) g (grown (steps_of m1) (steps_of m4) (steps_of new) es ds (g' ∙ ap (λ z. z ++ es) same) g''))

      pub counted_end : (m5 new : Unfolding) (e : Branch) (r : Result (Option Walked) Refusal) → mark ≡ length (steps_of m3) → steps_of m3 ≡ steps_of m1 → Named_as m2.next m3.next (Ok y) → Scalar_unfolded c sc counting count old m1 (Ok k) → Entered_to (known_of first.known) m1.next m2.next (Ok en) → Turn_bound_to (told c).sizes inside (pattern_of l.pat) first.at i y sc (known_of en.known) m3 m4 (Ok inner) → Blocked_to c (scope_of inner) mark k.at (term_of l.body) (known_of first.known) m4 m5 (Ok (Some e)) → Stepped_to (known_of first.known) (act.For en.params.now en.first.now y k.atom (body_of e.block.now)) e.at m5 new r → Looped_to c sc inside l (Counted i count) first old new r
      counted_end m5 new e _ at_mark same nm (scalar_unfolded cs g p h) (entered_to la up lt) (turn_bound_to {inside = names} es g' b is) (blocked_to {s = s'} ds ws f u lb hb) (stepped_to xs gs up' lx) =
          let t = f (steps_of m3) es (sym at_mark) g' in
          let b' : Binds (told c).sizes inside (pattern_of l.pat) (known_of en.known) sc (suc y) es names m4.next = subst (λ z. Binds (told c).sizes inside (pattern_of l.pat) (known_of en.known) sc z es names m4.next) (name_is nm) b in
          looped_to (record {
            steps = cs ++ step xs (act.For en.params.now en.first.now y k.atom (lets (es ++ ds) ws));
            grown = grown (steps_of old) (steps_of m1) (steps_of new) cs _ g (gs ∙ ap (λ z. z ++ step xs (act.For en.params.now en.first.now y k.atom (body_of e.block.now))) (t.0 ∙ same) ∙ ap (λ z. steps_of m1 ++ step xs z) (ap (λ z. act.For en.params.now en.first.now y k.atom z) (t.1)));
            unfolds = λ lo n0 bs at' at v td tl. u_counted en.params.now xs (v td tl) la ((moved c (omega (arith, q, at)) p) td tl) up lt (name_low nm) (there (told c).sizes lo at' b' td.sizes tl.sizes) (subst (λ z. rules.Unfolds td (defined c) z (1 + lo + pattern_numbers (pattern_of l.pat) + numbers (term_of l.first) + (1 + numbers count)) (term_of l.body) m4.next ds s' m5.next) (is td.sizes tl.sizes ∙ ap (λ z. name_and i (named y) (enter td.sizes z (named y) names)) at) ((moved c (omega (arith, q, at, h)) u) td tl)) lb up' lx;
            behind = omega (arith, q, h, hb);
          })
      counted_end m5 new e _ at_mark same nm (scalar_unfolded cs g p h) (entered_to la up lt) (turn_bound_to es g' b is) (blocked_to ds ws f u lb hb) (not_stepped x) = unstepped c sc inside l (Counted i count) first old new m1.next m2.next en _ (entered_to la up lt) x

-- ---- a turn for each row

module _ (c : Context) (sc : Scope) (inside : ℕ) (l : LoopTree) (row : FlatPattern) (rows : FlatTerm) (first : Walked) (counting : ℕ) (old m1 : Unfolding) (q : counting ≡ first.at + pattern_numbers row) where
  pub rows_err : (new : Unfolding) (r : Refusal) → Scalar_unfolded c sc counting rows old m1 (Err r) → Looped_to c sc inside l (Over row rows) first old new (Err r)
  rows_err new r (no_scalar_unfolded x) = not_looped (refused_as none x)
    where
      none : Not_scalar c sc counting rows → Loop_stuck c sc inside l (Over row rows) first old
      none (stuck_term w) lo n bs at' at v td tl = stuck_turns (v td tl) (stuck_rows ((stuck_at c (omega (arith, q, at)) w) td tl))
      none (other_value u lacks) lo n bs at' at v td tl = stuck_turns (v td tl) (no_rows ((moved c (omega (arith, q, at)) u) td tl) lacks)

  module _ (m2 m3 m4 : Unfolding) (k : WalkedScalar) (en : Entered) (y : ℕ) where
    pub row_unbound : (new : Unfolding) (r : Refusal) → Entered_to (known_of first.known) m1.next m2.next (Ok en) → Row_bound_to (told c).sizes inside (pattern_of l.pat) first.at row y sc (known_of en.known) m3 m4 (Err r) → Looped_to c sc inside l (Over row rows) first old new (Err r)
    row_unbound new r (entered_to la up lt) (not_row_bound x) = not_looped (refused_as none x)
      where
        none : No_row_names (told c).sizes inside (pattern_of l.pat) row y sc (known_of en.known) → Loop_stuck c sc inside l (Over row rows) first old
        none (no_value_names lacks) lo i bs at' at v td tl = no_turn (carried (v td tl) la lt) lacks
        none (no_names_of_row b lacks) lo i bs at' at v td tl = no_row (carried (v td tl) la lt) (bound_there (told c).sizes lo at' b td.sizes tl.sizes) lacks

    module _ (mark : ℕ) (inner : Held_scope) where
      pub row_body_err : (m5 new : Unfolding) (r : Refusal) → Scalar_unfolded c sc counting rows old m1 (Ok k) → Entered_to (known_of first.known) m1.next m2.next (Ok en) → Row_bound_to (told c).sizes inside (pattern_of l.pat) first.at row y sc (known_of en.known) m3 m4 (Ok inner) → Blocked_to c (scope_of inner) mark k.at (term_of l.body) (known_of first.known) m4 m5 (Err r) → Looped_to c sc inside l (Over row rows) first old new (Err r)
      row_body_err m5 new r (scalar_unfolded cs g p h) en_to (row_bound_to {k = m} es fs g' b b') (not_blocked x) =
          not_looped (refused_as (body_stuck c sc inside l (Over row rows) first old new m1.next m2.next en (omega (arith, q, h)) en_to (m3.next, es, m, b) (λ lo at td tl. turn_row y ((moved c (omega (arith, q, at)) p) td tl) (m, fs, m4.next, row_there (told c).sizes at b' td.sizes tl.sizes))) x)

      pub row_differs : (new : Unfolding) → steps_of m3 ≡ steps_of m1 → Scalar_unfolded c sc counting rows old m1 (Ok k) → Row_bound_to (told c).sizes inside (pattern_of l.pat) first.at row y sc (known_of en.known) m3 m4 (Ok inner) → Blocked_to c (scope_of inner) mark k.at (term_of l.body) (known_of first.known) m4 new (Ok None) → Looped_to c sc inside l (Over row rows) first old new (Ok None)
      row_differs new same (scalar_unfolded cs g p h) (row_bound_to es fs g' b b') (block_differs ds none g'') =
          turns_differ (cs ++ ((es ++ fs) ++ ds)) none (grown (steps_of old) (steps_of m1) (steps_of new) cs ((es ++ fs) ++ ds) g (grown (steps_of m1) (steps_of m4) (steps_of new) (es ++ fs) ds (g' ∙ ap (λ z. z ++ (es ++ fs)) same) g''))

      pub row_end : (m5 new : Unfolding) (e : Branch) (r : Result (Option Walked) Refusal) → mark ≡ length (steps_of m3) → steps_of m3 ≡ steps_of m1 → Named_as m2.next m3.next (Ok y) → Scalar_unfolded c sc counting rows old m1 (Ok k) → Entered_to (known_of first.known) m1.next m2.next (Ok en) → Row_bound_to (told c).sizes inside (pattern_of l.pat) first.at row y sc (known_of en.known) m3 m4 (Ok inner) → Blocked_to c (scope_of inner) mark k.at (term_of l.body) (known_of first.known) m4 m5 (Ok (Some e)) → Stepped_to (known_of first.known) (act.Over en.params.now en.first.now y k.atom (body_of e.block.now)) e.at m5 new r → Looped_to c sc inside l (Over row rows) first old new r
      row_end m5 new e _ at_mark same nm (scalar_unfolded cs g p h) (entered_to la up lt) (row_bound_to {inside = names} {k = m} es fs g' b b') (blocked_to {s = s'} ds ws f u lb hb) (stepped_to xs gs up' lx) =
          let t = f (steps_of m3) (es ++ fs) (sym at_mark) g' in
          let b'' : Binds (told c).sizes inside (pattern_of l.pat) (known_of en.known) sc (suc y) es names m = subst (λ z. Binds (told c).sizes inside (pattern_of l.pat) (known_of en.known) sc z es names m) (name_is nm) b in
          looped_to (record {
            steps = cs ++ step xs (act.Over en.params.now en.first.now y k.atom (lets (es ++ (fs ++ ds)) ws));
            grown = grown (steps_of old) (steps_of m1) (steps_of new) cs _ g (gs ∙ ap (λ z. z ++ step xs (act.Over en.params.now en.first.now y k.atom (body_of e.block.now))) (t.0 ∙ same) ∙ ap (λ z. steps_of m1 ++ step xs z) (ap (λ z. act.Over en.params.now en.first.now y k.atom z) (t.1 ∙ ap (λ z. lets z ws) (append_assoc es fs ds))));
            unfolds = λ lo n0 bs at' at v td tl. u_over en.params.now xs (v td tl) la ((moved c (omega (arith, q, at)) p) td tl) up lt (name_low nm) (there (told c).sizes lo at' b'' td.sizes tl.sizes) (row_there (told c).sizes at b' td.sizes tl.sizes) ((moved c (omega (arith, q, at, h)) u) td tl) lb up' lx;
            behind = omega (arith, q, h, hb);
          })
      row_end m5 new e _ at_mark same nm (scalar_unfolded cs g p h) (entered_to la up lt) (row_bound_to es fs g' b b') (blocked_to ds ws f u lb hb) (not_stepped x) = unstepped c sc inside l (Over row rows) first old new m1.next m2.next en _ (entered_to la up lt) x

-- ---- turns while a condition holds

module _ (c : Context) (sc : Scope) (at : ℕ) (p : FlatPattern) (lo : ℕ) (t : FlatTerm) (s : Known) (old mid : Unfolding) where
  pub test_unbound : (new : Unfolding) (r : Refusal) → Bound_to (told c).sizes at p s sc old.next (steps_of old) (steps_of mid) mid.next (Err r) → Tested_to c sc at p lo t s old new (Err r)
  test_unbound new r (unanswered x) = not_tested (refused_as no_names_of_value x)

  module _ (inner : Held_scope) (m2 : Unfolding) where
    pub test_err : (new : Unfolding) (r : Refusal) → Bound_to (told c).sizes at p s sc old.next (steps_of old) (steps_of mid) mid.next (Ok inner) → Scalar_unfolded c (scope_of inner) lo t mid m2 (Err r) → Tested_to c sc at p lo t s old new (Err r)
    test_err new r (answered es g b) (no_scalar_unfolded x) = not_tested (refused_as none x)
      where
        none : Not_scalar c (scope_of inner) lo t → No_truth c sc at p lo t s
        none (stuck_term w) = stuck_truth (old.next, es, mid.next, b) w
        none (other_value u lacks) = other_truth (old.next, es, mid.next, b) u lacks

    module _ (truth : WalkedScalar) (mark : ℕ) (q : mark ≡ length (steps_of old)) where
      pub test_mark : Bound_to (told c).sizes at p s sc old.next (steps_of old) (steps_of mid) mid.next (Ok inner) → Scalar_unfolded c (scope_of inner) lo t mid m2 (Ok truth) → mark ≤ length (steps_of m2)
      test_mark (answered es g b) (scalar_unfolded cs g' u h) = omega (arith, q, ap length g, ap length g', length-append (steps_of old) es, length-append (steps_of mid) cs)

      pub test_end : (new : Unfolding) (r : Result Branch Refusal) → Bound_to (told c).sizes at p s sc old.next (steps_of old) (steps_of mid) mid.next (Ok inner) → Scalar_unfolded c (scope_of inner) lo t mid m2 (Ok truth) → Scalar_closed mark truth m2 new r → Tested_to c sc at p lo t s old new r
      test_end new _ (answered es g b) (scalar_unfolded cs g' u h) (scalar_closed f n k) =
          let z = f (steps_of old) (es ++ cs) (sym q) (grown (steps_of old) (steps_of mid) (steps_of m2) es cs g g') in
          tested_to es cs (z.0) b (ending c (sym n) u) (z.1 ∙ ap (λ y. lets y (truth.atom ∷ [])) (append-nil (es ++ cs))) (k ∙ h)
      test_end new _ (answered es g b) (scalar_unfolded cs g' u h) not_scalar_closed = not_tested no_memory

module _ (c : Context) (sc : Scope) (inside : ℕ) (l : LoopTree) (test : FlatTerm) (first : Walked) (old m1 m2 : Unfolding) (en : Entered) where
  pub while_test_err : (new : Unfolding) (r : Refusal) → Entered_to (known_of first.known) old.next m1.next (Ok en) → Tested_to c sc inside (pattern_of l.pat) first.at test (known_of en.known) m1 m2 (Err r) → Looped_to c sc inside l (While test) first old new (Err r)
  while_test_err new r (entered_to la up lt) (not_tested x) = not_looped (refused_as none x)
    where
      none : No_truth c sc inside (pattern_of l.pat) first.at test (known_of en.known) → Loop_stuck c sc inside l (While test) first old
      none (no_names_of_value lacks) lo i bs at' at v td tl = no_turn (carried (v td tl) la lt) lacks
      none (stuck_truth b w) lo i bs at' at v td tl = stuck_test (carried (v td tl) la lt) (bound_there (told c).sizes lo at' b td.sizes tl.sizes) ((stuck_at c at w) td tl)
      none (other_truth b u lacks) lo i bs at' at v td tl = no_test (carried (v td tl) la lt) (bound_there (told c).sizes lo at' b td.sizes tl.sizes) ((moved c at u) td tl) lacks

  module _ (m3 : Unfolding) (t : Branch) where
    pub while_unbound : (new : Unfolding) (r : Refusal) → Entered_to (known_of first.known) old.next m1.next (Ok en) → Bound_to (told c).sizes inside (pattern_of l.pat) (known_of en.known) sc m2.next (steps_of m2) (steps_of m3) m3.next (Err r) → Looped_to c sc inside l (While test) first old new (Err r)
    while_unbound new r h (unanswered x) = not_looped (refused_as (unbound c sc inside l (While test) first old new old.next m1.next en h) x)

    module _ (mark : ℕ) (inner : Held_scope) where
      pub while_body_err : (m4 new : Unfolding) (r : Refusal) → Entered_to (known_of first.known) old.next m1.next (Ok en) → Tested_to c sc inside (pattern_of l.pat) first.at test (known_of en.known) m1 m2 (Ok t) → Bound_to (told c).sizes inside (pattern_of l.pat) (known_of en.known) sc m2.next (steps_of m2) (steps_of m3) m3.next (Ok inner) → Blocked_to c (scope_of inner) mark t.at (term_of l.body) (known_of first.known) m3 m4 (Err r) → Looped_to c sc inside l (While test) first old new (Err r)
      while_body_err m4 new r en_to (tested_to es cs same b u is h) (answered fs g b') (not_blocked x) =
          not_looped (refused_as (body_stuck c sc inside l (While test) first old new old.next m1.next en h en_to (m2.next, fs, m3.next, b') (λ lo at td tl. turn_tested)) x)

      pub while_differs : (new : Unfolding) → steps_of m1 ≡ steps_of old → Tested_to c sc inside (pattern_of l.pat) first.at test (known_of en.known) m1 m2 (Ok t) → Bound_to (told c).sizes inside (pattern_of l.pat) (known_of en.known) sc m2.next (steps_of m2) (steps_of m3) m3.next (Ok inner) → Blocked_to c (scope_of inner) mark t.at (term_of l.body) (known_of first.known) m3 new (Ok None) → Looped_to c sc inside l (While test) first old new (Ok None)
      while_differs new before (tested_to es cs same b u is h) (answered fs g b') (block_differs ds none g'') =
          turns_differ (fs ++ ds) none (grown (steps_of old) (steps_of m3) (steps_of new) fs ds (g ∙ ap (λ z. z ++ fs) (same ∙ before)) g'')

      pub while_end : (m4 new : Unfolding) (e : Branch) (r : Result (Option Walked) Refusal) → mark ≡ length (steps_of m1) → steps_of m1 ≡ steps_of old → Entered_to (known_of first.known) old.next m1.next (Ok en) → Tested_to c sc inside (pattern_of l.pat) first.at test (known_of en.known) m1 m2 (Ok t) → Bound_to (told c).sizes inside (pattern_of l.pat) (known_of en.known) sc m2.next (steps_of m2) (steps_of m3) m3.next (Ok inner) → Blocked_to c (scope_of inner) mark t.at (term_of l.body) (known_of first.known) m3 m4 (Ok (Some e)) → Stepped_to (known_of first.known) (act.While l.mark en.params.now en.first.now (body_of t.block.now) (body_of e.block.now)) e.at m4 new r → Looped_to c sc inside l (While test) first old new r
      while_end m4 new e _ at_mark before (entered_to la up lt) (tested_to {u = w} es cs same b u is h) (answered fs g b') (blocked_to ds ws f u' lb hb) (stepped_to xs gs up' lx) =
          let z = f (steps_of m1) fs (sym at_mark) (g ∙ ap (λ y. y ++ fs) same) in
          looped_to (record {
            steps = step xs (act.While l.mark en.params.now en.first.now (lets (es ++ cs) (w ∷ [])) (lets (fs ++ ds) ws));
            grown = gs ∙ ap (λ y. y ++ step xs (act.While l.mark en.params.now en.first.now (body_of t.block.now) (body_of e.block.now))) (z.0 ∙ before) ∙ ap (λ y. steps_of old ++ step xs y) (ap (λ y. act.While l.mark en.params.now en.first.now y (body_of e.block.now)) is ∙ ap (λ y. act.While l.mark en.params.now en.first.now (lets (es ++ cs) (w ∷ [])) y) (z.1));
            unfolds = λ lo n0 bs at' at v td tl. u_while en.params.now xs (v td tl) la up lt (there (told c).sizes lo at' b td.sizes tl.sizes) ((moved c at u) td tl) (there (told c).sizes lo at' b' td.sizes tl.sizes) ((moved c (omega (arith, h, at)) u') td tl) lb up' lx;
            behind = omega (arith, h, hb);
          })
      while_end m4 new e _ at_mark before (entered_to la up lt) (tested_to es cs same b u is h) (answered fs g b') (blocked_to ds ws f u' lb hb) (not_stepped x) = unstepped c sc inside l (While test) first old new old.next m1.next en _ (entered_to la up lt) x

module _ {c : Context} {sc : Scope} {inside : ℕ} {l : LoopTree} {turns : FlatTurns} {first : Walked} {old new : Unfolding} {o o' : Shapes} (w : Walked) where
  pub looped_as : o ≡ o' → Looped_to c sc inside l turns first old new (agreed (Ok o) w) → Looped_to c sc inside l turns first old new (agreed (Ok o') w)
  looped_as e h = subst (λ z. Looped_to c sc inside l turns first old new (agreed (Ok z) w)) e h

  pub tried_as : o ≡ o' → Tried_to c sc inside l turns first old new (agreed (Ok o) w) → Tried_to c sc inside l turns first old new (agreed (Ok o') w)
  tried_as e h = subst (λ z. Tried_to c sc inside l turns first old new (agreed (Ok z) w)) e h
