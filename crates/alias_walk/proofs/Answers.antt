-- What each return of the walk answers, given what was answered for parts.
use Rattle.std.proofs.Common.{◌≡◌, ℕ, ◌+◌, ◌<◌, true, false, List, map, length, get_or, drop, take, Option, Some, None, Result, Ok, Err, IfOk, refl, sym, ap, ◌∙◌, subst}
use Rattle.std.specs.Borrow.{Bor}
use Rattle.fut_ast.specs.Sorts.{Text}
use Rattle.fut_flat.specs.declared.act.Act.{Act}
use Rattle.fut_flat.specs.declared.prim.Ref.{Ref}
use Rattle.fut_flat.specs.Erased.{FlatTerm, FlatType, Row, lets, operation_of, term_of, terms}
use Rattle.fut_flat.specs.Numbers.{numbers, own_numbers, pattern_numbers}
use Rattle.fut_flat.specs.Terms.{Apply, Declared, If, Lambda, Operation, Patterns, Project, Strict, Terms, no_term, term_and}
use Rattle.fut_scalar.specs.declared.place.BindId.{BindId}
use Rattle.fut_scalar.specs.declared.place.Place.{Place}
use Rattle.fut_typing.specs.Names.{Names}
use Rattle.fut_aliases.specs.Aliases.{first_name_alone}
use Rattle.fut_aliases.specs.Calls as definition
use Rattle.fut_aliases.specs.Calls.{finished}
use Rattle.fut_aliases.specs.Looking.{all_looked, behind_let, body_node, body_wanted, in_body, held, let_fits, or_plain, part_of, projected, ready, wanted_parameter, wanted_part, whole, with_argument}
use Rattle.fut_aliases.specs.Operations.{ascribe, operation}
use Rattle.fut_aliases.specs.Stars.{Stars, written_stars}
use Rattle.fut_aliases.specs.Steps.{Losses, Step, and_then, either_of, give}
use Rattle.fut_aliases.specs.Values.{Value, unite}
use Rattle.alias_applications.specs.Shown.{part_with, shown_value, wanted_of}
use Rattle.alias_program.specs.Parts.{part_of as part_held}
use Rattle.alias_program.specs.declared.parts.Part.{Part}
use Rattle.alias_values.specs.declared.trees.ValueTree.{ValueTree}
use Rattle.alias_values.specs.Trees.{value_of}
use Rattle.uniqueness.specs.Answers.{Stepped}
use Rattle.uniqueness.specs.declared.held.Held.{Held}
use Rattle.uniqueness.specs.declared.held.Stop.{Stop}
use Rattle.uniqueness.specs.Held.{held_of, here_of}
use Rattle.alias_forms.specs.declared.seen.Found.{Found}
use Rattle.alias_forms.specs.declared.seen.FoundParts.{FoundParts}
use Rattle.alias_forms.specs.declared.seen.Inside.{Inside}
use Rattle.alias_forms.specs.declared.seen.Seen.{Seen}
use Rattle.alias_forms.specs.declared.seen.Site.{Site}
use Rattle.fut_flat.specs.declared.exp.Exp.{Exp}
use Rattle.alias_scopes.specs.Scopes.{scope_of}
use Rattle.alias_forms.specs.declared.functions.Entered.{Entered}
use Rattle.alias_forms.specs.Functions.{Enters, function_step}
use Rattle.alias_forms.specs.Plain.{is_plain}
use Rattle.alias_forms.specs.Rows.{behind_row, behind_rows, let_looked, row_looked}
use Rattle.alias_forms.specs.Seen.{SeenEnds, held_found, inside_of, part_seen, parts_found}
use Rattle.alias_forms.specs.Walked.{here_at, kinds_at, look, look_alone, types_at}
use Rattle.alias_forms.proofs.Binding.{bind_ok, bind_stop, from_here, given, reshown, restopped, reworded}
use Rattle.alias_forms.proofs.BranchForms.{one_stops, other_stops}
use Rattle.alias_forms.proofs.FunctionForms.{body_stops}
use Rattle.alias_forms.proofs.RowForms.{lets_is}
use Rattle.alias_values.proofs.Rows.{one_more}
use Rattle.fut_flat.specs.declared.exp.Let.{Let}
use Rattle.fut_flat.proofs.ErasedForms.{row_of}
use Rattle.alias_walk.proofs.Ends.{one_part}
use Rattle.alias_forms.proofs.WalkForms.{alone, apply_is, declared_is, field_is, if_is, lambda_is, plain_is}

module _ (N : Names) (s : Site) where
  -- ---- the value of a term by itself

  module _ (e : FlatTerm) (n : ℕ) (w : Option Stars) where
    abbrev value_next : definition.Part → Step definition.Held
    value_next p = and_then (finished (kinds_at s) (here_at s) n p) (λ v. held e n v)

    pub value_stops : {stop : Stop} {old mid new : Losses} → Stepped part_seen (look N s e n w) old mid (Err stop) → Stepped held_found (look_alone N s e n w) old new (Err stop)
    value_stops x = bind_stop value_next x

    module _ {old mid : Losses} (p : Seen) (seen : Stepped part_seen (look N s e n w) old mid (Ok p)) where
      pub value_refused : {stop : Stop} {end new : Losses} → Stepped held_of (value_next (part_seen p)) mid end (Err stop) → Stepped held_found (look_alone N s e n w) old new (Err stop)
      value_refused x = bind_ok value_next seen (restopped x)

      pub value_done : {f : Found} {new : Losses} → Stepped held_of (value_next (part_seen p)) mid new (Ok f.held) → Stepped held_found (look_alone N s e n w) old new (Ok f)
      value_done x = bind_ok value_next seen (reshown refl x)

  -- ---- parts, then the operation

  module _ (a : Act) (mark : Place) (ts : Terms Ref BindId) (lo first : ℕ) (w : Option Stars) (plain : is_plain a ≡ true) (at : first ≡ lo + own_numbers (operation_of a)) where
    abbrev plain_term : FlatTerm
    plain_term = Strict (operation_of a) mark ts

    abbrev whole_of : Value → Step definition.Part
    whole_of v = whole first_name_alone N (kinds_at s) (types_at s) plain_term lo v

    abbrev operated : List definition.Held → Step definition.Part
    operated parts = and_then (operation N (kinds_at s) (types_at s) (here_at s) (operation_of a) lo mark parts) whole_of

    abbrev parts_step : Step (List definition.Held)
    parts_step = all_looked first_name_alone N (kinds_at s) (types_at s) ts first (here_at s) (wanted_part first_name_alone N (kinds_at s) (types_at s) (operation_of a) lo w) 0

    as_plain : {r : Result Seen Stop} {old new : Losses} → Stepped part_seen (and_then parts_step operated) old new r → Stepped part_seen (look N s plain_term lo w) old new r
    as_plain x = reworded (plain_is first_name_alone N (kinds_at s) (types_at s) a mark ts lo first (here_at s) w plain at) x

    pub plain_stops : {stop : Stop} {old mid new : Losses} → Stepped parts_found parts_step old mid (Err stop) → Stepped part_seen (look N s plain_term lo w) old new (Err stop)
    plain_stops x = as_plain (bind_stop operated x)

    module _ {old mid : Losses} (f : FoundParts) (parts : Stepped parts_found parts_step old mid (Ok f)) where
      pub plain_refused : {stop : Stop} {end new : Losses} → Stepped shown_value (operation N (kinds_at s) (types_at s) (here_at s) (operation_of a) lo mark (parts_found f)) mid end (Err stop) → Stepped part_seen (look N s plain_term lo w) old new (Err stop)
      plain_refused x = as_plain (bind_ok operated parts (bind_stop whole_of x))

      pub plain_done : {v : Bor ValueTree} {new : Losses} {r : Result Seen Stop} → Stepped shown_value (operation N (kinds_at s) (types_at s) (here_at s) (operation_of a) lo mark (parts_found f)) mid new (Ok v) → Stepped part_seen (whole_of (value_of v.now)) new new r → Stepped part_seen (look N s plain_term lo w) old new r
      plain_done x y = as_plain (bind_ok operated parts (bind_ok whole_of x y))

  -- ---- a field

  module _ (f : Text) (mark : Place) (t : FlatTerm) (lo first : ℕ) (w : Option Stars) (at : first ≡ lo + 2) where
    abbrev field_term : FlatTerm
    field_term = Strict (Project f) mark (term_and t no_term)

    abbrev field_next : definition.Part → Step definition.Part
    field_next p = projected first_name_alone N (kinds_at s) (types_at s) (here_at s) field_term f lo p

    as_field : {r : Result Seen Stop} {old new : Losses} → Stepped part_seen (and_then (look N s t first None) field_next) old new r → Stepped part_seen (look N s field_term lo w) old new r
    as_field x = reworded (field_is first_name_alone N (kinds_at s) (types_at s) f mark t lo first (here_at s) w at) x

    pub field_stops : {stop : Stop} {old mid new : Losses} → Stepped part_seen (look N s t first None) old mid (Err stop) → Stepped part_seen (look N s field_term lo w) old new (Err stop)
    field_stops x = as_field (bind_stop field_next x)

    module _ {old mid : Losses} (p : Seen) (seen : Stepped part_seen (look N s t first None) old mid (Ok p)) where
      pub field_refused : {stop : Stop} {end new : Losses} → Stepped part_held (field_next (part_seen p)) mid end (Err stop) → Stepped part_seen (look N s field_term lo w) old new (Err stop)
      field_refused x = as_field (bind_ok field_next seen (restopped x))

      pub field_done : {q : Seen} {new : Losses} → Stepped part_held (field_next (part_seen p)) mid new (Ok q.part) → Stepped part_seen (look N s field_term lo w) old new (Ok q)
      field_done x = as_field (bind_ok field_next seen (reshown refl x))

  -- ---- a result of a declared type

  module _ (d : FlatType) (mark : Place) (t : FlatTerm) (lo first : ℕ) (w : Option Stars) (at : first ≡ lo + 1) (u : Stars) (is : u ≡ or_plain w (written_stars N false d (types_at s lo))) where
    abbrev declared_term : FlatTerm
    declared_term = Strict (Declared d) mark (term_and t no_term)

    abbrev as_whole : Value → Step definition.Part
    as_whole v = whole first_name_alone N (kinds_at s) (types_at s) t lo v

    abbrev ascribed_as : definition.Held → Step definition.Part
    ascribed_as a = and_then (ascribe (here_at s) u a) as_whole

    as_declared : {r : Result Seen Stop} {old new : Losses} → Stepped part_seen (and_then (look_alone N s t first (Some u)) ascribed_as) old new r → Stepped part_seen (look N s declared_term lo w) old new r
    as_declared {r = r} {old = old} {new = new} x = reworded (declared_is first_name_alone N (kinds_at s) (types_at s) d mark t lo first (here_at s) w at) (subst (λ z. Stepped part_seen (and_then (look_alone N s t first (Some z)) (λ a. and_then (ascribe (here_at s) z a) as_whole)) old new r) is x)

    pub declared_stops : {stop : Stop} {old mid new : Losses} → Stepped held_found (look_alone N s t first (Some u)) old mid (Err stop) → Stepped part_seen (look N s declared_term lo w) old new (Err stop)
    declared_stops x = as_declared (bind_stop ascribed_as x)

    module _ {old mid : Losses} (f : Found) (found : Stepped held_found (look_alone N s t first (Some u)) old mid (Ok f)) where
      pub declared_refused : {stop : Stop} {end new : Losses} → Stepped shown_value (ascribe (here_at s) u (held_found f)) mid end (Err stop) → Stepped part_seen (look N s declared_term lo w) old new (Err stop)
      declared_refused x = as_declared (bind_ok ascribed_as found (bind_stop as_whole x))

      module _ (v : Bor ValueTree) (ascribes : Stepped shown_value (ascribe (here_at s) u (held_found f)) mid mid (Ok v)) where
        pub declared_halts : {stop : Stop} {end new : Losses} → Stepped part_held (as_whole (value_of v.now)) mid end (Err stop) → Stepped part_seen (look N s declared_term lo w) old new (Err stop)
        declared_halts x = as_declared (bind_ok ascribed_as found (bind_ok as_whole ascribes (restopped x)))

        pub declared_done : {q : Seen} → Stepped part_held (as_whole (value_of v.now)) mid mid (Ok q.part) → Stepped part_seen (look N s declared_term lo w) old mid (Ok q)
        declared_done x = as_declared (bind_ok ascribed_as found (bind_ok as_whole ascribes (reshown refl x)))

  -- ---- branches

  module _ (c t e : FlatTerm) (lo first second third : ℕ) (w : Option Stars) (p : first ≡ lo + 1) (q : second ≡ first + numbers c) where
    abbrev if_term : FlatTerm
    if_term = If c t e

    abbrev branched : Value → Step definition.Part
    branched v = whole first_name_alone N (kinds_at s) (types_at s) if_term lo v

    abbrev both_at : ℕ → Step Value
    both_at n = either_of (λ (a b : definition.Held). unite a.value b.value) (look_alone N s t second None) (look_alone N s e n None)

    abbrev branches_at : ℕ → definition.Held → Step definition.Part
    branches_at n z = and_then (both_at n) branched

    as_if : {r : Result Seen Stop} {old new : Losses} → third ≡ second + numbers t → Stepped part_seen (and_then (look_alone N s c first None) (branches_at third)) old new r → Stepped part_seen (look N s if_term lo w) old new r
    as_if e x = reworded (if_is first_name_alone N (kinds_at s) (types_at s) c t _ lo first second third (here_at s) w p q e) x

    pub test_stops : {stop : Stop} {old mid new : Losses} → third ≡ second + numbers t → Stepped held_found (look_alone N s c first None) old mid (Err stop) → Stepped part_seen (look N s if_term lo w) old new (Err stop)
    test_stops e x = as_if e (bind_stop (branches_at third) x)

    module _ {old ls : Losses} (a : Found) (tested : Stepped held_found (look_alone N s c first None) old ls (Ok a)) (r : third ≡ second + numbers t) where
      pub yes_stops : {stop : Stop} {end new : Losses} → Stepped held_found (look_alone N s t second None) ls end (Err stop) → Stepped part_seen (look N s if_term lo w) old new (Err stop)
      yes_stops x = as_if r (bind_ok (branches_at third) tested (bind_stop branched {mid = ls} (one_stops (look_alone N s t second None) (look_alone N s e third None) ls x)))

      pub no_stops : {stop : Stop} {before : ℕ} {mid end back new : Losses} {one : Found} → before ≡ length ls → mid ≡ take before end → Stepped held_found (look_alone N s t second None) ls end (Ok one) → Stepped held_found (look_alone N s e third None) mid back (Err stop) → Stepped part_seen (look N s if_term lo w) old new (Err stop)
      no_stops b k x y = as_if r (bind_ok (branches_at third) tested (bind_stop branched {mid = ls} (other_stops (look_alone N s t second None) (look_alone N s e third None) ls b k x y)))

      pub join_stops : {stop : Stop} {end new : Losses} → Stepped shown_value (both_at third) ls end (Err stop) → Stepped part_seen (look N s if_term lo w) old new (Err stop)
      join_stops x = as_if r (bind_ok (branches_at third) tested (bind_stop branched x))

      pub if_done : {v : Bor ValueTree} {new : Losses} {result : Result Seen Stop} → Stepped shown_value (both_at third) ls new (Ok v) → Stepped part_seen (branched (value_of v.now)) new new result → Stepped part_seen (look N s if_term lo w) old new result
      if_done x y = as_if r (bind_ok (branches_at third) tested (bind_ok branched x y))

  -- ---- applications: a part with its arguments beside it

  module _ (f e : FlatTerm) (lo first second : ℕ) (w : Option Stars) (p : first ≡ lo + 1) where
    abbrev apply_term : FlatTerm
    apply_term = Apply f e

    abbrev with_it : definition.Part → definition.Held → Step definition.Part
    with_it q a = give (with_argument first_name_alone N (kinds_at s) (types_at s) q a)

    abbrev argued : definition.Part → Step definition.Part
    argued q = and_then (look_alone N s e second (wanted_parameter q)) (with_it q)

    abbrev made_ready : definition.Part → Step definition.Part
    made_ready q = and_then (ready first_name_alone N (kinds_at s) (types_at s) (here_at s) f first q) argued

    abbrev shown : List Held → Seen → definition.Part
    shown xs z = part_with z.part xs

    module _ (xs : List Held) (second_is : second ≡ first + numbers f) where
      as_apply : {r : Result Seen Stop} {old new : Losses} → Stepped (shown xs) (and_then (look N s f first None) made_ready) old new r → Stepped (shown xs) (look N s apply_term lo w) old new r
      as_apply x = reworded (apply_is first_name_alone N (kinds_at s) (types_at s) f e lo first second (here_at s) w p second_is) x

      pub head_stops : {stop : Stop} {old mid new : Losses} (ys : List Held) → Stepped (λ (z : Seen). part_with z.part ys) (look N s f first None) old mid (Err stop) → Stepped (shown xs) (look N s apply_term lo w) old new (Err stop)
      head_stops ys x = as_apply (bind_stop made_ready x)

      module _ (ys : List Held) {old mid : Losses} (z : Seen) (head : Stepped (λ (z : Seen). part_with z.part ys) (look N s f first None) old mid (Ok z)) where
        pub ready_stops : {stop : Stop} {end new : Losses} (zs : List Held) → Stepped (λ (q : Part). part_with q zs) (ready first_name_alone N (kinds_at s) (types_at s) (here_at s) f first (part_with z.part ys)) mid end (Err stop) → Stepped (shown xs) (look N s apply_term lo w) old new (Err stop)
        ready_stops zs x = as_apply (bind_ok made_ready head (bind_stop argued x))

        module _ (zs : List Held) {used : Losses} (q : Part) (is_ready : Stepped (λ (q : Part). part_with q zs) (ready first_name_alone N (kinds_at s) (types_at s) (here_at s) f first (part_with z.part ys)) mid used (Ok q)) where
          pub argument_stops : {stop : Stop} {end new : Losses} → Stepped held_found (look_alone N s e second (wanted_parameter (part_with q zs))) used end (Err stop) → Stepped (shown xs) (look N s apply_term lo w) old new (Err stop)
          argument_stops x = as_apply (bind_ok made_ready head (bind_ok argued is_ready (bind_stop (with_it (part_with q zs)) x)))

          pub apply_done : {a : Found} {y : Seen} {new : Losses} → Stepped held_found (look_alone N s e second (wanted_parameter (part_with q zs))) used new (Ok a) → part_with y.part xs ≡ with_argument first_name_alone N (kinds_at s) (types_at s) (part_with q zs) (held_found a) → Stepped (shown xs) (look N s apply_term lo w) old new (Ok y)
          apply_done x g = as_apply (bind_ok made_ready head (bind_ok argued is_ready (bind_ok (with_it (part_with q zs)) x (given g))))

  -- ---- one let

  module _ (l : Row) (v : FlatTerm) (lo node : ℕ) (is : v ≡ l.1) (at : node ≡ 1 + lo + pattern_numbers l.0.pattern) where
    abbrev bound_as : definition.Held → Step definition.Here
    bound_as a = and_then (let_fits first_name_alone N (kinds_at s) (types_at s) (here_at s) l.0.pattern (1 + lo) a) (λ z. give (behind_let first_name_alone N (kinds_at s) (types_at s) l.0 lo a (here_at s)))

    as_let : {I : Type 0} {shown : I → definition.Here} {r : Result I Stop} {old new : Losses} → Stepped shown (and_then (look_alone N s v node None) bound_as) old new r → Stepped shown (let_looked first_name_alone N (kinds_at s) (types_at s) l lo (here_at s)) old new r
    as_let {shown = shown} {r = r} {old = old} {new = new} x = subst (λ n. Stepped shown (and_then (look_alone N s l.1 n None) bound_as) old new r) at (subst (λ z. Stepped shown (and_then (look_alone N s z node None) bound_as) old new r) is x)

    pub let_stops : {stop : Stop} {old mid new : Losses} → Stepped held_found (look_alone N s v node None) old mid (Err stop) → Stepped (inside_of s.here) (let_looked first_name_alone N (kinds_at s) (types_at s) l lo (here_at s)) old new (Err stop)
    let_stops x = as_let (bind_stop bound_as x)

    module _ {old mid : Losses} (f : Found) (found : Stepped held_found (look_alone N s v node None) old mid (Ok f)) where
      pub let_refused : {S : Type 0} {shown : S → definition.Here} {stop : Stop} {end new : Losses} → Stepped shown (bound_as (held_found f)) mid end (Err stop) → Stepped (inside_of s.here) (let_looked first_name_alone N (kinds_at s) (types_at s) l lo (here_at s)) old new (Err stop)
      let_refused x = as_let (bind_ok bound_as found (restopped x))

      pub let_done : {S : Type 0} {shown : S → definition.Here} {made : S} {i : Inside} {new : Losses} → Stepped shown (bound_as (held_found f)) mid new (Ok made) → inside_of s.here i ≡ shown made → Stepped (inside_of s.here) (let_looked first_name_alone N (kinds_at s) (types_at s) l lo (here_at s)) old new (Ok i)
      let_done x e = as_let (bind_ok bound_as found (reshown e x))

  -- ---- a row of lets and its body

  module _ (ls : List Let) (x : Let) (l : 0 < length ls) (e : FlatTerm) (lo : ℕ) (w : Option Stars) (m k : ℕ) where
    abbrev first_row : Row
    first_row = row_of (get_or ls 0 x)

    abbrev later_rows : List Row
    later_rows = map row_of (drop 1 ls)

    abbrev lets_body : definition.Held → Step definition.Part
    lets_body r = and_then (held (lets later_rows e) m r.value) (λ a. give (part_of a None (types_at s lo)))

    abbrev behind_rest : definition.Here → Step definition.Part
    behind_rest j = and_then (alone first_name_alone N (kinds_at s) (types_at s) e k j w) lets_body

    abbrev behind_first : definition.Here → Step definition.Part
    behind_first i = and_then (row_looked first_name_alone N (kinds_at s) (types_at s) later_rows m i) behind_rest

    module _ (at : m ≡ behind_row first_row lo) (then_at : k ≡ behind_rows later_rows m) where
      as_lets : {r : Result Seen Stop} {old new : Losses} → Stepped part_seen (and_then (let_looked first_name_alone N (kinds_at s) (types_at s) first_row lo (here_at s)) behind_first) old new r → Stepped part_seen (look N s (lets (map row_of ls) e) lo w) old new r
      as_lets {old = old} z = from_here (ap (λ y. look N s (lets (map row_of y) e) lo w old) (one_more ls 0 x l) ∙ lets_is first_name_alone N (kinds_at s) (types_at s) first_row later_rows e lo (here_at s) w old ∙ lets_at) z
        where
          lets_at : and_then (let_looked first_name_alone N (kinds_at s) (types_at s) first_row lo (here_at s)) (λ i. and_then (row_looked first_name_alone N (kinds_at s) (types_at s) later_rows (behind_row first_row lo) i) (λ j. and_then (alone first_name_alone N (kinds_at s) (types_at s) e (behind_rows later_rows (behind_row first_row lo)) j w) (λ r. and_then (held (lets later_rows e) (behind_row first_row lo) r.value) (λ a. give (part_of a None (types_at s lo)))))) old ≡ and_then (let_looked first_name_alone N (kinds_at s) (types_at s) first_row lo (here_at s)) behind_first old
          lets_at = rw (then_at, at) refl

      pub first_stops : {stop : Stop} {old mid new : Losses} → Stepped (inside_of s.here) (let_looked first_name_alone N (kinds_at s) (types_at s) first_row lo (here_at s)) old mid (Err stop) → Stepped part_seen (look N s (lets (map row_of ls) e) lo w) old new (Err stop)
      first_stops z = as_lets (bind_stop behind_first z)

      module _ {old mid : Losses} (i : Inside) (first : Stepped (inside_of s.here) (let_looked first_name_alone N (kinds_at s) (types_at s) first_row lo (here_at s)) old mid (Ok i)) where
        pub rest_stops : {stop : Stop} {end new : Losses} → Stepped (inside_of s.here) (row_looked first_name_alone N (kinds_at s) (types_at s) later_rows m (inside_of s.here i)) mid end (Err stop) → Stepped part_seen (look N s (lets (map row_of ls) e) lo w) old new (Err stop)
        rest_stops z = as_lets (bind_ok behind_first first (bind_stop behind_rest z))

        module _ {next : Losses} (j : Inside) (rest : Stepped (inside_of s.here) (row_looked first_name_alone N (kinds_at s) (types_at s) later_rows m (inside_of s.here i)) mid next (Ok j)) where
          pub body_stops_at : {stop : Stop} {end new : Losses} → Stepped held_found (alone first_name_alone N (kinds_at s) (types_at s) e k (inside_of s.here j) w) next end (Err stop) → Stepped part_seen (look N s (lets (map row_of ls) e) lo w) old new (Err stop)
          body_stops_at z = as_lets (bind_ok behind_first first (bind_ok behind_rest rest (bind_stop lets_body z)))

          pub lets_done : {f : Found} {new : Losses} {r : Result Seen Stop} → Stepped held_found (alone first_name_alone N (kinds_at s) (types_at s) e k (inside_of s.here j) w) next new (Ok f) → Stepped part_seen (lets_body (held_found f)) new new r → Stepped part_seen (look N s (lets (map row_of ls) e) lo w) old new r
          lets_done z y = as_lets (bind_ok behind_first first (bind_ok behind_rest rest (bind_ok lets_body z y)))

  -- what is wanted, in other words
  pub wanted_as : (e : FlatTerm) (n : ℕ) {w v : Option Stars} → w ≡ v → {old new : Losses} {r : Result Found Stop} → Stepped held_found (look_alone N s e n w) old new r → Stepped held_found (look_alone N s e n v) old new r
  wanted_as e n g {old = old} {new = new} {r = r} x = subst (λ z. Stepped held_found (look_alone N s e n z) old new r) g x

  -- ---- functions

  module _ (ps : Patterns Ref BindId) (e : FlatTerm) (lo : ℕ) (w : Option Stars) where
    abbrev body_step : Step definition.Held
    body_step = alone first_name_alone N (kinds_at s) (types_at s) e (body_node first_name_alone N (kinds_at s) (types_at s) ps lo) (in_body first_name_alone N (kinds_at s) (types_at s) ps lo (here_at s)) (body_wanted first_name_alone N (kinds_at s) (types_at s) ps e lo w)

    pub entered_at : (b : Entered) → Enters N s ps e lo w b → {old mid : Losses} {r : Result Found Stop} → Stepped held_found (alone first_name_alone N (kinds_at s) (types_at s) e b.node (here_of (scope_of b.scope.now) b.here) (wanted_of b.wanted)) old mid r → Stepped held_found body_step old mid r
    entered_at b en {old = old} {mid = mid} {r = r} x =
        subst (λ v. Stepped held_found (alone first_name_alone N (kinds_at s) (types_at s) e (body_node first_name_alone N (kinds_at s) (types_at s) ps lo) (in_body first_name_alone N (kinds_at s) (types_at s) ps lo (here_at s)) v) old mid r) en.asks
        (subst (λ h. Stepped held_found (alone first_name_alone N (kinds_at s) (types_at s) e (body_node first_name_alone N (kinds_at s) (types_at s) ps lo) h (wanted_of b.wanted)) old mid r) en.stands
        (subst (λ n. Stepped held_found (alone first_name_alone N (kinds_at s) (types_at s) e n (here_of (scope_of b.scope.now) b.here) (wanted_of b.wanted)) old mid r) en.begins x))

    pub lambda_stops : {stop : Stop} {old mid new : Losses} → Stepped held_found body_step old mid (Err stop) → Stepped part_seen (look N s (Lambda ps e) lo w) old new (Err stop)
    lambda_stops {old = old} {mid = mid} x = reworded (lambda_is first_name_alone N (kinds_at s) (types_at s) ps e lo (here_at s) w) (body_stops first_name_alone N (kinds_at s) (types_at s) body_step (in_body first_name_alone N (kinds_at s) (types_at s) ps lo (here_at s)) _ _ old mid x)

    pub lambda_done : {old new : Losses} {r : Result Seen Stop} → Stepped part_seen (function_step N s ps e lo w body_step) old new r → Stepped part_seen (look N s (Lambda ps e) lo w) old new r
    lambda_done x = reworded (lambda_is first_name_alone N (kinds_at s) (types_at s) ps e lo (here_at s) w) x

  -- ---- an operation on one part

  pub strict_one : (es : List Exp) (x : Exp) (o : Operation Ref BindId) (mark : Place) (lo : ℕ) (w : Option Stars) → length es ≡ 1 → {old new : Losses} {r : Result Seen Stop} → Stepped part_seen (look N s (Strict o mark (term_and (term_of (get_or es 0 x)) no_term)) lo w) old new r → Stepped part_seen (look N s (Strict o mark (terms (map term_of es))) lo w) old new r
  strict_one es x o mark lo w l {old = old} {new = new} {r = r} y = subst (λ z. Stepped part_seen (look N s (Strict o mark z) lo w) old new r) (sym (one_part es x l)) y

pub ends_one : (r : Result Seen Stop) (es : List Exp) (x : Exp) (o : Operation Ref BindId) (mark : Place) (lo : ℕ) → length es ≡ 1 → IfOk r (SeenEnds (Strict o mark (term_and (term_of (get_or es 0 x)) no_term)) lo) → IfOk r (SeenEnds (Strict o mark (terms (map term_of es))) lo)
ends_one r es x o mark lo l y = subst (λ z. IfOk r (SeenEnds (Strict o mark z) lo)) (sym (one_part es x l)) y
