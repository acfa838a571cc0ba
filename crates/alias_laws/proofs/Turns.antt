-- The turns of a loop by the checker's sets and by whole ones, once it is known what the loop carries.
use Rattle.std.proofs.Common.{◌≡◌, ℕ, ◌≤◌, ◌<◌, ◌+◌, Bool, true, false, ◌&&◌, List, None, Ok, Err, ◌⊎◌, inl, inr, refl, sym, ap, subst₂, ◌∙◌, arith}
use Rattle.std.specs.Prelude.{not, nat_lt}
use Rattle.std.proofs.lemmas.Bool.{ltb-false, ltb-true, lt-ltb}
use Rattle.fut_flat.specs.Numbers.{pattern_numbers, numbers, turn_numbers}
use Rattle.fut_flat.specs.Terms.{Counted, Over, While}
use Rattle.fut_flat.specs.Erased.{FlatPattern, FlatTerm, FlatTurns}
use Rattle.fut_types.specs.Types.{Sub, Kinds}
use Rattle.fut_typing.specs.Names.{Names}
use Rattle.fut_aliases.specs.declared.aliases.Alias.TheVariants.{Part, Own}
use Rattle.fut_aliases.specs.Aliases.{Naming, Set, is_outside, with_alias, first_name_alone}
use Rattle.fut_aliases.specs.Values.{Value, components, having}
use Rattle.fut_aliases.specs.Steps.{Answer, then_do, Losses, Done, Step, give, and_then}
use Rattle.fut_aliases.specs.Calls.{Here, Held}
use Rattle.fut_aliases.specs.Loops.{Carried, over_all_turns, leave, results}
use Rattle.fut_aliases.specs.Looking.{Going, Flow, carried_scope, turn_here, turned, by_itself, looked, condition_looked}
use Rattle.alias_laws.proofs.Sets.{same_itself}
use Rattle.alias_laws.proofs.Worlds.{World, standing, alone, node, SetR, empties, Grows, grows_not, grows_on, standing_on, alone_on, set_on}
use Rattle.alias_laws.proofs.Naming.{self_standing}
use Rattle.alias_laws.proofs.Values.{ValueR, value_on, of_type_is, components_are, having_is}
use Rattle.alias_laws.proofs.Losing.{LossesR, losses_on, loses_all}
use Rattle.alias_laws.proofs.Since.{Since, since_grows, since_on}
use Rattle.alias_laws.proofs.Stepping.{Only, only_these, Free, free_apart, free_part, avoiding, gone, plain, avoiding_less, AnswerR, done, HeldR, held_value, value_before, then_are, then_from, in_world}
use Rattle.alias_laws.proofs.Calling.{HereR, here_is, set_new, ValueIs}
use Rattle.alias_laws.proofs.Finishing.{here_on}
use Rattle.alias_laws.proofs.Binding.{Bound, bound_from, scope_on}
use Rattle.alias_laws.proofs.Carrying.{CarriedsR, carried_in, over_all_turns_are}
use Rattle.alias_laws.proofs.Entering.{Apart, enter_is, leave_is, carried_new, results_are}
use Rattle.alias_laws.proofs.Turning.{each_turn, GoingR}

pub each_no_more : (turns : FlatTurns) → each_turn turns ≤ turn_numbers turns
each_no_more (Counted i m) = omega arith
each_no_more (Over p e) = omega arith
each_no_more (While c) = omega arith

-- ---- nodes of the loop's pattern

abbrev near : ℕ → ℕ → ℕ → Bool
near lo hi n = not (nat_lt n lo) && nat_lt n hi

not_near : (lo hi n : ℕ) → (lo ≤ n → n < hi → ⊥) → near lo hi n ≡ false
not_near lo hi n k = by_order (nat_lt n lo) (nat_lt n hi) refl refl
  where
    by_order : (x y : Bool) → nat_lt n lo ≡ x → nat_lt n hi ≡ y → (not x && y) ≡ false
    by_order true y e f = refl
    by_order false false e f = refl
    by_order false true e f = absurd (k (ltb-false n lo e) (ltb-true n hi f))

near_not : (lo hi n : ℕ) → n < hi → near lo hi n ≡ false → n < lo
near_not lo hi n l h = by_order (nat_lt n lo) (nat_lt n hi) refl (lt-ltb n hi l) h
  where
    by_order : (x y : Bool) → nat_lt n lo ≡ x → y ≡ true → (not x && y) ≡ false → n < lo
    by_order true y e f h = ltb-true n lo e
    by_order false true e f h = cc
    by_order false false e f h = cc

not_known : (w : World) {lo hi : ℕ} → Free w lo hi → (n : ℕ) → w.known n ≡ true → near lo hi n ≡ false
not_known w {lo} {hi} f n k = not_near lo hi n (λ l h. let e : w.known n ≡ false = f n l h in cc)

-- ---- the last look, as a turn and then the end of it

again_as : (c : Step (Unit {0})) (b : Step Held) (ended : Held → Step (Unit {0})) (valued : Value → Step Value) (ls : Losses)
    → and_then (and_then c (λ y. and_then b (λ g. and_then (ended g) (λ x. give g.value)))) valued ls ≡ then_do (and_then c (λ z. b) ls) (λ d. and_then (ended d.result) (λ x. valued d.result.value) d.losses)
again_as c b ended valued ls = by_condition (c ls)
  where
    by_end : (v : Value) (x : Answer (Done (Unit {0}))) → then_do (then_do x (λ u. give v u.losses)) (λ d. valued d.result d.losses) ≡ then_do x (λ u. valued v u.losses)
    by_end v (Ok u) = refl
    by_end v (Err e) = refl

    by_body : (x : Answer (Done Held)) → then_do (then_do x (λ d. and_then (ended d.result) (λ u. give d.result.value) d.losses)) (λ d. valued d.result d.losses) ≡ then_do x (λ d. and_then (ended d.result) (λ u. valued d.result.value) d.losses)
    by_body (Ok d) = by_end d.result.value (ended d.result d.losses)
    by_body (Err e) = refl

    by_condition : (x : Answer (Done (Unit {0}))) → then_do (then_do x (λ u. and_then b (λ g. and_then (ended g) (λ y. give g.value)) u.losses)) (λ d. valued d.result d.losses) ≡ then_do (then_do x (λ u. b u.losses)) (λ d. and_then (ended d.result) (λ u. valued d.result.value) d.losses)
    by_condition (Ok u) = by_body (b u.losses)
    by_condition (Err e) = refl

module _ (N : Names) (K : Kinds) (types : Sub) (p : FlatPattern) (turns : FlatTurns) (body : FlatTerm) (lo tn bn : ℕ) where
  abbrev pub turned_by : (naming : Naming) → Here → Held → Going naming N K types → Flow naming N K types → List Carried → Step Value
  turned_by naming h a g flow cs = turned naming N K types h p lo bn a g (condition_looked naming N K types turns tn) (λ inside. by_itself naming N K types body bn inside (looked naming N K types body bn inside None)) flow cs

  abbrev vn : ℕ
  vn = 1 + lo + pattern_numbers p

  abbrev valued : List Carried → Value → Step Value
  valued cs v = give (having (results cs (over_all_turns lo cs) (components v)) v)

  -- where rules are not asked for
  pub turned_flows : {w : World} {base ls ls' : Losses} {h h' : Here} {a a' : Held} (g : Going with_alias N K types) (g' : Going first_name_alone N K types) (f : Flow with_alias N K types) (f' : Flow first_name_alone N K types) {cs cs' : List Carried}
      → lo ≤ bn → HereR w false h h' → LossesR w ls ls' → HeldR w false base ls a a' → SetR (plain w) g.over g'.over → ValueR (plain w) f.value f'.value → LossesR w f.losses f'.losses → CarriedsR (plain w) (plain w) lo (1 + lo) vn cs cs'
      → AnswerR false w lo (bn + numbers body) base (ValueIs false base) (turned_by with_alias h a g f cs ls) (turned_by first_name_alone h' a' g' f' cs' ls')
  turned_flows {w} {base} g g' f f' {cs = cs} {cs' = cs'} m (here_is {l = from} {f = within} sc fx) l x over v lf ps =
      then_are lo lo _ _ (omega arith) (omega arith) (enter_is bn (here_is {l = from} {f = within} sc fx) l (λ e. cc) x over ps) (λ w2 z z' ms ms' g2 o l2 s q.
      let ps2 = carried_in (λ s s' p. set_on (avoiding_less g2 (λ c k. k)) p) (λ s s' p. set_on (avoiding_less g2 (λ c k. k)) p) ps in let v2 = value_on (avoiding_less g2 (λ c k. k)) v in
      done w2 (grows_not w2) (only_these w2 _ _) (loses_all (losses_on g2 lf) l2) (λ e. cc) (having_is (results_are ps2 (over_all_turns_are ps2) (components_are v2)) v2))

  -- ---- where they are

  -- what stands for a name of the loop's pattern is itself, or outside
  apart_in : (w : World) {w2 w3 : World} {lo2 hi2 : ℕ} → Free w (1 + lo) vn → Grows w2 w3 → Only w2 w3 lo2 hi2 → vn ≤ lo2 → ((n i : ℕ) → w2.known n ≡ true → w.known n ≡ false → (w2.first n i ≡ (n, i)) ⊎ (near lo vn (w2.first n i).0 ≡ false)) → Apart w3 lo (1 + lo) vn
  apart_in w {w2} {w3} fr g o l stems (Own n) p q k = inr (same_itself (Own n))
  apart_in w {w2} {w3} {lo2} {hi2} fr g o l stems (Part n i b) p q k = by_known (o.only n k)
    where
      outside : w2.known n ≡ true → near lo vn (w2.first n i).0 ≡ false → ((w2.first n i).0 < n) ⊎ (w2.first n i ≡ (n, i)) → (is_outside lo (standing w3 (Part n i b)) ≡ true) ⊎ (alone w3 (Part n i b) ≡ true)
      outside k2 e (inl m) = inl (ap (is_outside lo) (standing_on g (Part n i b) k2) ∙ lt-ltb (w2.first n i).0 lo (near_not lo vn (w2.first n i).0 (omega arith) e))
      outside k2 e (inr m) = inr (alone_on g (Part n i b) k2 ∙ self_standing w2 n i b m)

      by_stem : w2.known n ≡ true → (w2.first n i ≡ (n, i)) ⊎ (near lo vn (w2.first n i).0 ≡ false) → (is_outside lo (standing w3 (Part n i b)) ≡ true) ⊎ (alone w3 (Part n i b) ≡ true)
      by_stem k2 (inl e) = inr (alone_on g (Part n i b) k2 ∙ self_standing w2 n i b e)
      by_stem k2 (inr e) = outside k2 e (w2.no_later n i)

      by_known : (w2.known n ≡ true) ⊎ ((lo2 ≤ n) × (n < hi2)) → (is_outside lo (standing w3 (Part n i b)) ≡ true) ⊎ (alone w3 (Part n i b) ≡ true)
      by_known (inl k2) = by_stem k2 (stems n i k2 (fr n p q))
      by_known (inr m) = absurd (omega (arith, m.0, q))

  pub turned_asked : {w : World} {base ls ls' : Losses} {h h' : Here} {a a' : Held} (g : Going with_alias N K types) (g' : Going first_name_alone N K types) (f : Flow with_alias N K types) (f' : Flow first_name_alone N K types) {cs cs' : List Carried}
      → vn ≤ tn → tn + each_turn turns ≤ bn → Free w lo vn → Free w tn (tn + each_turn turns) → Free w bn (bn + numbers body) → HereR w true h h' → LossesR w ls ls' → Since w base ls → HeldR w true base ls a a' → GoingR N K types turns body tn bn w g g' → CarriedsR (avoiding w (gone true base)) (plain w) lo (1 + lo) vn cs cs'
      → AnswerR true w lo (bn + numbers body) base (ValueIs true base) (turned_by with_alias h a g f cs ls) (turned_by first_name_alone h' a' g' f' cs' ls')
  turned_asked {w} {base} {ls} {ls'} {h} {h'} {a} {a'} g g' f f' {cs} {cs'} m1 m2 f1 f2 f3 (here_is {scope} {scope'} {fixed} {fixed'} {l = lf} {f = ff} sc fx) l t x G ps =
      then_are {R = λ (v : World) (ks : Losses) (u u' : Unit {0}). Unit {0}} lo lo (λ z. again with_alias o g cs) (λ z. again first_name_alone o' g' cs') (omega arith) (omega arith) (enter_is bn here l (λ e. t) x G.over ps) (λ w2 z z' ms ms' g2 o2 l2 s2 q. again_is w2 ms ms' g2 o2 l2 (s2 refl))
    where
      o : Here
      o = record { scope = scope; fixed = fixed; loop_from = lf; function_from = ff; asked = true }

      o' : Here
      o' = record { scope = scope'; fixed = fixed'; loop_from = lf; function_from = ff; asked = true }

      here : HereR w true o o'
      here = here_is sc fx

      inside : (naming : Naming) → Here → Going naming N K types → List Carried → Here
      inside naming k going ds = turn_here naming N K types k p lo going (over_all_turns lo ds)

      condition : (naming : Naming) → Here → Going naming N K types → List Carried → Step (Unit {0})
      condition naming k going ds = condition_looked naming N K types turns tn (inside naming k going ds)

      looks : (naming : Naming) → Here → Going naming N K types → List Carried → Step Held
      looks naming k going ds = by_itself naming N K types body bn (inside naming k going ds) (looked naming N K types body bn (inside naming k going ds) None)

      again : (naming : Naming) → Here → Going naming N K types → List Carried → Step Value
      again naming k going ds =
          and_then (and_then (condition naming k going ds) (λ y. and_then (looks naming k going ds) (λ b. and_then (leave k lo bn ds (components b.value)) (λ u. give b.value)))) (valued ds)

      ended : Here → List Carried → Held → Step (Unit {0})
      ended k ds d = leave k lo bn ds (components d.value)

      gives : Here → List Carried → Held → Step Value
      gives k ds d = and_then (ended k ds d) (λ u. valued ds d.value)

      gives_is : {ms : Losses} (w4 : World) (d d' : Held) (ns ns' : Losses) → Grows w w4 → LossesR w4 ns ns' → Since w4 base ms → Since w4 ms ns → Apart w4 lo (1 + lo) vn → ValueR (avoiding w4 (gone true ms)) d.value d'.value
          → AnswerR true w4 lo (bn + numbers body) base (ValueIs true base) (gives o cs d ns) (gives o' cs' d' ns')
      gives_is {ms} w4 d d' ns ns' g4 l4 s s4 apart v =
          then_are lo lo (λ u. valued cs d.value) (λ u. valued cs' d'.value) (omega arith) (omega arith)
          (leave_is {test = gone true ms} bn (here_on g4 here) l4 (λ e. since_on s s4) apart (carried_in (λ s s' q. set_on (avoiding_less g4 (λ c k. k)) q) (λ s s' q. set_on (avoiding_less g4 (λ c k. k)) q) ps) (components_are v)) (λ w5 u u' os os' g5 o5 l5 s5 un.
          let ps5 = carried_new bn s5 un (carried_in (λ s s' q. set_on (avoiding_less (grows_on g4 g5) (λ c k. k)) q) (λ s s' q. set_on (avoiding_less (grows_on g4 g5) (λ c k. k)) q) ps) in
          let v5 = value_on (avoiding_less g5 (λ c k. k)) (value_before {asked = true} (λ e. s) v) in
          done w5 (grows_not w5) (only_these w5 _ _) l5 s5 (having_is (results_are ps5 (over_all_turns_are ps5) (components_are v5)) v5))

      -- behind the binding of the pattern
      bound_is : (w2 : World) (ms ms' : Losses) → Grows w w2 → Only w w2 lo lo → LossesR w2 ms ms' → Since w2 base ms → Free w2 (1 + lo) vn → (b : Bound w2 (near lo vn) (1 + lo) vn (carried_scope with_alias N K types p (1 + lo) (over_all_turns lo cs) scope) (carried_scope first_name_alone N K types p (1 + lo) (over_all_turns lo cs') scope'))
          → AnswerR true w2 lo (bn + numbers body) base (ValueIs true base) (again with_alias o g cs ms) (again first_name_alone o' g' cs' ms')
      bound_is w2 ms ms' g2 o2 l2 s2 free b =
          let g3 = grows_on g2 b.binds.grows in
          in_world b.binds.grows b.binds.only (omega arith) (omega arith)
          (subst₂ (λ y y'. AnswerR true b.binds.world lo (bn + numbers body) base (ValueIs true base) y y') (sym (again_as (condition with_alias o g cs) (looks with_alias o g cs) (ended o cs) (valued cs) ms)) (sym (again_as (condition first_name_alone o' g' cs') (looks first_name_alone o' g' cs') (ended o' cs') (valued cs') ms'))
          (then_from tn (bn + numbers body) lo (λ d. gives o cs d) (λ d. gives o' cs' d) (omega arith) (omega arith) (omega arith)
          (G.turns_alike true b.binds.world _ _ ms ms' g3 (free_apart b.binds.only (inr (omega arith)) (free_apart o2 (inr (omega arith)) f2)) (free_apart b.binds.only (inr (omega arith)) (free_apart o2 (inr (omega arith)) f3)) (here_is b.binds.scopes (set_on (avoiding_less g3 (λ c k. k)) fx)) (losses_on b.binds.grows l2)) (λ w4 d d' ns ns' g4 o4 l4 s4 q.
          gives_is w4 d d' ns ns' (grows_on g3 g4) l4 (since_grows (grows_on b.binds.grows g4) s2) (s4 refl) (apart_in w2 free g4 o4 (omega arith) b.stems) (held_value q))))

      again_is : (w2 : World) (ms ms' : Losses) → Grows w w2 → Only w w2 lo lo → LossesR w2 ms ms' → Since w2 base ms → AnswerR true w2 lo (bn + numbers body) base (ValueIs true base) (again with_alias o g cs ms) (again first_name_alone o' g' cs' ms')
      again_is w2 ms ms' g2 o2 l2 s2 =
          let apart = free_apart o2 (inr (omega arith)) f1 in
          let near_set = λ (s s' : Set) (q : SetR (plain w2) s s'). set_new (plain w2) (λ c. near lo vn (node c)) q (λ c i. not_known w2 apart (node c) (q.stood c i).is_known) in
          let near_ps = carried_in near_set near_set (carried_in (λ s s' q. set_on (avoiding_less g2 (λ c k. refl)) q) (λ s s' q. set_on (avoiding_less g2 (λ c k. refl)) q) ps) in
          bound_is w2 ms ms' g2 o2 l2 s2 (free_part w2 (omega arith) (omega arith) apart)
          (bound_from N types (near lo vn) false p (1 + lo) (grows_not w2) (free_part w2 (omega arith) (omega arith) apart) (having_is (over_all_turns_are near_ps) (of_type_is K (empties (avoiding w2 (λ c. near lo vn (node c)))) (types (1 + lo)))) (scope_on g2 sc))
