-- Loops by the checker's sets and by whole ones.
use Rattle.std.proofs.Common.{◌≡◌, ℕ, ◌≤◌, ◌<◌, ◌+◌, Bool, true, false, List, [], Option, None, Ok, Err, ◌⊎◌, inl, inr, refl, sym, ap, subst₂, ◌∙◌, arith}
use Rattle.std.proofs.lemmas.Bool.{and_parts, ltb-true}
use Rattle.fut_scalar.specs.declared.place.BindId.{BindId}
use Rattle.fut_scalar.specs.declared.place.Place.{Place}
use Rattle.fut_flat.specs.Terms.{Loop}
use Rattle.fut_flat.specs.Numbers.{pattern_numbers, numbers, turn_numbers}
use Rattle.fut_flat.specs.Erased.{FlatPattern, FlatTerm, FlatTurns}
use Rattle.fut_types.specs.Types.{Sub, Kinds}
use Rattle.fut_typing.specs.Names.{Names}
use Rattle.fut_aliases.specs.declared.aliases.Alias.{Alias}
use Rattle.fut_aliases.specs.declared.aliases.Alias.TheVariants.{Part, Own}
use Rattle.fut_aliases.specs.Aliases.{Naming, Set, is_in, is_outside, with_alias, first_name_alone}
use Rattle.fut_aliases.specs.Stars.{Stars}
use Rattle.fut_aliases.specs.Values.{of_type, components}
use Rattle.fut_aliases.specs.Steps.{Answer, then_do, Losses, is_lost, Done, Step, give, and_then, losses_now, apart}
use Rattle.fut_aliases.specs.Patterns.{Scope}
use Rattle.fut_aliases.specs.Calls.{Here, Held, Part as Piece}
use Rattle.fut_aliases.specs.Loops.{Carried, own_names, starts, all_carried}
use Rattle.fut_aliases.specs.Looking.{Going, Flow, carried_scope, carried_by, flow_of, whole, by_itself, looked, turns_looked, condition_looked}
use Rattle.alias_laws.proofs.Sets.{same_itself, has_those, those_same}
use Rattle.alias_laws.proofs.Worlds.{World, standing, alone, node, SetR, outside_is, empties, Grows, grows_not, grows_on, standing_on, alone_on, set_on}
use Rattle.alias_laws.proofs.Naming.{self_standing}
use Rattle.alias_laws.proofs.Values.{ValueR, of_type_is, components_are, having_is, no_sets}
use Rattle.alias_laws.proofs.Losing.{LossesR, losses_on}
use Rattle.alias_laws.proofs.Since.{Since, since_now, since_grows, since_on}
use Rattle.alias_laws.proofs.Stepping.{Only, only_on, only_wider, Free, free_apart, free_part, avoiding, gone, plain, avoiding_less, AnswerR, refused, done, HeldR, held_on, held_value, then_from, in_world}
use Rattle.alias_laws.proofs.Calling.{HereR, here_is, ValueIs}
use Rattle.alias_laws.proofs.Finishing.{PartIs, here_on, whole_is}
use Rattle.alias_laws.proofs.Binding.{bound_from, scope_on}
use Rattle.alias_laws.proofs.OwnNames.{of_type_empty, own_same, owns_mine}
use Rattle.alias_laws.proofs.Carrying.{GivesR, no_gives, more_gives, CarriedsR, Selves, self_lost, gives_are, all_carried_are, carried_in}
use Rattle.alias_laws.proofs.Starting.{starts_same}
use Rattle.alias_laws.proofs.Looks.{has_number, Looks, alone_is}
use Rattle.alias_laws.proofs.Turning.{Turns_look, each_turn, GoingR, going_is}
use Rattle.alias_laws.proofs.Turns.{each_no_more, turned_by, turned_flows, turned_asked}

-- ---- back in the world before the first look

set_back : {w w2 : World} (test : Alias → Bool) {s s' : Set} → Grows w w2 → ((a : Alias) → is_in a s ≡ true → w.known (node a) ≡ true) → SetR (avoiding w2 test) s s' → SetR (plain w) s s'
set_back {w} {w2} test {s} {s'} g k p = record {
  ordered = p.ordered;
  stood = λ a h. let q = p.stood a h in let e : standing w2 a ≡ standing w a = standing_on g a (k a h) in let i : is_in (standing w a) s ≡ true = ap (λ x. is_in x s) (sym e) ∙ q.has in record {
    has = i;
    is_alone = sym (alone_on g (standing w a) (k (standing w a) i)) ∙ (ap (alone w2) (sym e) ∙ q.is_alone);
    is_known = k a h;
    is_not = refl;
  };
  is = p.is ∙ those_same (alone w) (alone w2) s (λ a h. alone_on g a (k a h));
}

outside_below : (from : ℕ) (a : Alias) → is_outside from a ≡ true → node a < from
outside_below from (Part n i b) h = ltb-true n from h
outside_below from (Own n) h = ltb-true n from h

gives_back : {w w2 : World} (test : Alias → Bool) {from lo hi : ℕ} {gs gs' : List Set} → Grows w w2 → ((n : ℕ) → n < from → w2.known n ≡ true → w.known n ≡ true) → GivesR (avoiding w2 test) from lo hi gs gs' → GivesR (plain w) from lo hi gs gs'
gives_back test g k no_gives = no_gives
gives_back {w} {w2} test {from} g k (more_gives {g = s} p ps) = more_gives (record {
  outer = set_back test g (λ a h. k (node a) (outside_below from a (and_parts (is_in a s) (is_outside from a) (sym (has_those (is_outside from) (outside_is w s from).respects a s) ∙ h)).1) (p.outer.stood a h).is_known) p.outer;
  tells = p.tells;
}) (gives_back test g k ps)

-- each name of the loop's pattern stood for itself
selves_in : (w : World) {w2 w3 : World} {lo hi lo2 hi2 : ℕ} → Free w lo hi → Grows w2 w3 → Only w2 w3 lo2 hi2 → hi ≤ lo2 → ((n i : ℕ) → w2.known n ≡ true → w.known n ≡ false → (w2.first n i ≡ (n, i)) ⊎ (true ≡ false)) → Selves w3 lo hi
selves_in w fr g o l stems (Own n) p q k = same_itself (Own n)
selves_in w {w2} {w3} {lo} {hi} {lo2} {hi2} fr g o l stems (Part n i b) p q k = by_known (o.only n k)
  where
    by_stem : w2.known n ≡ true → (w2.first n i ≡ (n, i)) ⊎ (true ≡ false) → alone w3 (Part n i b) ≡ true
    by_stem k2 (inl e) = alone_on g (Part n i b) k2 ∙ self_standing w2 n i b e
    by_stem k2 (inr e) = cc

    by_known : (w2.known n ≡ true) ⊎ ((lo2 ≤ n) × (n < hi2)) → alone w3 (Part n i b) ≡ true
    by_known (inl k2) = by_stem k2 (stems n i k2 (fr n p q))
    by_known (inr m) = absurd (omega (arith, m.0, q))

-- ---- the first look, and what is done with what it found

module _ (N : Names) (K : Kinds) (types : Sub) where
  abbrev found : (naming : Naming) → Losses → Done Held → Answer (Done (Flow naming N K types))
  found naming ls d = give (record { value = d.result.value; losses = d.losses }) ls

  flow_as : (naming : Naming) (c : Step (Unit {0})) (b : Step Held) (ls : Losses) → apart (and_then c (λ z. and_then b (λ g. and_then losses_now (λ ms. give {A = Flow naming N K types} (record { value = g.value; losses = ms }))))) ls ≡ then_do (and_then c (λ z. b) ls) (found naming ls)
  flow_as naming c b ls = by_condition (c ls)
    where
      by_body : (x : Answer (Done Held)) → then_do (then_do x (λ d. and_then losses_now (λ ms. give {A = Flow naming N K types} (record { value = d.result.value; losses = ms })) d.losses)) (λ d. give d.result ls) ≡ then_do x (found naming ls)
      by_body (Ok d) = refl
      by_body (Err e) = refl

      by_condition : (x : Answer (Done (Unit {0}))) → then_do (then_do x (λ u. and_then b (λ g. and_then losses_now (λ ms. give {A = Flow naming N K types} (record { value = g.value; losses = ms }))) u.losses)) (λ d. give d.result ls) ≡ then_do (then_do x (λ u. b u.losses)) (found naming ls)
      by_condition (Ok u) = by_body (b u.losses)
      by_condition (Err e) = refl

  flow_then : {B : Type 0} {asked : Bool} {w w2 : World} {lo hi flo fhi : ℕ} {base base2 ls ls' : Losses} {S : World → Losses → B → B → Type 0} {x x' : Answer (Done Held)} (next : Flow with_alias N K types → Step B) (next' : Flow first_name_alone N K types → Step B)
      → AnswerR false w2 flo fhi base2 (λ v ms d d'. HeldR v false base2 ms d d') x x'
      → ((w3 : World) (d d' : Held) (ms ms' : Losses) → Grows w2 w3 → Only w2 w3 flo fhi → LossesR w3 ms ms' → HeldR w3 false base2 ms d d' → AnswerR asked w lo hi base S (next (record { value = d.value; losses = ms }) ls) (next' (record { value = d'.value; losses = ms' }) ls'))
      → AnswerR asked w lo hi base S (then_do (then_do x (found with_alias ls)) (λ f. next f.result f.losses)) (then_do (then_do x' (found first_name_alone ls')) (λ f. next' f.result f.losses))
  flow_then next next' refused k = refused
  flow_then next next' (done {a = d} {a' = d'} {ls = ms} {ls' = ms'} w3 g o l s r) k = k w3 d d' ms ms' g o l r

  -- what the loop carries, from what the first look found
  carried_are : (p : FlatPattern) (first : FlatTerm) (from lo at : ℕ) {wf wo : World} (a a' : Held) (f : Flow with_alias N K types) (f' : Flow first_name_alone N K types) → ValueR wf a.value a'.value → GivesR wo from lo (lo + pattern_numbers p) (components f.value) (components f'.value)
      → ((c : Alias) → lo ≤ node c → node c < lo + pattern_numbers p → is_lost f'.losses c ≡ is_lost f.losses c)
      → CarriedsR wf wo from lo (lo + pattern_numbers p) (carried_by with_alias N K types p lo first at a f) (carried_by first_name_alone N K types p lo first at a' f')
  carried_are p first from lo at {wf} {wo} a a' f f' v gives lost =
      subst₂ (λ starting own. CarriedsR wf wo from lo (lo + pattern_numbers p) (carried_by with_alias N K types p lo first at a f) (all_carried f'.losses starting own (components a'.value) (components f'.value)))
      (sym (starts_same N first at v)) (sym (ap components (own_same N p lo (of_type K [] (types lo)) (of_type_empty K (types lo)))))
      (all_carried_are f.losses f'.losses lost (starts N first at a.value) (components (own_names with_alias N p lo (of_type K [] (types lo)))) (owns_mine N p lo (of_type K [] (types lo)) (of_type_empty K (types lo))) (components_are v) gives)

  module _ (p : FlatPattern) (turns : FlatTurns) (body : FlatTerm) (lo tn bn : ℕ) where
    -- in the world before the first look where rules are asked for, else behind it
    turned_is : (asked : Bool) {w w2 : World} {base ls ls' : Losses} {h h' : Here} {a a' : Held} (g : Going with_alias N K types) (g' : Going first_name_alone N K types) (f : Flow with_alias N K types) (f' : Flow first_name_alone N K types) {cs cs' : List Carried}
        → 1 + lo + pattern_numbers p ≤ tn → tn + each_turn turns ≤ bn → Free w lo (1 + lo + pattern_numbers p) → Free w tn (tn + each_turn turns) → Free w bn (bn + numbers body) → Grows w w2 → Only w w2 lo (bn + numbers body)
        → HereR w asked h h' → LossesR w ls ls' → (asked ≡ true → Since w base ls) → HeldR w asked base ls a a' → GoingR N K types turns body tn bn w g g' → ValueR (plain w2) f.value f'.value → LossesR w2 f.losses f'.losses → CarriedsR (avoiding w (gone asked base)) (plain w) lo (1 + lo) (1 + lo + pattern_numbers p) cs cs'
        → AnswerR asked w lo (bn + numbers body) base (ValueIs asked base) (turned_by N K types p turns body lo tn bn with_alias h a g f cs ls) (turned_by N K types p turns body lo tn bn first_name_alone h' a' g' f' cs' ls')
    turned_is true g g' f f' m1 m2 f1 f2 f3 gw o here l s x G v lf ps = turned_asked N K types p turns body lo tn bn g g' f f' m1 m2 f1 f2 f3 here l (s refl) x G ps
    turned_is false {w2 = w2} {ls = ls} g g' f f' m1 m2 f1 f2 f3 gw o here l s x G v lf ps =
        in_world gw o (omega arith) (omega arith)
        (turned_flows N K types p turns body lo tn bn g g' f f' (omega arith) (here_on gw here) (losses_on gw l) (held_on gw (λ e. since_now w2 ls) x) (set_on (avoiding_less gw (λ c k. k)) G.over) v lf (carried_in (λ s s' q. set_on (avoiding_less gw (λ c k. refl)) q) (λ s s' q. set_on (avoiding_less gw (λ c k. k)) q) ps))

  module _ (mark : Place) (sizes : List BindId) (p : FlatPattern) (first : FlatTerm) (turns : FlatTurns) (body : FlatTerm) (lo : ℕ) where
    abbrev vn : ℕ
    vn = 1 + lo + pattern_numbers p

    abbrev tn : ℕ
    tn = vn + numbers first

    abbrev bn : ℕ
    bn = tn + turn_numbers turns

    condition : Naming → Here → Step (Unit {0})
    condition naming inside = condition_looked naming N K types turns tn inside

    a_body : Naming → Here → Step Held
    a_body naming inside = by_itself naming N K types body bn inside (looked naming N K types body bn inside None)

    after_flow : (naming : Naming) → Here → Held → Going naming N K types → Flow naming N K types → Step Piece
    after_flow naming h a g f = and_then (turned_by N K types p turns body lo tn bn naming h a g f (carried_by naming N K types p (1 + lo) first vn a f)) (λ v. whole naming N K types (Loop mark sizes p first turns body) lo v)

    after_going : (naming : Naming) → Here → Held → Going naming N K types → Step Piece
    after_going naming h a g = and_then (flow_of naming N K types h p lo g (condition naming) (a_body naming)) (after_flow naming h a g)

    after_first : Naming → Here → Held → Step Piece
    after_first naming h a = and_then (turns_looked naming N K types turns tn h) (after_going naming h a)

    pub loop_is_alike : (x : Option Stars) → Looks N K types first vn None → Turns_look N K types turns tn → Looks N K types body bn None → Looks N K types (Loop mark sizes p first turns body) lo x
    unfolding looked after_first after_going after_flow condition a_body
    loop_is_alike x look_first look_turns look_body asked w h h' ls ls' fr (here_is {scope} {scope'} {fixed} {fixed'} {l = lf} {f = ff} sc fx) l = let nf = has_number first in let nb = has_number body in let ne = each_no_more turns in
        then_from vn tn lo (λ a. after_first with_alias o a) (λ a. after_first first_name_alone o' a) (omega arith) (omega arith) (omega arith)
        (alone_is N K types first vn None look_first asked w o o' ls ls' (free_part w (omega arith) (omega arith) fr) here l) (λ w2 a a' ms ms' g2 o2 l2 s2 q.
        going_is N K types body tn bn look_body turns refl look_turns lo (after_going with_alias o a) (after_going first_name_alone o' a') (omega arith) (omega arith) (omega arith) (free_apart o2 (inr (omega arith)) (free_part w (omega arith) (omega arith) fr)) (here_on g2 here) l2 (λ w3 t t' ns ns' g3 o3 l3 s3 G.
        flow_is w3 a a' t t' ns ns' (grows_on g2 g3)
        (free_apart o3 (inl (omega arith)) (free_apart o2 (inl (omega arith)) (free_part w (omega arith) (omega arith) fr)))
        (free_apart o3 (inl (omega arith)) (free_apart o2 (inr (omega arith)) (free_part w (omega arith) (omega arith) fr)))
        (free_apart o3 (inr (omega arith)) (free_apart o2 (inr (omega arith)) (free_part w (omega arith) (omega arith) fr)))
        l3 (λ e. since_on (since_grows g3 (s2 e)) (s3 e)) (held_on g3 s3 q) G))
      where
        o : Here
        o = record { scope = scope; fixed = fixed; loop_from = lf; function_from = ff; asked = asked }

        o' : Here
        o' = record { scope = scope'; fixed = fixed'; loop_from = lf; function_from = ff; asked = asked }

        here : HereR w asked o o'
        here = here_is sc fx

        flowing_at : (naming : Naming) → Scope → Set → Going naming N K types → Here
        flowing_at naming around kept g = record { scope = g.bring (carried_scope naming N K types p (1 + lo) [] around); fixed = kept; loop_from = lo; function_from = ff; asked = false }

        flowed : (w3 : World) (a a' : Held) (t : Going with_alias N K types) (t' : Going first_name_alone N K types) (ns ns' : Losses) (d d' : Held) (ms ms' : Losses) {w4 : World} → Grows w w3 → Free w3 lo vn → Free w3 tn (tn + each_turn turns) → Free w3 bn (bn + numbers body) → LossesR w3 ns ns' → (asked ≡ true → Since w3 ls ns) → HeldR w3 asked ls ns a a' → GoingR N K types turns body tn bn w3 t t'
            → Grows w3 w4 → Only w3 w4 (1 + lo) (bn + numbers body) → Selves w4 (1 + lo) vn → LossesR w4 ms ms' → ValueR (avoiding w4 (gone false ns)) d.value d'.value
            → AnswerR asked w3 lo (lo + numbers (Loop mark sizes p first turns body)) ls (PartIs asked ls) (after_flow with_alias o a t (record { value = d.value; losses = ms }) ns) (after_flow first_name_alone o' a' t' (record { value = d'.value; losses = ms' }) ns')
        flowed w3 a a' t t' ns ns' d d' ms ms' {w4} g3 f1 f2 f3 l3 s3 hd G g4 o4 selves l4 v = let ne = each_no_more turns in
            then_from lo (bn + numbers body) lo (λ v. whole with_alias N K types (Loop mark sizes p first turns body) lo v) (λ v. whole first_name_alone N K types (Loop mark sizes p first turns body) lo v) (omega arith) (omega arith) (omega arith)
            (turned_is p turns body lo tn bn asked t t' (record { value = d.value; losses = ms }) (record { value = d'.value; losses = ms' }) (omega arith) (omega arith) f1 f2 f3 g4 (only_wider (omega arith) (omega arith) o4) (here_on g3 here) l3 s3 hd G v l4
            (carried_are p first lo (1 + lo) vn a a' (record { value = d.value; losses = ms }) (record { value = d'.value; losses = ms' }) (held_value hd) (gives_back (gone false ns) g4 (λ n m k. known_before n m (o4.only n k)) (gives_are lo selves (components_are v))) (self_lost selves l4)))
            (λ w5 u u' os os' g5 o5 l5 s5 z. whole_is N K types (Loop mark sizes p first turns body) lo l5 s5 z)
          where
            known_before : (n : ℕ) → n < lo → (w3.known n ≡ true) ⊎ ((1 + lo ≤ n) × (n < bn + numbers body)) → w3.known n ≡ true
            known_before n m (inl k) = k
            known_before n m (inr k) = absurd (omega (arith, m, k.0))

        flow_is : (w3 : World) (a a' : Held) (t : Going with_alias N K types) (t' : Going first_name_alone N K types) (ns ns' : Losses) → Grows w w3 → Free w3 lo vn → Free w3 tn (tn + each_turn turns) → Free w3 bn (bn + numbers body) → LossesR w3 ns ns' → (asked ≡ true → Since w3 ls ns) → HeldR w3 asked ls ns a a' → GoingR N K types turns body tn bn w3 t t'
            → AnswerR asked w3 lo (lo + numbers (Loop mark sizes p first turns body)) ls (PartIs asked ls) (after_going with_alias o a t ns) (after_going first_name_alone o' a' t' ns')
        flow_is w3 a a' t t' ns ns' g3 f1 f2 f3 l3 s3 hd G = let ne = each_no_more turns in let nb = has_number body in
            let b = bound_from N types (λ n. true) false p (1 + lo) (grows_not w3) (free_part w3 (omega arith) (omega arith) f1) (having_is no_sets (of_type_is K (empties (avoiding w3 (λ c. true))) (types (1 + lo)))) (scope_on g3 sc) in
            subst₂ (λ y y'. AnswerR asked w3 lo (lo + numbers (Loop mark sizes p first turns body)) ls (PartIs asked ls) (then_do y (λ f. after_flow with_alias o a t f.result f.losses)) (then_do y' (λ f. after_flow first_name_alone o' a' t' f.result f.losses)))
            (sym (flow_as with_alias (condition with_alias (flowing_at with_alias scope fixed t)) (a_body with_alias (flowing_at with_alias scope fixed t)) ns)) (sym (flow_as first_name_alone (condition first_name_alone (flowing_at first_name_alone scope' fixed' t')) (a_body first_name_alone (flowing_at first_name_alone scope' fixed' t')) ns'))
            (flow_then (after_flow with_alias o a t) (after_flow first_name_alone o' a' t')
            (G.turns_alike false b.binds.world _ _ ns ns' b.binds.grows (free_apart b.binds.only (inr (omega arith)) f2) (free_apart b.binds.only (inr (omega arith)) f3) (here_is b.binds.scopes (set_on (avoiding_less (grows_on g3 b.binds.grows) (λ c k. k)) fx)) (losses_on b.binds.grows l3)) (λ w4 d d' ms ms' g4 o4 l4 q.
            flowed w3 a a' t t' ns ns' d d' ms ms' g3 f1 f2 f3 l3 s3 hd G (grows_on b.binds.grows g4) (only_on (omega arith) (omega arith) b.binds.only o4) (selves_in w3 (free_part w3 (omega arith) (omega arith) f1) g4 o4 (omega arith) b.stems) l4 (held_value q)))
