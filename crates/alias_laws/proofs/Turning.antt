-- What a loop goes over and one look at a turn, by the checker's sets and by whole ones.
use Rattle.std.proofs.Common.{◌≡◌, ℕ, ◌≤◌, ◌+◌, Bool, true, false, [], None, inr, refl, arith}
use Rattle.fut_scalar.specs.declared.place.BindId.{BindId}
use Rattle.fut_flat.specs.Terms.{Counted, Over, While}
use Rattle.fut_flat.specs.Numbers.{pattern_numbers, numbers, turn_numbers}
use Rattle.fut_flat.specs.Erased.{FlatPattern, FlatTerm, FlatTurns}
use Rattle.fut_types.specs.Types.{Sub, Kinds}
use Rattle.fut_typing.specs.Names.{Names}
use Rattle.fut_aliases.specs.Aliases.{Naming, with_alias, first_name_alone}
use Rattle.fut_aliases.specs.Values.{of_type, aliases}
use Rattle.fut_aliases.specs.Steps.{Losses, Step, give, and_then}
use Rattle.fut_aliases.specs.Patterns.{Scope, with_value, bound}
use Rattle.fut_aliases.specs.Calls.{Here, Held}
use Rattle.fut_aliases.specs.Looking.{Going, with_scope, by_itself, looked, turns_looked, condition_looked}
use Rattle.alias_laws.proofs.Worlds.{World, SetR, empties, set_on, Grows, grows_not}
use Rattle.alias_laws.proofs.Values.{of_type_is, aliases_are, value_on}
use Rattle.alias_laws.proofs.Losing.{LossesR, losses_on}
use Rattle.alias_laws.proofs.Since.{Since, since_now, since_grows, since_on}
use Rattle.alias_laws.proofs.Stepping.{Only, only_these, Free, free_apart, free_part, plain, avoiding_less, only_wider, AnswerR, done, HeldR, held_value, held_before, then_are, then_via, retold, in_world, wider, Any}
use Rattle.alias_laws.proofs.Calling.{HereR, here_is}
use Rattle.alias_laws.proofs.Finishing.{HeldIs, here_on}
use Rattle.alias_laws.proofs.Binding.{bound_is, with_value_is}
use Rattle.alias_laws.proofs.Looks.{has_number, Looks, alone_is}

-- the terms of what says which turns a loop takes
abbrev pub Turns_look : Names → Kinds → Sub → FlatTurns → ℕ → Type 0
Turns_look N K types (Counted i m) lo = Looks N K types m (1 + lo) None
Turns_look N K types (Over p e) lo = Looks N K types e (lo + pattern_numbers p) None
Turns_look N K types (While c) lo = Looks N K types c lo None

-- how many numbers there each turn binds or looks at
abbrev pub each_turn : FlatTurns → ℕ
each_turn (Counted i m) = 0
each_turn (Over p e) = pattern_numbers p
each_turn (While c) = numbers c

module _ (N : Names) (K : Kinds) (types : Sub) (turns : FlatTurns) (body : FlatTerm) (tn bn : ℕ) where
  -- a turn in a scope, to which it brings more
  abbrev pub turn : Naming → (Scope → Scope) → Here → Step Held
  turn naming bring h = and_then (condition_looked naming N K types turns tn (with_scope (bring h.scope) h)) (λ z. by_itself naming N K types body bn (with_scope (bring h.scope) h) (looked naming N K types body bn (with_scope (bring h.scope) h) None))

  abbrev pub Turn_looks : World → (Scope → Scope) → (Scope → Scope) → Type 0
  Turn_looks w bring bring' = (asked : Bool) (w2 : World) (h h' : Here) (ls ls' : Losses) → Grows w w2 → Free w2 tn (tn + each_turn turns) → Free w2 bn (bn + numbers body) → HereR w2 asked h h' → LossesR w2 ls ls'
      → AnswerR asked w2 tn (bn + numbers body) ls (HeldIs asked ls) (turn with_alias bring h ls) (turn first_name_alone bring' h' ls')

  pub record GoingR (w : World) (g : Going with_alias N K types) (g' : Going first_name_alone N K types) : Type 0 where
    pub over : SetR (plain w) g.over g'.over
    pub turns_alike : Turn_looks w g.bring g'.bring

module _ (N : Names) (K : Kinds) (types : Sub) (body : FlatTerm) (tn bn : ℕ) (look : Looks N K types body bn None) where
  counted_turn : (i : BindId) (m : FlatTerm) (w : World) → tn ≤ bn → Turn_looks N K types (Counted i m) body tn bn w (with_value i.0 (of_type K [] (types tn))) (with_value i.0 (of_type K [] (types tn)))
  unfolding condition_looked
  counted_turn i m w n asked w2 h h' ls ls' g f1 f2 (here_is sc fx) l =
      wider (omega arith) (omega arith) (alone_is N K types body bn None look asked w2 _ _ ls ls' f2 (here_is (with_value_is i.0 (of_type_is K (empties (plain w2)) (types tn)) sc) fx) l)

  over_turn : (p : FlatPattern) (e : FlatTerm) (w : World) {a a' : Held} {asked0 : Bool} {base0 ls0 : Losses} → tn + pattern_numbers p ≤ bn → HeldR w asked0 base0 ls0 a a'
      → Turn_looks N K types (Over p e) body tn bn w (bound with_alias N types false p tn (of_type K (aliases a.value) (types tn))) (bound first_name_alone N types false p tn (of_type K (aliases a'.value) (types tn)))
  unfolding condition_looked
  over_turn p e w n x asked w2 h h' ls ls' g f1 f2 (here_is sc fx) l = let nb = has_number body in
      let bs = bound_is N types false p tn f1 (of_type_is K (aliases_are (value_on (avoiding_less g (λ a k. refl)) (held_value x))) (types tn)) sc in
      in_world bs.grows bs.only (omega arith) (omega arith)
      (wider (omega arith) (omega arith) (alone_is N K types body bn None look asked bs.world _ _ ls ls' (free_apart bs.only (inr (omega arith)) f2) (here_is bs.scopes (set_on (avoiding_less bs.grows (λ a k. k)) fx)) (losses_on bs.grows l)))

  while_turn : (c : FlatTerm) (w : World) → tn + numbers c ≤ bn → Looks N K types c tn None → Turn_looks N K types (While c) body tn bn w (λ scope. scope) (λ scope. scope)
  unfolding condition_looked
  while_turn c w n look_c asked w2 h h' ls ls' g f1 f2 (here_is {scope} {scope'} {fixed} {fixed'} {l = lf} {f = ff} sc fx) l = let nb = has_number body in
      then_are {R = Any {A = Unit {0}}} (tn + numbers c) (tn + numbers c) (λ z. rest with_alias o) (λ z. rest first_name_alone o') (omega arith) (omega arith)
      (then_are (tn + numbers c) (tn + numbers c) (λ a. give tt) (λ a. give tt) (omega arith) (omega arith)
      (alone_is N K types c tn None look_c asked w2 o o' ls ls' f1 here l) (λ w3 a a' ms ms' g3 o3 l3 s3 q. done w3 (grows_not w3) (only_these w3 _ _) l3 s3 tt)) (λ w3 z z' ms ms' g3 o3 l3 s3 q.
      retold (omega arith) (omega arith) (λ w4 ns g4 s4 e. since_on (since_grows g4 (s3 e)) (s4 e)) (λ w4 a a' ns g4 x. held_before s3 x)
      (alone_is N K types body bn None look asked w3 o o' ms ms' (free_apart o3 (inr (omega arith)) f2) (here_on g3 here) l3))
    where
      o : Here
      o = record { scope = scope; fixed = fixed; loop_from = lf; function_from = ff; asked = asked }

      o' : Here
      o' = record { scope = scope'; fixed = fixed'; loop_from = lf; function_from = ff; asked = asked }

      here : HereR w2 asked o o'
      here = here_is sc fx

      rest : Naming → Here → Step Held
      rest naming h = by_itself naming N K types body bn h (looked naming N K types body bn h None)

  -- what a loop goes over is looked at, and then there are related turns
  pub going_is : {B : Type 0} (turns : FlatTurns) → bn ≡ tn + turn_numbers turns → Turns_look N K types turns tn → {asked : Bool} {w : World} {lo hi : ℕ} {base ls ls' : Losses} {h h' : Here} {S : World → Losses → B → B → Type 0} (lo2 : ℕ) (next : Going with_alias N K types → Step B) (next' : Going first_name_alone N K types → Step B)
      → lo ≤ tn → lo ≤ lo2 → bn ≤ hi → Free w tn bn → HereR w asked h h' → LossesR w ls ls'
      → ((w2 : World) (g : Going with_alias N K types) (g' : Going first_name_alone N K types) (ms ms' : Losses) → Grows w w2 → Only w w2 (tn + each_turn turns) bn → LossesR w2 ms ms' → (asked ≡ true → Since w2 ls ms) → GoingR N K types turns body tn bn w2 g g' → AnswerR asked w2 lo2 hi base S (next g ms) (next' g' ms'))
      → AnswerR asked w lo hi base S (and_then (turns_looked with_alias N K types turns tn h) next ls) (and_then (turns_looked first_name_alone N K types turns tn h') next' ls')
  unfolding turns_looked
  going_is (Counted i m) n looks {asked} {w} {ls = ls} {ls' = ls'} {h = h} {h' = h'} lo2 next next' l1 l2 l3 f here l k = let nm = has_number m in
      then_via tn bn lo2 (λ a. counted with_alias i) (λ a. counted first_name_alone i) next next' l1 l2 l3
      (wider (omega arith) (omega arith) (alone_is N K types m (1 + tn) None looks asked w h h' ls ls' (free_part w (omega arith) (omega arith) f) here l)) (λ w2 a a' ms ms' g o l2 s q.
      k w2 (counted with_alias i) (counted first_name_alone i) ms ms' g (only_wider (omega arith) (omega arith) o) l2 s (record { over = empties (plain w2); turns_alike = counted_turn i m w2 (omega arith) }))
    where
      counted : (naming : Naming) (i : BindId) → Going naming N K types
      counted naming i = record { over = []; bring = with_value i.0 (of_type K [] (types tn)) }
  going_is (Over p e) n looks {asked} {w} {ls = ls} {ls' = ls'} {h = h} {h' = h'} lo2 next next' l1 l2 l3 f here l k = let ne = has_number e in
      then_via (tn + pattern_numbers p) bn lo2 (over with_alias) (over first_name_alone) next next' (omega arith) l2 l3
      (wider (omega arith) (omega arith) (alone_is N K types e (tn + pattern_numbers p) None looks asked w h h' ls ls' (free_part w (omega arith) (omega arith) f) here l)) (λ w2 a a' ms ms' g o l2 s q.
      k w2 (over with_alias a) (over first_name_alone a') ms ms' g o l2 s (record { over = aliases_are (value_on (avoiding_less (grows_not w2) (λ c y. refl)) (held_value q)); turns_alike = over_turn p e w2 (omega arith) q }))
    where
      over : (naming : Naming) → Held → Going naming N K types
      over naming a = record { over = aliases a.value; bring = bound naming N types false p tn (of_type K (aliases a.value) (types tn)) }
  going_is (While c) n looks {asked} {w} {ls = ls} {ls' = ls'} lo2 next next' l1 l2 l3 f here l k =
      wider l2 (omega arith) (k w (waits with_alias) (waits first_name_alone) ls ls' (grows_not w) (only_these w _ _) l (λ e. since_now w ls) (record { over = empties (plain w); turns_alike = while_turn c w (omega arith) looks }))
    where
      waits : (naming : Naming) → Going naming N K types
      waits naming = record { over = []; bring = λ scope. scope }
