-- Applications: what is asked, what is consumed, what they give.
use Rattle.std.proofs.Common.{◌≡◌, ℕ, ◌+◌, ◌<◌, ◌≤◌, List, [], ◌∷◌, ◌++◌, length, get_or, drop, Bool, true, false, Option, Some, None, Result, Ok, Err, refl, sym, ap, ◌∙◌, subst, arith}
use Rattle.std.specs.Borrow.{Bor}
use Rattle.fut_types.specs.Types.{Ty, Kinds}
use Rattle.fut_aliases.specs.Aliases.{Set, union}
use Rattle.fut_aliases.specs.declared.refusals.Broken.{Broken}
use Rattle.fut_aliases.specs.declared.refusals.Spot.TheVariants.{First}
use Rattle.fut_aliases.specs.Stars.{Stars, Leaf, Arrow, Row, no_stars}
use Rattle.fut_aliases.specs.Values.{Value, Function, aliases, starring, taken}
use Rattle.fut_aliases.specs.Steps.{Losses, Step, give, and_then, then_do, losses_now, lose_all, losses_at, demand, or_else}
use Rattle.fut_aliases.specs.Calls as definition
use Rattle.fut_aliases.specs.Calls.{Here, apply_as, call, call_value, clashes, consume_given, finished, first_broken, given, given_sides, given_to, held_loss, left_by, partial, sides, stars_behind, stars_of as function_stars, type_behind, use_name}
use Rattle.alias_values.specs.declared.trees.ValueTree.{ValueTree}
use Rattle.alias_values.specs.Trees.{stars_of, type_of, value_of}
use Rattle.alias_values.proofs.Rows.{drop_past, one_more}
use Rattle.uniqueness.specs.Answers.{Grows, Stepped, stepped, refused, no_memory}
use Rattle.uniqueness.specs.declared.held.Held.{Held}
use Rattle.uniqueness.specs.declared.held.Stop.{Stop}
use Rattle.uniqueness.specs.Held.{held_of, helds_of}
use Rattle.uniqueness.proofs.Growing.{grows_not, lose_all_grows}
use Rattle.alias_program.specs.declared.parts.Part.{Part}
use Rattle.alias_applications.specs.declared.given.Given.{Given}
use Rattle.alias_applications.specs.Givens.{arguments_of, givens_of, is_arrow}
use Rattle.alias_applications.specs.Rules.{allowed, before_call, before_partial, behind_call, behind_partial, captured_argument, settled_if, shared, unfit}
use Rattle.alias_applications.specs.Shown.{part_with, shown_value}
use Rattle.alias_applications.proofs.GivenForms.{arguments_given}
use Rattle.alias_applications.proofs.StepForms.{bind_ok, bind_stop, given as gives, grows_on, reworded}

abbrev nothing : Unit {0} → Unit {0}
nothing u = tt

-- ---- what is asked

module _ (asked : Bool) (before behind : Option Broken) (f : definition.Held) (xs : List definition.Held) (ls : Losses) where
  abbrev last_asked : Step (Unit {0})
  last_asked = demand asked behind

  abbrev arguments_asked : Step (Unit {0})
  arguments_asked = and_then (settled_if asked xs) (λ x. last_asked)

  abbrev head_asked : Step (Unit {0})
  head_asked = and_then (settled_if asked (f ∷ [])) (λ y. arguments_asked)

  pub allowed_not : asked ≡ false → Stepped nothing (allowed asked before f xs behind) ls ls (Ok tt)
  allowed_not e = stepped (ap (λ z. allowed z before f xs behind ls) e) (grows_not ls)

  pub allowed_before : (s : Stop) → Stepped nothing (demand asked before) ls ls (Err s) → Stepped nothing (allowed asked before f xs behind) ls ls (Err s)
  allowed_before s m = bind_stop nothing nothing (demand asked before) (λ z. head_asked) ls ls ls s m

  module _ (p : Stepped nothing (demand asked before) ls ls (Ok tt)) where
    pub allowed_head : (s : Stop) → Stepped nothing (settled_if asked (f ∷ [])) ls ls (Err s) → Stepped nothing (allowed asked before f xs behind) ls ls (Err s)
    allowed_head s m = bind_ok nothing nothing (demand asked before) (λ z. head_asked) ls ls ls tt (Err s) p (bind_stop nothing nothing (settled_if asked (f ∷ [])) (λ y. arguments_asked) ls ls ls s m)

    module _ (q : Stepped nothing (settled_if asked (f ∷ [])) ls ls (Ok tt)) where
      pub allowed_arguments : (s : Stop) → Stepped nothing (settled_if asked xs) ls ls (Err s) → Stepped nothing (allowed asked before f xs behind) ls ls (Err s)
      allowed_arguments s m = bind_ok nothing nothing (demand asked before) (λ z. head_asked) ls ls ls tt (Err s) p (bind_ok nothing nothing (settled_if asked (f ∷ [])) (λ y. arguments_asked) ls ls ls tt (Err s) q (bind_stop nothing nothing (settled_if asked xs) (λ x. last_asked) ls ls ls s m))

      pub allowed_last : (r : Result (Unit {0}) Stop) → Stepped nothing (settled_if asked xs) ls ls (Ok tt) → Stepped nothing last_asked ls ls r → Stepped nothing (allowed asked before f xs behind) ls ls r
      allowed_last r m n = bind_ok nothing nothing (demand asked before) (λ z. head_asked) ls ls ls tt r p (bind_ok nothing nothing (settled_if asked (f ∷ [])) (λ y. arguments_asked) ls ls ls tt r q (bind_ok nothing nothing (settled_if asked xs) (λ x. last_asked) ls ls ls tt r m n))

-- of a function alone
pub settled_head : (asked : Bool) (a : Held) (ls : Losses) (xs : List Held) (r : Result (Unit {0}) Stop) → xs ≡ a ∷ [] → Stepped nothing (settled_if asked (helds_of xs)) ls ls r → Stepped nothing (settled_if asked (held_of a ∷ [])) ls ls r
settled_head asked a ls xs r e m = subst (λ z. Stepped nothing (settled_if asked (helds_of z)) ls ls r) e m

-- of the same rules
pub allowed_as : (asked : Bool) (before behind : Option Broken) (f : definition.Held) (xs : List definition.Held) (ls : Losses) (b d : Option Broken) (r : Result (Unit {0}) Stop) → b ≡ before → d ≡ behind → Stepped nothing (allowed asked b f xs d) ls ls r → Stepped nothing (allowed asked before f xs behind) ls ls r
allowed_as asked before behind f xs ls b d r e g m = subst (λ z. Stepped nothing (allowed asked z f xs behind) ls ls r) e (subst (λ z. Stepped nothing (allowed asked b f xs z) ls ls r) g m)

pub ruleset not_asked = (allowed_not, no_memory)

-- ---- the rules in a row

call_rules : {A : Type 0} (asked : Bool) (r s : Option Broken) (p q : Losses → Option Broken) (c t : Option Broken) (next : Step A) (ls : Losses)
    → and_then (demand asked r) (λ z. and_then (demand asked s) (λ y. and_then (and_then losses_now (λ ks. demand asked (or_else (p ks) (q ks)))) (λ x. and_then (demand asked c) (λ w. and_then (demand asked t) (λ v. next))))) ls
    ≡ and_then (and_then (demand asked (or_else r s)) (λ z. and_then (and_then losses_now (λ ks. demand asked (or_else (p ks) None))) (λ y. and_then (and_then losses_now (λ ks. demand asked (q ks))) (λ x. demand asked (or_else c t))))) (λ z. next) ls
call_rules false r s p q c t next ls = refl
call_rules true (Some b) s p q c t next ls = refl
call_rules true None (Some b) p q c t next ls = refl
call_rules {A} true None None p q c t next ls = by_head (p ls)
  where
    by_arguments : (n d e : Option Broken) → then_do (demand true n ls) (λ x. then_do (demand true d x.losses) (λ w. then_do (demand true e w.losses) (λ v. next v.losses))) ≡ then_do (then_do (demand true n ls) (λ y. demand true (or_else d e) y.losses)) (λ z. next z.losses)
    by_arguments (Some b) d e = refl
    by_arguments None (Some b) e = refl
    by_arguments None None (Some b) = refl
    by_arguments None None None = refl

    by_head : (o : Option Broken) → then_do (demand true (or_else o (q ls)) ls) (λ x. then_do (demand true c x.losses) (λ w. then_do (demand true t w.losses) (λ v. next v.losses)))
        ≡ then_do (then_do (demand true (or_else o None) ls) (λ x. then_do (demand true (q x.losses) x.losses) (λ y. demand true (or_else c t) y.losses))) (λ z. next z.losses)
    by_head (Some b) = refl
    by_head None = by_arguments (q ls) c t

partial_rules : {A : Type 0} (asked : Bool) (r : Option Broken) (p q : Losses → Option Broken) (t : Option Broken) (next : Step A) (ls : Losses)
    → and_then (demand asked r) (λ z. and_then (and_then losses_now (λ ks. demand asked (or_else (p ks) (q ks)))) (λ y. and_then (demand asked t) (λ x. next))) ls
    ≡ and_then (and_then (demand asked r) (λ z. and_then (and_then losses_now (λ ks. demand asked (or_else (p ks) None))) (λ y. and_then (and_then losses_now (λ ks. demand asked (q ks))) (λ x. demand asked t)))) (λ z. next) ls
partial_rules false r p q t next ls = refl
partial_rules true (Some b) p q t next ls = refl
partial_rules {A} true None p q t next ls = by_head (p ls)
  where
    by_arguments : (n e : Option Broken) → then_do (demand true n ls) (λ x. then_do (demand true e x.losses) (λ v. next v.losses)) ≡ then_do (then_do (demand true n ls) (λ y. demand true e y.losses)) (λ z. next z.losses)
    by_arguments (Some b) e = refl
    by_arguments None (Some b) = refl
    by_arguments None None = refl

    by_head : (o : Option Broken) → then_do (demand true (or_else o (q ls)) ls) (λ x. then_do (demand true t x.losses) (λ v. next v.losses))
        ≡ then_do (then_do (demand true (or_else o None) ls) (λ x. then_do (demand true (q x.losses) x.losses) (λ y. demand true t y.losses))) (λ z. next z.losses)
    by_head (Some b) = refl
    by_head None = by_arguments (q ls) t

module _ (K : Kinds) (h : Here) (n : ℕ) (f : definition.Held) (xs : List definition.Held) (u r : Stars) (t : Ty) (gs : List definition.Given) (e : gs ≡ given xs u) where
  abbrev call_asked : Step (Unit {0})
  call_asked = allowed h.asked (before_call h.fixed h.loop_from h.function_from gs) f xs (behind_call f gs)

  abbrev gives_value : Step Value
  gives_value = give (call_value K n (union (aliases f.value) (left_by gs)) r t)

  abbrev call_goes : Step Value
  call_goes = and_then call_asked (λ z. and_then (consume_given gs) (λ y. gives_value))

  call_is : (ls : Losses) → call K h n f (given xs u) r t ls ≡ call_goes ls
  call_is ls = sym (ap (λ z. call K h n f z r t ls) e)
      ∙ call_rules h.asked (first_broken (unfit h.fixed h.loop_from) gs) (first_broken (captured_argument h.function_from) gs) (λ ks. held_loss ks f) (λ ks. first_broken (held_loss ks) (arguments_of gs)) (clashes [] (sides f.node (starring no_stars f.value) ++ given_sides gs)) (first_broken shared gs) (and_then (consume_given gs) (λ y. gives_value)) ls
      ∙ ap (λ ys. and_then (allowed h.asked (before_call h.fixed h.loop_from h.function_from gs) f ys (behind_call f gs)) (λ z. and_then (consume_given gs) (λ y. gives_value)) ls) (ap arguments_of e ∙ arguments_given xs u)

  pub call_not_allowed : (ls ms : Losses) (s : Stop) → Stepped nothing call_asked ls ls (Err s) → Stepped shown_value (call K h n f (given xs u) r t) ls ms (Err s)
  call_not_allowed ls ms s m = reworded shown_value call_goes (call K h n f (given xs u) r t) ls ms (Err s) (call_is ls) (bind_stop nothing shown_value call_asked (λ z. and_then (consume_given gs) (λ y. gives_value)) ls ls ms s m)

  pub call_not_consumed : (ls ms : Losses) (s : Stop) → Stepped nothing call_asked ls ls (Ok tt) → Stepped nothing (consume_given gs) ls ms (Err s) → Stepped shown_value (call K h n f (given xs u) r t) ls ms (Err s)
  call_not_consumed ls ms s m c = reworded shown_value call_goes (call K h n f (given xs u) r t) ls ms (Err s) (call_is ls)
      (bind_ok nothing shown_value call_asked (λ z. and_then (consume_given gs) (λ y. gives_value)) ls ls ms tt (Err s) m (bind_stop nothing shown_value (consume_given gs) (λ y. gives_value) ls ms ms s c))

  pub call_done : (ls ms : Losses) (v : Bor ValueTree) → Stepped nothing call_asked ls ls (Ok tt) → Stepped nothing (consume_given gs) ls ms (Ok tt) → value_of v.now ≡ call_value K n (union (aliases f.value) (left_by gs)) r t → Stepped shown_value (call K h n f (given xs u) r t) ls ms (Ok v)
  call_done ls ms v m c g = reworded shown_value call_goes (call K h n f (given xs u) r t) ls ms (Ok v) (call_is ls)
      (bind_ok nothing shown_value call_asked (λ z. and_then (consume_given gs) (λ y. gives_value)) ls ls ms tt (Ok v) m (bind_ok nothing shown_value (consume_given gs) (λ y. gives_value) ls ms ms tt (Ok v) c (gives shown_value (call_value K n (union (aliases f.value) (left_by gs)) r t) v ms g)))

module _ (K : Kinds) (h : Here) (f : definition.Held) (xs : List definition.Held) (u r : Stars) (u_is : u ≡ function_stars f.value) (r_is : r ≡ stars_behind xs u) (kept : List definition.Given) (e : kept ≡ given xs u) where
  abbrev kept_asked : Step (Unit {0})
  kept_asked = allowed h.asked (before_partial f kept) f xs (behind_partial kept)

  abbrev kept_value : Value
  kept_value = Function (union (aliases f.value) (given_to xs)) r

  abbrev partial_goes : Step Value
  partial_goes = and_then kept_asked (λ z. give kept_value)

  partial_is : (ls : Losses) → partial K h f xs ls ≡ partial_goes ls
  partial_is ls =
      partial_rules h.asked (before_partial f (given xs (function_stars f.value))) (λ ks. held_loss ks f) (λ ks. first_broken (held_loss ks) xs) (behind_partial (given xs (function_stars f.value))) (give (Function (union (aliases f.value) (given_to xs)) (stars_behind xs (function_stars f.value)))) ls
      ∙ ap (λ z. and_then (allowed h.asked (before_partial f (given xs z)) f xs (behind_partial (given xs z))) (λ y. give (Function (union (aliases f.value) (given_to xs)) (stars_behind xs z))) ls) (sym u_is)
      ∙ ap (λ z. and_then (allowed h.asked (before_partial f z) f xs (behind_partial z)) (λ y. give (Function (union (aliases f.value) (given_to xs)) (stars_behind xs u))) ls) (sym e)
      ∙ ap (λ z. and_then kept_asked (λ y. give (Function (union (aliases f.value) (given_to xs)) z)) ls) (sym r_is)

  pub partial_not_allowed : (ls : Losses) (s : Stop) → Stepped nothing kept_asked ls ls (Err s) → Stepped shown_value (partial K h f xs) ls ls (Err s)
  partial_not_allowed ls s m = reworded shown_value partial_goes (partial K h f xs) ls ls (Err s) (partial_is ls) (bind_stop nothing shown_value kept_asked (λ z. give kept_value) ls ls ls s m)

  pub partial_done : (ls : Losses) (v : Bor ValueTree) → Stepped nothing kept_asked ls ls (Ok tt) → value_of v.now ≡ kept_value → Stepped shown_value (partial K h f xs) ls ls (Ok v)
  partial_done ls v m g = reworded shown_value partial_goes (partial K h f xs) ls ls (Ok v) (partial_is ls) (bind_ok nothing shown_value kept_asked (λ z. give kept_value) ls ls ls tt (Ok v) m (gives shown_value kept_value v ls g))

-- ---- what is consumed of the arguments, one after another

pub record Consuming (gs : List Given) (old now : Losses) (i : ℕ) : Type 0 where
  pub steps : consume_given (givens_of gs) old ≡ consume_given (givens_of (drop i gs)) now
  pub grows : Grows old now

pub consume_start : (gs : List Given) (ls : Losses) → Consuming gs ls ls 0
consume_start gs ls = record { steps = refl; grows = grows_not ls }

module _ (gs : List Given) (old now : Losses) (i : ℕ) (h : Consuming gs old now i) where
  pub consume_more : (d : Given) (s : Set) (ms : Losses) → i < length gs → s ≡ taken (stars_of (get_or gs i d).stars.now) (value_of (get_or gs i d).argument.value.now) → ms ≡ lose_all (losses_at (First (get_or gs i d).argument.node) s) now → Consuming gs old ms (i + 1)
  consume_more d s ms l e m = record {
    steps = h.steps ∙ ap (λ z. consume_given (givens_of z) now) (one_more gs i d l)
        ∙ ap (λ z. consume_given (givens_of (drop (i + 1) gs)) (lose_all (losses_at (First (get_or gs i d).argument.node) z) now)) (sym e)
        ∙ ap (consume_given (givens_of (drop (i + 1) gs))) (sym m);
    grows = grows_on old now ms h.grows (subst (Grows now) (sym m) (lose_all_grows (losses_at (First (get_or gs i d).argument.node) s) now));
  }

  pub consume_end : length gs ≤ i → Stepped nothing (consume_given (givens_of gs)) old now (Ok tt)
  consume_end l = stepped (h.steps ∙ ap (λ z. consume_given (givens_of z) now) (drop_past gs i l)) h.grows

pub ruleset consume_forms = (consume_start, consume_more, consume_end, no_memory)

-- ---- a function with arguments

module _ (K : Kinds) (h : Here) (n : ℕ) (p : Part) (xs : List Held) where
  abbrev part_here : definition.Part
  part_here = part_with p xs

  partial_here : (u : Stars) → is_arrow u ≡ true → apply_as K h n part_here u ≡ partial K h (held_of p.head) (helds_of xs)
  partial_here (Arrow b q r) e = refl
  partial_here (Leaf b) e = cc
  partial_here (Row us) e = cc

  call_here : (u : Stars) → is_arrow u ≡ false → apply_as K h n part_here u ≡ call K h n (held_of p.head) (given (helds_of xs) (function_stars (value_of p.head.value.now))) u (type_behind (helds_of xs) (type_of p.ty.now))
  call_here (Arrow b q r) e = cc
  call_here (Leaf b) e = refl
  call_here (Row us) e = refl

  abbrev left_stars : Stars
  left_stars = stars_behind (helds_of xs) (function_stars (value_of p.head.value.now))

  pub applied_partial : (u : Stars) (ls ms : Losses) (r : Result (Bor ValueTree) Stop) → u ≡ left_stars → is_arrow u ≡ true → ms ≡ ls → Stepped shown_value (partial K h (held_of p.head) (helds_of xs)) ls ls r → Stepped shown_value (apply_as K h n part_here left_stars) ls ms r
  applied_partial u ls ms r e a k m = subst (λ z. Stepped shown_value (apply_as K h n part_here left_stars) ls z r) (sym k) (reworded shown_value (partial K h (held_of p.head) (helds_of xs)) (apply_as K h n part_here left_stars) ls ls r (ap (λ (s : Step Value). s ls) (partial_here left_stars (ap is_arrow (sym e) ∙ a))) m)

  pub applied_call : (u v : Stars) (t : Ty) (ls ms : Losses) (r : Result (Bor ValueTree) Stop) → u ≡ left_stars → is_arrow u ≡ false → v ≡ function_stars (value_of p.head.value.now) → t ≡ type_behind (helds_of xs) (type_of p.ty.now)
      → Stepped shown_value (call K h n (held_of p.head) (given (helds_of xs) v) u t) ls ms r → Stepped shown_value (apply_as K h n part_here left_stars) ls ms r
  applied_call u v t ls ms r e a f g m = reworded shown_value (call K h n (held_of p.head) (given (helds_of xs) v) u t) (apply_as K h n part_here left_stars) ls ms r
      (ap (λ (s : Step Value). s ls) (call_here left_stars (ap is_arrow (sym e) ∙ a) ∙ ap (λ z. call K h n (held_of p.head) (given (helds_of xs) z) left_stars (type_behind (helds_of xs) (type_of p.ty.now))) (sym f)
      ∙ ap (λ z. call K h n (held_of p.head) (given (helds_of xs) v) z (type_behind (helds_of xs) (type_of p.ty.now))) (sym e) ∙ ap (call K h n (held_of p.head) (given (helds_of xs) v) u) (sym g))) m

-- ---- a term by itself

module _ (K : Kinds) (h : Here) (n : ℕ) (p : Part) (xs : List Held) where
  abbrev by_itself : definition.Part
  by_itself = part_with p xs

  used_is : length xs ≡ 0 → finished K h n by_itself ≡ and_then (use_name K h by_itself) (λ z. give (value_of p.head.value.now))
  used_is l = by_arguments xs l
    where
      by_arguments : (ys : List Held) → length ys ≡ 0 → finished K h n (part_with p ys) ≡ and_then (use_name K h (part_with p ys)) (λ z. give (value_of p.head.value.now))
      by_arguments [] l = refl
      by_arguments (y ∷ ys) l = absurd (omega (arith, l))

  applied_is : 0 < length xs → finished K h n by_itself ≡ apply_as K h n by_itself (stars_behind (helds_of xs) (function_stars (value_of p.head.value.now)))
  applied_is l = by_arguments xs l
    where
      by_arguments : (ys : List Held) → 0 < length ys → finished K h n (part_with p ys) ≡ apply_as K h n (part_with p ys) (stars_behind (helds_of ys) (function_stars (value_of p.head.value.now)))
      by_arguments [] l = absurd (omega (arith, l))
      by_arguments (y ∷ ys) l = refl

  pub finished_applied : (ls ms : Losses) (r : Result (Bor ValueTree) Stop) → 0 < length xs → Stepped shown_value (apply_as K h n by_itself (stars_behind (helds_of xs) (function_stars (value_of p.head.value.now)))) ls ms r → Stepped shown_value (finished K h n by_itself) ls ms r
  finished_applied ls ms r l m = reworded shown_value (apply_as K h n by_itself (stars_behind (helds_of xs) (function_stars (value_of p.head.value.now)))) (finished K h n by_itself) ls ms r (ap (λ (s : Step Value). s ls) (applied_is l)) m

  pub finished_stop : (ls : Losses) (s : Stop) → length xs ≡ 0 → Stepped nothing (use_name K h by_itself) ls ls (Err s) → Stepped shown_value (finished K h n by_itself) ls ls (Err s)
  finished_stop ls s l m = reworded shown_value (and_then (use_name K h by_itself) (λ z. give (value_of p.head.value.now))) (finished K h n by_itself) ls ls (Err s) (ap (λ (k : Step Value). k ls) (used_is l)) (bind_stop nothing shown_value (use_name K h by_itself) (λ z. give (value_of p.head.value.now)) ls ls ls s m)

  pub finished_done : (ls : Losses) → length xs ≡ 0 → Stepped nothing (use_name K h by_itself) ls ls (Ok tt) → Stepped shown_value (finished K h n by_itself) ls ls (Ok p.head.value)
  finished_done ls l m = reworded shown_value (and_then (use_name K h by_itself) (λ z. give (value_of p.head.value.now))) (finished K h n by_itself) ls ls (Ok p.head.value) (ap (λ (k : Step Value). k ls) (used_is l)) (bind_ok nothing shown_value (use_name K h by_itself) (λ z. give (value_of p.head.value.now)) ls ls ls tt (Ok p.head.value) m (gives shown_value (value_of p.head.value.now) p.head.value ls refl))
