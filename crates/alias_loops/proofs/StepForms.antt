-- Steps before the first turn and behind each.
use Rattle.std.proofs.lemmas.Bool.{eq-eqb}
use Rattle.std.proofs.Common.{◌≡◌, ℕ, ◌+◌, ◌<◌, ◌≤◌, Bool, true, false, ◌&&◌, nat_eq, cond, List, [], ◌∷◌, ◌++◌, length, get_or, drop, is_some, Option, Some, None, Ok, Err, refl, sym, ap, ◌∙◌, subst, append_assoc}
use Rattle.fut_aliases.specs.declared.aliases.Alias.{Alias}
use Rattle.fut_aliases.specs.declared.refusals.Broken.{Broken}
use Rattle.fut_aliases.specs.declared.refusals.Broken.TheVariants.{Consumed, ResultAliases}
use Rattle.fut_aliases.specs.declared.refusals.Named.TheVariants.{ByAlias}
use Rattle.fut_aliases.specs.declared.refusals.Spot.{Spot}
use Rattle.fut_aliases.specs.declared.refusals.Spot.TheVariants.{First}
use Rattle.fut_aliases.specs.declared.aliases.Alias.TheVariants.{Part, Own}
use Rattle.fut_aliases.specs.declared.refusals.Loss.{Loss}
use Rattle.fut_aliases.specs.Aliases.{Set, is_alias, is_outside, least, those}
use Rattle.fut_aliases.specs.Calls.{Here, Held, first_broken, held_loss}
use Rattle.fut_aliases.specs.Loops as definition
use Rattle.fut_aliases.specs.Loops.{consume_firsts, eaten_captured, eaten_not_consumable, enter, given_loss, kept_names, leave, shared_firsts, shared_results}
use Rattle.fut_aliases.specs.Steps as steps
use Rattle.fut_aliases.specs.Steps.{Losses, Step, and_then, behind, consume, consumed_at, demand, first_loss, is_lost, lose, lose_all, losses_at, losses_now, lost, lost_at, naming, or_else, some_alias, then_do}
use Rattle.alias_values.proofs.Rows.{drop_past, one_more}
use Rattle.uniqueness.specs.Answers.{Grows, Stepped, stepped, refused}
use Rattle.uniqueness.specs.declared.held.Stop.TheVariants as stop
use Rattle.uniqueness.proofs.Growing.{grows_not, lose_all_grows}
use Rattle.uniqueness.proofs.Stepping.{behind_rules}
use Rattle.alias_loops.specs.declared.carried.Carried.{Carried}
use Rattle.alias_loops.specs.Carried.{carried_of, carrieds_of}
use Rattle.alias_loops.specs.Rules.{Consumes, enter_rules, leave_rules, outside_loss}

grows_on : (ls ms ns : Losses) → Grows ls ms → Grows ms ns → Grows ls ns
grows_on ls ms ns (p, e) (q, f) = (p ++ q, f ∙ ap (λ z. z ++ q) e ∙ append_assoc ls p q)

-- ---- the first component that breaks a rule

module _ (rule : definition.Carried → Option Broken) (cs : List Carried) (i : ℕ) where
  broken_at : (d : Carried) (b : Option Broken) → i < length cs → b ≡ rule (carried_of (get_or cs i d)) → first_broken rule (carrieds_of (drop i cs)) ≡ or_else b (first_broken rule (carrieds_of (drop (i + 1) cs)))
  broken_at d b l e = ap (λ z. first_broken rule (carrieds_of z)) (one_more cs i d l) ∙ ap (λ z. or_else z (first_broken rule (carrieds_of (drop (i + 1) cs)))) (sym e)

  pub broken_more : (d : Carried) (b : Option Broken) → i < length cs → b ≡ rule (carried_of (get_or cs i d)) → is_some b ≡ false → first_broken rule (carrieds_of cs) ≡ first_broken rule (carrieds_of (drop i cs)) → first_broken rule (carrieds_of cs) ≡ first_broken rule (carrieds_of (drop (i + 1) cs))
  broken_more d None l e n h = h ∙ broken_at d None l e
  broken_more d (Some b) l e n h = cc

  pub broken_here : (d : Carried) (b : Option Broken) → i < length cs → b ≡ rule (carried_of (get_or cs i d)) → is_some b ≡ true → first_broken rule (carrieds_of cs) ≡ first_broken rule (carrieds_of (drop i cs)) → b ≡ first_broken rule (carrieds_of cs)
  broken_here d None l e n h = cc
  broken_here d (Some b) l e n h = sym (h ∙ broken_at d (Some b) l e)

  pub broken_end : length cs ≤ i → first_broken rule (carrieds_of cs) ≡ first_broken rule (carrieds_of (drop i cs)) → None ≡ first_broken rule (carrieds_of cs)
  broken_end l h = sym (h ∙ ap (λ z. first_broken rule (carrieds_of z)) (drop_past cs i l))

-- ---- the rules before the first turn

pub enter_rules_are : (h : Here) (ls : Losses) (first : Held) (over : Set) (body : ℕ) (cs : List definition.Carried) (lost fixed outside shared settled inside all : Option Broken) (a : Option Alias)
    → lost ≡ held_loss ls first → fixed ≡ first_broken (eaten_not_consumable h) cs → outside ≡ first_broken (eaten_captured h) cs → a ≡ least (shared_firsts over [] cs) → shared ≡ naming (λ b. ResultAliases (ByAlias b) (First body)) a
    → settled ≡ or_else lost shared → inside ≡ or_else outside settled → all ≡ or_else fixed inside → all ≡ enter_rules h ls first over body cs
enter_rules_are h ls first over body cs r1 r2 r3 r4 s2 s1 s0 a f1 f2 f3 e f4 g2 g1 g0 =
    g0 ∙ ap (λ z. or_else r2 z) (g1 ∙ ap (λ z. or_else r3 z) (g2 ∙ ap (λ z. or_else z r4) f1 ∙ ap (λ z. or_else (held_loss ls first) z) (f4 ∙ ap (naming (λ b. ResultAliases (ByAlias b) (First body))) e)))
    ∙ ap (λ z. or_else z (or_else r3 last_rules)) f2 ∙ ap (λ z. or_else (first_broken (eaten_not_consumable h) cs) (or_else z last_rules)) f3
  where
    last_rules : Option Broken
    last_rules = or_else (held_loss ls first) (some_alias (λ n. ResultAliases n (First body)) (shared_firsts over [] cs))

-- four demands in a row, of which the third looks at what was consumed
four_demands : {A : Type 0} (asked : Bool) (r s : Option Broken) (u : Losses → Option Broken) (t : Option Broken) (next : Step A) (ls : Losses)
    → and_then (demand asked r) (λ z. and_then (demand asked s) (λ y. and_then (and_then losses_now (λ ks. demand asked (or_else (u ks) None))) (λ x. and_then (demand asked t) (λ w. next)))) ls
    ≡ behind_rules (cond asked (or_else r (or_else s (or_else (u ls) t))) None) (next ls)
four_demands false r s u t next ls = refl
four_demands true (Some b) s u t next ls = refl
four_demands true None (Some b) u t next ls = refl
four_demands {A} true None None u t next ls = last_demands (u ls) t
  where
    last_demands : (o t : Option Broken) → then_do (demand true (or_else o None) ls) (λ d. then_do (demand true t d.losses) (λ e. next e.losses)) ≡ behind_rules (or_else o t) (next ls)
    last_demands (Some b) t = refl
    last_demands None (Some b) = refl
    last_demands None None = refl

module _ (h : Here) (first : Held) (over : Set) (body : ℕ) (cs : List definition.Carried) (ls : Losses) where
  enter_is : enter h first over body cs ls ≡ behind_rules (cond h.asked (enter_rules h ls first over body cs) None) (consume_firsts cs ls)
  enter_is = four_demands h.asked (first_broken (eaten_not_consumable h) cs) (first_broken (eaten_captured h) cs) (λ ks. held_loss ks first) (some_alias (λ n. ResultAliases n (First body)) (shared_firsts over [] cs)) (consume_firsts cs) ls

  pub enter_refused : (ms : Losses) (b : Broken) (rule : Option Broken) → rule ≡ cond h.asked (enter_rules h ls first over body cs) None → rule ≡ Some b → Stepped (λ (u : Unit {0}). tt) (enter h first over body cs) ls ms (Err (stop.Refused b))
  enter_refused ms b rule r e = refused (enter_is ∙ ap (λ z. behind_rules z (consume_firsts cs ls)) (sym r ∙ e))

  pub enter_done : (ms : Losses) (rule : Option Broken) → rule ≡ cond h.asked (enter_rules h ls first over body cs) None → rule ≡ None → Consumes (consume_firsts cs) ls ms → Stepped (λ (u : Unit {0}). tt) (enter h first over body cs) ls ms (Ok tt)
  enter_done ms rule r e c = stepped (enter_is ∙ ap (λ z. behind_rules z (consume_firsts cs ls)) (sym r ∙ e) ∙ c.is) c.grows

-- ---- behind the body

-- the first of a set that breaks a rule
module _ (rule : Alias → Option Broken) (s : Set) (i : ℕ) where
  alias_at : (d : Alias) (b : Option Broken) → i < length s → b ≡ rule (get_or s i d) → first_broken rule (drop i s) ≡ or_else b (first_broken rule (drop (i + 1) s))
  alias_at d b l e = ap (first_broken rule) (one_more s i d l) ∙ ap (λ z. or_else z (first_broken rule (drop (i + 1) s))) (sym e)

  pub alias_more : (d : Alias) (b : Option Broken) → i < length s → b ≡ rule (get_or s i d) → is_some b ≡ false → first_broken rule s ≡ first_broken rule (drop i s) → first_broken rule s ≡ first_broken rule (drop (i + 1) s)
  alias_more d None l e n h = h ∙ alias_at d None l e
  alias_more d (Some b) l e n h = cc

module _ (ls : Losses) (from body : ℕ) where
  -- the least that is lost of what is outside is the first of these
  least_is_first : (s : Set) → lost ls ByAlias (First body) (those (is_outside from) s) ≡ first_broken (outside_loss ls from body) s
  unfolding lost those
  least_is_first [] = refl
  least_is_first (a ∷ s) = by_place (is_outside from a) (lost_at ls a) refl (least_is_first s)
    where
      by_place : (x : Bool) (o : Option Spot) → lost_at ls a ≡ o → first_loss ls ByAlias (First body) (least (those (is_lost ls) (those (is_outside from) s))) ≡ first_broken (outside_loss ls from body) s
          → first_loss ls ByAlias (First body) (least (those (is_lost ls) (cond x (a ∷ those (is_outside from) s) (those (is_outside from) s)))) ≡ or_else (cond x (consumed_at (λ p. Consumed (ByAlias a) p (First body)) (lost_at ls a)) None) (first_broken (outside_loss ls from body) s)
      by_place false o e h = h
      by_place true None e h = rw e h
      by_place true (Some p) e h = rw (e, e) refl

  pub given_here : (c : Carried) (i : ℕ) (d : Alias) (b : Option Broken) → i < length c.gives.now → b ≡ outside_loss ls from body (get_or c.gives.now i d) → is_some b ≡ true → first_broken (outside_loss ls from body) c.gives.now ≡ first_broken (outside_loss ls from body) (drop i c.gives.now) → b ≡ given_loss ls from body (carried_of c)
  given_here c i d None l e n h = cc
  given_here c i d (Some b) l e n h = sym (least_is_first c.gives.now ∙ h ∙ alias_at (outside_loss ls from body) c.gives.now i d (Some b) l e)

  pub given_end : (c : Carried) (i : ℕ) → length c.gives.now ≤ i → first_broken (outside_loss ls from body) c.gives.now ≡ first_broken (outside_loss ls from body) (drop i c.gives.now) → None ≡ given_loss ls from body (carried_of c)
  given_end c i l h = sym (least_is_first c.gives.now ∙ h ∙ ap (first_broken (outside_loss ls from body)) (drop_past c.gives.now i l))

pub leave_rules_are : (ls : Losses) (from body : ℕ) (cs : List definition.Carried) (gs given : List Set) (asked : Bool) (shared lost all : Option Broken) (a : Option Alias) → asked ≡ true → gs ≡ given → a ≡ least (shared_results from (kept_names cs) [] cs gs) → shared ≡ naming (λ b. ResultAliases (ByAlias b) (First body)) a → lost ≡ first_broken (given_loss ls from body) cs → all ≡ or_else shared lost
    → all ≡ cond asked (leave_rules ls from body cs given) None
leave_rules_are ls from body cs gs given false shared lost all a t d e f g h = cc
leave_rules_are ls from body cs gs given true shared lost all a t d e f g h =
    h ∙ ap (λ z. or_else z lost) (f ∙ ap (naming (λ b. ResultAliases (ByAlias b) (First body))) (e ∙ ap (λ z. least (shared_results from (kept_names cs) [] cs z)) d)) ∙ ap (λ z. or_else (some_alias (λ n. ResultAliases n (First body)) (shared_results from (kept_names cs) [] cs given)) z) g

-- two demands, of which the second looks at what was consumed
two_demands : (asked : Bool) (r : Option Broken) (u : Losses → Option Broken) (ls : Losses) → and_then (demand asked r) (λ z. and_then losses_now (λ ks. demand asked (u ks))) ls ≡ behind_rules (cond asked (or_else r (u ls)) None) (Ok (record { result = tt; losses = ls }))
two_demands false r u ls = refl
two_demands true (Some b) u ls = refl
two_demands true None u ls = last_demand (u ls)
  where
    last_demand : (o : Option Broken) → demand true o ls ≡ behind_rules o (Ok (record { result = tt; losses = ls }))
    last_demand None = refl
    last_demand (Some b) = refl

module _ (h : Here) (from body : ℕ) (cs : List definition.Carried) (gs : List Set) (ls : Losses) where
  leave_is : leave h from body cs gs ls ≡ behind_rules (cond h.asked (leave_rules ls from body cs gs) None) (Ok (record { result = tt; losses = ls }))
  leave_is = two_demands h.asked (some_alias (λ n. ResultAliases n (First body)) (shared_results from (kept_names cs) [] cs gs)) (λ ks. first_broken (given_loss ks from body) cs) ls

  pub leave_refused : (b : Broken) (rule : Option Broken) → rule ≡ cond h.asked (leave_rules ls from body cs gs) None → rule ≡ Some b → Stepped (λ (u : Unit {0}). tt) (leave h from body cs gs) ls ls (Err (stop.Refused b))
  leave_refused b rule r e = refused (leave_is ∙ ap (λ z. behind_rules z (Ok (record { result = tt; losses = ls }))) (sym r ∙ e))

  pub leave_done : (rule : Option Broken) → rule ≡ cond h.asked (leave_rules ls from body cs gs) None → rule ≡ None → Stepped (λ (u : Unit {0}). tt) (leave h from body cs gs) ls ls (Ok tt)
  leave_done rule r e = stepped (leave_is ∙ ap (λ z. behind_rules z (Ok (record { result = tt; losses = ls }))) (sym r ∙ e)) (grows_not ls)

-- ---- what is consumed before the first turn

module _ (cs : List Carried) (old : Losses) where
  pub record Consuming (i : ℕ) (now : Losses) : Type 0 where
    pub is : consume_firsts (carrieds_of cs) old ≡ consume_firsts (carrieds_of (drop i cs)) now
    pub grows : Grows old now

  pub consuming_starts : Consuming 0 old
  consuming_starts = record { is = refl; grows = grows_not old }

  pub consuming_more : (i : ℕ) (d : Carried) (now later : Losses) → i < length cs → Consuming i now → later ≡ cond (get_or cs i d).is_eaten (lose_all (losses_at (First (get_or cs i d).node) (get_or cs i d).first.now) now) now → Consuming (i + 1) later
  consuming_more i d now later l h e = record {
    is = h.is ∙ ap (λ z. consume_firsts (carrieds_of z) now) (one_more cs i d l) ∙ by_eaten (get_or cs i d).is_eaten ∙ ap (consume_firsts (carrieds_of (drop (i + 1) cs))) (sym e);
    grows = grows_on old now later h.grows (subst (Grows now) (sym e) (grown (get_or cs i d).is_eaten));
  }
    where
      by_eaten : (t : Bool) → cond t (and_then (consume (First (get_or cs i d).node) (get_or cs i d).first.now) (λ z. consume_firsts (carrieds_of (drop (i + 1) cs)))) (consume_firsts (carrieds_of (drop (i + 1) cs))) now
          ≡ consume_firsts (carrieds_of (drop (i + 1) cs)) (cond t (lose_all (losses_at (First (get_or cs i d).node) (get_or cs i d).first.now) now) now)
      by_eaten true = refl
      by_eaten false = refl

      grown : (t : Bool) → Grows now (cond t (lose_all (losses_at (First (get_or cs i d).node) (get_or cs i d).first.now) now) now)
      grown true = lose_all_grows (losses_at (First (get_or cs i d).node) (get_or cs i d).first.now) now
      grown false = grows_not now

  pub consuming_ends : (i : ℕ) (now : Losses) → length cs ≤ i → Consuming i now → Consumes (consume_firsts (carrieds_of cs)) old now
  consuming_ends i now l h = record { is = h.is ∙ ap (λ z. consume_firsts (carrieds_of z) now) (drop_past cs i l); grows = h.grows }

pub eaten_so : (t : Bool) (r o : Option Broken) → t ≡ true → r ≡ o → r ≡ cond t o None
eaten_so t r o e h = h ∙ ap (λ z. cond z o None) (sym e)

-- ---- what was consumed already changes nothing

alias_self : (a : Alias) → is_alias a a ≡ true
alias_self (Part n i b) = ap (λ z. z && nat_eq i i) (eq-eqb n n refl) ∙ eq-eqb i i refl
alias_self (Own n) = eq-eqb n n refl

lost_within : (p : Losses) (l : Loss) (s : Losses) → is_lost (p ++ l ∷ s) l.alias ≡ true
lost_within [] l s = ap (λ t. steps.is_some (cond t (Some l.at) (lost_at s l.alias))) (alias_self l.alias)
lost_within (x ∷ p) l s = by_alias (is_alias l.alias x.alias) (lost_within p l s)
  where
    by_alias : (t : Bool) → is_lost (p ++ l ∷ s) l.alias ≡ true → steps.is_some (cond t (Some x.at) (lost_at (p ++ l ∷ s) l.alias)) ≡ true
    by_alias true rest = refl
    by_alias false rest = rest

all_known : (r p q : Losses) → lose_all r (p ++ (r ++ q)) ≡ p ++ (r ++ q)
unfolding lose_all
all_known [] p q = refl
all_known (l ∷ r) p q = let e : p ++ l ∷ (r ++ q) ≡ (p ++ l ∷ []) ++ (r ++ q) = sym (append_assoc p (l ∷ []) (r ++ q)) in
    ap (λ t. lose_all r (cond t (p ++ l ∷ (r ++ q)) ((p ++ l ∷ (r ++ q)) ++ l ∷ []))) (lost_within p l (r ++ q)) ∙ ap (lose_all r) e ∙ all_known r (p ++ l ∷ []) q ∙ sym e

lose_both : (r s ls : Losses) → lose_all (r ++ s) ls ≡ lose_all s (lose_all r ls)
unfolding lose_all
lose_both [] s ls = refl
lose_both (l ∷ r) s ls = lose_both r s (lose l ls)

behind_grown : (ls q : Losses) → behind (length ls) (ls ++ q) ≡ q
behind_grown [] q = refl
behind_grown (l ∷ ls) q = behind_grown ls q

pub flow_lost : (before old flow later new : Losses) → Grows before old → Grows before flow → later ≡ behind (length before) flow → new ≡ lose_all later old → new ≡ lose_all flow old
flow_lost before old flow later new (p, e) (q, f) b n =
    n ∙ ap (λ z. lose_all z old) (b ∙ ap (behind (length before)) f ∙ behind_grown before q)
    ∙ sym (ap (λ z. lose_all z old) f ∙ lose_both before q old ∙ ap (lose_all q) (ap (lose_all before) e ∙ all_known before [] p ∙ sym e))
