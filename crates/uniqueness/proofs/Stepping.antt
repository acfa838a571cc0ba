-- Steps: several demands in a row are one, and then something is consumed.
use Rattle.std.proofs.Common.{◌≡◌, List, ◌∷◌, Bool, true, false, cond, Option, Some, None, Ok, Err, refl, sym, ap, ◌∙◌, subst}
use Rattle.fut_scalar.specs.declared.place.BindId.{BindId}
use Rattle.fut_scalar.specs.declared.place.Place.{Place}
use Rattle.fut_types.specs.Types.{Kinds}
use Rattle.fut_aliases.specs.Aliases.{Set, least, shared}
use Rattle.fut_aliases.specs.declared.refusals.Broken.{Broken}
use Rattle.fut_aliases.specs.declared.refusals.Broken.TheVariants.{ResultAliases}
use Rattle.fut_aliases.specs.declared.refusals.Spot.TheVariants.{First, Mark}
use Rattle.fut_aliases.specs.declared.refusals.Named.TheVariants.{ByName}
use Rattle.fut_aliases.specs.Values.{Value, aliases}
use Rattle.fut_aliases.specs.Steps.{Answer, Losses, Done, Step, give, and_then, then_do, losses_now, lose_all, losses_at, consume, demand, or_else, naming, lost}
use Rattle.fut_aliases.specs.Calls.{Here, Held, Part, held_loss, first_broken, settled, use_name, not_consumable, captured}
use Rattle.fut_aliases.specs.Operations.{array_name, last_value, shares_with, update}
use Rattle.uniqueness.specs.Answers.{Grows, Stepped, stepped, refused, no_memory}
use Rattle.uniqueness.proofs.Growing.{grows_not, lose_all_grows}
use Rattle.uniqueness.specs.Rules.{name_rule, update_rules}
use Rattle.uniqueness.specs.declared.held.Stop.TheVariants as stop

-- a step behind rules, of which the first that is broken is the answer
abbrev pub behind_rules : {A : Type 0} → Option Broken → Answer A → Answer A
behind_rules (Some b) r = Err b
behind_rules None r = r

abbrev nothing_done : Losses → Answer (Done (Unit {0}))
nothing_done ls = Ok (record { result = tt; losses = ls })

-- ---- one demand

demand_is : (asked : Bool) (rule : Option Broken) (ls : Losses) → demand asked rule ls ≡ behind_rules (cond asked rule None) (Ok (record { result = tt; losses = ls }))
demand_is true (Some b) ls = refl
demand_is true None ls = refl
demand_is false rule ls = refl

settled_is : (h : Here) (parts : List Held) (ls : Losses) → settled h parts ls ≡ behind_rules (cond h.asked (first_broken (held_loss ls) parts) None) (Ok (record { result = tt; losses = ls }))
settled_is h parts ls = demand_is h.asked (first_broken (held_loss ls) parts) ls

pub settle_refused : (h : Here) (parts : List Held) (ls : Losses) (b : Broken) (rule : Option Broken) → rule ≡ first_broken (held_loss ls) parts → Some b ≡ cond h.asked rule None → Stepped (λ (u : Unit {0}). tt) (settled h parts) ls ls (Err (stop.Refused b))
settle_refused h parts ls b rule r e = refused (settled_is h parts ls ∙ ap (λ z. behind_rules z (Ok (record { result = tt; losses = ls }))) (sym (e ∙ ap (λ z. cond h.asked z None) r)))

pub settle_done : (h : Here) (parts : List Held) (ls : Losses) (rule : Option Broken) → rule ≡ first_broken (held_loss ls) parts → None ≡ cond h.asked rule None → Stepped (λ (u : Unit {0}). tt) (settled h parts) ls ls (Ok tt)
settle_done h parts ls rule r e = stepped (settled_is h parts ls ∙ ap (λ z. behind_rules z (Ok (record { result = tt; losses = ls }))) (sym (e ∙ ap (λ z. cond h.asked z None) r))) (grows_not ls)

pub ruleset settling = (settle_refused, settle_done, no_memory)

-- ---- a name is used

name_is : (K : Kinds) (h : Here) (p : Part) (name : Option BindId) (a : Held) (ls : Losses) → p.name ≡ name → p.head ≡ a → use_name K h p ls ≡ behind_rules (cond h.asked (name_rule ls name a) None) (Ok (record { result = tt; losses = ls }))
name_is K h p name a ls n e = by_name p.name ∙ ap (λ z. behind_rules (cond h.asked (name_rule ls z p.head) None) (Ok (record { result = tt; losses = ls }))) n ∙ ap (λ z. behind_rules (cond h.asked (name_rule ls name z) None) (Ok (record { result = tt; losses = ls }))) e
  where
    by_name : (m : Option BindId) → use_name K h (record { head = p.head; name = m; type = p.type; arguments = p.arguments }) ls ≡ behind_rules (cond h.asked (name_rule ls m p.head) None) (Ok (record { result = tt; losses = ls }))
    by_name None = no_rule h.asked
      where
        no_rule : (t : Bool) → nothing_done ls ≡ behind_rules (cond t None None) (nothing_done ls)
        no_rule true = refl
        no_rule false = refl
    by_name (Some b) = demand_is h.asked (lost ls (λ x. ByName b) (First p.head.node) (aliases p.head.value)) ls

pub name_refused : (K : Kinds) (h : Here) (p : Part) (name : Option BindId) (a : Held) (ls : Losses) (b : Broken) (rule : Option Broken) → p.name ≡ name → p.head ≡ a → rule ≡ name_rule ls name a → Some b ≡ cond h.asked rule None → Stepped (λ (u : Unit {0}). tt) (use_name K h p) ls ls (Err (stop.Refused b))
name_refused K h p name a ls b rule n i r e = refused (name_is K h p name a ls n i ∙ ap (λ z. behind_rules z (Ok (record { result = tt; losses = ls }))) (sym (e ∙ ap (λ z. cond h.asked z None) r)))

pub name_done : (K : Kinds) (h : Here) (p : Part) (name : Option BindId) (a : Held) (ls : Losses) (rule : Option Broken) → p.name ≡ name → p.head ≡ a → rule ≡ name_rule ls name a → None ≡ cond h.asked rule None → Stepped (λ (u : Unit {0}). tt) (use_name K h p) ls ls (Ok tt)
name_done K h p name a ls rule n i r e = stepped (name_is K h p name a ls n i ∙ ap (λ z. behind_rules z (Ok (record { result = tt; losses = ls }))) (sym (e ∙ ap (λ z. cond h.asked z None) r))) (grows_not ls)

pub ruleset using_names = (name_refused, name_done, no_memory)

-- ---- an update

-- four demands in a row, of which the last looks at what was consumed
four_demands : {A : Type 0} (asked : Bool) (r s t : Option Broken) (u : Losses → Option Broken) (next : Step A) (ls : Losses)
    → and_then (demand asked r) (λ z. and_then (demand asked s) (λ y. and_then (demand asked t) (λ x. and_then (and_then losses_now (λ ks. demand asked (u ks))) (λ w. next)))) ls
    ≡ behind_rules (cond asked (or_else r (or_else s (or_else t (u ls)))) None) (next ls)
four_demands false r s t u next ls = refl
four_demands true (Some b) s t u next ls = refl
four_demands true None (Some b) t u next ls = refl
four_demands true None None (Some b) u next ls = refl
four_demands {A} true None None None u next ls = last_demand (u ls)
  where
    last_demand : (o : Option Broken) → then_do (demand true o ls) (λ d. next d.losses) ≡ behind_rules o (next ls)
    last_demand (Some b) = refl
    last_demand None = refl

update_is : (h : Here) (mark : Place) (a : Held) (parts : List Held) (new : Value) (ls : Losses)
    → update h mark a parts new ls ≡ behind_rules (cond h.asked (update_rules h ls mark a parts) None) (Ok (record { result = new; losses = lose_all (losses_at (Mark mark) (aliases a.value)) ls }))
update_is h mark a parts new ls =
    four_demands h.asked (shares_with a (Mark mark) (aliases (last_value parts))) (not_consumable h (Mark mark) (aliases a.value)) (captured h (Mark mark) (aliases a.value)) (λ ks. first_broken (held_loss ks) (a ∷ parts))
    (and_then (consume (Mark mark) (aliases a.value)) (λ v. give new)) ls

pub update_refused : (h : Here) (mark : Place) (a : Held) (parts : List Held) (new : Value) (ls ms : Losses) (b : Broken) (rule : Option Broken) → rule ≡ update_rules h ls mark a parts → Some b ≡ cond h.asked rule None → Stepped (λ (u : Unit {0}). new) (update h mark a parts new) ls ms (Err (stop.Refused b))
update_refused h mark a parts new ls ms b rule r e = refused (update_is h mark a parts new ls ∙ ap (λ z. behind_rules z (Ok (record { result = new; losses = lose_all (losses_at (Mark mark) (aliases a.value)) ls }))) (sym (e ∙ ap (λ z. cond h.asked z None) r)))

pub update_done : (h : Here) (mark : Place) (a : Held) (parts : List Held) (new : Value) (ls ms : Losses) (names : Set) (rule : Option Broken) → rule ≡ update_rules h ls mark a parts → None ≡ cond h.asked rule None → names ≡ aliases a.value → ms ≡ lose_all (losses_at (Mark mark) names) ls → Stepped (λ (u : Unit {0}). new) (update h mark a parts new) ls ms (Ok tt)
update_done h mark a parts new ls ms names rule r e n m = stepped (update_is h mark a parts new ls ∙ ap (λ z. behind_rules z (Ok (record { result = new; losses = lose_all (losses_at (Mark mark) (aliases a.value)) ls }))) (sym (e ∙ ap (λ z. cond h.asked z None) r))
    ∙ ap (λ z. Ok (record { result = new; losses = z })) (sym (m ∙ ap (λ z. lose_all (losses_at (Mark mark) z) ls) n)))
    (subst (Grows ls) (sym m) (lose_all_grows (losses_at (Mark mark) names) ls))

pub ruleset updating = (update_refused, update_done, no_memory)

pub update_rules_are : (h : Here) (ls : Losses) (mark : Place) (a : Held) (parts : List Held) (names element : Set) (shared_rule fixed_rule outside_rule lost_rule later_rule settled_rule inside consumable result : Option Broken) → names ≡ aliases a.value → element ≡ aliases (last_value parts)
    → shared_rule ≡ naming (λ b. ResultAliases (array_name a.called b) (Mark mark)) (least (shared names element)) → fixed_rule ≡ not_consumable h (Mark mark) names → outside_rule ≡ captured h (Mark mark) names
    → lost_rule ≡ held_loss ls a → later_rule ≡ first_broken (held_loss ls) parts
    → settled_rule ≡ or_else lost_rule later_rule → inside ≡ or_else outside_rule settled_rule → consumable ≡ or_else fixed_rule inside → result ≡ or_else shared_rule consumable → result ≡ update_rules h ls mark a parts
update_rules_are h ls mark a parts names element r1 r2 r3 r4 r5 s3 s2 s1 s0 n e f1 f2 f3 f4 f5 g3 g2 g1 g0 =
    g0 ∙ ap (λ z. or_else r1 z) (g1 ∙ ap (λ z. or_else r2 z) (g2 ∙ ap (λ z. or_else r3 z) (g3 ∙ ap (λ z. or_else z r5) f4 ∙ ap (λ z. or_else (held_loss ls a) z) f5)))
    ∙ ap (λ z. or_else z (or_else r2 (or_else r3 settled_rules))) (f1 ∙ ap (λ z. naming (λ b. ResultAliases (array_name a.called b) (Mark mark)) (least (shared z element))) n ∙ ap (λ z. naming (λ b. ResultAliases (array_name a.called b) (Mark mark)) (least (shared (aliases a.value) z))) e)
    ∙ ap (λ z. or_else (shares_with a (Mark mark) (aliases (last_value parts))) (or_else z (or_else r3 settled_rules))) (f2 ∙ ap (not_consumable h (Mark mark)) n)
    ∙ ap (λ z. or_else (shares_with a (Mark mark) (aliases (last_value parts))) (or_else (not_consumable h (Mark mark) (aliases a.value)) (or_else z settled_rules))) (f3 ∙ ap (captured h (Mark mark)) n)
  where
    settled_rules : Option Broken
    settled_rules = or_else (held_loss ls a) (first_broken (held_loss ls) parts)
