-- Steps by the checker's sets and by whole ones: both refuse the same, or give related results.
use Rattle.std.proofs.Common.{◌≡◌, ℕ, ◌<◌, ◌≤◌, Bool, true, false, ◌&&◌, List, [], ◌∷◌, ◌++◌, length, Option, Some, None, Ok, Err, ◌⊎◌, inl, inr, refl, sym, ap, ap₂, subst, arith}
use Rattle.fut_aliases.specs.declared.aliases.Alias.{Alias}
use Rattle.fut_aliases.specs.declared.refusals.Broken.{Broken}
use Rattle.fut_aliases.specs.declared.refusals.Named.{Named}
use Rattle.fut_aliases.specs.declared.refusals.Named.TheVariants.{ByAlias}
use Rattle.fut_aliases.specs.declared.refusals.Spot.TheVariants.{First}
use Rattle.fut_aliases.specs.Aliases.{Set}
use Rattle.fut_aliases.specs.Values.{Value, aliases}
use Rattle.fut_aliases.specs.Steps.{Answer, then_do, Losses, is_lost, Done, Step, give, and_then, demand, or_else, naming, some_alias}
use Rattle.fut_aliases.specs.Calls.{Held, held_loss, first_broken}
use Rattle.alias_laws.proofs.Worlds.{World, SetR, least_is, node, Grows, grows_not, grows_on}
use Rattle.alias_laws.proofs.Values.{ValueR, value_on, aliases_are}
use Rattle.alias_laws.proofs.Losing.{kept_losses, kept_on, LossesR, lost_same}
use Rattle.alias_laws.proofs.Since.{Since, since_grows, since_on, stays_lost, behind_lost}

-- ---- worlds and numbers

pub record Only (w w2 : World) (lo hi : ℕ) : Type 0 where
  pub only : (n : ℕ) → w2.known n ≡ true → (w.known n ≡ true) ⊎ ((lo ≤ n) × (n < hi))

abbrev pub Free : World → ℕ → ℕ → Type 0
Free w lo hi = (n : ℕ) → lo ≤ n → n < hi → w.known n ≡ false

pub only_these : (w : World) (lo hi : ℕ) → Only w w lo hi
only_these w lo hi = record { only = λ n h. inl h }

pub only_wider : {w w2 : World} {lo hi lo2 hi2 : ℕ} → lo2 ≤ lo → hi ≤ hi2 → Only w w2 lo hi → Only w w2 lo2 hi2
only_wider {w} {w2} {lo} {hi} {lo2} {hi2} l h p = record { only = λ n k. by_place n (p.only n k) }
  where
    by_place : (n : ℕ) → (w.known n ≡ true) ⊎ ((lo ≤ n) × (n < hi)) → (w.known n ≡ true) ⊎ ((lo2 ≤ n) × (n < hi2))
    by_place n (inl k) = inl k
    by_place n (inr k) = inr (omega arith, omega arith)

pub only_on : {w w2 w3 : World} {lo mi lo2 hi : ℕ} → lo ≤ lo2 → mi ≤ hi → Only w w2 lo mi → Only w2 w3 lo2 hi → Only w w3 lo hi
only_on {w} {w2} {w3} {lo} {mi} {lo2} {hi} l h p q = record { only = λ n k. by_place n (q.only n k) }
  where
    by_first : (n : ℕ) → (w.known n ≡ true) ⊎ ((lo ≤ n) × (n < mi)) → (w.known n ≡ true) ⊎ ((lo ≤ n) × (n < hi))
    by_first n (inl k) = inl k
    by_first n (inr k) = inr (k.0, omega arith)

    by_place : (n : ℕ) → (w2.known n ≡ true) ⊎ ((lo2 ≤ n) × (n < hi)) → (w.known n ≡ true) ⊎ ((lo ≤ n) × (n < hi))
    by_place n (inl k) = by_first n (p.only n k)
    by_place n (inr k) = inr (omega arith, k.1)

-- what is free stays so behind another part of the text
pub free_on : {w w2 : World} {lo mi hi : ℕ} → Only w w2 lo mi → Free w mi hi → Free w2 mi hi
free_on {w} {w2} {lo} {mi} {hi} p f n l h = by_known (w2.known n) refl
  where
    by_place : (w.known n ≡ true) ⊎ ((lo ≤ n) × (n < mi)) → w2.known n ≡ true → w2.known n ≡ false
    by_place (inl k) e = let z : w.known n ≡ false = f n l h in cc
    by_place (inr k) e = absurd (omega arith)

    by_known : (b : Bool) → w2.known n ≡ b → w2.known n ≡ false
    by_known true e = by_place (p.only n e) e
    by_known false e = e

-- what is free apart from a part of the text
pub free_apart : {w w2 : World} {lo hi a b : ℕ} → Only w w2 lo hi → (b ≤ lo) ⊎ (hi ≤ a) → Free w a b → Free w2 a b
free_apart {w} {w2} {lo} {hi} {a} {b} p d f n l h = by_known (w2.known n) refl
  where
    by_side : (b ≤ lo) ⊎ (hi ≤ a) → lo ≤ n → n < hi → w2.known n ≡ false
    by_side (inl x) y z = absurd (omega arith)
    by_side (inr x) y z = absurd (omega arith)

    by_place : (w.known n ≡ true) ⊎ ((lo ≤ n) × (n < hi)) → w2.known n ≡ true → w2.known n ≡ false
    by_place (inl k) e = let z : w.known n ≡ false = f n l h in cc
    by_place (inr k) e = by_side d k.0 k.1

    by_known : (x : Bool) → w2.known n ≡ x → w2.known n ≡ false
    by_known true e = by_place (p.only n e) e
    by_known false e = e

pub free_part : (w : World) {lo hi lo2 hi2 : ℕ} → lo ≤ lo2 → hi2 ≤ hi → Free w lo hi → Free w lo2 hi2
free_part w l h f n p q = f n (omega arith) (omega arith)

-- ---- worlds where sets have nothing of this

abbrev pub avoiding : World → (Alias → Bool) → World
avoiding w test = record { known = w.known; first = w.first; no_later = w.no_later; avoided = test }

-- what was lost before, where rules are asked for
abbrev pub gone : Bool → Losses → Alias → Bool
gone asked ls a = asked && is_lost ls a

abbrev pub plain : World → World
plain w = avoiding w (λ a. false)

-- ---- answers

pub data AnswerR {A : Type 0} (asked : Bool) (w : World) (lo hi : ℕ) (base : Losses) (R : World → Losses → A → A → Type 0) : Answer (Done A) → Answer (Done A) → Type 0 where
  refused : {e : Broken} → AnswerR asked w lo hi base R (Err e) (Err e)
  done : {a a' : A} {ls ls' : Losses} (w2 : World) → Grows w w2 → Only w w2 lo hi → LossesR w2 ls ls' → (asked ≡ true → Since w2 base ls) → R w2 ls a a' → AnswerR asked w lo hi base R (Ok (record { result = a; losses = ls })) (Ok (record { result = a'; losses = ls' }))

-- ---- one world, whatever is avoided

pub avoiding_less : {w w2 : World} {test test2 : Alias → Bool} → Grows w w2 → ((a : Alias) → test a ≡ false → test2 a ≡ false) → Grows (avoiding w test) (avoiding w2 test2)
avoiding_less g h = record { knows = g.knows; agrees = g.agrees; avoids = h }

pub losses_where : {w : World} {ls ls' : Losses} (test : Alias → Bool) → LossesR w ls ls' → LossesR (avoiding w test) ls ls'
losses_where {w} {ls} {ls'} test p = record { whole = record { closed = p.whole.closed; is_known = p.whole.is_known }; is = p.is }

pub since_where : {w : World} {before ls : Losses} (test : Alias → Bool) → Since w before ls → Since (avoiding w test) before ls
since_where {w} test p = record { more = p.more; is = p.is; closed = p.closed; is_known = p.is_known; is_new = p.is_new }

pub gone_before : {w : World} {asked : Bool} {base ls : Losses} → (asked ≡ true → Since w base ls) → (a : Alias) → gone asked ls a ≡ false → gone asked base a ≡ false
gone_before {asked = true} p a h = stays_lost (p refl) a h
gone_before {asked = false} p a h = refl

-- nothing is lost where no rule is asked for
pub unlost : (asked : Bool) (ls : Losses) (a : Alias) → (asked ≡ true → is_lost ls a ≡ false) → gone asked ls a ≡ false
unlost true ls a h = h refl
unlost false ls a h = refl

pub value_before : {w : World} {asked : Bool} {base ls : Losses} {v v' : Value} → (asked ≡ true → Since w base ls) → ValueR (avoiding w (gone asked ls)) v v' → ValueR (avoiding w (gone asked base)) v v'
value_before {w} p q = value_on (avoiding_less (grows_not w) (gone_before p)) q

-- ---- parts that wait

pub data HeldR (w : World) (asked : Bool) (base ls : Losses) : Held → Held → Type 0 where
  held_is : {n : ℕ} {c f : Named} {v v' : Value} (before : Losses) → ValueR (avoiding w (gone asked base)) v v' → ((a : Alias) → is_lost before a ≡ true → w.known (node a) ≡ true) → (asked ≡ true → Since w before ls)
      → HeldR w asked base ls (record { node = n; called = c; first_name = f; value = v; losses = length before }) (record { node = n; called = c; first_name = f; value = v'; losses = length (kept_losses w before) })

pub data HeldsR (w : World) (asked : Bool) (base ls : Losses) : List Held → List Held → Type 0 where
  no_parts : HeldsR w asked base ls [] []
  more_parts : {a a' : Held} {as_well as_well' : List Held} → HeldR w asked base ls a a' → HeldsR w asked base ls as_well as_well' → HeldsR w asked base ls (a ∷ as_well) (a' ∷ as_well')

pub held_on : {w w2 : World} {asked : Bool} {base ls ms : Losses} {a a' : Held} → Grows w w2 → (asked ≡ true → Since w2 ls ms) → HeldR w asked base ls a a' → HeldR w2 asked base ms a a'
held_on {w} {w2} {asked} {base} {ls} {ms} g p (held_is {n} {c} {f} {v} {v'} before q k s) =
    subst (λ l. HeldR w2 asked base ms (record { node = n; called = c; first_name = f; value = v; losses = length before }) (record { node = n; called = c; first_name = f; value = v'; losses = length l })) (kept_on g before k)
    (held_is before (value_on (avoiding_less g (λ a h. h)) q) (λ a h. g.knows (node a) (k a h)) (λ e. since_on (since_grows g (s e)) (p e)))

pub helds_on : {w w2 : World} {asked : Bool} {base ls ms : Losses} {as_well as_well' : List Held} → Grows w w2 → (asked ≡ true → Since w2 ls ms) → HeldsR w asked base ls as_well as_well' → HeldsR w2 asked base ms as_well as_well'
helds_on g p no_parts = no_parts
helds_on g p (more_parts q qs) = more_parts (held_on g p q) (helds_on g p qs)

pub held_before : {w w0 : World} {asked : Bool} {base base2 ls : Losses} {a a' : Held} → (asked ≡ true → Since w0 base2 base) → HeldR w asked base ls a a' → HeldR w asked base2 ls a a'
held_before {w} p (held_is before q k s) = held_is before (value_on (avoiding_less (grows_not w) (gone_before p)) q) k s

pub held_value : {w : World} {asked : Bool} {base ls : Losses} {a a' : Held} → HeldR w asked base ls a a' → ValueR (avoiding w (gone asked base)) a.value a'.value
held_value (held_is before q k s) = q

pub same_node : {w : World} {asked : Bool} {base ls : Losses} {a a' : Held} → HeldR w asked base ls a a' → a'.node ≡ a.node
same_node (held_is before q k s) = refl

-- ---- rules

pub held_loss_same : {w : World} {base ls ls' : Losses} {a a' : Held} → LossesR w ls ls' → HeldR w true base ls a a' → held_loss ls' a' ≡ held_loss ls a
held_loss_same {w} {base} {ls} p (held_is {n} {c} {f} {v} {v'} before q k s) = lost_same (behind_lost (aliases v) (since_where (gone true base) (s refl)) (losses_where (gone true base) p)) (aliases_are q) ByAlias (First n)

pub losses_same : {w : World} {base ls ls' : Losses} {as_well as_well' : List Held} → LossesR w ls ls' → HeldsR w true base ls as_well as_well' → first_broken (held_loss ls') as_well' ≡ first_broken (held_loss ls) as_well
losses_same p no_parts = refl
losses_same p (more_parts q qs) = ap₂ or_else (held_loss_same p q) (losses_same p qs)

pub some_same : {w : World} {s s' : Set} (make : Named → Broken) → SetR w s s' → some_alias make s' ≡ some_alias make s
some_same make p = ap (naming (λ a. make (ByAlias a))) (least_is p)

-- ---- steps one behind another

pub then_are : {A B : Type 0} {asked : Bool} {w : World} {lo hi : ℕ} {base base2 : Losses} {R : World → Losses → A → A → Type 0} {S : World → Losses → B → B → Type 0} {x x' : Answer (Done A)} (mi lo2 : ℕ) (next next' : A → Step B) → lo ≤ lo2 → mi ≤ hi
    → AnswerR asked w lo mi base2 R x x'
    → ((w2 : World) (a a' : A) (ls ls' : Losses) → Grows w w2 → Only w w2 lo mi → LossesR w2 ls ls' → (asked ≡ true → Since w2 base2 ls) → R w2 ls a a' → AnswerR asked w2 lo2 hi base S (next a ls) (next' a' ls'))
    → AnswerR asked w lo hi base S (then_do x (λ d. next d.result d.losses)) (then_do x' (λ d. next' d.result d.losses))
then_are mi lo2 next next' l h refused k = refused
then_are {B = B} {asked = asked} {w = w} {lo = lo} {hi = hi} {base = base} {base2 = base2} {R = R} {S = S} mi lo2 next next' l h (done {a} {a'} {ls} {ls'} w2 g o p s r) k = behind_it (k w2 a a' ls ls' g o p s r)
  where
    behind_it : {y y' : Answer (Done B)} → AnswerR asked w2 lo2 hi base S y y' → AnswerR asked w lo hi base S y y'
    behind_it refused = refused
    behind_it (done w3 g3 o3 p3 s3 r3) = done w3 (grows_on g g3) (only_on l h o o3) p3 s3 r3

pub demand_then : {A : Type 0} (asked : Bool) {w : World} {lo hi : ℕ} {base : Losses} {S : World → Losses → A → A → Type 0} {b b' : Option Broken} {ls ls' : Losses} (next next' : Unit {0} → Step A) → (asked ≡ true → b' ≡ b)
    → ((asked ≡ true → b ≡ None) → AnswerR asked w lo hi base S (next tt ls) (next' tt ls')) → AnswerR asked w lo hi base S (and_then (demand asked b) next ls) (and_then (demand asked b') next' ls')
demand_then false next next' e r = r (λ h. cc)
demand_then {A} true {w} {lo} {hi} {base} {S} {b} {b'} {ls} {ls'} next next' e r = subst (λ c. AnswerR true w lo hi base S (and_then (demand true b) next ls) (and_then (demand true c) next' ls')) (sym (e refl)) (by_rule b (λ h. r (λ k. h)))
  where
    by_rule : (b : Option Broken) → (b ≡ None → AnswerR true w lo hi base S (next tt ls) (next' tt ls')) → AnswerR true w lo hi base S (and_then (demand true b) next ls) (and_then (demand true b) next' ls')
    by_rule None r = r refl
    by_rule (Some x) r = refused

pub wider : {A : Type 0} {asked : Bool} {w : World} {lo hi lo2 hi2 : ℕ} {base : Losses} {S : World → Losses → A → A → Type 0} {y y' : Answer (Done A)} → lo2 ≤ lo → hi ≤ hi2 → AnswerR asked w lo hi base S y y' → AnswerR asked w lo2 hi2 base S y y'
wider l h refused = refused
wider l h (done w3 g3 o3 p3 s3 r3) = done w3 g3 (only_wider l h o3) p3 s3 r3

pub helds_before : {w w0 : World} {asked : Bool} {base base2 ls : Losses} {as_well as_well' : List Held} → (asked ≡ true → Since w0 base2 base) → HeldsR w asked base ls as_well as_well' → HeldsR w asked base2 ls as_well as_well'
helds_before p no_parts = no_parts
helds_before p (more_parts q qs) = more_parts (held_before p q) (helds_before p qs)

pub helds_together : {w : World} {asked : Bool} {base ls : Losses} {as_well as_well' bs bs' : List Held} → HeldsR w asked base ls as_well as_well' → HeldsR w asked base ls bs bs' → HeldsR w asked base ls (as_well ++ bs) (as_well' ++ bs')
helds_together no_parts q = q
helds_together (more_parts p ps) q = more_parts p (helds_together ps q)

-- nothing is told of the result
abbrev pub Any : {A : Type 0} → World → Losses → A → A → Type 0
Any w ls a a' = Unit {0}

pub demand_is : (asked : Bool) {w : World} {lo hi : ℕ} {base : Losses} {b b' : Option Broken} {ls ls' : Losses} → LossesR w ls ls' → (asked ≡ true → Since w base ls) → (asked ≡ true → b' ≡ b) → AnswerR asked w lo hi base (Any {A = Unit {0}}) (demand asked b ls) (demand asked b' ls')
demand_is false {w} {lo} {hi} l s e = done w (grows_not w) (only_these w lo hi) l s tt
demand_is true {w} {lo} {hi} {base} {b} {b'} {ls} {ls'} l s e = subst (λ c. AnswerR true w lo hi base (Any {A = Unit {0}}) (demand true b ls) (demand true c ls')) (sym (e refl)) (by_rule b)
  where
    by_rule : (b : Option Broken) → AnswerR true w lo hi base (Any {A = Unit {0}}) (demand true b ls) (demand true b ls')
    by_rule None = done w (grows_not w) (only_these w lo hi) l s tt
    by_rule (Some x) = refused

-- the same, where the first step's numbers begin further on
pub then_from : {A B : Type 0} {asked : Bool} {w : World} {lo hi : ℕ} {base base2 : Losses} {R : World → Losses → A → A → Type 0} {S : World → Losses → B → B → Type 0} {x x' : Answer (Done A)} (a mi lo2 : ℕ) (next next' : A → Step B) → lo ≤ a → lo ≤ lo2 → mi ≤ hi
    → AnswerR asked w a mi base2 R x x'
    → ((w2 : World) (y y' : A) (ls ls' : Losses) → Grows w w2 → Only w w2 a mi → LossesR w2 ls ls' → (asked ≡ true → Since w2 base2 ls) → R w2 ls y y' → AnswerR asked w2 lo2 hi base S (next y ls) (next' y' ls'))
    → AnswerR asked w lo hi base S (then_do x (λ d. next d.result d.losses)) (then_do x' (λ d. next' d.result d.losses))
then_from a mi lo2 next next' f l h refused k = refused
then_from {B = B} {asked = asked} {w = w} {lo = lo} {hi = hi} {base = base} {base2 = base2} {R = R} {S = S} a mi lo2 next next' f l h (done {a = y} {a' = y'} {ls} {ls'} w2 g o p s r) k = behind_it (k w2 y y' ls ls' g o p s r)
  where
    behind_it : {z z' : Answer (Done B)} → AnswerR asked w2 lo2 hi base S z z' → AnswerR asked w lo hi base S z z'
    behind_it refused = refused
    behind_it (done w3 g3 o3 p3 s3 r3) = done w3 (grows_on g g3) (only_on l h (only_wider f (omega arith) o) o3) p3 s3 r3

-- in a world that knows more
pub in_world : {A : Type 0} {asked : Bool} {w w2 : World} {lo hi a b : ℕ} {base : Losses} {S : World → Losses → A → A → Type 0} {y y' : Answer (Done A)} → Grows w w2 → Only w w2 a b → lo ≤ a → b ≤ hi → AnswerR asked w2 lo hi base S y y' → AnswerR asked w lo hi base S y y'
in_world g o l h refused = refused
in_world g o l h (done w3 g3 o3 p3 s3 r3) = done w3 (grows_on g g3) (only_on (omega arith) (omega arith) (only_wider l h o) o3) p3 s3 r3

-- a step whose result is told in other words on either side
pub then_via : {A G G2 B : Type 0} {asked : Bool} {w : World} {lo hi : ℕ} {base base2 : Losses} {R : World → Losses → A → A → Type 0} {S : World → Losses → B → B → Type 0} {x x' : Answer (Done A)} (a mi lo2 : ℕ) (f : A → G) (f' : A → G2) (next : G → Step B) (next' : G2 → Step B) → lo ≤ a → lo ≤ lo2 → mi ≤ hi
    → AnswerR asked w a mi base2 R x x'
    → ((w2 : World) (y y' : A) (ls ls' : Losses) → Grows w w2 → Only w w2 a mi → LossesR w2 ls ls' → (asked ≡ true → Since w2 base2 ls) → R w2 ls y y' → AnswerR asked w2 lo2 hi base S (next (f y) ls) (next' (f' y') ls'))
    → AnswerR asked w lo hi base S (then_do (then_do x (λ d. give (f d.result) d.losses)) (λ d. next d.result d.losses)) (then_do (then_do x' (λ d. give (f' d.result) d.losses)) (λ d. next' d.result d.losses))
then_via a mi lo2 f f' next next' l m h refused k = refused
then_via a mi lo2 f f' next next' l m h (done w2 g o p s r) k = then_from a mi lo2 (λ y. next (f y)) (λ y. next' (f' y)) l m h (done w2 g o p s r) k

-- what is asked last is told
pub demand_told : (asked : Bool) {w : World} {lo hi : ℕ} {base : Losses} {b' : Option Broken} {ls ls' : Losses} (rule : Losses → Option Broken) → LossesR w ls ls' → (asked ≡ true → Since w base ls) → (asked ≡ true → b' ≡ rule ls)
    → AnswerR asked w lo hi base (λ (w2 : World) (ms : Losses) (u u' : Unit {0}). asked ≡ true → rule ms ≡ None) (demand asked (rule ls) ls) (demand asked b' ls')
demand_told false {w} {lo} {hi} rule l s e = done w (grows_not w) (only_these w lo hi) l s (λ h. cc)
demand_told true {w} {lo} {hi} {base} {b'} {ls} {ls'} rule l s e = subst (λ c. AnswerR true w lo hi base (λ (w2 : World) (ms : Losses) (u u' : Unit {0}). true ≡ true → rule ms ≡ None) (demand true (rule ls) ls) (demand true c ls')) (sym (e refl)) (by_rule (rule ls) refl)
  where
    by_rule : (b : Option Broken) → rule ls ≡ b → AnswerR true w lo hi base (λ (w2 : World) (ms : Losses) (u u' : Unit {0}). true ≡ true → rule ms ≡ None) (demand true b ls) (demand true b ls')
    by_rule None h = done w (grows_not w) (only_these w lo hi) l s (λ k. h)
    by_rule (Some x) h = refused

-- the same answers, told from an earlier point
pub retold : {A : Type 0} {asked : Bool} {w : World} {lo hi lo2 hi2 : ℕ} {base base2 : Losses} {R S : World → Losses → A → A → Type 0} {x x' : Answer (Done A)} → lo2 ≤ lo → hi ≤ hi2 → ((w2 : World) (ls : Losses) → Grows w w2 → (asked ≡ true → Since w2 base2 ls) → asked ≡ true → Since w2 base ls) → ((w2 : World) (a a' : A) (ls : Losses) → Grows w w2 → R w2 ls a a' → S w2 ls a a')
    → AnswerR asked w lo hi base2 R x x' → AnswerR asked w lo2 hi2 base S x x'
retold l h t k refused = refused
retold l h t k (done {a} {a'} {ls} {ls'} w2 g o p s r) = done w2 g (only_wider l h o) p (t w2 ls g s) (k w2 a a' ls g r)
