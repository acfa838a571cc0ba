-- The rules are looked at in the order of evaluation. A step gives a result or the first rule that is broken, and carries what
-- was consumed.
use Rattle.std.specs.Prelude.{ℕ, zero, suc, Bool, true, false, cond, List, [], ◌∷◌, ◌++◌, Option, Some, None, Result, Ok, Err}
use Rattle.fut_aliases.specs.declared.aliases.Alias.{Alias}
use Rattle.fut_aliases.specs.declared.refusals.Broken.{Broken}
use Rattle.fut_aliases.specs.declared.refusals.Broken.TheVariants.{Consumed}
use Rattle.fut_aliases.specs.declared.refusals.Loss.{Loss}
use Rattle.fut_aliases.specs.declared.refusals.Named.{Named}
use Rattle.fut_aliases.specs.declared.refusals.Named.TheVariants.{ByAlias}
use Rattle.fut_aliases.specs.declared.refusals.Spot.{Spot}
use Rattle.fut_aliases.specs.Aliases.{is_alias, Set, those, least}

abbrev pub Answer : Type 0 → Type 0
Answer A = Result A Broken

abbrev pub then_do : {A B : Type 0} → Answer A → (A → Answer B) → Answer B
then_do (Ok a) more_of = more_of a
then_do (Err e) more_of = Err e

-- ---- what was consumed: each alias once, where it was consumed first, in the order in which that happened

abbrev pub Losses : Type 0
Losses = List Loss

abbrev pub lost_at : Losses → Alias → Option Spot
lost_at [] a = None
lost_at (l ∷ ls) a = cond (is_alias a l.alias) (Some l.at) (lost_at ls a)

abbrev pub is_some : Option Spot → Bool
is_some (Some p) = true
is_some None = false

abbrev pub is_lost : Losses → Alias → Bool
is_lost ls a = is_some (lost_at ls a)

abbrev pub lose : Loss → Losses → Losses
lose l ls = cond (is_lost ls l.alias) ls (ls ++ l ∷ [])

unfoldable pub lose_all : Losses → Losses → Losses
lose_all [] ls = ls
lose_all (l ∷ more_of) ls = lose_all more_of (lose l ls)

abbrev pub losses_at : Spot → Set → Losses
losses_at p [] = []
losses_at p (a ∷ s) = record { alias = a; at = p } ∷ losses_at p s

-- those behind the first so many
abbrev pub behind : ℕ → Losses → Losses
behind zero ls = ls
behind (suc n) [] = []
behind (suc n) (l ∷ ls) = behind n ls

-- ---- steps

pub record Done (A : Type 0) : Type 0 where
  pub result : A
  pub losses : Losses

abbrev pub Step : Type 0 → Type 0
Step A = Losses → Answer (Done A)

abbrev pub give : {A : Type 0} → A → Step A
give a ls = Ok (record { result = a; losses = ls })

abbrev pub and_then : {A B : Type 0} → Step A → (A → Step B) → Step B
and_then m next ls = then_do (m ls) (λ d. next d.result d.losses)

abbrev pub losses_now : Step Losses
losses_now ls = Ok (record { result = ls; losses = ls })

abbrev pub consume : Spot → Set → Step (Unit {0})
consume p s ls = Ok (record { result = tt; losses = lose_all (losses_at p s) ls })

-- this is consumed too
abbrev pub lose_too : Losses → Step (Unit {0})
lose_too more_of ls = Ok (record { result = tt; losses = lose_all more_of ls })

-- a step whose consumption is put back
abbrev pub apart : {A : Type 0} → Step A → Step A
apart m ls = then_do (m ls) (λ d. Ok (record { result = d.result; losses = ls }))

-- two steps of which one is taken: all that either consumes is consumed
abbrev pub either_of : {A B C : Type 0} → (A → B → C) → Step A → Step B → Step C
either_of join m n ls = then_do (m ls) (λ d. then_do (n ls) (λ e. Ok (record { result = join d.result e.result; losses = lose_all e.losses d.losses })))

-- ---- rules: the first that is broken is the answer, where rules are asked for

abbrev pub refuse : Option Broken → Step (Unit {0})
refuse None = give tt
refuse (Some b) = λ ls. Err b

abbrev pub demand : Bool → Option Broken → Step (Unit {0})
demand true b = refuse b
demand false b = give tt

abbrev pub or_else : Option Broken → Option Broken → Option Broken
or_else (Some b) c = Some b
or_else None c = c

abbrev pub naming : (Alias → Broken) → Option Alias → Option Broken
naming make (Some a) = Some (make a)
naming make None = None

-- the least of these aliases, if there is one
abbrev pub some_alias : (Named → Broken) → Set → Option Broken
some_alias make s = naming (λ a. make (ByAlias a)) (least s)

abbrev pub consumed_at : (Spot → Broken) → Option Spot → Option Broken
consumed_at make (Some p) = Some (make p)
consumed_at make None = None

-- No name of a value may be among the losses: the name that is used is the answer, or else the least that is lost; and where that
-- was consumed.
abbrev pub first_loss : Losses → (Alias → Named) → Spot → Option Alias → Option Broken
first_loss ls name used None = None
first_loss ls name used (Some a) = consumed_at (λ p. Consumed (name a) p used) (lost_at ls a)

unfoldable pub lost : Losses → (Alias → Named) → Spot → Set → Option Broken
lost ls name used s = first_loss ls name used (least (those (is_lost ls) s))
