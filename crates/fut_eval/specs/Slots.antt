-- Which value a place of the table has, or had before it was given up.
use Rattle.std.specs.Prelude.{◌≡◌, ℕ, List, length, Option, Some, None, false}
use Rattle.fut_scalar.specs.declared.scalar.Scalar.TheVariants as scalar
use Rattle.array_data.specs.declared.data.Data.{Data}
use Rattle.array_data.specs.declared.data.Data.TheVariants as hold
use Rattle.fut_eval.specs.declared.slots.Content.{Content}
use Rattle.fut_eval.specs.declared.slots.Content.TheVariants as content

-- of parts that are known, as they always are
abbrev pub with_parts : {A : Type 0} → (A → Data) → Option A → Data
with_parts make (Some x) = make x
with_parts make None = hold.Scalar (scalar.Bool false)

abbrev pub shown : Content → Data
shown (content.Here d) = d
shown (content.Words t n o) = with_parts (λ ws. hold.Words t ws) o
shown (content.Rows m h n o) = with_parts (λ rows. hold.Rows m h rows) o

abbrev pub So_long : {A : Type 0} → ℕ → Option (List A) → Type 0
So_long n (Some xs) = n ≡ length xs
So_long n None = ⊥

-- how long an array was stays known once it is given up
abbrev pub Knows_length : Content → Type 0
Knows_length (content.Here d) = Unit {0}
Knows_length (content.Words t n o) = So_long n o
Knows_length (content.Rows m h n o) = So_long n o
