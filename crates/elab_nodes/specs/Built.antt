-- What a builder of nodes gives for the parts that it is given: the first that was refused is the answer, and memory may
-- run out.
use Rattle.std.specs.Prelude.{Result, Ok, Err}
use Rattle.elab_scopes.specs.declared.refusal.Stop.{Stop}
use Rattle.elab_scopes.specs.declared.refusal.Stop.TheVariants as stop

pub data Built1 {A C : Type 0} (P : A → C → Type 0) : Result A Stop → Result C Stop → Type 0 where
  built1 : {a : A} {c : C} → P a c → Built1 P (Ok a) (Ok c)
  stops1 : {e : Stop} → Built1 P (Err e) (Err e)
  no_memory1 : {a : Result A Stop} → Built1 P a (Err stop.Memory)

pub data Built2 {A B C : Type 0} (P : A → B → C → Type 0) : Result A Stop → Result B Stop → Result C Stop → Type 0 where
  built2 : {a : A} {b : B} {c : C} → P a b c → Built2 P (Ok a) (Ok b) (Ok c)
  first_of_two : {e : Stop} {b : Result B Stop} → Built2 P (Err e) b (Err e)
  second_of_two : {a : A} {e : Stop} → Built2 P (Ok a) (Err e) (Err e)
  no_memory2 : {a : Result A Stop} {b : Result B Stop} → Built2 P a b (Err stop.Memory)

pub data Built3 {A B C D : Type 0} (P : A → B → C → D → Type 0) : Result A Stop → Result B Stop → Result C Stop → Result D Stop → Type 0 where
  built3 : {a : A} {b : B} {c : C} {d : D} → P a b c d → Built3 P (Ok a) (Ok b) (Ok c) (Ok d)
  first_of_three : {e : Stop} {b : Result B Stop} {c : Result C Stop} → Built3 P (Err e) b c (Err e)
  second_of_three : {a : A} {e : Stop} {c : Result C Stop} → Built3 P (Ok a) (Err e) c (Err e)
  third_of_three : {a : A} {b : B} {e : Stop} → Built3 P (Ok a) (Ok b) (Err e) (Err e)
  no_memory3 : {a : Result A Stop} {b : Result B Stop} {c : Result C Stop} → Built3 P a b c (Err stop.Memory)

-- what a call gives that is given no parts
pub data Built0 {C : Type 0} (P : C → Type 0) : Result C Stop → Type 0 where
  built0 : {c : C} → P c → Built0 P (Ok c)
  no_memory0 : Built0 P (Err stop.Memory)

pub data Built4 {A B C D E : Type 0} (P : A → B → C → D → E → Type 0) : Result A Stop → Result B Stop → Result C Stop → Result D Stop → Result E Stop → Type 0 where
  built4 : {a : A} {b : B} {c : C} {d : D} {e : E} → P a b c d e → Built4 P (Ok a) (Ok b) (Ok c) (Ok d) (Ok e)
  first_of_four : {e : Stop} {b : Result B Stop} {c : Result C Stop} {d : Result D Stop} → Built4 P (Err e) b c d (Err e)
  second_of_four : {a : A} {e : Stop} {c : Result C Stop} {d : Result D Stop} → Built4 P (Ok a) (Err e) c d (Err e)
  third_of_four : {a : A} {b : B} {e : Stop} {d : Result D Stop} → Built4 P (Ok a) (Ok b) (Err e) d (Err e)
  fourth_of_four : {a : A} {b : B} {c : C} {e : Stop} → Built4 P (Ok a) (Ok b) (Ok c) (Err e) (Err e)
  no_memory4 : {a : Result A Stop} {b : Result B Stop} {c : Result C Stop} {d : Result D Stop} → Built4 P a b c d (Err stop.Memory)
