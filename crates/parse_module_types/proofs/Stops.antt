-- What stops the reading of a part stops that of the production.
use Rattle.std.proofs.Common.{◌≡◌, Bool, true, false, List, Result, Ok, Err, if◌then◌else◌, refl}
use Rattle.fut_token.specs.declared.token.Fixed.{Fixed}
use Rattle.fut_token.specs.declared.token.Token.{Token}
use Rattle.fut_ast.specs.Tokens.{starts, tail}
use Rattle.fut_grammar.specs.declared.fault.Fault.{Fault}
use Rattle.fut_grammar.specs.declared.fault.Stop.{Stop}
use Rattle.fut_grammar.specs.declared.fault.Stop.TheVariants as stop
use Rattle.fut_grammar.specs.Reading.{◌>>=◌, Fails, expect, refuse}

pub stopped : {A B : Type 0} (e : Stop) (r : Result A Fault) (f : A → Result B Fault) → Fails e r → Fails e (r >>= f)
stopped stop.Memory r f h = tt
stopped (stop.Fault x) r f h = rw h refl

-- a part whose value is seen in another way
pub part_stopped : {A B C : Type 0} (e : Stop) (r : Result A Fault) (f : A → Result B Fault) (k : B → Result C Fault) → Fails e r → Fails e (r >>= f >>= k)
part_stopped e r f k h = stopped e (r >>= f) k (stopped e r f h)

-- the same fault, of what is read instead
pub fault_stopped : (A B : Type 0) (e : Stop) (x : Fault) → Fails {Y = A} e (Err x) → Fails {Y = B} e (Err x)
fault_stopped A B stop.Memory x h = tt
fault_stopped A B (stop.Fault y) x h = stopped {A = A} {B = B} (stop.Fault y) (Err x) (λ a. Err x) h

-- a sign and what stands behind it: one of them is what stopped
pub behind : {P D : Type 0} (e : Stop) (b : Bool) (r : Result D Fault) (x : Fault) → Fails e (if b then r else Err x) → (b ≡ true → Fails e r → P) → (b ≡ false → Fails {Y = D} e (Err x) → P) → P
behind e true r x h k l = k refl h
behind e false r x h k l = l refl h

-- a sign that a test has shown
pub taken : (f : Fixed) (ts : List Token) → starts f ts ≡ true → expect f ts ≡ Ok (tail ts)
unfolding expect
taken f ts h = rw h refl

-- a sign that a test has not shown
pub missing : (f : Fixed) (ts : List Token) → starts f ts ≡ false → expect f ts ≡ Err (refuse ts)
unfolding expect
missing f ts h = rw h refl
