-- What stops the reading of a part stops that of the production.
use Rattle.std.proofs.Common.{◌≡◌, ℕ, true, false, Bool, List, Result, Err, cond, refl}
use Rattle.fut_token.specs.declared.token.Fixed.{Fixed}
use Rattle.fut_token.specs.declared.token.Token.{Token}
use Rattle.fut_ast.specs.Tokens.{starts, tail}
use Rattle.parse_atoms.specs.Tie.{behind}
use Rattle.fut_grammar.specs.declared.fault.Fault.{Fault}
use Rattle.fut_grammar.specs.declared.fault.Stop.{Stop}
use Rattle.fut_grammar.specs.Reading.{◌>>=◌, Fails, Read, refuse}
use Rattle.parse_types.proofs.ReadLaws.{fails_as}

bind_fails : {A B : Type 0} (e : Stop) (r : Result A Fault) (f : A → Result B Fault) → Fails e r → Fails e (r >>= f)
bind_fails e r f failed = fails_as e failed (λ x same. rw same refl)

-- the same fault, of what is read instead
fault_fails : (A B : Type 0) (e : Stop) (x : Fault) → Fails {Y = A} e (Err x) → Fails {Y = B} e (Err x)
fault_fails A B e x failed = bind_fails {A = A} {B = B} e (Err x) (λ a. Err x) failed

-- a sign and a phrase behind it: one of them is what failed
pub behind_fails : {A B : Type 0} {q : Result B Fault} (e : Stop) (sign : Fixed) (read : List Token → Read A) (ts : List Token) → Fails e (behind sign read ts) → (starts sign ts ≡ true → (f : Fault) → read (tail ts) ≡ Err f → q ≡ Err f) → (starts sign ts ≡ false → q ≡ Err (refuse ts)) → Fails e q
behind_fails {A = A} {B = B} {q = q} e sign read ts failed reads none = go (starts sign ts) reads none failed
  where
    go : (b : Bool) → (b ≡ true → (f : Fault) → read (tail ts) ≡ Err f → q ≡ Err f) → (b ≡ false → q ≡ Err (refuse ts)) → Fails e (cond {A = Read A} b (read (tail ts)) (Err (refuse ts))) → Fails e q
    go true k l h = fails_as e h (λ f r. k refl f r)
    go false k l h = rw (l refl) (fault_fails (A × ℕ × List Token) B e (refuse ts) h)
