-- A field, and a part of the index of what is written, are read in one way for all their productions.
use Rattle.std.proofs.Common.{◌≡◌, ℕ, max, Bool, true, false, cond, not, List, [], ◌∷◌, Result, Ok, Err, refl, length}
use Rattle.std.proofs.Math.Nat.{zero-max}
use Rattle.fut_token.specs.declared.token.Fixed.TheVariants as fixed
use Rattle.fut_token.specs.declared.token.Token.{Token}
use Rattle.fut_token.specs.declared.token.TokenKind.{TokenKind}
use Rattle.fut_token.specs.declared.token.TokenKind.TheVariants as kind
use Rattle.fut_ast.specs.Behind.{begins_operand}
use Rattle.fut_ast.specs.LeftOut.{begins_left_out}
use Rattle.fut_ast.specs.Parts.{without}
use Rattle.fut_ast.specs.Sorts.{Sort, Tree, Text, SourceExp, Exp_field, Written_item, Operands, Whole}
use Rattle.fut_ast.specs.Tokens.{starts, tail}
use Rattle.fut_ast.specs.declared.node.What.TheVariants as what
use Rattle.fut_grammar.specs.declared.fault.Fault.{Fault}
use Rattle.fut_grammar.specs.declared.fault.Fault.TheVariants.{LeftOut}
use Rattle.fut_grammar.specs.Phrases.{bounded, ended, exp_field_at, flat_at, items, nodes, phrases, read_at}
use Rattle.fut_grammar.specs.Reading.{◌>>=◌, Read, commas_at, expect, has_at, look_at, parts_at, refuse, refuse_sort, row_at, sub_at, word_at}
use Rattle.fut_grammar.proofs.Same.{same_written}
use Rattle.fut_grammar.proofs.Turns.{commas_same}
use Rattle.parse_atoms.specs.Parts.{field_at, target_at}

-- an expression on top of nothing, as the value of a field, and with nothing going on behind the field
abbrev on_top : Read SourceExp → Read SourceExp
on_top r = r >>= λ y. Ok (y.0, max 0 y.1, y.2)

abbrev as_field : Text → Read SourceExp → Read (Text × SourceExp)
as_field x r = r >>= λ y. Ok ((x, y.0), y.1, y.2)

abbrev field_ended : Read (Text × SourceExp) → Read (Text × SourceExp)
field_ended r = r >>= λ y. cond {A = Read (Text × SourceExp)} (starts fixed.Equal y.2) (Err (refuse y.2)) (Ok y)

field_value : (x : Text) (r : Read SourceExp) → field_ended (as_field x (on_top r)) ≡ (r >>= λ e. cond {A = Read (Text × SourceExp)} (starts fixed.Equal e.2) (Err (refuse e.2)) (Ok ((x, e.0), e.1, e.2)))
field_value x (Err f) = refl
field_value x (Ok y) = rw (zero-max y.1) refl

-- no slice begins behind an expression
abbrev looked : SourceExp × ℕ × List Token → Result (Unit {0}) Fault → Read SourceExp
looked y l = ◌>>=◌ {A = Unit {0} × ℕ × List Token} (l >>= λ u. Ok (u, y.1, y.2)) (λ z. Ok (y.0, z.1, z.2))

abbrev no_slice : List Token → Result (Unit {0}) Fault
no_slice ts = look_at (without what.SliceUpdate) ts

abbrev whole_read : Read SourceExp → Read SourceExp
whole_read r = r >>= λ z. Ok z

looked_is : (y : SourceExp × ℕ × List Token) (l : Result (Unit {0}) Fault) → whole_read (looked y l) ≡ (l >>= λ u. Ok y)
looked_is y (Ok u) = refl
looked_is y (Err f) = refl

target_value : (r : Read SourceExp) → whole_read (on_top r >>= λ y. looked y (no_slice y.2)) ≡ (r >>= λ e. no_slice e.2 >>= λ l. Ok e)
target_value (Err f) = refl
target_value (Ok y) = rw (zero-max y.1) (looked_is y (no_slice y.2))

abbrev no_target : Fault → Read SourceExp
no_target f = Err f

target_refused : (b : Bool) (left_out other : Fault) → no_target (cond b left_out other) ≡ (cond {A = Result (Unit {0}) Fault} (not b) (Ok tt) (Err (cond b left_out other)) >>= λ l. no_target other)
target_refused true left_out other = refl
target_refused false left_out other = refl

module _ (inner : (n : Sort) → List Token → Read (Tree n)) where
  -- behind a name
  field_behind : (t : Token) (us : List Token) (x : Text) → t.kind ≡ kind.Name x → phrases inner Exp_field (t ∷ us) ≡ field_at inner (t ∷ us)
  unfolding phrases items bounded ended flat_at exp_field_at refuse_sort field_at row_at parts_at has_at sub_at word_at expect
  field_behind t us x e = go (starts fixed.Equal us) refl
    where
      go : (b : Bool) → starts fixed.Equal us ≡ b → phrases inner Exp_field (t ∷ us) ≡ field_at inner (t ∷ us)
      go true c = rw (e, c) (field_value x (inner Whole (tail us)))
      go false c = rw (e, c) (rw c refl)

  pub field_is : (ts : List Token) → phrases inner Exp_field ts ≡ field_at inner ts
  unfolding phrases items bounded ended flat_at refuse_sort field_at word_at
  field_is [] = refl
  field_is (t ∷ us) = go t.kind refl
    where
      go : (k : TokenKind) → t.kind ≡ k → phrases inner Exp_field (t ∷ us) ≡ field_at inner (t ∷ us)
      go (kind.Name x) e = field_behind t us x e
      go (kind.Fixed f) e = rw e refl
      go (kind.Int v s) e = rw e refl
      go (kind.TypeVar l x) e = rw e refl
      go (kind.Char c) e = rw e refl
      go (kind.Text x) e = rw e refl
      go (kind.Field x) e = rw e refl
      go (kind.Constructor x) e = rw e refl

  pub target_is : (ts : List Token) → phrases inner Written_item ts ≡ target_at inner ts
  unfolding phrases items nodes bounded ended flat_at refuse_sort target_at row_at parts_at has_at sub_at
  target_is ts = go (begins_operand ts) refl
    where
      go : (b : Bool) → begins_operand ts ≡ b → phrases inner Written_item ts ≡ target_at inner ts
      go true b = rw b (target_value (inner (Operands 1) ts))
      go false b = rw b (target_refused (begins_left_out what.SliceUpdate ts) (LeftOut (length ts) what.SliceUpdate) (refuse ts))

-- a `let` reads the index of what is written in the same way
pub targets_same : (d g : ℕ) (ts : List Token) → commas_at (items (read_at d)) (length ts) Written_item g ts ≡ commas_at (phrases (read_at d)) (length ts) Written_item g ts
targets_same d g ts = commas_same (items (read_at d)) (phrases (read_at d)) Written_item (same_written (read_at d)) (length ts) g ts
