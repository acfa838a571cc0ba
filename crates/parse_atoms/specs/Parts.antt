-- The parts of atoms, as they are read and found.
use Rattle.std.specs.Prelude.{ℕ, Bool, true, false, List, ◌&&◌, ◌||◌, Option, None, Result, Ok, Err, if◌then◌else◌}
use Rattle.std.specs.Borrow.{Bor}
use Rattle.fut_token.specs.declared.token.Fixed.{Fixed}
use Rattle.fut_token.specs.declared.token.Fixed.TheVariants as fixed
use Rattle.fut_token.specs.declared.token.Token.{Token}
use Rattle.fut_ast.specs.Behind.{begins_operand}
use Rattle.fut_ast.specs.Nodes.{use_of}
use Rattle.fut_ast.specs.Parts.{going_back, without}
use Rattle.fut_ast.specs.Sorts.{Sort, Tree, Text, SourceExp, Let_item, Operands, Whole}
use Rattle.fut_ast.specs.Tokens.{spot_of, starts, tail}
use Rattle.fut_ast.specs.declared.exp.Bind.{Bind}
use Rattle.fut_ast.specs.declared.exp.Ix.{Ix as PlainIx}
use Rattle.fut_ast.specs.declared.node.Spot.{Spot}
use Rattle.fut_ast.specs.declared.node.What.TheVariants as what
use Rattle.fut_tree.specs.declared.exp.ExpField.{ExpField}
use Rattle.fut_tree.specs.declared.exp.Ix.{Ix}
use Rattle.fut_tree.specs.Exps.{exp_fields, ix_of, ixs_of}
use Rattle.fut_tree.specs.Names.{maybe}
use Rattle.parse_nodes.specs.declared.index_nodes.NamedPart.{NamedPart}
use Rattle.parse_nodes.specs.declared.index_nodes.Upto.{Upto}
use Rattle.parse_nodes.specs.declared.index_nodes.WrittenPart.{WrittenPart}
use Rattle.parse_nodes.specs.Parts.{Written, named_all, named_of, upto_of, written_of}
use Rattle.fut_grammar.specs.declared.fault.Fault.{Fault}
use Rattle.fut_grammar.specs.Reading.{◌>>=◌, Read, expect, look_at, one_at, optional_at, refuse, upto_at, word_at}
use Rattle.parse_types.specs.declared.found.Found.{Found}
use Rattle.parse_types.specs.Found.{found_as}

-- fields of a record
abbrev pub field_found : Found ExpField → (Text × SourceExp) × ℕ × List Token
field_found = found_as (λ f. (f.name.now, f.exp.now))

abbrev pub fields_found : Found (Bor (List ExpField)) → List (Text × SourceExp) × ℕ × List Token
fields_found = found_as (λ fs. exp_fields fs.now)

-- behind a let of a row: whether it is the last one, and the tokens behind the keywords that tell
unfoldable pub behind_let : List Token → Result (Bool × List Token) Fault
behind_let ts = if starts fixed.KeyLet ts then Ok (false, tail ts) else (expect fixed.KeyIn ts >>= λ us. if starts fixed.KeyLet us then Ok (false, tail us) else Ok (true, us))

-- one let of a row
unfoldable pub let_of_row : ((n : Sort) → List Token → Read (Tree n)) → List Token → Read (Bind × Bool)
let_of_row read ts = read Let_item ts >>= λ b. behind_let b.2 >>= λ s. Ok ((b.0, s.0), b.1, s.1)

-- parts of an index
abbrev pub index_found : Found Ix → PlainIx × ℕ × List Token
index_found = found_as ix_of

abbrev pub indices_found : Found (Bor (List Ix)) → List PlainIx × ℕ × List Token
indices_found = found_as (λ is. ixs_of is.now)

-- the same in a section, with the names of their expressions
abbrev pub named_found : Found NamedPart → (List Bind × PlainIx) × ℕ × List Token
named_found = found_as named_of

abbrev pub nameds_found : Found (Bor (List NamedPart)) → List (List Bind × PlainIx) × ℕ × List Token
nameds_found = found_as (λ ps. named_all ps.now)

-- a part of an index as it is written, and what stands behind its first expression
abbrev pub written_found : Found WrittenPart → Written × ℕ × List Token
written_found = found_as written_of

abbrev pub upto_found : Found (Option Upto) → Option (Spot × Option SourceExp) × ℕ × List Token
upto_found = found_as upto_of

abbrev pub maybe_found : Found (Option (Bor SourceExp)) → Option SourceExp × ℕ × List Token
maybe_found = found_as maybe

-- ---- reading a field, a part of an index and such a part of what is written, each in one way for all its productions

-- "::-1", and the tokens behind
unfoldable pub reversal_at : List Token → Result (List Token) Fault
reversal_at ts = expect fixed.Colon ts >>= λ us. look_at going_back us >>= λ u. expect fixed.Colon us >>= λ vs. expect fixed.Minus vs >>= λ ws. one_at ws

-- an expression, behind which a keyword or symbol ends the production
abbrev pub ends_with : Fixed → SourceExp → ℕ → List Token → Read SourceExp
ends_with f e h ts = expect f ts >>= λ us. Ok (e, h, us)

-- the value of a field, behind which no "=" stands
abbrev pub field_end : Text → Read SourceExp → Read (Text × SourceExp)
field_end x read = read >>= λ e. if starts fixed.Equal e.2 then Err (refuse e.2) else Ok ((x, e.0), e.1, e.2)

module _ (sub : (n : Sort) → List Token → Read (Tree n)) where
  -- a name, and "=" and an expression or nothing
  unfoldable pub field_at : List Token → Read (Text × SourceExp)
  field_at ts =
      word_at ts >>= λ x. if starts fixed.Equal x.1 then field_end x.0 (sub Whole (tail x.1))
      else Ok ((x.0, use_of (spot_of ts).place x.0), 0, x.1)

  -- a part of an index, as it is written
  unfoldable pub any_part_at : List Token → Read Written
  any_part_at ts =
      if starts fixed.Colon ts && starts fixed.Colon (tail ts) then (reversal_at ts >>= λ us. Ok ((spot_of ts, None, None), 0, us))
      else (optional_at sub (Operands 1) 0 ts >>= λ e. upto_at sub e.1 e.2 >>= λ u. look_at (without what.Stride) u.2 >>= λ l. Ok ((spot_of ts, e.0, u.0), u.1, u.2))

  unfoldable pub part_at : List Token → Read Written
  part_at ts =
      if begins_operand ts || starts fixed.Colon ts then (any_part_at ts >>= λ y. if starts fixed.Colon y.2 || begins_operand y.2 then Err (refuse y.2) else Ok y)
      else Err (refuse ts)

  -- a part of the index of what is written: operands, since a slice in an update is left out
  unfoldable pub target_at : List Token → Read SourceExp
  target_at ts =
      if begins_operand ts then (sub (Operands 1) ts >>= λ e. look_at (without what.SliceUpdate) e.2 >>= λ l. Ok e)
      else (look_at (without what.SliceUpdate) ts >>= λ l. Err (refuse ts))
