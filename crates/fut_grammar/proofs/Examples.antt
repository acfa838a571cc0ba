-- Examples: where a form that is left out is answered, where an operator before ")" and a name before ":" are refused, and
-- what is none of these. In the texts above the tokens "!" stands before the token of the fault, and "t[" is a bracket
-- directly behind what stands before it.
use Rattle.std.proofs.Common.{◌≡◌, ℕ, Bool, true, false, List, [], ◌∷◌, map, Option, Some, None, Result, Ok, Err, refl}
use Rattle.fut_token.specs.declared.token.Fixed.{Fixed}
use Rattle.fut_token.specs.declared.token.Fixed.TheVariants as fixed
use Rattle.fut_token.specs.declared.token.TokenKind.{TokenKind}
use Rattle.fut_token.specs.declared.token.TokenKind.TheVariants as kind
use Rattle.fut_token.specs.declared.token.Token.{Token}
use Rattle.fut_ast.specs.declared.node.What.TheVariants as what
use Rattle.fut_ast.specs.declared.module.Program.{Program}
use Rattle.fut_grammar.specs.declared.fault.Fault.{Fault}
use Rattle.fut_grammar.specs.declared.fault.Fault.TheVariants.{Syntax, LeftOut}
use Rattle.fut_grammar.specs.Reading.{refuse_as, refuse, refuse_sort, expect, word_at, number_at, text_at, digits_at, variable_at, names_at, path_at, size_at, backtick_at, operator_taken, end_at, one_at, sub_at, commas_at, many_at, several_at, maybe_at, optional_at, upto_at, argument_at, start_at, has_at, parts_at, row_at, suffix_at}
use Rattle.fut_grammar.specs.Phrases.{ended, bounded, type_argument_at, pat_field_at, head_at, exp_field_at, index_at, named_at, let_at, loop_item_at, module_at, other_dec_at, dec_rest_at, flat_at, nodes, items, phrases, far_at, once_at, again_at, atomic_type_at, applied_type_at, whole_type_at, atomic_pat_at, whole_pat_at, round_end, section_end, plain_at, operator_section_at, paren_at, bracket_at, base_at, atom_at, app_at, unary_at, operand_too_deep, operation_at, operators_at, graded_at, chain_at, operands_at, range_behind, range_at, updates_behind, types_behind, typed_behind, typed_at, updated_at, form_at, body_at, row_of_lets, lets_at, big_at, last_at, whole_at, operand_at, right_at, replacing_at, inside_operand, inside_whole, inside_at, atomic_mod_at, first_mod_at, applied_mod_at, last_mod_at, whole_mod_at, atomic_mtype_at, whole_mtype_at, spec_at, dec_at, step, read_at, program_at}

token : TokenKind → Bool → Token
token k tight = record { kind = k; start = 0; end = 0; place = record { file = 0; line = 1; column = 1 }; tight = tight }

other : TokenKind → Token
other k = token k false

sign : Fixed → Token
sign f = token (kind.Fixed f) false

name : Token
name = token (kind.Name []) false

tight_bracket : Token
tight_bracket = token (kind.Fixed fixed.OpenBracket) true

fault_of : Result (Program × ℕ) Fault → Option Fault
fault_of (Ok x) = None
fault_of (Err f) = Some f

examples : List (List Token × Option Fault)
examples =
    -- type ! ^ x = x
    (sign fixed.KeyType ∷ sign fixed.Caret ∷ name ∷ sign fixed.Equal ∷ name ∷ [], Some (LeftOut 4 what.LiftedType)) ∷
    -- module type ! ~ x = x
    (sign fixed.KeyModule ∷ sign fixed.KeyType ∷ sign fixed.Tilde ∷ name ∷ sign fixed.Equal ∷ name ∷ [], Some (LeftOut 4 what.LiftedType)) ∷
    -- module type x = { type ! ^ x }
    (sign fixed.KeyModule ∷ sign fixed.KeyType ∷ name ∷ sign fixed.Equal ∷ sign fixed.OpenBrace ∷ sign fixed.KeyType ∷ sign fixed.Caret ∷ name ∷ sign fixed.CloseBrace ∷ [], Some (LeftOut 3 what.LiftedType)) ∷
    -- def ! ( + ) = x
    (sign fixed.KeyDef ∷ sign fixed.OpenParen ∷ sign fixed.Plus ∷ sign fixed.CloseParen ∷ sign fixed.Equal ∷ name ∷ [], Some (LeftOut 5 what.OperatorDefinition)) ∷
    -- local let ! ( + ) = x
    (sign fixed.KeyLocal ∷ sign fixed.KeyLet ∷ sign fixed.OpenParen ∷ sign fixed.Plus ∷ sign fixed.CloseParen ∷ sign fixed.Equal ∷ name ∷ [], Some (LeftOut 5 what.OperatorDefinition)) ∷
    -- entry ! ( + ) = x
    (sign fixed.KeyEntry ∷ sign fixed.OpenParen ∷ sign fixed.Plus ∷ sign fixed.CloseParen ∷ sign fixed.Equal ∷ name ∷ [], Some (LeftOut 5 what.OperatorDefinition)) ∷
    -- module type x = { val ! ( + ) : x }
    (sign fixed.KeyModule ∷ sign fixed.KeyType ∷ name ∷ sign fixed.Equal ∷ sign fixed.OpenBrace ∷ sign fixed.KeyVal ∷ sign fixed.OpenParen ∷ sign fixed.Plus ∷ sign fixed.CloseParen ∷ sign fixed.Colon ∷ name ∷ sign fixed.CloseBrace ∷ [], Some (LeftOut 6 what.OperatorDefinition)) ∷
    -- def x = x ! . ( x )
    (sign fixed.KeyDef ∷ name ∷ sign fixed.Equal ∷ name ∷ sign fixed.Dot ∷ sign fixed.OpenParen ∷ name ∷ sign fixed.CloseParen ∷ [], Some (LeftOut 4 what.LocalOpen)) ∷
    -- def x = x . x ! . ( x )
    (sign fixed.KeyDef ∷ name ∷ sign fixed.Equal ∷ name ∷ sign fixed.Dot ∷ name ∷ sign fixed.Dot ∷ sign fixed.OpenParen ∷ name ∷ sign fixed.CloseParen ∷ [], Some (LeftOut 4 what.LocalOpen)) ∷
    -- def x = ( x ) ! . ( x )
    (sign fixed.KeyDef ∷ name ∷ sign fixed.Equal ∷ sign fixed.OpenParen ∷ name ∷ sign fixed.CloseParen ∷ sign fixed.Dot ∷ sign fixed.OpenParen ∷ name ∷ sign fixed.CloseParen ∷ [], Some (LeftOut 4 what.LocalOpen)) ∷
    -- def x = ( ! . ( x ) )
    (sign fixed.KeyDef ∷ name ∷ sign fixed.Equal ∷ sign fixed.OpenParen ∷ sign fixed.Dot ∷ sign fixed.OpenParen ∷ name ∷ sign fixed.CloseParen ∷ sign fixed.CloseParen ∷ [], Some (LeftOut 5 what.LocalOpen)) ∷
    -- def x : x ! . ( x )
    (sign fixed.KeyDef ∷ name ∷ sign fixed.Colon ∷ name ∷ sign fixed.Dot ∷ sign fixed.OpenParen ∷ name ∷ sign fixed.CloseParen ∷ [], Some (LeftOut 4 what.LocalOpen)) ∷
    -- def x = x with x ! . ( x ) = x
    (sign fixed.KeyDef ∷ name ∷ sign fixed.Equal ∷ name ∷ sign fixed.KeyWith ∷ name ∷ sign fixed.Dot ∷ sign fixed.OpenParen ∷ name ∷ sign fixed.CloseParen ∷ sign fixed.Equal ∷ name ∷ [], Some (LeftOut 6 what.LocalOpen)) ∷
    -- def x = x t[ x : x ! : x ]
    (sign fixed.KeyDef ∷ name ∷ sign fixed.Equal ∷ name ∷ tight_bracket ∷ name ∷ sign fixed.Colon ∷ name ∷ sign fixed.Colon ∷ name ∷ sign fixed.CloseBracket ∷ [], Some (LeftOut 3 what.Stride)) ∷
    -- def x = x t[ : x ! : x ]
    (sign fixed.KeyDef ∷ name ∷ sign fixed.Equal ∷ name ∷ tight_bracket ∷ sign fixed.Colon ∷ name ∷ sign fixed.Colon ∷ name ∷ sign fixed.CloseBracket ∷ [], Some (LeftOut 3 what.Stride)) ∷
    -- def x = x t[ x : ! : - 1 ]
    (sign fixed.KeyDef ∷ name ∷ sign fixed.Equal ∷ name ∷ tight_bracket ∷ name ∷ sign fixed.Colon ∷ sign fixed.Colon ∷ sign fixed.Minus ∷ other (kind.Int 1 None) ∷ sign fixed.CloseBracket ∷ [], Some (LeftOut 4 what.Stride)) ∷
    -- def x = x t[ : ! : x ]
    (sign fixed.KeyDef ∷ name ∷ sign fixed.Equal ∷ name ∷ tight_bracket ∷ sign fixed.Colon ∷ sign fixed.Colon ∷ name ∷ sign fixed.CloseBracket ∷ [], Some (LeftOut 3 what.Stride)) ∷
    -- def x = x t[ : ! : - 2 ]
    (sign fixed.KeyDef ∷ name ∷ sign fixed.Equal ∷ name ∷ tight_bracket ∷ sign fixed.Colon ∷ sign fixed.Colon ∷ sign fixed.Minus ∷ other (kind.Int 2 None) ∷ sign fixed.CloseBracket ∷ [], Some (LeftOut 4 what.Stride)) ∷
    -- def x = ( . [ x : x ! : x ] )
    (sign fixed.KeyDef ∷ name ∷ sign fixed.Equal ∷ sign fixed.OpenParen ∷ sign fixed.Dot ∷ sign fixed.OpenBracket ∷ name ∷ sign fixed.Colon ∷ name ∷ sign fixed.Colon ∷ name ∷ sign fixed.CloseBracket ∷ sign fixed.CloseParen ∷ [], Some (LeftOut 4 what.Stride)) ∷
    -- def x = ( . [ : ! : x ] )
    (sign fixed.KeyDef ∷ name ∷ sign fixed.Equal ∷ sign fixed.OpenParen ∷ sign fixed.Dot ∷ sign fixed.OpenBracket ∷ sign fixed.Colon ∷ sign fixed.Colon ∷ name ∷ sign fixed.CloseBracket ∷ sign fixed.CloseParen ∷ [], Some (LeftOut 4 what.Stride)) ∷
    -- def x = x with [ x ! : x ] = x
    (sign fixed.KeyDef ∷ name ∷ sign fixed.Equal ∷ name ∷ sign fixed.KeyWith ∷ sign fixed.OpenBracket ∷ name ∷ sign fixed.Colon ∷ name ∷ sign fixed.CloseBracket ∷ sign fixed.Equal ∷ name ∷ [], Some (LeftOut 5 what.SliceUpdate)) ∷
    -- def x = x with [ ! : x ] = x
    (sign fixed.KeyDef ∷ name ∷ sign fixed.Equal ∷ name ∷ sign fixed.KeyWith ∷ sign fixed.OpenBracket ∷ sign fixed.Colon ∷ name ∷ sign fixed.CloseBracket ∷ sign fixed.Equal ∷ name ∷ [], Some (LeftOut 5 what.SliceUpdate)) ∷
    -- def x = x with [ x , ! : ] = x
    (sign fixed.KeyDef ∷ name ∷ sign fixed.Equal ∷ name ∷ sign fixed.KeyWith ∷ sign fixed.OpenBracket ∷ name ∷ sign fixed.Comma ∷ sign fixed.Colon ∷ sign fixed.CloseBracket ∷ sign fixed.Equal ∷ name ∷ [], Some (LeftOut 4 what.SliceUpdate)) ∷
    -- def x = let x t[ x ! : x ] = x in x
    (sign fixed.KeyDef ∷ name ∷ sign fixed.Equal ∷ sign fixed.KeyLet ∷ name ∷ tight_bracket ∷ name ∷ sign fixed.Colon ∷ name ∷ sign fixed.CloseBracket ∷ sign fixed.Equal ∷ name ∷ sign fixed.KeyIn ∷ name ∷ [], Some (LeftOut 7 what.SliceUpdate)) ∷
    -- def x = let x t[ ! : ] = x in x
    (sign fixed.KeyDef ∷ name ∷ sign fixed.Equal ∷ sign fixed.KeyLet ∷ name ∷ tight_bracket ∷ sign fixed.Colon ∷ sign fixed.CloseBracket ∷ sign fixed.Equal ∷ name ∷ sign fixed.KeyIn ∷ name ∷ [], Some (LeftOut 6 what.SliceUpdate)) ∷
    -- def x : ! ? [ x ] x = x
    (sign fixed.KeyDef ∷ name ∷ sign fixed.Colon ∷ sign fixed.Question ∷ sign fixed.OpenBracket ∷ name ∷ sign fixed.CloseBracket ∷ name ∷ sign fixed.Equal ∷ name ∷ [], Some (LeftOut 7 what.ExistentialSize)) ∷
    -- def x ( x : x ! ? ) = x
    (sign fixed.KeyDef ∷ name ∷ sign fixed.OpenParen ∷ name ∷ sign fixed.Colon ∷ name ∷ sign fixed.Question ∷ sign fixed.CloseParen ∷ sign fixed.Equal ∷ name ∷ [], Some (LeftOut 4 what.ExistentialSize)) ∷
    -- def x : [ x ] ! ? = x
    (sign fixed.KeyDef ∷ name ∷ sign fixed.Colon ∷ sign fixed.OpenBracket ∷ name ∷ sign fixed.CloseBracket ∷ sign fixed.Question ∷ sign fixed.Equal ∷ name ∷ [], Some (LeftOut 3 what.ExistentialSize)) ∷
    -- def x : x -> ! ? = x
    (sign fixed.KeyDef ∷ name ∷ sign fixed.Colon ∷ name ∷ sign fixed.Arrow ∷ sign fixed.Question ∷ sign fixed.Equal ∷ name ∷ [], Some (LeftOut 3 what.ExistentialSize)) ∷
    -- def x : x x ! ? = x
    (sign fixed.KeyDef ∷ name ∷ sign fixed.Colon ∷ name ∷ name ∷ sign fixed.Question ∷ sign fixed.Equal ∷ name ∷ [], Some (LeftOut 3 what.ExistentialSize)) ∷
    -- def x : [ ! ? ] x
    (sign fixed.KeyDef ∷ name ∷ sign fixed.Colon ∷ sign fixed.OpenBracket ∷ sign fixed.Question ∷ sign fixed.CloseBracket ∷ name ∷ [], Some (LeftOut 3 what.SizeExpression)) ∷
    -- def x : [ x ! + x ] x
    (sign fixed.KeyDef ∷ name ∷ sign fixed.Colon ∷ sign fixed.OpenBracket ∷ name ∷ sign fixed.Plus ∷ name ∷ sign fixed.CloseBracket ∷ name ∷ [], Some (LeftOut 4 what.SizeExpression)) ∷
    -- def x : [ ! ( x ) ] x
    (sign fixed.KeyDef ∷ name ∷ sign fixed.Colon ∷ sign fixed.OpenBracket ∷ sign fixed.OpenParen ∷ name ∷ sign fixed.CloseParen ∷ sign fixed.CloseBracket ∷ name ∷ [], Some (LeftOut 5 what.SizeExpression)) ∷
    -- def x : [ ! 'c' ] x
    (sign fixed.KeyDef ∷ name ∷ sign fixed.Colon ∷ sign fixed.OpenBracket ∷ other (kind.Char 97) ∷ sign fixed.CloseBracket ∷ name ∷ [], Some (LeftOut 3 what.Character)) ∷
    -- def x = ! 'c'
    (sign fixed.KeyDef ∷ name ∷ sign fixed.Equal ∷ other (kind.Char 97) ∷ [], Some (LeftOut 1 what.Character)) ∷
    -- def x = ! "t"
    (sign fixed.KeyDef ∷ name ∷ sign fixed.Equal ∷ other (kind.Text []) ∷ [], Some (LeftOut 1 what.Text)) ∷
    -- import "t" ! "t"
    (sign fixed.KeyImport ∷ other (kind.Text []) ∷ other (kind.Text []) ∷ [], Some (LeftOut 1 what.Text)) ∷
    -- def x : [ ! match ] x
    (sign fixed.KeyDef ∷ name ∷ sign fixed.Colon ∷ sign fixed.OpenBracket ∷ sign fixed.KeyMatch ∷ sign fixed.CloseBracket ∷ name ∷ [], Some (LeftOut 3 what.SumType)) ∷
    -- def x = x ! #c
    (sign fixed.KeyDef ∷ name ∷ sign fixed.Equal ∷ name ∷ other (kind.Constructor []) ∷ [], Some (LeftOut 1 what.SumType)) ∷
    -- def x = ! match x
    (sign fixed.KeyDef ∷ name ∷ sign fixed.Equal ∷ sign fixed.KeyMatch ∷ name ∷ [], Some (LeftOut 2 what.SumType)) ∷
    -- def x ! ` x ` x = x
    (sign fixed.KeyDef ∷ name ∷ sign fixed.Backtick ∷ name ∷ sign fixed.Backtick ∷ name ∷ sign fixed.Equal ∷ name ∷ [], Some (Syntax 6)) ∷
    -- def x : ( x ) ! . ( x )
    (sign fixed.KeyDef ∷ name ∷ sign fixed.Colon ∷ sign fixed.OpenParen ∷ name ∷ sign fixed.CloseParen ∷ sign fixed.Dot ∷ sign fixed.OpenParen ∷ name ∷ sign fixed.CloseParen ∷ [], Some (Syntax 4)) ∷
    -- def x = x t[ : : - 1 ! : x ]
    (sign fixed.KeyDef ∷ name ∷ sign fixed.Equal ∷ name ∷ tight_bracket ∷ sign fixed.Colon ∷ sign fixed.Colon ∷ sign fixed.Minus ∷ other (kind.Int 1 None) ∷ sign fixed.Colon ∷ name ∷ sign fixed.CloseBracket ∷ [], Some (Syntax 3)) ∷
    -- def x = x t[ : : !
    (sign fixed.KeyDef ∷ name ∷ sign fixed.Equal ∷ name ∷ tight_bracket ∷ sign fixed.Colon ∷ sign fixed.Colon ∷ [], Some (Syntax 0)) ∷
    -- def x = x t[ : : - !
    (sign fixed.KeyDef ∷ name ∷ sign fixed.Equal ∷ name ∷ tight_bracket ∷ sign fixed.Colon ∷ sign fixed.Colon ∷ sign fixed.Minus ∷ [], Some (Syntax 0)) ∷
    -- def x : ( x ) ! ? = x
    (sign fixed.KeyDef ∷ name ∷ sign fixed.Colon ∷ sign fixed.OpenParen ∷ name ∷ sign fixed.CloseParen ∷ sign fixed.Question ∷ sign fixed.Equal ∷ name ∷ [], Some (Syntax 3)) ∷
    -- def x = ! ?
    (sign fixed.KeyDef ∷ name ∷ sign fixed.Equal ∷ sign fixed.Question ∷ [], Some (Syntax 1)) ∷
    -- def x = x t[ : : - 1 ]
    (sign fixed.KeyDef ∷ name ∷ sign fixed.Equal ∷ name ∷ tight_bracket ∷ sign fixed.Colon ∷ sign fixed.Colon ∷ sign fixed.Minus ∷ other (kind.Int 1 None) ∷ sign fixed.CloseBracket ∷ [], None) ∷
    -- def x = x t[ x : x ]
    (sign fixed.KeyDef ∷ name ∷ sign fixed.Equal ∷ name ∷ tight_bracket ∷ name ∷ sign fixed.Colon ∷ name ∷ sign fixed.CloseBracket ∷ [], None) ∷
    -- def x = let ( x ) = x in x
    (sign fixed.KeyDef ∷ name ∷ sign fixed.Equal ∷ sign fixed.KeyLet ∷ sign fixed.OpenParen ∷ name ∷ sign fixed.CloseParen ∷ sign fixed.Equal ∷ name ∷ sign fixed.KeyIn ∷ name ∷ [], None) ∷
    -- def x ( x : x [ x ] x ) = x
    (sign fixed.KeyDef ∷ name ∷ sign fixed.OpenParen ∷ name ∷ sign fixed.Colon ∷ name ∷ sign fixed.OpenBracket ∷ name ∷ sign fixed.CloseBracket ∷ name ∷ sign fixed.CloseParen ∷ sign fixed.Equal ∷ name ∷ [], None) ∷
    -- def x = ( x * if x then x else x + ! )
    (sign fixed.KeyDef ∷ name ∷ sign fixed.Equal ∷ sign fixed.OpenParen ∷ name ∷ sign fixed.Star ∷ sign fixed.KeyIf ∷ name ∷ sign fixed.KeyThen ∷ name ∷ sign fixed.KeyElse ∷ name ∷ sign fixed.Plus ∷ sign fixed.CloseParen ∷ [], Some (Syntax 1)) ∷
    -- def x = ( x + \ x -> x + ! )
    (sign fixed.KeyDef ∷ name ∷ sign fixed.Equal ∷ sign fixed.OpenParen ∷ name ∷ sign fixed.Plus ∷ sign fixed.Backslash ∷ name ∷ sign fixed.Arrow ∷ name ∷ sign fixed.Plus ∷ sign fixed.CloseParen ∷ [], Some (Syntax 1)) ∷
    -- def x = ( if x then x else x + ! )
    (sign fixed.KeyDef ∷ name ∷ sign fixed.Equal ∷ sign fixed.OpenParen ∷ sign fixed.KeyIf ∷ name ∷ sign fixed.KeyThen ∷ name ∷ sign fixed.KeyElse ∷ name ∷ sign fixed.Plus ∷ sign fixed.CloseParen ∷ [], Some (Syntax 1)) ∷
    -- def x = ( let x = x in x + ! )
    (sign fixed.KeyDef ∷ name ∷ sign fixed.Equal ∷ sign fixed.OpenParen ∷ sign fixed.KeyLet ∷ name ∷ sign fixed.Equal ∷ name ∷ sign fixed.KeyIn ∷ name ∷ sign fixed.Plus ∷ sign fixed.CloseParen ∷ [], Some (Syntax 1)) ∷
    -- def x = ( \ x -> x + ! )
    (sign fixed.KeyDef ∷ name ∷ sign fixed.Equal ∷ sign fixed.OpenParen ∷ sign fixed.Backslash ∷ name ∷ sign fixed.Arrow ∷ name ∷ sign fixed.Plus ∷ sign fixed.CloseParen ∷ [], Some (Syntax 1)) ∷
    -- def x = ( x .. x + ! )
    (sign fixed.KeyDef ∷ name ∷ sign fixed.Equal ∷ sign fixed.OpenParen ∷ name ∷ sign fixed.DotDot ∷ name ∷ sign fixed.Plus ∷ sign fixed.CloseParen ∷ [], Some (Syntax 1)) ∷
    -- def x = ( x with x = x + ! )
    (sign fixed.KeyDef ∷ name ∷ sign fixed.Equal ∷ sign fixed.OpenParen ∷ name ∷ sign fixed.KeyWith ∷ name ∷ sign fixed.Equal ∷ name ∷ sign fixed.Plus ∷ sign fixed.CloseParen ∷ [], Some (Syntax 1)) ∷
    -- def x = ( x : x ! + )
    (sign fixed.KeyDef ∷ name ∷ sign fixed.Equal ∷ sign fixed.OpenParen ∷ name ∷ sign fixed.Colon ∷ name ∷ sign fixed.Plus ∷ sign fixed.CloseParen ∷ [], Some (Syntax 2)) ∷
    -- def x = ( x + x + ! )
    (sign fixed.KeyDef ∷ name ∷ sign fixed.Equal ∷ sign fixed.OpenParen ∷ name ∷ sign fixed.Plus ∷ name ∷ sign fixed.Plus ∷ sign fixed.CloseParen ∷ [], Some (Syntax 1)) ∷
    -- def x = ( x <| x <| ! )
    (sign fixed.KeyDef ∷ name ∷ sign fixed.Equal ∷ sign fixed.OpenParen ∷ name ∷ sign fixed.PipeLeft ∷ name ∷ sign fixed.PipeLeft ∷ sign fixed.CloseParen ∷ [], Some (Syntax 1)) ∷
    -- def x = ( x , x + ! )
    (sign fixed.KeyDef ∷ name ∷ sign fixed.Equal ∷ sign fixed.OpenParen ∷ name ∷ sign fixed.Comma ∷ name ∷ sign fixed.Plus ∷ sign fixed.CloseParen ∷ [], Some (Syntax 1)) ∷
    -- def x = ( x t[ x + ! ) ]
    (sign fixed.KeyDef ∷ name ∷ sign fixed.Equal ∷ sign fixed.OpenParen ∷ name ∷ tight_bracket ∷ name ∷ sign fixed.Plus ∷ sign fixed.CloseParen ∷ sign fixed.CloseBracket ∷ [], Some (Syntax 2)) ∷
    -- def x = x + ! )
    (sign fixed.KeyDef ∷ name ∷ sign fixed.Equal ∷ name ∷ sign fixed.Plus ∷ sign fixed.CloseParen ∷ [], Some (Syntax 1)) ∷
    -- def x = x ` x ` ! )
    (sign fixed.KeyDef ∷ name ∷ sign fixed.Equal ∷ name ∷ sign fixed.Backtick ∷ name ∷ sign fixed.Backtick ∷ sign fixed.CloseParen ∷ [], Some (Syntax 1)) ∷
    -- def x = [ x + ! ) ]
    (sign fixed.KeyDef ∷ name ∷ sign fixed.Equal ∷ sign fixed.OpenBracket ∷ name ∷ sign fixed.Plus ∷ sign fixed.CloseParen ∷ sign fixed.CloseBracket ∷ [], Some (Syntax 2)) ∷
    -- def x = { x = x + ! ) }
    (sign fixed.KeyDef ∷ name ∷ sign fixed.Equal ∷ sign fixed.OpenBrace ∷ name ∷ sign fixed.Equal ∷ name ∷ sign fixed.Plus ∷ sign fixed.CloseParen ∷ sign fixed.CloseBrace ∷ [], Some (Syntax 2)) ∷
    -- def x = ( - ! + )
    (sign fixed.KeyDef ∷ name ∷ sign fixed.Equal ∷ sign fixed.OpenParen ∷ sign fixed.Minus ∷ sign fixed.Plus ∷ sign fixed.CloseParen ∷ [], Some (Syntax 2)) ∷
    -- def x = ( x + )
    (sign fixed.KeyDef ∷ name ∷ sign fixed.Equal ∷ sign fixed.OpenParen ∷ name ∷ sign fixed.Plus ∷ sign fixed.CloseParen ∷ [], None) ∷
    -- def x = ( x * x + )
    (sign fixed.KeyDef ∷ name ∷ sign fixed.Equal ∷ sign fixed.OpenParen ∷ name ∷ sign fixed.Star ∷ name ∷ sign fixed.Plus ∷ sign fixed.CloseParen ∷ [], None) ∷
    -- def x = ( x ** x * x ` x ` )
    (sign fixed.KeyDef ∷ name ∷ sign fixed.Equal ∷ sign fixed.OpenParen ∷ name ∷ sign fixed.StarStar ∷ name ∷ sign fixed.Star ∷ name ∷ sign fixed.Backtick ∷ name ∷ sign fixed.Backtick ∷ sign fixed.CloseParen ∷ [], None) ∷
    -- def x = ( x <| x |> )
    (sign fixed.KeyDef ∷ name ∷ sign fixed.Equal ∷ sign fixed.OpenParen ∷ name ∷ sign fixed.PipeLeft ∷ name ∷ sign fixed.PipeRight ∷ sign fixed.CloseParen ∷ [], None) ∷
    -- def x = ( - x + )
    (sign fixed.KeyDef ∷ name ∷ sign fixed.Equal ∷ sign fixed.OpenParen ∷ sign fixed.Minus ∷ name ∷ sign fixed.Plus ∷ sign fixed.CloseParen ∷ [], None) ∷
    -- def x = ( + x )
    (sign fixed.KeyDef ∷ name ∷ sign fixed.Equal ∷ sign fixed.OpenParen ∷ sign fixed.Plus ∷ name ∷ sign fixed.CloseParen ∷ [], None) ∷
    -- def x = ( - )
    (sign fixed.KeyDef ∷ name ∷ sign fixed.Equal ∷ sign fixed.OpenParen ∷ sign fixed.Minus ∷ sign fixed.CloseParen ∷ [], None) ∷
    -- def x = ( + )
    (sign fixed.KeyDef ∷ name ∷ sign fixed.Equal ∷ sign fixed.OpenParen ∷ sign fixed.Plus ∷ sign fixed.CloseParen ∷ [], None) ∷
    -- def x = ( ( x + ) x - )
    (sign fixed.KeyDef ∷ name ∷ sign fixed.Equal ∷ sign fixed.OpenParen ∷ sign fixed.OpenParen ∷ name ∷ sign fixed.Plus ∷ sign fixed.CloseParen ∷ name ∷ sign fixed.Minus ∷ sign fixed.CloseParen ∷ [], None) ∷
    -- def x : [ ] ( x ! : x ) -> x = x
    (sign fixed.KeyDef ∷ name ∷ sign fixed.Colon ∷ sign fixed.OpenBracket ∷ sign fixed.CloseBracket ∷ sign fixed.OpenParen ∷ name ∷ sign fixed.Colon ∷ name ∷ sign fixed.CloseParen ∷ sign fixed.Arrow ∷ name ∷ sign fixed.Equal ∷ name ∷ [], Some (Syntax 7)) ∷
    -- def x : x ( x ! : x ) = x
    (sign fixed.KeyDef ∷ name ∷ sign fixed.Colon ∷ name ∷ sign fixed.OpenParen ∷ name ∷ sign fixed.Colon ∷ name ∷ sign fixed.CloseParen ∷ sign fixed.Equal ∷ name ∷ [], Some (Syntax 5)) ∷
    -- def x : * ( x ! : x ) = x
    (sign fixed.KeyDef ∷ name ∷ sign fixed.Colon ∷ sign fixed.Star ∷ sign fixed.OpenParen ∷ name ∷ sign fixed.Colon ∷ name ∷ sign fixed.CloseParen ∷ sign fixed.Equal ∷ name ∷ [], Some (Syntax 5)) ∷
    -- def x : ( x : x ) ! = x
    (sign fixed.KeyDef ∷ name ∷ sign fixed.Colon ∷ sign fixed.OpenParen ∷ name ∷ sign fixed.Colon ∷ name ∷ sign fixed.CloseParen ∷ sign fixed.Equal ∷ name ∷ [], Some (Syntax 2)) ∷
    -- def x : ( x : x ) -> x = x
    (sign fixed.KeyDef ∷ name ∷ sign fixed.Colon ∷ sign fixed.OpenParen ∷ name ∷ sign fixed.Colon ∷ name ∷ sign fixed.CloseParen ∷ sign fixed.Arrow ∷ name ∷ sign fixed.Equal ∷ name ∷ [], None) ∷
    -- def x : ( x , x ! : x ) = x
    (sign fixed.KeyDef ∷ name ∷ sign fixed.Colon ∷ sign fixed.OpenParen ∷ name ∷ sign fixed.Comma ∷ name ∷ sign fixed.Colon ∷ name ∷ sign fixed.CloseParen ∷ sign fixed.Equal ∷ name ∷ [], Some (Syntax 5)) ∷
    -- def x : [ ] ( x ) -> x = x
    (sign fixed.KeyDef ∷ name ∷ sign fixed.Colon ∷ sign fixed.OpenBracket ∷ sign fixed.CloseBracket ∷ sign fixed.OpenParen ∷ name ∷ sign fixed.CloseParen ∷ sign fixed.Arrow ∷ name ∷ sign fixed.Equal ∷ name ∷ [], None) ∷
    -- def x = x t[ x + \ x -> x : ! 1 ]
    (sign fixed.KeyDef ∷ name ∷ sign fixed.Equal ∷ name ∷ tight_bracket ∷ name ∷ sign fixed.Plus ∷ sign fixed.Backslash ∷ name ∷ sign fixed.Arrow ∷ name ∷ sign fixed.Colon ∷ other (kind.Int 1 None) ∷ sign fixed.CloseBracket ∷ [], Some (Syntax 2)) ∷
    -- def x = ( x ` x ` x ` ! 1 ` )
    (sign fixed.KeyDef ∷ name ∷ sign fixed.Equal ∷ sign fixed.OpenParen ∷ name ∷ sign fixed.Backtick ∷ name ∷ sign fixed.Backtick ∷ name ∷ sign fixed.Backtick ∷ other (kind.Int 1 None) ∷ sign fixed.Backtick ∷ sign fixed.CloseParen ∷ [], Some (Syntax 3)) ∷
    -- def x = ( x * \ x -> x : x ! ** )
    (sign fixed.KeyDef ∷ name ∷ sign fixed.Equal ∷ sign fixed.OpenParen ∷ name ∷ sign fixed.Star ∷ sign fixed.Backslash ∷ name ∷ sign fixed.Arrow ∷ name ∷ sign fixed.Colon ∷ name ∷ sign fixed.StarStar ∷ sign fixed.CloseParen ∷ [], Some (Syntax 2)) ∷
    -- def x = ( x + \ x -> x : x + ! )
    (sign fixed.KeyDef ∷ name ∷ sign fixed.Equal ∷ sign fixed.OpenParen ∷ name ∷ sign fixed.Plus ∷ sign fixed.Backslash ∷ name ∷ sign fixed.Arrow ∷ name ∷ sign fixed.Colon ∷ name ∷ sign fixed.Plus ∷ sign fixed.CloseParen ∷ [], Some (Syntax 1)) ∷
    -- def x = x * \ x -> x : x ! ** x
    (sign fixed.KeyDef ∷ name ∷ sign fixed.Equal ∷ name ∷ sign fixed.Star ∷ sign fixed.Backslash ∷ name ∷ sign fixed.Arrow ∷ name ∷ sign fixed.Colon ∷ name ∷ sign fixed.StarStar ∷ name ∷ [], Some (Syntax 2)) ∷
    -- def x = x + \ x -> x * \ x -> x : x ! ** x
    (sign fixed.KeyDef ∷ name ∷ sign fixed.Equal ∷ name ∷ sign fixed.Plus ∷ sign fixed.Backslash ∷ name ∷ sign fixed.Arrow ∷ name ∷ sign fixed.Star ∷ sign fixed.Backslash ∷ name ∷ sign fixed.Arrow ∷ name ∷ sign fixed.Colon ∷ name ∷ sign fixed.StarStar ∷ name ∷ [], Some (Syntax 2)) ∷
    -- def x = ( x ** \ x -> x : x * )
    (sign fixed.KeyDef ∷ name ∷ sign fixed.Equal ∷ sign fixed.OpenParen ∷ name ∷ sign fixed.StarStar ∷ sign fixed.Backslash ∷ name ∷ sign fixed.Arrow ∷ name ∷ sign fixed.Colon ∷ name ∷ sign fixed.Star ∷ sign fixed.CloseParen ∷ [], None) ∷
    -- def x = x with x = \ x -> x : x ! + x
    (sign fixed.KeyDef ∷ name ∷ sign fixed.Equal ∷ name ∷ sign fixed.KeyWith ∷ name ∷ sign fixed.Equal ∷ sign fixed.Backslash ∷ name ∷ sign fixed.Arrow ∷ name ∷ sign fixed.Colon ∷ name ∷ sign fixed.Plus ∷ name ∷ [], Some (Syntax 2)) ∷
    -- def x = x with x . x = \ x -> x : x ! ..< x
    (sign fixed.KeyDef ∷ name ∷ sign fixed.Equal ∷ name ∷ sign fixed.KeyWith ∷ name ∷ sign fixed.Dot ∷ name ∷ sign fixed.Equal ∷ sign fixed.Backslash ∷ name ∷ sign fixed.Arrow ∷ name ∷ sign fixed.Colon ∷ name ∷ sign fixed.DotDotLess ∷ name ∷ [], Some (Syntax 2)) ∷
    -- def x = x with x . x . x . x . x . x . x . x . x . x = x
    (sign fixed.KeyDef ∷ name ∷ sign fixed.Equal ∷ name ∷ sign fixed.KeyWith ∷ name ∷ sign fixed.Dot ∷ name ∷ sign fixed.Dot ∷ name ∷ sign fixed.Dot ∷ name ∷ sign fixed.Dot ∷ name ∷ sign fixed.Dot ∷ name ∷ sign fixed.Dot ∷ name ∷ sign fixed.Dot ∷ name ∷ sign fixed.Dot ∷ name ∷ sign fixed.Dot ∷ name ∷ sign fixed.Equal ∷ name ∷ [], None) ∷
    -- def x = x with x . x ! . ( x ) = x
    (sign fixed.KeyDef ∷ name ∷ sign fixed.Equal ∷ name ∷ sign fixed.KeyWith ∷ name ∷ sign fixed.Dot ∷ name ∷ sign fixed.Dot ∷ sign fixed.OpenParen ∷ name ∷ sign fixed.CloseParen ∷ sign fixed.Equal ∷ name ∷ [], Some (LeftOut 6 what.LocalOpen)) ∷
    -- def x = x with x . x ! + x = x
    (sign fixed.KeyDef ∷ name ∷ sign fixed.Equal ∷ name ∷ sign fixed.KeyWith ∷ name ∷ sign fixed.Dot ∷ name ∷ sign fixed.Plus ∷ name ∷ sign fixed.Equal ∷ name ∷ [], Some (Syntax 4)) ∷
    -- module x = \ ( x : x ) -> x : x : x ! : x
    (sign fixed.KeyModule ∷ name ∷ sign fixed.Equal ∷ sign fixed.Backslash ∷ sign fixed.OpenParen ∷ name ∷ sign fixed.Colon ∷ name ∷ sign fixed.CloseParen ∷ sign fixed.Arrow ∷ name ∷ sign fixed.Colon ∷ name ∷ sign fixed.Colon ∷ name ∷ sign fixed.Colon ∷ name ∷ [], Some (Syntax 2)) ∷
    -- module x = x \ ( x : x ) -> x : x { }
    (sign fixed.KeyModule ∷ name ∷ sign fixed.Equal ∷ name ∷ sign fixed.Backslash ∷ sign fixed.OpenParen ∷ name ∷ sign fixed.Colon ∷ name ∷ sign fixed.CloseParen ∷ sign fixed.Arrow ∷ name ∷ sign fixed.Colon ∷ name ∷ sign fixed.OpenBrace ∷ sign fixed.CloseBrace ∷ [], None) ∷
    -- module x = x : x ! { }
    (sign fixed.KeyModule ∷ name ∷ sign fixed.Equal ∷ name ∷ sign fixed.Colon ∷ name ∷ sign fixed.OpenBrace ∷ sign fixed.CloseBrace ∷ [], Some (Syntax 2)) ∷
    -- module type x = ( x : x ) -> x with x = x -> x
    (sign fixed.KeyModule ∷ sign fixed.KeyType ∷ name ∷ sign fixed.Equal ∷ sign fixed.OpenParen ∷ name ∷ sign fixed.Colon ∷ name ∷ sign fixed.CloseParen ∷ sign fixed.Arrow ∷ name ∷ sign fixed.KeyWith ∷ name ∷ sign fixed.Equal ∷ name ∷ sign fixed.Arrow ∷ name ∷ [], None) ∷
    -- module type x = x with x = x with x = x -> x with x = x
    (sign fixed.KeyModule ∷ sign fixed.KeyType ∷ name ∷ sign fixed.Equal ∷ name ∷ sign fixed.KeyWith ∷ name ∷ sign fixed.Equal ∷ name ∷ sign fixed.KeyWith ∷ name ∷ sign fixed.Equal ∷ name ∷ sign fixed.Arrow ∷ name ∷ sign fixed.KeyWith ∷ name ∷ sign fixed.Equal ∷ name ∷ [], None) ∷
    -- module x = \ ( x : x ) : x with x = ( x -> x ) -> x
    (sign fixed.KeyModule ∷ name ∷ sign fixed.Equal ∷ sign fixed.Backslash ∷ sign fixed.OpenParen ∷ name ∷ sign fixed.Colon ∷ name ∷ sign fixed.CloseParen ∷ sign fixed.Colon ∷ name ∷ sign fixed.KeyWith ∷ name ∷ sign fixed.Equal ∷ sign fixed.OpenParen ∷ name ∷ sign fixed.Arrow ∷ name ∷ sign fixed.CloseParen ∷ sign fixed.Arrow ∷ name ∷ [], None) ∷
    -- module x = \ ( x : x ) : x with x = x with x = x -> x : x
    (sign fixed.KeyModule ∷ name ∷ sign fixed.Equal ∷ sign fixed.Backslash ∷ sign fixed.OpenParen ∷ name ∷ sign fixed.Colon ∷ name ∷ sign fixed.CloseParen ∷ sign fixed.Colon ∷ name ∷ sign fixed.KeyWith ∷ name ∷ sign fixed.Equal ∷ name ∷ sign fixed.KeyWith ∷ name ∷ sign fixed.Equal ∷ name ∷ sign fixed.Arrow ∷ name ∷ sign fixed.Colon ∷ name ∷ [], None) ∷
    -- module x = \ ( x : x ) : ( x : x ) -> x with x = x -> x
    (sign fixed.KeyModule ∷ name ∷ sign fixed.Equal ∷ sign fixed.Backslash ∷ sign fixed.OpenParen ∷ name ∷ sign fixed.Colon ∷ name ∷ sign fixed.CloseParen ∷ sign fixed.Colon ∷ sign fixed.OpenParen ∷ name ∷ sign fixed.Colon ∷ name ∷ sign fixed.CloseParen ∷ sign fixed.Arrow ∷ name ∷ sign fixed.KeyWith ∷ name ∷ sign fixed.Equal ∷ name ∷ sign fixed.Arrow ∷ name ∷ [], None) ∷
    -- module x = \ ( x : x ) : x with x = x -> x ! -> x
    (sign fixed.KeyModule ∷ name ∷ sign fixed.Equal ∷ sign fixed.Backslash ∷ sign fixed.OpenParen ∷ name ∷ sign fixed.Colon ∷ name ∷ sign fixed.CloseParen ∷ sign fixed.Colon ∷ name ∷ sign fixed.KeyWith ∷ name ∷ sign fixed.Equal ∷ name ∷ sign fixed.Arrow ∷ name ∷ sign fixed.Arrow ∷ name ∷ [], Some (Syntax 2)) ∷
    -- module x ( x : x ) : x with x = x -> x = x
    (sign fixed.KeyModule ∷ name ∷ sign fixed.OpenParen ∷ name ∷ sign fixed.Colon ∷ name ∷ sign fixed.CloseParen ∷ sign fixed.Colon ∷ name ∷ sign fixed.KeyWith ∷ name ∷ sign fixed.Equal ∷ name ∷ sign fixed.Arrow ∷ name ∷ sign fixed.Equal ∷ name ∷ [], None) ∷
    -- def x = x <| x <| \ x -> x : x ! <| x
    (sign fixed.KeyDef ∷ name ∷ sign fixed.Equal ∷ name ∷ sign fixed.PipeLeft ∷ name ∷ sign fixed.PipeLeft ∷ sign fixed.Backslash ∷ name ∷ sign fixed.Arrow ∷ name ∷ sign fixed.Colon ∷ name ∷ sign fixed.PipeLeft ∷ name ∷ [], Some (Syntax 2)) ∷
    -- def x = x || \ x -> x : x <| x
    (sign fixed.KeyDef ∷ name ∷ sign fixed.Equal ∷ name ∷ sign fixed.OrOr ∷ sign fixed.Backslash ∷ name ∷ sign fixed.Arrow ∷ name ∷ sign fixed.Colon ∷ name ∷ sign fixed.PipeLeft ∷ name ∷ [], None) ∷
    []

answered : map (λ (e : List Token × Option Fault). fault_of (program_at e.0)) examples ≡ map (λ (e : List Token × Option Fault). e.1) examples
unfolding examples token other sign name tight_bracket fault_of refuse_as refuse refuse_sort expect word_at number_at text_at digits_at variable_at names_at path_at size_at backtick_at operator_taken end_at one_at sub_at commas_at many_at several_at maybe_at optional_at upto_at argument_at start_at has_at parts_at row_at suffix_at ended bounded type_argument_at pat_field_at head_at exp_field_at index_at named_at let_at loop_item_at module_at other_dec_at dec_rest_at flat_at nodes items phrases far_at once_at again_at atomic_type_at applied_type_at whole_type_at atomic_pat_at whole_pat_at round_end section_end plain_at operator_section_at paren_at bracket_at base_at atom_at app_at unary_at operand_too_deep operation_at operators_at graded_at chain_at operands_at range_behind range_at updates_behind types_behind typed_behind typed_at updated_at form_at body_at row_of_lets lets_at big_at last_at whole_at operand_at right_at replacing_at inside_operand inside_whole inside_at atomic_mod_at first_mod_at applied_mod_at last_mod_at whole_mod_at atomic_mtype_at whole_mtype_at spec_at dec_at step read_at program_at
answered = refl

-- pairs of texts that have one tree, up to parentheses
pairs : List (List Token × List Token)
pairs =
    -- def x = x + if x then x else x : x + x
    -- def x = ( x + if x then x else ( x : x ) ) + x
    (sign fixed.KeyDef ∷ name ∷ sign fixed.Equal ∷ name ∷ sign fixed.Plus ∷ sign fixed.KeyIf ∷ name ∷ sign fixed.KeyThen ∷ name ∷ sign fixed.KeyElse ∷ name ∷ sign fixed.Colon ∷ name ∷ sign fixed.Plus ∷ name ∷ [], sign fixed.KeyDef ∷ name ∷ sign fixed.Equal ∷ sign fixed.OpenParen ∷ name ∷ sign fixed.Plus ∷ sign fixed.KeyIf ∷ name ∷ sign fixed.KeyThen ∷ name ∷ sign fixed.KeyElse ∷ sign fixed.OpenParen ∷ name ∷ sign fixed.Colon ∷ name ∷ sign fixed.CloseParen ∷ sign fixed.CloseParen ∷ sign fixed.Plus ∷ name ∷ []) ∷
    -- def x = x |> \ x -> x : x |> x
    -- def x = ( x |> \ x -> ( x : x ) ) |> x
    (sign fixed.KeyDef ∷ name ∷ sign fixed.Equal ∷ name ∷ sign fixed.PipeRight ∷ sign fixed.Backslash ∷ name ∷ sign fixed.Arrow ∷ name ∷ sign fixed.Colon ∷ name ∷ sign fixed.PipeRight ∷ name ∷ [], sign fixed.KeyDef ∷ name ∷ sign fixed.Equal ∷ sign fixed.OpenParen ∷ name ∷ sign fixed.PipeRight ∷ sign fixed.Backslash ∷ name ∷ sign fixed.Arrow ∷ sign fixed.OpenParen ∷ name ∷ sign fixed.Colon ∷ name ∷ sign fixed.CloseParen ∷ sign fixed.CloseParen ∷ sign fixed.PipeRight ∷ name ∷ []) ∷
    -- def x = x with x = \ x -> x : x with x = x
    -- def x = ( x with x = \ x -> ( x : x ) ) with x = x
    (sign fixed.KeyDef ∷ name ∷ sign fixed.Equal ∷ name ∷ sign fixed.KeyWith ∷ name ∷ sign fixed.Equal ∷ sign fixed.Backslash ∷ name ∷ sign fixed.Arrow ∷ name ∷ sign fixed.Colon ∷ name ∷ sign fixed.KeyWith ∷ name ∷ sign fixed.Equal ∷ name ∷ [], sign fixed.KeyDef ∷ name ∷ sign fixed.Equal ∷ sign fixed.OpenParen ∷ name ∷ sign fixed.KeyWith ∷ name ∷ sign fixed.Equal ∷ sign fixed.Backslash ∷ name ∷ sign fixed.Arrow ∷ sign fixed.OpenParen ∷ name ∷ sign fixed.Colon ∷ name ∷ sign fixed.CloseParen ∷ sign fixed.CloseParen ∷ sign fixed.KeyWith ∷ name ∷ sign fixed.Equal ∷ name ∷ []) ∷
    -- def x = x + \ x -> x ..< x ..< x
    -- def x = ( x + \ x -> ( x ..< x ) ) ..< x
    (sign fixed.KeyDef ∷ name ∷ sign fixed.Equal ∷ name ∷ sign fixed.Plus ∷ sign fixed.Backslash ∷ name ∷ sign fixed.Arrow ∷ name ∷ sign fixed.DotDotLess ∷ name ∷ sign fixed.DotDotLess ∷ name ∷ [], sign fixed.KeyDef ∷ name ∷ sign fixed.Equal ∷ sign fixed.OpenParen ∷ name ∷ sign fixed.Plus ∷ sign fixed.Backslash ∷ name ∷ sign fixed.Arrow ∷ sign fixed.OpenParen ∷ name ∷ sign fixed.DotDotLess ∷ name ∷ sign fixed.CloseParen ∷ sign fixed.CloseParen ∷ sign fixed.DotDotLess ∷ name ∷ []) ∷
    -- def x = x ** \ x -> x * \ x -> x : x ** x
    -- def x = ( x ** \ x -> ( x * \ x -> ( x : x ) ) ) ** x
    (sign fixed.KeyDef ∷ name ∷ sign fixed.Equal ∷ name ∷ sign fixed.StarStar ∷ sign fixed.Backslash ∷ name ∷ sign fixed.Arrow ∷ name ∷ sign fixed.Star ∷ sign fixed.Backslash ∷ name ∷ sign fixed.Arrow ∷ name ∷ sign fixed.Colon ∷ name ∷ sign fixed.StarStar ∷ name ∷ [], sign fixed.KeyDef ∷ name ∷ sign fixed.Equal ∷ sign fixed.OpenParen ∷ name ∷ sign fixed.StarStar ∷ sign fixed.Backslash ∷ name ∷ sign fixed.Arrow ∷ sign fixed.OpenParen ∷ name ∷ sign fixed.Star ∷ sign fixed.Backslash ∷ name ∷ sign fixed.Arrow ∷ sign fixed.OpenParen ∷ name ∷ sign fixed.Colon ∷ name ∷ sign fixed.CloseParen ∷ sign fixed.CloseParen ∷ sign fixed.CloseParen ∷ sign fixed.StarStar ∷ name ∷ []) ∷
    -- def x = x + x * \ x -> x : x * x
    -- def x = x + ( x * \ x -> ( x : x ) ) * x
    (sign fixed.KeyDef ∷ name ∷ sign fixed.Equal ∷ name ∷ sign fixed.Plus ∷ name ∷ sign fixed.Star ∷ sign fixed.Backslash ∷ name ∷ sign fixed.Arrow ∷ name ∷ sign fixed.Colon ∷ name ∷ sign fixed.Star ∷ name ∷ [], sign fixed.KeyDef ∷ name ∷ sign fixed.Equal ∷ name ∷ sign fixed.Plus ∷ sign fixed.OpenParen ∷ name ∷ sign fixed.Star ∷ sign fixed.Backslash ∷ name ∷ sign fixed.Arrow ∷ sign fixed.OpenParen ∷ name ∷ sign fixed.Colon ∷ name ∷ sign fixed.CloseParen ∷ sign fixed.CloseParen ∷ sign fixed.Star ∷ name ∷ []) ∷
    -- def x = x + x * \ x -> x : x + x
    -- def x = ( x + ( x * \ x -> ( x : x ) ) ) + x
    (sign fixed.KeyDef ∷ name ∷ sign fixed.Equal ∷ name ∷ sign fixed.Plus ∷ name ∷ sign fixed.Star ∷ sign fixed.Backslash ∷ name ∷ sign fixed.Arrow ∷ name ∷ sign fixed.Colon ∷ name ∷ sign fixed.Plus ∷ name ∷ [], sign fixed.KeyDef ∷ name ∷ sign fixed.Equal ∷ sign fixed.OpenParen ∷ name ∷ sign fixed.Plus ∷ sign fixed.OpenParen ∷ name ∷ sign fixed.Star ∷ sign fixed.Backslash ∷ name ∷ sign fixed.Arrow ∷ sign fixed.OpenParen ∷ name ∷ sign fixed.Colon ∷ name ∷ sign fixed.CloseParen ∷ sign fixed.CloseParen ∷ sign fixed.CloseParen ∷ sign fixed.Plus ∷ name ∷ []) ∷
    -- def x = x + let x = x in x : x + x
    -- def x = ( x + let x = x in ( x : x ) ) + x
    (sign fixed.KeyDef ∷ name ∷ sign fixed.Equal ∷ name ∷ sign fixed.Plus ∷ sign fixed.KeyLet ∷ name ∷ sign fixed.Equal ∷ name ∷ sign fixed.KeyIn ∷ name ∷ sign fixed.Colon ∷ name ∷ sign fixed.Plus ∷ name ∷ [], sign fixed.KeyDef ∷ name ∷ sign fixed.Equal ∷ sign fixed.OpenParen ∷ name ∷ sign fixed.Plus ∷ sign fixed.KeyLet ∷ name ∷ sign fixed.Equal ∷ name ∷ sign fixed.KeyIn ∷ sign fixed.OpenParen ∷ name ∷ sign fixed.Colon ∷ name ∷ sign fixed.CloseParen ∷ sign fixed.CloseParen ∷ sign fixed.Plus ∷ name ∷ []) ∷
    -- def x = x + loop x = x for x < x do x ... x ... x
    -- def x = ( x + loop x = x for x < x do ( x ... x ) ) ... x
    (sign fixed.KeyDef ∷ name ∷ sign fixed.Equal ∷ name ∷ sign fixed.Plus ∷ sign fixed.KeyLoop ∷ name ∷ sign fixed.Equal ∷ name ∷ sign fixed.KeyFor ∷ name ∷ sign fixed.Less ∷ name ∷ sign fixed.KeyDo ∷ name ∷ sign fixed.DotDotDot ∷ name ∷ sign fixed.DotDotDot ∷ name ∷ [], sign fixed.KeyDef ∷ name ∷ sign fixed.Equal ∷ sign fixed.OpenParen ∷ name ∷ sign fixed.Plus ∷ sign fixed.KeyLoop ∷ name ∷ sign fixed.Equal ∷ name ∷ sign fixed.KeyFor ∷ name ∷ sign fixed.Less ∷ name ∷ sign fixed.KeyDo ∷ sign fixed.OpenParen ∷ name ∷ sign fixed.DotDotDot ∷ name ∷ sign fixed.CloseParen ∷ sign fixed.CloseParen ∷ sign fixed.DotDotDot ∷ name ∷ []) ∷
    -- def x = x with x = \ x -> x with x = x with x = x
    -- def x = x with x = \ x -> ( ( x with x = x ) with x = x )
    (sign fixed.KeyDef ∷ name ∷ sign fixed.Equal ∷ name ∷ sign fixed.KeyWith ∷ name ∷ sign fixed.Equal ∷ sign fixed.Backslash ∷ name ∷ sign fixed.Arrow ∷ name ∷ sign fixed.KeyWith ∷ name ∷ sign fixed.Equal ∷ name ∷ sign fixed.KeyWith ∷ name ∷ sign fixed.Equal ∷ name ∷ [], sign fixed.KeyDef ∷ name ∷ sign fixed.Equal ∷ name ∷ sign fixed.KeyWith ∷ name ∷ sign fixed.Equal ∷ sign fixed.Backslash ∷ name ∷ sign fixed.Arrow ∷ sign fixed.OpenParen ∷ sign fixed.OpenParen ∷ name ∷ sign fixed.KeyWith ∷ name ∷ sign fixed.Equal ∷ name ∷ sign fixed.CloseParen ∷ sign fixed.KeyWith ∷ name ∷ sign fixed.Equal ∷ name ∷ sign fixed.CloseParen ∷ []) ∷
    -- def x = x || \ x -> x : x <| x
    -- def x = ( x || \ x -> ( x : x ) ) <| x
    (sign fixed.KeyDef ∷ name ∷ sign fixed.Equal ∷ name ∷ sign fixed.OrOr ∷ sign fixed.Backslash ∷ name ∷ sign fixed.Arrow ∷ name ∷ sign fixed.Colon ∷ name ∷ sign fixed.PipeLeft ∷ name ∷ [], sign fixed.KeyDef ∷ name ∷ sign fixed.Equal ∷ sign fixed.OpenParen ∷ name ∷ sign fixed.OrOr ∷ sign fixed.Backslash ∷ name ∷ sign fixed.Arrow ∷ sign fixed.OpenParen ∷ name ∷ sign fixed.Colon ∷ name ∷ sign fixed.CloseParen ∷ sign fixed.CloseParen ∷ sign fixed.PipeLeft ∷ name ∷ []) ∷
    -- module x = \ ( x : x ) -> x : x : x
    -- module x = ( \ ( x : x ) -> ( x : x ) ) : x
    (sign fixed.KeyModule ∷ name ∷ sign fixed.Equal ∷ sign fixed.Backslash ∷ sign fixed.OpenParen ∷ name ∷ sign fixed.Colon ∷ name ∷ sign fixed.CloseParen ∷ sign fixed.Arrow ∷ name ∷ sign fixed.Colon ∷ name ∷ sign fixed.Colon ∷ name ∷ [], sign fixed.KeyModule ∷ name ∷ sign fixed.Equal ∷ sign fixed.OpenParen ∷ sign fixed.Backslash ∷ sign fixed.OpenParen ∷ name ∷ sign fixed.Colon ∷ name ∷ sign fixed.CloseParen ∷ sign fixed.Arrow ∷ sign fixed.OpenParen ∷ name ∷ sign fixed.Colon ∷ name ∷ sign fixed.CloseParen ∷ sign fixed.CloseParen ∷ sign fixed.Colon ∷ name ∷ []) ∷
    -- module x = x \ ( x : x ) -> x : x { } : x
    -- module x = ( x ( \ ( x : x ) -> ( x : x ) ) { } ) : x
    (sign fixed.KeyModule ∷ name ∷ sign fixed.Equal ∷ name ∷ sign fixed.Backslash ∷ sign fixed.OpenParen ∷ name ∷ sign fixed.Colon ∷ name ∷ sign fixed.CloseParen ∷ sign fixed.Arrow ∷ name ∷ sign fixed.Colon ∷ name ∷ sign fixed.OpenBrace ∷ sign fixed.CloseBrace ∷ sign fixed.Colon ∷ name ∷ [], sign fixed.KeyModule ∷ name ∷ sign fixed.Equal ∷ sign fixed.OpenParen ∷ name ∷ sign fixed.OpenParen ∷ sign fixed.Backslash ∷ sign fixed.OpenParen ∷ name ∷ sign fixed.Colon ∷ name ∷ sign fixed.CloseParen ∷ sign fixed.Arrow ∷ sign fixed.OpenParen ∷ name ∷ sign fixed.Colon ∷ name ∷ sign fixed.CloseParen ∷ sign fixed.CloseParen ∷ sign fixed.OpenBrace ∷ sign fixed.CloseBrace ∷ sign fixed.CloseParen ∷ sign fixed.Colon ∷ name ∷ []) ∷
    -- module x = \ ( x : x ) : x with x = x -> x
    -- module x = \ ( x : x ) : ( x with x = x ) -> x
    (sign fixed.KeyModule ∷ name ∷ sign fixed.Equal ∷ sign fixed.Backslash ∷ sign fixed.OpenParen ∷ name ∷ sign fixed.Colon ∷ name ∷ sign fixed.CloseParen ∷ sign fixed.Colon ∷ name ∷ sign fixed.KeyWith ∷ name ∷ sign fixed.Equal ∷ name ∷ sign fixed.Arrow ∷ name ∷ [], sign fixed.KeyModule ∷ name ∷ sign fixed.Equal ∷ sign fixed.Backslash ∷ sign fixed.OpenParen ∷ name ∷ sign fixed.Colon ∷ name ∷ sign fixed.CloseParen ∷ sign fixed.Colon ∷ sign fixed.OpenParen ∷ name ∷ sign fixed.KeyWith ∷ name ∷ sign fixed.Equal ∷ name ∷ sign fixed.CloseParen ∷ sign fixed.Arrow ∷ name ∷ []) ∷
    -- module x = \ ( x : x ) : ( x : x ) -> x with x = x -> x
    -- module x = \ ( x : x ) : ( ( x : x ) -> ( x with x = x ) ) -> x
    (sign fixed.KeyModule ∷ name ∷ sign fixed.Equal ∷ sign fixed.Backslash ∷ sign fixed.OpenParen ∷ name ∷ sign fixed.Colon ∷ name ∷ sign fixed.CloseParen ∷ sign fixed.Colon ∷ sign fixed.OpenParen ∷ name ∷ sign fixed.Colon ∷ name ∷ sign fixed.CloseParen ∷ sign fixed.Arrow ∷ name ∷ sign fixed.KeyWith ∷ name ∷ sign fixed.Equal ∷ name ∷ sign fixed.Arrow ∷ name ∷ [], sign fixed.KeyModule ∷ name ∷ sign fixed.Equal ∷ sign fixed.Backslash ∷ sign fixed.OpenParen ∷ name ∷ sign fixed.Colon ∷ name ∷ sign fixed.CloseParen ∷ sign fixed.Colon ∷ sign fixed.OpenParen ∷ sign fixed.OpenParen ∷ name ∷ sign fixed.Colon ∷ name ∷ sign fixed.CloseParen ∷ sign fixed.Arrow ∷ sign fixed.OpenParen ∷ name ∷ sign fixed.KeyWith ∷ name ∷ sign fixed.Equal ∷ name ∷ sign fixed.CloseParen ∷ sign fixed.CloseParen ∷ sign fixed.Arrow ∷ name ∷ []) ∷
    []

tree_of : Result (Program × ℕ) Fault → Option Program
tree_of (Ok x) = Some x.0
tree_of (Err f) = None

without_nodes : Option Program → Bool
without_nodes None = true
without_nodes (Some x) = false

alike : map (λ (e : List Token × List Token). tree_of (program_at e.0)) pairs ≡ map (λ (e : List Token × List Token). tree_of (program_at e.1)) pairs
unfolding pairs tree_of token other sign name tight_bracket fault_of refuse_as refuse refuse_sort expect word_at number_at text_at digits_at variable_at names_at path_at size_at backtick_at operator_taken end_at one_at sub_at commas_at many_at several_at maybe_at optional_at upto_at argument_at start_at has_at parts_at row_at suffix_at ended bounded type_argument_at pat_field_at head_at exp_field_at index_at named_at let_at loop_item_at module_at other_dec_at dec_rest_at flat_at nodes items phrases far_at once_at again_at atomic_type_at applied_type_at whole_type_at atomic_pat_at whole_pat_at round_end section_end plain_at operator_section_at paren_at bracket_at base_at atom_at app_at unary_at operand_too_deep operation_at operators_at graded_at chain_at operands_at range_behind range_at updates_behind types_behind typed_behind typed_at updated_at form_at body_at row_of_lets lets_at big_at last_at whole_at operand_at right_at replacing_at inside_operand inside_whole inside_at atomic_mod_at first_mod_at applied_mod_at last_mod_at whole_mod_at atomic_mtype_at whole_mtype_at spec_at dec_at step read_at program_at
alike = refl

read : map (λ (e : List Token × List Token). without_nodes (tree_of (program_at e.0))) pairs ≡ map (λ (e : List Token × List Token). false) pairs
unfolding pairs tree_of without_nodes token other sign name tight_bracket fault_of refuse_as refuse refuse_sort expect word_at number_at text_at digits_at variable_at names_at path_at size_at backtick_at operator_taken end_at one_at sub_at commas_at many_at several_at maybe_at optional_at upto_at argument_at start_at has_at parts_at row_at suffix_at ended bounded type_argument_at pat_field_at head_at exp_field_at index_at named_at let_at loop_item_at module_at other_dec_at dec_rest_at flat_at nodes items phrases far_at once_at again_at atomic_type_at applied_type_at whole_type_at atomic_pat_at whole_pat_at round_end section_end plain_at operator_section_at paren_at bracket_at base_at atom_at app_at unary_at operand_too_deep operation_at operators_at graded_at chain_at operands_at range_behind range_at updates_behind types_behind typed_behind typed_at updated_at form_at body_at row_of_lets lets_at big_at last_at whole_at operand_at right_at replacing_at inside_operand inside_whole inside_at atomic_mod_at first_mod_at applied_mod_at last_mod_at whole_mod_at atomic_mtype_at whole_mtype_at spec_at dec_at step read_at program_at
read = refl
