-- What parsing answers, of what was read.
use Rattle.std.proofs.Common.{◌≡◌, ℕ, suc, ◌-◌, ◌<◌, true, List, [], ◌∷◌, ◌++◌, length, Some, Result, Ok, Err, refl, sym, ap, subst, ◌∙◌, append_assoc, arith}
use Rattle.std.specs.Prelude.{slice_get}
use Rattle.std.proofs.lemmas.List.{length-append}
use Rattle.std.proofs.lemmas.Option.{slice_get-get_or}
use Rattle.std.proofs.Math.Seq.{get_or-append_seam}
use Rattle.fut_scalar.specs.declared.place.Place.{Place}
use Rattle.fut_token.specs.declared.token.Token.{Token}
use Rattle.fut_ast.specs.Tokens.{tail}
use Rattle.fut_ast.specs.Sorts.{Dec_item}
use Rattle.fut_ast.specs.Grammar.{Derives}
use Rattle.fut_ast.specs.Nesting.{Too_deep}
use Rattle.fut_ast.specs.LeftOut.{begins_left_out}
use Rattle.fut_ast.specs.declared.module.Program.{Program}
use Rattle.fut_ast.specs.declared.node.What.{What}
use Rattle.fut_grammar.specs.declared.fault.Fault.{Fault}
use Rattle.fut_grammar.specs.declared.fault.Fault.TheVariants.{Syntax, TooDeep, LeftOut}
use Rattle.fut_parser.specs.declared.programs.ParseErr.{ParseErr}
use Rattle.fut_parser.specs.declared.programs.ParseErr.TheVariants as answer
use Rattle.fut_grammar.specs.declared.fault.Stop.{Stop}
use Rattle.fut_grammar.specs.declared.fault.Stop.TheVariants as stop
use Rattle.fut_grammar.specs.Reading.{Fails, many_at}
use Rattle.fut_grammar.specs.Phrases.{program_at, nodes, phrases, read_at}
use Rattle.fut_parser.specs.Places.{Ends, place_or_start, place_of}
use Rattle.fut_parser.specs.Private.Answers.{place_left, answer_of, ExplainsParse}
use Rattle.fut_grammar.proofs.Post.{Post, bad}
use Rattle.fut_grammar.proofs.FaultPlaces.{At, syntax_at, deep_at, left_out_at, faults}
use Rattle.fut_grammar.proofs.Rests.{deep_many}
use Rattle.fut_grammar.proofs.Turns.{many_same}
use Rattle.fut_grammar.proofs.Theorems.{is_none, is_whole, is_deep, is_high}

-- ---- what is left of the tokens

ends_all : (ts : List Token) → Ends ts ts
ends_all ts = ([], refl)

ends_down : (ts : List Token) (t : Token) (us : List Token) → Ends ts (t ∷ us) → Ends ts us
ends_down ts t us e = (e.0 ++ t ∷ [], e.1 ∙ sym (append_assoc e.0 (t ∷ []) us))

ends_tail : (ts us : List Token) → Ends ts us → Ends ts (tail us)
ends_tail ts [] e = e
ends_tail ts (t ∷ us) e = ends_down ts t us e

at_front : (front : List Token) (t : Token) (rest : List Token) → slice_get (front ++ t ∷ rest) (length (front ++ t ∷ rest) - suc (length rest)) ≡ Some t
at_front front t rest =
    let n = length-append front (t ∷ rest) in
    let i : length (front ++ t ∷ rest) - suc (length rest) ≡ length front = omega (arith, n) in
    let lt : length front < length (front ++ t ∷ rest) = omega (arith, n) in
    ap (λ (k : ℕ). slice_get (front ++ t ∷ rest) k) i ∙ slice_get-get_or (front ++ t ∷ rest) (length front) t lt ∙ ap Some (get_or-append_seam front t rest t)

placed : (file : ℕ) (ts rest : List Token) → Ends ts rest → place_left file ts (length rest) ≡ place_of file ts rest
placed file ts [] e = refl
placed file ts (t ∷ rest) e =
    let P : List Token → Type 0 = λ us. slice_get us (length us - suc (length rest)) ≡ Some t in
    ap (place_or_start file) (subst P (sym e.1) (at_front e.0 t rest))

-- ---- the clauses of an answer

module _ (file : ℕ) (ts : List Token) where
  at_fault : (f : Fault) → program_at ts ≡ Err f → At (Ends ts) f
  at_fault f e = go (program_at ts) (faults (Ends ts) (ends_tail ts) ts (ends_all ts)) e
    where
      go : (r : Result (Program × ℕ) Fault) → Post (At (Ends ts)) (λ x. Unit {0}) r → r ≡ Err f → At (Ends ts) f
      go (Ok x) h i = absurd cc
      go (Err g) (bad h) i = let s : g ≡ f = cc in subst (At (Ends ts)) s h

  pub no_program : (f : Fault) (at : Place) → program_at ts ≡ Err f → answer_of file ts f ≡ answer.Syntax at → (q : Program) (h : ℕ) → Derives ts q h → ⊥
  no_program (Syntax k) at r e = is_none ts k r
  no_program (TooDeep k) at r e = absurd cc
  no_program (LeftOut k w) at r e = absurd cc

  pub no_program_left_out : (f : Fault) (at : Place) (w : What) → program_at ts ≡ Err f → answer_of file ts f ≡ answer.LeftOut at w → (q : Program) (h : ℕ) → Derives ts q h → ⊥
  no_program_left_out (Syntax k) at w r e = absurd cc
  no_program_left_out (TooDeep k) at w r e = absurd cc
  no_program_left_out (LeftOut k v) at w r e = is_whole ts k v r

  pub too_high : (f : Fault) (at : Place) → program_at ts ≡ Err f → answer_of file ts f ≡ answer.TooDeep at → (q : Program) (h : ℕ) → Derives ts q h → 201 < h
  too_high (Syntax k) at r e = absurd cc
  too_high (TooDeep k) at r e = is_high ts k r
  too_high (LeftOut k w) at r e = absurd cc

  explained : (f : Fault) → program_at ts ≡ Err f → ExplainsParse file ts (answer_of file ts f)
  explained (Syntax k) r = (Syntax k, r, refl)
  explained (TooDeep k) r = (TooDeep k, r, refl)
  explained (LeftOut k w) r = (LeftOut k w, r, refl)

  pub explains : (f : Fault) → program_at ts ≡ Err f → (a : ParseErr) → a ≡ answer_of file ts f → ExplainsParse file ts a
  explains f r a e = subst (ExplainsParse file ts) (sym e) (explained f r)

  pub syntax_place : (f : Fault) (at : Place) → program_at ts ≡ Err f → answer_of file ts f ≡ answer.Syntax at → (rest : List Token) × Ends ts rest × (at ≡ place_of file ts rest)
  syntax_place f at r e = go (at_fault f r) e
    where
      go : {g : Fault} → At (Ends ts) g → answer_of file ts g ≡ answer.Syntax at → (rest : List Token) × Ends ts rest × (at ≡ place_of file ts rest)
      go (syntax_at rest x) i = let s : place_left file ts (length rest) ≡ at = cc in (rest, x, sym s ∙ placed file ts rest x)
      go (deep_at rest x) i = absurd cc
      go (left_out_at rest w x b) i = absurd cc

  pub left_out_place : (f : Fault) (at : Place) (w : What) → program_at ts ≡ Err f → answer_of file ts f ≡ answer.LeftOut at w → (rest : List Token) × Ends ts rest × (at ≡ place_of file ts rest) × (begins_left_out w rest ≡ true)
  left_out_place f at w r e = go (at_fault f r) e
    where
      go : {g : Fault} → At (Ends ts) g → answer_of file ts g ≡ answer.LeftOut at w → (rest : List Token) × Ends ts rest × (at ≡ place_of file ts rest) × (begins_left_out w rest ≡ true)
      go (syntax_at rest x) i = absurd cc
      go (deep_at rest x) i = absurd cc
      go (left_out_at rest v x b) i =
          let s : place_left file ts (length rest) ≡ at = cc in
          let v_is_w : v ≡ w = cc in
          let P : What → Type 0 = λ u. begins_left_out u rest ≡ true in
          (rest, x, sym s ∙ placed file ts rest x, subst P v_is_w b)

  pub deep_place : (f : Fault) (at : Place) → program_at ts ≡ Err f → answer_of file ts f ≡ answer.TooDeep at → (rest : List Token) × Ends ts rest × (at ≡ place_of file ts rest) × Too_deep ts rest
  deep_place (Syntax k) at r e = absurd cc
  deep_place (LeftOut k w) at r e = absurd cc
  deep_place (TooDeep k) at r e =
      let d = is_deep ts k r in
      let x = deep_many (Ends ts) (ends_down ts) d.1 (ends_all ts) in
      let s : place_left file ts k ≡ at = cc in
      (d.0, x, sym s ∙ ap (place_left file ts) d.2 ∙ placed file ts d.0 x, d.1)

-- the declarations of a file are nodes
pub same_declarations : (d k : ℕ) (ts : List Token) → many_at (phrases (read_at d)) k Dec_item 0 ts ≡ many_at (nodes (read_at d)) k Dec_item 0 ts
unfolding phrases nodes
same_declarations d k ts = many_same (phrases (read_at d)) (nodes (read_at d)) Dec_item (λ us. refl) k 0 ts

-- ---- what the code answered

err_is : {A : Type 0} {x y : ParseErr} → ◌≡◌ {A = Result A ParseErr} (Err x) (Err y) → x ≡ y
err_is e = cc

pub read_from : (f : Fault) (ts : List Token) {e : Stop} → e ≡ stop.Fault f → Fails e (program_at ts) → program_at ts ≡ Err f
read_from f ts i x =
    let Q : Stop → Type 0 = λ z. Fails z (program_at ts) in
    subst Q i x

pub answered : {r a : ParseErr} (b : ParseErr) → r ≡ b → ◌≡◌ {A = Result Program ParseErr} (Err r) (Err a) → b ≡ a
answered b s i = sym s ∙ err_is i
