-- Reading and the grammar agree on programs.
use Rattle.std.proofs.Common.{◌≡◌, ℕ, ◌<◌, true, eqb, List, length, Result, Ok, Err, refl, ap, subst, arith}
use Rattle.std.proofs.lemmas.Bool.{eqb-true}
use Rattle.std.proofs.lemmas.List.{nil_from_length}
use Rattle.fut_token.specs.declared.token.Token.{Token}
use Rattle.fut_ast.specs.declared.module.Program.{Program}
use Rattle.fut_ast.specs.Sorts.{Dec_item}
use Rattle.fut_ast.specs.Grammar.{Spells_many, Derives, program}
use Rattle.fut_ast.specs.Nesting.{Deep_many}
use Rattle.std.specs.Prelude.{IfOk}
use Rattle.fut_ast.specs.declared.node.What.{What}
use Rattle.fut_ast.specs.LeftOut.{begins_left_out}
use Rattle.fut_grammar.specs.declared.fault.Fault.{Fault}
use Rattle.fut_grammar.specs.declared.fault.Fault.TheVariants.{Syntax, TooDeep, LeftOut}
use Rattle.fut_grammar.specs.declared.fault.Stop.{Stop}
use Rattle.fut_grammar.specs.Reading.{Gives}
use Rattle.fut_grammar.specs.Phrases.{read_at, program_at, nodes}
use Rattle.fut_grammar.proofs.Post.{Post, good, bad, post_bind, post_if, Stands, deep_stands, left_out_stands, refused, Gets, gets, too_deep, then_gets}
use Rattle.fut_grammar.proofs.SoundParts.{many_post}
use Rattle.fut_grammar.proofs.SoundPhrases.{sound, nodes_post}
use Rattle.fut_grammar.proofs.CompleteParts.{many_gets}
use Rattle.fut_grammar.proofs.Choices.{node_sort}
use Rattle.fut_grammar.proofs.CompleteItems.{nodes_gets}
use Rattle.fut_grammar.proofs.CompletePhrases.{complete}

pub sound_program : (ts : List Token) → Post (Stands (λ r. Deep_many 201 Dec_item ts r)) (λ (x : Program × ℕ). Derives ts x.0 x.1) (program_at ts)
unfolding program_at
sound_program ts =
    post_bind _ (many_post (nodes (read_at 201)) 201 (nodes_post (read_at 201) 201 (sound 201)) (length ts) Dec_item 0 ts)
    (λ ds hds. post_if (eqb (length ds.2) 0) (λ e. good (program (subst (λ (us : List Token). Spells_many Dec_item ds.0 0 ds.1 ts us) (nil_from_length ds.2 (eqb-true _ _ e)) hds))) (λ e. bad (refused ds.2)))

pub complete_program : (ts : List Token) (p : Program) (h : ℕ) → Derives ts p h → Gets (201 < h) (program_at ts) (p, h)
unfolding program_at
complete_program ts p h (program {ds = ds} x) = then_gets _ (many_gets (nodes (read_at 201)) 202 node_sort (nodes_gets (read_at 201) 202 (complete 201)) (length ts) refl x (omega arith)) gets

-- ---- the clauses of parsing, of what the code returned

at_ok : {A : Type 0} {E : Fault → Type 0} {P : A → Type 0} (r : Result A Fault) (x : A) → Post E P r → r ≡ Ok x → P x
at_ok {P = P} (Ok y) x (good h) e = let s : y ≡ x = cc in subst P s h
at_ok (Err f) x h e = absurd cc

at_err : {A : Type 0} {E : Fault → Type 0} {P : A → Type 0} (r : Result A Fault) (f : Fault) → Post E P r → r ≡ Err f → E f
at_err (Ok y) f h e = absurd cc
at_err {E = E} (Err g) f (bad h) e = let s : g ≡ f = cc in subst E s h

same_read : {A high : Type 0} (r : Result A Fault) (x y : A) → Gets high r y → r ≡ Ok x → y ≡ x
same_read (Ok z) x y gets e = cc
same_read (Err f) x y h e = absurd cc

no_syntax : {A high : Type 0} (r : Result A Fault) (y : A) (k : ℕ) → Gets high r y → r ≡ Err (Syntax k) → ⊥
no_syntax (Ok z) y k h e = cc
no_syntax (Err f) y k (too_deep i) e = cc

no_left_out : {A high : Type 0} (r : Result A Fault) (y : A) (k : ℕ) (w : What) → Gets high r y → r ≡ Err (LeftOut k w) → ⊥
no_left_out (Ok z) y k w h e = cc
no_left_out (Err f) y k w (too_deep i) e = cc

too_high : {A high : Type 0} (r : Result A Fault) (y : A) (k : ℕ) → Gets high r y → r ≡ Err (TooDeep k) → high
too_high (Ok z) y k h e = absurd cc
too_high (Err f) y k (too_deep i) e = i

deep_at : {D : List Token → Type 0} {k : ℕ} → Stands D (TooDeep k) → (rest : List Token) × D rest × (k ≡ length rest)
deep_at (deep_stands rest d) = (rest, d, refl)

left_out_at : {D : List Token → Type 0} {k : ℕ} {w : What} → Stands D (LeftOut k w) → (rest : List Token) × (begins_left_out w rest ≡ true) × (k ≡ length rest)
left_out_at (left_out_stands rest w b) = (rest, b, refl)

abbrev pub same : Program × ℕ → Program × ℕ
same x = (x.0, x.1)

module _ (ts : List Token) where
  pub is_found : (r : Result (Program × ℕ) Stop) → Gives same r (program_at ts) → IfOk r (λ x. Derives ts x.0 x.1)
  is_found (Ok x) h = at_ok (program_at ts) (same x) (sound_program ts) h
  is_found (Err e) h = tt

  pub is_only : (r : Result (Program × ℕ) Stop) → Gives same r (program_at ts) → IfOk r (λ x. (p : Program) (h : ℕ) → Derives ts p h → p ≡ x.0)
  is_only (Ok x) e = λ p h d. ap (λ (y : Program × ℕ). y.0) (same_read (program_at ts) (same x) (p, h) (complete_program ts p h d) e)
  is_only (Err e) h = tt

  pub is_none : (k : ℕ) → program_at ts ≡ Err (Syntax k) → (p : Program) (h : ℕ) → Derives ts p h → ⊥
  is_none k e p h d = no_syntax (program_at ts) (p, h) k (complete_program ts p h d) e

  pub is_whole : (k : ℕ) (w : What) → program_at ts ≡ Err (LeftOut k w) → (p : Program) (h : ℕ) → Derives ts p h → ⊥
  is_whole k w e p h d = no_left_out (program_at ts) (p, h) k w (complete_program ts p h d) e

  pub is_deep : (k : ℕ) → program_at ts ≡ Err (TooDeep k) → (rest : List Token) × Deep_many 201 Dec_item ts rest × (k ≡ length rest)
  is_deep k e = deep_at (at_err (program_at ts) (TooDeep k) (sound_program ts) e)

  -- a program of a height up to 201 is never too deep
  pub is_high : (k : ℕ) → program_at ts ≡ Err (TooDeep k) → (p : Program) (h : ℕ) → Derives ts p h → 201 < h
  is_high k e p h d = too_high (program_at ts) (p, h) k (complete_program ts p h d) e

  pub is_left_out : (k : ℕ) (w : What) → program_at ts ≡ Err (LeftOut k w) → (rest : List Token) × (begins_left_out w rest ≡ true) × (k ≡ length rest)
  is_left_out k w e = left_out_at (at_err (program_at ts) (LeftOut k w) (sound_program ts) e)
