-- What is spelled as an expression is read so.
use Rattle.std.proofs.Common.{◌≡◌, ℕ, zero, suc, ◌+◌, ◌≤◌, ◌<◌, Bool, true, false, cond, ◌||◌, ◌&&◌, eqb, ltb, leb, List, [], ◌∷◌, length, Option, Some, None, Result, refl, sym, ap, subst, arith}
use Rattle.std.specs.Prelude.{is_some}
use Rattle.std.proofs.lemmas.Bool.{le-leb, ltb-false}
use Rattle.fut_token.specs.declared.token.Fixed.{Fixed}
use Rattle.fut_token.specs.declared.token.Fixed.TheVariants as fixed
use Rattle.fut_token.specs.declared.token.TokenKind.{TokenKind}
use Rattle.fut_token.specs.declared.token.TokenKind.TheVariants as kind
use Rattle.fut_token.specs.declared.token.Token.{Token}
use Rattle.fut_ast.specs.declared.node.Spot.{Spot}
use Rattle.fut_ast.specs.declared.node.End.TheVariants as range_end
use Rattle.fut_ast.specs.Tokens.{spot_of, tail, starts}
use Rattle.fut_ast.specs.Sorts.{Tree, SourceExp, Ending, Sort, Chain, Range, Updated, Typed, Last, Big, Body, Whole, Operands, Operand, Right, Inside, Replacing, Let_item, Text}
use Rattle.fut_ast.specs.Parts.{Operator, Sub, Builds}
use Rattle.fut_ast.specs.Grammar.{Spells, row, suffix, pass, far, lets, body, no_operand, an_operand, Phrase, phrase, Lets, last_let, next_let, in_let, Parts, done, then_, Has, look, sign, word, operator, named_operator, sub, end_of}
use Rattle.fut_ast.specs.ExpRows.{if_else, function, loop, last_replaced, further_replaced}
use Rattle.fut_ast.specs.Rows.{of_type, of_pat, of_exp, of_mod, range_to, range_by, with_index, with_field, with_path, ascribed, coerced}
use Rattle.fut_ast.specs.Nodes.{joined}
use Rattle.fut_ast.specs.Operators.{level, left_level, right_level, fits, fitting_from, fitting_at, behind_operator, is_whole, operator_of, operator_at, any_of, section_from, section_at}
use Rattle.fut_ast.specs.declared.node.Ended.{Ended}
use Rattle.fut_ast.specs.declared.node.Ended.TheVariants as ending
use Rattle.fut_ast.specs.Rows.{operation, unary, chain, range, updated, typed, big, whole, operands, near_operand, far_operand, near_right, far_right}
use Rattle.fut_ast.specs.Behind.{begins, begins_operand, behind_app, behind_chain, behind_range, behind_updated, behind_typed, takes_range, takes_update, goes_range}
use Rattle.fut_grammar.specs.declared.fault.Fault.{Fault}
use Rattle.fut_grammar.specs.Reading.{◌>>=◌, Read}
use Rattle.fut_grammar.specs.Phrases.{by_operator, operator_between, with_suffix, goes_typed, typed_suffix, again_at, operand_too_deep, operation_at, operators_at, graded_at, chain_at, operands_at, range_behind, range_at, updates_behind, types_behind, typed_behind, typed_at, updated_at, form_at, body_at, row_of_lets, lets_at, big_at, last_at, whole_at, operand_at, right_at, replacing_at, inside_operand, inside_whole, inside_at}
use Rattle.fut_grammar.proofs.Bools.{and_drop, or_false_left, or_false_right}
use Rattle.fut_grammar.proofs.Shorter.{phrase_shorter, parts_higher, lets_higher}
use Rattle.fut_grammar.proofs.SoundPhrases.{at_level}
use Rattle.fut_grammar.proofs.Post.{Gets, gets, too_deep, then_gets, as_part, one_higher}
use Rattle.fut_grammar.proofs.CompleteParts.{expect_gets, gets_if, parts_gets}
use Rattle.fut_grammar.proofs.Choices.{far_gets, assoc_gets, bind_gets, bounded_gets, first_begins, not_starting, readable, when_false, when_true}
use Rattle.fut_grammar.proofs.CompleteSuffixes.{again_goes, again_stops, node_row, node_suffix, once_not, once_there}
use Rattle.fut_grammar.proofs.Endings.{ends_so}
use Rattle.fut_grammar.proofs.CompleteAtoms.{no_section_of, taken_gets, in_node, unary_gets, unary_begins}

-- ---- operators, and how an expression ended

by_some : {A high : Type 0} (q : Option Fixed) (o : Fixed) (stop : Read A) (go : Fixed → Read A) {w : A × ℕ × List Token} → q ≡ Some o → Gets high (go o) w → Gets high (by_operator q stop go) w
by_some None o stop go e h = absurd cc
by_some {high = high} (Some p) o stop go {w} e h =
    let i : p ≡ o = cc in
    subst (λ (r : Fixed). Gets high (go r) w) (sym i) h

by_none : {A high : Type 0} (q : Option Fixed) {stop : Read A} (go : Fixed → Read A) {w : A × ℕ × List Token} → q ≡ None → Gets high stop w → Gets high (by_operator q stop go) w
by_none None go e h = h
by_none (Some p) go e h = absurd cc

none_is : {A : Type 0} (o : Option A) → is_some o ≡ false → o ≡ None
none_is None e = refl
none_is (Some x) e = absurd cc

left_between : (o : Fixed) → (level o ≤ left_level o) × (left_level o ≤ suc (level o))
left_between o = go (level o) (eqb (level o) 3)
  where
    go : (l : ℕ) (b : Bool) → (l ≤ cond b (suc l) l) × (cond b (suc l) l ≤ suc l)
    go l true = (omega arith, omega arith)
    go l false = (omega arith, omega arith)

-- nothing goes on with operands
quiet : (k : ℕ) (e : Ended) (ts : List Token) → takes_range e ≡ true → behind_chain k e ts ≡ false → (behind_app ts ≡ false) × (fitting_at e k ts ≡ None)
quiet k (ending.Operands last) ts r q = (or_false_left _ _ q, none_is _ (or_false_right (behind_app ts) _ q))
quiet k ending.Range ts r q = absurd cc
quiet k ending.Update ts r q = absurd cc
quiet k ending.Type ts r q = absurd cc

range_takes_update : (e : Ended) → takes_range e ≡ true → takes_update e ≡ true
range_takes_update (ending.Operands last) r = refl
range_takes_update ending.Range r = absurd cc
range_takes_update ending.Update r = absurd cc
range_takes_update ending.Type r = absurd cc

-- where no operator that fits stands there is no section's that fits
section_fits : (e : Ended) (ts : List Token) → fitting_at e 1 ts ≡ None → fitting_from e (section_at ts) ≡ None
section_fits e [] i = refl
section_fits e (t ∷ ts) i = at_kind t.kind i
  where
    at_kind : (k : TokenKind) → fitting_from e (operator_of 1 k) ≡ None → fitting_from e (section_from (any_of k) ts) ≡ None
    at_kind (kind.Fixed p) f = at_level_of (leb 1 (level p)) f
      where
        closed : (c : Bool) → fitting_from e (Some p) ≡ None → fitting_from e (cond c (Some p) None) ≡ None
        closed true g = g
        closed false g = refl

        at_level_of : (b : Bool) → fitting_from e (cond (b && b) (Some p) None) ≡ None → fitting_from e (section_from (cond b (Some p) None) ts) ≡ None
        at_level_of true g = closed (is_whole p ts && starts fixed.CloseParen (behind_operator p ts)) g
        at_level_of false g = refl
    at_kind (kind.Name x) f = refl
    at_kind (kind.Int v s) f = refl
    at_kind (kind.TypeVar l x) f = refl
    at_kind (kind.Char c) f = refl
    at_kind (kind.Text x) f = refl
    at_kind (kind.Field x) f = refl
    at_kind (kind.Constructor x) f = refl

fitting_there : (e : Ended) (k : ℕ) (o : Fixed) (ts : List Token) → operator_at k ts ≡ Some o → fits e (left_level o) ≡ true → fitting_at e k ts ≡ Some o
fitting_there e k o ts i f = rw (i, f) refl

between_there : (section_ends : Bool) (e : Ended) (k : ℕ) (o : Fixed) (ts : List Token) → fitting_at e k ts ≡ Some o → section_at ts ≡ None → operator_between section_ends e k ts ≡ Some o
between_there true e k o ts i s = rw s i
between_there false e k o ts i s = i

between_none : (section_ends : Bool) (e : Ended) (k : ℕ) (ts : List Token) → fitting_at e k ts ≡ None → operator_between section_ends e k ts ≡ None
between_none section_ends e k ts i = go (section_ends && is_some (section_at ts))
  where
    go : (b : Bool) → cond b None (fitting_at e k ts) ≡ None
    go true = refl
    go false = i

-- ---- expressions

module _ (read : (n : Sort) → List Token → Read (Tree n)) (limit : ℕ) (given_read : (n : Sort) (p : Tree n) (h : ℕ) (ts rest : List Token) → readable n ≡ true → Phrase n p h ts rest → Gets (limit ≤ h) (read n ts) (p, h, rest)) where
  chain_begins : {k : ℕ} {p : Ending} {h : ℕ} {ts rest : List Token} → Spells (Chain k) p h ts rest → begins_operand ts ≡ true
  chain_begins (pass unary x) = unary_begins read limit given_read x
  chain_begins (suffix (operation o above) x q xs) = chain_begins x
  chain_begins (row (of_type r) xs) = elim r [ ]
  chain_begins (row (of_pat r) xs) = elim r [ ]
  chain_begins (row (of_exp r) xs) = elim r [ ]
  chain_begins (row (of_mod r) xs) = elim r [ ]
  chain_begins (far e x q) = elim e [ ]

  -- a chain ended with operands, and fits on the left at each level up to its own
  chain_ended : {m : ℕ} {a : Ending} {h : ℕ} {ts us : List Token} → Spells (Chain m) a h ts us → (takes_range a.1 ≡ true) × ((l : ℕ) → l ≤ m → fits a.1 l ≡ true)
  chain_ended (pass unary x) = (refl, λ l le. refl)
  chain_ended (suffix (operation o above) x q (then_ y (then_ z done))) = (refl, λ l le. le-leb l (level o) (omega arith))
  chain_ended (row (of_type r) xs) = elim r [ ]
  chain_ended (row (of_pat r) xs) = elim r [ ]
  chain_ended (row (of_exp r) xs) = elim r [ ]
  chain_ended (row (of_mod r) xs) = elim r [ ]
  chain_ended (far e x q) = elim e [ ]

  operator_there : {k : ℕ} {o : Fixed} {v : Spot × Text} {g h : ℕ} {ts rest : List Token} → Has (Operator o) v g h ts rest → k ≤ level o → operator_at k ts ≡ Some o
  operator_there {k} {o} (operator e le n) above =
      let a = le-leb 1 (level o) le in
      let b = le-leb k (level o) above in
      rw (e, a, b) refl
  operator_there {k} (named_operator e f g) above = let b = le-leb k 1 above in rw (e, b) refl

  deep_gets : {A high : Type 0} {n : Sort} {o : Fixed} {b : Builds (Operator o ∷ Sub (Operand (right_level o)) ∷ []) n} {p : Tree n} {w : A × ℕ × List Token} {g h : ℕ} {us rest : List Token} → Parts n (Operator o ∷ Sub (Operand (right_level o)) ∷ []) b p g h us rest → high → Gets high (operand_too_deep read limit o us) w
  unfolding operand_too_deep
  deep_gets {o = o} (then_ x (then_ {ts = vs} (sub y) xs)) i = then_gets _ (taken_gets read limit given_read x) (when_true (begins (Operand (right_level o)) vs) _ (first_begins y) (too_deep i))

  operation_gets : (k : ℕ) {m : ℕ} (o : Fixed) (ts us rest : List Token) (a : Ending) {p : Ending} {g h : ℕ} → behind_app us ≡ false → Parts (Chain m) (Operator o ∷ Sub (Operand (right_level o)) ∷ []) (λ op b. (joined o (spot_of ts).place op.0.place op.1 a.0 b, ending.Operands (Some o))) p g h us rest → Gets (limit < suc h) (operation_at read limit k o (spot_of ts) a g us) (p, suc h, rest)
  unfolding operation_at
  operation_gets k o ts us rest a {g = g} q xs = let le = parts_higher xs in when_false (behind_app us) _ q (gets_if (ltb g limit) (one_higher (parts_gets read limit readable given_read true refl (at_level {m = k} xs))) (λ e. let over = ltb-false g limit e in deep_gets xs (omega arith)))

  operator_turn : (section_ends : Bool) (k : ℕ) {m j : ℕ} {w : Ending × ℕ × List Token} (o : Fixed) (ts us rest : List Token) (a p : Ending) (g h : ℕ) → operator_between section_ends a.1 k us ≡ Some o → behind_app us ≡ false → Parts (Chain m) (Operator o ∷ Sub (Operand (right_level o)) ∷ []) (λ op b. (joined o (spot_of ts).place op.0.place op.1 a.0 b, ending.Operands (Some o))) p g h us rest → suc h ≤ j → ((n : ℕ) → limit ≤ n + suc h → Gets (limit < j) (operators_at read limit section_ends k (spot_of ts) n p (suc h) rest) w) → (n : ℕ) → limit ≤ n + g → Gets (limit < j) (operators_at read limit section_ends k (spot_of ts) n a g us) w
  unfolding operators_at
  operator_turn section_ends k o ts us rest a p g h e q xs up more zero turns = let le = parts_higher xs in by_some (operator_between section_ends a.1 k us) o _ _ e (when_false (behind_app us) _ q (deep_gets xs (omega arith)))
  operator_turn section_ends k o ts us rest a p g h e q xs up more (suc n) turns = let le = parts_higher xs in by_some (operator_between section_ends a.1 k us) o _ _ e (then_gets _ (as_part (operation_gets k o ts us rest a q xs) up) (more n (omega arith)))

  operand_follows : {n m : Sort} {o : Fixed} {b : Builds (Operator o ∷ Sub m ∷ []) n} {p : Tree n} {g h : ℕ} {us rest : List Token} (section_ends : Bool) (e : Ended) (k : ℕ) → k ≤ level o → fits e (left_level o) ≡ true → ((ts : List Token) → begins m ts ≡ true → starts fixed.CloseParen ts ≡ false) → Parts n (Operator o ∷ Sub m ∷ []) b p g h us rest → operator_between section_ends e k us ≡ Some o
  operand_follows {us = us} section_ends e k above f none (then_ x (then_ {ts = vs} (sub y) xs)) = between_there section_ends e k _ us (fitting_there e k _ us (operator_there x above) f) (no_section_of read limit given_read x (none vs (first_begins y)))

  no_close : (k : ℕ) (ts : List Token) → begins (Operand k) ts ≡ true → starts fixed.CloseParen ts ≡ false
  no_close k ts b = not_starting fixed.CloseParen (begins (Operand k)) ts (λ t us e. rw e refl) b

  chain_then : (section_ends : Bool) (k : ℕ) {m j : ℕ} {a : Ending} {h : ℕ} {ts us : List Token} {w : Ending × ℕ × List Token} → Spells (Chain m) a h ts us → k ≤ m → behind_app us ≡ false → h ≤ j → ((n : ℕ) → limit ≤ n + h → Gets (limit < j) (operators_at read limit section_ends k (spot_of ts) n a h us) w) → Gets (limit < j) (graded_at read limit section_ends k ts) w
  unfolding graded_at
  chain_then section_ends k (pass unary x) le q up more = then_gets _ (as_part (unary_gets read limit given_read x q) up) (more limit (omega arith))
  chain_then section_ends k {m} {ts = ts} {us = rest} (suffix {a = a} {p = p} {g = g} {h = h} {us = us} (operation o above) x q xs) le quiet up more =
      let steps = (left_between o).0 in
      let grows = parts_higher xs in
      let fit = (chain_ended x).1 (left_level o) (omega arith) in
      chain_then section_ends k x (omega arith) q (omega arith) (operator_turn section_ends k o ts us rest a p g h (operand_follows section_ends a.1 k (omega arith) fit (no_close (right_level o)) xs) q xs up more)
  chain_then section_ends k (row (of_type r) xs) le q2 up more = elim r [ ]
  chain_then section_ends k (row (of_pat r) xs) le q2 up more = elim r [ ]
  chain_then section_ends k (row (of_exp r) xs) le q2 up more = elim r [ ]
  chain_then section_ends k (row (of_mod r) xs) le q2 up more = elim r [ ]
  chain_then section_ends k (far e x q) le q2 up more = elim e [ ]

  operators_stop : {high : Type 0} (section_ends : Bool) (k : ℕ) (from : Spot) (a : Ending) (h : ℕ) (rest : List Token) → operator_between section_ends a.1 k rest ≡ None → (n : ℕ) → limit ≤ n + h → Gets high (operators_at read limit section_ends k from n a h rest) (a, h, rest)
  unfolding operators_at
  operators_stop section_ends k from a h rest e zero turns = by_none (operator_between section_ends a.1 k rest) _ e gets
  operators_stop section_ends k from a h rest e (suc n) turns = by_none (operator_between section_ends a.1 k rest) _ e gets

  graded_gets : (section_ends : Bool) (k : ℕ) {m : ℕ} {p : Ending} {h : ℕ} {ts rest : List Token} → Spells (Chain m) p h ts rest → k ≤ m → behind_app rest ≡ false → operator_between section_ends p.1 k rest ≡ None → Gets (limit < h) (graded_at read limit section_ends k ts) (p, h, rest)
  graded_gets section_ends k {p = p} {h} {ts} {rest} x le q e = chain_then section_ends k x le q (omega arith) (operators_stop section_ends k (spot_of ts) p h rest e)

  pub chain_gets : (k : ℕ) {p : Ending} {h : ℕ} {ts rest : List Token} → Spells (Chain k) p h ts rest → behind_chain k p.1 rest ≡ false → Gets (limit < h) (chain_at read limit k ts) (p, h, rest)
  unfolding chain_at
  chain_gets k {p} {rest = rest} x q = let z = quiet k p.1 rest (chain_ended x).0 q in graded_gets false k x (omega arith) z.0 z.1

  -- what stands first among operands, and what is made of what stands behind it, in a whole of height j
  pub data Begun {B : Type 0} (j : ℕ) (ts : List Token) (f : Ending → ℕ → List Token → Result B Fault) (w : B) : Type 0 where
    begun_by : (a : Ending) (g : ℕ) (us : List Token) → Spells (Chain 1) a g ts us → behind_chain 1 a.1 us ≡ false → g ≤ j → Gets (limit < j) (f a g us) w → Begun j ts f w

  range_begun : {p : Ending} {h : ℕ} {ts rest : List Token} → Spells Range p h ts rest → behind_range p.1 rest ≡ false → Begun h ts (range_behind read limit (spot_of ts)) (p, h, rest)
  unfolding range_behind
  range_begun {p} {h} {ts} {rest} (pass chain x) w =
      let none = and_drop (takes_range p.1) _ (or_false_right (behind_chain 1 p.1 rest) _ w) (chain_ended x).0 in
      begun_by p h rest x (or_false_left _ _ w) (omega arith)
      (when_false (starts fixed.DotDot rest) _ (or_false_left _ _ (or_false_left _ _ (or_false_left _ _ none))) (once_not read limit given_read goes_range range_to (spot_of ts) (λ e. e) p h rest none))
  range_begun {ts = ts} (suffix {a = a} {g = g} {us = us} range_by x q (then_ (sign {t = t} {rest = vs} e) xs)) w =
      let le = parts_higher xs in
      begun_by a g us x q (omega arith) (when_true (starts fixed.DotDot us) _ (rw e refl) (node_suffix read limit given_read range_by (spot_of ts) a refl q (then_ (sign e) xs)))
  range_begun {ts = ts} (suffix {a = a} {g = g} {us = us} range_to x q (then_ (end_of {e = range_end.Below} {t = t} {rest = vs} e) xs)) w =
      let le = parts_higher xs in
      begun_by a g us x q (omega arith) (when_false (starts fixed.DotDot us) _ (rw e refl) (once_there read limit given_read goes_range range_to (spot_of ts) (λ v. v) a (rw e refl) refl q (then_ (end_of e) xs)))
  range_begun {ts = ts} (suffix {a = a} {g = g} {us = us} range_to x q (then_ (end_of {e = range_end.Above} {t = t} {rest = vs} e) xs)) w =
      let le = parts_higher xs in
      begun_by a g us x q (omega arith) (when_false (starts fixed.DotDot us) _ (rw e refl) (once_there read limit given_read goes_range range_to (spot_of ts) (λ v. v) a (rw e refl) refl q (then_ (end_of e) xs)))
  range_begun {ts = ts} (suffix {a = a} {g = g} {us = us} range_to x q (then_ (end_of {e = range_end.Through} {t = t} {rest = vs} e) xs)) w =
      let le = parts_higher xs in
      begun_by a g us x q (omega arith) (when_false (starts fixed.DotDot us) _ (rw e refl) (once_there read limit given_read goes_range range_to (spot_of ts) (λ v. v) a (rw e refl) refl q (then_ (end_of e) xs)))
  range_begun (row (of_type r) xs) w = elim r [ ]
  range_begun (row (of_pat r) xs) w = elim r [ ]
  range_begun (row (of_exp r) xs) w = elim r [ ]
  range_begun (row (of_mod r) xs) w = elim r [ ]
  range_begun (far e x q) w = elim e [ ]

  pub range_gets : {p : Ending} {h : ℕ} {ts rest : List Token} → Spells Range p h ts rest → behind_range p.1 rest ≡ false → Gets (limit < h) (range_at read limit ts) (p, h, rest)
  unfolding range_at
  range_gets {p} {h} {ts} {rest} x w = go (range_begun x w)
    where
      go : Begun h ts (range_behind read limit (spot_of ts)) (p, h, rest) → Gets (limit < h) (chain_at read limit 1 ts >>= λ a. range_behind read limit (spot_of ts) a.0 a.1 a.2) (p, h, rest)
      go (begun_by a g us y q le z) = then_gets _ (as_part (chain_gets 1 y q) le) z

  updates_of : List Token → Ending → ℕ → List Token → Read Ending
  updates_of ts a g us = range_behind read limit (spot_of ts) a g us >>= λ b. updates_behind read limit (spot_of ts) b.0 b.1 b.2

  begun_on : {B C : Type 0} {i j : ℕ} {ts : List Token} {f : Ending → ℕ → List Token → Result B Fault} {g : Ending → ℕ → List Token → Result C Fault} {v : B} {w : C} → Begun i ts f v → i ≤ j → ((a : Ending) (k : ℕ) (us : List Token) → Gets (limit < i) (f a k us) v → Gets (limit < j) (g a k us) w) → Begun j ts g w
  begun_on (begun_by a k us x q le z) up on = begun_by a k us x q (omega arith) (on a k us z)

  updated_begun : {p : Ending} {h j : ℕ} {ts rest : List Token} {w : Ending × ℕ × List Token} → Spells Updated p h ts rest → behind_range p.1 rest ≡ false → h ≤ j → ((k : ℕ) → limit ≤ k + h → Gets (limit < j) (again_at read limit (starts fixed.KeyWith) with_suffix (spot_of ts) k p h rest) w) → Begun j ts (updates_of ts) w
  unfolding updates_of updates_behind
  updated_begun {rest = rest} (pass range x) quiet up more = begun_on (range_begun x quiet) up (λ a k us z. then_gets _ (as_part z up) (more limit (omega arith)))
  updated_begun {p} {ts = ts} {rest = rest} (suffix {a = a} {g = g} {h = h} {us = us} with_index x q (then_ (sign {t = t} {rest = vs} e) (then_ (sign f) xs))) quiet up more =
      let le = parts_higher xs in
      updated_begun x q (omega arith) (again_goes read limit given_read (starts fixed.KeyWith) with_suffix (spot_of ts) with_index a p g h us rest (rw e refl) (rw f refl) refl q (then_ (sign e) (then_ (sign f) xs)) up more)
  updated_begun {p} {ts = ts} {rest = rest} (suffix {a = a} {g = g} {h = h} {us = us} with_field x q (then_ (sign {t = t} {rest = vs} e) (then_ (word w) (then_ (sign f) xs)))) quiet up more =
      let le = parts_higher xs in
      updated_begun x q (omega arith) (again_goes read limit given_read (starts fixed.KeyWith) with_suffix (spot_of ts) with_field a p g h us rest (rw e refl) (rw (w, f) refl) refl q (then_ (sign e) (then_ (word w) (then_ (sign f) xs))) up more)
  updated_begun {p} {ts = ts} {rest = rest} (suffix {a = a} {g = g} {h = h} {us = us} with_path x q (then_ (sign {t = t} {rest = vs} e) (then_ (word w) (then_ (look c) (then_ (sign f) xs))))) quiet up more =
      let le = parts_higher xs in
      updated_begun x q (omega arith) (again_goes read limit given_read (starts fixed.KeyWith) with_suffix (spot_of ts) with_path a p g h us rest (rw e refl) (rw (w, f) refl) refl q (then_ (sign e) (then_ (word w) (then_ (look c) (then_ (sign f) xs)))) up more)
  updated_begun (row (of_type r) xs) w up more = elim r [ ]
  updated_begun (row (of_pat r) xs) w up more = elim r [ ]
  updated_begun (row (of_exp r) xs) w up more = elim r [ ]
  updated_begun (row (of_mod r) xs) w up more = elim r [ ]
  updated_begun (far e x q) w up more = elim e [ ]

  range_updates : {p : Ending} {h : ℕ} {ts rest : List Token} → Spells Range p h ts rest → takes_update p.1 ≡ true
  range_updates {p} (pass chain x) = range_takes_update p.1 (chain_ended x).0
  range_updates (suffix range_to x q xs) = ap takes_update (ends_so {n = Range} (λ p. p.1) xs (λ v w. refl))
  range_updates (suffix range_by x q xs) = ap takes_update (ends_so {n = Range} (λ p. p.1) xs (λ u v w z. refl))
  range_updates (row (of_type r) xs) = elim r [ ]
  range_updates (row (of_pat r) xs) = elim r [ ]
  range_updates (row (of_exp r) xs) = elim r [ ]
  range_updates (row (of_mod r) xs) = elim r [ ]
  range_updates (far e x q) = elim e [ ]

  updated_updates : {p : Ending} {h : ℕ} {ts rest : List Token} → Spells Updated p h ts rest → takes_update p.1 ≡ true
  updated_updates (pass range x) = range_updates x
  updated_updates (suffix with_index x q xs) = ap takes_update (ends_so {n = Updated} (λ p. p.1) xs (λ t u v w y z. refl))
  updated_updates (suffix with_field x q xs) = ap takes_update (ends_so {n = Updated} (λ p. p.1) xs (λ u v w z. refl))
  updated_updates (suffix with_path x q xs) = ap takes_update (ends_so {n = Updated} (λ p. p.1) xs (λ u v w y z. refl))
  updated_updates (row (of_type r) xs) = elim r [ ]
  updated_updates (row (of_pat r) xs) = elim r [ ]
  updated_updates (row (of_exp r) xs) = elim r [ ]
  updated_updates (row (of_mod r) xs) = elim r [ ]
  updated_updates (far e x q) = elim e [ ]

  with_stops : (p : Ending) (h : ℕ) (ts rest : List Token) → takes_update p.1 ≡ true → behind_updated p.1 rest ≡ false → (k : ℕ) → limit ≤ k + h → Gets (limit < h) (again_at read limit (starts fixed.KeyWith) with_suffix (spot_of ts) k p h rest) (p, h, rest)
  with_stops p h ts rest t w k turns = again_stops read limit given_read (starts fixed.KeyWith) with_suffix (spot_of ts) p h rest (and_drop (takes_update p.1) _ (or_false_right (behind_range p.1 rest) _ w) t) k turns

  pub updated_gets : {p : Ending} {h : ℕ} {ts rest : List Token} → Spells Updated p h ts rest → behind_updated p.1 rest ≡ false → Gets (limit < h) (updated_at read limit ts) (p, h, rest)
  unfolding updated_at range_at updates_of
  updated_gets {p} {h} {ts} {rest} x w = go (updated_begun {w = (p, h, rest)} x (or_false_left _ _ w) (omega arith) (with_stops p h ts rest (updated_updates x) w))
    where
      go : Begun h ts (updates_of ts) (p, h, rest) → Gets (limit < h) (updated_at read limit ts) (p, h, rest)
      go (begun_by a g us y q le z) = assoc_gets (λ a. range_behind read limit (spot_of ts) a.0 a.1 a.2) (λ a. updates_behind read limit (spot_of ts) a.0 a.1 a.2) (as_part (chain_gets 1 y q) le) z

  typed_begun : {p : Ending} {h j : ℕ} {ts rest : List Token} {w : Ending × ℕ × List Token} → Spells Typed p h ts rest → behind_updated p.1 rest ≡ false → h ≤ j → ((k : ℕ) → limit ≤ k + h → Gets (limit < j) (again_at read limit goes_typed typed_suffix (spot_of ts) k p h rest) w) → Begun j ts (typed_behind read limit (spot_of ts)) w
  unfolding typed_behind types_behind updates_of
  typed_begun {ts = ts} {rest = rest} (pass {p = p} {h = h} updated x) quiet up more =
      begun_on (updated_begun {w = (p, h, rest)} x (or_false_left _ _ quiet) (omega arith) (with_stops p h ts rest (updated_updates x) quiet)) up
      (λ a k us z. bind_gets (range_behind read limit (spot_of ts) a k us) (λ b. updates_behind read limit (spot_of ts) b.0 b.1 b.2) (λ u. again_at read limit goes_typed typed_suffix (spot_of ts) limit u.0 u.1 u.2) (as_part z up) (more limit (omega arith)))
  typed_begun {p} {ts = ts} {rest = rest} (suffix {a = a} {g = g} {h = h} {us = us} ascribed x q (then_ (sign {t = t} {rest = vs} e) xs)) quiet up more =
      let le = parts_higher xs in
      typed_begun x q (omega arith) (again_goes read limit given_read goes_typed typed_suffix (spot_of ts) ascribed a p g h us rest (rw e refl) (rw e refl) refl q (then_ (sign e) xs) up more)
  typed_begun {p} {ts = ts} {rest = rest} (suffix {a = a} {g = g} {h = h} {us = us} coerced x q (then_ (sign {t = t} {rest = vs} e) xs)) quiet up more =
      let le = parts_higher xs in
      typed_begun x q (omega arith) (again_goes read limit given_read goes_typed typed_suffix (spot_of ts) coerced a p g h us rest (rw e refl) (rw e refl) refl q (then_ (sign e) xs) up more)
  typed_begun (row (of_type r) xs) w up more = elim r [ ]
  typed_begun (row (of_pat r) xs) w up more = elim r [ ]
  typed_begun (row (of_exp r) xs) w up more = elim r [ ]
  typed_begun (row (of_mod r) xs) w up more = elim r [ ]
  typed_begun (far e x q) w up more = elim e [ ]

  types_stop : (p : Ending) (h : ℕ) (ts rest : List Token) → behind_typed p.1 rest ≡ false → (k : ℕ) → limit ≤ k + h → Gets (limit < h) (again_at read limit goes_typed typed_suffix (spot_of ts) k p h rest) (p, h, rest)
  types_stop p h ts rest w k turns =
      let a = or_false_right (behind_updated p.1 rest) _ (or_false_left _ _ w) in
      let b = or_false_right (behind_updated p.1 rest || starts fixed.Colon rest) _ w in
      again_stops read limit given_read goes_typed typed_suffix (spot_of ts) p h rest (rw (a, b) refl) k turns

  whole_begun : {p : Ending} {h : ℕ} {ts rest : List Token} → Spells Typed p h ts rest → behind_typed p.1 rest ≡ false → Begun h ts (typed_behind read limit (spot_of ts)) (p, h, rest)
  whole_begun {p} {h} {ts} {rest} x w = typed_begun x (or_false_left _ _ (or_false_left _ _ w)) (omega arith) (types_stop p h ts rest w)

  pub typed_gets : {p : Ending} {h : ℕ} {ts rest : List Token} → Spells Typed p h ts rest → behind_typed p.1 rest ≡ false → Gets (limit < h) (typed_at read limit ts) (p, h, rest)
  unfolding typed_at
  typed_gets {p} {h} {ts} {rest} x w = go (whole_begun x w)
    where
      go : Begun h ts (typed_behind read limit (spot_of ts)) (p, h, rest) → Gets (limit < h) (chain_at read limit 1 ts >>= λ a. typed_behind read limit (spot_of ts) a.0 a.1 a.2) (p, h, rest)
      go (begun_by a g us y q le z) = then_gets _ (as_part (chain_gets 1 y q) le) z

  range_begins : {p : Ending} {h : ℕ} {ts rest : List Token} → Spells Range p h ts rest → begins_operand ts ≡ true
  range_begins (pass chain x) = chain_begins x
  range_begins (suffix range_to x q xs) = chain_begins x
  range_begins (suffix range_by x q xs) = chain_begins x
  range_begins (row (of_type r) xs) = elim r [ ]
  range_begins (row (of_pat r) xs) = elim r [ ]
  range_begins (row (of_exp r) xs) = elim r [ ]
  range_begins (row (of_mod r) xs) = elim r [ ]
  range_begins (far e x q) = elim e [ ]

  updated_begins : {p : Ending} {h : ℕ} {ts rest : List Token} → Spells Updated p h ts rest → begins_operand ts ≡ true
  updated_begins (pass range x) = range_begins x
  updated_begins (suffix with_index x q xs) = updated_begins x
  updated_begins (suffix with_field x q xs) = updated_begins x
  updated_begins (suffix with_path x q xs) = updated_begins x
  updated_begins (row (of_type r) xs) = elim r [ ]
  updated_begins (row (of_pat r) xs) = elim r [ ]
  updated_begins (row (of_exp r) xs) = elim r [ ]
  updated_begins (row (of_mod r) xs) = elim r [ ]
  updated_begins (far e x q) = elim e [ ]

  typed_begins : {p : Ending} {h : ℕ} {ts rest : List Token} → Spells Typed p h ts rest → begins_operand ts ≡ true
  typed_begins (pass updated x) = updated_begins x
  typed_begins (suffix ascribed x q xs) = typed_begins x
  typed_begins (suffix coerced x q xs) = typed_begins x
  typed_begins (row (of_type r) xs) = elim r [ ]
  typed_begins (row (of_pat r) xs) = elim r [ ]
  typed_begins (row (of_exp r) xs) = elim r [ ]
  typed_begins (row (of_mod r) xs) = elim r [ ]
  typed_begins (far e x q) = elim e [ ]

  -- rows of lets, and what begins with a keyword
  row_gets_of : (k : ℕ) {bs : List (Tree Let_item)} {g h : ℕ} {ts rest : List Token} → Lets bs g h ts rest → length ts ≤ k → Gets (limit < suc h) (row_of_lets read limit k g ts) (bs, h, rest)
  unfolding row_of_lets
  row_gets_of zero (last_let x e n) le = let i = phrase_shorter x in absurd (omega arith)
  row_gets_of zero (next_let x e xs) le = let i = phrase_shorter x in absurd (omega arith)
  row_gets_of zero (in_let x e f xs) le = let i = phrase_shorter x in absurd (omega arith)
  row_gets_of (suc k) (last_let {t = t} {us = us} x e n) le = then_gets _ (as_part (in_node read limit given_read refl x) (omega arith)) (when_false (starts fixed.KeyLet (t ∷ us)) _ (rw e refl) (then_gets _ (expect_gets _ _ e) (when_false (starts fixed.KeyLet us) _ n gets)))
  row_gets_of (suc k) (next_let {t = t} {us = us} x e xs) le = let i = phrase_shorter x in let up = lets_higher xs in then_gets _ (as_part (in_node read limit given_read refl x) (omega arith)) (when_true (starts fixed.KeyLet (t ∷ us)) _ (rw e refl) (then_gets _ (row_gets_of k xs (omega arith)) gets))
  row_gets_of (suc k) (in_let {s = s} {t = t} {us = us} x e f xs) le = let i = phrase_shorter x in let up = lets_higher xs in then_gets _ (as_part (in_node read limit given_read refl x) (omega arith)) (when_false (starts fixed.KeyLet (s ∷ t ∷ us)) _ (rw e refl) (then_gets _ (expect_gets _ _ e) (when_true (starts fixed.KeyLet (t ∷ us)) _ (rw f refl) (then_gets _ (row_gets_of k xs (omega arith)) gets))))

  form_gets : {p : Ending} {h : ℕ} {ts rest : List Token} → Spells Big p h ts rest → starts fixed.KeyLet ts ≡ false → Gets (limit < h) (form_at read limit ts) (p, h, rest)
  unfolding form_at
  form_gets {ts = ts} (row (of_exp if_else) (then_ (sign e) xs)) n = when_true (starts fixed.KeyIf ts) _ (rw e refl) (node_row read limit given_read (of_exp if_else) refl (then_ (sign e) xs))
  form_gets {ts = ts} (row (of_exp function) (then_ (sign e) xs)) n = when_false (starts fixed.KeyIf ts) _ (rw e refl) (when_true (starts fixed.Backslash ts) _ (rw e refl) (node_row read limit given_read (of_exp function) refl (then_ (sign e) xs)))
  form_gets {ts = ts} (row (of_exp loop) (then_ (sign e) xs)) n = when_false (starts fixed.KeyIf ts) _ (rw e refl) (when_false (starts fixed.Backslash ts) _ (rw e refl) (node_row read limit given_read (of_exp loop) refl (then_ (sign e) xs)))
  form_gets {ts = ts} (lets e xs b) n = let i : starts fixed.KeyLet ts ≡ true = rw e refl in absurd cc
  form_gets (row (of_type r) xs) n = elim r [ ]
  form_gets (row (of_pat r) xs) n = elim r [ ]
  form_gets (row (of_mod r) xs) n = elim r [ ]
  form_gets (suffix s x q xs) n = elim s [ ]
  form_gets (pass e x) n = elim e [ ]
  form_gets (far e x q) n = elim e [ ]

  big_no_operand : {p : Ending} {h : ℕ} {ts rest : List Token} → Spells Big p h ts rest → begins_operand ts ≡ false
  big_no_operand (row (of_exp if_else) (then_ (sign e) xs)) = rw e refl
  big_no_operand (row (of_exp function) (then_ (sign e) xs)) = rw e refl
  big_no_operand (row (of_exp loop) (then_ (sign e) xs)) = rw e refl
  big_no_operand (lets e xs b) = rw e refl
  big_no_operand (row (of_type r) xs) = elim r [ ]
  big_no_operand (row (of_pat r) xs) = elim r [ ]
  big_no_operand (row (of_mod r) xs) = elim r [ ]
  big_no_operand (suffix s x q xs) = elim s [ ]
  big_no_operand (pass e x) = elim e [ ]
  big_no_operand (far e x q) = elim e [ ]

  body_of : {p : Ending} {h : ℕ} {ts rest : List Token} → starts fixed.KeyLet ts ≡ false → Spells Last p h ts rest → behind_typed p.1 rest ≡ false → Gets (limit < h) (body_at read limit ts) (p, h, rest)
  unfolding body_at
  body_of {ts = ts} n (pass typed x) w = when_true (begins_operand ts) _ (typed_begins x) (typed_gets x w)
  body_of {ts = ts} n (pass big x) w = when_false (begins_operand ts) _ (big_no_operand x) (form_gets x n)
  body_of n (row (of_type r) xs) w = elim r [ ]
  body_of n (row (of_pat r) xs) w = elim r [ ]
  body_of n (row (of_exp r) xs) w = elim r [ ]
  body_of n (row (of_mod r) xs) w = elim r [ ]
  body_of n (suffix s x q xs) w = elim s [ ]
  body_of n (far e x q) w = elim e [ ]

  body_gets : {p : Ending} {h : ℕ} {ts rest : List Token} → Spells Body p h ts rest → behind_typed p.1 rest ≡ false → Gets (limit < h) (body_at read limit ts) (p, h, rest)
  body_gets (body n x) w = body_of n x w
  body_gets (row (of_type r) xs) w = elim r [ ]
  body_gets (row (of_pat r) xs) w = elim r [ ]
  body_gets (row (of_exp r) xs) w = elim r [ ]
  body_gets (row (of_mod r) xs) w = elim r [ ]
  body_gets (suffix s x q xs) w = elim s [ ]
  body_gets (pass e x) w = elim e [ ]
  body_gets (far e x q) w = elim e [ ]

  pub big_gets : {p : Ending} {h : ℕ} {ts rest : List Token} → Spells Big p h ts rest → behind_typed p.1 rest ≡ false → Gets (limit < h) (big_at read limit ts) (p, h, rest)
  unfolding big_at lets_at
  big_gets {ts = ts} (row (of_exp if_else) (then_ (sign e) xs)) w = when_false (starts fixed.KeyLet ts) _ (rw e refl) (form_gets (row (of_exp if_else) (then_ (sign e) xs)) (rw e refl))
  big_gets {ts = ts} (row (of_exp function) (then_ (sign e) xs)) w = when_false (starts fixed.KeyLet ts) _ (rw e refl) (form_gets (row (of_exp function) (then_ (sign e) xs)) (rw e refl))
  big_gets {ts = ts} (row (of_exp loop) (then_ (sign e) xs)) w = when_false (starts fixed.KeyLet ts) _ (rw e refl) (form_gets (row (of_exp loop) (then_ (sign e) xs)) (rw e refl))
  big_gets {ts = ts} (lets {t = t} {ts = us} e xs b) w = when_true (starts fixed.KeyLet ts) _ (rw e refl) (then_gets _ (as_part (row_gets_of (length (t ∷ us)) xs (omega arith)) (omega arith)) (then_gets _ (as_part (body_gets b w) (omega arith)) gets))
  big_gets (row (of_type r) xs) w = elim r [ ]
  big_gets (row (of_pat r) xs) w = elim r [ ]
  big_gets (row (of_mod r) xs) w = elim r [ ]
  big_gets (suffix s x q xs) w = elim s [ ]
  big_gets (pass e x) w = elim e [ ]
  big_gets (far e x q) w = elim e [ ]

  pub last_gets : {p : Ending} {h : ℕ} {ts rest : List Token} → Spells Last p h ts rest → behind_typed p.1 rest ≡ false → Gets (limit < h) (last_at read limit ts) (p, h, rest)
  unfolding last_at
  last_gets {ts = ts} (pass typed x) w = when_true (begins_operand ts) _ (typed_begins x) (typed_gets x w)
  last_gets {ts = ts} (pass big x) w = when_false (begins_operand ts) _ (big_no_operand x) (big_gets x w)
  last_gets (row (of_type r) xs) w = elim r [ ]
  last_gets (row (of_pat r) xs) w = elim r [ ]
  last_gets (row (of_exp r) xs) w = elim r [ ]
  last_gets (row (of_mod r) xs) w = elim r [ ]
  last_gets (suffix s x q xs) w = elim s [ ]
  last_gets (far e x q) w = elim e [ ]

  -- expressions that nothing goes on with
  pub whole_gets : {p : SourceExp} {h : ℕ} {ts rest : List Token} → Spells Whole p h ts rest → Gets (limit < h) (whole_at read limit ts) (p, h, rest)
  unfolding whole_at
  whole_gets (far whole x q) = far_gets whole q (last_gets x q)
  whole_gets (row (of_type r) xs) = elim r [ ]
  whole_gets (row (of_pat r) xs) = elim r [ ]
  whole_gets (row (of_exp r) xs) = elim r [ ]
  whole_gets (row (of_mod r) xs) = elim r [ ]
  whole_gets (suffix s x q xs) = elim s [ ]
  whole_gets (pass e x) = elim e [ ]

  pub operands_gets : (k : ℕ) {p : SourceExp} {h : ℕ} {ts rest : List Token} → Spells (Operands k) p h ts rest → Gets (limit < h) (operands_at read limit k ts) (p, h, rest)
  unfolding operands_at
  operands_gets k (far operands x q) = far_gets (operands {k = k}) q (chain_gets k x q)
  operands_gets k (row (of_type r) xs) = elim r [ ]
  operands_gets k (row (of_pat r) xs) = elim r [ ]
  operands_gets k (row (of_exp r) xs) = elim r [ ]
  operands_gets k (row (of_mod r) xs) = elim r [ ]
  operands_gets k (suffix s x q xs) = elim s [ ]
  operands_gets k (pass e x) = elim e [ ]

  pub operand_gets : (k : ℕ) {p : SourceExp} {h : ℕ} {ts rest : List Token} → Spells (Operand k) p h ts rest → Gets (limit < h) (operand_at read limit k ts) (p, h, rest)
  unfolding operand_at
  operand_gets k {ts = ts} (far near_operand x q) = when_true (begins_operand ts) _ (chain_begins x) (far_gets (near_operand {k = k}) q (chain_gets k x q))
  operand_gets k {ts = ts} (far far_operand x q) = when_false (begins_operand ts) _ (big_no_operand x) (far_gets (far_operand {k = k}) q (big_gets x q))
  operand_gets k (row (of_type r) xs) = elim r [ ]
  operand_gets k (row (of_pat r) xs) = elim r [ ]
  operand_gets k (row (of_exp r) xs) = elim r [ ]
  operand_gets k (row (of_mod r) xs) = elim r [ ]
  operand_gets k (suffix s x q xs) = elim s [ ]
  operand_gets k (pass e x) = elim e [ ]

  pub right_gets : {p : SourceExp} {h : ℕ} {ts rest : List Token} → Spells Right p h ts rest → Gets (limit < h) (right_at read limit ts) (p, h, rest)
  unfolding right_at
  right_gets {ts = ts} (far near_right x q) = when_true (begins_operand ts) _ (range_begins x) (far_gets near_right q (range_gets x q))
  right_gets {ts = ts} (far far_right x q) = when_false (begins_operand ts) _ (big_no_operand x) (far_gets far_right q (big_gets x q))
  right_gets (row (of_type r) xs) = elim r [ ]
  right_gets (row (of_pat r) xs) = elim r [ ]
  right_gets (row (of_exp r) xs) = elim r [ ]
  right_gets (row (of_mod r) xs) = elim r [ ]
  right_gets (suffix s x q xs) = elim s [ ]
  right_gets (pass e x) = elim e [ ]

  pub replacing_gets : {p : Tree Replacing} {h : ℕ} {ts rest : List Token} → Spells Replacing p h ts rest → Gets (limit < h) (replacing_at read limit ts) (p, h, rest)
  unfolding replacing_at
  replacing_gets {ts = ts} (row (of_exp last_replaced) (then_ (word w) (then_ (sign e) xs))) = when_false (starts fixed.Dot (tail ts)) _ (rw e refl) (node_row read limit given_read (of_exp last_replaced) refl (then_ (word w) (then_ (sign e) xs)))
  replacing_gets {ts = ts} (row (of_exp further_replaced) (then_ (word w) (then_ (look c) (then_ (sign e) xs)))) = when_true (starts fixed.Dot (tail ts)) _ (rw e refl) (node_row read limit given_read (of_exp further_replaced) refl (then_ (word w) (then_ (look c) (then_ (sign e) xs))))
  replacing_gets (row (of_type r) xs) = elim r [ ]
  replacing_gets (row (of_pat r) xs) = elim r [ ]
  replacing_gets (row (of_mod r) xs) = elim r [ ]
  replacing_gets (suffix s x q xs) = elim s [ ]
  replacing_gets (pass e x) = elim e [ ]
  replacing_gets (far e x q) = elim e [ ]

  -- first in parentheses
  inside_whole_gets : (ts : List Token) {p : Ending} {h : ℕ} {rest : List Token} {r : Read Ending} → begins Whole ts ≡ true → behind_typed p.1 rest ≡ false → Gets (limit < h) r (p, h, rest) → Gets (limit < h) (inside_whole read limit ts r) ((p.0, None), h, rest)
  unfolding inside_whole
  inside_whole_gets ts {rest = rest} b q y = then_gets _ (bounded_gets Whole ts rest b refl (far_gets whole q y)) gets

  inside_begun : {p : Ending} {h : ℕ} {ts rest : List Token} → begins Whole ts ≡ true → behind_typed p.1 rest ≡ false → Begun h ts (typed_behind read limit (spot_of ts)) (p, h, rest) → Gets (limit < h) (graded_at read limit true 1 ts >>= λ a. by_operator (fitting_from a.0.1 (section_at a.2)) (inside_whole read limit ts (typed_behind read limit (spot_of ts) a.0 a.1 a.2)) (λ o. inside_operand read limit o a.0 a.1 ts a.2)) ((p.0, None), h, rest)
  inside_begun {ts = ts} b w (begun_by a g us y q le z) =
      let s = quiet 1 a.1 us (chain_ended y).0 q in
      then_gets _ (as_part (graded_gets true 1 y (omega arith) s.0 (between_none true a.1 1 us s.1)) le) (by_none (fitting_from a.1 (section_at us)) _ (section_fits a.1 us s.1) (inside_whole_gets ts b w z))

  no_operand_gets : {p : Ending} {h : ℕ} {ts rest : List Token} → begins Whole ts ≡ true → behind_typed p.1 rest ≡ false → Spells Last p h ts rest → Gets (limit < h) (inside_at read limit ts) ((p.0, None), h, rest)
  unfolding inside_at
  no_operand_gets {ts = ts} b q (pass typed x) = when_true (begins_operand ts) _ (typed_begins x) (inside_begun b q (whole_begun x q))
  no_operand_gets {ts = ts} b q (pass big x) = when_false (begins_operand ts) _ (big_no_operand x) (inside_whole_gets ts b q (big_gets x q))
  no_operand_gets b q (row (of_type r) xs) = elim r [ ]
  no_operand_gets b q (row (of_pat r) xs) = elim r [ ]
  no_operand_gets b q (row (of_exp r) xs) = elim r [ ]
  no_operand_gets b q (row (of_mod r) xs) = elim r [ ]
  no_operand_gets b q (suffix s x z xs) = elim s [ ]
  no_operand_gets b q (far e x z) = elim e [ ]

  whole_inside : {p : SourceExp} {h : ℕ} {ts rest : List Token} → begins Whole ts ≡ true → Spells Whole p h ts rest → Gets (limit < h) (inside_at read limit ts) ((p, None), h, rest)
  whole_inside b (far whole x q) = no_operand_gets b q x
  whole_inside b (row (of_type r) xs) = elim r [ ]
  whole_inside b (row (of_pat r) xs) = elim r [ ]
  whole_inside b (row (of_exp r) xs) = elim r [ ]
  whole_inside b (row (of_mod r) xs) = elim r [ ]
  whole_inside b (suffix s x q xs) = elim s [ ]
  whole_inside b (pass e x) = elim e [ ]

  operand_inside : {o : Fixed} {p : SourceExp} {h : ℕ} {ts rest : List Token} → section_at rest ≡ Some o → begins_operand ts ≡ true → Spells (Operands (suc (level o))) p h ts rest → Gets (limit < h) (inside_at read limit ts) ((p, Some o), h, rest)
  unfolding inside_at inside_operand
  operand_inside {o} {ts = ts} {rest = rest} s b (far {p = a} operands x q) =
      let ended_by = chain_ended x in
      let z = quiet (suc (level o)) a.1 rest ended_by.0 q in
      let left = ended_by.1 (left_level o) (left_between o).1 in
      let above = ended_by.1 (suc (level o)) (omega arith) in
      when_true (begins_operand ts) _ b (then_gets _ (graded_gets true 1 x (omega arith) z.0 (rw s refl))
      (by_some (fitting_from a.1 (section_at rest)) o _ _ (rw (s, left) refl) (when_true (fits a.1 (suc (level o))) _ above (then_gets _ (bounded_gets (Operands (suc (level o))) ts rest b refl (far_gets operands q gets)) gets))))
  operand_inside s b (row (of_type r) xs) = elim r [ ]
  operand_inside s b (row (of_pat r) xs) = elim r [ ]
  operand_inside s b (row (of_exp r) xs) = elim r [ ]
  operand_inside s b (row (of_mod r) xs) = elim r [ ]
  operand_inside s b (suffix t x q xs) = elim t [ ]
  operand_inside s b (pass e x) = elim e [ ]

  pub inside_gets : {v : Tree Inside} {h : ℕ} {ts rest : List Token} → Spells Inside v h ts rest → Gets (limit < h) (inside_at read limit ts) (v, h, rest)
  inside_gets (no_operand (phrase b x q)) = whole_inside b x
  inside_gets (an_operand s (phrase b x q)) = operand_inside s b x
  inside_gets (row (of_type r) xs) = elim r [ ]
  inside_gets (row (of_pat r) xs) = elim r [ ]
  inside_gets (row (of_exp r) xs) = elim r [ ]
  inside_gets (row (of_mod r) xs) = elim r [ ]
  inside_gets (suffix s x q xs) = elim s [ ]
  inside_gets (pass e x) = elim e [ ]
  inside_gets (far e x q) = elim e [ ]
