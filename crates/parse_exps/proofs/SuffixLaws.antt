-- What stands behind an expression as a suffix of it, and what a field inside is replaced by.
use Rattle.std.proofs.Common.{◌≡◌, ℕ, suc, max, Bool, true, false, cond, ◌||◌, List, [], ◌∷◌, length, Some, Result, Ok, Err, nat_lt, refl}
use Rattle.std.proofs.Math.Nat.{zero-max}
use Rattle.std.proofs.lemmas.Bool.{ltb-true}
use Rattle.fut_token.specs.declared.token.Fixed.{Fixed}
use Rattle.fut_token.specs.declared.token.Fixed.TheVariants as fixed
use Rattle.fut_token.specs.declared.token.Token.{Token}
use Rattle.fut_ast.specs.Behind.{behind_app, behind_chain, behind_range, behind_updated, begins_argument, goes_on, goes_range}
use Rattle.fut_ast.specs.ExpRows.{further_replaced, last_replaced}
use Rattle.fut_ast.specs.Nodes.{exp_at, joined, node, replaced}
use Rattle.fut_ast.specs.Operators.{right_level}
use Rattle.fut_ast.specs.Parts.{Part, Operator, Sign, Sub, Builds, Value, without}
use Rattle.fut_ast.specs.Rows.{Suffix, of_exp, suffix_parts, suffix_tree}
use Rattle.fut_ast.specs.Sorts.{Sort, Tree, Ending, SourceExp, App, Atom, Chain, Operand, Range, Replacing, Right, Typed, Updated, Whole_type}
use Rattle.fut_ast.specs.Tokens.{spot_of, starts, tail}
use Rattle.fut_ast.specs.declared.exp.Form.TheVariants as form
use Rattle.fut_ast.specs.declared.node.Ended.TheVariants as ending
use Rattle.fut_ast.specs.declared.node.Spot.{Spot}
use Rattle.fut_ast.specs.declared.node.What.TheVariants as what
use Rattle.parse_exps.specs.Replaced.{replaced_at, unraised_at}
use Rattle.fut_grammar.specs.declared.fault.Fault.{Fault}
use Rattle.fut_grammar.specs.declared.fault.Fault.TheVariants.{TooDeep}
use Rattle.fut_grammar.specs.Phrases.{goes_typed, once_at, operand_too_deep, operation_at, range_behind, replacing_at, typed_suffix, with_suffix}
use Rattle.fut_grammar.specs.Reading.{◌>>=◌, Read, argument_at, expect, has_at, look_at, parts_at, refuse, row_at, sub_at, suffix_at, word_at}
use Rattle.fut_grammar.proofs.Bools.{or_false_left}
use Rattle.parse_types.proofs.ReadLaws.{above, below}
use Rattle.parse_atoms.proofs.SuffixLaws.{is_low, suffix_free, suffix_full}

-- by the outcome of reading, and of a test
by_read : {A C : Type 0} (r : Result A Fault) → ((y : A) → r ≡ Ok y → C) → ((f : Fault) → r ≡ Err f → C) → C
by_read (Ok y) reads fails = reads y refl
by_read (Err f) reads fails = fails f refl

by_test : {C : Type 0} (b : Bool) → (b ≡ true → C) → (b ≡ false → C) → C
by_test true holds fails = holds refl
by_test false holds fails = fails refl

-- what is tighter than an update, and than a type
pub update_tighter : (ts : List Token) (a : Ending) → goes_on (with_suffix ts) a ts ≡ behind_range a.1 ts
update_tighter ts a = go (starts fixed.OpenBracket (tail ts)) (starts fixed.Dot (tail (tail ts)))
  where
    go : (b c : Bool) → goes_on {n = Updated} {m = Updated} (cond b Suffix.with_index (cond c Suffix.with_path Suffix.with_field)) a ts ≡ behind_range a.1 ts
    go true c = refl
    go false true = refl
    go false false = refl

pub type_tighter : (ts : List Token) (a : Ending) → goes_on (typed_suffix ts) a ts ≡ behind_updated a.1 ts
type_tighter ts a = go (starts fixed.Colon ts)
  where
    go : (b : Bool) → goes_on {n = Typed} {m = Typed} (cond b Suffix.ascribed Suffix.coerced) a ts ≡ behind_updated a.1 ts
    go true = refl
    go false = refl

module _ (read : (n : Sort) → List Token → Read (Tree n)) where
  -- a sign and a phrase
  module _ (n m : Sort) (sign : Fixed) (made : Tree m → Tree n) (h : ℕ) (ts : List Token) where
    pub behind_sign : starts sign ts ≡ true → parts_at read true n (Sign sign ∷ Sub m ∷ []) (λ at y. made y) h ts ≡ (read m (tail ts) >>= λ y. Ok (made y.0, suc (max h y.1), y.2))
    unfolding parts_at has_at sub_at expect
    behind_sign begun =
        by_read (read m (tail ts)) (λ y phrase. rw (begun, phrase) refl) (λ f phrase. rw (begun, phrase) refl)

  module _ (d : ℕ) (from : Spot) (h : ℕ) (ts : List Token) where
    -- an argument
    pub argument_parts : (e : SourceExp) → begins_argument ts ≡ true → parts_at read true App (suffix_parts Suffix.applied) (suffix_tree Suffix.applied from (spot_of ts) e) h ts ≡ (read Atom ts >>= λ y. Ok (exp_at from.place (form.Apply e y.0), suc (max h y.1), y.2))
    unfolding parts_at has_at argument_at sub_at
    argument_parts e begun = by_read (read Atom ts) (λ y phrase. rw (begun, phrase) refl) (λ f phrase. rw (begun, phrase) refl)

    module _ (a : Ending) where
      -- an operator
      pub operation_full : (k : ℕ) (o : Fixed) → (behind_app ts || nat_lt d h) ≡ true → operation_at read (suc d) k o from a h ts ≡ cond {A = Read Ending} (behind_app ts) (Err (refuse ts)) (operand_too_deep read (suc d) o ts)
      unfolding operation_at
      operation_full k o full = go (behind_app ts) (nat_lt d h) refl full
        where
          go : (b c : Bool) → nat_lt d h ≡ c → (b || c) ≡ true → cond {A = Read Ending} b (Err (refuse ts)) (cond {A = Read Ending} (nat_lt h (suc d)) (parts_at read true (Chain k) (Operator o ∷ Sub (Operand (right_level o)) ∷ []) (λ op b. (joined o from.place op.0.place op.1 a.0 b, ending.Operands (Some o))) h ts) (operand_too_deep read (suc d) o ts)) ≡ cond {A = Read Ending} b (Err (refuse ts)) (operand_too_deep read (suc d) o ts)
          go true c high full = refl
          go false true high full = rw (above (ltb-true d h high)) refl
          go false false high full = absurd cc

      pub operation_free : (k : ℕ) (o : Fixed) → (behind_app ts || nat_lt d h) ≡ false → operation_at read (suc d) k o from a h ts ≡ parts_at read true (Chain k) (Operator o ∷ Sub (Operand (right_level o)) ∷ []) (λ op b. (joined o from.place op.0.place op.1 a.0 b, ending.Operands (Some o))) h ts
      unfolding operation_at
      operation_free k o free = rw (or_false_left (behind_app ts) (nat_lt d h) free, below (is_low (behind_app ts) free)) refl

      -- the end of a range
      first_false : (b c e g : Bool) → (b || c || e || g) ≡ false → b ≡ false
      first_false true c e g none = absurd cc
      first_false false c e g none = refl

      pub no_range : goes_range ts ≡ false → range_behind read (suc d) from a h ts ≡ Ok (a, h, ts)
      unfolding range_behind once_at
      no_range none = go (starts fixed.DotDot ts) (goes_range ts) (first_false (starts fixed.DotDot ts) (starts fixed.DotDotLess ts) (starts fixed.DotDotGreater ts) (starts fixed.DotDotDot ts) none) none
        where
          go : (b c : Bool) → b ≡ false → c ≡ false → cond b (suffix_at read Suffix.range_by (suc d) from a h ts) (cond c (suffix_at read Suffix.range_to (suc d) from a h ts) (Ok (a, h, ts))) ≡ Ok (a, h, ts)
          go true c e g = absurd cc
          go false true e g = absurd cc
          go false false e g = refl

      pub range_full : goes_range ts ≡ true → (behind_chain 1 a.1 ts || nat_lt d h) ≡ true → range_behind read (suc d) from a h ts ≡ Err (cond (behind_chain 1 a.1 ts) (refuse ts) (TooDeep (length ts)))
      unfolding range_behind once_at
      range_full begun full = go (starts fixed.DotDot ts) (goes_range ts) begun
        where
          go : (b c : Bool) → c ≡ true → cond b (suffix_at read Suffix.range_by (suc d) from a h ts) (cond c (suffix_at read Suffix.range_to (suc d) from a h ts) (Ok (a, h, ts))) ≡ Err (cond (behind_chain 1 a.1 ts) (refuse ts) (TooDeep (length ts)))
          go true c g = suffix_full read Suffix.range_by d from a h ts full
          go false true g = suffix_full read Suffix.range_to d from a h ts full
          go false false g = absurd cc

      pub range_by_step : starts fixed.DotDot ts ≡ true → (behind_chain 1 a.1 ts || nat_lt d h) ≡ false → range_behind read (suc d) from a h ts ≡ parts_at read true Range (suffix_parts Suffix.range_by) (suffix_tree Suffix.range_by from (spot_of ts) a) h ts
      unfolding range_behind
      range_by_step dots free = rw dots (suffix_free read Suffix.range_by d from a h ts free)

      pub range_to_end : goes_range ts ≡ true → starts fixed.DotDot ts ≡ false → (behind_chain 1 a.1 ts || nat_lt d h) ≡ false → range_behind read (suc d) from a h ts ≡ parts_at read true Range (suffix_parts Suffix.range_to) (suffix_tree Suffix.range_to from (spot_of ts) a) h ts
      unfolding range_behind once_at
      range_to_end begun dots free = go (starts fixed.DotDot ts) (goes_range ts) dots begun
        where
          go : (b c : Bool) → b ≡ false → c ≡ true → cond b (suffix_at read Suffix.range_by (suc d) from a h ts) (cond c (suffix_at read Suffix.range_to (suc d) from a h ts) (Ok (a, h, ts))) ≡ parts_at read true Range (suffix_parts Suffix.range_to) (suffix_tree Suffix.range_to from (spot_of ts) a) h ts
          go true c e g = absurd cc
          go false true e g = suffix_free read Suffix.range_to d from a h ts free
          go false false e g = absurd cc

      -- a type
      pub type_parts : goes_typed ts ≡ true → parts_at read true Typed (suffix_parts (typed_suffix ts)) (suffix_tree (typed_suffix ts) from (spot_of ts) a) h ts ≡ (read Whole_type (tail ts) >>= λ y. Ok ((cond (starts fixed.Colon ts) (exp_at from.place (form.Ascribe a.0 y.0)) (node from.place (spot_of ts).place (form.Coerce a.0 y.0)), ending.Type), suc (max h y.1), y.2))
      type_parts begun = go (starts fixed.Colon ts) (starts fixed.ColonGreater ts) refl refl begun
        where
          chosen : Bool → Suffix Typed Typed
          chosen b = cond b Suffix.ascribed Suffix.coerced

          go : (b c : Bool) → starts fixed.Colon ts ≡ b → starts fixed.ColonGreater ts ≡ c → (b || c) ≡ true → parts_at read true Typed (suffix_parts (chosen b)) (suffix_tree (chosen b) from (spot_of ts) a) h ts ≡ (read Whole_type (tail ts) >>= λ y. Ok ((cond b (exp_at from.place (form.Ascribe a.0 y.0)) (node from.place (spot_of ts).place (form.Coerce a.0 y.0)), ending.Type), suc (max h y.1), y.2))
          go true c e g one = behind_sign Typed Whole_type fixed.Colon (λ t. (exp_at from.place (form.Ascribe a.0 t), ending.Type)) h ts e
          go false true e g one = behind_sign Typed Whole_type fixed.ColonGreater (λ t. (node from.place (spot_of ts).place (form.Coerce a.0 t), ending.Type)) h ts g
          go false false e g one = absurd cc

      -- an update
      abbrev on_record : Read (Tree Replacing) → Read Ending
      on_record r = r >>= λ y. Ok ((replaced from.place a.0 y.0.0 y.0.1, ending.Update), suc (max h y.1), y.2)

      field_parts : starts fixed.KeyWith ts ≡ true → parts_at read true Updated (suffix_parts Suffix.with_field) (suffix_tree Suffix.with_field from (spot_of ts) a) h ts ≡ on_record (unraised_at read last_replaced (tail ts))
      unfolding parts_at has_at sub_at expect
      field_parts begun =
          by_read (word_at (tail ts))
          (λ x word. by_test (starts fixed.Equal x.1)
          (λ equal. by_read (read Right (tail x.1)) (λ y value. rw (begun, word, equal, value, zero-max y.1) refl) (λ f value. rw (begun, word, equal, value) refl))
          (λ equal. rw (begun, word, equal) refl))
          (λ f word. rw (begun, word) refl)

      path_parts : starts fixed.KeyWith ts ≡ true → parts_at read true Updated (suffix_parts Suffix.with_path) (suffix_tree Suffix.with_path from (spot_of ts) a) h ts ≡ on_record (unraised_at read further_replaced (tail ts))
      unfolding parts_at has_at sub_at expect
      path_parts begun =
          by_read (word_at (tail ts))
          (λ x word. by_read (look_at (without what.LocalOpen) x.1)
          (λ u look. by_test (starts fixed.Dot x.1)
          (λ dot. by_read (read Replacing (tail x.1)) (λ y value. rw (begun, word, look, dot, value, zero-max y.1) refl) (λ f value. rw (begun, word, look, dot, value) refl))
          (λ dot. rw (begun, word, look, dot) refl))
          (λ f look. rw (begun, word, look) refl))
          (λ f word. rw (begun, word) refl)

      pub record_parts : starts fixed.KeyWith ts ≡ true → starts fixed.OpenBracket (tail ts) ≡ false → parts_at read true Updated (suffix_parts (with_suffix ts)) (suffix_tree (with_suffix ts) from (spot_of ts) a) h ts ≡ on_record (replaced_at read (tail ts))
      record_parts begun bracket = go (starts fixed.OpenBracket (tail ts)) (starts fixed.Dot (tail (tail ts))) bracket
        where
          chosen : Bool → Bool → Suffix Updated Updated
          chosen b c = cond b Suffix.with_index (cond c Suffix.with_path Suffix.with_field)

          go : (b c : Bool) → b ≡ false → parts_at read true Updated (suffix_parts (chosen b c)) (suffix_tree (chosen b c) from (spot_of ts) a) h ts ≡ on_record (cond c (unraised_at read further_replaced (tail ts)) (unraised_at read last_replaced (tail ts)))
          go true c e = absurd cc
          go false true e = path_parts begun
          go false false e = field_parts begun

  -- a node on top of a production
  raised : (n : Sort) (ps : List Part) (b : Builds ps n) (h : ℕ) (ts : List Token) → parts_at read true n ps b h ts ≡ (parts_at read false n ps b h ts >>= λ y. Ok (y.0, suc y.1, y.2))
  unfolding parts_at
  raised n [] b h ts = refl
  raised n (q ∷ ps) b h ts = go (has_at read q h ts) (λ y. raised n ps (b y.0) y.1 y.2)
    where
      go : (r : Read (Value q)) → ((y : Value q × ℕ × List Token) → parts_at read true n ps (b y.0) y.1 y.2 ≡ (parts_at read false n ps (b y.0) y.1 y.2 >>= λ z. Ok (z.0, suc z.1, z.2))) → (r >>= λ y. parts_at read true n ps (b y.0) y.1 y.2) ≡ ((r >>= λ y. parts_at read false n ps (b y.0) y.1 y.2) >>= λ y. Ok (y.0, suc y.1, y.2))
      go (Ok y) same = same y
      go (Err f) same = refl

  pub replacing_as : (limit : ℕ) (ts : List Token) → replacing_at read limit ts ≡ (replaced_at read ts >>= λ y. Ok (y.0, suc y.1, y.2))
  unfolding replacing_at row_at
  replacing_as limit ts = go (starts fixed.Dot (tail ts))
    where
      go : (b : Bool) → cond b (row_at read (of_exp further_replaced) ts) (row_at read (of_exp last_replaced) ts) ≡ (cond b (unraised_at read further_replaced ts) (unraised_at read last_replaced ts) >>= λ y. Ok (y.0, suc y.1, y.2))
      go true = raised Replacing _ _ 0 ts
      go false = raised Replacing _ _ 0 ts
