-- What stands behind a phrase as a suffix of it, once and again.
use Rattle.std.proofs.Common.{◌≡◌, ◌≤◌, ◌<◌, ◌-◌, ℕ, suc, Bool, true, false, cond, ◌||◌, List, length, Ok, Err, nat_lt, refl, sym, ap, subst, ◌∙◌}
use Rattle.std.proofs.lemmas.Bool.{ltb-false, ltb-true}
use Rattle.fut_token.specs.declared.token.Fixed.TheVariants as fixed
use Rattle.fut_token.specs.declared.token.Token.{Token}
use Rattle.fut_ast.specs.Behind.{goes_on}
use Rattle.fut_ast.specs.Rows.{Suffix, suffix_parts, suffix_tree}
use Rattle.fut_ast.specs.Sorts.{Sort, Tree, SourceExp, Atom}
use Rattle.fut_ast.specs.Tokens.{spot_of, starts}
use Rattle.fut_ast.specs.declared.node.Spot.{Spot}
use Rattle.fut_grammar.specs.declared.fault.Fault.TheVariants.{TooDeep}
use Rattle.fut_grammar.specs.declared.fault.Stop.{Stop}
use Rattle.fut_grammar.specs.declared.fault.Stop.TheVariants as stop
use Rattle.fut_grammar.specs.Phrases.{again_at, atom_suffix}
use Rattle.fut_grammar.specs.Reading.{Fails, Read, parts_at, refuse, suffix_at}
use Rattle.fut_grammar.proofs.Bools.{or_false_left, or_false_right}
use Rattle.fut_grammar.proofs.Loops.{again_fails, again_turns}
use Rattle.parse_types.proofs.ReadLaws.{above, below}

-- where nothing tighter goes on, and one more node fits on top
pub is_low : (b : Bool) {h d : ℕ} → (b || nat_lt d h) ≡ false → h ≤ d
is_low b {h} {d} free = ltb-false d h (or_false_right b (nat_lt d h) free)

-- what a test of both has shown
pub tested : {r g b v : Bool} (l : Bool) → r ≡ (g || l) → g ≡ b → r ≡ v → (b || l) ≡ v
tested l full same is = ap (λ x. x || l) (sym same) ∙ sym full ∙ is

module _ (read : (n : Sort) → List Token → Read (Tree n)) where
  module _ {n m : Sort} (s : Suffix n m) (d : ℕ) (from : Spot) (a : Tree m) (h : ℕ) (ts : List Token) where
    pub suffix_full : (goes_on s a ts || nat_lt d h) ≡ true → suffix_at read s (suc d) from a h ts ≡ Err (cond (goes_on s a ts) (refuse ts) (TooDeep (length ts)))
    unfolding suffix_at
    suffix_full full = go (goes_on s a ts) (nat_lt d h) refl full
      where
        go : (b c : Bool) → nat_lt d h ≡ c → (b || c) ≡ true → cond {A = Read (Tree n)} b (Err (refuse ts)) (cond {A = Read (Tree n)} (nat_lt h (suc d)) (parts_at read true n (suffix_parts s) (suffix_tree s from (spot_of ts) a) h ts) (Err (TooDeep (length ts)))) ≡ Err (cond b (refuse ts) (TooDeep (length ts)))
        go true c high full = refl
        go false true high full = rw (above (ltb-true d h high)) refl
        go false false high full = absurd cc

    pub suffix_free : (goes_on s a ts || nat_lt d h) ≡ false → suffix_at read s (suc d) from a h ts ≡ parts_at read true n (suffix_parts s) (suffix_tree s from (spot_of ts) a) h ts
    unfolding suffix_at
    suffix_free free = rw (or_false_left (goes_on s a ts) (nat_lt d h) free, below (is_low (goes_on s a ts) free)) refl

  -- one suffix after the other
  module _ (d : ℕ) (n : Sort) (test : List Token → Bool) (choose : List Token → Suffix n n) (from : Spot) (k : ℕ) (a : Tree n) (h : ℕ) (ts : List Token) (total : Read (Tree n)) (so_far : again_at read (suc d) test choose from k a h ts ≡ total) (begun : test ts ≡ true) where
    pub again_full : 0 < k → (goes_on (choose ts) a ts || nat_lt d h) ≡ true → total ≡ Err (cond (goes_on (choose ts) a ts) (refuse ts) (TooDeep (length ts)))
    again_full left full = again_fails read (suc d) n test choose from k a h ts total so_far (stop.Fault (cond (goes_on (choose ts) a ts) (refuse ts) (TooDeep (length ts)))) begun left (suffix_full (choose ts) d from a h ts full)

    module _ (left : 0 < k) (free : (goes_on (choose ts) a ts || nat_lt d h) ≡ false) where
      pub again_longer : (y : Tree n × ℕ × List Token) → parts_at read true n (suffix_parts (choose ts)) (suffix_tree (choose ts) from (spot_of ts) a) h ts ≡ Ok y → again_at read (suc d) test choose from (k - 1) y.0 y.1 y.2 ≡ total
      again_longer y suffix = again_turns read (suc d) n test choose from k a h ts total so_far y begun left (suffix_free (choose ts) d from a h ts free ∙ suffix)

      pub again_stops : (e : Stop) → Fails e (parts_at read true n (suffix_parts (choose ts)) (suffix_tree (choose ts) from (spot_of ts) a) h ts) → Fails e total
      again_stops e failed = again_fails read (suc d) n test choose from k a h ts total so_far e begun left (subst (λ (r : Read (Tree n)). Fails e r) (sym (suffix_free (choose ts) d from a h ts free)) failed)

-- nothing is tighter than an index or a field
pub atom_whole : (ts : List Token) (e : SourceExp) → goes_on (atom_suffix ts) e ts ≡ false
atom_whole ts e = go (starts fixed.OpenBracket ts) (starts fixed.Dot ts)
  where
    go : (b c : Bool) → goes_on {n = Atom} {m = Atom} (cond b Suffix.indexed (cond c Suffix.field_name Suffix.field_digits)) e ts ≡ false
    go true c = refl
    go false true = refl
    go false false = refl
